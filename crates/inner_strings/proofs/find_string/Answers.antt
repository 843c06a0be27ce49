-- `find_string` meets its contract.
use native.Mathlib.Omega.{arith}
use lib.ListN.{length}
use Rattle.inner_strings.proofs.StringLaws.{near, string_stops, string_ends_behind, string-held}
use Rattle.inner_strings.proofs.find_string.Goals as goal

pub returns-then-behind-ne0 : goal.returns-then-behind-ne0
returns-then-behind-ne0 c = string_stops c.length-l.ensures c.pass-behind.ensures c.if-behind-ne0.true

pub overflow_add-result : goal.overflow_add-result
overflow_add-result c =
    omega (arith, near c.pass-behind.result.at (length c.args.s.now) c.requires c.holds.ensures c.if-holds.true)

pub returns-then-holds : goal.returns-then-holds
returns-then-holds c =
    string-held c.length-l.ensures c.pass-behind.ensures c.if-behind-ne0.false c.holds.ensures c.if-holds.true

pub returns : goal.returns
returns c =
    string_ends_behind c.length-l.ensures c.pass-behind.ensures c.if-behind-ne0.false c.holds.ensures c.if-holds.false c.stop.ensures

pub pass-behind-requires : goal.pass-behind-requires
pass-behind-requires c = omega (arith, c.length-l.ensures.few)
