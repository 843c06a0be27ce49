use Rattle.record_grammar.specs.Rows.{spanned}
use mathlib.Core.Path.{sym}
use Prim.Native.Nat.{◌+◌}
use native.Mathlib.Omega.{arith}
use borrow.Author.Tests.{lt-leb}
use Rattle.record_grammar.proofs.RowLaws.{room}
use Rattle.record_grammar.proofs.rows.is_spanned.Goals as goal

pub returns-then-x-le524288 : goal.returns-then-x-le524288
unfolding spanned
returns-then-x-le524288 c =
    rw (← c.is_within.ensures, c.if-is_within.true)
    (room 524288 _ _ c.if-x-le524288.true)

pub returns-then-is_within : goal.returns-then-is_within
unfolding spanned
returns-then-is_within c =
    let e = c.args.x in
    rw (← c.is_within.ensures, c.if-is_within.true)
    (sym (lt-leb (e.value + e.second) 524288 (omega (arith, c.if-x-le524288.false))))

pub returns : goal.returns
unfolding spanned
returns c = simp (← c.is_within.ensures, c.if-is_within.false)
