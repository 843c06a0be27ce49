use mathlib.Core.Path.{◌∙◌}
use native.Mathlib.Omega.{arith}
use lib.ListN.{get_or-eq_default}
use borrow.Author.Rules.{rules}
use Rattle.per.proofs.Laws.{uint-octet}
use Rattle.brief_frames.proofs.HeadLaws.{two_octets}
use Rattle.brief_frames.proofs.reading.sixteen.Goals as goal

-- behind the only octet all bits are 0
pub returns-then-frame-eq1 : goal.returns-then-frame-eq1
returns-then-frame-eq1 c =
    let g = c.type_inv.frame in
    let s = c.args.frame.now in
    two_octets s (uint-octet s 0 (omega (arith, g 0))) (uint-octet s 1 (omega (arith, g 1)) ∙ get_or-eq_default s 0 (omega (arith, c.if-frame-eq1.true))) (omega (arith, c.four.ensures.0)) c.behind.ensures

pub returns : goal.returns
returns c =
    let g = c.type_inv.frame in
    let s = c.args.frame.now in
    two_octets s (uint-octet s 0 (omega (arith, g 0))) (uint-octet s 1 (omega (arith, g 1))) (omega (arith, c.four-2.ensures.0)) c.behind-2.ensures

pub bounds-frame-1 : goal.bounds-frame-1
bounds-frame-1 c = search rules
