use mathlib.Core.Path.{refl, sym, ◌∙◌}
use native.Mathlib.Omega.{arith}
use Rattle.book_entries.proofs.Places.{next_of}
use Rattle.book_search.proofs.SearchLaws.{unfair, turn, all-orderly, at-end, unsound, judged, clear-behind}
use Rattle.book_search.proofs.sound.Goals as goal

pub loop-i-init : goal.loop-i-init
loop-i-init c = (omega arith, c.count-n.ensures.is, refl)

pub returns-then-not-is_fair : goal.returns-then-not-is_fair
returns-then-not-is_fair c =
    let b = c.args.book.now in
    let z = c.loop-i in
    unsound b (z.invariant.2 ∙ unfair (next_of b z.i (omega arith)) (sym c.if-not-is_fair.true ∙ c.is_fair.ensures))

pub loop-i-preserved : goal.loop-i-preserved
loop-i-preserved c =
    let b = c.args.book.now in
    let z = c.loop-i in
    (omega arith, z.invariant.1, z.invariant.2 ∙ turn (next_of b z.i (omega arith)) (sym c.if-not-is_fair.false ∙ c.is_fair.ensures))

pub returns : goal.returns
returns c =
    let b = c.args.book.now in
    let z = c.loop-i in
    judged b (z.invariant.2 ∙ all-orderly (at-end b z.i (omega arith))) (clear-behind b z.invariant.1 c.is_clear.ensures)
