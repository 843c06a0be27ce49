use mathlib.Core.Path.{sym, ◌∙◌}
use Rattle.screen.proofs.PlaceLaws.{placed_on, placed-falls, placed_end}
use Rattle.screen.proofs.places.are_placed.Goals as goal

pub place_at-next-requires : goal.place_at-next-requires
place_at-next-requires c = rw c.records_in-i-end.ensures at c.loop-i-test.true

pub returns-then-next-low : goal.returns-then-next-low
returns-then-next-low c = let e = c.args in let l = c.loop-i in sym (l.invariant ∙ placed-falls e.words.now l.i l.low (rw c.records_in-i-end.ensures at c.loop-i-test.true) c.place_at-next.ensures c.if-next-low.true)

pub returns-then-not-is_begun : goal.returns-then-not-is_begun
returns-then-not-is_begun c = let e = c.args in let l = c.loop-i in sym (l.invariant ∙ (rw (c.if-not-is_begun.true) at (placed_on e.words.now l.i l.low (rw c.records_in-i-end.ensures at c.loop-i-test.true) c.place_at-next.ensures c.if-next-low.false c.is_begun.ensures)))

pub loop-i-preserved : goal.loop-i-preserved
loop-i-preserved c = let e = c.args in let l = c.loop-i in l.invariant ∙ (rw (c.if-not-is_begun.false) at (placed_on e.words.now l.i l.low (rw c.records_in-i-end.ensures at c.loop-i-test.true) c.place_at-next.ensures c.if-next-low.false c.is_begun.ensures))

pub returns : goal.returns
returns c = let e = c.args in let l = c.loop-i in sym (l.invariant ∙ placed_end e.words.now l.i l.low (rw c.records_in-i-end.ensures at c.loop-i-test.false))
