use native.Mathlib.Omega.{arith}
use Rattle.record_views.proofs.ViewLaws.{stands, record_there}
use Rattle.screen.proofs.places.place_at.Goals as goal

pub overflow_mul-result : goal.overflow_mul-result
overflow_mul-result c = let e = c.args in rw c.words_for.ensures (omega (arith, stands e.words.now e.i c.requires))

pub overflow_add-result : goal.overflow_add-result
overflow_add-result c = let e = c.args in rw c.words_for.ensures (omega (arith, stands e.words.now e.i c.requires))

pub offset_bounds-words-i : goal.offset_bounds-words-i
offset_bounds-words-i c = let e = c.args in rw c.words_for.ensures (omega (arith, stands e.words.now e.i c.requires))

pub bounds-words-i : goal.bounds-words-i
bounds-words-i c = let e = c.args in rw c.words_for.ensures (stands e.words.now e.i c.requires)

pub returns : goal.returns
returns c = let e = c.args in rw (c.words_for.ensures, record_there e.words.now e.i c.requires)
