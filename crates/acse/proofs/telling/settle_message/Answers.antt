use mathlib.Core.Path.{refl, sym}
use native.Mathlib.Omega.{arith}
use lib.ListN.{length-append}
use lib.Seq.{length-take-le, length_front}
use Rattle.atn.specs.Entries.{need}
use Rattle.records.specs.Space.{size, space}
use Rattle.records.proofs.Telling.{told-length}
use Rattle.records.proofs.Passes.{settle_full, settle-fits}
use Rattle.acse.proofs.telling.settle_message.Goals as goal

pub returns-then-words-need : goal.returns-then-words-need
returns-then-words-need c = record { is = settle_full refl refl (simp length-append (omega (arith, c.count.ensures.0, c.count-2.ensures.0))) c.words_for-need.ensures c.if-words-need.true }

pub slice_bounds-tell_all-end-2 : goal.slice_bounds-tell_all-end-2
slice_bounds-tell_all-end-2 c = sym (length-take-le _ _ c.if-words-need.false)

pub tell_all-requires : goal.tell_all-requires
unfolding space size need
tell_all-requires c =
    omega (arith, length-take-le c.words_for-need.result c.args.words.now c.if-words-need.false, c.words_for-need.ensures, c.count.ensures.0, c.count-2.ensures.0)

pub shape_of-words : goal.shape_of-words
shape_of-words c = length_front c.args.words.now c.tell_all.new.words c.words_for-need.result (told-length c.tell_all.ensures)

pub returns : goal.returns
returns c = record { is = settle-fits refl refl (simp length-append (omega (arith, c.count.ensures.0, c.count-2.ensures.0))) c.words_for-need.ensures c.if-words-need.false c.tell_all.ensures }
