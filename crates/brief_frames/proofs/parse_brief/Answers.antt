use mathlib.Core.Path.{refl, sym}
use native.Mathlib.Omega.{arith}
use lib.Seq.{length-take-le, length_front}
use Rattle.records.proofs.Telling.{told-length}
use Rattle.records.proofs.Passes.{settle_full, settle-fits}
use Rattle.brief_frames.proofs.BriefLaws.{brief_told, brief_refused}
use Rattle.brief_frames.proofs.parse_brief.Goals as goal

pub returns-then-brief-ne0 : goal.returns-then-brief-ne0
returns-then-brief-ne0 c down up = rw c.refused.ensures (brief_refused _ down up _ (c.read_brief-brief.ensures down up) c.if-brief-ne0.true)

pub returns-then-words-need : goal.returns-then-words-need
returns-then-words-need c down up =
    let t = brief_told _ down up _ (c.read_brief-brief.ensures down up) c.if-brief-ne0.false in
    rw c.refused-then-words-need.ensures (record { is = settle_full refl t refl c.words_for-need.ensures c.if-words-need.true })

pub slice_bounds-tell-end-2 : goal.slice_bounds-tell-end-2
slice_bounds-tell-end-2 c = sym (length-take-le _ _ c.if-words-need.false)

pub tell-requires : goal.tell-requires
tell-requires c = omega (arith, length-take-le c.words_for-need.result c.args.words.now c.if-words-need.false, c.words_for-need.ensures)

pub shape_of-words : goal.shape_of-words
shape_of-words c = length_front c.args.words.now c.tell.new.words c.words_for-need.result (told-length c.tell.ensures)

pub returns : goal.returns
returns c down up =
    let t = brief_told _ down up _ (c.read_brief-brief.ensures down up) c.if-brief-ne0.false in
    rw c.accepted.ensures (record { is = settle-fits refl t refl c.words_for-need.ensures c.if-words-need.false c.tell.ensures })

pub read_brief-brief-requires : goal.read_brief-brief-requires
read_brief-brief-requires c = c.requires
