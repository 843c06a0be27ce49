use mathlib.Core.Path.{refl, sym, subst}
use Prim.Native.Nat.{ℕ, ◌≤◌}
use lib.ListN.{length, take}
use lib.Seq.{length-take-le, length_front}
use native.Mathlib.Omega.{arith}
use Rattle.records.proofs.Telling.{told-length}
use Rattle.spare_words.proofs.KeptLaws.{copied_length}
use Rattle.cpdlc_frames.proofs.SaysLaws.{says_full, says-kept, says-written}
use Rattle.cpdlc_frames.proofs.write_frame.Goals as goal

pub returns-then-words-need : goal.returns-then-words-need
returns-then-words-need c = λ _ R e _. says_full c.args.words.now c.args.cut c.args.v c.words_for-need.ensures c.if-words-need.true R e

pub slice_bounds-copy-end : goal.slice_bounds-copy-end
slice_bounds-copy-end c = sym (length-take-le _ _ c.if-need-spare.true)

pub copy-requires : goal.copy-requires
copy-requires c = subst (λ (n : ℕ). n ≤ length c.args.words.now) (sym (length-take-le c.words_for-need.result c.args.spare.now c.if-need-spare.true)) c.if-words-need.false

pub shape_of-words-then-need-spare : goal.shape_of-words-then-need-spare
shape_of-words-then-need-spare c =
    let need = c.words_for-need.result in
    let kept = c.args.spare.now in
    let w = c.args.words.now in
    copied_length (take need kept) w c.copy.ensures (subst (λ (n : ℕ). n ≤ length w) (sym (length-take-le need kept c.if-need-spare.true)) c.if-words-need.false)

pub returns-then-need-spare : goal.returns-then-need-spare
returns-then-need-spare c = λ k R e t. says-kept c.args.words.now c.args.spare.now c.args.cut c.args.v c.words_for-need.ensures c.if-words-need.false c.if-need-spare.true c.copy.ensures k R e t

pub slice_bounds-read_pdu-end-2 : goal.slice_bounds-read_pdu-end-2
slice_bounds-read_pdu-end-2 c = sym (length-take-le _ _ c.if-words-need.false)

pub read_pdu-requires : goal.read_pdu-requires
read_pdu-requires c =
    let pre = c.requires in
    (pre.0, omega arith, pre.1, pre.2, pre.3, pre.4, pre.5, rw c.start.ensures refl)

pub returns : goal.returns
returns c = λ _. says-written c.args.words.now c.args.cut c.args.v c.words_for-need.ensures _ _ _ _ c.if-words-need.false c.start.ensures c.read_pdu.ensures

pub shape_of-words : goal.shape_of-words
shape_of-words c = length_front c.args.words.now c.read_pdu.new.words c.words_for-need.result (told-length c.read_pdu.ensures.told)
