use mathlib.Core.Path.{refl, sym, subst}
use Prim.Native.Nat.{ℕ, ◌≤◌}
use lib.ListN.{length}
use lib.Seq.{length-take-le}
use Rattle.spare_words.proofs.KeptLaws.{told-kept, settle-kept}
use Rattle.records.proofs.Passes.{counted, settle_full, settle-fits}
use Rattle.cm.proofs.EntryLaws.{frame_refused, frame-accepted, frame_again}
use Rattle.cm.proofs.answer_by.Goals as goal

pub returns-then-c-ne0 : goal.returns-then-c-ne0
returns-then-c-ne0 c = record { is = rw c.refused.ensures (frame_refused (rw c.bits.ensures at c.pdu-tried.ensures.reads) refl c.if-c-ne0.true) }

pub returns-then-words-need : goal.returns-then-words-need
returns-then-words-need c = record { is = rw c.refused-then-words-need.ensures (settle_full refl (frame-accepted (rw c.bits.ensures at c.pdu-tried.ensures.reads) c.if-c-ne0.false) (counted c.pdu-tried.ensures.told) c.words_for-need.ensures c.if-words-need.true) }

pub slice_bounds-copy-end-then-need-spare : goal.slice_bounds-copy-end-then-need-spare
slice_bounds-copy-end-then-need-spare c = sym (length-take-le _ _ c.if-need-spare.true)

pub copy-requires : goal.copy-requires
copy-requires c = subst (λ (n : ℕ). n ≤ length c.args.words.now) (sym (length-take-le c.words_for-need.result c.pdu-tried.new.words c.if-need-spare.true)) c.if-words-need.false

pub returns-then-need-spare : goal.returns-then-need-spare
returns-then-need-spare c = record { is = rw c.accepted.ensures (settle-kept (frame-accepted (rw c.bits.ensures at c.pdu-tried.ensures.reads) c.if-c-ne0.false) (counted c.pdu-tried.ensures.told) c.words_for-need.ensures c.args.words.now c.pdu-tried.new.words c.if-words-need.false c.if-need-spare.true (told-kept c.pdu-tried.ensures.told) c.copy.ensures) }

pub slice_bounds-pdu-end-2 : goal.slice_bounds-pdu-end-2
slice_bounds-pdu-end-2 c = sym (length-take-le _ _ c.if-words-need.false)

pub returns : goal.returns
returns c = record { is = rw c.accepted-2.ensures (settle-fits refl (frame-accepted (rw c.bits.ensures at c.pdu-tried.ensures.reads) c.if-c-ne0.false) (counted c.pdu-tried.ensures.told) c.words_for-need.ensures c.if-words-need.false (rw (frame_again (rw c.bits.ensures at c.pdu-tried.ensures.reads) c.if-c-ne0.false (rw c.bits.ensures at c.pdu.ensures.reads)) at c.pdu.ensures.told)) }
