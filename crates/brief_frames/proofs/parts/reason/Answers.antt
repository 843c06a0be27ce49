use mathlib.Core.Path.{refl, ◌∙◌}
use mathlib.Core.List.{[], ◌∷◌}
use Prim.Native.Nat.{ℕ, ◌+◌, ◌-◌}
use native.Mathlib.Omega.{arith}
use Rattle.atn.specs.Format.{out}
use Rattle.atn.specs.Reading.{rec}
use Rattle.atn.specs.Tags as tag
use Rattle.ample_bits.proofs.AheadLaws.{ahead-next}
use Rattle.brief_frames.specs.Briefs.{told, failed}
use Rattle.brief_frames.proofs.HeadLaws.{spelt, clear, set}
use Rattle.brief_frames.proofs.PartLaws.{reason-extended, reason-short, reason-told}
use Rattle.brief_frames.proofs.parts.reason.Goals as goal

pub returns-then-first-ne0 : goal.returns-then-first-ne0
returns-then-first-ne0 c s ahead = told refl (reason-extended s _ _ _ _ _ (omega (arith, c.requires.0)) (set 1 ahead (omega arith) c.first.ensures c.if-first-ne0.true))

pub overflow_add-reach : goal.overflow_add-reach
overflow_add-reach c = omega (arith, c.bits_for-wide.ensures.1, c.requires.0, c.requires.1)

pub ran_out-requires : goal.ran_out-requires
ran_out-requires c = omega (arith, c.bits_for-wide.ensures.1, c.requires.0, c.requires.1)

-- the frame ends before the number
pub returns-then-end-reach : goal.returns-then-end-reach
returns-then-end-reach c s ahead =
    let k : ℕ = c.args.at + 1 + c.bits_for-wide.result - c.args.end in
    failed (out k) (rec tag.pdu 0 c.args.index 0 1 ∷ []) 0 (λ z. omega arith) (c.stopped.ensures.0 ∙ c.ran_out.ensures)
    (rw c.stopped.ensures.1 (reason-short s _ _ _ _ _ (clear 1 ahead (omega arith) c.first.ensures c.if-first-ne0.false) (omega arith) c.bits_for-wide.ensures.0 (omega (arith, c.requires.0)) c.if-end-reach.true))

pub first-value-requires : goal.first-value-requires
first-value-requires c = (omega (arith, c.bits_for-wide.ensures.0, c.requires.2), c.bits_for-wide.ensures.1)

pub returns : goal.returns
returns c s ahead =
    let p = c.requires in
    let w = c.bits_for-wide.ensures.0 in
    let next = ahead-next 1 ahead refl c.behind.ensures (omega arith) in
    told refl
    (rw c.above-marks.ensures
    (reason-told s _ _ _ _ _ (clear 1 ahead (omega arith) c.first.ensures c.if-first-ne0.false) (omega arith) w (omega (arith, w, p.3)) (spelt _ next (omega (arith, w, p.3)) c.first-value.ensures) c.if-end-reach.false))
