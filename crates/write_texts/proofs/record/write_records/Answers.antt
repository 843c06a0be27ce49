use mathlib.Core.Path.{◌≡◌, refl}
use Prim.Native.Nat.{ℕ, ◌-◌, ◌*◌}
use native.Mathlib.Omega.{arith}
use Rattle.pens.proofs.GotLaws.{went_off}
use Rattle.pens.proofs.PenLaws.{writes_still}
use Rattle.write_texts.proofs.RecordWrites.{records_turn, records-end}
use Rattle.write_texts.proofs.record.write_records.Goals as goal

all_left : (k : ℕ) → k - 0 * 8 ≡ k
all_left k = omega arith

pub loop-i-init : goal.loop-i-init
loop-i-init c = λ b r Z x. rw (all_left c.args.size) at x

pub returns-in_err-q : goal.returns-in_err-q
returns-in_err-q c =
    λ b.
    rw (went_off _ c.from_residual.result c.from_residual.ensures.1) (c.loop-i.invariant b _ _ (records_turn _ _ _ _ _ _ _ c.args.size c.loop-i.i _ _ _ _ _ _ _ (omega arith) c.in_record-k.ensures (c.in_err-q.ensures b) (writes_still _ _ _ _ _ _ _ _ refl refl)))

pub loop-i-preserved : goal.loop-i-preserved
loop-i-preserved c =
    λ b r Z x. c.loop-i.invariant b r Z (records_turn _ _ _ _ _ _ _ c.args.size c.loop-i.i _ _ _ _ _ _ _ (omega arith) c.in_record-k.ensures (c.in_ok-q.ensures b) x)

pub returns : goal.returns
returns c = λ b. c.loop-i.invariant b _ _ (records-end _ _ _ _ _ _ _ _ _ _ (omega arith))
