use Rattle.std.proofs.Common.{arith, refl}
use Rattle.pens.proofs.GotLaws.{went_off}
use Rattle.write_numbers.proofs.NumberLaws.{ink-fits, number-written, number-refused, number-over, number-missing}
use Rattle.write_numbers.proofs.write_number.Goals as goal

pub returns-in_err-q : goal.returns-in_err-q
returns-in_err-q c =
    λ b y. number-refused b _ _ _ _ y _ _ _ _ _ (omega arith) (omega arith) (omega arith) (omega arith) (omega arith) c.if-above-extent.true (c.in_err-q.ensures b _) refl (rw (went_off _ c.from_residual.result c.from_residual.ensures.1) refl)

pub ink-requires : goal.ink-requires
ink-requires c = ink-fits c.if-above-extent.true c.bits_for.ensures

pub returns-then-above-extent : goal.returns-then-above-extent
returns-then-above-extent c =
    λ b y.
    number-written b _ _ _ _ y _ _ _ _ _ (omega arith) (omega arith) (omega arith) (omega arith) (omega arith)
    c.if-above-extent.true c.bits_for.ensures.0 (c.in_ok-q.ensures b _) c.ink.ensures

pub returns-else-above-extent : goal.returns-else-above-extent
returns-else-above-extent c = λ b y. number-over b _ _ _ _ y _ _ _ _ _ (omega arith) (omega arith) (omega arith) (omega arith) (omega arith) c.if-above-extent.false refl

pub returns-else-i-records : goal.returns-else-i-records
returns-else-i-records c = λ b y. number-missing b _ _ _ _ y _ _ _ c.if-i-records.false refl
