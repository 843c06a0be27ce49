use Rattle.std.proofs.Common.{inl, inr, arith, refl}
use Rattle.write_numbers.proofs.NumberLaws.{reason-written, reason_other, reason-missing}
use Rattle.write_numbers.proofs.write_reason.Goals.{in-30-1, in_default+then-this-lt2}
use Rattle.write_numbers.proofs.write_reason.Goals as goal

pub returns-in-0 : goal.returns-in-0
returns-in-0 c =
    λ b y.
    reason-written b _ _ _ _ y _
    (elim c.in-0-1.branch [ in-30-1 w ↦ inl (omega arith) | in_default+then-this-lt2 w ↦ inr (omega arith) ])
    (c.write_name.ensures b y)

pub returns-in_default : goal.returns-in_default
returns-in_default c = λ b y. reason_other b _ _ _ _ y _ (omega arith) (omega arith) refl

pub returns-else-i-records : goal.returns-else-i-records
returns-else-i-records c = λ b y. reason-missing b _ _ _ _ y _ c.if-i-records.false refl
