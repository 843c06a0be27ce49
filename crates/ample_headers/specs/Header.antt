-- The header of a message behind its presence bits, by these bits: what is there of it as one sequence.
use Rattle.std.specs.Prelude.{ℕ, zero, suc, ◌+◌}
use Rattle.atn.specs.Format.{Fmt, Flds, num, noted, null, seq, end, ◌⨾◌}
use Rattle.atn.specs.Messages.{date_time_group}
use Rattle.atn.specs.Tags as tag
use Rattle.field_ranges.specs.declared.table.Range.{Range}
use Rattle.field_ranges.specs.Ranges.{width_of}

-- three numbers whose tags follow one another
abbrev pub three : ℕ → Range → Range → Range → Fmt
three t a b d = seq (num t a.lo a.hi ⨾ num (t + 1) b.lo b.hi ⨾ num (t + 2) d.lo d.hi ⨾ end)

-- the bits of them
abbrev pub bits : Range → Range → Range → ℕ
bits a b d = width_of a + (width_of b + width_of d)

-- a default acknowledgment is 1
abbrev pub acknowledgment : ℕ → Fmt
acknowledgment zero = noted tag.logical_ack 1 0 null
acknowledgment (suc n) = num tag.logical_ack 0 1

-- the last fields
abbrev pub timed : ℕ → Flds
timed has = date_time_group ⨾ acknowledgment has ⨾ end

-- 0 and 1 have no reference, 1 and 3 an acknowledgment
abbrev pub header : ℕ → Fmt
header zero = seq (num tag.msg_id 0 63 ⨾ timed 0)
header (suc zero) = seq (num tag.msg_id 0 63 ⨾ timed 1)
header (suc (suc zero)) = seq (num tag.msg_id 0 63 ⨾ num tag.msg_ref 0 63 ⨾ timed 0)
header (suc (suc (suc n))) = seq (num tag.msg_id 0 63 ⨾ num tag.msg_ref 0 63 ⨾ timed 1)
