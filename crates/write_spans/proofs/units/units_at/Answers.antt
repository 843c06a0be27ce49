-- `write_spans::units::units_at` meets its contract: by the end of the list, or by the tag in front.
use native.Mathlib.Omega.{arith}
use Rattle.write_spans.proofs.RecordLaws.{units-end, units_other, units_there}
use Rattle.write_spans.proofs.units.units_at.Goals as goal

pub returns-then-words-k : goal.returns-then-words-k
returns-then-words-k c =
    let a = c.args in
    (λ b. units_there b a.records.words.now a.records.len a.i a.tag a.w c.if-i-records.true c.if-words-k.true c.requires.0, λ _. (c.if-i-records.true, c.if-words-k.true))

pub returns-else-words-k : goal.returns-else-words-k
returns-else-words-k c =
    let a = c.args in
    (λ b. units_other b a.records.words.now a.records.len a.i a.tag a.w c.if-i-records.true c.if-words-k.false, λ h. absurd (omega (arith, h)))

pub returns-else-i-records : goal.returns-else-i-records
returns-else-i-records c =
    let a = c.args in
    (λ b. units-end b a.records.words.now a.records.len a.i a.tag a.w c.if-i-records.false, λ h. absurd (omega (arith, h)))
