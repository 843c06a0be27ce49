use Rattle.length_determinants.proofs.LengthLaws.{worth_few, worth_none, worth_lost, worth_last}
use Rattle.length_determinants.proofs.last_eight.Goals as goal

pub returns-then-size-le64 : goal.returns-then-size-le64
returns-then-size-le64 c = let size = c.bits-size in rw (← size.ensures) (worth_few c.if-size-le64.true c.bits.ensures)

pub returns-then-at-ge64 : goal.returns-then-at-ge64
returns-then-at-ge64 c =
    let size = c.bits-size in
    let passed = c.pass-d in
    rw (← size.ensures) (worth_last passed.ensures c.if-d-eq0.true c.if-size-le64.false c.if-at-ge64.true c.bits-then-at-ge64.ensures)

pub returns-else-at-ge64 : goal.returns-else-at-ge64
returns-else-at-ge64 c =
    let size = c.bits-size in
    let passed = c.pass-d in
    rw (← size.ensures) (worth_lost passed.ensures c.if-d-eq0.true c.if-size-le64.false c.if-at-ge64.false)

pub returns-else-d-eq0 : goal.returns-else-d-eq0
returns-else-d-eq0 c =
    let size = c.bits-size in
    rw (← size.ensures) (worth_none c.pass-d.ensures c.if-d-eq0.false)
