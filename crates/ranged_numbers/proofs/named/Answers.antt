use Rattle.ranged_numbers.proofs.NumberLaws.{named_in, named-over}
use Rattle.ranged_numbers.proofs.named.Goals as goal

pub returns-then-v-extent : goal.returns-then-v-extent
returns-then-v-extent c =
    let p = c.requires in
    let g = c.bits-g in
    named_in p.0 g.result (rw c.width.ensures.0 at g.ensures) p.1 c.extent.ensures c.if-v-extent.true

pub returns : goal.returns
returns c =
    let p = c.requires in
    let g = c.bits-g in
    named-over p.0 g.result (rw c.width.ensures.0 at g.ensures) p.1 c.extent.ensures c.if-v-extent.false c.stop-m.ensures
