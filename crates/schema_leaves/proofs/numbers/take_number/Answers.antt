use Rattle.std.proofs.Common.{rules}
use Rattle.capped_records.proofs.PlaceLaws.{one-length}
use Rattle.schema_leaves.proofs.NumberLaws.{extent_of, number_short, number-over, number_in}
use Rattle.schema_leaves.proofs.numbers.take_number.Goals as goal

pub returns-then-c-ne0 : goal.returns-then-c-ne0
returns-then-c-ne0 c = number_short c.requires c.args.tag c.args.lo c.args.hi _ _ c.bits-g.result (extent_of c.args.lo c.args.hi _ (search rules) (search rules) c.wrapping_sub_u64-d.ensures.value) c.bits_for.ensures.0 c.bits-g.ensures c.if-c-ne0.true

pub shape_of-words-then-d-g : goal.shape_of-words-then-d-g
shape_of-words-then-d-g c = rw c.emit-m.ensures.words (one-length _ _ _)

pub returns-then-d-g : goal.returns-then-d-g
returns-then-d-g c = number-over c.requires c.args.tag c.args.lo c.args.hi _ _ c.bits-g.result (extent_of c.args.lo c.args.hi _ (search rules) (search rules) c.wrapping_sub_u64-d.ensures.value) c.bits_for.ensures.0 c.bits-g.ensures c.if-c-ne0.false c.if-d-g.true c.mark-e.ensures c.wrapping_add_u64.ensures.value c.emit-m.ensures

pub shape_of-words : goal.shape_of-words
shape_of-words c = rw c.emit-m.ensures.words (one-length _ _ _)

pub returns : goal.returns
returns c = number_in c.requires c.args.tag c.args.lo c.args.hi _ _ c.bits-g.result (extent_of c.args.lo c.args.hi _ (search rules) (search rules) c.wrapping_sub_u64-d.ensures.value) c.bits_for.ensures.0 c.bits-g.ensures c.if-c-ne0.false c.if-d-g.false c.wrapping_add_u64.ensures.value c.emit-m.ensures
