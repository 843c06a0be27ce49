use Rattle.capped_records.proofs.PlaceLaws.{one-length}
use Rattle.schema_leaves.proofs.NumberLaws.{name-short, name-over, name_in_lem}
use Rattle.std.proofs.Common.{rules}
use Rattle.schema_leaves.proofs.numbers.take_name.Goals as goal

pub returns-then-c-ne0 : goal.returns-then-c-ne0
returns-then-c-ne0 c = name-short c.requires c.args.tag c.args.hi _ c.bits-g.result (search rules) c.bits_for.ensures.0 c.bits-g.ensures c.if-c-ne0.true

pub returns-then-hi-g : goal.returns-then-hi-g
returns-then-hi-g c = name-over c.requires c.args.tag c.args.hi _ c.bits-g.result (search rules) c.bits_for.ensures.0 c.bits-g.ensures c.if-c-ne0.false c.if-hi-g.true c.stop-e.ensures

pub shape_of-words : goal.shape_of-words
shape_of-words c = rw c.emit-m.ensures.words (one-length _ _ _)

pub returns : goal.returns
returns c = name_in_lem c.requires c.args.tag c.args.hi _ c.bits-g.result (search rules) c.bits_for.ensures.0 c.bits-g.ensures c.if-c-ne0.false c.if-hi-g.false c.emit-m.ensures
