use Rattle.std.proofs.Common.{refl, arith}
use Rattle.capped_records.proofs.PlaceLaws.{one-length}
use Rattle.schema_leaves.proofs.StringLaws.{bits_none, bits-short, bits_there}
use Rattle.schema_leaves.proofs.strings.take_bits.Goals as goal

pub returns-then-n-eq0 : goal.returns-then-n-eq0
returns-then-n-eq0 c = bits_none c.requires c.args.tag c.args.n c.if-n-eq0.true

pub overflow_sub-left : goal.overflow_sub-left
overflow_sub-left c = c.requires.inside.0

pub returns-then-left-k : goal.returns-then-left-k
returns-then-left-k c = bits-short c.requires c.args.tag c.args.n c.if-left-k.true c.stop-e.ensures

pub overflow_add-d : goal.overflow_add-d
overflow_add-d c = omega (arith, c.requires.inside, c.requires.short)

pub shape_of-words : goal.shape_of-words
shape_of-words c = rw c.emit-told.ensures.words (one-length _ _ _)

pub returns : goal.returns
returns c = bits_there c.requires c.args.tag c.args.n c.if-n-eq0.false c.if-left-k.false refl c.emit-told.ensures
