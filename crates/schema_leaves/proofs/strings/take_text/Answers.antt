use Rattle.std.proofs.Common.{length, refl, ap, ◌∙◌, arith}
use Rattle.capped_records.proofs.PlaceLaws.{place-length}
use Rattle.schema_leaves.proofs.StringLaws.{text-short, text_out, text_in, text-over, text_bounds, text-held, held, not-held}
use Rattle.schema_leaves.proofs.strings.take_text.Goals as goal

pub overflow_sub-hi : goal.overflow_sub-hi
overflow_sub-hi c = c.requires.1

pub bits-g-requires : goal.bits-g-requires
bits-g-requires c = c.bits_for.ensures.1

pub returns-then-c-ne0 : goal.returns-then-c-ne0
returns-then-c-ne0 c = text-short c.requires.0 c.args.tag c.args.lo c.args.hi _ c.bits-g.result c.bits_for.ensures.0 c.bits-g.ensures c.if-c-ne0.true

pub overflow_sub-left : goal.overflow_sub-left
overflow_sub-left c = (text_bounds c.requires.0 _ c.bits-g.result c.bits-g.ensures c.if-c-ne0.false).0

pub shape_of-words-then-hi-size : goal.shape_of-words-then-hi-size
shape_of-words-then-hi-size c = ap length c.tell_letters-m.ensures.words ∙ place-length _ _ _

pub shape_of-words : goal.shape_of-words
shape_of-words c = ap length c.tell_letters-m.ensures.words ∙ place-length _ _ _

pub returns-then-not-holds : goal.returns-then-not-holds
returns-then-not-holds c = text_out c.requires.0 c.args.tag c.args.lo c.args.hi _ c.bits-g.result c.bits_for.ensures.0 c.bits-g.ensures c.if-c-ne0.false refl (not-held _ _ _ c.holds.ensures c.if-not-holds.true) refl refl refl

pub overflow_add-size : goal.overflow_add-size
overflow_add-size c = omega (arith, text-held c.requires.0 _ c.bits-g.result c.bits-g.ensures c.if-c-ne0.false c.args.lo c.holds.ensures c.if-not-holds.false)

pub tell_letters-m-requires : goal.tell_letters-m-requires
tell_letters-m-requires c = text-held c.requires.0 _ c.bits-g.result c.bits-g.ensures c.if-c-ne0.false c.args.lo c.holds.ensures c.if-not-holds.false

pub returns-then-hi-size : goal.returns-then-hi-size
returns-then-hi-size c = text-over c.requires.0 c.args.tag c.args.lo c.args.hi _ c.bits-g.result c.bits_for.ensures.0 c.bits-g.ensures c.if-c-ne0.false refl (held _ _ _ c.holds.ensures c.if-not-holds.false) refl refl c.if-hi-size.true c.mark-e.ensures c.tell_letters-m.ensures

pub returns : goal.returns
returns c = text_in c.requires.0 c.args.tag c.args.lo c.args.hi _ c.bits-g.result c.bits_for.ensures.0 c.bits-g.ensures c.if-c-ne0.false refl (held _ _ _ c.holds.ensures c.if-not-holds.false) refl refl c.if-hi-size.false c.tell_letters-m.ensures
