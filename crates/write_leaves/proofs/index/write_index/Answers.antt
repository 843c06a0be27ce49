use mathlib.Core.Path.{refl, sym, ◌∙◌}
use Rattle.pens.specs.Stand.{before}
use Rattle.write_leaves.proofs.IndexLaws.{indexes_end, indexes_high, indexes_other, indexes_got, inks_width, index-fits}
use Rattle.write_leaves.proofs.index.write_index.Goals as goal

pub returns-then-records-i : goal.returns-then-records-i
returns-then-records-i c = λ b. indexes_end b c.args.records.words.now c.args.records.len c.args.tag c.args.element c.args.n _ _ _ _ refl c.if-records-i.true (refl, refl) c.requires.1

pub returns-then-n-v : goal.returns-then-n-v
returns-then-n-v c = λ b. indexes_high b c.args.records.words.now c.args.records.len c.args.tag c.args.element c.args.n _ _ _ _ refl c.if-records-i.false c.if-n-v.true (refl, refl) c.requires.1

pub ink-q-requires : goal.ink-q-requires
ink-q-requires c = (c.bits_for.ensures.1, index-fits c.args.n c.if-n-v.false c.bits_for.ensures.0)

pub returns-then-is_record : goal.returns-then-is_record
returns-then-is_record c = λ b. indexes_got b c.args.records.words.now c.args.records.len c.args.tag c.args.element c.args.n _ _ _ _ (before c.ink-q.result) refl c.if-records-i.false c.if-n-v.false (sym (c.is_record.ensures.0 b) ∙ c.if-is_record.true) (inks_width c.bits_for.ensures.0 c.ink-q.ensures) refl refl refl refl

pub returns : goal.returns
returns c = λ b. indexes_other b c.args.records.words.now c.args.records.len c.args.tag c.args.element c.args.n _ _ _ _ refl c.if-records-i.false (sym (c.is_record.ensures.0 b) ∙ c.if-is_record.false) (refl, refl) c.requires.1
