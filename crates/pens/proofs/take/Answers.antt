use mathlib.Core.Path.{refl, sym, ◌∙◌}
use native.Mathlib.Omega.{arith}
use Rattle.pens.proofs.RestLaws.{items-drop}
use Rattle.pens.proofs.PenLaws.{took_record, other_record}
use Rattle.pens.proofs.take.Goals as goal

pub returns-then-is_record : goal.returns-then-is_record
returns-then-is_record c = λ b X. took_record _ _ _ _ _ X refl (sym (c.is_record.ensures.0 b) ∙ c.if-is_record.true) (items-drop b c.args.records.words.now c.args.records.len c.args.p.next (c.is_record.ensures.1 c.if-is_record.true)) (omega (arith, c.is_record.ensures.1 c.if-is_record.true)) refl refl

pub returns : goal.returns
returns c = λ b X. other_record _ _ _ _ _ X refl (sym (c.is_record.ensures.0 b) ∙ c.if-is_record.false) refl
