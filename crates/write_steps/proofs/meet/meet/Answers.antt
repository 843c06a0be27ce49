use mathlib.Core.Path.{sym, ◌∙◌}
use native.Mathlib.Omega.{arith}
use Rattle.write_steps.specs.Steps.{met}
use Rattle.write_steps.proofs.MeetLaws.{meets_tagged, meets_untagged, meets_never, meets-noted, meets_unnoted, meets-unread, meets_always, met_absent, flag_next}
use Rattle.write_steps.proofs.meet.meet.Goals as goal

pub returns-then-is_tagged : goal.returns-then-is_tagged
returns-then-is_tagged c = (λ F S fs y s h. meets_tagged F S fs c.args.node c.args.x y s c.args.records.words.now c.args.records.len c.args.flag _ _ _ c.if-kind-eq1.true h (sym (c.is_tagged.ensures s) ∙ c.if-is_tagged.true) c.put_at.ensures, omega arith)

pub returns-then-kind-eq1 : goal.returns-then-kind-eq1
returns-then-kind-eq1 c = (λ F S fs y s h. meets_untagged F S fs c.args.node c.args.x y s c.args.records.words.now c.args.records.len c.args.flag _ _ _ (met c.absent.result) c.if-kind-eq1.true h (sym (c.is_tagged.ensures s) ∙ c.if-is_tagged.false) c.put_at-then-kind-eq1.ensures (met_absent _ c.absent.ensures), flag_next c.args.flag c.absent.ensures)

pub is_record-requires : goal.is_record-requires
is_record-requires c = c.requires.1 c.if-kind-eq3.true

pub overflow_add-q : goal.overflow_add-q
overflow_add-q c = omega (arith, c.is_record.ensures.1 c.if-is_record.true)

pub returns-then-is_record : goal.returns-then-is_record
returns-then-is_record c = (λ F S fs y s h. meets-noted F S fs c.args.node c.args.x y s c.args.records.words.now c.args.records.len c.args.flag _ _ _ (met c.absent-then-is_record.result) c.if-kind-eq3.true (sym (c.is_record.ensures.0 s) ∙ c.if-is_record.true) (c.is_record.ensures.1 c.if-is_record.true) c.put_at-then-is_record.ensures (met_absent _ c.absent-then-is_record.ensures), flag_next c.args.flag c.absent-then-is_record.ensures)

pub returns-then-kind-eq3 : goal.returns-then-kind-eq3
returns-then-kind-eq3 c = (λ F S fs y s h. meets_unnoted F S fs c.args.node c.args.x y s c.args.records.words.now c.args.records.len c.args.flag _ _ _ c.if-kind-eq3.true h (sym (c.is_record.ensures.0 s) ∙ c.if-is_record.false) c.put_at-then-kind-eq3.ensures, omega arith)

pub returns-then-kind-eq2 : goal.returns-then-kind-eq2
returns-then-kind-eq2 c = (λ F S fs y s h. meets_never F S fs c.args.node c.args.x y s c.args.records.words.now c.args.records.len c.args.flag _ _ _ (met c.absent-then-kind-eq2.result) c.if-kind-eq2.true h c.put_at-then-kind-eq2.ensures (met_absent _ c.absent-then-kind-eq2.ensures), flag_next c.args.flag c.absent-then-kind-eq2.ensures)

pub returns-then-kind-eq4 : goal.returns-then-kind-eq4
returns-then-kind-eq4 c = (λ F S fs y s h. meets-unread F S fs c.args.node c.args.x y s c.args.records.words.now c.args.records.len c.args.flag _ _ _ (met c.absent-then-kind-eq4.result) c.if-kind-eq4.true c.put_at-then-kind-eq4.ensures (met_absent _ c.absent-then-kind-eq4.ensures), flag_next c.args.flag c.absent-then-kind-eq4.ensures)

pub returns : goal.returns
returns c = (λ F S fs y s h. meets_always F S fs c.args.node c.args.x y s c.args.records.words.now c.args.records.len c.args.flag _ _ c.if-kind-eq1.false c.if-kind-eq2.false c.if-kind-eq3.false c.if-kind-eq4.false h, omega arith)
