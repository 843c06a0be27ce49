-- `write_texts::record::write_record` meets its contract.
use mathlib.Core.Path.{refl}
use Rattle.pens.proofs.GotLaws.{went_off}
use Rattle.pens.proofs.PenLaws.{writes_still}
use Rattle.write_texts.proofs.RecordWrites.{record_in, record-lacks}
use Rattle.write_texts.proofs.record.write_record.Goals as goal

pub returns-then-records-i : goal.returns-then-records-i
returns-then-records-i c = λ b. record-lacks _ _ _ _ _ b _ _ _ _ _ _ _ c.if-records-i.true refl

pub returns-in_err-q : goal.returns-in_err-q
returns-in_err-q c =
    λ b. rw (went_off _ c.from_residual.result c.from_residual.ensures.1) (record_in _ _ _ _ _ b c.args.records.words.now c.args.records.len _ _ _ _ _ c.args.out.now c.args.out.now c.args.out.now c.if-records-i.false refl (c.in_err-q.ensures b c.args.out.now) (writes_still _ _ _ _ _ _ _ _ refl refl))

pub returns : goal.returns
returns c =
    λ b. record_in _ _ _ _ _ b c.args.records.words.now c.args.records.len _ _ _ _ _ c.args.out.now _ _ c.if-records-i.false refl (c.in_ok-q.ensures b c.args.out.now) (c.write_word.ensures _ _)
