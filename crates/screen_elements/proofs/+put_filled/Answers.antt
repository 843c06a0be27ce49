-- The number of brackets that are still to be filled falls.
use Rattle.std.proofs.Common.{arith}
use Rattle.screen_bytes.proofs.Putting.{put_then, put-within}
use Rattle.screen_records.proofs.FieldLaws.{from_more}
use Rattle.screen_elements.proofs.FillLaws.{fill_none, fill-all, fill_more, front, behind}
use Rattle.phrases.specs.Found.{Closed}
use Rattle.screen_elements.proofs.+put_filled.Goals as goal

pub returns-then-n-eq0 : goal.returns-then-n-eq0
returns-then-n-eq0 t c = rw (fill_none _ _ _ c.if-n-eq0.true) (put-within _ (omega arith) c.put_text.ensures)

pub returns-in-None : goal.returns-in-None
returns-in-None t c = rw (fill-all _ _ _ _ c.if-n-eq0.false (rw c.in-None.is at c.first_bracket-bracket.ensures.unclosed)) (put-within _ (omega arith) c.put_text-in-None.ensures)

pub returns-in-Some : goal.returns-in-Some
returns-in-Some t c =
    let b = c.first_bracket-bracket.ensures in
    let f : Closed c.args.phrase.now c.first_bracket-bracket.result.opens c.in-Some.closes = rw c.in-Some.is at b.closed in
    rw (fill_more _ _ _ _ c.if-n-eq0.false b.open_is f)
    (put-within _ (omega (arith, c.if-n-eq0.false, front c.args.phrase.now b.within, behind c.args.phrase.now c.in-Some.closes, f.order, f.within))
    (put_then (put_then c.put_text-a.ensures c.put_argument-b.ensures) (rw from_more at c.put_filled.ensures)))
