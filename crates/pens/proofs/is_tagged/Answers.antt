use mathlib.Core.Path.{sym, ◌∙◌}
use borrow.Author.Tests.{le-ltb}
use Rattle.pens.proofs.RestLaws.{tagged_at, tagged_end}
use Rattle.pens.proofs.is_tagged.Goals as goal

pub returns-then-i-records : goal.returns-then-i-records
returns-then-i-records c = λ b. sym (tagged_at b c.args.records.words.now c.args.records.len c.args.i c.args.tag c.if-i-records.true)

pub returns-else-i-records : goal.returns-else-i-records
returns-else-i-records c = λ b. le-ltb _ _ c.if-i-records.false ∙ sym (tagged_end b c.args.records.words.now c.args.records.len c.args.i c.args.tag c.if-i-records.false)
