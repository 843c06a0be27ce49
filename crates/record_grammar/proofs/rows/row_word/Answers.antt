use native.Mathlib.Omega.{arith}
use Rattle.record_grammar.proofs.RowLaws.{row_in, row_out}
use Rattle.record_grammar.proofs.rows.row_word.Goals as goal

pub returns-then-i-rows : goal.returns-then-i-rows
returns-then-i-rows c = row_in _ c.args.k c.args.j

pub returns-else-i-rows : goal.returns-else-i-rows
returns-else-i-rows c = row_out _ c.args.k c.args.j c.if-i-rows.false

pub returns-else-k-lt1000000 : goal.returns-else-k-lt1000000
returns-else-k-lt1000000 c = row_out _ c.args.k c.args.j (omega (arith, c.if-k-lt1000000.false, c.requires.0))
