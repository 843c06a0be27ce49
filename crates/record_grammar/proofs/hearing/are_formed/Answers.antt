use Rattle.record_grammar.specs.Heard.{formed}
use Rattle.record_grammar.specs.Table.{table}
use Rattle.record_grammar.proofs.hearing.are_formed.Goals as goal

-- the rows that are walked are the table's
pub returns-then-are_whole : goal.returns-then-are_whole
unfolding formed table
returns-then-are_whole c = rw (← c.are_whole.ensures, c.if-are_whole.true) c.hear.ensures

pub returns : goal.returns
unfolding formed
returns c = rw (← c.are_whole.ensures, c.if-are_whole.false)
