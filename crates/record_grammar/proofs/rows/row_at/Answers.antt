use Rattle.record_grammar.specs.Rows.{row_at}
use Rattle.record_grammar.proofs.rows.row_at.Goals as goal

pub returns : goal.returns
unfolding row_at
returns c = rw (c.row_word-tag.ensures, c.row_word-kind.ensures, c.row_word-low.ensures, c.row_word-size.ensures, c.row_word-next.ensures, c.row_word-otherwise.ensures, c.row_word-back.ensures, c.row_word-last.ensures)
