-- `node_tables::node_at` meets its contract.
use Rattle.node_tables.proofs.node_at.Goals as goal

pub returns : goal.returns
returns c = rw (c.node_word-kind.ensures, c.node_word-a.ensures, c.node_word-b.ensures, c.node_word-c.ensures, c.node_word-d.ensures, c.node_word-e.ensures)
