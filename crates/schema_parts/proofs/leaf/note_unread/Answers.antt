use Rattle.capped_records.proofs.PlaceLaws.{one-length}
use Rattle.schema_parts.proofs.LeafLaws.{noted-unread}
use Rattle.schema_parts.proofs.leaf.note_unread.Goals as goal

pub shape_of-words : goal.shape_of-words
shape_of-words c = rw c.emit-n.ensures.words (one-length _ _ _)

pub returns : goal.returns
returns c = noted-unread c.args.at c.args.tag c.requires.0 c.requires.1 c.mark-c.ensures c.emit-n.ensures
