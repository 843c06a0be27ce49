use Prim.Native.Nat.{◌^◌, ◌<◌}
use native.Mathlib.Omega.{arith}
use lib.ListN.{length}
use Rattle.schema_leaves.proofs.CameLaws.{came_length}
use Rattle.schema_reader.proofs.ReaderLaws.{at_start, frame_stops, frame_full, frame-fits-all}
use borrow.Author.Rules.{rules}
use Rattle.schema_reader.proofs.answer.Goals.{Start}
use Rattle.schema_reader.proofs.answer.Goals as goal

room : (e : Start) → length e.args.words.now < 2 ^ 64
room e = search rules

pub read_node-tried-requires : goal.read_node-tried-requires
read_node-tried-requires c = (rw c.bits.ensures (at_start c.args.frame.now c.requires.0), c.requires.1, omega arith)

pub returns-then-c-ne0 : goal.returns-then-c-ne0
returns-then-c-ne0 c = record { is = rw c.refused.ensures (frame_stops c.args.nodes.now c.args.frame.now c.args.words.now (rw c.bits.ensures at c.read_node-tried.ensures) c.if-c-ne0.true) }

pub returns-then-words-count : goal.returns-then-words-count
returns-then-words-count c = record { is = rw c.refused-then-words-count.ensures (frame_full c.args.nodes.now c.args.frame.now c.args.words.now (rw c.bits.ensures at c.read_node-tried.ensures) c.if-c-ne0.false c.if-words-count.true (search rules)) }

pub read_node-requires : goal.read_node-requires
read_node-requires c = (rw c.bits.ensures (at_start c.args.frame.now c.requires.0), c.requires.1, omega arith)

pub shape_of-words : goal.shape_of-words
shape_of-words c = came_length c.read_node.ensures

pub returns : goal.returns
returns c = let l : length c.args.words.now < 2 ^ 64 = room (goal.at.returns c).Start in record { is = rw c.accepted.ensures (frame-fits-all c.args.nodes.now c.args.frame.now l (rw c.bits.ensures at c.read_node-tried.ensures) (rw c.bits.ensures at c.read_node.ensures) c.if-c-ne0.false c.if-words-count.false) }
