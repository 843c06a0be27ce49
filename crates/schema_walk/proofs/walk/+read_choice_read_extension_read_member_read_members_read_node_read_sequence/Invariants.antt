-- The depth falls, and at one depth the part of a node.
use Rattle.std.proofs.Common.{◌+◌, ◌*◌}
use Rattle.schema_tables.specs.Nodes.{format_at}
use Rattle.schema_walk.proofs.SequenceLaws.{Upto}
use Rattle.schema_walk.proofs.walk.+read_choice_read_extension_read_member_read_members_read_node_read_sequence.Given as goal

abbrev pub decreases-read_node : goal.decreases-read_node
decreases-read_node l = l.left * 8

abbrev pub decreases-read_sequence : goal.decreases-read_sequence
decreases-read_sequence l = l.left * 8 + 3

abbrev pub decreases-read_members : goal.decreases-read_members
decreases-read_members l = l.left * 8 + 2

abbrev pub decreases-read_member : goal.decreases-read_member
decreases-read_member l = l.left * 8 + 1

abbrev pub decreases-read_choice : goal.decreases-read_choice
decreases-read_choice l = l.left * 8 + 3

abbrev pub decreases-read_extension : goal.decreases-read_extension
decreases-read_extension l = l.left * 8 + 3

abbrev pub invariant-read_members-loop-i : goal.invariant-read_members-loop-i
invariant-read_members-loop-i l =
    Upto (λ j. format_at l.left l.nodes j) l.nodes l.first l.count l.s l.flag l.initial.here l.initial.words l.here l.words l.q l.i
