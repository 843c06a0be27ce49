-- The depth falls; at one depth, the number of the members that are left.
use Rattle.std.proofs.Common.{◌+◌, ◌*◌}
use Rattle.write_nodes.proofs.node.+write_inner_write_list_write_members_write_node_write_repeat_write_sequence.Given as goal

abbrev pub decreases-write_node : goal.decreases-write_node
decreases-write_node l = l.depth * 4096

abbrev pub decreases-write_sequence : goal.decreases-write_sequence
decreases-write_sequence l = l.g * 4096 + 2000

abbrev pub decreases-write_members : goal.decreases-write_members
decreases-write_members l = l.g * 4096 + l.n + 1

abbrev pub decreases-write_list : goal.decreases-write_list
decreases-write_list l = l.g * 4096 + 2000

abbrev pub decreases-write_repeat : goal.decreases-write_repeat
decreases-write_repeat l = l.g * 4096 + l.n + 1

abbrev pub decreases-write_inner : goal.decreases-write_inner
decreases-write_inner l = l.g * 4096 + 2000
