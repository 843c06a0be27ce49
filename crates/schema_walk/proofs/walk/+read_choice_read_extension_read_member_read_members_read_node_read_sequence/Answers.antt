use mathlib.Core.Path.{refl}
use Prim.Native.Nat.{◌-◌}
use native.Mathlib.Omega.{arith}
use Rattle.atn.specs.Reading.{or}
use Rattle.schema_tables.specs.Nodes.{format_at}
use Rattle.schema_walk.proofs.NodeLaws.{leaf_node, sequence-node, choice_node, alone-node, extension-node, headed-node, same-node, unread-node, unlisted-node, unknown_node, too_deep, its_fits, sequence-nodes, choice_nodes, alone-nodes}
use Rattle.schema_walk.proofs.SequenceLaws.{absent, present, not_there, not-read, required, upto_none, upto_flag, upto_stops, upto_more, upto_all, bits-short, bits-then}
use Rattle.schema_walk.proofs.ChoiceLaws.{index_short, index_in, index_out, bit-short, bit-clear, bit-set, headed}
use borrow.Author.Rules.{rules}
use Rattle.schema_walk.proofs.walk.+read_choice_read_extension_read_member_read_members_read_node_read_sequence.Goals as goal

pub read_choice-returns-then-c-ne0 : goal.read_choice-returns-then-c-ne0
read_choice-returns-then-c-ne0 t c =
    index_short (λ j. format_at c.args.left c.args.nodes.now j) c.args.tag c.args.first c.args.count c.args.s.now c.requires.0 c.bits-g.result c.bits_for.ensures.0 c.bits-g.ensures c.if-c-ne0.true

pub read_choice-returns-then-index-count : goal.read_choice-returns-then-index-count
read_choice-returns-then-index-count t c =
    index_in (λ j. format_at c.args.left c.args.nodes.now j) c.args.tag c.args.first c.args.count c.args.s.now c.requires.0 c.bits-g.result c.bits_for.ensures.0 c.bits-g.ensures c.if-c-ne0.false (search rules) c.emit-m.ensures c.if-index-count.true c.read_node.ensures

pub read_choice-returns : goal.read_choice-returns
read_choice-returns t c =
    index_out (λ j. format_at c.args.left c.args.nodes.now j) c.args.tag c.args.first c.args.count c.args.s.now c.requires.0 c.bits-g.result c.bits_for.ensures.0 c.bits-g.ensures c.if-c-ne0.false (search rules) c.emit-m.ensures c.if-index-count.false c.stop-d.ensures

pub read_extension-returns-then-c-ne0 : goal.read_extension-returns-then-c-ne0
read_extension-returns-then-c-ne0 t c =
    bit-short (format_at c.args.left c.args.nodes.now c.args.k) c.args.tag c.args.s.now c.requires.0 c.bits-g.result c.bits-g.ensures c.if-c-ne0.true

pub read_extension-returns-then-g-eq0 : goal.read_extension-returns-then-g-eq0
read_extension-returns-then-g-eq0 t c =
    bit-clear (format_at c.args.left c.args.nodes.now c.args.k) c.args.tag c.args.s.now c.requires.0 c.bits-g.result c.bits-g.ensures c.if-c-ne0.false c.if-g-eq0.true c.read_node.ensures

pub read_extension-returns : goal.read_extension-returns
read_extension-returns t c =
    bit-set (format_at c.args.left c.args.nodes.now c.args.k) c.args.tag c.args.s.now c.requires.0 c.bits-g.result c.bits-g.ensures c.if-c-ne0.false c.if-g-eq0.false c.mark-d.ensures c.emit-m.ensures

pub read_members-loop-i-init : goal.read_members-loop-i-init
read_members-loop-i-init t c =
    (upto_none (λ j. format_at c.args.left c.args.nodes.now j) c.args.nodes.now c.args.first c.args.count c.args.s.now c.args.flag c.args.at c.args.words.now c.requires.0 c.requires.4)

pub read_members-read_member-here-requires : goal.read_members-read_member-here-requires
read_members-read_member-here-requires t c =
    (omega (arith, c.decreases), (c.loop-i.invariant.going, c.requires.1, c.requires.2, upto_flag (λ j. format_at c.args.left c.args.nodes.now j) c.args.nodes.now c.args.first c.args.count c.args.s.now c.args.flag c.args.at c.args.words.now c.loop-i.invariant c.loop-i-test.true c.node_at-node.ensures))

pub read_members-returns-then-c-ne0 : goal.read_members-returns-then-c-ne0
read_members-returns-then-c-ne0 t c =
    upto_stops (λ j. format_at c.args.left c.args.nodes.now j) c.args.nodes.now c.args.first c.args.count c.args.s.now c.args.flag c.args.at c.args.words.now c.loop-i.invariant (search rules) c.loop-i-test.true c.node_at-node.ensures c.read_member-here.ensures c.if-c-ne0.true

pub read_members-overflow_add-q : goal.read_members-overflow_add-q
read_members-overflow_add-q t c =
    omega (arith, c.flag_of-q.ensures, c.requires.0.short, upto_flag (λ j. format_at c.args.left c.args.nodes.now j) c.args.nodes.now c.args.first c.args.count c.args.s.now c.args.flag c.args.at c.args.words.now c.loop-i.invariant c.loop-i-test.true c.node_at-node.ensures)

pub read_members-loop-i-preserved : goal.read_members-loop-i-preserved
read_members-loop-i-preserved t c =
    (upto_more (λ j. format_at c.args.left c.args.nodes.now j) c.args.nodes.now c.args.first c.args.count c.args.s.now c.args.flag c.args.at c.args.words.now c.loop-i.invariant (search rules) c.loop-i-test.true c.node_at-node.ensures c.read_member-here.ensures c.if-c-ne0.false c.flag_of-q.ensures)

pub read_members-returns : goal.read_members-returns
read_members-returns t c =
    upto_all (λ j. format_at c.args.left c.args.nodes.now j) c.args.nodes.now c.args.first c.args.count c.args.s.now c.args.flag c.args.at c.args.words.now c.loop-i.invariant c.loop-i-test.false

pub read_node-returns-then-left-eq0 : goal.read_node-returns-then-left-eq0
read_node-returns-then-left-eq0 t c =
    too_deep c.args.nodes.now c.args.left c.args.k c.args.s.now c.args.words.now c.requires.0.inside.0 c.if-left-eq0.true c.refuse.ensures

pub read_sequence-returns-then-end-from : goal.read_sequence-returns-then-end-from
read_sequence-returns-then-end-from t c =
    bits-short (λ j. format_at c.args.left c.args.nodes.now j) c.args.nodes.now c.args.first c.args.count c.args.s.now c.requires.0 c.presence_bits-presence.ensures c.if-end-from.true refl refl refl

pub read_sequence-returns : goal.read_sequence-returns
unfolding or
read_sequence-returns t c =
    bits-then (λ j. format_at c.args.left c.args.nodes.now j) c.args.nodes.now c.args.first c.args.count c.args.s.now c.requires.0 c.presence_bits-presence.ensures c.if-end-from.false c.unread_marks-marks.result refl (search rules) c.unread_marks-marks.ensures c.read_members.ensures

pub read_member-returns-then-bit-eq0 : goal.read_member-returns-then-bit-eq0
read_member-returns-then-bit-eq0 t c =
    absent (λ j. format_at c.args.left c.args.nodes.now j) c.args.node c.args.k c.args.s.now c.args.q c.requires.0 c.in-Optional.is c.bit.ensures c.if-bit-eq0.true

pub read_member-returns-else-bit-eq0 : goal.read_member-returns-else-bit-eq0
read_member-returns-else-bit-eq0 t c =
    present (λ j. format_at c.args.left c.args.nodes.now j) c.args.node c.args.k c.args.s.now c.args.q c.requires.0 c.in-Optional.is c.bit.ensures c.if-bit-eq0.false c.read_node.ensures

pub read_member-returns-then-bit-eq0-2 : goal.read_member-returns-then-bit-eq0-2
read_member-returns-then-bit-eq0-2 t c =
    not_there (λ j. format_at c.args.left c.args.nodes.now j) c.args.node c.args.k c.args.s.now c.args.q c.requires.0 c.in-Unread.is c.bit-in-Unread.ensures c.if-bit-eq0-2.true

pub read_member-returns-else-bit-eq0-2 : goal.read_member-returns-else-bit-eq0-2
read_member-returns-else-bit-eq0-2 t c =
    not-read (λ j. format_at c.args.left c.args.nodes.now j) c.args.node c.args.k c.args.s.now c.args.q c.requires.0 c.in-Unread.is c.bit-in-Unread.ensures c.if-bit-eq0-2.false c.note_unread.ensures

pub read_member-returns-in_default : goal.read_member-returns-in_default
read_member-returns-in_default t c =
    required (λ j. format_at c.args.left c.args.nodes.now j) c.args.node c.args.k c.args.s.now c.args.q c.requires.0 c.in_default.not-Optional c.in_default.not-Unread c.read_node-in_default.ensures

pub read_node-read_leaf-requires : goal.read_node-read_leaf-requires
read_node-read_leaf-requires t c = (c.requires.0, its_fits c.args.nodes.now c.requires.1 (search rules) c.args.k (rw c.in-Leaf.is at c.node_at.ensures))

pub read_node-returns-in-Leaf : goal.read_node-returns-in-Leaf
read_node-returns-in-Leaf t c = leaf_node c.args.nodes.now c.args.left c.args.k c.if-left-eq0.false c.args.s.now (rw c.in-Leaf.is at c.node_at.ensures) c.read_leaf.ensures

pub read_node-read_sequence-requires : goal.read_node-read_sequence-requires
read_node-read_sequence-requires t c =
    (omega (arith, c.decreases, c.if-left-eq0.false), (c.requires.0, c.requires.1, omega (arith, c.requires.2), sequence-nodes c.args.nodes.now c.requires.1 (search rules) c.args.k (rw c.in-Sequence.is at c.node_at.ensures) (search rules)))

pub read_node-returns-in-Sequence : goal.read_node-returns-in-Sequence
read_node-returns-in-Sequence t c = sequence-node c.args.nodes.now c.args.left c.args.k c.if-left-eq0.false c.args.s.now (rw c.in-Sequence.is at c.node_at.ensures) c.read_sequence.ensures

pub read_node-read_choice-requires : goal.read_node-read_choice-requires
read_node-read_choice-requires t c =
    let z = choice_nodes c.args.nodes.now c.requires.1 (search rules) c.args.k (rw c.in-Choice.is at c.node_at.ensures) (search rules) in
    (omega (arith, c.decreases, c.if-left-eq0.false), (c.requires.0, c.requires.1, omega (arith, c.requires.2), z.0, z.1))

pub read_node-returns-in-Choice : goal.read_node-returns-in-Choice
read_node-returns-in-Choice t c = choice_node c.args.nodes.now c.args.left c.args.k c.if-left-eq0.false c.args.s.now (rw c.in-Choice.is at c.node_at.ensures) c.read_choice.ensures

pub read_node-returns-in-NoReader : goal.read_node-returns-in-NoReader
read_node-returns-in-NoReader t c = unread-node c.args.nodes.now c.args.left c.args.k c.if-left-eq0.false c.args.s.now c.args.words.now c.requires.0.inside.0 (rw c.in-NoReader.is at c.node_at.ensures) c.refuse-in-NoReader.ensures

pub read_node-returns-in-Unlisted : goal.read_node-returns-in-Unlisted
read_node-returns-in-Unlisted t c = unlisted-node c.args.nodes.now c.args.left c.args.k c.if-left-eq0.false c.args.s.now c.args.words.now c.requires.0.inside.0 (rw c.in-Unlisted.is at c.node_at.ensures) c.refuse-in-Unlisted.ensures

pub read_node-returns-in-Extension : goal.read_node-returns-in-Extension
read_node-returns-in-Extension t c = extension-node c.args.nodes.now c.args.left c.args.k c.if-left-eq0.false c.args.s.now (rw c.in-Extension.is at c.node_at.ensures) c.read_extension.ensures

pub read_node-returns-in-Headed : goal.read_node-returns-in-Headed
read_node-returns-in-Headed t c = headed-node c.args.nodes.now c.args.left c.args.k c.if-left-eq0.false c.args.s.now (rw c.in-Headed.is at c.node_at.ensures) (headed (format_at (c.args.left - 1) c.args.nodes.now c.in-Headed.node) c.in-Headed.tag c.args.s.now c.requires.0 (search rules) c.emit-n.ensures c.read_node.ensures)

pub read_node-returns-in-Other : goal.read_node-returns-in-Other
read_node-returns-in-Other t c = same-node c.args.nodes.now c.args.left c.args.k c.if-left-eq0.false c.args.s.now (rw c.in-Other.is at c.node_at.ensures) c.read_node-in-Other.ensures

pub read_node-returns-in-Unknown : goal.read_node-returns-in-Unknown
read_node-returns-in-Unknown t c = unknown_node c.args.nodes.now c.args.left c.args.k c.if-left-eq0.false c.args.s.now c.args.words.now c.requires.0.inside.0 (rw c.in-Unknown.is at c.node_at.ensures) c.refuse-in-Unknown.ensures

pub read_node-read_sequence-requires-in-Optional : goal.read_node-read_sequence-requires-in-Optional
read_node-read_sequence-requires-in-Optional t c =
    (omega (arith, c.decreases, c.if-left-eq0.false), (c.requires.0, c.requires.1, omega (arith, c.requires.2), alone-nodes c.args.nodes.now c.requires.1 (search rules) c.args.k c.node_at.ensures c.in-Optional.is))

pub read_node-returns-in-Optional : goal.read_node-returns-in-Optional
read_node-returns-in-Optional t c = alone-node c.args.nodes.now c.args.left c.args.k c.if-left-eq0.false c.args.s.now c.node_at.ensures c.in-Optional.is c.read_sequence-in-Optional.ensures
