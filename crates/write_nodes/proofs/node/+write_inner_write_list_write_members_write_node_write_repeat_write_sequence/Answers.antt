use mathlib.Core.Path.{refl, sym, ◌∙◌}
use mathlib.Core.List.{[]}
use Prim.Native.Nat.{◌+◌, ◌-◌}
use native.Mathlib.Omega.{arith}
use Rattle.x691.specs.Bits.{bit_of}
use Rattle.node_tables.specs.Nodes.{format_at, members_from}
use Rattle.node_tables.specs.Sure.{sure_at}
use Rattle.pens.proofs.PartLaws.{short-length, long-length, inner_refused, inner_long, inner_goes}
use Rattle.pens.proofs.MemberLaws.{seq_part}
use Rattle.pens.proofs.ListLaws.{many_part, many_few, many_refused}
use Rattle.pens.specs.Stand.{before, refused}
use Rattle.pens.proofs.GotLaws.{went_off}
use Rattle.write_leaves.proofs.LeafLaws.{part_as, no_part}
use Rattle.write_steps.proofs.MeetLaws.{met_some, met_none}
use Rattle.write_nodes.proofs.NodeLaws.{format_none, format_step, sure_step, members_step, sure-members, leaf_sure, above_sure, seq_sure, loose_sure, many_sure, inner_sure, seq_format, loose_format, many_format, inner_format, hollow_part, loose_as_seq, above, few-flags}
use Rattle.write_nodes.proofs.KnotLaws.{skips_as, size_fits, put-size, members_as, no_members, noted-tag, repeat_none, repeat_end, repeat_more, repeat_lost, repeats_off, members_off, repeated_off}
use Rattle.write_nodes.proofs.node.+write_inner_write_list_write_members_write_node_write_repeat_write_sequence.Goals as goal

pub write_inner-returns : goal.write_inner-returns
write_inner-returns t c =
    inner_goes (bit_of c.args.walk.lent.src.now) _ _ _ (format_at c.args.g c.args.walk.nodes.now c.args.walk.tables.down.now c.args.walk.tables.up.now c.args.k) (before c.args.p) _ (before c.in_ok-t.t) _ _ refl refl refl c.in_ok-t.ensures c.requires.2 16 _ _ _ _ _ _ c.if-n-ge16384.false (long-length _ c.if-n-lt128.false c.if-n-ge16384.false) c.ink-q-2.ensures c.write_node-2.ensures

pub write_inner-returns-in_err-t : goal.write_inner-returns-in_err-t
write_inner-returns-in_err-t t c =
    rw (went_off _ c.from_residual.result c.from_residual.ensures.1)
    (inner_refused (bit_of c.args.walk.lent.src.now) _ _ _ (format_at c.args.g c.args.walk.nodes.now c.args.walk.tables.down.now c.args.walk.tables.up.now c.args.k) (before c.args.p) _ refused _ _ refl refl refl c.in_err-t.ensures c.requires.2 _ _ refused (λ _. refl) refl)

pub write_inner-returns-then-n-ge16384 : goal.write_inner-returns-then-n-ge16384
write_inner-returns-then-n-ge16384 t c =
    inner_long (bit_of c.args.walk.lent.src.now) _ _ _ (format_at c.args.g c.args.walk.nodes.now c.args.walk.tables.down.now c.args.walk.tables.up.now c.args.k) (before c.args.p) _ (before c.in_ok-t.t) _ _ refl refl refl c.in_ok-t.ensures c.requires.2 _ _ _ c.if-n-ge16384.true refl

pub write_inner-returns-then-n-lt128 : goal.write_inner-returns-then-n-lt128
write_inner-returns-then-n-lt128 t c =
    inner_goes (bit_of c.args.walk.lent.src.now) _ _ _ (format_at c.args.g c.args.walk.nodes.now c.args.walk.tables.down.now c.args.walk.tables.up.now c.args.k) (before c.args.p) _ (before c.in_ok-t.t) _ _ refl refl refl c.in_ok-t.ensures c.requires.2 8 _ _ _ _ _ _ c.if-n-ge16384.false (short-length _ c.if-n-lt128.true) c.ink-q.ensures c.write_node-then-n-lt128.ensures

pub write_list-put_at-requires : goal.write_list-put_at-requires
write_list-put_at-requires t c =
    (c.bits_for-w.ensures.1, size_fits c.args.lo c.args.hi c.in_ok-t.t.value c.requires.1 c.in_ok-t.ensures.few c.bits_for-w.ensures.0)

pub write_list-returns : goal.write_list-returns
write_list-returns t c =
    many_part (bit_of c.args.walk.lent.src.now) _ _ _ c.args.lo c.args.hi (format_at c.args.g c.args.walk.nodes.now c.args.walk.tables.down.now c.args.walk.tables.up.now c.args.k) (before c.args.p) _ _ _ _ _ _ (skips_as c.bits_for-w.ensures.0 c.skip-q.ensures) c.in_ok-t.ensures c.if-count-lo.false (put-size (before c.args.p) _ _ _ _ _ _ c.place-at.ensures.0 c.place-at.ensures.1 c.bits_for-w.ensures.0 c.put_at.ensures)

pub write_list-returns-in_err-t : goal.write_list-returns-in_err-t
write_list-returns-in_err-t t c =
    rw (went_off _ c.from_residual.result c.from_residual.ensures.1)
    (many_refused (bit_of c.args.walk.lent.src.now) _ _ _ c.args.lo c.args.hi (format_at c.args.g c.args.walk.nodes.now c.args.walk.tables.down.now c.args.walk.tables.up.now c.args.k) (before c.args.p) _ _ _ _ _ _ (skips_as c.bits_for-w.ensures.0 c.skip-q.ensures) c.in_err-t.ensures refused refl refl)

pub write_list-returns-then-count-lo : goal.write_list-returns-then-count-lo
write_list-returns-then-count-lo t c =
    many_few (bit_of c.args.walk.lent.src.now) _ _ _ c.args.lo c.args.hi (format_at c.args.g c.args.walk.nodes.now c.args.walk.tables.down.now c.args.walk.tables.up.now c.args.k) (before c.args.p) _ _ _ _ _ _ (skips_as c.bits_for-w.ensures.0 c.skip-q.ensures) c.in_ok-t.ensures _ c.if-count-lo.true refl

pub write_members-meet-t-requires : goal.write_members-meet-t-requires
write_members-meet-t-requires t c =
    (omega (arith, c.requires.3), noted-tag (λ j. format_at c.args.g c.args.walk.nodes.now c.args.walk.tables.down.now c.args.walk.tables.up.now j) (λ j. sure_at c.args.g c.args.walk.nodes.now c.args.walk.tables.down.now c.args.walk.tables.up.now j) _ _ _ _ _ (sure-members c.args.walk.nodes.now c.args.walk.tables.down.now c.args.walk.tables.up.now (λ j. format_at c.args.g c.args.walk.nodes.now c.args.walk.tables.down.now c.args.walk.tables.up.now j) (λ j. sure_at c.args.g c.args.walk.nodes.now c.args.walk.tables.down.now c.args.walk.tables.up.now j) c.args.k c.args.n c.node_at-node.result c.if-n-eq0.false c.node_at-node.ensures c.requires.4).0)

pub write_members-returns : goal.write_members-returns
write_members-returns t c =
    members_as _ _ _ _ _ _ _ _ _ _ _ (members_step c.args.walk.nodes.now c.args.walk.tables.down.now c.args.walk.tables.up.now (λ j. format_at c.args.g c.args.walk.nodes.now c.args.walk.tables.down.now c.args.walk.tables.up.now j) c.args.k c.args.n c.node_at-node.result c.if-n-eq0.false c.node_at-node.ensures) ((rw (met_none {t = c.meet-t.result} c.in_default.is) at (c.meet-t.ensures.0 (λ j. format_at c.args.g c.args.walk.nodes.now c.args.walk.tables.down.now c.args.walk.tables.up.now j) (λ j. sure_at c.args.g c.args.walk.nodes.now c.args.walk.tables.down.now c.args.walk.tables.up.now j) (members_from (λ j. format_at c.args.g c.args.walk.nodes.now c.args.walk.tables.down.now c.args.walk.tables.up.now j) c.args.walk.nodes.now (c.args.k + 1) (c.args.n - 1)) c.args.y (bit_of c.args.walk.lent.src.now) (sure-members c.args.walk.nodes.now c.args.walk.tables.down.now c.args.walk.tables.up.now (λ j. format_at c.args.g c.args.walk.nodes.now c.args.walk.tables.down.now c.args.walk.tables.up.now j) (λ j. sure_at c.args.g c.args.walk.nodes.now c.args.walk.tables.down.now c.args.walk.tables.up.now j) c.args.k c.args.n c.node_at-node.result c.if-n-eq0.false c.node_at-node.ensures c.requires.4).0)).without refl _ _ c.write_members-2.ensures)

pub write_members-returns-in-Some : goal.write_members-returns-in-Some
write_members-returns-in-Some t c =
    members_as _ _ _ _ _ _ _ _ _ _ _ (members_step c.args.walk.nodes.now c.args.walk.tables.down.now c.args.walk.tables.up.now (λ j. format_at c.args.g c.args.walk.nodes.now c.args.walk.tables.down.now c.args.walk.tables.up.now j) c.args.k c.args.n c.node_at-node.result c.if-n-eq0.false c.node_at-node.ensures) ((rw (met_some {t = c.meet-t.result} {k = c.in-Some.part} c.in-Some.is) at (c.meet-t.ensures.0 (λ j. format_at c.args.g c.args.walk.nodes.now c.args.walk.tables.down.now c.args.walk.tables.up.now j) (λ j. sure_at c.args.g c.args.walk.nodes.now c.args.walk.tables.down.now c.args.walk.tables.up.now j) (members_from (λ j. format_at c.args.g c.args.walk.nodes.now c.args.walk.tables.down.now c.args.walk.tables.up.now j) c.args.walk.nodes.now (c.args.k + 1) (c.args.n - 1)) c.args.y (bit_of c.args.walk.lent.src.now) (sure-members c.args.walk.nodes.now c.args.walk.tables.down.now c.args.walk.tables.up.now (λ j. format_at c.args.g c.args.walk.nodes.now c.args.walk.tables.down.now c.args.walk.tables.up.now j) (λ j. sure_at c.args.g c.args.walk.nodes.now c.args.walk.tables.down.now c.args.walk.tables.up.now j) c.args.k c.args.n c.node_at-node.result c.if-n-eq0.false c.node_at-node.ensures c.requires.4).0)).with refl _ _ _ _ c.in_ok-s.ensures c.write_members.ensures)

pub write_members-returns-in_err-s : goal.write_members-returns-in_err-s
write_members-returns-in_err-s t c =
    rw (went_off _ c.from_residual.result c.from_residual.ensures.1)
    (members_as _ _ _ _ _ _ _ _ _ _ _ (members_step c.args.walk.nodes.now c.args.walk.tables.down.now c.args.walk.tables.up.now (λ j. format_at c.args.g c.args.walk.nodes.now c.args.walk.tables.down.now c.args.walk.tables.up.now j) c.args.k c.args.n c.node_at-node.result c.if-n-eq0.false c.node_at-node.ensures) ((rw (met_some {t = c.meet-t.result} {k = c.in-Some.part} c.in-Some.is) at (c.meet-t.ensures.0 (λ j. format_at c.args.g c.args.walk.nodes.now c.args.walk.tables.down.now c.args.walk.tables.up.now j) (λ j. sure_at c.args.g c.args.walk.nodes.now c.args.walk.tables.down.now c.args.walk.tables.up.now j) (members_from (λ j. format_at c.args.g c.args.walk.nodes.now c.args.walk.tables.down.now c.args.walk.tables.up.now j) c.args.walk.nodes.now (c.args.k + 1) (c.args.n - 1)) c.args.y (bit_of c.args.walk.lent.src.now) (sure-members c.args.walk.nodes.now c.args.walk.tables.down.now c.args.walk.tables.up.now (λ j. format_at c.args.g c.args.walk.nodes.now c.args.walk.tables.down.now c.args.walk.tables.up.now j) (λ j. sure_at c.args.g c.args.walk.nodes.now c.args.walk.tables.down.now c.args.walk.tables.up.now j) c.args.k c.args.n c.node_at-node.result c.if-n-eq0.false c.node_at-node.ensures c.requires.4).0)).with refl _ _ _ _ c.in_err-s.ensures (members_off _ _ _ _ _ _ _)))

pub write_members-returns-then-n-eq0 : goal.write_members-returns-then-n-eq0
write_members-returns-then-n-eq0 t c =
    no_members (λ j. format_at c.args.g c.args.walk.nodes.now c.args.walk.tables.down.now c.args.walk.tables.up.now j) c.args.walk.nodes.now c.args.k c.args.n _ _ _ _ _ _ _ c.if-n-eq0.true

pub write_members-write_members-requires : goal.write_members-write_members-requires
write_members-write_members-requires t c =
    (omega (arith, c.decreases, c.if-n-eq0.false), (c.requires.0, omega (arith, c.requires.1, c.if-n-eq0.false), omega (arith, c.requires.2), omega (arith, c.requires.3, c.meet-t.ensures.1, c.if-n-eq0.false), (sure-members c.args.walk.nodes.now c.args.walk.tables.down.now c.args.walk.tables.up.now (λ j. format_at c.args.g c.args.walk.nodes.now c.args.walk.tables.down.now c.args.walk.tables.up.now j) (λ j. sure_at c.args.g c.args.walk.nodes.now c.args.walk.tables.down.now c.args.walk.tables.up.now j) c.args.k c.args.n c.node_at-node.result c.if-n-eq0.false c.node_at-node.ensures c.requires.4).1))

pub write_members-write_members-requires-2 : goal.write_members-write_members-requires-2
write_members-write_members-requires-2 t c =
    (omega (arith, c.decreases, c.if-n-eq0.false), (c.requires.0, omega (arith, c.requires.1, c.if-n-eq0.false), omega (arith, c.requires.2), omega (arith, c.requires.3, c.meet-t.ensures.1, c.if-n-eq0.false), (sure-members c.args.walk.nodes.now c.args.walk.tables.down.now c.args.walk.tables.up.now (λ j. format_at c.args.g c.args.walk.nodes.now c.args.walk.tables.down.now c.args.walk.tables.up.now j) (λ j. sure_at c.args.g c.args.walk.nodes.now c.args.walk.tables.down.now c.args.walk.tables.up.now j) c.args.k c.args.n c.node_at-node.result c.if-n-eq0.false c.node_at-node.ensures c.requires.4).1))

pub write_members-write_node-requires : goal.write_members-write_node-requires
write_members-write_node-requires t c =
    (omega (arith, c.decreases), (c.requires.0, (rw (met_some {t = c.meet-t.result} {k = c.in-Some.part} c.in-Some.is) at (c.meet-t.ensures.0 (λ j. format_at c.args.g c.args.walk.nodes.now c.args.walk.tables.down.now c.args.walk.tables.up.now j) (λ j. sure_at c.args.g c.args.walk.nodes.now c.args.walk.tables.down.now c.args.walk.tables.up.now j) (members_from (λ j. format_at c.args.g c.args.walk.nodes.now c.args.walk.tables.down.now c.args.walk.tables.up.now j) c.args.walk.nodes.now (c.args.k + 1) (c.args.n - 1)) c.args.y (bit_of c.args.walk.lent.src.now) (sure-members c.args.walk.nodes.now c.args.walk.tables.down.now c.args.walk.tables.up.now (λ j. format_at c.args.g c.args.walk.nodes.now c.args.walk.tables.down.now c.args.walk.tables.up.now j) (λ j. sure_at c.args.g c.args.walk.nodes.now c.args.walk.tables.down.now c.args.walk.tables.up.now j) c.args.k c.args.n c.node_at-node.result c.if-n-eq0.false c.node_at-node.ensures c.requires.4).0)).sure refl))

pub write_node-lead-requires : goal.write_node-lead-requires
write_node-lead-requires t c =
    ((above c.if-kind-lt8.false c.if-kind-gt19.false c.if-kind-eq12.false c.if-kind-eq13.false c.if-kind-eq16.false c.if-kind-eq17.false), above_sure (λ j. format_at (c.args.depth - 1) c.args.walk.nodes.now c.args.walk.tables.down.now c.args.walk.tables.up.now j) (λ j. sure_at (c.args.depth - 1) c.args.walk.nodes.now c.args.walk.tables.down.now c.args.walk.tables.up.now j) c.args.walk.nodes.now _ _ _ _ _ _ (above c.if-kind-lt8.false c.if-kind-gt19.false c.if-kind-eq12.false c.if-kind-eq13.false c.if-kind-eq16.false c.if-kind-eq17.false) (sure_step c.args.walk.nodes.now c.args.walk.tables.down.now c.args.walk.tables.up.now c.args.depth c.args.k c.node_at-n.result c.if-depth-eq0.false c.node_at-n.ensures c.requires.1))

pub write_node-returns : goal.write_node-returns
write_node-returns t c =
    part_as _ _ _ _ _ _ _ _ _ _ (format_step c.args.walk.nodes.now c.args.walk.tables.down.now c.args.walk.tables.up.now c.args.depth c.args.k c.node_at-n.result c.if-depth-eq0.false c.node_at-n.ensures) ((c.in_ok-l.ensures (λ j. format_at (c.args.depth - 1) c.args.walk.nodes.now c.args.walk.tables.down.now c.args.walk.tables.up.now j) (λ j. sure_at (c.args.depth - 1) c.args.walk.nodes.now c.args.walk.tables.down.now c.args.walk.tables.up.now j) c.args.walk.nodes.now (bit_of c.args.walk.lent.src.now) (sure_step c.args.walk.nodes.now c.args.walk.tables.down.now c.args.walk.tables.up.now c.args.depth c.args.k c.node_at-n.result c.if-depth-eq0.false c.node_at-n.ensures c.requires.1)).goes _ _ c.write_node.ensures)

pub write_node-returns-in_err-l : goal.write_node-returns-in_err-l
write_node-returns-in_err-l t c =
    rw (went_off _ c.from_residual.result c.from_residual.ensures.1)
    (part_as _ _ _ _ _ _ _ _ _ _ (format_step c.args.walk.nodes.now c.args.walk.tables.down.now c.args.walk.tables.up.now c.args.depth c.args.k c.node_at-n.result c.if-depth-eq0.false c.node_at-n.ensures) (c.in_err-l.ensures (λ j. format_at (c.args.depth - 1) c.args.walk.nodes.now c.args.walk.tables.down.now c.args.walk.tables.up.now j) (λ j. sure_at (c.args.depth - 1) c.args.walk.nodes.now c.args.walk.tables.down.now c.args.walk.tables.up.now j) c.args.walk.nodes.now (bit_of c.args.walk.lent.src.now) (sure_step c.args.walk.nodes.now c.args.walk.tables.down.now c.args.walk.tables.up.now c.args.depth c.args.k c.node_at-n.result c.if-depth-eq0.false c.node_at-n.ensures c.requires.1) _))

pub write_node-returns-then-depth-eq0 : goal.write_node-returns-then-depth-eq0
write_node-returns-then-depth-eq0 t c =
    part_as _ _ _ _ _ _ _ _ _ _ (format_none c.args.walk.nodes.now c.args.walk.tables.down.now c.args.walk.tables.up.now c.args.depth c.args.k c.if-depth-eq0.true) (no_part _ _ _ _ _ _ _ _ refl)

pub write_node-returns-then-kind-eq12 : goal.write_node-returns-then-kind-eq12
write_node-returns-then-kind-eq12 t c =
    part_as _ _ _ _ _ _ _ _ _ _ ((format_step c.args.walk.nodes.now c.args.walk.tables.down.now c.args.walk.tables.up.now c.args.depth c.args.k c.node_at-n.result c.if-depth-eq0.false c.node_at-n.ensures) ∙ seq_format (λ j. format_at (c.args.depth - 1) c.args.walk.nodes.now c.args.walk.tables.down.now c.args.walk.tables.up.now j) c.args.walk.nodes.now c.args.walk.tables.down.now c.args.walk.tables.up.now _ _ _ _ _ _ c.if-kind-eq12.true) c.write_sequence.ensures

pub write_node-returns-then-kind-eq13 : goal.write_node-returns-then-kind-eq13
write_node-returns-then-kind-eq13 t c =
    part_as _ _ _ _ _ _ _ _ _ _ ((format_step c.args.walk.nodes.now c.args.walk.tables.down.now c.args.walk.tables.up.now c.args.depth c.args.k c.node_at-n.result c.if-depth-eq0.false c.node_at-n.ensures) ∙ loose_format (λ j. format_at (c.args.depth - 1) c.args.walk.nodes.now c.args.walk.tables.down.now c.args.walk.tables.up.now j) c.args.walk.nodes.now c.args.walk.tables.down.now c.args.walk.tables.up.now _ _ _ _ _ _ c.if-kind-eq13.true) (loose_as_seq (members_from (λ j. format_at (c.args.depth - 1) c.args.walk.nodes.now c.args.walk.tables.down.now c.args.walk.tables.up.now j) c.args.walk.nodes.now c.node_at-n.result.a c.node_at-n.result.b) _ _ _ _ _ _ _ _ c.write_sequence-then-kind-eq13.ensures)

pub write_node-returns-then-kind-eq16 : goal.write_node-returns-then-kind-eq16
write_node-returns-then-kind-eq16 t c =
    part_as _ _ _ _ _ _ _ _ _ _ ((format_step c.args.walk.nodes.now c.args.walk.tables.down.now c.args.walk.tables.up.now c.args.depth c.args.k c.node_at-n.result c.if-depth-eq0.false c.node_at-n.ensures) ∙ many_format (λ j. format_at (c.args.depth - 1) c.args.walk.nodes.now c.args.walk.tables.down.now c.args.walk.tables.up.now j) c.args.walk.nodes.now c.args.walk.tables.down.now c.args.walk.tables.up.now _ _ _ _ _ _ c.if-kind-eq16.true) c.write_list.ensures

pub write_node-returns-then-kind-eq17 : goal.write_node-returns-then-kind-eq17
write_node-returns-then-kind-eq17 t c =
    part_as _ _ _ _ _ _ _ _ _ _ ((format_step c.args.walk.nodes.now c.args.walk.tables.down.now c.args.walk.tables.up.now c.args.depth c.args.k c.node_at-n.result c.if-depth-eq0.false c.node_at-n.ensures) ∙ inner_format (λ j. format_at (c.args.depth - 1) c.args.walk.nodes.now c.args.walk.tables.down.now c.args.walk.tables.up.now j) c.args.walk.nodes.now c.args.walk.tables.down.now c.args.walk.tables.up.now _ _ _ _ _ _ c.if-kind-eq17.true) c.write_inner.ensures

pub write_node-returns-then-kind-gt19 : goal.write_node-returns-then-kind-gt19
write_node-returns-then-kind-gt19 t c =
    part_as _ _ _ _ _ _ _ _ _ _ (format_step c.args.walk.nodes.now c.args.walk.tables.down.now c.args.walk.tables.up.now c.args.depth c.args.k c.node_at-n.result c.if-depth-eq0.false c.node_at-n.ensures) (hollow_part (λ j. format_at (c.args.depth - 1) c.args.walk.nodes.now c.args.walk.tables.down.now c.args.walk.tables.up.now j) c.args.walk.nodes.now c.args.walk.tables.down.now c.args.walk.tables.up.now _ _ _ _ _ _ _ _ _ _ _ _ _ _ c.if-kind-gt19.true refl)

pub write_node-returns-then-kind-lt8 : goal.write_node-returns-then-kind-lt8
write_node-returns-then-kind-lt8 t c =
    part_as _ _ _ _ _ _ _ _ _ _ (format_step c.args.walk.nodes.now c.args.walk.tables.down.now c.args.walk.tables.up.now c.args.depth c.args.k c.node_at-n.result c.if-depth-eq0.false c.node_at-n.ensures) (c.write_leaf.ensures (λ j. format_at (c.args.depth - 1) c.args.walk.nodes.now c.args.walk.tables.down.now c.args.walk.tables.up.now j) c.args.walk.nodes.now c.args.walk.tables.down.now c.args.walk.tables.up.now c.args.y)

pub write_node-write_inner-requires : goal.write_node-write_inner-requires
write_node-write_inner-requires t c =
    let z = inner_sure (λ j. format_at (c.args.depth - 1) c.args.walk.nodes.now c.args.walk.tables.down.now c.args.walk.tables.up.now j) (λ j. sure_at (c.args.depth - 1) c.args.walk.nodes.now c.args.walk.tables.down.now c.args.walk.tables.up.now j) c.args.walk.nodes.now _ _ _ _ _ _ c.if-kind-eq17.true (sure_step c.args.walk.nodes.now c.args.walk.tables.down.now c.args.walk.tables.up.now c.args.depth c.args.k c.node_at-n.result c.if-depth-eq0.false c.node_at-n.ensures c.requires.1) in (omega (arith, c.decreases, c.if-depth-eq0.false), (omega (arith, c.requires.0), z.1, z.0))

pub write_node-write_leaf-requires : goal.write_node-write_leaf-requires
write_node-write_leaf-requires t c =
    (c.if-kind-lt8.true, leaf_sure (λ j. format_at (c.args.depth - 1) c.args.walk.nodes.now c.args.walk.tables.down.now c.args.walk.tables.up.now j) (λ j. sure_at (c.args.depth - 1) c.args.walk.nodes.now c.args.walk.tables.down.now c.args.walk.tables.up.now j) c.args.walk.nodes.now _ _ _ _ _ _ c.if-kind-lt8.true (sure_step c.args.walk.nodes.now c.args.walk.tables.down.now c.args.walk.tables.up.now c.args.depth c.args.k c.node_at-n.result c.if-depth-eq0.false c.node_at-n.ensures c.requires.1))

pub write_node-write_list-requires : goal.write_node-write_list-requires
write_node-write_list-requires t c =
    let z = many_sure (λ j. format_at (c.args.depth - 1) c.args.walk.nodes.now c.args.walk.tables.down.now c.args.walk.tables.up.now j) (λ j. sure_at (c.args.depth - 1) c.args.walk.nodes.now c.args.walk.tables.down.now c.args.walk.tables.up.now j) c.args.walk.nodes.now _ _ _ _ _ _ c.if-kind-eq16.true (sure_step c.args.walk.nodes.now c.args.walk.tables.down.now c.args.walk.tables.up.now c.args.depth c.args.k c.node_at-n.result c.if-depth-eq0.false c.node_at-n.ensures c.requires.1) in (omega (arith, c.decreases, c.if-depth-eq0.false), (omega (arith, c.requires.0), z.0, z.1, z.2, z.3))

pub write_node-write_node-requires : goal.write_node-write_node-requires
write_node-write_node-requires t c =
    (omega (arith, c.decreases, c.if-depth-eq0.false), (omega (arith, c.requires.0), (c.in_ok-l.ensures (λ j. format_at (c.args.depth - 1) c.args.walk.nodes.now c.args.walk.tables.down.now c.args.walk.tables.up.now j) (λ j. sure_at (c.args.depth - 1) c.args.walk.nodes.now c.args.walk.tables.down.now c.args.walk.tables.up.now j) c.args.walk.nodes.now (bit_of c.args.walk.lent.src.now) (sure_step c.args.walk.nodes.now c.args.walk.tables.down.now c.args.walk.tables.up.now c.args.depth c.args.k c.node_at-n.result c.if-depth-eq0.false c.node_at-n.ensures c.requires.1)).sure))

pub write_node-write_sequence-requires : goal.write_node-write_sequence-requires
write_node-write_sequence-requires t c =
    let z = (seq_sure (λ j. format_at (c.args.depth - 1) c.args.walk.nodes.now c.args.walk.tables.down.now c.args.walk.tables.up.now j) (λ j. sure_at (c.args.depth - 1) c.args.walk.nodes.now c.args.walk.tables.down.now c.args.walk.tables.up.now j) c.args.walk.nodes.now _ _ _ _ _ _ c.if-kind-eq12.true (sure_step c.args.walk.nodes.now c.args.walk.tables.down.now c.args.walk.tables.up.now c.args.depth c.args.k c.node_at-n.result c.if-depth-eq0.false c.node_at-n.ensures c.requires.1)) in (omega (arith, c.decreases, c.if-depth-eq0.false), (omega (arith, c.requires.0), z.0, z.1, omega (arith, z.1, z.2, few-flags (λ j. format_at (c.args.depth - 1) c.args.walk.nodes.now c.args.walk.tables.down.now c.args.walk.tables.up.now j) c.args.walk.nodes.now c.node_at-n.result.a c.node_at-n.result.b), z.2, z.3))

pub write_node-write_sequence-requires-then-kind-eq13 : goal.write_node-write_sequence-requires-then-kind-eq13
write_node-write_sequence-requires-then-kind-eq13 t c =
    let z = (loose_sure (λ j. format_at (c.args.depth - 1) c.args.walk.nodes.now c.args.walk.tables.down.now c.args.walk.tables.up.now j) (λ j. sure_at (c.args.depth - 1) c.args.walk.nodes.now c.args.walk.tables.down.now c.args.walk.tables.up.now j) c.args.walk.nodes.now _ _ _ _ _ _ c.if-kind-eq13.true (sure_step c.args.walk.nodes.now c.args.walk.tables.down.now c.args.walk.tables.up.now c.args.depth c.args.k c.node_at-n.result c.if-depth-eq0.false c.node_at-n.ensures c.requires.1)) in (omega (arith, c.decreases, c.if-depth-eq0.false), (omega (arith, c.requires.0), z.0, z.1, omega (arith, z.1, z.2, few-flags (λ j. format_at (c.args.depth - 1) c.args.walk.nodes.now c.args.walk.tables.down.now c.args.walk.tables.up.now j) c.args.walk.nodes.now c.node_at-n.result.a c.node_at-n.result.b), z.2, z.3))

pub write_repeat-returns : goal.write_repeat-returns
write_repeat-returns t c =
    repeat_end (format_at c.args.g c.args.walk.nodes.now c.args.walk.tables.down.now c.args.walk.tables.up.now c.args.k) c.args.tag c.args.x c.args.i c.args.n (bit_of c.args.walk.lent.src.now) _ _ (before c.args.p) (before c.args.p) (before c.args.p) _ [] [] c.if-n-eq0.false c.requires.3 _ (c.is_tagged.ensures (bit_of c.args.walk.lent.src.now)) c.if-is_tagged.false

pub write_repeat-returns-in_err-q : goal.write_repeat-returns-in_err-q
write_repeat-returns-in_err-q t c =
    rw (repeated_off _ c.from_residual.result c.from_residual.ensures.1)
    (repeat_lost (format_at c.args.g c.args.walk.nodes.now c.args.walk.tables.down.now c.args.walk.tables.up.now c.args.k) c.args.tag c.args.x c.args.i c.args.n (bit_of c.args.walk.lent.src.now) _ _ (before c.args.p) refused refused _ [] _ _ (repeat_more (format_at c.args.g c.args.walk.nodes.now c.args.walk.tables.down.now c.args.walk.tables.up.now c.args.k) c.args.tag c.args.x c.args.i c.args.n (bit_of c.args.walk.lent.src.now) _ _ (before c.args.p) _ refused _ _ _ _ c.if-n-eq0.false c.requires.3 _ (c.is_tagged.ensures (bit_of c.args.walk.lent.src.now)) c.if-is_tagged.true c.in_err-q.ensures (repeats_off _ _ _ _ _ _ _ _)) refl)

pub write_repeat-returns-in_err-t : goal.write_repeat-returns-in_err-t
write_repeat-returns-in_err-t t c =
    rw (repeated_off _ c.from_residual-in_err-t.result c.from_residual-in_err-t.ensures.1)
    (repeat_lost (format_at c.args.g c.args.walk.nodes.now c.args.walk.tables.down.now c.args.walk.tables.up.now c.args.k) c.args.tag c.args.x c.args.i c.args.n (bit_of c.args.walk.lent.src.now) _ _ (before c.args.p) refused refused _ [] _ _ (repeat_more (format_at c.args.g c.args.walk.nodes.now c.args.walk.tables.down.now c.args.walk.tables.up.now c.args.k) c.args.tag c.args.x c.args.i c.args.n (bit_of c.args.walk.lent.src.now) _ _ (before c.args.p) _ refused _ _ _ _ c.if-n-eq0.false c.requires.3 _ (c.is_tagged.ensures (bit_of c.args.walk.lent.src.now)) c.if-is_tagged.true c.in_ok-q.ensures c.in_err-t.ensures) refl)

pub write_repeat-returns-then-is_tagged : goal.write_repeat-returns-then-is_tagged
write_repeat-returns-then-is_tagged t c =
    repeat_more (format_at c.args.g c.args.walk.nodes.now c.args.walk.tables.down.now c.args.walk.tables.up.now c.args.k) c.args.tag c.args.x c.args.i c.args.n (bit_of c.args.walk.lent.src.now) _ _ (before c.args.p) _ _ _ _ _ _ c.if-n-eq0.false c.requires.3 _ (c.is_tagged.ensures (bit_of c.args.walk.lent.src.now)) c.if-is_tagged.true c.in_ok-q.ensures c.in_ok-t.ensures

pub write_repeat-returns-then-n-eq0 : goal.write_repeat-returns-then-n-eq0
write_repeat-returns-then-n-eq0 t c =
    repeat_none (format_at c.args.g c.args.walk.nodes.now c.args.walk.tables.down.now c.args.walk.tables.up.now c.args.k) c.args.tag c.args.x c.args.i c.args.n (bit_of c.args.walk.lent.src.now) _ _ (before c.args.p) (before c.args.p) (before c.args.p) _ [] [] c.if-n-eq0.true

pub write_sequence-returns : goal.write_sequence-returns
write_sequence-returns t c =
    seq_part (bit_of c.args.walk.lent.src.now) _ _ _ (before c.args.p) _ _ _ _ _ _ c.place-flag.ensures.0 (skips_as (sym c.requires.4) c.skip-q.ensures) c.write_members.ensures
