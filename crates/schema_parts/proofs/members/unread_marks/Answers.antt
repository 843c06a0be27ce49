use Prim.Native.Nat.{◌*◌}
use native.Mathlib.Omega.{arith}
use lib.ListN.{length}
use Rattle.x691.specs.Bits.{bit_of}
use Rattle.atn.specs.Messages.{no_reader}
use Rattle.atn.specs.Reading.{or}
use Rattle.schema_parts.proofs.MemberLaws.{marked-none, marked-room, marked_more, marked_all}
use Rattle.schema_parts.proofs.members.unread_marks.Goals as goal

pub loop-i-init : goal.loop-i-init
loop-i-init c = marked-none c.args.nodes.now c.args.first c.args.count (bit_of c.args.s.now) c.args.at (length c.args.s.now * 8) c.requires.2.room

pub overflow_add-first : goal.overflow_add-first
overflow_add-first c = omega (arith, c.requires.0)

pub unread_mark-marks-requires : goal.unread_mark-marks-requires
unread_mark-marks-requires c = marked-room c.args.nodes.now c.args.first c.args.count (bit_of c.args.s.now) c.args.at (length c.args.s.now * 8) c.loop-i-test.true c.node_at-node.ensures c.loop-i.invariant (λ j. no_reader)

pub overflow_add-q : goal.overflow_add-q
overflow_add-q c = omega (arith, c.requires.1, c.flag_of-q.ensures, marked-room c.args.nodes.now c.args.first c.args.count (bit_of c.args.s.now) c.args.at (length c.args.s.now * 8) c.loop-i-test.true c.node_at-node.ensures c.loop-i.invariant (λ j. no_reader))

pub loop-i-preserved : goal.loop-i-preserved
unfolding or
loop-i-preserved c = marked_more c.args.nodes.now c.args.first c.args.count (bit_of c.args.s.now) c.args.at (length c.args.s.now * 8) c.loop-i-test.true c.node_at-node.ensures c.unread_mark-marks.ensures c.flag_of-q.ensures c.loop-i.invariant

pub returns : goal.returns
returns c = record { marks = marked_all c.args.nodes.now c.args.first c.args.count (bit_of c.args.s.now) c.args.at (length c.args.s.now * 8) c.loop-i-test.false c.loop-i.invariant }
