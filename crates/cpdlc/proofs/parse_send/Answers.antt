-- `parse_send` meets its contract: the frame ends before its string, or holds it, and then its message may name an element outside the table.
use Prim.Native.Nat.{◌+◌, ◌*◌, ◌≤◌}
use native.Mathlib.Omega.{arith}
use lib.ListN.{length}
use Rattle.verdicts.proofs.VerdictLaws.{follows_same}
use Rattle.cpdlc_frames.proofs.SaysLaws.{says_lost}
use Rattle.cpdlc.proofs.parse_send.Goals.{Else-left-send}
use Rattle.cpdlc.proofs.parse_send.Goals as goal

pub overflow_sub-left : goal.overflow_sub-left
overflow_sub-left c = omega (arith, c.bits.ensures, c.requires.6.held)

pub returns-then-left-send : goal.returns-then-left-send
returns-then-left-send c =
    let x = c.requires.6 in
    let e = c.bits.ensures in
    rw c.refused.ensures (says_lost _ _ _ _ _ _ c.requires.0 c.requires.5 x (omega (arith, e, x.held, c.if-left-send.true)) (omega (arith, e, x.held, c.if-left-send.true)))

-- behind the test the frame holds the string
holds : (c : Else-left-send) →
    let a = c.args in
    a.send.at + a.send.count ≤ length a.frame.now * 8
holds c = omega (arith, c.if-left-send.false, c.bits.ensures, c.requires.6.held)

pub names_unlisted-requires : goal.names_unlisted-requires
names_unlisted-requires c =
    let p = c.requires in
    (p.0, p.1, p.2, p.3, p.4, p.5, p.6, holds (goal.at.names_unlisted-requires c).Else-left-send)

pub overflow_add-send : goal.overflow_add-send
overflow_add-send c = omega (arith, holds (goal.at.overflow_add-send c).Else-left-send, c.requires.0)

pub returns-then-names_unlisted : goal.returns-then-names_unlisted
returns-then-names_unlisted c = rw c.refused-then-names_unlisted.ensures (c.names_unlisted.ensures c.if-names_unlisted.true _)

pub try_send-v-requires : goal.try_send-v-requires
try_send-v-requires c =
    let p = c.requires in
    (p.0, p.1, p.2, p.3, p.4, p.5, p.6, holds (goal.at.try_send-v-requires c).Else-left-send)

pub answer_frame-requires : goal.answer_frame-requires
answer_frame-requires c =
    let p = c.requires in
    (p.0, p.1, p.2, p.3, p.4, p.5, omega (arith, c.try_send-v.ensures.few))

pub returns-then-send-le-FEW_BITS : goal.returns-then-send-le-FEW_BITS
returns-then-send-le-FEW_BITS c =
    let tried = c.try_send-v.ensures in
    c.answer_frame.ensures tried.keeps _ tried.is (follows_same _)

pub parse_long-requires : goal.parse_long-requires
parse_long-requires c =
    let p = c.requires in
    (p.0, p.1, p.2, p.3, p.4, p.5, p.6, holds (goal.at.parse_long-requires c).Else-left-send)

pub parse_long-requires-then-send-ge-MANY_BITS : goal.parse_long-requires-then-send-ge-MANY_BITS
parse_long-requires-then-send-ge-MANY_BITS c =
    let p = c.requires in
    (p.0, p.1, p.2, p.3, p.4, p.5, p.6, holds (goal.at.parse_long-requires-then-send-ge-MANY_BITS c).Else-left-send)

pub try_send-v-requires-2 : goal.try_send-v-requires-2
try_send-v-requires-2 c =
    let p = c.requires in
    (p.0, p.1, p.2, p.3, p.4, p.5, p.6, holds (goal.at.try_send-v-requires-2 c).Else-left-send)

pub answer_frame-requires-2 : goal.answer_frame-requires-2
answer_frame-requires-2 c =
    let p = c.requires in
    (p.0, p.1, p.2, p.3, p.4, p.5, omega (arith, c.try_send-v-2.ensures.few))

pub returns : goal.returns
returns c =
    let tried = c.try_send-v-2.ensures in
    c.answer_frame-2.ensures tried.keeps _ tried.is (follows_same _)

pub bits-requires : goal.bits-requires
bits-requires c = omega (arith, c.requires.0)

pub returns-then-direction-eq0 : goal.returns-then-direction-eq0
returns-then-direction-eq0 c = c.parse_long.ensures

pub returns-then-send-ge-MANY_BITS : goal.returns-then-send-ge-MANY_BITS
returns-then-send-ge-MANY_BITS c = c.parse_long-then-send-ge-MANY_BITS.ensures
