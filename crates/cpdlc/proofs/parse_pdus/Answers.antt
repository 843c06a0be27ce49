-- `parse_pdus` meets its contract, with however many spare words.
use mathlib.Core.Path.{◌≡◌}
use Prim.Native.Nat.{◌≤◌}
use native.Mathlib.Omega.{arith}
use lib.ListN.{length}
use Rattle.atn.specs.Entries.{Outcome, pdus, read_frame, settle, parse_pdus}
use Rattle.verdicts.proofs.VerdictLaws.{follows_same}
use Rattle.lent_tables.proofs.TableLaws.{tables_fail, tables_hold, tables-are}
use Rattle.cpdlc.proofs.EntryLaws.{pdus-long, pdus-tables, pdus-direction, pdus_reads}
use Rattle.cpdlc.proofs.parse_pdus.Goals.{Else-direction-gt1}
use Rattle.cpdlc.proofs.parse_pdus.Goals as goal

pub returns-then-frame-gt-LONGEST_FRAME : goal.returns-then-frame-gt-LONGEST_FRAME
returns-then-frame-gt-LONGEST_FRAME c = record { is = rw c.refused.ensures (pdus-long _ _ _ _ _ c.if-frame-gt-LONGEST_FRAME.true) }

pub returns-then-not-tables_fit : goal.returns-then-not-tables_fit
returns-then-not-tables_fit c = record { is = rw c.refused-then-not-tables_fit.ensures (pdus-tables _ _ _ _ _ c.if-frame-gt-LONGEST_FRAME.false (tables_fail _ _ c.tables_fit.ensures (rw c.if-not-tables_fit.true))) }

pub returns-then-direction-gt1 : goal.returns-then-direction-gt1
returns-then-direction-gt1 c = record { is = rw c.refused-then-direction-gt1.ensures (pdus-direction _ _ _ _ _ c.if-frame-gt-LONGEST_FRAME.false (tables_hold _ _ c.tables_fit.ensures (rw c.if-not-tables_fit.false)) c.if-direction-gt1.true) }

-- behind the tests
tested : (c : Else-direction-gt1) →
    let a = c.args in
    (length a.frame.now ≤ 65536) × (1 ≤ length a.down.now) × (length a.down.now ≤ 256) × (1 ≤ length a.up.now) × (length a.up.now ≤ 256) × (a.direction ≤ 1)
tested c =
    let t = tables-are _ _ c.tables_fit.ensures (rw c.if-not-tables_fit.false) in
    (c.if-frame-gt-LONGEST_FRAME.false, t.0, t.1, t.2, t.3, c.if-direction-gt1.false)

read : (c : Else-direction-gt1) {o : Outcome} →
    let a = c.args in
    o ≡ settle (read_frame (pdus a.direction a.down.now a.up.now) a.frame.now) a.words.now → o ≡ parse_pdus a.frame.now a.direction a.down.now a.up.now a.words.now
read c e = pdus_reads _ _ _ _ _ (tested c).0 (tables_hold _ _ c.tables_fit.ensures (rw c.if-not-tables_fit.false)) c.if-direction-gt1.false e

pub parse_send-requires : goal.parse_send-requires
parse_send-requires c =
    let t = tested (goal.at.parse_send-requires c).Else-direction-gt1 in
    (t.0, t.1, t.2, t.3, t.4, t.5, c.find_send-send.ensures c.if-send-ne0.true)

pub returns-then-send-ne0 : goal.returns-then-send-ne0
returns-then-send-ne0 c = record { is = read (goal.at.returns-then-send-ne0 c).Else-direction-gt1 c.parse_send.ensures.is }

pub parse_brief-requires : goal.parse_brief-requires
parse_brief-requires c = let t = tested (goal.at.parse_brief-requires c).Else-direction-gt1 in (t.0, t.5, c.is_bare.ensures c.if-is_bare.true)

pub returns-then-is_bare : goal.returns-then-is_bare
returns-then-is_bare c = record { is = read (goal.at.returns-then-is_bare c).Else-direction-gt1 (c.parse_brief.ensures _ _).is }

pub answer_frame-requires : goal.answer_frame-requires
answer_frame-requires c =
    let t = tested (goal.at.answer_frame-requires c).Else-direction-gt1 in
    (t.0, t.1, t.2, t.3, t.4, t.5, omega (arith, c.try_frame-v.ensures.few))

pub returns-then-frame-lt-SHORT_FRAME : goal.returns-then-frame-lt-SHORT_FRAME
returns-then-frame-lt-SHORT_FRAME c =
    let tried = c.try_frame-v.ensures in
    record { is = read (goal.at.returns-then-frame-lt-SHORT_FRAME c).Else-direction-gt1 (c.answer_frame.ensures tried.keeps _ tried.is (follows_same _)).is }

pub answer_frame-requires-2 : goal.answer_frame-requires-2
answer_frame-requires-2 c =
    let t = tested (goal.at.answer_frame-requires-2 c).Else-direction-gt1 in
    (t.0, t.1, t.2, t.3, t.4, t.5, omega (arith, c.try_frame-v-2.ensures.few))

pub returns : goal.returns
returns c =
    let tried = c.try_frame-v-2.ensures in
    record { is = read (goal.at.returns c).Else-direction-gt1 (c.answer_frame-2.ensures tried.keeps _ tried.is (follows_same _)).is }

pub find_send-send-requires : goal.find_send-send-requires
find_send-send-requires c = (tested (goal.at.find_send-send-requires c).Else-direction-gt1).5

pub is_bare-requires : goal.is_bare-requires
is_bare-requires c = (tested (goal.at.is_bare-requires c).Else-direction-gt1).5

pub try_frame-v-requires : goal.try_frame-v-requires
try_frame-v-requires c = tested (goal.at.try_frame-v-requires c).Else-direction-gt1

pub try_frame-v-requires-2 : goal.try_frame-v-requires-2
try_frame-v-requires-2 c = tested (goal.at.try_frame-v-requires-2 c).Else-direction-gt1
