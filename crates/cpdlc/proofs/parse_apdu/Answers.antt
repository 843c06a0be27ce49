use mathlib.Core.Path.{refl}
use native.Mathlib.Omega.{arith}
use Rattle.verdicts.proofs.VerdictLaws.{follows_same, follows_bad, follows_out}
use Rattle.lent_tables.proofs.TableLaws.{tables_fail, tables_hold, tables-are}
use Rattle.cpdlc.proofs.EntryLaws.{apdu-long, apdu-tables, apdu_reads, says_first, says_out, says-bad}
use Rattle.cpdlc.proofs.parse_apdu.Goals as goal

pub returns-then-frame-gt-LONGEST_FRAME : goal.returns-then-frame-gt-LONGEST_FRAME
returns-then-frame-gt-LONGEST_FRAME c = record { is = rw c.refused.ensures (apdu-long _ _ _ _ c.if-frame-gt-LONGEST_FRAME.true) }

pub returns-then-not-tables_fit : goal.returns-then-not-tables_fit
returns-then-not-tables_fit c = record { is = rw c.refused-then-not-tables_fit.ensures (apdu-tables _ _ _ _ c.if-frame-gt-LONGEST_FRAME.false (tables_fail _ _ c.tables_fit.ensures (rw c.if-not-tables_fit.true))) }

pub try_any-v-requires : goal.try_any-v-requires
try_any-v-requires c =
    let t = tables-are _ _ c.tables_fit.ensures (rw c.if-not-tables_fit.false) in
    (c.if-frame-gt-LONGEST_FRAME.false, t.0, t.1, t.2, t.3, omega arith)

pub try_any-u-requires : goal.try_any-u-requires
try_any-u-requires c =
    let t = tables-are _ _ c.tables_fit.ensures (rw c.if-not-tables_fit.false) in
    (c.if-frame-gt-LONGEST_FRAME.false, t.0, t.1, t.2, t.3, omega arith)

pub answer_frame-requires : goal.answer_frame-requires
answer_frame-requires c =
    let t = tables-are _ _ c.tables_fit.ensures (rw c.if-not-tables_fit.false) in
    (c.if-frame-gt-LONGEST_FRAME.false, t.0, t.1, t.2, t.3, omega arith, omega (arith, c.try_any-u.ensures.few, c.after_out-x.ensures.1))

pub returns-then-v-eq4 : goal.returns-then-v-eq4
returns-then-v-eq4 c =
    let tried = c.try_any-v.ensures in
    let again = c.try_any-u.ensures in
    let ran = c.if-v-eq4.true in
    record { is = apdu_reads _ _ _ _ c.if-frame-gt-LONGEST_FRAME.false (tables_hold _ _ c.tables_fit.ensures (rw c.if-not-tables_fit.false)) (says_out _ _ tried.is refl refl ran (c.answer_frame.ensures again.keeps _ (c.after_out-x.ensures.0 _ _ (omega (arith, ran)) again.is) (follows_out _ _ _))) }

pub try_any-u-requires-then-v-eq5 : goal.try_any-u-requires-then-v-eq5
try_any-u-requires-then-v-eq5 c =
    let t = tables-are _ _ c.tables_fit.ensures (rw c.if-not-tables_fit.false) in
    (c.if-frame-gt-LONGEST_FRAME.false, t.0, t.1, t.2, t.3, omega arith)

pub answer_frame-requires-then-v-eq5 : goal.answer_frame-requires-then-v-eq5
answer_frame-requires-then-v-eq5 c =
    let t = tables-are _ _ c.tables_fit.ensures (rw c.if-not-tables_fit.false) in
    (c.if-frame-gt-LONGEST_FRAME.false, t.0, t.1, t.2, t.3, omega arith, omega (arith, c.try_any-u-then-v-eq5.ensures.few, c.after_bad-x.ensures.1))

pub returns-then-v-eq5 : goal.returns-then-v-eq5
returns-then-v-eq5 c =
    let tried = c.try_any-v.ensures in
    let again = c.try_any-u-then-v-eq5.ensures in
    record { is = apdu_reads _ _ _ _ c.if-frame-gt-LONGEST_FRAME.false (tables_hold _ _ c.tables_fit.ensures (rw c.if-not-tables_fit.false)) (says-bad _ _ tried.is refl refl c.if-v-eq5.true (c.answer_frame-then-v-eq5.ensures again.keeps _ (c.after_bad-x.ensures.0 _ again.is) (follows_bad _ _))) }

pub answer_frame-requires-2 : goal.answer_frame-requires-2
answer_frame-requires-2 c =
    let t = tables-are _ _ c.tables_fit.ensures (rw c.if-not-tables_fit.false) in
    (c.if-frame-gt-LONGEST_FRAME.false, t.0, t.1, t.2, t.3, omega arith, omega (arith, c.try_any-v.ensures.few))

pub returns : goal.returns
returns c =
    let tried = c.try_any-v.ensures in
    record { is = apdu_reads _ _ _ _ c.if-frame-gt-LONGEST_FRAME.false (tables_hold _ _ c.tables_fit.ensures (rw c.if-not-tables_fit.false)) (says_first _ _ tried.is refl c.if-v-eq4.false c.if-v-eq5.false (c.answer_frame-2.ensures tried.keeps _ tried.is (follows_same _))) }
