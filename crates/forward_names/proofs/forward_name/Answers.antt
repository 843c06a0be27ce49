use mathlib.Core.Path.{◌∙◌}
use native.Mathlib.Omega.{arith}
use Rattle.lent_tables.proofs.TableLaws.{tables_fail, tables_hold, tables-are}
use Rattle.forward_names.proofs.NameLaws.{long, no_tables, reads, uplink, name-cut, name-refused, name-marked, name-clean}
use Rattle.forward_names.proofs.forward_name.Goals as goal

pub returns-then-frame-gt-LONGEST_FRAME : goal.returns-then-frame-gt-LONGEST_FRAME
returns-then-frame-gt-LONGEST_FRAME c = c.no_name.ensures ∙ long _ _ _ c.if-frame-gt-LONGEST_FRAME.true

pub returns-then-not-tables_fit : goal.returns-then-not-tables_fit
returns-then-not-tables_fit c = c.no_name-then-not-tables_fit.ensures ∙ no_tables _ _ _ c.if-frame-gt-LONGEST_FRAME.false (tables_fail _ _ c.tables_fit.ensures (rw c.if-not-tables_fit.true))

pub try_frame-v-requires : goal.try_frame-v-requires
try_frame-v-requires c =
    let t = tables-are _ _ c.tables_fit.ensures (rw c.if-not-tables_fit.false) in
    (c.if-frame-gt-LONGEST_FRAME.false, t.0, t.1, t.2, t.3, omega arith)

pub returns-then-v-eq7 : goal.returns-then-v-eq7
returns-then-v-eq7 c = c.no_name-then-v-eq7.ensures ∙ reads _ _ _ c.if-frame-gt-LONGEST_FRAME.false (tables_hold _ _ c.tables_fit.ensures (rw c.if-not-tables_fit.false)) (name-cut c.if-v-eq7.true _ (uplink _ _ _ c.try_frame-v.ensures.is))

pub returns-then-v-ne0 : goal.returns-then-v-ne0
returns-then-v-ne0 c = c.no_name-then-v-ne0.ensures ∙ reads _ _ _ c.if-frame-gt-LONGEST_FRAME.false (tables_hold _ _ c.tables_fit.ensures (rw c.if-not-tables_fit.false)) (name-refused c.if-v-eq7.false c.if-v-ne0.true _ (uplink _ _ _ c.try_frame-v.ensures.is))

pub returns-then-v-ne0-2 : goal.returns-then-v-ne0-2
returns-then-v-ne0-2 c = c.no_name-then-v-ne0-2.ensures ∙ reads _ _ _ c.if-frame-gt-LONGEST_FRAME.false (tables_hold _ _ c.tables_fit.ensures (rw c.if-not-tables_fit.false)) (name-marked c.if-v-ne0.false c.if-v-ne0-2.true _ (uplink _ _ _ c.try_frame-v.ensures.is))

pub returns : goal.returns
returns c = reads _ _ _ c.if-frame-gt-LONGEST_FRAME.false (tables_hold _ _ c.tables_fit.ensures (rw c.if-not-tables_fit.false)) (name-clean c.if-v-ne0.false c.if-v-ne0-2.false _ (uplink _ _ _ c.try_frame-v.ensures.is) (c.clean_name.ensures _ _))
