use mathlib.Core.Path.{◌≡◌}
use mathlib.Core.List.{List}
use Prim.Native.Nat.{ℕ, ◌≤◌}
use lib.ListN.{length}
use Rattle.lent_tables.proofs.TableLaws.{tables_fail, tables_hold, tables-are}
use Rattle.std.specs.Prelude.{Result}
use Rattle.message_runs.specs.declared.Starts.{Starts}
use Rattle.message_runs.specs.declared.Refusal.{Refusal}
use Rattle.message_runs.specs.Runs.{format_of, cut, listed, list_starts}
use Rattle.run_starts.proofs.EntryLaws.{too_long, bad-tables, bad-direction, decided, full, up_to, all}
use Rattle.run_starts.proofs.list_starts.Goals.{Else-direction-gt1}
use Rattle.run_starts.proofs.list_starts.Goals as goal

pub returns-then-run-gt-LONGEST_FRAME : goal.returns-then-run-gt-LONGEST_FRAME
returns-then-run-gt-LONGEST_FRAME c =
    let e = c.args in
    too_long e.kind e.direction e.down.now e.up.now e.run.now e.starts.now c.if-run-gt-LONGEST_FRAME.true

pub returns-then-not-tables_fit : goal.returns-then-not-tables_fit
returns-then-not-tables_fit c =
    let e = c.args in
    bad-tables e.kind e.direction e.down.now e.up.now e.run.now e.starts.now c.if-run-gt-LONGEST_FRAME.false (tables_fail _ _ c.tables_fit.ensures (rw c.if-not-tables_fit.true))

pub returns-then-direction-gt1 : goal.returns-then-direction-gt1
returns-then-direction-gt1 c =
    let e = c.args in
    bad-direction e.kind e.direction e.down.now e.up.now e.run.now e.starts.now c.if-run-gt-LONGEST_FRAME.false (tables_hold _ _ c.tables_fit.ensures (rw c.if-not-tables_fit.false)) c.if-direction-gt1.true

-- behind the tests: what a walk requires, and that what was found decides
tested : (c : Else-direction-gt1) → (length c.args.run.now ≤ 65536) × (1 ≤ length c.args.down.now) × (length c.args.down.now ≤ 256) × (1 ≤ length c.args.up.now) × (length c.args.up.now ≤ 256) × (c.args.direction ≤ 1)
tested c =
    let t = tables-are _ _ c.tables_fit.ensures (rw c.if-not-tables_fit.false) in
    (c.if-run-gt-LONGEST_FRAME.false, t.0, t.1, t.2, t.3, c.if-direction-gt1.false)

answered : (c : Else-direction-gt1) {o : Result Starts Refusal × List ℕ} → o ≡ listed (cut (format_of c.args.kind c.args.direction c.args.down.now c.args.up.now) c.args.run.now) c.args.run.now c.args.starts.now → o ≡ list_starts c.args.kind c.args.direction c.args.down.now c.args.up.now c.args.run.now c.args.starts.now
answered c = decided c.args.kind c.args.direction c.args.down.now c.args.up.now c.args.run.now c.args.starts.now c.if-run-gt-LONGEST_FRAME.false (tables_hold _ _ c.tables_fit.ensures (rw c.if-not-tables_fit.false)) c.if-direction-gt1.false

pub returns-then-starts-found : goal.returns-then-starts-found
returns-then-starts-found c = answered (goal.at.returns-then-starts-found c).Else-direction-gt1 (full c.walk-found.ensures _ _ c.if-starts-found.true)

pub returns-then-found-run : goal.returns-then-found-run
returns-then-found-run c = answered (goal.at.returns-then-found-run c).Else-direction-gt1 (up_to c.walk-found.ensures _ _ c.walk.ensures c.if-starts-found.false c.if-found-run.true)

pub returns : goal.returns
returns c = answered (goal.at.returns c).Else-direction-gt1 (all c.walk-found.ensures _ _ c.walk.ensures c.if-starts-found.false c.if-found-run.false)

pub walk-found-requires : goal.walk-found-requires
walk-found-requires c = tested (goal.at.walk-found-requires c).Else-direction-gt1

pub walk-requires : goal.walk-requires
walk-requires c = tested (goal.at.walk-requires c).Else-direction-gt1
