use mathlib.Core.Path.{◌≡◌, sym, ◌∙◌}
use mathlib.Core.Option.{some}
use Prim.Native.Nat.{◌+◌, ◌-◌, ◌≤◌, ◌<◌}
use native.Mathlib.Omega.{arith}
use lib.ListN.{length, drop, set}
use lib.Seq.{set_out}
use Rattle.atn.specs.Entries.{read_frame}
use Rattle.message_runs.specs.Runs.{format_of, clean_reach, bytes_for}
use Rattle.run_starts.proofs.WalkLaws.{rest-length, rest-clean, rest-none, going_start, going_all, going_none, going_fits, going_on}
use Rattle.run_starts.proofs.walk.Goals.{Joined-count-starts, then-count-starts, else-count-starts}
use Rattle.run_starts.proofs.walk.Goals as goal

pub loop-at-init : goal.loop-at-init
loop-at-init c = going_start _ _ _ _ _ _

pub clean_reach-reach-requires : goal.clean_reach-reach-requires
clean_reach-reach-requires c =
    let q = c.requires in
    (rest-length c.args.run.now c.loop-at.at q.0, q.1, q.2, q.3, q.4, q.5)

pub returns-in_default : goal.returns-in_default
returns-in_default c =
    let e = c.args in
    let g = c.loop-at.invariant in
    going_none e.kind e.direction e.down.now e.up.now e.run.now e.starts.now g (rest-none _ e.run.now c.loop-at.at c.clean_reach-reach.ensures c.in_default.is)

-- the message that was read, and how far it goes
read-clean : (c : Joined-count-starts) → clean_reach (read_frame (format_of c.args.kind c.args.direction c.args.down.now c.args.up.now) (drop c.loop-at.at c.args.run.now)) ≡ some c.in-Some.bits
read-clean c = rest-clean _ c.args.run.now c.loop-at.at c.clean_reach-reach.ensures c.in-Some.is

fits : (c : Joined-count-starts) → (0 < bytes_for c.in-Some.bits) × (c.loop-at.at + bytes_for c.in-Some.bits ≤ length c.args.run.now)
fits c =
    let e = c.args in
    going_fits e.kind e.direction e.down.now e.up.now e.run.now e.starts.now c.loop-at.invariant (read-clean c)

pub overflow_add-at : goal.overflow_add-at
unfolding bytes_for
overflow_add-at c = omega (arith, (fits (goal.at.overflow_add-at c).Joined-count-starts).0, (fits (goal.at.overflow_add-at c).Joined-count-starts).1, c.requires.0)

pub overflow_add-at-in-loop-at : goal.overflow_add-at-in-loop-at
unfolding bytes_for
overflow_add-at-in-loop-at c = omega (arith, (fits (goal.at.overflow_add-at-in-loop-at c).Joined-count-starts).0, (fits (goal.at.overflow_add-at-in-loop-at c).Joined-count-starts).1, c.requires.0)

pub loop-at-smaller : goal.loop-at-smaller
unfolding bytes_for
loop-at-smaller c = omega (arith, (fits (goal.at.loop-at-smaller c).Joined-count-starts).0, (fits (goal.at.loop-at-smaller c).Joined-count-starts).1, c.requires.0)

pub returns : goal.returns
returns c =
    let e = c.args in
    going_all e.kind e.direction e.down.now e.up.now e.run.now e.starts.now c.loop-at.invariant c.loop-at-test.false

pub loop-at-preserved : goal.loop-at-preserved
unfolding bytes_for
loop-at-preserved c =
    let e = c.args in
    let l = c.loop-at in
    let z : c.if-count-starts.starts ≡ set l.starts l.count l.at =
    elim c.if-count-starts.branch [ then-count-starts w ↦ w.starts-is | else-count-starts w ↦ w.starts-is ∙ sym (set_out l.starts l.count l.at w.if-count-starts.false) ] in
    rw z (going_on e.kind e.direction e.down.now e.up.now e.run.now e.starts.now l.invariant (read-clean (goal.at.loop-at-preserved c).Joined-count-starts))
