-- `begin_legs` meets its contract: each leg that is read at once goes behind those before it, and of one that is given up nothing counts.
use Prim.Native.Nat.{◌-◌, ◌*◌, ◌≤◌}
use Rattle.optional_parts.specs.Parts.{Part}
use Rattle.leg_lists.specs.Legs.{legs_of}
use Rattle.leg_lists.proofs.begin_legs.Given as goal

abbrev pub invariant-loop-i : goal.invariant-loop-i
invariant-loop-i l =
    (l.i ≤ l.legs) × Part (158 * l.i) (legs_of l.s l.i) l.s (record { at = l.initial.p; end = l.end; why = l.why; marks = l.initial.marks }) l.initial.m l.initial.words l.words (record { n = l.m; c = record { at = l.p; end = l.end; why = l.why; marks = l.marks } })
