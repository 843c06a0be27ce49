use mathlib.Core.List.{List}
use Prim.Native.Nat.{ℕ, ◌≤◌, ◌-◌, ◌*◌}
use Rattle.cursor.specs.declared.place.Cursor.{Cursor}
use Rattle.optional_parts.specs.Parts.{Part}
use Rattle.leg_lists.specs.Legs.{legs_of}
use Rattle.leg_lists.proofs.read_legs.Given as goal

-- whatever the first legs were behind
abbrev pub invariant-loop-i : goal.invariant-loop-i
invariant-loop-i l =
    (l.i ≤ l.legs) × ((c : Cursor) (k : ℕ) (w : List ℕ) → Part (158 * l.initial.i) (legs_of l.s l.initial.i) l.s c k w l.initial.words (record { n = l.initial.m; c = l.initial.d }) → Part (158 * l.i) (legs_of l.s l.i) l.s c k w l.words (record { n = l.m; c = l.d }))
