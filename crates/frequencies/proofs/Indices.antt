-- The last index of a choice that needs all numbers of its bits: whatever is not before it is it.
use mathlib.Core.Path.{◌≡◌}
use mathlib.Core.List.{List}
use Prim.Native.Nat.{ℕ, suc, ◌^◌, ◌≤◌}
use native.Mathlib.Omega.{arith}
use Rattle.per.proofs.Laws.{uint-below}
use Rattle.cursor.specs.declared.place.Cursor.{Cursor}
use Rattle.cursor.specs.declared.place.Got.{Got}
use Rattle.cursor.specs.Place.{Pulled, stuck, short, got, Pulls}

pub pulls_last : {s : List ℕ} {c : Cursor} (n top : ℕ) (g : Got ℕ) → 2 ^ n ≡ suc top → Pulls s c n g → top ≤ g.v → Pulls s c n (record { v = top; c = g.c })
pulls_last {s} {c} n top g full p h = record { gave = λ i. go (p.gave i) }
  where
    go : Pulled s c n g → Pulled s c n (record { v = top; c = g.c })
    go (stuck z q) = stuck z q
    go (short z l q) = short z l q
    go (got z l v q) = got z l (omega (arith, v, uint-below s c.at n)) q
