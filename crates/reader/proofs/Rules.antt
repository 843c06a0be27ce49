-- From what a branch of the code knows to what was taken; and that what was taken is one.
use mathlib.Core.Path.{◌≡◌, refl, sym, ap, ◌∙◌}
use mathlib.Core.Bool.{Bool, true, false}
use mathlib.Core.List.{List}
use Prim.Native.Nat.{ℕ, ◌*◌, ◌≤◌, ◌<◌}
use native.Mathlib.Omega.{arith}
use lib.ListN.{length}
use lib.Dec.{leb}
use borrow.Author.Tests.{leb-true, leb-false}
use Rattle.cursor.specs.declared.place.Cursor.{Cursor}
use Rattle.cursor.specs.declared.place.Got.{Got}
use Rattle.cursor.specs.Place.{stopped, Inside, Pulled, Pulls, stuck, short, got}
use Rattle.reader.specs.Reads.{Took}

module _ (s : List ℕ) (c : Cursor) (n : ℕ) where
  -- the window is in the frame, as the code tests it
  inside : {r : Bool} → c.at ≤ c.end → r ≡ leb c.end (length s * 8) → r ≡ true → Inside s c
  inside a h t = (a, leb-true c.end (length s * 8) (sym h ∙ t))

  pub took_bits : {g : Got ℕ} {r : Bool} → Pulls s c n g → c.at ≤ c.end → r ≡ leb c.end (length s * 8) → r ≡ true → g.c.why ≡ 0 → Took s c n g
  took_bits p a h t z = record { pulls = p; none = λ y. absurd (y z); astray = λ y. absurd (y (inside a h t)) }

  pub took_none : {g : Got ℕ} {r : Bool} → Pulls s c n g → c.at ≤ c.end → r ≡ leb c.end (length s * 8) → r ≡ true → (g.c.why ≡ 0 → ⊥) → Took s c n (record { v = 0; c = g.c })
  took_none {g} p a h t z = record { pulls = record { gave = λ i. go (p.gave i) }; none = λ y. refl; astray = λ y. absurd (y (inside a h t)) }
    where
      go : Pulled s c n g → Pulled s c n (record { v = 0; c = g.c })
      go (stuck y q) = stuck y q
      go (short w l q) = short w l q
      go (got w l v q) = absurd (z (ap (λ (d : Cursor). d.why) q))

  astray : {d : Cursor} → d ≡ stopped c 4 0 → (Inside s c → ⊥) → Took s c n (record { v = 0; c = d })
  astray q y = record { pulls = record { gave = λ i. absurd (y i) }; none = λ _. refl; astray = λ _. q }

  pub took_off : {d : Cursor} → d ≡ stopped c 4 0 → c.end < c.at → Took s c n (record { v = 0; c = d })
  took_off q l = astray q (λ i. omega (arith, i.0))

  pub took_lost : {d : Cursor} {r : Bool} → d ≡ stopped c 4 0 → r ≡ leb c.end (length s * 8) → r ≡ false → Took s c n (record { v = 0; c = d })
  took_lost q h t = let z = leb-false c.end (length s * 8) (sym h ∙ t) in astray q (λ i. omega (arith, i.1))
