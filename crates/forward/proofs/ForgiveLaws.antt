-- What is left of a body that fails.
use mathlib.Core.Path.{◌≡◌, refl}
use Prim.Native.Nat.{◌%◌}
use native.Mathlib.Omega.{arith}
use Rattle.cursor.specs.declared.place.Cursor.{Cursor}
use Rattle.cursor.specs.Place.{put}
use Rattle.atn.specs.Reading.{or}
use Rattle.forward.specs.Forward.{Forgives}

pub forgives_cut : {c : Cursor} → c.why % 16 ≡ 4 → Forgives c (put c c.at 7 c.marks)
forgives_cut z = record { cut = λ _. refl; over = λ y. absurd (omega arith); kept = λ n _. absurd (n z) }

pub forgives_over : {c : Cursor} → c.why ≡ 5 → Forgives c (put c c.at 0 (or c.marks 64))
forgives_over z = record { cut = λ y. absurd (omega arith); over = λ _. refl; kept = λ _ n. absurd (n z) }

pub forgives_kept : {c : Cursor} → (c.why % 16 ≡ 4 → ⊥) → (c.why ≡ 5 → ⊥) → Forgives c c
forgives_kept n₄ n₅ = record { cut = λ z. absurd (n₄ z); over = λ z. absurd (n₅ z); kept = λ _ _. refl }
