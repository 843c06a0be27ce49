-- The index of a leg, told before, and what stands behind it.
use mathlib.Core.Path.{◌≡◌, refl, ◌∙◌}
use mathlib.Core.Bool.{not}
use mathlib.Core.List.{List, [], ◌∷◌}
use Prim.Native.Nat.{ℕ, zero, suc, ◌+◌, ◌-◌, ◌/◌, ◌^◌, ◌≤◌}
use native.Mathlib.Omega.{arith}
use lib.Dec.{eqb}
use Rattle.x691.specs.Bits.{bit_of}
use Rattle.x691.specs.Encoding.{width, width_in, highest, count}
use Rattle.atn.specs.Format.{Fmt}
use Rattle.atn.specs.Reading.{rec, Ctx, read, read_choice}
use Rattle.records.specs.Told.{Told}
use Rattle.ample_bits.specs.Ahead.{Ahead}
use Rattle.ample_bits.proofs.AheadLaws.{first-spelt}
use Rattle.ample_readings.specs.declared.Step.{Step}
use Rattle.ample_readings.specs.Ample.{Ample}
use Rattle.ample_readings.proofs.SureLaws.{sure_choice}
use Rattle.ample_readings.proofs.AmpleLaws.{ample_before}
use Rattle.ample_places.specs.Place.{place_of}
use Rattle.ample_legs.specs.Route.{places_of, legs, route_information}

pub route_indexed : {b j : ℕ} {f : Fmt} {s : List ℕ} {at n m v i : ℕ} {w w₁ w₂ : List ℕ} {r : Step} → Ahead s at 57 v → i ≡ v / 2 ^ (64 - 3) → Told 1 w w₁ n m (rec 97 0 i 0 at ∷ [])
    → ((x : Ctx) (e p : ℕ) → read_choice legs i x (bit_of s) e p ≡ read f x (bit_of s) e p) → b ≤ 30 → j ≤ 242 → Ample b j f s (at + 3) m w₁ w₂ r → Ample 31 245 route_information s at n w w₂ r
unfolding width width_in highest count
route_indexed {f = f} a q told c l o x =
    ample_before 3 told x (omega arith) (omega arith) (omega arith) (λ k S y. sure_choice 97 legs f 3 _ refl (q ∙ first-spelt a 3 (omega arith)) (c (0, k)) y)

-- two bearings at index 2, else none
pub places-chosen : (i k : ℕ) → i ≤ 2 → (i ≡ 2 → k ≡ 2) → ((i ≡ 2 → ⊥) → k ≡ 0) → (x : Ctx) (s : List ℕ) (e p : ℕ) → read_choice legs i x (bit_of s) e p ≡ read (places_of (not (eqb i 1)) k) x (bit_of s) e p
unfolding read_choice places_of place_of
places-chosen zero k h f g x s e p = rw (g (λ q. omega (arith, q)))
places-chosen (suc zero) k h f g x s e p = rw (g (λ q. omega (arith, q)))
places-chosen (suc (suc zero)) k h f g x s e p = rw (f refl)
places-chosen (suc (suc (suc i))) k h f g x s e p = absurd (omega arith)
