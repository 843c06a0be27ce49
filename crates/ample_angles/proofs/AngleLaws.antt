-- An angle by its form, and by its ranges.
use mathlib.Core.Path.{◌≡◌, refl, sym, ◌∙◌}
use mathlib.Core.List.{List, [], ◌∷◌}
use Prim.Native.Nat.{ℕ, ◌+◌, ◌-◌, ◌/◌, ◌^◌, ◌≤◌, ◌<◌}
use native.Mathlib.Omega.{arith}
use Rattle.x691.specs.Bits.{bit_of}
use Rattle.x691.specs.Types.{extent}
use Rattle.x691.specs.Encoding.{width, width_in, highest, count}
use Rattle.atn.specs.Format.{Fmt, num, seq, end, ◌⨾◌}
use Rattle.atn.specs.Reading.{rec, Ctx, read, read_choice}
use Rattle.records.specs.Told.{Told}
use Rattle.ample_bits.specs.Ahead.{Ahead}
use Rattle.ample_bits.proofs.AheadLaws.{first-spelt}
use Rattle.ample_readings.specs.declared.Step.{Step}
use Rattle.ample_readings.specs.Ample.{Ample}
use Rattle.ample_readings.proofs.SureLaws.{sure_chosen}
use Rattle.ample_readings.proofs.AmpleLaws.{ample_before}
use Rattle.ample_angles.specs.Angle.{forms, angle_of}

pub from_zero : (most : ℕ) → most < 2 ^ 64 → extent 0 most ≡ most
unfolding extent
from_zero most h = omega arith

-- the form, told before, and what stands behind it
pub angle-formed : {b j : ℕ} {f : Fmt} {s : List ℕ} {at n m v i : ℕ} {w w₁ w₂ : List ℕ} {r : Step} (t most degrees : ℕ) → Ahead s at 24 v → i ≡ v / 2 ^ (64 - 2) → Told 1 w w₁ n m (rec t 0 i 0 at ∷ [])
    → ((x : Ctx) (e p : ℕ) → read_choice (forms t most degrees) i x (bit_of s) e p ≡ read f x (bit_of s) e p) → b ≤ 4 → j ≤ 22 → Ample b j (seq (f ⨾ num (t + 6) 0 1 ⨾ end)) s (at + 2) m w₁ w₂ r → Ample 5 24 (angle_of t most degrees) s at n w w₂ r
unfolding width width_in highest count
angle-formed t most degrees a q told c l o x =
    ample_before 2 told x (omega arith) (omega arith) (omega arith) (λ k S y. sure_chosen t (forms t most degrees) 2 _ refl (q ∙ first-spelt a 2 (omega arith)) (c (0, k)) y)

-- the bits of a number, by another name for its most
pub wide_by : {m w e : ℕ} → m ≡ e → w ≡ width e → width m ≡ w
wide_by p q = rw p (sym q)

pub angle-by : {m d e g : ℕ} (t : ℕ) → m ≡ e → d ≡ g → angle_of t m d ≡ angle_of t e g
angle-by t p q = rw (p, q)
