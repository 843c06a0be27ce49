-- The records of an angle by its form.
use Rattle.std.proofs.Common.{◌≡◌, ℕ, zero, suc, ◌+◌, ◌%◌, ◌^◌, List, [], ◌∷◌, ◌++◌, refl, arith}
use Rattle.atn.specs.Reading.{Rec, rec, word}
use Rattle.records.specs.Told.{Told}
use Rattle.records.proofs.Telling.{told_none, told-then, told-within, place-behind}
use Rattle.angles.specs.declared.Angle.{Angle}
use Rattle.angles.specs.declared.Form.TheVariants.{Thousandths, Hundredths, Seconds}
use Rattle.field_ranges.specs.Rows as rows
use Rattle.angles.specs.Angles.{bits, angle_recs}

---------------------------------------------------------------- the forms of an angle

module _ (a d t e : ℕ) (v : Angle) where
  -- each place is the one before and its bits
  module _ {x : ℕ} {w w₁ w₂ w₃ : List ℕ} {n n₁ n₂ n₃ p₁ p₂ : ℕ} (q₁ : p₁ ≡ (v.at + 2) % 2 ^ 64) where
    pub told-thousandths : v.form ≡ Thousandths x → Told 1 w w₁ n n₁ (rec t e 0 0 v.at ∷ []) → Told 1 w₁ w₂ n₁ n₂ (rec (t + 1) e x 0 p₁ ∷ []) → p₂ ≡ (p₁ + a) % 2 ^ 64 → Told 1 w₂ w₃ n₂ n₃ (rec (t + 6) e v.side 0 p₂ ∷ [])
        → Told 5 w w₃ n n₃ (angle_recs a d t v e)
    unfolding angle_recs word
    told-thousandths h form first q₂ side =
        told-within {j = 3} 5 (omega arith) (rw h (told-then form (told-then (rw q₁ at first) (rw (place-behind v.at 2 a q₁ q₂) at side))))

    module _ (first : Told 1 w₁ w₂ n₁ n₂ (rec (t + 2) e x 0 p₁ ∷ [])) (q₂ : p₂ ≡ (p₁ + d) % 2 ^ 64) where
      pub told-hundredths : {y : ℕ} {w₄ : List ℕ} {n₄ p₃ : ℕ} → v.form ≡ Hundredths x y → Told 1 w w₁ n n₁ (rec t e 1 0 v.at ∷ []) → Told 1 w₂ w₃ n₂ n₃ (rec (t + 3) e y 0 p₂ ∷ []) → p₃ ≡ (p₂ + bits rows.hundredths) % 2 ^ 64
          → Told 1 w₃ w₄ n₃ n₄ (rec (t + 6) e v.side 0 p₃ ∷ []) → Told 5 w w₄ n n₄ (angle_recs a d t v e)
      unfolding angle_recs word
      told-hundredths h form second q₃ side =
          let r = place-behind v.at 2 d q₁ q₂ in
          let s = place-behind v.at (2 + d) (bits rows.hundredths) r q₃ in
          told-within {j = 4} 5 (omega arith) (rw h (told-then form (told-then (rw q₁ at first) (told-then (rw r at second) (rw s at side)))))

      pub told-seconds : {y z : ℕ} {w₄ w₅ : List ℕ} {n₄ n₅ p₃ p₄ : ℕ} → v.form ≡ Seconds x y z → Told 1 w w₁ n n₁ (rec t e 2 0 v.at ∷ []) → Told 1 w₂ w₃ n₂ n₃ (rec (t + 4) e y 0 p₂ ∷ []) → p₃ ≡ (p₂ + bits rows.minutes) % 2 ^ 64
          → Told 1 w₃ w₄ n₃ n₄ (rec (t + 5) e z 0 p₃ ∷ []) → p₄ ≡ (p₃ + bits rows.minutes) % 2 ^ 64 → Told 1 w₄ w₅ n₄ n₅ (rec (t + 6) e v.side 0 p₄ ∷ []) → Told 5 w w₅ n n₅ (angle_recs a d t v e)
      unfolding angle_recs word
      told-seconds h form second q₃ third q₄ side =
          let r = place-behind v.at 2 d q₁ q₂ in
          let r₃ = place-behind v.at (2 + d) (bits rows.minutes) r q₃ in
          let s = place-behind v.at (2 + d + bits rows.minutes) (bits rows.minutes) r₃ q₄ in
          rw h (told-then form (told-then (rw q₁ at first) (told-then (rw r at second) (told-then (rw r₃ at third) (rw s at side)))))
