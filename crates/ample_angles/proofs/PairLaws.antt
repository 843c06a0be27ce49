-- A pair by its presence bits: what is surely read of it, from its angles.
use mathlib.Core.Path.{◌≡◌, refl}
use mathlib.Core.List.{List, [], ◌∷◌, ◌++◌, append-nil}
use Prim.Native.Nat.{ℕ, zero, suc, ◌+◌, ◌*◌, ◌≤◌, ◌<◌}
use native.Mathlib.Omega.{arith}
use Rattle.x691.specs.Bits.{bit_of, uint}
use Rattle.x691.proofs.BitLaws.{bit_of-lt}
use Rattle.atn.specs.Format.{Fmt}
use Rattle.atn.specs.Reading.{Rec, rec, Ctx, or, flags}
use Rattle.atn.specs.Messages as message
use Rattle.atn.proofs.Marks.{or_nil, or_commutes}
use Rattle.cursor.proofs.FormatLaws.{all_read}
use Rattle.records.specs.Told.{Told}
use Rattle.records.proofs.Telling.{told-then, told-within}
use Rattle.ample_readings.specs.declared.Step.{Step}
use Rattle.ample_readings.specs.Sure.{Sure}
use Rattle.ample_readings.specs.Ample.{Done, Ample}
use Rattle.ample_readings.proofs.SureLaws.{sure_noted, sure_seq, sure_end, sure_absent, sure_present, sure_last_present}
use Rattle.ample_readings.proofs.AmpleLaws.{ample_marked, ample_none, ample_untold}

-- the two presence bits that a number of two bits is
bits_of : (s : List ℕ) (at i j : ℕ) {v : ℕ} → v ≡ uint (bit_of s) at 2 → v ≡ i * 2 + j → i < 2 → j < 2 → (bit_of s at ≡ i) × (bit_of s (suc at) ≡ j)
unfolding uint
bits_of s at i j u e h k = let a = bit_of-lt s at in let b = bit_of-lt s (suc at) in (omega arith, omega arith)

module _ {x : Ctx} {s : List ℕ} {at v : ℕ} (u : v ≡ uint (bit_of s) at 2) where
  pub pair-none : v ≡ 0 → Sure message.latlon x s at (at + 2) (rec 34 x.0 0 0 at ∷ []) 0
  unfolding flags all_read
  pair-none e = let z = bits_of s at 0 0 u e (omega arith) (omega arith) in sure_noted 34 0 0 (sure_seq 2 refl refl (sure_absent z.0 (sure_absent z.1 sure_end)))

  module _ {q m : ℕ} {R : List Rec} where
    pub pair-second : v ≡ 1 → Sure message.longitude x s (at + 2) q R m → Sure message.latlon x s at q (rec 34 x.0 0 0 at ∷ R) m
    unfolding flags all_read
    pair-second e y = let z = bits_of s at 0 1 u e (omega arith) (omega arith) in sure_noted 34 0 0 (sure_seq 2 refl refl (sure_absent z.0 (sure_last_present z.1 y)))

    pub pair-first : v ≡ 2 → Sure message.latitude x s (at + 2) q R m → Sure message.latlon x s at q (rec 34 x.0 0 0 at ∷ R) m
    unfolding flags all_read
    pair-first e y =
        let z = bits_of s at 1 0 u e (omega arith) (omega arith) in
        sure_noted 34 0 0 (sure_seq 2 refl refl (rw (append-nil R, or_nil m) at (sure_present {q = at} z.0 y (sure_absent {f = message.longitude} z.1 sure_end))))

    pub pair_both : {r n : ℕ} {S : List Rec} → v ≡ 3 → Sure message.latitude x s (at + 2) q R m → Sure message.longitude x s q r S n → Sure message.latlon x s at r (rec 34 x.0 0 0 at ∷ (R ++ S)) (or m n)
    unfolding flags all_read
    pair_both e y w = let z = bits_of s at 1 1 u e (omega arith) (omega arith) in sure_noted 34 0 0 (sure_seq 2 refl refl (sure_present {q = at} z.0 y (sure_last_present z.1 w)))

-- both angles behind the record of the pair
pub ample_both : {s : List ℕ} {at n m v : ℕ} {w w₁ w₂ w₃ : List ℕ} {r r₁ : Step} → v ≡ uint (bit_of s) at 2 → v ≡ 3 → Told 1 w w₁ n m (rec 34 0 0 0 at ∷ []) → Done 5 24 message.latitude s (at + 2) m w₁ w₂ r → Ample 5 24 message.longitude s r.at r.n w₂ w₃ r₁
    → Ample 11 50 message.latlon s at n w w₃ (record { at = r₁.at; n = r₁.n; marks = or r.marks r₁.marks })
ample_both u e t d x =
    let k = told-then t (told-then d.told (ample_untold x)) in
    record {
      room = k.room;
      before = k.before;
      done = λ z. (let y = x.done z in record { recs = _; sure = λ i. pair_both u e (d.sure i) (y.sure i); near = omega (arith, d.near, y.near); told = told-within 11 (omega arith) (told-then t (told-then d.told y.told)) });
    }

-- the step with these marks too
abbrev pub marked : ℕ → Step → Step
marked m r = record { at = r.at; n = r.n; marks = or m r.marks }

module _ (s : List ℕ) (at n m : ℕ) (w₀ : List ℕ) where
  abbrev Begun : List ℕ → Type 0
  Begun w = Told 1 w w₀ n m (rec 34 0 0 0 at ∷ [])

  -- what the angles that are left make, once they are read, behind the record of the pair: the longitude, the latitude, or both
  pub record Left (w₁ : List ℕ) (k p marks left : ℕ) : Type 0 where
    pub second : left ≡ 1 → (w w₂ : List ℕ) (r : Step) → Begun w → Ample 5 24 message.longitude s p k w₁ w₂ r → Ample 11 50 message.latlon s at n w w₂ (marked marks r)
    pub first : left ≡ 2 → (w w₂ : List ℕ) (r : Step) → Begun w → Ample 5 24 message.latitude s p k w₁ w₂ r → Ample 11 50 message.latlon s at n w w₂ (marked marks r)
    pub both : left ≡ 3 → (w w₂ w₃ : List ℕ) (r r₁ : Step) → Begun w → Done 5 24 message.latitude s p k w₁ w₂ r → Ample 5 24 message.longitude s r.at r.n w₂ w₃ r₁ → Ample 11 50 message.latlon s at n w w₃ (marked r.marks r₁)
    pub none : left ≡ 3 → (f : Fmt) (w w₂ : List ℕ) (r : Step) → Begun w → Ample 5 24 f s p k w₁ w₂ r → r.at ≡ 0 → Ample 11 50 message.latlon s at n w w₂ r

module _ {s : List ℕ} {at n m : ℕ} {w₀ : List ℕ} where
  pub left-all : {v : ℕ} → v ≡ uint (bit_of s) at 2 → Left s at n m w₀ w₀ m (at + 2) 0 v
  left-all u = record {
    second = λ e w w₂ r t x. ample_marked 2 t x (omega arith) (omega arith) (omega arith) (λ i S y. rw (or_commutes 0 r.marks, or_nil r.marks) (pair-second u e y));
    first = λ e w w₂ r t x. ample_marked 2 t x (omega arith) (omega arith) (omega arith) (λ i S y. rw (or_commutes 0 r.marks, or_nil r.marks) (pair-first u e y));
    both = λ e w w₂ w₃ r r₁ t d x. ample_both u e t d x;
    none = λ e f w w₂ r t x z. ample_none (told-then t (ample_untold x)) z;
  }

  module _ {w₁ w₂ : List ℕ} {k p marks : ℕ} where
    -- the latitude was read
    pub left-next : {left : ℕ} {f : Fmt} {r : Step} → Left s at n m w₀ w₁ k p marks left → left ≡ 3 → f ≡ message.latitude → Done 5 24 f s p k w₁ w₂ r → Left s at n m w₀ w₂ r.n r.at r.marks 1
    left-next {r = r} y e q d = record {
      second = λ _ w w₃ r₁ t x. y.both e w w₂ w₃ r r₁ t (rw q at d) x;
      first = λ h. absurd (omega (arith, h));
      both = λ h. absurd (omega (arith, h));
      none = λ h. absurd (omega (arith, h));
    }

    -- one alone, or the last of both
    pub left_last : (left : ℕ) {f : Fmt} {w : List ℕ} {r : Step} → Left s at n m w₀ w₁ k p marks left → 1 ≤ left → left ≤ 2 → (left ≡ 1 → f ≡ message.longitude) → ((left ≡ 1 → ⊥) → f ≡ message.latitude) → Told 1 w w₀ n m (rec 34 0 0 0 at ∷ []) → Ample 5 24 f s p k w₁ w₂ r
        → Ample 11 50 message.latlon s at n w w₂ (marked marks r)
    left_last zero y h l a b t x = absurd (omega arith)
    left_last (suc zero) {w = w} {r} y h l a b t x = y.second refl w w₂ r t (rw (a refl) at x)
    left_last (suc (suc zero)) {w = w} {r} y h l a b t x = y.first refl w w₂ r t (rw (b (λ e. omega (arith, e))) at x)
    left_last (suc (suc (suc i))) y h l a b t x = absurd (omega arith)
