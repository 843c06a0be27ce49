-- The integrity check from its length and the bits passed over.
use mathlib.Core.Path.{◌≡◌, refl, ap}
use mathlib.Core.List.{List, [], ◌∷◌}
use Prim.Native.Nat.{ℕ, zero, suc, ◌+◌, ◌*◌, ◌%◌}
use native.Mathlib.Omega.{arith}
use Rattle.x691.specs.Bits.{bit_of}
use Rattle.atn.specs.Format.{any_span}
use Rattle.atn.specs.Reading.{rec, Ans, or, mark, spanned, read}
use Rattle.cursor.specs.declared.place.Cursor.{Cursor}
use Rattle.cursor.specs.declared.place.Got.{Got}
use Rattle.cursor.specs.Place.{put, Inside, got, Pulls, Led, Takes}
use Rattle.length_determinants.specs.Lengths.{Measures, Passes}
use Rattle.length_determinants.proofs.LengthLaws.{measures_short, takes_any_span}
use Rattle.records.specs.Told.{Told}
use Rattle.records.proofs.Telling.{told_none, told-within}
use Rattle.integrity.specs.Parts.{integrity}
use Rattle.runs.specs.Runs.{Runs}
use Rattle.runs.proofs.FrameLaws.{soft_went, soft_out, soft_bad}
use Rattle.runs.proofs.RunLaws.{runs_stayed, runs_within}

pub integrity_lost : {s : List ℕ} {c : Cursor} {n : ℕ} {w : List ℕ} → (c.why ≡ 0 → ⊥) → Runs 1 (integrity s) s c n w w (record { n = n; c = c })
integrity_lost {s} h = runs_within 1 (integrity s) (omega arith) (runs_stayed (integrity s) h)

-- no bits are passed over
nothing_passed : (c : Cursor) → c.why ≡ 0 → Passes c 0 c
nothing_passed c z = record { pulls = λ s. record { gave = λ i. got z (omega (arith, i.0)) refl (stays (c.at + 0) (omega arith)) }; moved = λ _. omega arith }
  where
    stays : (p : ℕ) → p ≡ c.at → c ≡ put c p 0 c.marks
    stays p q = rw q (ap (λ (w : ℕ). put c c.at w c.marks) z)

module _ {s : List ℕ} {c d : Cursor} {l : Got ℕ} (measures : Measures s c l) (passes : Passes l.c l.v d) where
  abbrev reading : ℕ → ℕ → Ans
  reading e p = read (any_span 18 1) (0, 0) (bit_of s) e p

  led : Inside s c → Led reading c d (spanned 18 0 c.at l.c.at l.v)
  led i =
      let z : l.v * 1 ≡ l.v = omega arith in
      let t : Takes (any_span 18 1) s c d (λ n. spanned 18 n c.at l.c.at (l.v * 1)) = takes_any_span 18 1 measures (rw z passes) in
      rw z at ((t.took (0, 0)).led i)

  pub integrity-cut : {n : ℕ} {w : List ℕ} → c.why ≡ 0 → d.why % 16 ≡ 4 → Runs 1 (integrity s) s c n w w (record { n = n; c = put d d.at 7 d.marks })
  unfolding integrity read
  integrity-cut h z = record { recs = []; ran = λ i. soft_out 7 reading (led i) h z; told = told-within 1 (omega arith) told_none }

  pub integrity-over : {n : ℕ} {w : List ℕ} → c.why ≡ 0 → d.why ≡ 5 → Runs 1 (integrity s) s c n w w (record { n = n; c = put d d.at 0 (or d.marks 64) })
  unfolding integrity read mark
  integrity-over h z = record { recs = []; ran = λ i. soft_bad 7 reading (led i) h z; told = told-within 1 (omega arith) told_none }

  pub integrity-none : {n : ℕ} {w : List ℕ} → c.why ≡ 0 → (d.why % 16 ≡ 4 → ⊥) → (d.why ≡ 5 → ⊥) → l.v ≡ 0 → Runs 1 (integrity s) s c n w w (record { n = n; c = d })
  unfolding integrity read spanned
  integrity-none h n₄ n₅ z = record { recs = []; ran = λ i. soft_went 7 reading (rw z at (led i)) h n₄ n₅; told = told-within 1 (omega arith) told_none }

  pub integrity-some : {n m : ℕ} {w w' : List ℕ} → c.why ≡ 0 → (d.why % 16 ≡ 4 → ⊥) → (d.why ≡ 5 → ⊥) → (l.v ≡ 0 → ⊥) → Told 1 w w' n m (rec 18 0 l.c.at l.v c.at ∷ []) → Runs 1 (integrity s) s c n w w' (record { n = m; c = d })
  unfolding integrity read spanned
  integrity-some {n} {m} {w} {w'} h n₄ n₅ z t = record { recs = spanned 18 0 c.at l.c.at l.v; ran = λ i. soft_went 7 reading (led i) h n₄ n₅; told = go l.v z t }
    where
      go : (k : ℕ) → (k ≡ 0 → ⊥) → Told 1 w w' n m (rec 18 0 l.c.at k c.at ∷ []) → Told 1 w w' n m (spanned 18 0 c.at l.c.at k)
      go zero y u = absurd (y refl)
      go (suc k) y u = u

-- eight bits that are 0
pub integrity-clear : {s : List ℕ} {c : Cursor} {g : Got ℕ} {n : ℕ} {w : List ℕ} → Pulls s c 8 g → c.why ≡ 0 → g.c.why ≡ 0 → g.v ≡ 0 → Runs 1 (integrity s) s c n w w (record { n = n; c = g.c })
integrity-clear {g = g} x h z v = integrity-none (measures_short x z (omega arith)) (rw v (nothing_passed g.c z)) h (λ q. omega arith) (λ q. omega arith) v
