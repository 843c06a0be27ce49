-- The words in which a reading leaves its records are the list of these records.
use mathlib.Core.Path.{◌≡◌, refl, sym, ap, ◌∙◌}
use mathlib.Core.List.{List, [], ◌∷◌}
use Prim.Native.Nat.{ℕ, zero, suc, ◌+◌, ◌*◌, ◌/◌}
use native.Mathlib.Omega.{arith}
use lib.ListN.{length, get_or}
use lib.Seq.{get_or-drop}
use Rattle.atn.specs.Reading.{Rec, rec}
use Rattle.atn.specs.Entries.{flat}
use Rattle.record_lists.specs.Message.{records_from, records_of}

-- with five words more in front, one record further
module _ (t m v s q : ℕ) (W : List ℕ) where
  -- a word of a record
  later : (i j : ℕ) → get_or (t ∷ m ∷ v ∷ s ∷ q ∷ W) (suc i * 5 + j) 0 ≡ get_or W (i * 5 + j) 0
  later i j =
      let L : List ℕ = t ∷ m ∷ v ∷ s ∷ q ∷ W in
      let e : 5 + (i * 5 + j) ≡ suc i * 5 + j = omega arith in
      ap (λ (z : ℕ). get_or L z 0) (sym e) ∙ sym (get_or-drop 5 L (i * 5 + j) 0)

  -- its first word
  first : (i : ℕ) → get_or (t ∷ m ∷ v ∷ s ∷ q ∷ W) (suc i * 5) 0 ≡ get_or W (i * 5) 0
  first i =
      let e : suc i * 5 ≡ suc i * 5 + 0 = omega arith in
      let f : i * 5 + 0 ≡ i * 5 = omega arith in
      ap (λ (z : ℕ). get_or (t ∷ m ∷ v ∷ s ∷ q ∷ W) z 0) e ∙ later i 0 ∙ ap (λ (z : ℕ). get_or W z 0) f

  -- the records
  behind : (i k : ℕ) → records_from (t ∷ m ∷ v ∷ s ∷ q ∷ W) (suc i) k ≡ records_from W i k
  unfolding records_from
  behind i zero = refl
  behind i (suc k) = rw (first i, later i 1, later i 2, later i 3, later i 4, behind (suc i) k)

-- as many records as there were
flat-from : (R : List Rec) → records_from (flat R) 0 (length R) ≡ R
unfolding flat records_from
flat-from [] = refl
flat-from (rec t m v s q ∷ R) = ap (λ (S : List Rec). rec t m v s q ∷ S) (behind t m v s q (flat R) 0 (length R) ∙ flat-from R)

-- five words each
pub flat-length : (R : List Rec) → length (flat R) ≡ length R * 5
unfolding flat
flat-length [] = refl
flat-length (rec t m v s q ∷ R) = omega (arith, flat-length R)

-- the words of records, taken as a list, give the records
pub records-flat : (R : List Rec) → records_of (flat R) ≡ R
unfolding records_of
records-flat R = let e : length (flat R) / 5 ≡ length R = omega (arith, flat-length R) in rw e (flat-from R)
