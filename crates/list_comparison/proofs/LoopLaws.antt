-- The comparison, record by record.
use mathlib.Core.Path.{◌≡◌, refl, sym, ap, ◌∙◌}
use mathlib.Core.Bool.{Bool, true, false, cond}
use mathlib.Core.List.{List, [], ◌∷◌}
use Prim.Native.Nat.{ℕ, zero, suc, ◌+◌, ◌-◌, ◌*◌, ◌≤◌, ◌<◌}
use native.Mathlib.Nat.{add-zero}
use native.Mathlib.Numerals.{add-one}
use native.Mathlib.Omega.{arith}
use lib.ListN.{length, take, drop, length-drop}
use lib.Dec.{eqb}
use lib.Pointwise.{pointwise}
use lib.Seq.{get_or-take, get_or-drop, drop-drop, length-take-le}
use Rattle.atn.specs.Entries.{flat, need}
use Rattle.atn.specs.Reading.{Rec, rec}
use Rattle.atn.proofs.Outcomes.{flat-need}
use Rattle.list_comparison.specs.declared.Checked.TheVariants.{Yes, Differs, Missing, TooMany, Incomplete}
use Rattle.list_comparison.specs.Compared.{alike, compared}
use Rattle.list_comparison.proofs.AlikeLaws.{five}

module _ (i : ℕ) where
  ended : (l : List ℕ) → length l ≡ 0 → compared i [] l ≡ Yes
  unfolding compared
  ended [] h = refl
  ended (a ∷ l) h = absurd (omega arith)

  too_many : (l : List ℕ) → 0 < length l → compared i [] l ≡ TooMany i
  unfolding compared
  too_many [] h = absurd (omega arith)
  too_many (a ∷ l) h = refl

  module _ (r : Rec) (R : List Rec) where
    missing : (l : List ℕ) → length l ≡ 0 → compared i (r ∷ R) l ≡ Missing i
    unfolding compared
    missing [] h = refl
    missing (a ∷ l) h = absurd (omega arith)

    incomplete : (l : List ℕ) → 0 < length l → length l < 5 → compared i (r ∷ R) l ≡ Incomplete i
    unfolding compared
    incomplete [] h g = absurd (omega arith)
    incomplete (a ∷ []) h g = refl
    incomplete (a ∷ b ∷ []) h g = refl
    incomplete (a ∷ b ∷ c ∷ []) h g = refl
    incomplete (a ∷ b ∷ c ∷ d ∷ []) h g = refl
    incomplete (a ∷ b ∷ c ∷ d ∷ p ∷ l) h g = absurd (omega arith)

  next : (r : Rec) (R : List Rec) (l : List ℕ) → 5 ≤ length l → compared i (r ∷ R) l ≡ cond (alike (flat (r ∷ R)) l 0) (compared (suc i) R (drop 5 l)) (Differs i)
  unfolding compared alike flat
  next r R [] h = absurd (omega arith)
  next r R (a ∷ []) h = absurd (omega arith)
  next r R (a ∷ b ∷ []) h = absurd (omega arith)
  next r R (a ∷ b ∷ c ∷ []) h = absurd (omega arith)
  next r R (a ∷ b ∷ c ∷ d ∷ []) h = absurd (omega arith)
  next (rec t e v n q) R (a ∷ b ∷ c ∷ d ∷ p ∷ l) h = refl

---------------------------------------------------------------- records by their words

flat-drop : (i : ℕ) (R : List Rec) → drop (i * 5) (flat R) ≡ flat (drop i R)
unfolding flat
flat-drop zero R = refl
flat-drop (suc i) [] = let q : suc i * 5 ≡ suc (i * 5 + 4) = omega arith in rw q
flat-drop (suc i) (rec t e v n p ∷ R) = let q : suc i * 5 ≡ suc (suc (suc (suc (suc (i * 5))))) = omega arith in rw q (flat-drop i R)

alike-drop : (a b : List ℕ) (at : ℕ) → alike a b at ≡ alike (drop at a) (drop at b) 0
unfolding alike
alike-drop a b at = rw (get_or-drop at a 0 0, get_or-drop at a 1 0, get_or-drop at a 2 0, get_or-drop at a 3 0, get_or-drop at a 4 0, get_or-drop at b 0 0, get_or-drop at b 1 0, get_or-drop at b 2 0, get_or-drop at b 3 0, get_or-drop at b 4 0, add-zero at)

alike-take : (k : ℕ) (a b : List ℕ) (at : ℕ) → at + 5 ≤ k → alike (take k a) b at ≡ alike a b at
unfolding alike
alike-take k a b at h = rw (get_or-take k a at 0 (omega arith), get_or-take k a (at + 1) 0 (omega arith), get_or-take k a (at + 2) 0 (omega arith), get_or-take k a (at + 3) 0 (omega arith), get_or-take k a (at + 4) 0 (omega arith))

-- the five words from a place on, as the loop takes them
pub slices : (a b : List ℕ) (at : ℕ) → at + 5 ≤ length a → at + 5 ≤ length b → pointwise eqb (take (at + 5 - at) (drop at a)) (take (at + 5 - at) (drop at b)) ≡ alike a b at
slices a b at h g = let e : at + 5 - at ≡ 5 = omega arith in rw e (five (drop at a) (drop at b) (omega (arith, length-drop at a)) (omega (arith, length-drop at b)) ∙ sym (alike-drop a b at))

---------------------------------------------------------------- the loop

-- the first i records are alike
abbrev pub Upto : List ℕ → ℕ → List ℕ → ℕ → Type 0
Upto words count list i = (R : List Rec) → take (count * 5) words ≡ flat R → compared 1 R list ≡ compared (i + 1) (drop i R) (drop (i * 5) list)

module _ (words : List ℕ) (count : ℕ) (list : List ℕ) (fits : count * 5 ≤ length words) (i : ℕ) (upto : Upto words count list i) where
  many : (R : List Rec) → take (count * 5) words ≡ flat R → length R ≡ count
  unfolding need
  many R e = let n : length (flat R) ≡ count * 5 = sym (ap (λ (l : List ℕ). length l) e) ∙ length-take-le (count * 5) words fits in omega (arith, flat-need R)

  -- the record behind them
  first_of : (R : List Rec) → i < length R → (r : Rec) × (S : List Rec) × (drop i R ≡ r ∷ S) × (S ≡ drop (i + 1) R)
  first_of R h = go (drop i R) refl
    where
      go : (D : List Rec) → drop i R ≡ D → (r : Rec) × (S : List Rec) × (D ≡ r ∷ S) × (S ≡ drop (i + 1) R)
      go [] q = absurd (let n : length (drop i R) ≡ 0 = rw q in omega (arith, length-drop i R))
      go (r ∷ S) q = (r, S, refl, sym (ap (λ (D : List Rec). drop 1 D) q) ∙ drop-drop 1 i R)

  module _ (R : List Rec) (e : take (count * 5) words ≡ flat R) (more : i < count) where
    here : (r : Rec) × (S : List Rec) × (drop i R ≡ r ∷ S) × (S ≡ drop (i + 1) R)
    here = first_of R (let n = many R e in omega arith)

    pub is-missing : length list ≤ i * 5 → Missing (i + 1) ≡ compared 1 R list
    is-missing h = sym (upto R e ∙ rw here.2 (missing (i + 1) here.0 here.1 (drop (i * 5) list) (omega (arith, length-drop (i * 5) list))))

    pub is_incomplete : i * 5 < length list → length list < i * 5 + 5 → Incomplete (i + 1) ≡ compared 1 R list
    is_incomplete h g = sym (upto R e ∙ rw here.2 (incomplete (i + 1) here.0 here.1 (drop (i * 5) list) (omega (arith, length-drop (i * 5) list)) (omega (arith, length-drop (i * 5) list))))

    step : i * 5 + 5 ≤ length list → {t : Bool} → alike words list (i * 5) ≡ t → compared 1 R list ≡ cond t (compared (i + 1 + 1) (drop (i + 1) R) (drop ((i + 1) * 5) list)) (Differs (i + 1))
    step h {t} q =
        let a : alike (flat (here.0 ∷ here.1)) (drop (i * 5) list) 0 ≡ t =
        ap (λ (D : List Rec). alike (flat D) (drop (i * 5) list) 0) (sym here.2) ∙ ap (λ (l : List ℕ). alike l (drop (i * 5) list) 0) (sym (flat-drop i R)) ∙ sym (alike-drop (flat R) list (i * 5)) ∙ ap (λ (l : List ℕ). alike l list (i * 5)) (sym e) ∙ alike-take (count * 5) words list (i * 5) (omega arith) ∙ q in
        let n : i * 5 + 5 ≡ (i + 1) * 5 = omega arith in
        let d : drop 5 (drop (i * 5) list) ≡ drop ((i + 1) * 5) list = drop-drop 5 (i * 5) list ∙ rw n in
        upto R e ∙ rw here.2 (next (i + 1) here.0 here.1 (drop (i * 5) list) (omega (arith, length-drop (i * 5) list)) ∙ rw (a, d, here.3, ← (add-one (i + 1))))

    pub is_different : i * 5 + 5 ≤ length list → alike words list (i * 5) ≡ false → Differs (i + 1) ≡ compared 1 R list
    is_different h q = sym (step h q)

  pub upto_more : i < count → i * 5 + 5 ≤ length list → alike words list (i * 5) ≡ true → Upto words count list (i + 1)
  upto_more l h q R e = step R e l h q

  module _ (R : List Rec) (e : take (count * 5) words ≡ flat R) (all : count ≤ i) (within : i ≤ count) where
    gone : drop i R ≡ []
    gone = go (drop i R) refl
      where
        go : (D : List Rec) → drop i R ≡ D → D ≡ []
        go [] q = refl
        go (r ∷ D) q = absurd (let n : length (drop i R) ≡ suc (length D) = rw q in omega (arith, length-drop i R, many R e))

    pub are_too_many : count * 5 < length list → TooMany (count + 1) ≡ compared 1 R list
    are_too_many h =
        let c : i + 1 ≡ count + 1 = omega arith in
        ap (λ (n : ℕ). TooMany n) (sym c) ∙ sym (upto R e ∙ rw gone (too_many (i + 1) (drop (i * 5) list) (omega (arith, length-drop (i * 5) list))))

    pub are_the_same : length list ≤ count * 5 → Yes ≡ compared 1 R list
    are_the_same h = sym (upto R e ∙ rw gone (ended (i + 1) (drop (i * 5) list) (omega (arith, length-drop (i * 5) list))))
