-- The place that is named is the first: the records before it are the reading's, and the record there is not.
use mathlib.Core.Path.{◌≡◌, refl, sym, ap, ◌∙◌}
use mathlib.Core.Bool.{Bool, true, false, cond, ◌&&◌}
use mathlib.Core.List.{List, [], ◌∷◌}
use Prim.Native.Nat.{ℕ, zero, suc, ◌+◌, ◌*◌, ◌≤◌, ◌<◌}
use native.Mathlib.Omega.{arith}
use lib.Dec.{eqb}
use lib.ListN.{length, take, drop}
use borrow.Author.Tests.{eqb-true, eq-eqb}
use Rattle.atn.specs.Entries.{flat}
use Rattle.atn.specs.Reading.{Rec, rec}
use Rattle.atn.proofs.Inverse.{both}
use Rattle.list_comparison.specs.declared.Checked.{Checked}
use Rattle.list_comparison.specs.declared.Checked.TheVariants.{Differs}
use Rattle.list_comparison.specs.Compared.{compared}
use Rattle.list_comparison.specs.First.{place_of, First}

---------------------------------------------------------------- no place before the start

either : (x : Bool) (A B : Checked) {j : ℕ} → (place_of A ≡ j → ⊥) → (place_of B ≡ j → ⊥) → place_of (cond x A B) ≡ j → ⊥
either true A B f g q = f q
either false A B f g q = g q

at_least : (i j : ℕ) (R : List Rec) (l : List ℕ) → 1 ≤ j → j < i → place_of (compared i R l) ≡ j → ⊥
unfolding compared place_of
at_least i j [] [] h g q = omega arith
at_least i j [] (a ∷ l) h g q = omega arith
at_least i j (r ∷ R) [] h g q = omega arith
at_least i j (r ∷ R) (a ∷ []) h g q = omega arith
at_least i j (r ∷ R) (a ∷ b ∷ []) h g q = omega arith
at_least i j (r ∷ R) (a ∷ b ∷ c ∷ []) h g q = omega arith
at_least i j (r ∷ R) (a ∷ b ∷ c ∷ d ∷ []) h g q = omega arith
at_least i j (rec t e v n m ∷ R) (a ∷ b ∷ c ∷ d ∷ o ∷ l) h g q =
    either (eqb t a && (eqb e b && (eqb v c && (eqb n d && eqb m o)))) (compared (suc i) R l) (Differs i) (λ y. at_least (suc i) j R l h (omega arith) y) (λ y. omega arith) q

---------------------------------------------------------------- the place

at_once : (R : List Rec) (l : List ℕ) → (0 < length R → take 5 l ≡ flat (take 1 R) → ⊥) → (length R ≤ 0 → 0 < length l) → (k : ℕ) → k ≡ 0 → First k R l
unfolding flat
at_once R l f g zero z = record { before = refl; here = f; behind = λ h. (omega arith, g h) }
at_once R l f g (suc k) z = absurd (omega arith)

one_more : (t e v n m k : ℕ) (R : List Rec) (l : List ℕ) → First k R l → First (suc k) (rec t e v n m ∷ R) (t ∷ e ∷ v ∷ n ∷ m ∷ l)
unfolding flat
one_more t e v n m k R l f =
    let z : suc k * 5 ≡ suc (suc (suc (suc (suc (k * 5))))) = omega arith in
    let y : suc (suc k) * 5 ≡ suc (suc (suc (suc (suc (suc k * 5))))) = omega arith in
    record {
      before = rw (z, f.before);
      here = λ h q. f.here (omega arith) (ap (λ (x : List ℕ). drop 5 x) (rw y at q));
      behind = λ h. (let x = f.behind (omega arith) in (omega (arith, x.0), omega (arith, x.1)));
    }

-- the records before the place that is named are the reading's, and the one there is not
pub first : (i k : ℕ) (R : List Rec) (l : List ℕ) → 1 ≤ i → place_of (compared i R l) ≡ i + k → First k R l
unfolding compared place_of flat
first i k [] [] h q = absurd (omega arith)
first i k [] (a ∷ l) h q = at_once [] (a ∷ l) (λ x. absurd (omega arith)) (λ _. omega arith) k (omega arith)
first i k (rec t e v n m ∷ R) [] h q = at_once (rec t e v n m ∷ R) [] (λ _ x. (let y : ◌≡◌ {A = ℕ} 0 5 = ap (λ (z : List ℕ). length z) x in omega arith)) (λ x. absurd (omega arith)) k (omega arith)
first i k (rec t e v n m ∷ R) (a ∷ []) h q = at_once (rec t e v n m ∷ R) (a ∷ []) (λ _ x. (let y : ◌≡◌ {A = ℕ} 1 5 = ap (λ (z : List ℕ). length z) x in omega arith)) (λ x. absurd (omega arith)) k (omega arith)
first i k (rec t e v n m ∷ R) (a ∷ b ∷ []) h q = at_once (rec t e v n m ∷ R) (a ∷ b ∷ []) (λ _ x. (let y : ◌≡◌ {A = ℕ} 2 5 = ap (λ (z : List ℕ). length z) x in omega arith)) (λ x. absurd (omega arith)) k (omega arith)
first i k (rec t e v n m ∷ R) (a ∷ b ∷ c ∷ []) h q = at_once (rec t e v n m ∷ R) (a ∷ b ∷ c ∷ []) (λ _ x. (let y : ◌≡◌ {A = ℕ} 3 5 = ap (λ (z : List ℕ). length z) x in omega arith)) (λ x. absurd (omega arith)) k (omega arith)
first i k (rec t e v n m ∷ R) (a ∷ b ∷ c ∷ d ∷ []) h q = at_once (rec t e v n m ∷ R) (a ∷ b ∷ c ∷ d ∷ []) (λ _ x. (let y : ◌≡◌ {A = ℕ} 4 5 = ap (λ (z : List ℕ). length z) x in omega arith)) (λ x. absurd (omega arith)) k (omega arith)
first i k (rec t e v n m ∷ R) (a ∷ b ∷ c ∷ d ∷ o ∷ l) h q = go (eqb t a && (eqb e b && (eqb v c && (eqb n d && eqb m o)))) refl (λ j y. first (suc i) j R l (omega arith) y) k q
  where
    go : (x : Bool) → (eqb t a && (eqb e b && (eqb v c && (eqb n d && eqb m o)))) ≡ x → ((j : ℕ) → place_of (compared (suc i) R l) ≡ suc i + j → First j R l) → (k : ℕ) → place_of (cond x (compared (suc i) R l) (Differs i)) ≡ i + k → First k (rec t e v n m ∷ R) (a ∷ b ∷ c ∷ d ∷ o ∷ l)
    go true p ih zero y = absurd (at_least (suc i) i R l h (omega arith) (y ∙ omega arith))
    go true p ih (suc k) y =
        let p₁ = both (eqb t a) (eqb e b && (eqb v c && (eqb n d && eqb m o))) p in
        let p₂ = both (eqb e b) (eqb v c && (eqb n d && eqb m o)) p₁.1 in
        let p₃ = both (eqb v c) (eqb n d && eqb m o) p₂.1 in
        let p₄ = both (eqb n d) (eqb m o) p₃.1 in
        let z : i + suc k ≡ suc i + k = omega arith in
        rw (← (eqb-true t a p₁.0), ← (eqb-true e b p₂.0), ← (eqb-true v c p₃.0), ← (eqb-true n d p₄.0), ← (eqb-true m o p₄.1)) (one_more t e v n m k R l (ih k (y ∙ z)))
    go false p ih k y =
        at_once (rec t e v n m ∷ R) (a ∷ b ∷ c ∷ d ∷ o ∷ l)
        (λ _ x.
        let u : t ≡ a = cc in
        let w : e ≡ b = cc in
        let z : v ≡ c = cc in
        let r : n ≡ d = cc in
        let g : m ≡ o = cc in
        let s : true ≡ false = sym (rw (eq-eqb t a u, eq-eqb e b w, eq-eqb v c z, eq-eqb n d r, eq-eqb m o g)) ∙ p in
        let f : ◌≡◌ {A = ℕ} 0 1 = cc in
        omega arith)
        (λ x. absurd (omega arith)) k (omega arith)
