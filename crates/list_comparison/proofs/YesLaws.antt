-- The comparison says yes of the reading's own words, and of nothing else.
use mathlib.Core.Path.{◌≡◌, refl}
use mathlib.Core.Bool.{Bool, true, false, cond, ◌&&◌}
use mathlib.Core.List.{List, [], ◌∷◌}
use Prim.Native.Nat.{ℕ, suc}
use native.Mathlib.Omega.{arith}
use lib.Dec.{eqb}
use borrow.Author.Tests.{eqb-true, eq-eqb}
use Rattle.atn.specs.Entries.{flat}
use Rattle.atn.specs.Reading.{Rec, rec}
use Rattle.atn.proofs.Inverse.{both}
use Rattle.list_comparison.specs.declared.Checked.{Checked}
use Rattle.list_comparison.specs.declared.Checked.TheVariants.{Yes, Differs, Missing, TooMany, Incomplete, Refused}
use Rattle.list_comparison.specs.Compared.{compared}

unfoldable is_yes : Checked → ℕ
is_yes Yes = 1
is_yes (Differs i) = 0
is_yes (Missing i) = 0
is_yes (TooMany i) = 0
is_yes (Incomplete i) = 0
is_yes (Refused n) = 0

no : {A : Type 0} {x : Checked} → is_yes x ≡ 0 → x ≡ Yes → A
unfolding is_yes
no z e = absurd (let y : ◌≡◌ {A = ℕ} 1 0 = rw e at z in omega arith)

pub same-yes : (i : ℕ) (R : List Rec) → compared i R (flat R) ≡ Yes
unfolding compared flat
same-yes i [] = refl
same-yes i (rec t e v n q ∷ R) = rw (eq-eqb t t refl, eq-eqb e e refl, eq-eqb v v refl, eq-eqb n n refl, eq-eqb q q refl) (same-yes (suc i) R)

pub yes-same : (i : ℕ) (R : List Rec) (l : List ℕ) → compared i R l ≡ Yes → l ≡ flat R
unfolding compared flat is_yes
yes-same i [] [] h = refl
yes-same i [] (a ∷ l) h = no refl h
yes-same i (r ∷ R) [] h = no refl h
yes-same i (r ∷ R) (a ∷ []) h = no refl h
yes-same i (r ∷ R) (a ∷ b ∷ []) h = no refl h
yes-same i (r ∷ R) (a ∷ b ∷ c ∷ []) h = no refl h
yes-same i (r ∷ R) (a ∷ b ∷ c ∷ d ∷ []) h = no refl h
yes-same i (rec t e v n m ∷ R) (a ∷ b ∷ c ∷ d ∷ p ∷ l) h = go (eqb t a && (eqb e b && (eqb v c && (eqb n d && eqb m p)))) refl (λ y. yes-same (suc i) R l y) h
  where
    go : (x : Bool) → (eqb t a && (eqb e b && (eqb v c && (eqb n d && eqb m p)))) ≡ x → (compared (suc i) R l ≡ Yes → l ≡ flat R) → cond x (compared (suc i) R l) (Differs i) ≡ Yes → a ∷ b ∷ c ∷ d ∷ p ∷ l ≡ t ∷ e ∷ v ∷ n ∷ m ∷ flat R
    go false q k y = no refl y
    go true q k y =
        let p₁ = both (eqb t a) (eqb e b && (eqb v c && (eqb n d && eqb m p))) q in
        let p₂ = both (eqb e b) (eqb v c && (eqb n d && eqb m p)) p₁.1 in
        let p₃ = both (eqb v c) (eqb n d && eqb m p) p₂.1 in
        let p₄ = both (eqb n d) (eqb m p) p₃.1 in
        rw (eqb-true t a p₁.0, eqb-true e b p₂.0, eqb-true v c p₃.0, eqb-true n d p₄.0, eqb-true m p p₄.1, k y)
