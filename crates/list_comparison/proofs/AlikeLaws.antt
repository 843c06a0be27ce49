-- Five words and five words, by one test of all.
use mathlib.Core.Path.{◌≡◌, refl, sym, ap, ◌∙◌}
use mathlib.Core.Bool.{Bool, true, false, not, ◌&&◌}
use mathlib.Core.List.{List, [], ◌∷◌}
use Prim.Native.Nat.{ℕ, ◌≤◌}
use native.Mathlib.Omega.{arith}
use lib.Dec.{eqb}
use lib.ListN.{length, take}
use lib.Pointwise.{pointwise}
use Rattle.list_comparison.specs.Compared.{alike}

pub five : (x y : List ℕ) → 5 ≤ length x → 5 ≤ length y → pointwise eqb (take 5 x) (take 5 y) ≡ alike x y 0
unfolding alike
five [] y h g = absurd (omega arith)
five (a ∷ []) y h g = absurd (omega arith)
five (a ∷ b ∷ []) y h g = absurd (omega arith)
five (a ∷ b ∷ c ∷ []) y h g = absurd (omega arith)
five (a ∷ b ∷ c ∷ d ∷ []) y h g = absurd (omega arith)
five (a ∷ b ∷ c ∷ d ∷ e ∷ x) [] h g = absurd (omega arith)
five (a ∷ b ∷ c ∷ d ∷ e ∷ x) (t ∷ []) h g = absurd (omega arith)
five (a ∷ b ∷ c ∷ d ∷ e ∷ x) (t ∷ u ∷ []) h g = absurd (omega arith)
five (a ∷ b ∷ c ∷ d ∷ e ∷ x) (t ∷ u ∷ v ∷ []) h g = absurd (omega arith)
five (a ∷ b ∷ c ∷ d ∷ e ∷ x) (t ∷ u ∷ v ∷ w ∷ []) h g = absurd (omega arith)
five (a ∷ b ∷ c ∷ d ∷ e ∷ x) (t ∷ u ∷ v ∷ w ∷ q ∷ y) h g = ap (λ r. eqb a t && (eqb b u && (eqb c v && (eqb d w && r)))) (last (eqb e q))
  where
    last : (r : Bool) → r && true ≡ r
    last true = refl
    last false = refl

---------------------------------------------------------------- the test

pub other : {t a : Bool} → t ≡ not a → t ≡ true → a ≡ false
other {a = a} q h = go a (sym q ∙ h)
  where
    go : (a : Bool) → not a ≡ true → a ≡ false
    go true y = sym y
    go false y = refl

pub same : {t a : Bool} → t ≡ not a → t ≡ false → a ≡ true
same {a = a} q h = go a (sym q ∙ h)
  where
    go : (a : Bool) → not a ≡ false → a ≡ true
    go true y = refl
    go false y = sym y
