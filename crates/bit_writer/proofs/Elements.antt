-- An element of a list changed by a function of it.
use mathlib.Core.Path.{◌≡◌, refl, ap}
use mathlib.Core.List.{List, [], ◌∷◌}
use Prim.Native.Nat.{ℕ, zero, suc}
use lib.ListN.{get_or, set}

abbrev pub change : List ℕ → ℕ → (ℕ → ℕ) → List ℕ
change s i f = set s i (f (get_or s i 0))

pub change_same : (s : List ℕ) (i : ℕ) (f g : ℕ → ℕ) → ((v : ℕ) → f v ≡ g v) → change s i f ≡ change s i g
change_same s i f g h = ap (set s i) (h (get_or s i 0))

pub change_twice : (s : List ℕ) (i : ℕ) (f g : ℕ → ℕ) → change (change s i f) i g ≡ change s i (λ v. g (f v))
change_twice [] i f g = refl
change_twice (x ∷ s) zero f g = refl
change_twice (x ∷ s) (suc i) f g = ap (λ (l : List ℕ). x ∷ l) (change_twice s i f g)

pub change_swap : (s : List ℕ) (i j : ℕ) (f g : ℕ → ℕ) → (i ≡ j → ⊥) → change (change s i f) j g ≡ change (change s j g) i f
change_swap [] i j f g h = refl
change_swap (x ∷ s) zero zero f g h = absurd (h refl)
change_swap (x ∷ s) zero (suc j) f g h = refl
change_swap (x ∷ s) (suc i) zero f g h = refl
change_swap (x ∷ s) (suc i) (suc j) f g h = ap (λ (l : List ℕ). x ∷ l) (change_swap s i j f g (λ e. h (ap suc e)))

-- what holds of an element, and of what it is changed to if it is that one, holds of it afterwards
pub change_keeps : (P : ℕ → Type 0) (s : List ℕ) (i j : ℕ) (f : ℕ → ℕ) → (i ≡ j → P (f (get_or s j 0))) → P (get_or s j 0) → P (get_or (change s i f) j 0)
change_keeps P [] i j f h k = k
change_keeps P (x ∷ s) zero zero f h k = h refl
change_keeps P (x ∷ s) zero (suc j) f h k = k
change_keeps P (x ∷ s) (suc i) zero f h k = k
change_keeps P (x ∷ s) (suc i) (suc j) f h k = change_keeps P s i j f (λ e. h (ap suc e)) k
