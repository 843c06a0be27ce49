-- Sets of states, as lists: a state that is inside another is not added.
use mathlib.Core.Path.{◌≡◌, refl}
use mathlib.Core.Bool.{Bool, true, false, cond, ◌&&◌, ◌||◌}
use mathlib.Core.List.{List, [], ◌∷◌}
use mathlib.Core.Logic.{◌⊎◌, inl, inr}
use Prim.Native.Nat.{ℕ}
use native.Mathlib.Omega.{arith}
use Rattle.atn.proofs.Inverse.{both}

-- one of these is so
abbrev pub Some : {S : Type 0} → (S → Type 0) → List S → Type 0
Some P [] = ⊥
Some P (x ∷ A) = P x ⊎ Some P A

-- by a test
pub cond-some : {S : Type 0} (P : S → Type 0) (t : Bool) (A B : List S) → (t ≡ true → Some P A) → (t ≡ false → Some P B) → Some P (cond t A B)
cond-some P true A B f g = f refl
cond-some P false A B f g = g refl

-- inside x y: where x is so, y is
module _ {S : Type 0} (inside : S → S → Bool) where
  -- where x is so, one of these is
  unfoldable pub among : S → List S → Bool
  among x [] = false
  among x (y ∷ A) = inside x y || among x A

  -- a state more, if it is not among them
  unfoldable pub add : S → List S → List S
  add x A = cond (among x A) A (x ∷ A)

  unfoldable pub union : List S → List S → List S
  union [] B = B
  union (x ∷ A) B = add x (union A B)

  -- each state changed
  unfoldable pub each : (S → S) → List S → List S
  each h [] = []
  each h (x ∷ A) = add (h x) (each h A)

  unfoldable pub all_among : List S → List S → Bool
  all_among [] B = true
  all_among (x ∷ A) B = among x B && all_among A B

  module _ {P : S → Type 0} (follows : (x y : S) → inside x y ≡ true → P x → P y) where
    among_some : (x : S) (A : List S) → among x A ≡ true → P x → Some P A
    unfolding among
    among_some x [] h g = let z : ◌≡◌ {A = ℕ} 0 1 = cc in absurd (omega arith)
    among_some x (y ∷ A) h g = go (inside x y) refl h (λ q. among_some x A q g)
      where
        go : (t : Bool) → inside x y ≡ t → t || among x A ≡ true → (among x A ≡ true → Some P A) → Some P (y ∷ A)
        go true q p f = inl (follows x y q g)
        go false q p f = inr (f p)

    add-new : (x : S) (A : List S) → P x → Some P (add x A)
    unfolding add
    add-new x A g = cond-some P (among x A) A (x ∷ A) (λ q. among_some x A q g) (λ _. inl g)

    add_old : (x : S) (A : List S) → Some P A → Some P (add x A)
    unfolding add
    add_old x A g = cond-some P (among x A) A (x ∷ A) (λ _. g) (λ _. inr g)

    pub left_of : (A B : List S) → Some P A → Some P (union A B)
    unfolding union
    left_of [] B g = absurd g
    left_of (x ∷ A) B (inl g) = add-new x (union A B) g
    left_of (x ∷ A) B (inr g) = add_old x (union A B) (left_of A B g)

    pub right_of : (A B : List S) → Some P B → Some P (union A B)
    unfolding union
    right_of [] B g = g
    right_of (x ∷ A) B g = add_old x (union A B) (right_of A B g)

    pub all_among_lem : (A B : List S) → all_among A B ≡ true → Some P A → Some P B
    unfolding all_among
    all_among_lem [] B h g = absurd g
    all_among_lem (x ∷ A) B h (inl g) = among_some x B (both (among x B) (all_among A B) h).0 g
    all_among_lem (x ∷ A) B h (inr g) = all_among_lem A B (both (among x B) (all_among A B) h).1 g

    -- from another property, by a change of state that follows it
    pub each-some : {Q : S → Type 0} (h : S → S) → ((x : S) → Q x → P (h x)) → (A : List S) → Some Q A → Some P (each h A)
    unfolding each
    each-some h f [] g = absurd g
    each-some h f (x ∷ A) (inl g) = add-new (h x) (each h A) (f x g)
    each-some h f (x ∷ A) (inr g) = add_old (h x) (each h A) (each-some h f A g)
