-- Where a walk by rows may stand, as far as it decides what comes next: a row, the two rows kept, and what its counts are known to be.
use mathlib.Core.Path.{◌≡◌, ap, ◌∙◌}
use mathlib.Core.Bool.{Bool, true, false, cond, ◌&&◌}
use mathlib.Core.List.{List}
use Prim.Native.Nat.{ℕ, ◌+◌}
use native.Mathlib.Omega.{arith}
use lib.Dec.{eqb}
use borrow.Author.Tests.{eqb-true}
use Rattle.atn.proofs.Inverse.{both}
use Rattle.record_grammar.specs.declared.Walk.{Walk}
use Rattle.grammar_promises.proofs.Sets as sets

---------------------------------------------------------------- counts

-- what is known of a count: nothing; or by how much it is less than variable k. Variable 0 is zero, 1 the element's number, 2 the clearance's, 3 the place in a list that is told, 4 in any other list
pub data Val : Type 0 where
  any : Val
  less : ℕ → ℕ → Val

-- the count is 0
abbrev pub nil : Val
nil = less 0 0

-- the count is as variable k is now, and one less
abbrev pub now : ℕ → Val
now k = less k 0

abbrev pub prior : ℕ → Val
prior k = less k 1

-- a count is as it is known
abbrev pub Means : (ℕ → ℕ) → Val → ℕ → Type 0
Means ρ any n = Unit {0}
Means ρ (less k d) n = n + d ≡ ρ k

-- two counts are surely equal
unfoldable pub agree : Val → Val → Bool
agree any v = false
agree (less j d) any = false
agree (less j d) (less k c) = eqb j k && eqb d c

-- what is known by the first is known by the second
unfoldable pub tells : Val → Val → Bool
tells a any = true
tells a (less k d) = agree a (less k d)

module _ (ρ : ℕ → ℕ) where
  pub means_cond : (t : Bool) (a b : Val) (u v : ℕ) → Means ρ a u → Means ρ b v → Means ρ (cond t a b) (cond t u v)
  means_cond true a b u v i j = i
  means_cond false a b u v i j = j

  pub agree_equal : (a b : Val) (m n : ℕ) → agree a b ≡ true → Means ρ a m → Means ρ b n → m ≡ n
  unfolding agree
  agree_equal any b m n h x y = let z : ◌≡◌ {A = ℕ} 0 1 = cc in absurd (omega arith)
  agree_equal (less j d) any m n h x y = let z : ◌≡◌ {A = ℕ} 0 1 = cc in absurd (omega arith)
  agree_equal (less j d) (less k c) m n h x y =
      let e : j ≡ k = eqb-true j k (both (eqb j k) (eqb d c) h).0 in
      let f : d ≡ c = eqb-true d c (both (eqb j k) (eqb d c) h).1 in
      let g : ρ j ≡ ρ k = ap ρ e in
      omega arith

  pub agree_means : (a b : Val) (n : ℕ) → agree a b ≡ true → Means ρ a n → Means ρ b n
  unfolding agree
  agree_means any b n h x = let z : ◌≡◌ {A = ℕ} 0 1 = cc in absurd (omega arith)
  agree_means (less j d) any n h x = tt
  agree_means (less j d) (less k c) n h x =
      let e : j ≡ k = eqb-true j k (both (eqb j k) (eqb d c) h).0 in
      let f : d ≡ c = eqb-true d c (both (eqb j k) (eqb d c) h).1 in
      rw (← e, ← f) x

  pub tells_means : (a b : Val) (n : ℕ) → tells a b ≡ true → Means ρ a n → Means ρ b n
  unfolding tells
  tells_means a any n h x = tt
  tells_means a (less k d) n h x = agree_means a (less k d) n h x

---------------------------------------------------------------- states

-- anywhere; or at a row, with the row to go back to, the row at the end, and the counts of elements, clearances and places; within no text
pub data State : Type 0 where
  lost : State
  stands : ℕ → ℕ → ℕ → Val → Val → Val → State

-- a walk stands so
abbrev pub Covers : (ℕ → ℕ) → State → Walk → Type 0
Covers ρ lost s = Unit {0}
Covers ρ (stands a b l e c p) s = (s.at ≡ a) × (s.back ≡ b) × (s.last ≡ l) × Means ρ e s.element × Means ρ c s.clearance × Means ρ p s.place × (s.left ≡ 0)

-- one of these
abbrev pub Covered : (ℕ → ℕ) → List State → Walk → Type 0
Covered ρ A s = sets.Some (λ x. Covers ρ x s) A

-- where the first stands the second does
unfoldable pub inside : State → State → Bool
inside x lost = true
inside lost (stands a b l e c p) = false
inside (stands a b l e c p) (stands a' b' l' e' c' p') = eqb a a' && (eqb b b' && (eqb l l' && (tells e e' && (tells c c' && tells p p'))))

infixr 30 ◌∪◌
abbrev pub ◌∪◌ : List State → List State → List State
◌∪◌ A B = sets.union inside A B

-- each state changed
abbrev pub each : (State → State) → List State → List State
each h A = sets.each inside h A

abbrev pub all_among : List State → List State → Bool
all_among A B = sets.all_among inside A B

module _ (ρ : ℕ → ℕ) (s : Walk) where
  inside_covers : (x y : State) → inside x y ≡ true → Covers ρ x s → Covers ρ y s
  unfolding inside
  inside_covers x lost h g = tt
  inside_covers lost (stands a b l e c p) h g = let z : ◌≡◌ {A = ℕ} 0 1 = cc in absurd (omega arith)
  inside_covers (stands a b l e c p) (stands a' b' l' e' c' p') h g =
      let h1 = both _ _ h in
      let h2 = both _ _ h1.1 in
      let h3 = both _ _ h2.1 in
      let h4 = both _ _ h3.1 in
      let h5 = both _ _ h4.1 in
      (g.0 ∙ eqb-true a a' h1.0, g.1 ∙ eqb-true b b' h2.0, g.2 ∙ eqb-true l l' h3.0, tells_means ρ e e' _ h4.0 g.3, tells_means ρ c c' _ h5.0 g.4, tells_means ρ p p' _ h5.1 g.5, g.6)

  -- by a test
  pub cond_covered : (t : Bool) (A B : List State) → (t ≡ true → Covered ρ A s) → (t ≡ false → Covered ρ B s) → Covered ρ (cond t A B) s
  cond_covered t A B f g = sets.cond-some (λ x. Covers ρ x s) t A B f g

  pub left_of : (A B : List State) → Covered ρ A s → Covered ρ (A ∪ B) s
  left_of A B g = sets.left_of inside inside_covers A B g

  pub right_of : (A B : List State) → Covered ρ B s → Covered ρ (A ∪ B) s
  right_of A B g = sets.right_of inside inside_covers A B g

  pub all_among_lem : (A B : List State) → all_among A B ≡ true → Covered ρ A s → Covered ρ B s
  all_among_lem A B h g = sets.all_among_lem inside inside_covers A B h g

-- a change of state that follows the walk
pub each_covered : (ρ ρ' : ℕ → ℕ) (s s' : Walk) (h : State → State) → ((x : State) → Covers ρ x s → Covers ρ' (h x) s') → (A : List State) → Covered ρ A s → Covered ρ' (each h A) s'
each_covered ρ ρ' s s' h f A g = sets.each-some inside (inside_covers ρ' s') h f A g
