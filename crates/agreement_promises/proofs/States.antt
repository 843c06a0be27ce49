-- What is known of the records from some place on, as far as it decides what may stand before them.
use mathlib.Core.Path.{◌≡◌, refl, sym, ap, ◌∙◌}
use mathlib.Core.Bool.{Bool, true, false, cond, not, ◌&&◌}
use mathlib.Core.List.{List, [], ◌∷◌}
use mathlib.Core.Logic.{inl, inr}
use Prim.Native.Nat.{ℕ}
use native.Mathlib.Omega.{arith}
use lib.Dec.{eqb}
use borrow.Author.Tests.{eqb-true}
use Rattle.atn.specs.Reading.{Rec, rec}
use Rattle.atn.specs.Tags as tags
use Rattle.atn.proofs.Inverse.{both}
use Rattle.screen_records.specs.Fields.{tag}
use Rattle.element_kinds.specs.Kinds.{kind_by, kind_of}
use Rattle.element_kinds.specs.Agreed.{is_last}
use Rattle.grammar_promises.proofs.Sets as sets
use Rattle.agreement_promises.specs.Kept.{ended, fits, keeps_one, keeps}

-- nothing; or each index has its kind, and these are the kind of argument that the records begin with, whether a speed type is the first, and whether there is neither an element nor a clearance
pub data State : Type 0 where
  lost : State
  seen : ℕ → Bool → Bool → State

-- the records are so
abbrev pub Covers : (ℕ → ℕ) → State → List Rec → Type 0
Covers K lost R = Unit {0}
Covers K (seen k s e) R = (keeps K R ≡ true) × (kind_of R ≡ k) × (eqb (tag R 0) tags.speed_type ≡ s) × (ended R ≡ e)

-- one of these
abbrev pub Covered : (ℕ → ℕ) → List State → List Rec → Type 0
Covered K A R = sets.Some (λ x. Covers K x R) A

abbrev pub anything : List State
anything = lost ∷ []

---------------------------------------------------------------- sets

unfoldable pub alike : Bool → Bool → Bool
alike true b = b
alike false b = not b

unfoldable pub inside : State → State → Bool
inside x lost = true
inside lost (seen k s e) = false
inside (seen k s e) (seen k' s' e') = eqb k k' && (alike s s' && alike e e')

infixr 30 ◌∪◌
abbrev pub ◌∪◌ : List State → List State → List State
◌∪◌ A B = sets.union inside A B

abbrev pub all_among : List State → List State → Bool
all_among A B = sets.all_among inside A B

alike_same : (a b : Bool) → alike a b ≡ true → a ≡ b
unfolding alike
alike_same true b h = sym h
alike_same false true h = h
alike_same false false h = refl

module _ (K : ℕ → ℕ) (R : List Rec) where
  inside_covers : (x y : State) → inside x y ≡ true → Covers K x R → Covers K y R
  unfolding inside
  inside_covers x lost h g = tt
  inside_covers lost (seen k s e) h g = let z : ◌≡◌ {A = ℕ} 0 1 = cc in absurd (omega arith)
  inside_covers (seen k s e) (seen k' s' e') h g =
      let h1 = both _ _ h in
      let h2 = both _ _ h1.1 in
      (g.0, g.1 ∙ eqb-true k k' h1.0, g.2 ∙ alike_same s s' h2.0, g.3 ∙ alike_same e e' h2.1)

  pub left_of : (A B : List State) → Covered K A R → Covered K (A ∪ B) R
  left_of A B g = sets.left_of inside inside_covers A B g

  pub right_of : (A B : List State) → Covered K B R → Covered K (A ∪ B) R
  right_of A B g = sets.right_of inside inside_covers A B g

  pub all_among_lem : (A B : List State) → all_among A B ≡ true → Covered K A R → Covered K B R
  all_among_lem A B h g = sets.all_among_lem inside inside_covers A B h g

---------------------------------------------------------------- a record in front

unfoldable pub step : ℕ → State → State
step t lost = lost
step t (seen k s e) = cond (eqb t tags.element_index) lost (seen (kind_by t (cond s tags.speed_type 0)) (eqb t tags.speed_type) (is_last t && e))

unfoldable pub told : ℕ → List State → List State
told t A = sets.each inside (λ x. step t x) A

-- of the second tag it only matters whether it is a speed type
kind_second : (t u : ℕ) → kind_by t u ≡ kind_by t (cond (eqb u tags.speed_type) tags.speed_type 0)
unfolding kind_by
kind_second t u = go (eqb u tags.speed_type) refl
  where
    go : (s : Bool) → eqb u tags.speed_type ≡ s → kind_by t u ≡ kind_by t (cond s tags.speed_type 0)
    go true q = rw q refl
    go false q = rw q refl

module _ (K : ℕ → ℕ) (t m v n q : ℕ) (R : List Rec) where
  step_covers : (x : State) → Covers K x R → Covers K (step t x) (rec t m v n q ∷ R)
  unfolding step keeps keeps_one kind_of tag ended
  step_covers lost g = tt
  step_covers (seen k s e) g = go (eqb t tags.element_index) refl
    where
      go : (u : Bool) → eqb t tags.element_index ≡ u → Covers K (cond u lost (seen (kind_by t (cond s tags.speed_type 0)) (eqb t tags.speed_type) (is_last t && e))) (rec t m v n q ∷ R)
      go true p = tt
      go false p = (rw p g.0, kind_second t (tag R 0) ∙ ap (λ (z : Bool). kind_by t (cond z tags.speed_type 0)) g.2, refl, ap (λ (z : Bool). is_last t && z) g.3)

  pub told_covered : (A : List State) → Covered K A R → Covered K (told t A) (rec t m v n q ∷ R)
  unfolding told
  told_covered A g = sets.each-some inside (inside_covers K (rec t m v n q ∷ R)) (λ x. step t x) step_covers A g

---------------------------------------------------------------- an index in front

unfoldable pub fit : ℕ → State → Bool
fit k lost = false
fit k (seen kind s e) = fits k kind e

unfoldable pub all_fit : ℕ → List State → Bool
all_fit k [] = true
all_fit k (x ∷ A) = fit k x && all_fit k A

-- behind which an argument of its kind stands, or none
abbrev pub indexed : List State
indexed = seen 0 false false ∷ []

module _ (K : ℕ → ℕ) (m v n q : ℕ) (R : List Rec) where
  fit_covers : (x : State) → fit (K v) x ≡ true → Covers K x R → Covered K indexed (rec tags.element_index m v n q ∷ R)
  unfolding fit
  fit_covers lost h g = let z : ◌≡◌ {A = ℕ} 0 1 = cc in absurd (omega arith)
  fit_covers (seen k s e) h g = inl (unfold keeps keeps_one in rw (g.1, g.3, h) g.0, unfold kind_of kind_by tag in refl, unfold tag in refl, unfold ended is_last in refl)

  pub index_covered : (A : List State) → all_fit (K v) A ≡ true → Covered K A R → Covered K indexed (rec tags.element_index m v n q ∷ R)
  unfolding all_fit
  index_covered [] h g = absurd g
  index_covered (x ∷ A) h (inl g) = fit_covers x (both (fit (K v) x) (all_fit (K v) A) h).0 g
  index_covered (x ∷ A) h (inr g) = index_covered A (both (fit (K v) x) (all_fit (K v) A) h).1 g

---------------------------------------------------------------- the whole list

-- behind the last record
abbrev pub nothing : List State
nothing = seen 0 false true ∷ []

pub nothing_left : (K : ℕ → ℕ) → Covered K nothing []
nothing_left K = inl (unfold keeps in refl, unfold kind_of kind_by tag in refl, unfold tag in refl, unfold ended in refl)

unfoldable pub known : State → Bool
known lost = false
known (seen k s e) = true

unfoldable pub all_known : List State → Bool
all_known [] = true
all_known (x ∷ A) = known x && all_known A

pub known-keeps : (K : ℕ → ℕ) (R : List Rec) (A : List State) → all_known A ≡ true → Covered K A R → keeps K R ≡ true
unfolding all_known known
known-keeps K R [] h g = absurd g
known-keeps K R (lost ∷ A) h (inl g) = let z : ◌≡◌ {A = ℕ} 0 1 = cc in absurd (omega arith)
known-keeps K R (seen k s e ∷ A) h (inl g) = g.0
known-keeps K R (x ∷ A) h (inr g) = known-keeps K R A (both (known x) (all_known A) h).1 g
