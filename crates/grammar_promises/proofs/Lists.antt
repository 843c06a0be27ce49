-- The items of a list: each begins where the exits of those before it say.
use mathlib.Core.Path.{◌≡◌, refl, sym, ap, ◌∙◌}
use mathlib.Core.Bool.{Bool, true, false, cond}
use mathlib.Core.List.{List, []}
use mathlib.Core.Logic.{inl}
use Prim.Native.Nat.{ℕ, zero, suc, ◌+◌, ◌≤◌}
use native.Mathlib.Omega.{arith}
use lib.Dec.{eqb}
use borrow.Author.Tests.{eqb-true, eq-eqb, ne_eqb}
use Rattle.atn.specs.Format.{out, bad, lack, quit}
use Rattle.atn.specs.Reading.{Ans, ok, past, stop, times}
use Rattle.record_grammar.specs.declared.Walk.{Walk}
use Rattle.record_grammar.specs.Heard.{walked}
use Rattle.grammar_promises.proofs.States.{Val, any, less, nil, prior, Means, agree, agree_means, State, lost, stands, Covers, Covered, ◌∪◌, left_of, right_of, each_covered, all_among, all_among_lem}
use Rattle.grammar_promises.proofs.Goes.{Exits, all_lost, forget, begun, again, changed, enter, further, leave, exactly, stay, any_number}
use Rattle.grammar_promises.proofs.Answers.{Ends, ends_ok, ends_map, ends_then}

---------------------------------------------------------------- variables

-- variable k has the value v
unfoldable pub set : (ℕ → ℕ) → ℕ → ℕ → ℕ → ℕ
set ρ k v j = cond (eqb j k) v (ρ j)

pub set_same : (ρ : ℕ → ℕ) (k v : ℕ) → set ρ k v k ≡ v
unfolding set
set_same ρ k v = rw (eq-eqb k k refl) refl

set_other : (ρ : ℕ → ℕ) (k v j : ℕ) → eqb j k ≡ false → set ρ k v j ≡ ρ j
unfolding set
set_other ρ k v j h = rw h refl

pub set-zero : (ρ : ℕ → ℕ) (k v : ℕ) → ρ 0 ≡ 0 → set ρ (suc k) v 0 ≡ 0
set-zero ρ k v h = set_other ρ (suc k) v 0 (ne_eqb 0 (suc k) (λ z. absurd (omega arith))) ∙ h

module _ (ρ : ℕ → ℕ) (k : ℕ) where
  pub forget_in : (i : ℕ) (v : Val) (n : ℕ) → Means ρ v n → Means (set ρ k i) (forget k v) n
  unfolding forget
  forget_in i any n h = tt
  forget_in i (less j d) n h = go (eqb j k) refl
    where
      go : (t : Bool) → eqb j k ≡ t → Means (set ρ k i) (cond t any (less j d)) n
      go true q = tt
      go false q = h ∙ sym (set_other ρ k i j q)

  forget_out : (i : ℕ) (v : Val) (n : ℕ) → Means (set ρ k i) v n → Means ρ (forget k v) n
  unfolding forget
  forget_out i any n h = tt
  forget_out i (less j d) n h = go (eqb j k) refl
    where
      go : (t : Bool) → eqb j k ≡ t → Means ρ (cond t any (less j d)) n
      go true q = tt
      go false q = h ∙ set_other ρ k i j q

  again_on : (i : ℕ) (v : Val) (n : ℕ) → Means (set ρ k i) v n → Means (set ρ k (suc i)) (again k v) n
  unfolding again
  again_on i any n h = tt
  again_on i (less j d) n h = go (eqb j k) refl
    where
      go : (t : Bool) → eqb j k ≡ t → Means (set ρ k (suc i)) (cond t (less j (suc d)) (less j d)) n
      go true q =
          let e : j ≡ k = eqb-true j k q in
          let f : set ρ k i j ≡ i = ap (set ρ k i) e ∙ set_same ρ k i in
          let g : set ρ k (suc i) j ≡ suc i = ap (set ρ k (suc i)) e ∙ set_same ρ k (suc i) in
          omega arith
      go false q = h ∙ set_other ρ k i j q ∙ sym (set_other ρ k (suc i) j q)

  begun_in : ρ 0 ≡ 0 → (j : ℕ) (v : Val) (n : ℕ) → Means ρ v n → Means (set ρ k 1) (begun k j v) n
  unfolding begun
  begun_in z j v n h = go (eqb j k) (agree v nil) refl
    where
      go : (t u : Bool) → agree v nil ≡ u → Means (set ρ k 1) (cond t (cond u (prior k) any) (forget k v)) n
      go true true q = let e : n + 0 ≡ ρ 0 = agree_means ρ v nil n q h in let f = set_same ρ k 1 in omega arith
      go true false q = tt
      go false u q = forget_in 1 v n h

changed_covers : (ρ ρ' : ℕ → ℕ) (s : Walk) (h : ℕ → Val → Val) → ((j : ℕ) (v : Val) (n : ℕ) → Means ρ v n → Means ρ' (h j v) n) → (σ : State) → Covers ρ σ s → Covers ρ' (changed h σ) s
unfolding changed
changed_covers ρ ρ' s h f lost g = tt
changed_covers ρ ρ' s h f (stands a b l e c p) g = (g.0, g.1, g.2, f 1 e _ g.3, f 2 c _ g.4, f 3 p _ g.5, g.6)

module _ (ρ : ℕ → ℕ) (k : ℕ) (s : Walk) where
  pub enters : ρ 0 ≡ 0 → (A : List State) → Covered ρ A s → Covered (set ρ k 1) (enter k A) s
  enters z A g = each_covered ρ (set ρ k 1) s s _ (λ σ. changed_covers ρ (set ρ k 1) s _ (λ j v n. begun_in ρ k z j v n) σ) A g

  furthers : (i : ℕ) (A : List State) → Covered (set ρ k i) A s → Covered (set ρ k (suc i)) (further k A) s
  furthers i A g = each_covered (set ρ k i) (set ρ k (suc i)) s s _ (λ σ. changed_covers (set ρ k i) (set ρ k (suc i)) s _ (λ j v n. again_on ρ k i v n) σ) A g

  leaves : (i : ℕ) (A : List State) → Covered (set ρ k i) A s → Covered ρ (leave k A) s
  leaves i A g = each_covered (set ρ k i) ρ s s _ (λ σ. changed_covers (set ρ k i) ρ s _ (λ j v n. forget_out ρ k i v n) σ) A g

---------------------------------------------------------------- items

-- an answer behind which the walk is at one of the exits
abbrev pub EndsIn : (ℕ → ℕ) → Exits → Walk → Ans → Type 0
EndsIn ρ X s a = Ends (Covered ρ X.next) (Covered ρ X.given) (Covered ρ X.failed) s a

pub ends_lost : (ρ : ℕ → ℕ) (s : Walk) (a : Ans) → EndsIn ρ all_lost s a
unfolding Ends
ends_lost ρ s (ok p R m) = inl tt
ends_lost ρ s (past k p R m) = inl tt
ends_lost ρ s (stop (out k) p R m) = inl tt
ends_lost ρ s (stop bad p R m) = inl tt
ends_lost ρ s (stop lack p R m) = inl tt
ends_lost ρ s (stop (quit o j k) p R m) = inl tt

module _ (ρ : ℕ → ℕ) (k most : ℕ) (h : List State → Exits) (r : ℕ → ℕ → Ans)
    (body : (i q : ℕ) (B : List State) (s : Walk) → i ≤ most → Covered (set ρ k i) B s → EndsIn (set ρ k i) (h B) s (r i q)) where
  pub ends_exactly : (n i at : ℕ) (B : List State) (s : Walk) → i + n ≤ suc most → Covered (set ρ k i) B s → EndsIn ρ (exactly k h n B) s (times r i n at)
  unfolding exactly times walked
  ends_exactly zero i at B s l g = ends_ok _ _ _ s at [] 0 (leaves ρ k s i B g)
  ends_exactly (suc n) i at B s l g =
      let Y = exactly k h n (further k (h B).next) in
      ends_then _ _ _ (Covered (set ρ k i) (h B).next) s (r i at) _
      (ends_map _ _ _ _ _ _ s (λ w c. c) (λ w c. left_of ρ w (leave k (h B).given) Y.given (leaves ρ k w i (h B).given c)) (λ w c. left_of ρ w (leave k (h B).failed) Y.failed (leaves ρ k w i (h B).failed c)) (r i at) (body i at B s (omega arith) g))
      (λ w p c.
      ends_map _ _ _ _ _ _ w (λ _ d. d) (λ v d. right_of ρ v (leave k (h B).given) Y.given d) (λ v d. right_of ρ v (leave k (h B).failed) Y.failed d) (times r (suc i) n p)
      (ends_exactly n (suc i) p (further k (h B).next) w (omega arith) (furthers ρ k w i (h B).next c)))

  -- from states out of which no item leads
  ends_within : (B : List State) → all_among (further k (h B).next) B ≡ true → (n i at : ℕ) (s : Walk) → i + n ≤ suc most → Covered (set ρ k i) B s →
      Ends (Covered ρ (leave k B)) (Covered ρ (leave k (h B).given)) (Covered ρ (leave k (h B).failed)) s (times r i n at)
  unfolding times walked
  ends_within B c zero i at s l g = ends_ok _ _ _ s at [] 0 (leaves ρ k s i B g)
  ends_within B c (suc n) i at s l g =
      ends_then _ _ _ (Covered (set ρ k i) (h B).next) s (r i at) _ (ends_map _ _ _ _ _ _ s (λ w d. d) (λ w d. leaves ρ k w i (h B).given d) (λ w d. leaves ρ k w i (h B).failed d) (r i at) (body i at B s (omega arith) g))
      (λ w p d. ends_within B c n (suc i) p w (omega arith) (all_among_lem (set ρ k (suc i)) w (further k (h B).next) B c (furthers ρ k w i (h B).next d)))

  ends_stay : (g : ℕ) (B : List State) (n i at : ℕ) (s : Walk) → i + n ≤ suc most → Covered (set ρ k i) B s → EndsIn ρ (stay g k h B) s (times r i n at)
  unfolding stay
  ends_stay zero B n i at s l c = ends_lost ρ s (times r i n at)
  ends_stay (suc g) B n i at s l c = go (all_among (further k (h B).next) B) refl (ends_stay g (further k (h B).next ∪ B) n i at s l (right_of (set ρ k i) s (further k (h B).next) B c))
    where
      go : (t : Bool) → all_among (further k (h B).next) B ≡ t → EndsIn ρ (stay g k h (further k (h B).next ∪ B)) s (times r i n at) →
          EndsIn ρ (cond t (record { next = leave k B; given = leave k (h B).given; failed = leave k (h B).failed }) (stay g k h (further k (h B).next ∪ B))) s (times r i n at)
      go true q more = ends_within B q n i at s l c
      go false q more = more

  pub ends_any : (n at : ℕ) (A : List State) (s : Walk) → suc n ≤ most → Covered (set ρ k 1) A s → EndsIn ρ (any_number k h A) s (times r 1 (suc n) at)
  unfolding any_number times
  ends_any n at A s l g =
      let B = further k (h A).next in
      let Y = stay 3 k h B in
      ends_then _ _ _ (Covered (set ρ k 1) (h A).next) s (r 1 at) _
      (ends_map _ _ _ _ _ _ s (λ w c. c) (λ w c. left_of ρ w (leave k (h A).given) Y.given (leaves ρ k w 1 (h A).given c)) (λ w c. left_of ρ w (leave k (h A).failed) Y.failed (leaves ρ k w 1 (h A).failed c)) (r 1 at) (body 1 at A s (omega arith) g))
      (λ w p c.
      ends_map _ _ _ _ _ _ w (λ _ d. d) (λ v d. right_of ρ v (leave k (h A).given) Y.given d) (λ v d. right_of ρ v (leave k (h A).failed) Y.failed d) (times r 2 n p)
      (ends_stay 3 B n 2 p w (omega arith) (furthers ρ k w 1 (h A).next c)))
