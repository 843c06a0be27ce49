-- The records of a number, a text and a span: the walk goes on where the exits say.
use mathlib.Core.Path.{◌≡◌, refl, ◌∙◌}
use mathlib.Core.Bool.{cond, ◌&&◌}
use mathlib.Core.List.{List, [], ◌∷◌}
use mathlib.Core.Logic.{inl}
use Prim.Native.Nat.{ℕ, zero, suc, ◌+◌, ◌-◌, ◌*◌, ◌^◌, ◌≤◌, ◌<◌}
use native.Mathlib.Omega.{arith}
use lib.Dec.{leb, eqb}
use lib.ListN.{length}
use borrow.Author.Tests.{leb-true, eqb-true, ne_eqb}
use Rattle.x691.specs.Range.{All}
use Rattle.x691.proofs.BitLaws.{uint-lt}
use Rattle.atn.specs.Format.{Letters, first, numeric}
use Rattle.atn.specs.Reading.{rec, Ctx, word, coded, lettered, spanned, units}
use Rattle.atn.proofs.Inverse.{both}
use Rattle.atn.proofs.Reach.{split}
use Rattle.atn.proofs.Texts.{length-units, length-coded}
use Rattle.record_views.specs.View.{fetched}
use Rattle.record_grammar.specs.declared.Walk.{Walk}
use Rattle.record_grammar.specs.Heard.{walked}
use Rattle.record_grammar.specs.Table.{table}
use Rattle.grammar_promises.proofs.States.{State, Covered, cond_covered, ◌∪◌, left_of, right_of, each, each_covered}
use Rattle.grammar_promises.proofs.Verdicts.{Sort, value, stretch, Of, Scope, Known}
use Rattle.grammar_promises.proofs.Steps.{step, step_covers}
use Rattle.grammar_promises.proofs.Texts.{text-step}
use Rattle.grammar_promises.proofs.Channels.{channel-step}
use Rattle.grammar_promises.proofs.Goes.{anywhere, words, number_step, letters_step, span_step}

units-below : (b : ℕ → ℕ) → ((i : ℕ) → b i < 2) → (w at n : ℕ) → All (λ u. u < 2 ^ w) (units b w at n)
unfolding units
units-below b h w at zero = tt
units-below b h w at (suc n) = (uint-lt b h at w, units-below b h w (at + w) n)

all-below : (m n : ℕ) (us : List ℕ) → m ≤ n → All (λ u. u < m) us → All (λ u. u < n) us
all-below m n [] l h = tt
all-below m n (u ∷ us) l h = (omega (arith, h.0), all-below m n us l h.1)

coded-below : (n : ℕ) (us : List ℕ) → All (λ u. u < n) us → All (λ c. c < n) (coded 0 us)
unfolding coded
coded-below n [] h = tt
coded-below n (u ∷ us) h = (omega (arith, h.0), coded-below n us h.1)

module _ (ρ : ℕ → ℕ) (Γ : Scope) (x : Ctx) (k : Known ρ Γ x) (s : Walk) (A : List State) (g : Covered ρ A s) where
  -- one record
  pub one-record : (t : ℕ) (z : Sort) (v m q : ℕ) → Of z x (fetched (rec t x.0 v m q)) → Covered ρ (each (λ σ. step Γ t z σ) A) (walked table s (rec t x.0 v m q ∷ []))
  unfolding walked
  one-record t z v m q h = each_covered ρ ρ s _ _ (λ σ c. step_covers ρ Γ x k (fetched (rec t x.0 v m q)) z refl h t refl s σ c) A g

  -- a number of n from lo on, as a word
  pub number-record : (t lo n v q : ℕ) → v < n → Covered ρ (number_step Γ t lo n A) (walked table s (rec t x.0 (word (lo + v)) 0 q ∷ []))
  unfolding number_step word
  number-record t lo n v q l =
      let low = each (λ σ. step Γ t (value lo (words - lo) 0) σ) A in
      let high = each (λ σ. step Γ t (value 0 (lo + n - words) 0) σ) A in
      cond_covered ρ _ (leb (lo + n) words) _ _ (λ f. let h = leb-true (lo + n) words f in one-record t (value lo n 0) _ 0 q (omega arith, omega arith, refl)) λ _.
      cond_covered ρ _ (leb lo words && leb n words) (low ∪ high) anywhere
      (λ f.
      let a = leb-true lo words (both (leb lo words) (leb n words) f).0 in
      let b = leb-true n words (both (leb lo words) (leb n words) f).1 in
      split (suc (lo + v)) words (λ u. left_of ρ _ low high (one-record t (value lo (words - lo) 0) _ 0 q (omega arith, omega arith, refl)))
      (λ u. right_of ρ _ low high (one-record t (value 0 (lo + n - words) 0) _ 0 q (omega arith, omega arith, refl))))
      (λ _. inl tt)

  -- a text of lo + v units
  module _ (b : ℕ → ℕ) (h : (i : ℕ) → b i < 2) where
    pub text-records : (t w : ℕ) (c : Letters) (lo i v q at : ℕ) → v < 2 ^ i → Covered ρ (letters_step Γ t w c lo i A) (walked table s (lettered t c x.0 q (units b w at (lo + v))))
    unfolding letters_step
    text-records t w (first d) lo i v q at l =
        cond_covered ρ _ (eqb d 0 && leb (2 ^ w) 128) _ anywhere
        (λ f.
        let few = leb-true (2 ^ w) 128 (both (eqb d 0) (leb (2 ^ w) 128) f).1 in
        let us : List ℕ = units b w at (lo + v) in
        let m : length (coded 0 us) ≡ lo + v = length-coded 0 us ∙ length-units b w at (lo + v) in
        rw (eqb-true d 0 (both (eqb d 0) (leb (2 ^ w) 128) f).0)
        (each_covered ρ ρ s _ _ (λ σ c. text-step ρ Γ x k t q lo (2 ^ i) (coded 0 us) (coded-below 128 us (all-below (2 ^ w) 128 us few (units-below b h w at (lo + v)))) (omega arith) (omega arith) s σ c) A g))
        (λ _. inl tt)
    text-records t w (numeric u) lo i v q at l =
        cond_covered ρ _ (eqb lo 12 && (eqb i 0 && leb (2 ^ w) 16)) _ anywhere
        (λ f.
        let rest = both (eqb i 0) (leb (2 ^ w) 16) (both (eqb lo 12) _ f).1 in
        let us : List ℕ = units b w at (lo + v) in
        let e : lo ≡ 12 = eqb-true lo 12 (both (eqb lo 12) _ f).0 in
        let o : v < 1 = rw (eqb-true i 0 rest.0) at l in
        let n : lo + v ≡ 12 = omega arith in
        each_covered ρ ρ s _ _ (λ σ c. channel-step ρ Γ x k t u q us (length-units b w at (lo + v) ∙ n) (all-below (2 ^ w) 16 us (leb-true (2 ^ w) 16 rest.1) (units-below b h w at (lo + v))) s σ c) A g)
        (λ _. inl tt)

  -- a span of so many bits
  one_span : (t n q p : ℕ) → p + n ≤ 524288 → Covered ρ (cond (eqb n 0) A (each (λ σ. step Γ t (stretch n 1) σ) A)) (walked table s (spanned t x.0 q p n))
  unfolding spanned
  one_span t zero q p l = unfold walked in g
  one_span t (suc n) q p l = rw (ne_eqb (suc n) 0 (λ z. absurd (omega arith))) (one-record t (stretch (suc n) 1) p (suc n) q (omega arith, omega arith, l))

  pub sized-span : (t w n i j q p : ℕ) → j < n → p + (i + j) * w ≤ 524288 → Covered ρ (span_step Γ t w n i A) (walked table s (spanned t x.0 q p ((i + j) * w)))
  unfolding span_step
  sized-span t w zero i j q p h l = absurd (omega arith)
  sized-span t w (suc n) i zero q p h l = let e : i + 0 ≡ i = omega arith in rw e (left_of ρ _ (cond (eqb (i * w) 0) A (each (λ σ. step Γ t (stretch (i * w) 1) σ) A)) (span_step Γ t w n (suc i) A) (one_span t (i * w) q p (rw e at l)))
  sized-span t w (suc n) i (suc j) q p h l =
      let e : i + suc j ≡ suc i + j = omega arith in
      rw e (right_of ρ _ (cond (eqb (i * w) 0) A (each (λ σ. step Γ t (stretch (i * w) 1) σ) A)) (span_step Γ t w n (suc i) A) (sized-span t w n (suc i) j q p (omega arith) (rw e at l)))

  pub any-span : (t n q p : ℕ) → p + n ≤ 524288 → Covered ρ (A ∪ each (λ σ. step Γ t (stretch 1 524288) σ) A) (walked table s (spanned t x.0 q p n))
  unfolding spanned
  any-span t zero q p l = left_of ρ _ A _ (unfold walked in g)
  any-span t (suc n) q p l = right_of ρ _ A _ (one-record t (stretch 1 524288) p (suc n) q (omega arith, omega arith, l))
