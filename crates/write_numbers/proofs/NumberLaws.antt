-- A number, a name and a reason: what is written is what is got.
use Rattle.std.proofs.Common.{◌≡◌, ℕ, zero, suc, ◌+◌, ◌%◌, ◌^◌, ◌<◌, ◌≤◌, Bool, true, false, ◌&&◌, leb, ◌⊎◌, List, [], ◌∷◌, sym, refl, ◌∙◌, inl, inr, lt_of_le_of_lt, arith, ne_eqb, le-leb}
use borrow.Author.Tests.{lt-leb}
use Rattle.x691.specs.Bits.{bits_of}
use Rattle.x691.specs.Types.{extent}
use Rattle.x691.specs.Encoding.{width, encode}
use Rattle.x691.specs.Range.{member}
use Rattle.x691.proofs.Widths.{width-holds}
use Rattle.atn.specs.Format.{num, listed, name}
use Rattle.record_lists.specs.Items.{plain}
use Rattle.record_lists.specs.Parse.{got, above, peel, turn, parse}
use Rattle.pens.specs.Stand.{Stand}
use Rattle.pens.specs.Rest.{items}
use Rattle.pens.specs.Writes.{Writes, Inks, Part}
use Rattle.pens.proofs.PenLaws.{then_writes}
use Rattle.pens.proofs.GotLaws.{writes_as, writes_none, writes_ink, writes_off, inked}
use Rattle.pens.proofs.FrontLaws.{value, one}
use Rattle.write_numbers.proofs.FrontLaws.{number-end, listed-end, number-front, name-front, listed-front}

---------------------------------------------------------------- numbers

-- a difference that wraps
wraps_above : (lo w d : ℕ) → lo < 2 ^ 64 → d < 2 ^ 64 → (d + lo) % 2 ^ 64 ≡ w → d ≡ above lo w
unfolding above
wraps_above lo w d a b h = omega arith

wraps_extent : (lo hi d : ℕ) → lo < 2 ^ 64 → d < 2 ^ 64 → (d + lo) % 2 ^ 64 ≡ hi → d ≡ extent lo hi
unfolding extent
wraps_extent lo hi d a b h = omega arith

above_zero : (w : ℕ) → w < 2 ^ 64 → above 0 w ≡ w
unfolding above
above_zero w h = omega arith

-- what is no more than x fits in the bits for x
pub ink-fits : {n v x : ℕ} → v ≤ x → (n ≡ width x) × (n ≤ 64) → (n ≤ 64) × (v < 2 ^ n)
ink-fits {n} {v} {x} l w = (w.1, rw w.0 (lt_of_le_of_lt l (width-holds x)))

---------------------------------------------------------------- reasons

abbrev reasons : List ℕ
reasons = 0 ∷ 1 ∷ 30 ∷ []

is-reason : (w : ℕ) → (w ≡ 30) ⊎ (w < 2) → (leb w 30 && member w reasons ≡ true) × (leb w 30 ≡ true)
unfolding member
is-reason w (inl q) = rw q (refl, refl)
is-reason zero (inr q) = (refl, refl)
is-reason (suc zero) (inr q) = (refl, refl)
is-reason (suc (suc w)) (inr q) = absurd (omega arith)

no_reason : (w : ℕ) → (w ≡ 30 → ⊥) → 2 ≤ w → leb w 30 && member w reasons ≡ false
unfolding member
no_reason w x l = rw (ne_eqb w 0 (λ q. omega arith), ne_eqb w 1 (λ q. omega arith), ne_eqb w 30 x) (none (leb w 30))
  where
    none : (a : Bool) → a && false ≡ false
    none true = refl
    none false = refl

---------------------------------------------------------------- parts

module _ (b : ℕ → ℕ) (W : List ℕ) (m t e y : ℕ) (p : Stand) where
  -- v and x are what the record's value and the highest are above the lowest
  module _ (lo hi v x : ℕ) (low : lo < 2 ^ 64) (v-word : v < 2 ^ 64) (x-word : x < 2 ^ 64) (v-wraps : (v + lo) % 2 ^ 64 ≡ value W p.next) (x-wraps : (x + lo) % 2 ^ 64 ≡ hi) where
    number_got : parse (num t lo hi) (e, y) (items b W m p.next) ≡ one (leb v x) (plain t e (value W p.next) 0) v (items b W m p.next)
    number_got =
        number-front b W m p.next t e y lo hi low (omega (arith, v-wraps))
        ∙ rw (← (wraps_above lo (value W p.next) v low v-word v-wraps), ← (wraps_extent lo hi x low x-word x-wraps))

    pub number-written : {n : ℕ} {q r : Stand} {X Y : List ℕ} → v ≤ x → n ≡ width x → Writes (λ _. []) (λ R. peel (plain t e (value W p.next) 0 ∷ []) zero R) (λ i. items b W m i) m p X q X → Inks q X n v r Y → Part (num t lo hi) (e, y) b W m p X r Y
    unfolding encode turn
    number-written {n} {q} {r} {X} {Y} l k taken inked =
        writes_as _ _ _ _ _ _ _ _ _ _ (sym (number_got ∙ rw (le-leb v x l))) (λ _ _ _. refl)
        (then_writes (λ _. []) (λ a. bits_of n a) _ _ (λ S. got v S) (λ _ a. a) (λ _ a. rw (k, wraps_extent lo hi x low x-word x-wraps)) (λ i. items b W m i) m p q r X X Y taken (writes_ink (λ a. bits_of n a) v n v refl (λ i. items b W m i) m q X r Y inked))

    -- no such record
    pub number-refused : {q r : Stand} {X : List ℕ} → v ≤ x → Writes (λ _. []) (λ R. peel (plain t e (value W p.next) 0 ∷ []) zero R) (λ i. items b W m i) m p X q X → q.off ≡ true → r.off ≡ true → Part (num t lo hi) (e, y) b W m p X r X
    number-refused {q} {r} {X} l taken o k = writes_off _ _ _ _ _ _ _ _ _ _ (number-written l refl taken (inked (width x) v q X)) o k

    pub number-over : {r : Stand} {X Y : List ℕ} → x < v → r.off ≡ true → Part (num t lo hi) (e, y) b W m p X r Y
    number-over l off = writes_none _ _ _ _ _ _ _ _ (number_got ∙ rw (lt-leb v x l)) off

  pub number-missing : (lo hi : ℕ) {r : Stand} {X Y : List ℕ} → m ≤ p.next → r.off ≡ true → Part (num t lo hi) (e, y) b W m p X r Y
  number-missing lo hi h off = writes_none _ _ _ _ _ _ _ _ (number-end b W m p.next t e y lo hi h) off

  -- a name is a number from 0 on
  pub name-written : (hi : ℕ) {r : Stand} {X Y : List ℕ} → value W p.next < 2 ^ 64 → Part (num t 0 hi) (e, y) b W m p X r Y → Part (name t hi) (e, y) b W m p X r Y
  name-written hi fits k =
      writes_as _ _ _ _ _ _ _ _ _ _ (sym (name-front b W m p.next t e y hi ∙ sym (number-front b W m p.next t e y 0 hi (omega arith) fits ∙ rw (above_zero (value W p.next) fits)))) (λ _ _ _. refl) k

  -- a reason that is listed is a name from 0 to 30
  pub reason-written : {r : Stand} {X Y : List ℕ} → (value W p.next ≡ 30) ⊎ (value W p.next < 2) → Part (name t 30) (e, y) b W m p X r Y → Part (listed t 30 reasons) (e, y) b W m p X r Y
  unfolding encode extent
  reason-written z k =
      let i = is-reason (value W p.next) z in
      writes_as _ _ _ _ _ _ _ _ _ _ (sym (listed-front b W m p.next t e y 30 reasons ∙ rw i.0 (sym (name-front b W m p.next t e y 30 ∙ rw i.1)))) (λ _ _ _. refl) k

  pub reason_other : {r : Stand} {X Y : List ℕ} → (value W p.next ≡ 30 → ⊥) → 2 ≤ value W p.next → r.off ≡ true → Part (listed t 30 reasons) (e, y) b W m p X r Y
  reason_other u l off = writes_none _ _ _ _ _ _ _ _ (listed-front b W m p.next t e y 30 reasons ∙ rw (no_reason (value W p.next) u l)) off

  pub reason-missing : {r : Stand} {X Y : List ℕ} → m ≤ p.next → r.off ≡ true → Part (listed t 30 reasons) (e, y) b W m p X r Y
  reason-missing h off = writes_none _ _ _ _ _ _ _ _ (listed-end b W m p.next t e y 30 reasons h) off
