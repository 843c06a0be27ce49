-- The walk behind the records of every reading is where the exits of its format say.
use mathlib.Core.Path.{◌≡◌, refl}
use mathlib.Core.Bool.{Bool, true, false, cond}
use mathlib.Core.List.{List, [], ◌∷◌}
use mathlib.Core.Logic.{inl}
use Prim.Native.Nat.{ℕ, zero, suc, ◌+◌, ◌-◌, ◌*◌, ◌^◌, ◌≤◌, ◌<◌}
use native.Mathlib.Omega.{arith}
use lib.Dec.{leb, ltb, eqb}
use lib.ListN.{length}
use borrow.Author.Tests.{leb-true, eqb-true}
use Rattle.x691.specs.Types.{extent}
use Rattle.x691.specs.Encoding.{width, highest}
use Rattle.atn.specs.Format.{Fmt, num, listed, name, text, span, any_span, skipped, small, null, noted, placed, marked, refuse, element, ext, seq, loose, choice, many, inner, soft, lax}
use Rattle.atn.specs.Format.{Flds, end, ◌⨾◌, ◌⨾?◌, or_note, unread, Alts, none_left, ◌∥◌, alternatives_of, Why, out, bad, lack, quit}
use Rattle.atn.specs.Reading.{rec, Ctx, word, Ans, stop, then, times, length_then, flags, within, read, read_fields, read_choice}
use Rattle.atn.specs.Messages.{elements}
use Rattle.atn.specs.Tags as tag
use Rattle.atn.proofs.Reach.{split}
use Rattle.record_grammar.specs.declared.Walk.{Walk}
use Rattle.record_grammar.specs.Heard.{walked}
use Rattle.record_grammar.specs.Table.{table}
use Rattle.grammar_promises.proofs.States.{State, Covered, cond_covered, ◌∪◌, left_of, right_of, each, now}
use Rattle.grammar_promises.proofs.Verdicts.{Scope, Known, value}
use Rattle.grammar_promises.proofs.Verdicts as sort
use Rattle.grammar_promises.proofs.Steps.{step}
use Rattle.grammar_promises.proofs.Goes.{Exits, anywhere, all_lost, either, and_then, counter, forget, enter, any_number, failing, leaf, fallible, refused, list_items, chosen, goes, goes_fields, goes_alts}
use Rattle.grammar_promises.proofs.Answers.{Ends, ends_ok, ends_out, ends_bad, ends_map, ends_late, ends_then, ends_behind, ends_fork, ends_soft, ends_lax, ends_close, ends_guard, ends_fetch, ends_pull, ends_sized, ends_letters, ends_lengths}
use Rattle.grammar_promises.proofs.Lists.{set, set_same, set-zero, forget_in, enters, EndsIn, ends_lost, ends_exactly, ends_any}
use Rattle.grammar_promises.proofs.Lent.{Lends, LentChoice, Lent, LentFields, LentAlts}
use Rattle.grammar_promises.proofs.Leaves.{one-record, number-record, text-records, sized-span, any-span}

---------------------------------------------------------------- what the parts of a format meet

-- an index that the table has not
none_there : (T : List ℕ) (i : ℕ) (x : Ctx) (b : ℕ → ℕ) (e at : ℕ) → length T ≤ i → (P : Ans → Type 0) → ((m : ℕ) → P (stop bad at [] m)) → P (read_choice (elements T) i x b e at)
unfolding elements read_choice
none_there [] i x b e at h P p = p _
none_there (n ∷ T) zero x b e at h P p = absurd (omega arith)
none_there (n ∷ T) (suc i) x b e at h P p = none_there T i x b e at (omega arith) P p

abbrev pub Bits : (ℕ → ℕ) → Type 0
Bits b = (i : ℕ) → b i < 2

within-bits : (b : ℕ → ℕ) (e : ℕ) → Bits b → Bits (within b e)
unfolding within
within-bits b e h i = go (ltb i e)
  where
    go : (t : Bool) → cond t (b i) 0 < 2
    go true = h i
    go false = omega arith

-- what a part inherits in an element
element-known : (ρ : ℕ → ℕ) (Γ : Scope) (x : Ctx) → Known ρ Γ x → Known ρ (record { own = Γ.here; here = Γ.here; most = Γ.most }) (x.1, x.1)
element-known ρ Γ x k = (k.0, k.2, k.2, k.3)

-- and as item i of a list
item_known : (ρ : ℕ → ℕ) (Γ : Scope) (x : Ctx) (n most i : ℕ) → Known ρ Γ x → i ≤ most → Known (set ρ (suc n) i) (record { own = forget (suc n) Γ.own; here = now (suc n); most = most }) (x.0, i)
item_known ρ Γ x n most i k l = (set-zero ρ n i k.0, forget_in ρ (suc n) i Γ.own x.0 k.1, omega (arith, set_same ρ (suc n) i), l)

word_lt : (v : ℕ) → word v < 18446744073709551616
unfolding word
word_lt v = omega arith

pub in_left : (ρ : ℕ → ℕ) (s : Walk) (X Y : Exits) (a : Ans) → EndsIn ρ X s a → EndsIn ρ (either X Y) s a
unfolding either
in_left ρ s X Y a h = ends_map _ _ _ _ _ _ s (λ w c. left_of ρ w X.next Y.next c) (λ w c. left_of ρ w X.given Y.given c) (λ w c. left_of ρ w X.failed Y.failed c) a h

pub in_right : (ρ : ℕ → ℕ) (s : Walk) (X Y : Exits) (a : Ans) → EndsIn ρ Y s a → EndsIn ρ (either X Y) s a
unfolding either
in_right ρ s X Y a h = ends_map _ _ _ _ _ _ s (λ w c. right_of ρ w X.next Y.next c) (λ w c. right_of ρ w X.given Y.given c) (λ w c. right_of ρ w X.failed Y.failed c) a h

-- one part after another
in_then : (ρ : ℕ → ℕ) (s : Walk) (X Y : Exits) (M : List State) (a : Ans) (k : ℕ → Ans) → ((w : Walk) → Covered ρ X.next w → Covered ρ M w) → EndsIn ρ X s a → ((w : Walk) (p : ℕ) → Covered ρ M w → EndsIn ρ Y w (k p)) → EndsIn ρ (and_then X Y) s (then a k)
unfolding and_then
in_then ρ s X Y M a k n h f =
    ends_then _ _ _ (Covered ρ M) s a k (ends_map _ _ _ _ _ _ s n (λ w c. left_of ρ w X.given Y.given c) (λ w c. left_of ρ w X.failed Y.failed c) a h)
    (λ w p c. ends_map _ _ _ _ _ _ w (λ _ d. d) (λ v d. right_of ρ v X.given Y.given d) (λ v d. right_of ρ v X.failed Y.failed d) (k p) (f w p c))

-- without the first part
in_second : (ρ : ℕ → ℕ) (s : Walk) (X Y : Exits) (a : Ans) → EndsIn ρ Y s a → EndsIn ρ (and_then X Y) s a
unfolding and_then
in_second ρ s X Y a h = ends_map _ _ _ _ _ _ s (λ _ d. d) (λ w c. right_of ρ w X.given Y.given c) (λ w c. right_of ρ w X.failed Y.failed c) a h

module _ (track : Bool) (E : Scope → List State → Exits) where
  module _ (ρ : ℕ → ℕ) (s : Walk) (A : List State) (g : Covered ρ A s) where
    -- a failure that tells nothing
    pub fails : Covered ρ (failing track E A) s
    unfolding failing
    fails = cond_covered ρ s track A anywhere (λ _. g) (λ _. inl tt)

    fails_in : (X : Exits) → Covered ρ (fallible track E A X).failed s
    unfolding fallible
    fails_in X = left_of ρ s (failing track E A) X.failed fails

  in_fallible : (ρ : ℕ → ℕ) (s : Walk) (A : List State) (X : Exits) (a : Ans) → EndsIn ρ X s a → EndsIn ρ (fallible track E A X) s a
  unfolding fallible
  in_fallible ρ s A X a h = ends_map _ _ _ _ _ _ s (λ w c. c) (λ w c. c) (λ w c. right_of ρ w (failing track E A) X.failed c) a h

  -- what has no reader
  refuses : (w : Why) (ρ : ℕ → ℕ) (A : List State) (s : Walk) → Covered ρ A s → (at m : ℕ) → EndsIn ρ (refused track E w A) s (stop w at [] m)
  unfolding refused leaf walked Ends
  refuses (out n) ρ A s g at m = fails ρ s A g
  refuses bad ρ A s g at m = fails ρ s A g
  refuses lack ρ A s g at m = fails ρ s A g
  refuses (quit o j n) ρ A s g at m = g

  -- a list, by what each item does
  items : (ρ : ℕ → ℕ) → ρ 0 ≡ 0 → (n lo w : ℕ) (h : List State → Exits) (r : ℕ → ℕ → Ans) →
      ((i q : ℕ) (B : List State) (s : Walk) → i ≤ lo + 2 ^ w - 1 → Covered (set ρ (suc n) i) B s → EndsIn (set ρ (suc n) i) (h B) s (r i q)) →
      (A : List State) (s : Walk) → Covered ρ A s → (v at : ℕ) → v < 2 ^ w → EndsIn ρ (list_items track E (eqb w 0) (suc n) lo h A) s (times r 1 (lo + v) at)
  unfolding list_items
  items ρ z n lo w h r body A s g v at l = go (eqb w 0) refl
    where
      least : (t : Bool) → leb 1 lo ≡ t → EndsIn ρ (cond t (any_number (suc n) h (enter (suc n) A)) all_lost) s (times r 1 (lo + v) at)
      least true q =
          let p = leb-true 1 lo q in
          let e : lo + v ≡ suc (lo + v - 1) = omega arith in
          rw e (ends_any ρ (suc n) (lo + 2 ^ w - 1) h r body (lo + v - 1) at (enter (suc n) A) s (omega arith) (enters ρ (suc n) s z A g))
      least false q = ends_lost ρ s (times r 1 (lo + v) at)

      go : (t : Bool) → eqb w 0 ≡ t → EndsIn ρ (list_items track E t (suc n) lo h A) s (times r 1 (lo + v) at)
      go true q =
          let o : v < 1 = rw (eqb-true w 0 q) at l in
          let e : lo + v ≡ lo = omega arith in
          rw e (ends_exactly ρ (suc n) (lo + 2 ^ w - 1) h r body lo 1 at (enter (suc n) A) s (omega arith) (enters ρ (suc n) s z A g))
      go false q = least _ refl

  choice_fails : (q : Bool) (ρ : ℕ → ℕ) (A : List State) (s : Walk) → Covered ρ A s → (X Y : Exits) → Covered ρ (chosen track E q A X Y).failed s
  unfolding chosen
  choice_fails true ρ A s g X Y = inl tt
  choice_fails false ρ A s g X Y = fails_in ρ s A g Y

module _ (track : Bool) (E : Scope → List State → Exits)
    (E-follows : (T : List ℕ) (b : ℕ → ℕ) → Bits b → (i : ℕ) (ρ : ℕ → ℕ) (Γ : Scope) (x : Ctx) → Known ρ Γ x → (e at : ℕ) → e ≤ 524288 → (A : List State) (s : Walk) → Covered ρ A s → EndsIn ρ (E Γ A) s (read_choice (elements T) i x b e at)) where
  -- a choice, by what its alternatives do behind the index
  choices : (q : Bool) (t : ℕ) (fs : Alts) → LentChoice q (Lends fs) (LentAlts fs) → (b : ℕ → ℕ) → Bits b → (ρ : ℕ → ℕ) (Γ : Scope) (x : Ctx) → Known ρ Γ x → (e at p : ℕ) → e ≤ 524288 → (A : List State) (s : Walk) → Covered ρ A s →
      (i : ℕ) → (LentAlts fs → EndsIn ρ (goes_alts track E t 0 fs Γ A) (walked table s (rec t x.0 i 0 at ∷ [])) (read_choice fs i x b e p)) →
      EndsIn ρ (chosen track E q A (E Γ (each (λ σ. step Γ t (value 0 256 0) σ) A)) (goes_alts track E t 0 fs Γ A)) (walked table s (rec t x.0 i 0 at ∷ [])) (read_choice fs i x b e p)
  unfolding chosen
  choices true t fs u b h ρ Γ x k e at p l A s g i f =
      let B = each (λ σ. step Γ t (value 0 256 0) σ) A in
      let w = walked table s (rec t x.0 i 0 at ∷ []) in
      let X = E Γ B in
      rw u.same
      (split (suc i) 256
      (λ c. ends_map _ _ _ _ _ _ w (λ _ d. d) (λ _ d. d) (λ _ d. inl tt) _ (E-follows u.lent b h i ρ Γ x k e p l B w (one-record ρ Γ x k s A g t (value 0 256 0) i 0 at (omega arith, omega arith, refl))))
      (λ c. none_there u.lent i x b e p (omega (arith, u.short)) (λ a. Ends (Covered ρ X.next) (Covered ρ X.given) (Covered ρ anywhere) w a) (λ m. ends_bad _ _ _ w p [] m (inl tt))))
  choices false t fs u b h ρ Γ x k e at p l A s g i f = in_fallible track E ρ _ A (goes_alts track E t 0 fs Γ A) _ (f u)

  mutual
    unfolding read goes leaf length_then walked

    pub follows : (b : ℕ → ℕ) → Bits b → (f : Fmt) → Lent f → (ρ : ℕ → ℕ) (Γ : Scope) (x : Ctx) → Known ρ Γ x → (e at : ℕ) → e ≤ 524288 → (A : List State) (s : Walk) → Covered ρ A s → EndsIn ρ (goes track E f Γ A) s (read f x b e at)
    follows b h (num t lo hi) u ρ Γ x k e at l A s g = ends_pull _ _ _ s b h e (fails track E ρ s A g) at _ _ λ v m _. ends_ok _ _ _ s _ _ _ (number-record ρ Γ x k s A g t lo _ v at m)
    follows b h (listed t hi xs) u ρ Γ x k e at l A s g = ends_pull _ _ _ s b h e (fails track E ρ s A g) at _ _ λ v m _. ends_ok _ _ _ s _ _ _ (one-record ρ Γ x k s A g t (value 0 (2 ^ width hi) 0) v 0 at (omega arith, omega arith, refl))
    follows b h (name t hi) u ρ Γ x k e at l A s g =
        ends_pull _ _ _ s b h e (fails track E ρ s A g) at _ _ λ v m _.
        ends_guard _ _ _ s b h e (fails track E ρ s A g) (leb v (extent 0 hi)) _ _ _ λ q. ends_ok _ _ _ s _ _ _ (one-record ρ Γ x k s A g t (value 0 (suc (extent 0 hi)) 0) v 0 at (omega arith, omega (arith, leb-true v (extent 0 hi) q), refl))
    follows b h (text t n c lo hi) u ρ Γ x k e at l A s g =
        ends_sized _ _ _ s b h e (fails track E ρ s A g) at lo hi _ λ v q m. ends_letters _ _ _ s b h e (fails track E ρ s A g) (width (n - 1)) n (lo + v) q _ λ p. ends_ok _ _ _ s _ _ _ (text-records ρ Γ x k s A g b h t (width (n - 1)) c lo (width (hi - lo)) v at q m)
    follows b h (span t w lo hi) u ρ Γ x k e at l A s g =
        ends_sized _ _ _ s b h e (fails track E ρ s A g) at lo hi _ λ v q m. ends_pull _ _ _ s b h e (fails track E ρ s A g) q ((lo + v) * w) _ λ _ _ y. ends_ok _ _ _ s _ _ _ (sized-span ρ Γ x k s A g t w (2 ^ width (hi - lo)) lo v at q m (omega arith))
    follows b h (any_span t w) u ρ Γ x k e at l A s g =
        ends_lengths _ _ _ s b h e (fails track E ρ s A g) 65537 at _ λ n q. ends_pull _ _ _ s b h e (fails track E ρ s A g) q (n * w) _ λ _ _ y. ends_ok _ _ _ s _ _ _ (any-span ρ Γ x k s A g t (n * w) at q (omega arith))
    follows b h (skipped m) u ρ Γ x k e at l A s g =
        ends_behind _ _ _ s at [] _ _ (ends_lengths _ _ _ s b h e (fails track E ρ s A g) 65537 at _ λ n q. ends_pull _ _ _ s b h e (fails track E ρ s A g) q (n * 8) _ λ _ _ _. ends_ok _ _ _ s _ _ _ g)
    follows b h (small m t) u ρ Γ x k e at l A s g =
        let low = value 0 9223372036854775808 0 in
        let high = value 9223372036854775808 9223372036854775808 0 in
        ends_behind _ _ _ s at [] _ _
        (ends_pull _ _ _ s b h e (fails track E ρ s A g) at 1 _ λ y _ _.
        ends_fork _ _ _ s y _ _ (ends_pull _ _ _ s b h e (fails track E ρ s A g) (at + 1) 6 _ λ v m _. ends_ok _ _ _ s _ _ _ (left_of ρ _ (each (λ σ. step Γ t low σ) A) _ (one-record ρ Γ x k s A g t low v 0 at (omega arith, omega arith, refl))))
        (ends_lengths _ _ _ s b h e (fails track E ρ s A g) 65537 (at + 1) _ λ n q.
        ends_pull _ _ _ s b h e (fails track E ρ s A g) q (n * 8) _ λ v _ _.
        ends_ok _ _ _ s _ _ _
        (split (suc (word v)) 9223372036854775808
        (λ c. left_of ρ _ (each (λ σ. step Γ t low σ) A) _ (one-record ρ Γ x k s A g t low (word v) 0 at (omega arith, omega arith, refl)))
        (λ c. right_of ρ _ (each (λ σ. step Γ t low σ) A) _ (one-record ρ Γ x k s A g t high (word v) 0 at (omega arith, omega (arith, word_lt v), refl))))))
    follows b h null u ρ Γ x k e at l A s g = ends_ok _ _ _ s _ _ _ g
    follows b h (noted t v n f) u ρ Γ x k e at l A s g = ends_behind _ _ _ s at _ _ _ (follows b h f u ρ Γ x k e at l (each (λ σ. step Γ t (value v 1 n) σ) A) _ (one-record ρ Γ x k s A g t (value v 1 n) v n at (omega arith, omega arith, refl)))
    follows b h (placed t f) u ρ Γ x k e at l A s g = ends_behind _ _ _ s at _ _ _ (follows b h f u ρ Γ x k e at l (each (λ σ. step Γ t sort.placed σ) A) _ (one-record ρ Γ x k s A g t sort.placed x.1 0 at (refl, refl)))
    follows b h (marked m) u ρ Γ x k e at l A s g = ends_ok _ _ _ s _ _ _ g
    follows b h (refuse w m) u ρ Γ x k e at l A s g = refuses track E w ρ A s g at m
    follows b h (element f) u ρ Γ x k e at l A s g = follows b h f u ρ _ (x.1, x.1) (element-known ρ Γ x k) e at l A s g
    follows b h (ext f f') u ρ Γ x k e at l A s g =
        let X = goes track E f Γ A in
        let Y = goes track E f' Γ A in
        ends_pull _ _ _ s b h e (fails_in track E ρ s A g (either X Y)) at 1 _ λ y _ _.
        ends_fork _ _ _ s y _ _ (in_fallible track E ρ s A (either X Y) _ (in_left ρ s X Y _ (follows b h f u.0 ρ Γ x k e (at + 1) l A s g))) (ends_behind _ _ _ s (at + 1) [] _ _ (in_fallible track E ρ s A (either X Y) _ (in_right ρ s X Y _ (follows b h f' u.1 ρ Γ x k e (at + 1) l A s g))))
    follows b h (seq fs) u ρ Γ x k e at l A s g =
        let X = goes_fields track E fs Γ A in
        ends_fetch _ _ _ s b h e (fails_in track E ρ s A g X) at (flags fs) _ _ (ends_out _ _ _ s _ _ _ _ (fails_in track E ρ s A g X)) λ _ _ _. ends_behind _ _ _ s (at + flags fs) [] _ _ (in_fallible track E ρ s A X _ (follows_fields b h fs u ρ Γ x k e at (at + flags fs) l A s g))
    follows b h (loose fs) u ρ Γ x k e at l A s g =
        let X = goes_fields track E fs Γ A in
        ends_fetch _ _ _ s b h e (fails_in track E ρ s A g X) at (flags fs) _ _ (ends_late _ _ _ s 1 [] _ _ (in_fallible track E ρ s A X _ (follows_fields (within b e) (within-bits b e h) fs u ρ Γ x k e at (at + (e - at)) l A s g))) λ _ _ _.
        ends_behind _ _ _ s (at + flags fs) [] _ _ (in_fallible track E ρ s A X _ (follows_fields b h fs u ρ Γ x k e at (at + flags fs) l A s g))
    follows b h (choice t fs) u ρ Γ x k e at l A s g =
        let w = width (highest (alternatives_of fs)) in
        ends_pull _ _ _ s b h e (choice_fails track E (eqb t tag.element_index) ρ A s g (E Γ (each (λ σ. step Γ t (value 0 256 0) σ) A)) (goes_alts track E t 0 fs Γ A)) at w _ λ i _ _.
        ends_behind _ _ _ s (at + w) _ _ _ (choices (eqb t tag.element_index) t fs u b h ρ Γ x k e at (at + w) l A s g i (λ v. follows_alts b h fs v t 0 i i (omega arith) ρ Γ x k e at (at + w) l A s g))
    follows b h (many lo hi f) u ρ Γ x k e at l A s g =
        let n = counter f in
        let w = width (hi - lo) in
        let Δ : Scope = record { own = forget (suc n) Γ.own; here = now (suc n); most = lo + 2 ^ w - 1 } in
        let X = list_items track E (eqb w 0) (suc n) lo (λ B. goes track E f Δ B) A in
        ends_sized _ _ _ s b h e (fails_in track E ρ s A g X) at lo hi _ λ v q m.
        in_fallible track E ρ s A X _ (items track E ρ k.0 n lo w (λ B. goes track E f Δ B) (λ i p. read f (x.0, i) b e p) (λ i p B y c d. follows b h f u (set ρ (suc n) i) Δ (x.0, i) (item_known ρ Γ x n _ i k c) e p l B y d) A s g v q m)
    follows b h (inner f) u ρ Γ x k e at l A s g =
        let X = goes track E f Γ A in
        let Y : Exits = record { next = X.next ∪ X.given; given = []; failed = X.failed } in
        ends_lengths _ _ _ s b h e (fails_in track E ρ s A g Y) 65537 at _ λ n q.
        ends_pull _ _ _ s b h e (fails_in track E ρ s A g Y) q n _ λ _ _ y.
        in_fallible track E ρ s A Y _ (ends_close _ _ _ (Covered ρ X.next) (Covered ρ X.given) s (q + n) _ (λ w c. left_of ρ w X.next X.given c) (λ w c. right_of ρ w X.next X.given c) (follows b h f u ρ Γ x k (q + n) q (omega arith) A s g))
    follows b h (soft m r f) u ρ Γ x k e at l A s g =
        let X = goes track E f Γ A in
        ends_soft _ _ _ (Covered ρ X.next) s m r _ (λ w c. left_of ρ w X.next _ c) (λ w c q. right_of ρ w X.next (cond r X.failed A) (rw q c)) (λ q. right_of ρ s X.next (cond r X.failed A) (rw q g)) (follows b h f u ρ Γ x k e at l A s g)
    follows b h (lax m j f) u ρ Γ x k e at l A s g =
        let X = goes track E f Γ A in
        ends_lax _ _ _ (Covered ρ X.given) s m j _ (λ w c. left_of ρ w X.given A c) (right_of ρ s X.given A g) (follows b h f u ρ Γ x k e at l A s g)

    follows_fields : (b : ℕ → ℕ) → Bits b → (fs : Flds) → LentFields fs → (ρ : ℕ → ℕ) (Γ : Scope) (x : Ctx) → Known ρ Γ x → (e q at : ℕ) → e ≤ 524288 → (A : List State) (s : Walk) → Covered ρ A s → EndsIn ρ (goes_fields track E fs Γ A) s (read_fields fs x b e q at)
    follows_fields b h end u ρ Γ x k e q at l A s g = ends_ok _ _ _ s _ _ _ g
    follows_fields b h (f ⨾ fs) u ρ Γ x k e q at l A s g =
        let X = goes track E f Γ A in
        in_then ρ s X (goes_fields track E fs Γ X.next) X.next _ _ (λ _ c. c) (follows b h f u.0 ρ Γ x k e at l A s g) (λ w p c. follows_fields b h fs u.1 ρ Γ x k e q p l X.next w c)
    follows_fields b h (f ⨾? fs) u ρ Γ x k e q at l A s g =
        let X = goes track E f Γ A in
        let B = A ∪ X.next in
        let Y = goes_fields track E fs Γ B in
        ends_fork _ _ _ s (b q) _ _ (in_second ρ s X Y _ (follows_fields b h fs u.1 ρ Γ x k e (suc q) at l B s (left_of ρ s A X.next g)))
        (in_then ρ s X Y B _ _ (λ w c. right_of ρ w A X.next c) (follows b h f u.0 ρ Γ x k e at l A s g) (λ w p c. follows_fields b h fs u.1 ρ Γ x k e (suc q) p l B w c))
    follows_fields b h (or_note t v n f fs) u ρ Γ x k e q at l A s g =
        let X = goes track E f Γ A in
        let C = each (λ σ. step Γ t (value v 1 n) σ) A in
        let B = C ∪ X.next in
        let Y = goes_fields track E fs Γ B in
        ends_fork _ _ _ s (b q) _ _
        (ends_behind _ _ _ s at _ _ _ (in_second ρ _ X Y _ (follows_fields b h fs u.1 ρ Γ x k e (suc q) at l B _ (left_of ρ _ C X.next (one-record ρ Γ x k s A g t (value v 1 n) v n at (omega arith, omega arith, refl))))))
        (in_then ρ s X Y B _ _ (λ w c. right_of ρ w C X.next c) (follows b h f u.0 ρ Γ x k e at l A s g) (λ w p c. follows_fields b h fs u.1 ρ Γ x k e (suc q) p l B w c))
    follows_fields b h (unread t fs) u ρ Γ x k e q at l A s g =
        let C = each (λ σ. step Γ t (value 1 1 0) σ) A in
        ends_fork _ _ _ s (b q) _ _ (follows_fields b h fs u ρ Γ x k e (suc q) at l (A ∪ C) s (left_of ρ s A C g))
        (ends_behind _ _ _ s at _ _ _ (follows_fields b h fs u ρ Γ x k e (suc q) at l (A ∪ C) _ (right_of ρ _ A C (one-record ρ Γ x k s A g t (value 1 1 0) 1 0 at (omega arith, omega arith, refl)))))

    follows_alts : (b : ℕ → ℕ) → Bits b → (fs : Alts) → LentAlts fs → (t base i j : ℕ) → i ≡ base + j → (ρ : ℕ → ℕ) (Γ : Scope) (x : Ctx) → Known ρ Γ x → (e at p : ℕ) → e ≤ 524288 → (A : List State) (s : Walk) → Covered ρ A s → EndsIn ρ (goes_alts track E t base fs Γ A) (walked table s (rec t x.0 i 0 at ∷ [])) (read_choice fs j x b e p)
    follows_alts b h none_left u t base i j q ρ Γ x k e at p l A s g = ends_bad _ _ _ _ _ _ _ (inl tt)
    follows_alts b h (f ∥ fs) u t base i zero q ρ Γ x k e at p l A s g = in_left ρ _ _ (goes_alts track E t (suc base) fs Γ A) _ (follows b h f u.0 ρ Γ x k e p l (each (λ σ. step Γ t (value base 1 0) σ) A) _ (one-record ρ Γ x k s A g t (value base 1 0) i 0 at (omega arith, omega arith, refl)))
    follows_alts b h (f ∥ fs) u t base i (suc j) q ρ Γ x k e at p l A s g = in_right ρ _ (goes track E f Γ (each (λ σ. step Γ t (value base 1 0) σ) A)) _ _ (follows_alts b h fs u.1 t (suc base) i j (omega arith) ρ Γ x k e at p l A s g)
