-- In front of every reading is known what its format says.
use mathlib.Core.Path.{◌≡◌, refl, ◌∙◌}
use mathlib.Core.Bool.{Bool, true, false, cond}
use mathlib.Core.List.{List, [], ◌∷◌, ◌++◌, append_assoc}
use mathlib.Core.Logic.{inl}
use Prim.Native.Nat.{ℕ, zero, suc, ◌+◌, ◌-◌, ◌*◌, ◌/◌, ◌≤◌}
use native.Mathlib.Omega.{arith}
use lib.Dec.{leb, eqb}
use lib.ListN.{length, drop}
use borrow.Author.Tests.{leb-true, eqb-true}
use Rattle.x691.specs.Types.{extent}
use Rattle.x691.specs.Encoding.{width, highest}
use Rattle.atn.specs.Format.{Fmt, num, listed, name, text, span, any_span, skipped, small, null, noted, placed, marked, refuse, element, ext, seq, loose, choice, many, inner, soft, lax}
use Rattle.atn.specs.Format.{Flds, end, ◌⨾◌, ◌⨾?◌, or_note, unread, Alts, none_left, ◌∥◌, alternatives_of, Letters, first, numeric, Why, out, bad, lack, quit}
use Rattle.atn.specs.Reading.{Rec, rec, Ctx, Ans, ok, stop, then, times, packs, pack, coded, spaced, none_above, lettered, spanned, units, length_then, flags, within, read, read_fields, read_choice}
use Rattle.atn.specs.Messages.{elements}
use Rattle.atn.specs.Tags as tags
use Rattle.atn.proofs.Texts.{length-units, length-coded}
use Rattle.agreement_promises.proofs.States.{State, Covered, ◌∪◌, all_among, left_of, right_of, all_among_lem, told, told_covered}
use Rattle.agreement_promises.proofs.Answers.{Leads, Within, Front, front-map, front-more, front-left, front_right, front_ok, front_out, front-bad, front-late, front-then, front-behind, front_quiet, front-fork, front_soft, front_lax, front-close, front-guard, front-fetch, front-pull, front-sized, front-letters, front-lengths}
use Rattle.agreement_promises.proofs.Back.{closure, items, texts, back, back_fields, back_alts}
use Rattle.agreement_promises.proofs.Back as known
use Rattle.agreement_promises.proofs.Over.{over, over_fields, over_alts}

module _ (K : ℕ → ℕ) where
  ---------------------------------------------------------------- items

  -- what it begins with is in it, and no item leads out of it
  closed : (g : ℕ) (h : List State → List State) (B : List State) → Within K B (closure g h B) × Within K (h (closure g h B)) (closure g h B)
  unfolding closure
  closed zero h B = ((λ S c. inl tt), λ S c. inl tt)
  closed (suc g) h B = go (all_among (h B) B) refl (closed g h (h B ∪ B))
    where
      go : (t : Bool) → all_among (h B) B ≡ t → Within K (h B ∪ B) (closure g h (h B ∪ B)) × Within K (h (closure g h (h B ∪ B))) (closure g h (h B ∪ B)) → let Z = cond t B (closure g h (h B ∪ B)) in Within K B Z × Within K (h Z) Z
      go true q w = ((λ S c. c), λ S c. all_among_lem K S (h B) B q c)
      go false q w = ((λ S c. w.0 S (right_of K S (h B) B c)), w.1)

  module _ (G F : List State) (h : List State → List State) (r : ℕ → ℕ → Ans) (item : (M : List State) (i at : ℕ) → Front K M G F (h M) (r i at)) where
    any_items : (B : List State) → Within K (h B) B → (n i at : ℕ) → Front K B G F B (times r i n at)
    unfolding times
    any_items B w zero i at = front_ok K _ _ _ _ _ _ _ (λ S c. c)
    any_items B w (suc n) i at = front-then K _ _ _ _ _ (r i at) _ (front-more K _ _ _ _ _ w (r i at) (item B i at)) λ p. any_items B w n (suc i) p

    front_items : (N : List State) (lo v i at : ℕ) → Front K N G F (items lo h (closure 4 h N)) (times r i (lo + v) at)
    unfolding items times
    front_items N zero v i at =
        let e : 0 + v ≡ v = omega arith in
        rw e (front-map K _ _ _ _ _ _ _ _ (closed 4 h N).0 (λ S c. c) (λ S c. c) (λ S c. c) _ (any_items (closure 4 h N) (closed 4 h N).1 v i at))
    front_items N (suc lo) v i at =
        let e : suc lo + v ≡ suc (lo + v) = omega arith in
        rw e (front-then K _ _ _ _ _ (r i at) _ (item (items lo h (closure 4 h N)) i at) λ p. front_items N lo v (suc i) p)

  ---------------------------------------------------------------- records

  one_told : (t m v n q : ℕ) (N : List State) → Leads K N (told t N) (rec t m v n q ∷ [])
  one_told t m v n q N S c = told_covered K t m v n q S N c

  module _ (t m q : ℕ) where
    any_packs : (n : ℕ) (B : List State) → Within K (told t B) B → (k : ℕ) (cs : List ℕ) → Leads K B B (packs t m q n k cs)
    unfolding packs
    any_packs n B w zero cs = λ S c. c
    any_packs n B w (suc k) cs = λ S c. w _ (told_covered K t m _ n q _ B (any_packs n B w k (drop 8 cs) S c))

    text-packs : (some : Bool) (n k : ℕ) (cs : List ℕ) (N : List State) → (some ≡ true → 1 ≤ k) → Leads K N (texts some t N) (packs t m q n k cs)
    unfolding texts packs
    text-packs some n k cs N l S c = go some k l
      where
        B : List State
        B = closure 4 (λ M. told t M) N

        go : (u : Bool) (j : ℕ) → (u ≡ true → 1 ≤ j) → Covered K (cond u (told t B) B) (packs t m q n j cs ++ S)
        go true zero g = absurd (omega (arith, g refl))
        go true (suc j) g = told_covered K t m _ n q _ B (any_packs n B (closed 4 (λ M. told t M) N).1 j (drop 8 cs) S ((closed 4 (λ M. told t M) N).0 S c))
        go false j g = any_packs n B (closed 4 (λ M. told t M) N).1 j cs S ((closed 4 (λ M. told t M) N).0 S c)

    -- a text of lo characters or more
    text-pack : (lo v : ℕ) (cs : List ℕ) (N : List State) → length cs ≡ lo + v → Leads K N (texts (leb 1 lo) t N) (pack t m q cs)
    unfolding pack
    text-pack lo v cs N e = text-packs (leb 1 lo) (length cs) ((length cs + 7) / 8) cs N (λ s. let l = leb-true 1 lo s in omega arith)

    any_pack : (cs : List ℕ) (N : List State) → Leads K N (texts false t N) (pack t m q cs)
    unfolding pack
    any_pack cs N = text-packs false (length cs) ((length cs + 7) / 8) cs N (λ s. let z : ◌≡◌ {A = ℕ} 0 1 = cc in absurd (omega arith))

  front-letter : (t m q : ℕ) (c : Letters) (lo v : ℕ) (us : List ℕ) (N : List State) → length us ≡ lo + v → Leads K N (known.letters t c (leb 1 lo) N) (lettered t c m q us)
  unfolding known.letters texts
  front-letter t m q (first c) lo v us N e = text-pack t m q lo v (coded c us) N (length-coded c us ∙ e)
  front-letter t m q (numeric u) lo v us N e = λ S h.
      rw (append_assoc (pack t m q (coded 48 us)) (cond (none_above 10 us) (pack u m q (spaced us)) []) S)
      (text-pack t m q lo v (coded 48 us) (texts false u N) (length-coded 48 us ∙ e) _ (go S h (none_above 10 us)))
    where
      go : (S : List Rec) → Covered K N S → (b : Bool) → Covered K (texts false u N) (cond b (pack u m q (spaced us)) [] ++ S)
      go S h true = any_pack u m q (spaced us) N S h
      go S h false = (closed 4 (λ M. told u M) N).0 S h

  span-told : (t m at q k : ℕ) (N : List State) → Leads K N (told t N ∪ N) (spanned t m at q k)
  unfolding spanned
  span-told t m at q zero N = λ S c. right_of K S (told t N) N c
  span-told t m at q (suc k) N = λ S c. left_of K _ (told t N) N (one_told t m q (suc k) at N S c)

  -- what has no reader
  refused : (N G F : List State) (w : Why) (at m : ℕ) → Front K N G F (G ∪ F) (stop w at [] m)
  unfolding Front
  refused N G F (out k) at m = λ S c. right_of K S G F c
  refused N G F bad at m = λ S c. right_of K S G F c
  refused N G F lack at m = λ S c. right_of K S G F c
  refused N G F (quit o j k) at m = λ S c. left_of K S G F c

module _ (K : ℕ → ℕ) (T : List ℕ) (E : List State → List State → List State → List State)
    (E-front : (N G F : List State) (i m p at : ℕ) (x : Ctx) (b : ℕ → ℕ) (e : ℕ) → Front K N G F (E N G F) (then (ok p (rec tags.element_index m i 0 at ∷ []) 0) λ q. read_choice (elements T) i x b e q)) where
  -- a choice, by what its alternatives do
  choices : (c : Bool) (t : ℕ) → eqb t tags.element_index ≡ c → (fs : Alts) (N G F A : List State) (i m p at : ℕ) (x : Ctx) (b : ℕ → ℕ) (e : ℕ) → Front K N G F A (read_choice fs i x b e p) →
      Front K N G F (cond c (E N G F) (told t A)) (then (ok p (rec t m i 0 at ∷ []) 0) λ q. read_choice (cond c (elements T) fs) i x b e q)
  choices true t w fs N G F A i m p at x b e f = rw (eqb-true t tags.element_index w) (E-front N G F i m p at x b e)
  choices false t w fs N G F A i m p at x b e f = front-behind K _ _ _ _ _ _ _ _ _ (one_told K t m i 0 at A) f

  mutual
    unfolding read back over length_then

    pub fronts : (f : Fmt) (N G F : List State) (x : Ctx) (b : ℕ → ℕ) (e at : ℕ) → Front K N G F (back E f N G F) (read (over T f) x b e at)
    fronts (num t lo hi) N G F x b e at = front-pull K _ _ _ _ (λ S c. right_of K S (told t N) F c) b e at _ _ λ v. front-left K _ _ _ (told t N) F _ (front_ok K _ _ _ _ _ _ _ (one_told K t _ _ _ _ N))
    fronts (listed t hi xs) N G F x b e at = front-pull K _ _ _ _ (λ S c. right_of K S (told t N) F c) b e at _ _ λ v. front-left K _ _ _ (told t N) F _ (front_ok K _ _ _ _ _ _ _ (one_told K t _ _ _ _ N))
    fronts (name t hi) N G F x b e at =
        front-pull K _ _ _ _ (λ S c. right_of K S (told t N) F c) b e at _ _ λ v. front-guard K _ _ _ _ (λ S c. right_of K S (told t N) F c) b e (leb v (extent 0 hi)) _ _ _ (front-left K _ _ _ (told t N) F _ (front_ok K _ _ _ _ _ _ _ (one_told K t _ _ _ _ N)))
    fronts (text t n c lo hi) N G F x b e at =
        let X = known.letters t c (leb 1 lo) N in
        let w = width (n - 1) in
        front-sized K _ _ _ _ (λ S d. right_of K S X F d) b e at lo hi _ λ v q.
        front-letters K _ _ _ _ (λ S d. right_of K S X F d) b e w n (lo + v) q _ λ p.
        front-left K _ _ _ X F _ (front_ok K _ _ _ _ _ _ _ (front-letter K t x.0 at c lo v (units b w q (lo + v)) N (length-units b w q (lo + v))))
    fronts (span t w lo hi) N G F x b e at =
        let X = told t N ∪ N in
        front-sized K _ _ _ _ (λ S c. right_of K S X F c) b e at lo hi _ λ v q. front-pull K _ _ _ _ (λ S c. right_of K S X F c) b e q ((lo + v) * w) _ λ _. front-left K _ _ _ X F _ (front_ok K _ _ _ _ _ _ _ (span-told K t x.0 at q ((lo + v) * w) N))
    fronts (any_span t w) N G F x b e at =
        let X = told t N ∪ N in
        front-lengths K _ _ _ _ (λ S c. right_of K S X F c) b e 65537 at _ λ n q. front-pull K _ _ _ _ (λ S c. right_of K S X F c) b e q (n * w) _ λ _. front-left K _ _ _ X F _ (front_ok K _ _ _ _ _ _ _ (span-told K t x.0 at q (n * w) N))
    fronts (skipped m) N G F x b e at =
        front_quiet K _ _ _ _ _ _ _ (front-lengths K _ _ _ _ (λ S c. right_of K S N F c) b e 65537 at _ λ n q. front-pull K _ _ _ _ (λ S c. right_of K S N F c) b e q (n * 8) _ λ _. front-left K _ _ _ N F _ (front_ok K _ _ _ _ _ _ _ (λ S c. c)))
    fronts (small m t) N G F x b e at =
        front_quiet K _ _ _ _ _ _ _
        (front-pull K _ _ _ _ (λ S c. right_of K S (told t N) F c) b e at 1 _ λ y.
        front-fork K _ _ _ _ y _ _ (front-pull K _ _ _ _ (λ S c. right_of K S (told t N) F c) b e (at + 1) 6 _ λ v. front-left K _ _ _ (told t N) F _ (front_ok K _ _ _ _ _ _ _ (one_told K t _ _ _ _ N)))
        (front-lengths K _ _ _ _ (λ S c. right_of K S (told t N) F c) b e 65537 (at + 1) _ λ n q. front-pull K _ _ _ _ (λ S c. right_of K S (told t N) F c) b e q (n * 8) _ λ v. front-left K _ _ _ (told t N) F _ (front_ok K _ _ _ _ _ _ _ (one_told K t _ _ _ _ N))))
    fronts null N G F x b e at = front_ok K _ _ _ _ _ _ _ (λ S c. c)
    fronts (noted t v n f) N G F x b e at = front-behind K _ _ _ _ _ _ _ _ _ (one_told K t _ _ _ _ (back E f N G F)) (fronts f N G F x b e at)
    fronts (placed t f) N G F x b e at = front-behind K _ _ _ _ _ _ _ _ _ (one_told K t _ _ _ _ (back E f N G F)) (fronts f N G F x b e at)
    fronts (marked m) N G F x b e at = front_ok K _ _ _ _ _ _ _ (λ S c. c)
    fronts (refuse w m) N G F x b e at = refused K N G F w at m
    fronts (element f) N G F x b e at = fronts f N G F (x.1, x.1) b e at
    fronts (ext f g) N G F x b e at =
        let X = back E f N G F in
        let Y = back E g N G F in
        front-pull K _ _ _ _ (λ S c. right_of K S (X ∪ Y) F c) b e at 1 _ λ y.
        front-fork K _ _ _ _ y _ _ (front-left K _ _ _ (X ∪ Y) F _ (front-left K _ _ _ X Y _ (fronts f N G F x b e (at + 1)))) (front_quiet K _ _ _ _ _ _ _ (front-left K _ _ _ (X ∪ Y) F _ (front_right K _ _ _ X Y _ (fronts g N G F x b e (at + 1)))))
    fronts (seq fs) N G F x b e at =
        let X = back_fields E fs N G F in
        front-fetch K _ _ _ _ (λ S c. right_of K S X F c) b e at (flags (over_fields T fs)) _ _ (front_out K _ _ _ _ _ _ _ _ (λ S c. right_of K S X F c)) λ _. front_quiet K _ _ _ _ _ _ _ (front-left K _ _ _ X F _ (fronts_fields fs N G F x b e at (at + flags (over_fields T fs))))
    fronts (loose fs) N G F x b e at =
        let X = back_fields E fs N G F in
        front-fetch K _ _ _ _ (λ S c. right_of K S X F c) b e at (flags (over_fields T fs)) _ _ (front-late K _ _ _ _ _ 1 [] _ _ (λ S c. left_of K S X F c) (fronts_fields fs N G F x (within b e) e at (at + (e - at)))) λ _.
        front_quiet K _ _ _ _ _ _ _ (front-left K _ _ _ X F _ (fronts_fields fs N G F x b e at (at + flags (over_fields T fs))))
    fronts (choice t fs) N G F x b e at =
        let X = cond (eqb t tags.element_index) (E N G F) (told t (back_alts E fs N G F)) in
        let w = width (highest (alternatives_of (cond (eqb t tags.element_index) (elements T) (over_alts T fs)))) in
        front-pull K _ _ _ _ (λ S c. right_of K S X F c) b e at w _ λ i. front-left K _ _ _ X F _ (choices (eqb t tags.element_index) t refl (over_alts T fs) N G F (back_alts E fs N G F) i x.0 (at + w) at x b e (fronts_alts fs N G F i x b e (at + w)))
    fronts (many lo hi f) N G F x b e at =
        let h : List State → List State = λ M. back E f M G F in
        let X = items lo h (closure 4 h N) in
        front-sized K _ _ _ _ (λ S c. right_of K S X F c) b e at lo hi _ λ v q. front-left K _ _ _ X F _ (front_items K G F h (λ i p. read (over T f) (x.0, i) b e p) (λ M i p. fronts f M G F (x.0, i) b e p) N lo v 1 q)
    fronts (inner f) N G F x b e at =
        let X = back E f N N F in
        front-lengths K _ _ _ _ (λ S c. right_of K S X F c) b e 65537 at _ λ n q. front-pull K _ _ _ _ (λ S c. right_of K S X F c) b e q n _ λ _. front-left K _ _ _ X F _ (front-close K _ _ _ _ (q + n) _ (fronts f N N F x b (q + n) q))
    fronts (soft m r f) N G F x b e at =
        let H = F ∪ cond r N [] in
        let X = back E f N G H in
        front_soft K _ _ _ _ _ m r _ (λ S c. right_of K S X N c) (λ S c. left_of K S F (cond r N []) c) (λ q S c. right_of K S F (cond r N []) (rw q c)) (front-left K _ _ _ X N _ (fronts f N G H x b e at))
    fronts (lax m j f) N G F x b e at =
        let X = back E f N G F in
        front_lax K _ _ _ _ m j _ (λ S c. right_of K S X G c) (front-left K _ _ _ X G _ (fronts f N G F x b e at))

    fronts_fields : (fs : Flds) (N G F : List State) (x : Ctx) (b : ℕ → ℕ) (e q at : ℕ) → Front K N G F (back_fields E fs N G F) (read_fields (over_fields T fs) x b e q at)
    fronts_fields end N G F x b e q at = front_ok K _ _ _ _ _ _ _ (λ S c. c)
    fronts_fields (f ⨾ fs) N G F x b e q at = front-then K _ _ _ _ _ (read (over T f) x b e at) _ (fronts f (back_fields E fs N G F) G F x b e at) λ p. fronts_fields fs N G F x b e q p
    fronts_fields (f ⨾? fs) N G F x b e q at =
        let M = back_fields E fs N G F in
        let X = back E f M G F in
        front-fork K _ _ _ _ (b q) _ _ (front-left K _ _ _ M X _ (fronts_fields fs N G F x b e (suc q) at)) (front_right K _ _ _ M X _ (front-then K _ _ _ _ _ (read (over T f) x b e at) _ (fronts f M G F x b e at) λ p. fronts_fields fs N G F x b e (suc q) p))
    fronts_fields (or_note t v n f fs) N G F x b e q at =
        let M = back_fields E fs N G F in
        let X = back E f M G F in
        front-fork K _ _ _ _ (b q) _ _ (front-left K _ _ _ (told t M) X _ (front-behind K _ _ _ _ _ _ _ _ _ (one_told K t _ _ _ _ M) (fronts_fields fs N G F x b e (suc q) at)))
        (front_right K _ _ _ (told t M) X _ (front-then K _ _ _ _ _ (read (over T f) x b e at) _ (fronts f M G F x b e at) λ p. fronts_fields fs N G F x b e (suc q) p))
    fronts_fields (unread t fs) N G F x b e q at =
        let M = back_fields E fs N G F in
        front-fork K _ _ _ _ (b q) _ _ (front-left K _ _ _ M (told t M) _ (fronts_fields fs N G F x b e (suc q) at)) (front_right K _ _ _ M (told t M) _ (front-behind K _ _ _ _ _ _ _ _ _ (one_told K t _ _ _ _ M) (fronts_fields fs N G F x b e (suc q) at)))

    fronts_alts : (fs : Alts) (N G F : List State) (i : ℕ) (x : Ctx) (b : ℕ → ℕ) (e at : ℕ) → Front K N G F (back_alts E fs N G F) (read_choice (over_alts T fs) i x b e at)
    fronts_alts none_left N G F i x b e at = front-bad K _ _ _ _ _ _ _ (λ S c. c)
    fronts_alts (f ∥ fs) N G F zero x b e at = front-left K _ _ _ (back E f N G F) (back_alts E fs N G F) _ (fronts f N G F x b e at)
    fronts_alts (f ∥ fs) N G F (suc i) x b e at = front_right K _ _ _ (back E f N G F) (back_alts E fs N G F) _ (fronts_alts fs N G F i x b e at)
