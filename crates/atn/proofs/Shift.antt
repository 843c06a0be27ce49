-- A stretch of the frame, read by itself, gives what it gives in the frame, at places that are moved. This holds of the formats that tell no spans.
use mathlib.Core.Path.{◌≡◌, refl, sym, ap, ◌∙◌}
use mathlib.Core.Bool.{Bool, true, false, cond, ◌&&◌, false≢true}
use mathlib.Core.List.{List, [], ◌∷◌, ◌++◌}
use Prim.Native.Nat.{ℕ, zero, suc, ◌+◌, ◌-◌, ◌*◌, ◌/◌, ◌≤◌, ◌<◌}
use lib.ListN.{length, drop}
use native.Mathlib.Nat.{add_assoc, add-suc, suc-mul, add_comm}
use native.Mathlib.Omega.{arith}
use lib.Dec.{leb, ltb, eqb}
use borrow.Author.Tests.{ltb-true, ltb-false, lt-ltb, le-ltb, eqb-true, eqb-false, eq-eqb, ne_eqb}
use Rattle.x691.specs.Bits.{uint}
use Rattle.x691.specs.Encoding.{width}
use Rattle.x691.proofs.BitLaws.{uint_agree}
use Rattle.atn.specs.Format.{Fmt, num, listed, name, text, span, any_span, skipped, small, null, noted, placed, marked, refuse, element, ext, seq, loose, choice, many, inner, soft, lax}
use Rattle.atn.specs.Format.{Flds, end, ◌⨾◌, ◌⨾?◌, or_note, unread, Alts, none_left, ◌∥◌, Letters, first, numeric, out, bad, lack, quit}
use Rattle.atn.specs.Reading.{Rec, rec, Ctx, Ans, ok, past, stop, glue, late, then, times, fork, guard, unless, over, fetch, pull, sized, letters, units, packs, pack, coded, spaced, none_above, lettered, kept, short, long, fragment, lengths, length_then, flags, unread_marks, within, close, shut, softly, pass_over, laxly, give_up, read, read_fields, read_choice}
use Rattle.atn.proofs.Steps.{fetch_go, fetch_no}
use Rattle.atn.proofs.Reach.{split}
use Rattle.atn.proofs.Inverse.{both}

-- the records with their fields a bits further on
unfoldable pub displaced : ℕ → List Rec → List Rec
displaced a [] = []
displaced a (rec t m v s q ∷ R) = rec t m v s (a + q) ∷ displaced a R

-- the answer with its places moved by a
unfoldable pub moved : ℕ → Ans → Ans
moved a (ok p R m) = ok (a + p) (displaced a R) m
moved a (past k p R m) = past k (a + p) (displaced a R) m
moved a (stop w p R m) = stop w (a + p) (displaced a R) m

-- no value that the format tells is a place in the frame
unfoldable mutual
  pub placeless : Fmt → Bool
  placeless (num t lo hi) = true
  placeless (listed t hi xs) = true
  placeless (name t hi) = true
  placeless (text t n c lo hi) = true
  placeless (span t w lo hi) = false
  placeless (any_span t w) = false
  placeless (skipped m) = true
  placeless (small m t) = true
  placeless null = true
  placeless (noted t v s f) = placeless f
  placeless (placed t f) = placeless f
  placeless (marked m) = true
  placeless (refuse w m) = true
  placeless (element f) = placeless f
  placeless (ext f g) = placeless f && placeless g
  placeless (seq fs) = placeless_fields fs
  placeless (loose fs) = placeless_fields fs
  placeless (choice t fs) = placeless_choice fs
  placeless (many lo hi f) = placeless f
  placeless (inner f) = placeless f
  placeless (soft m r f) = placeless f
  placeless (lax m j f) = placeless f

  pub placeless_fields : Flds → Bool
  placeless_fields end = true
  placeless_fields (f ⨾ fs) = placeless f && placeless_fields fs
  placeless_fields (f ⨾? fs) = placeless f && placeless_fields fs
  placeless_fields (or_note t v s f fs) = placeless f && placeless_fields fs
  placeless_fields (unread t fs) = placeless_fields fs

  pub placeless_choice : Alts → Bool
  placeless_choice none_left = true
  placeless_choice (f ∥ fs) = placeless f && placeless_choice fs

---------------------------------------------------------------- answers

pub displaced_append : (a : ℕ) (R S : List Rec) → displaced a (R ++ S) ≡ displaced a R ++ displaced a S
unfolding displaced
displaced_append a [] S = refl
displaced_append a (rec t m v s q ∷ R) S = rw (displaced_append a R S)

displaced_packs : (a t m q n k : ℕ) (cs : List ℕ) → displaced a (packs t m q n k cs) ≡ packs t m (a + q) n k cs
unfolding displaced packs
displaced_packs a t m q n zero cs = refl
displaced_packs a t m q n (suc k) cs = rw (displaced_packs a t m q n k (drop 8 cs))

displaced_pack : (a t m q : ℕ) (cs : List ℕ) → displaced a (pack t m q cs) ≡ pack t m (a + q) cs
unfolding pack
displaced_pack a t m q cs = displaced_packs a t m q (length cs) ((length cs + 7) / 8) cs

displaced_text : (a t : ℕ) (c : Letters) (m q : ℕ) (us : List ℕ) → displaced a (lettered t c m q us) ≡ lettered t c m (a + q) us
unfolding displaced
displaced_text a t (first c) m q us = displaced_pack a t m q (coded c us)
displaced_text a t (numeric v) m q us =
    displaced_append a (pack t m q (coded 48 us)) _ ∙ rw (displaced_pack a t m q (coded 48 us)) (ap (λ R. pack t m (a + q) (coded 48 us) ++ R) (go (none_above 10 us)))
  where
    go : (y : Bool) → displaced a (cond y (pack v m q (spaced us)) []) ≡ cond y (pack v m (a + q) (spaced us)) []
    go true = displaced_pack a v m q (spaced us)
    go false = refl

moved_glue : (a : ℕ) (R : List Rec) (m : ℕ) (x : Ans) → glue (displaced a R) m (moved a x) ≡ moved a (glue R m x)
unfolding moved glue
moved_glue a R m (ok p S n) = rw (displaced_append a R S)
moved_glue a R m (past k p S n) = rw (displaced_append a R S)
moved_glue a R m (stop w p S n) = rw (displaced_append a R S)

moved_late : (a k : ℕ) (R : List Rec) (m : ℕ) (x : Ans) → late k (displaced a R) m (moved a x) ≡ moved a (late k R m x)
unfolding moved late
moved_late a k R m (ok p S n) = rw (displaced_append a R S)
moved_late a k R m (past l p S n) = rw (displaced_append a R S)
moved_late a k R m (stop w p S n) = rw (displaced_append a R S)

displaced_kept : (a : ℕ) (r : Bool) (R : List Rec) → kept r (displaced a R) ≡ displaced a (kept r R)
unfolding kept displaced
displaced_kept a true R = refl
displaced_kept a false R = refl

moved_soft : (a k : ℕ) (r : Bool) (x : Ans) → softly k r (moved a x) ≡ moved a (softly k r x)
unfolding moved softly pass_over
moved_soft a k r (ok p R m) = refl
moved_soft a k r (past l p R m) = refl
moved_soft a k r (stop (out l) p R m) = rw (displaced_kept a r R)
moved_soft a k r (stop bad p R m) = rw (displaced_kept a r R)
moved_soft a k r (stop lack p R m) = refl
moved_soft a k r (stop (quit o j l) p R m) = refl

moved_lax : (a k : ℕ) (j : Bool) (x : Ans) → laxly k j (moved a x) ≡ moved a (laxly k j x)
unfolding moved displaced laxly give_up
moved_lax a k j (ok p R m) = refl
moved_lax a k j (past l p R m) = refl
moved_lax a k j (stop (out l) p R m) = refl
moved_lax a k j (stop bad p R m) = refl
moved_lax a k j (stop lack p R m) = refl
moved_lax a k j (stop (quit o i l) p R m) = refl

same_end : (a p q : ℕ) → eqb (a + p) (a + q) ≡ eqb p q
same_end a p q = go (eqb p q) refl
  where
    go : (t : Bool) → eqb p q ≡ t → eqb (a + p) (a + q) ≡ t
    go true h = let z = eqb-true p q h in eq-eqb (a + p) (a + q) (omega arith)
    go false h = ne_eqb (a + p) (a + q) (λ y. eqb-false p q h (omega arith))

pub moved_close : (a q : ℕ) (x : Ans) → close (a + q) (moved a x) ≡ moved a (close q x)
unfolding moved close shut
moved_close a q (ok p R m) = rw (same_end a p q)
moved_close a q (past k p R m) = rw (same_end a p q)
moved_close a q (stop (out l) p R m) = refl
moved_close a q (stop bad p R m) = refl
moved_close a q (stop lack p R m) = refl
moved_close a q (stop (quit o false k) p R m) = refl
moved_close a q (stop (quit o true k) p R m) = rw (same_end a p q)

then_moved : (a : ℕ) (x : Ans) (k k' : ℕ → Ans) → ((q : ℕ) → k' (a + q) ≡ moved a (k q)) → then (moved a x) k' ≡ moved a (then x k)
unfolding then moved
then_moved a (ok q R m) k k' h = rw (h q) (moved_glue a R m (k q))
then_moved a (past l q R m) k k' h = rw (h q) (moved_late a l R m (k q))
then_moved a (stop w q R m) k k' h = refl

-- in a row: what was read before is known
ok_moved : (a q : ℕ) (R : List Rec) (m : ℕ) (k k' : ℕ → Ans) {p : ℕ} → p ≡ a + q → ((q : ℕ) → k' (a + q) ≡ moved a (k q)) → then (ok p (displaced a R) m) k' ≡ moved a (then (ok q R m) k)
unfolding moved
ok_moved a q R m k k' z h = rw z (then_moved a (ok q R m) k k' h)

fork_moved : (a x : ℕ) (y z : Ans) {y' z' : Ans} → y' ≡ moved a y → z' ≡ moved a z → fork x y' z' ≡ moved a (fork x y z)
unfolding fork
fork_moved a zero y z p q = p
fork_moved a (suc x) y z p q = q

guard_moved : (a : ℕ) (t : Bool) (q m : ℕ) (z : Ans) {z' : Ans} {p : ℕ} → p ≡ a + q → z' ≡ moved a z → guard t p m z' ≡ moved a (guard t q m z)
unfolding guard moved displaced
guard_moved a true q m z l h = h
guard_moved a false q m z l h = rw l

---------------------------------------------------------------- reads

uint_moved : (c : ℕ → ℕ) (a at n : ℕ) → uint (λ i. c (a + i)) at n ≡ uint c (a + at) n
unfolding uint
uint_moved c a at zero = refl
uint_moved c a at (suc n) = rw (uint_moved c a (suc at) n, add-suc a at)

module _ (b c : ℕ → ℕ) (a L : ℕ) (agree : (i : ℕ) → i < L → b i ≡ c (a + i)) where
  bits_moved : (at n : ℕ) → at + n ≤ L → uint b at n ≡ uint c (a + at) n
  bits_moved at n l = uint_agree b (λ i. c (a + i)) at n (λ i x y. agree i (omega arith)) ∙ uint_moved c a at n

  units_moved : (w at n : ℕ) → at + n * w ≤ L → units b w at n ≡ units c w (a + at) n
  unfolding units
  units_moved w at zero l = refl
  units_moved w at (suc n) l =
      let m : suc n * w ≡ w + n * w = suc-mul n w ∙ add_comm (n * w) w in
      let z = bits_moved at w (omega arith) in
      let y = units_moved w (at + w) n (omega arith) in
      let x : a + (at + w) ≡ a + at + w = omega arith in
      cc

  unread_moved : (fs : Flds) (q : ℕ) → q + flags fs ≤ L → unread_marks fs b q ≡ unread_marks fs c (a + q)
  unfolding unread_marks flags
  unread_moved end q l = refl
  unread_moved (f ⨾ fs) q l = unread_moved fs q l
  unread_moved (f ⨾? fs) q l = unread_moved fs (suc q) (omega arith) ∙ rw (add-suc a q)
  unread_moved (or_note t v s f fs) q l = unread_moved fs (suc q) (omega arith) ∙ rw (add-suc a q)
  unread_moved (unread t fs) q l = rw (agree q (omega arith), unread_moved fs (suc q) (omega arith), add-suc a q)

  module _ (e : ℕ) (le : e ≤ L) where
    fetch_moved : (at n : ℕ) (k k' : ℕ → Ans) (z z' : Ans) → ((v : ℕ) → at + n ≤ e → k' v ≡ moved a (k v)) → (e < at + n → z' ≡ moved a z) → fetch c (a + e) (a + at) n k' z' ≡ moved a (fetch b e at n k z)
    fetch_moved at n k k' z z' g h =
        split (at + n) e
        (λ l. fetch_go c (a + e) (a + at) n k' z' (omega arith) ∙ rw (← (bits_moved at n (omega arith)), fetch_go b e at n k z l) (g (uint b at n) l))
        (λ l. fetch_no c (a + e) (a + at) n k' z' (omega arith) ∙ h l ∙ rw (fetch_no b e at n k z l))

    pull_moved : (at n : ℕ) (k k' : ℕ → Ans) → ((v : ℕ) → at + n ≤ e → k' v ≡ moved a (k v)) → pull c (a + e) (a + at) n k' ≡ moved a (pull b e at n k)
    unfolding pull moved displaced
    pull_moved at n k k' g =
        let z : a + at + n - (a + e) ≡ at + n - e = omega arith in
        fetch_moved at n k k' (stop (out (at + n - e)) at [] 0) (stop (out (a + at + n - (a + e))) (a + at) [] 0) g (λ _. rw z)

    sized_moved : (at lo hi : ℕ) (k k' : ℕ → ℕ → Ans) → ((n q : ℕ) → q ≤ e → k' n (a + q) ≡ moved a (k n q)) → sized c (a + e) (a + at) lo hi k' ≡ moved a (sized b e at lo hi k)
    unfolding sized then displaced
    sized_moved at lo hi k k' g =
        let w : ℕ = width (hi - lo) in
        pull_moved at w _ _ λ v l. rw (add_assoc a at w) (ap (glue [] (over hi (lo + v))) (g (lo + v) (at + w) l) ∙ moved_glue a [] (over hi (lo + v)) (k (lo + v) (at + w)))

    length_moved : (g at : ℕ) (k k' : ℕ → ℕ → Ans) → ((n q : ℕ) → k' n (a + q) ≡ moved a (k n q)) → lengths g c (a + e) (a + at) k' ≡ moved a (lengths g b e at k)
    unfolding lengths short long fragment moved displaced
    length_moved zero at k k' h = refl
    length_moved (suc g) at k k' h =
        pull_moved at 1 _ _ λ x _.
        fork_moved a x _ _ (rw (add_assoc a at 1, add_assoc a at 8) (pull_moved (at + 1) 7 _ _ λ n _. h n (at + 8)))
        (rw (add_assoc a at 1) (pull_moved (at + 1) 1 _ _ λ y _.
        fork_moved a y _ _ (rw (add_assoc a at 2, add_assoc a at 16) (pull_moved (at + 2) 14 _ _ λ n _. ok_moved a (at + 16) [] _ _ _ refl (λ q. h n q)))
        (rw (add_assoc a at 2, add_assoc a at 8) (pull_moved (at + 2) 6 _ _ λ m _.
        guard_moved a (leb 1 m) (at + 8) 0 _ refl (guard_moved a (leb m 4) (at + 8) 0 _ refl (ok_moved a (at + 8) [] _ _ _ refl (λ q. length_moved g q _ _ (λ n p. h (m * 16384 + n) p))))))))

    letters_moved : (w n i at : ℕ) (k k' : ℕ → Ans) → (at + i * w ≤ e → k' (a + (at + i * w)) ≡ moved a (k (at + i * w))) → at ≤ e → letters c (a + e) w n i (a + at) k' ≡ moved a (letters b e w n i at k)
    unfolding letters then moved displaced
    letters_moved w n zero at k k' h l = (let z : at + 0 * w ≡ at = omega arith in rw z at (h (omega arith)))
    letters_moved w n (suc i) at k k' h l =
        let m : suc i * w ≡ w + i * w = suc-mul i w ∙ add_comm (i * w) w in
        let s : at + suc i * w ≡ at + w + i * w = omega arith in
        pull_moved at w _ _ λ u y. rw (add_assoc a at w) (ap (glue [] (unless (ltb u n) 1)) (letters_moved w n i (at + w) k k' (λ z. rw s at (h (omega arith))) y) ∙ moved_glue a [] (unless (ltb u n) 1) (letters b e w n i (at + w) k))

times_moved : (a : ℕ) (r r' : ℕ → ℕ → Ans) → ((i q : ℕ) → r' i (a + q) ≡ moved a (r i q)) → (i n at : ℕ) → times r' i n (a + at) ≡ moved a (times r i n at)
unfolding times moved displaced
times_moved a r r' h i zero at = refl
times_moved a r r' h i (suc n) at = rw (h i at) (then_moved a (r i at) _ _ (λ q. times_moved a r r' h (suc i) n q))

-- the window's own bits agree everywhere, its end moved too
within_moved : (b c : ℕ → ℕ) (a e : ℕ) → ((i : ℕ) → i < e → b i ≡ c (a + i)) → (i : ℕ) → within b e i ≡ within c (a + e) (a + i)
unfolding within
within_moved b c a e h i = go (ltb i e) refl
  where
    go : (t : Bool) → ltb i e ≡ t → cond t (b i) 0 ≡ cond (ltb (a + i) (a + e)) (c (a + i)) 0
    go true q = rw (lt-ltb (a + i) (a + e) (let z = ltb-true i e q in omega arith)) (h i (ltb-true i e q))
    go false q = rw (le-ltb (a + i) (a + e) (let z = ltb-false i e q in omega arith))

---------------------------------------------------------------- the theorem

mutual
  unfolding read moved displaced placeless flags length_then

  pub shift : (b c : ℕ → ℕ) (a L : ℕ) → ((i : ℕ) → i < L → b i ≡ c (a + i)) → (f : Fmt) (x : Ctx) (e at : ℕ) → placeless f ≡ true → e ≤ L → read f x c (a + e) (a + at) ≡ moved a (read f x b e at)
  shift b c a L h (num t lo hi) x e at z l = pull_moved b c a L h e l at _ _ _ λ v _. rw (add_assoc a at _)
  shift b c a L h (listed t hi xs) x e at z l = pull_moved b c a L h e l at _ _ _ λ v _. rw (add_assoc a at _)
  shift b c a L h (name t hi) x e at z l = pull_moved b c a L h e l at _ _ _ λ v _. guard_moved a _ _ _ _ (add_assoc a at _) (rw (add_assoc a at _))
  shift b c a L h (text t n y lo hi) x e at z l =
      let w : ℕ = width (n - 1) in
      sized_moved b c a L h e l at lo hi _ _ λ k q i.
      letters_moved b c a L h e l w n k q _ _ (λ u. rw (displaced_text a t y x.0 at (units b w q k)) (ap (λ (cs : List ℕ). ok (a + (q + k * w)) (lettered t y x.0 (a + at) cs) 0) (sym (units_moved b c a L h w q k (omega arith))))) i
  shift b c a L h (span t w lo hi) x e at z l = absurd (false≢true z)
  shift b c a L h (any_span t w) x e at z l = absurd (false≢true z)
  shift b c a L h (skipped m) x e at z l = ok_moved a at [] _ _ _ refl (λ p. length_moved b c a L h e l 65537 p _ _ λ k q. pull_moved b c a L h e l q (k * 8) _ _ λ _ _. rw (add_assoc a q (k * 8)))
  shift b c a L h (small m t) x e at z l =
      ok_moved a at [] _ _ _ refl (λ p.
      pull_moved b c a L h e l p 1 _ _ λ y _.
      fork_moved a y _ _ (rw (add_assoc a p 1, add_assoc a p 7) (pull_moved b c a L h e l (p + 1) 6 _ _ λ v _. refl))
      (rw (add_assoc a p 1) (length_moved b c a L h e l 65537 (p + 1) _ _ λ k q. pull_moved b c a L h e l q (k * 8) _ _ λ _ _. rw (add_assoc a q (k * 8)))))
  shift b c a L h null x e at z l = refl
  shift b c a L h (noted t v s f) x e at z l = ok_moved a at _ 0 _ _ refl (λ p. shift b c a L h f x e p z l)
  shift b c a L h (placed t f) x e at z l = ok_moved a at _ 0 _ _ refl (λ p. shift b c a L h f x e p z l)
  shift b c a L h (marked m) x e at z l = refl
  shift b c a L h (refuse w m) x e at z l = refl
  shift b c a L h (element f) x e at z l = shift b c a L h f (x.1, x.1) e at z l
  shift b c a L h (ext f g) x e at z l =
      let y = both (placeless f) (placeless g) z in
      pull_moved b c a L h e l at 1 _ _ λ v _. rw (add_assoc a at 1) (fork_moved a v _ _ (shift b c a L h f x e (at + 1) y.0 l) (ok_moved a (at + 1) [] _ _ _ refl (λ p. shift b c a L h g x e p y.1 l)))
  shift b c a L h (seq fs) x e at z l =
      let w : ℕ = flags fs in
      fetch_moved b c a L h e l at w _ _ _ _
      (λ _ q. rw (← (unread_moved b c a L h fs at (omega arith))) (ok_moved a (at + w) [] _ _ _ (add_assoc a at w) (λ p. shift_fields b c a L h fs x e at p z l (omega arith))))
      (λ q. let y : a + at + (a + e - (a + at)) ≡ a + (at + (e - at)) = omega arith in
      let u = unread_moved (within b e) (within c (a + e)) a (at + w) (λ i _. within_moved b c a e (λ j k. h j (omega arith)) i) fs at (omega arith) in
      rw (y, u))
  shift b c a L h (loose fs) x e at z l =
      let w : ℕ = flags fs in
      fetch_moved b c a L h e l at w _ _ _ _
      (λ _ q. rw (← (unread_moved b c a L h fs at (omega arith))) (ok_moved a (at + w) [] _ _ _ (add_assoc a at w) (λ p. shift_fields b c a L h fs x e at p z l (omega arith))))
      (λ q. let y : a + at + (a + e - (a + at)) ≡ a + (at + (e - at)) = omega arith in
      let g : (i : ℕ) → i < at + w + e → within b e i ≡ within c (a + e) (a + i) = λ i _. within_moved b c a e (λ j k. h j (omega arith)) i in
      let u = unread_moved (within b e) (within c (a + e)) a (at + w + e) g fs at (omega arith) in
      let v = shift_fields (within b e) (within c (a + e)) a (at + w + e) g fs x e at (at + (e - at)) z (omega arith) (omega arith) in
      rw (y, ← u, v) (moved_late a 1 [] (unread_marks fs (within b e) at) (read_fields fs x (within b e) e at (at + (e - at)))))
  shift b c a L h (choice t fs) x e at z l = pull_moved b c a L h e l at _ _ _ λ v _. ok_moved a _ _ 0 _ _ (add_assoc a at _) (λ p. shift_choice b c a L h fs v x e p z l)
  shift b c a L h (many lo hi f) x e at z l = sized_moved b c a L h e l at lo hi _ _ λ k q _. times_moved a _ _ (λ i p. shift b c a L h f (x.0, i) e p z l) 1 k q
  shift b c a L h (inner f) x e at z l =
      length_moved b c a L h e l 65537 at _ _ λ k q.
      pull_moved b c a L h e l q k _ _ λ _ u.
      rw (add_assoc a q k) (ap (close (a + (q + k))) (shift b c a L h f x (q + k) q z (omega arith)) ∙ moved_close a (q + k) (read f x b (q + k) q))
  shift b c a L h (soft m r f) x e at z l = rw (shift b c a L h f x e at z l) (moved_soft a m r (read f x b e at))
  shift b c a L h (lax m j f) x e at z l = rw (shift b c a L h f x e at z l) (moved_lax a m j (read f x b e at))

  shift_fields : (b c : ℕ → ℕ) (a L : ℕ) → ((i : ℕ) → i < L → b i ≡ c (a + i)) → (fs : Flds) (x : Ctx) (e q at : ℕ) → placeless_fields fs ≡ true → e ≤ L → q + flags fs ≤ L
      → read_fields fs x c (a + e) (a + q) (a + at) ≡ moved a (read_fields fs x b e q at)
  shift_fields b c a L h end x e q at z l k = refl
  shift_fields b c a L h (f ⨾ fs) x e q at z l k =
      let y = both (placeless f) (placeless_fields fs) z in
      rw (shift b c a L h f x e at y.0 l) (then_moved a (read f x b e at) _ _ (λ p. shift_fields b c a L h fs x e q p y.1 l k))
  shift_fields b c a L h (f ⨾? fs) x e q at z l k =
      let y = both (placeless f) (placeless_fields fs) z in
      rw (← (h q (omega arith)), ← (add-suc a q)) (fork_moved a (b q) _ _ (shift_fields b c a L h fs x e (suc q) at y.1 l (omega arith))
      (rw (shift b c a L h f x e at y.0 l) (then_moved a (read f x b e at) _ _ (λ p. shift_fields b c a L h fs x e (suc q) p y.1 l (omega arith)))))
  shift_fields b c a L h (or_note t v s f fs) x e q at z l k =
      let y = both (placeless f) (placeless_fields fs) z in
      rw (← (h q (omega arith)), ← (add-suc a q)) (fork_moved a (b q) _ _ (ok_moved a at _ 0 _ _ refl (λ p. shift_fields b c a L h fs x e (suc q) p y.1 l (omega arith)))
      (rw (shift b c a L h f x e at y.0 l) (then_moved a (read f x b e at) _ _ (λ p. shift_fields b c a L h fs x e (suc q) p y.1 l (omega arith)))))
  shift_fields b c a L h (unread t fs) x e q at z l k =
      rw (← (h q (omega arith)), ← (add-suc a q)) (fork_moved a (b q) _ _ (shift_fields b c a L h fs x e (suc q) at z l (omega arith)) (ok_moved a at _ _ _ _ refl (λ p. shift_fields b c a L h fs x e (suc q) p z l (omega arith))))

  shift_choice : (b c : ℕ → ℕ) (a L : ℕ) → ((i : ℕ) → i < L → b i ≡ c (a + i)) → (fs : Alts) (i : ℕ) (x : Ctx) (e at : ℕ) → placeless_choice fs ≡ true → e ≤ L → read_choice fs i x c (a + e) (a + at) ≡ moved a (read_choice fs i x b e at)
  shift_choice b c a L h none_left i x e at z l = refl
  shift_choice b c a L h (f ∥ fs) zero x e at z l = shift b c a L h f x e at (both (placeless f) (placeless_choice fs) z).0 l
  shift_choice b c a L h (f ∥ fs) (suc i) x e at z l = shift_choice b c a L h fs i x e at (both (placeless f) (placeless_choice fs) z).1 l
