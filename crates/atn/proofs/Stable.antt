-- Stable: an answer that is not open hangs on the bits up to its reach and on nothing else. Cut short: with fewer bits the answer is open.
use mathlib.Core.Path.{◌≡◌, refl, sym, ap, ◌∙◌}
use mathlib.Core.Bool.{Bool, true, false, true≢false}
use mathlib.Core.List.{List, [], ◌∷◌}
use Prim.Native.Nat.{ℕ, zero, suc, ◌+◌, ◌-◌, ◌*◌, ◌≤◌, ◌<◌}
use native.Mathlib.Nat.{suc-mul, add_comm}
use native.Mathlib.Omega.{arith}
use lib.Dec.{ltb}
use Rattle.x691.specs.Bits.{uint}
use Rattle.x691.specs.Types.{extent}
use Rattle.x691.specs.Encoding.{width, highest}
use Rattle.atn.specs.Format.{Fmt, num, listed, name, text, span, any_span, skipped, small, null, noted, placed, marked, refuse, element, ext, seq, loose, choice, many, inner, soft, lax}
use Rattle.atn.specs.Format.{Flds, end, ◌⨾◌, ◌⨾?◌, or_note, unread, Alts, none_left, ◌∥◌, alternatives_of, out}
use Rattle.atn.specs.Reading.{Rec, rec, word, Ctx, Ans, ok, past, stop, glue, then, times, fork, guard, unless, fetch, pull, sized, letters, lettered, short, long, fragment, lengths, length_then, flags, unread_marks, close, softly, laxly, read, read_fields, read_choice}
use Rattle.atn.specs.Demands.{Agree}
use Rattle.atn.proofs.Steps.{fetch_go, fetch_no}
use Rattle.atn.proofs.Reach.{reach, opens, is_open, split, glue-is, late_is, soft_is, lax_is, close_is, mono_pull, mono_then, mono_times, mono_fork, mono_guard, Rises, mono_letters, mono_short, mono_long, mono_fragment, mono_lengths, mono_length, mono, mono_fields, mono_choice}
use Rattle.atn.proofs.SameBits.{agree_le, same_bits, same_units, same-unread, same}

-- y is what becomes of the answer x when the bits are c's and the window ends at u
pub record Becomes (b c : ℕ → ℕ) (u : ℕ) (x y : Ans) : Type 0 where
  pub whole : is_open x ≡ false → Agree b c (reach x) → reach x ≤ u → y ≡ x
  pub short : is_open x ≡ false → u < reach x → Agree b c u → is_open y ≡ true

out_open : (k r : ℕ) (R : List Rec) (m : ℕ) → is_open (stop (out k) r R m) ≡ true
unfolding is_open opens
out_open k r R m = refl

---------------------------------------------------------------- steps

module _ (b c : ℕ → ℕ) (e u : ℕ) where
  rel_eq : {x y : Ans} → y ≡ x → reach x ≤ u → Becomes b c u x y
  rel_eq q l = record { whole = λ _ _ _. q; short = λ _ w _. absurd (omega arith) }

  -- an answer that may yet change says nothing
  rel_open : {x y : Ans} → is_open x ≡ true → Becomes b c u x y
  rel_open q = record { whole = λ o _ _. absurd (true≢false (sym q ∙ o)); short = λ o _ _. absurd (true≢false (sym q ∙ o)) }

  rel_fork : (x : ℕ) {y y' z z' : Ans} → Becomes b c u y y' → Becomes b c u z z' → Becomes b c u (fork x y z) (fork x y' z')
  unfolding fork
  rel_fork zero p q = p
  rel_fork (suc x) p q = q

  module _ (at n : ℕ) (k k' : ℕ → Ans) (z z' : Ans) (mo : (v : ℕ) → at + n ≤ reach (k v)) (h : (v : ℕ) → at + n ≤ u → Agree b c (at + n) → Becomes b c u (k v) (k' v)) where
    fetch_into : Agree b c (at + n) → at + n ≤ u → fetch c u at n k' z' ≡ k' (uint b at n)
    fetch_into a l = fetch_go c u at n k' z' l ∙ ap k' (sym (same_bits b c at n a (omega arith)))

    rel_fetch : is_open z ≡ true → is_open z' ≡ true → Becomes b c u (fetch b e at n k z) (fetch c u at n k' z')
    rel_fetch oz oz' =
        split (at + n) e
        (λ l. rw (fetch_go b e at n k z l)
        record {
          whole = λ o a r.
              let m = mo (uint b at n) in
              let a' : Agree b c (at + n) = agree_le a m in
              let l' : at + n ≤ u = omega arith in
              fetch_into a' l' ∙ (h (uint b at n) l' a').whole o a r;
          short = λ o w a.
              split (at + n) u
              (λ l'. rw (fetch_into (agree_le a l') l') ((h (uint b at n) l' (agree_le a l')).short o w a))
              (λ l'. ap is_open (fetch_no c u at n k' z' l') ∙ oz');
        })
        (λ l. rw (fetch_no b e at n k z l) (rel_open oz))

  rel_pull : (at n : ℕ) (k k' : ℕ → Ans) → ((v : ℕ) → at + n ≤ reach (k v)) → ((v : ℕ) → at + n ≤ u → Agree b c (at + n) → Becomes b c u (k v) (k' v)) → Becomes b c u (pull b e at n k) (pull c u at n k')
  unfolding pull
  rel_pull at n k k' mo h = rel_fetch at n k k' (stop (out (at + n - e)) at [] 0) (stop (out (at + n - u)) at [] 0) mo h (out_open _ at [] 0) (out_open _ at [] 0)

  then-open : (a : Ans) (k : ℕ → Ans) → is_open a ≡ true → is_open (then a k) ≡ true
  unfolding then is_open
  then-open (ok q R m) k h = absurd (true≢false (sym h))
  then-open (past l q R m) k h = (late_is l R m (k q)).1
  then-open (stop w q R m) k h = h

  rel_then : (a a' : Ans) (k k' : ℕ → Ans) → Becomes b c u a a' → ((q : ℕ) → q ≤ reach (k q)) → ((q : ℕ) → q ≤ u → Agree b c q → Becomes b c u (k q) (k' q)) → Becomes b c u (then a k) (then a' k')
  unfolding then is_open reach
  rel_then (ok q R m) a' k k' r mo h =
      let g = glue-is R m (k q) in
      record {
        whole = λ o a l.
            let o' : is_open (k q) ≡ false = sym g.1 ∙ o in
            let e₁ : reach (glue R m (k q)) ≡ reach (k q) = g.0 in
            let l' : q ≤ u = omega (arith, mo q) in
            let a₁ : Agree b c q = agree_le a (omega (arith, mo q)) in
            let x : a' ≡ ok q R m = r.whole refl a₁ l' in
            let y : k' q ≡ k q = (h q l' a₁).whole o' (agree_le a (omega arith)) (omega arith) in
            rw (x, y);
        short = λ o w a.
            let o' : is_open (k q) ≡ false = sym g.1 ∙ o in
            let e₁ : reach (glue R m (k q)) ≡ reach (k q) = g.0 in
            split q u
            (λ l. let x : a' ≡ ok q R m = r.whole refl (agree_le a l) l in
            rw x ((glue-is R m (k' q)).1 ∙ (h q l (agree_le a l)).short o' (omega arith) a))
            (λ l. then-open a' k' (r.short refl l a));
      }
  rel_then (past l q R m) a' k k' r mo h = rel_open (late_is l R m (k q)).1
  rel_then (stop w q R m) a' k k' r mo h =
      record { whole = λ o a l. (let x : a' ≡ stop w q R m = r.whole o a l in rw x); short = λ o x a. then-open a' k' (r.short o x a) }

  -- what changes neither the reach nor whether the answer is open
  rel_kept : (g : Ans → Ans) → ((a : Ans) → (reach (g a) ≡ reach a) × (is_open (g a) ≡ is_open a)) → {a a' : Ans} → Becomes b c u a a' → Becomes b c u (g a) (g a')
  rel_kept g is {a} {a'} r =
      let s = is a in
      record {
        whole = λ x y l. ap g (r.whole (sym s.1 ∙ x) (agree_le y (omega arith)) (omega arith));
        short = λ x w y. (is a').1 ∙ r.short (sym s.1 ∙ x) (omega arith) y;
      }

  rel_times : (r r' : ℕ → ℕ → Ans) → ((i q : ℕ) → q ≤ reach (r i q)) → ((i q : ℕ) → q ≤ u → Becomes b c u (r i q) (r' i q)) → (i n at : ℕ) → at ≤ u → Becomes b c u (times r i n at) (times r' i n at)
  unfolding times reach
  rel_times r r' mo h i zero at l = rel_eq refl l
  rel_times r r' mo h i (suc n) at l = rel_then (r i at) (r' i at) _ _ (h i at l) (λ q. mono_times r mo (suc i) n q) (λ q x _. rel_times r r' mo h (suc i) n q x)

  rel_guard : (t : Bool) (at m : ℕ) {z z' : Ans} → at ≤ u → Becomes b c u z z' → Becomes b c u (guard t at m z) (guard t at m z')
  unfolding guard reach
  rel_guard true at m l r = r
  rel_guard false at m l r = rel_eq refl l

  rel_sized : (at lo hi : ℕ) (k k' : ℕ → ℕ → Ans) → Rises k → ((n q : ℕ) → q ≤ u → Agree b c q → Becomes b c u (k n q) (k' n q)) → Becomes b c u (sized b e at lo hi k) (sized c u at lo hi k')
  unfolding sized reach
  rel_sized at lo hi k k' mo h =
      let w : ℕ = width (hi - lo) in
      rel_pull at w _ _ (λ v. mono_then (at + w) _ _ (omega arith) (λ q. mo (lo + v) q)) λ v l _. rel_then _ _ _ _ (rel_eq refl l) (λ q. mo (lo + v) q) (λ q x a. h (lo + v) q x a)

  rel_letters : (w n i at : ℕ) (k k' : ℕ → Ans) → ((q : ℕ) → q ≤ reach (k q)) → (at + i * w ≤ u → Agree b c (at + i * w) → Becomes b c u (k (at + i * w)) (k' (at + i * w))) → at ≤ u → Agree b c at
      → Becomes b c u (letters b e w n i at k) (letters c u w n i at k')
  unfolding letters then reach
  rel_letters w n zero at k k' mo h l a = (let z : at + 0 * w ≡ at = omega arith in rw z at (h (omega arith) (rw z a)))
  rel_letters w n (suc i) at k k' mo h l a =
      let m : suc i * w ≡ w + i * w = suc-mul i w ∙ add_comm (i * w) w in
      let s : at + suc i * w ≡ at + w + i * w = omega arith in
      let h' : at + w + i * w ≤ u → Agree b c (at + w + i * w) → Becomes b c u (k (at + w + i * w)) (k' (at + w + i * w)) = rw s at h in
      rel_pull at w _ _ (λ v. rw (glue-is [] (unless (ltb v n) 1) (letters b e w n i (at + w) k)).0 (mono_letters b e w n i (at + w) k mo)) λ v l' a'.
      rel_kept (glue [] (unless (ltb v n) 1)) (λ y. glue-is [] (unless (ltb v n) 1) y) (rel_letters w n i (at + w) k k' mo h' l' a')

  module _ (at : ℕ) (k k' : ℕ → ℕ → Ans) (mo : Rises k) (h : (n q : ℕ) → q ≤ u → Becomes b c u (k n q) (k' n q)) where
    rel_short : Becomes b c u (short b e at k) (short c u at k')
    unfolding short
    rel_short = rel_pull (at + 1) 7 _ _ (λ n. omega (arith, mo n (at + 8))) λ n l _. h n (at + 8) (omega arith)

    rel_long : Becomes b c u (long b e at k) (long c u at k')
    unfolding long reach
    rel_long = rel_pull (at + 2) 14 _ _ (λ n. mono_then (at + 2 + 14) _ _ (omega arith) (λ q. mo n q)) λ n l _. rel_then _ _ _ _ (rel_eq refl (omega arith)) (λ q. mo n q) (λ q x _. h n q x)

    rel_fragment : Becomes b c u (fragment b e at k) (fragment c u at k')
    unfolding fragment reach
    rel_fragment =
        rel_pull (at + 2) 6 _ _
        (λ m. mono_guard (at + 2 + 6) _ (at + 8) 0 _ (omega arith) (mono_guard (at + 2 + 6) _ (at + 8) 0 _ (omega arith) (mono_then (at + 2 + 6) _ _ (omega arith) (λ q. mo m q)))) λ m l _.
        rel_guard _ (at + 8) 0 (omega arith) (rel_guard _ (at + 8) 0 (omega arith) (rel_then _ _ _ _ (rel_eq refl (omega arith)) (λ q. mo m q) (λ q x _. h m q x)))

  rel_lengths : (g at : ℕ) (k k' : ℕ → ℕ → Ans) → Rises k → ((n q : ℕ) → q ≤ u → Becomes b c u (k n q) (k' n q)) → at ≤ u → Becomes b c u (lengths g b e at k) (lengths g c u at k')
  unfolding lengths reach
  rel_lengths zero at k k' mo h l = rel_eq refl l
  rel_lengths (suc g) at k k' mo h l =
      let mo' : Rises (λ m q. lengths g b e q (λ n p. k (m * 16384 + n) p)) = λ m q. mono_lengths b e g q _ (λ n p. mo (m * 16384 + n) p) in
      let on : (y : ℕ) → at + 1 + 1 ≤ reach (fork y (long b e at k) (fragment b e at (λ m q. lengths g b e q (λ n p. k (m * 16384 + n) p)))) = λ y. mono_fork (at + 1 + 1) y _ _ (mono_long b e at k mo) (mono_fragment b e at _ mo') in
      rel_pull at 1 _ _ (λ x. mono_fork (at + 1) x _ _ (mono_short b e at k mo) (mono_pull b e (at + 1) 1 _ on)) λ x _ _.
      rel_fork x (rel_short at k k' mo h)
      (rel_pull (at + 1) 1 _ _ on λ y _ _.
      rel_fork y (rel_long at k k' mo h) (rel_fragment at _ _ mo' (λ m q lq. rel_lengths g q _ _ (λ n p. mo (m * 16384 + n) p) (λ n p lp. h (m * 16384 + n) p lp) lq)))

  rel_length : (at : ℕ) (k k' : ℕ → ℕ → Ans) → Rises k → ((n q : ℕ) → q ≤ u → Becomes b c u (k n q) (k' n q)) → at ≤ u → Becomes b c u (length_then b e at k) (length_then c u at k')
  unfolding length_then
  rel_length at k k' mo h l = rel_lengths 65537 at k k' mo h l

  -- so many bits, passed over as a span
  rel_span : (at n : ℕ) (R : List Rec) → Becomes b c u (pull b e at n (λ _. ok (at + n) R 0)) (pull c u at n (λ _. ok (at + n) R 0))
  unfolding reach
  rel_span at n R = rel_pull at n _ _ (λ _. omega arith) λ _ l _. rel_eq refl l

  rel-fields : (fs : Flds) (x : Ctx) (at : ℕ) → at + flags fs ≤ u → Agree b c (at + flags fs) → ((p : ℕ) → p ≤ u → Becomes b c u (read_fields fs x b e at p) (read_fields fs x c u at p))
      → Becomes b c u (then (ok (at + flags fs) [] (unread_marks fs b at)) (λ p. read_fields fs x b e at p)) (then (ok (at + flags fs) [] (unread_marks fs c at)) (λ p. read_fields fs x c u at p))
  unfolding reach
  rel-fields fs x at l a h = rw (same-unread b c fs at a) (rel_then _ _ _ _ (rel_eq refl l) (λ p. mono_fields b fs x e at p) (λ p y _. h p y))

---------------------------------------------------------------- the theorem

module _ (b c : ℕ → ℕ) where
  mutual
    unfolding read reach flags

    rel : (f : Fmt) (x : Ctx) (e u at : ℕ) → at ≤ u → Becomes b c u (read f x b e at) (read f x c u at)
    rel (num t lo hi) x e u at h = rel_pull b c e u at _ _ _ (λ v. omega arith) λ v l _. rel_eq b c e u refl l
    rel (listed t hi xs) x e u at h = rel_pull b c e u at _ _ _ (λ v. omega arith) λ v l _. rel_eq b c e u refl l
    rel (name t hi) x e u at h = rel_pull b c e u at _ _ _ (λ v. mono_guard (at + width (extent 0 hi)) _ _ _ _ (omega arith) (omega arith)) λ v l _. rel_guard b c e u _ _ _ l (rel_eq b c e u refl l)
    rel (text t n y lo hi) x e u at h =
        let w : ℕ = width (n - 1) in
        rel_sized b c e u at lo hi _ _ (λ k q. mono_letters b e w n k q _ λ p. omega arith) λ k q l a.
        rel_letters b c e u w n k q _ _ (λ p. omega arith) (λ z a'. rel_eq b c e u (ap (λ (cs : List ℕ). ok (q + k * w) (lettered t y x.0 at cs) 0) (sym (same_units b c w q k a'))) z) l a
    rel (span t w lo hi) x e u at h = rel_sized b c e u at lo hi _ _ (λ k q. mono_pull b e q (k * w) _ λ _. omega arith) λ k q l a. rel_span b c e u q (k * w) _
    rel (any_span t w) x e u at h = rel_length b c e u at _ _ (λ k q. mono_pull b e q (k * w) _ λ _. omega arith) (λ k q l. rel_span b c e u q (k * w) _) h
    rel (skipped m) x e u at h =
        let mo : Rises (λ k q. pull b e q (k * 8) (λ _. ok (q + k * 8) [] 0)) = λ k q. mono_pull b e q (k * 8) _ λ _. omega arith in
        rel_then b c e u _ _ _ _ (rel_eq b c e u refl h) (λ p. mono_length b e p _ mo) λ p l _. rel_length b c e u p _ _ mo (λ k q z. rel_span b c e u q (k * 8) _) l
    rel (small m t) x e u at h =
        let mo : (p : ℕ) → Rises (λ k q. pull b e q (k * 8) (λ v. ok (q + k * 8) (rec t x.0 (word v) 0 p ∷ []) 0)) = λ p k q. mono_pull b e q (k * 8) _ λ _. omega arith in
        let on : (p y : ℕ) → p + 1 ≤ reach (fork y (pull b e (p + 1) 6 (λ v. ok (p + 7) (rec t x.0 v 0 p ∷ []) 0)) (length_then b e (p + 1) (λ k q. pull b e q (k * 8) (λ v. ok (q + k * 8) (rec t x.0 (word v) 0 p ∷ []) 0)))) = λ p y. mono_fork (p + 1) y _ _ (mono_pull b e (p + 1) 6 _ λ v. omega arith) (mono_length b e (p + 1) _ (mo p)) in
        rel_then b c e u _ _ _ _ (rel_eq b c e u refl h) (λ p. mono_pull b e p 1 _ (on p)) λ p l _.
        rel_pull b c e u p 1 _ _ (on p) λ y l₁ _.
        rel_fork b c e u y (rel_pull b c e u (p + 1) 6 _ _ (λ v. omega arith) λ v l₂ _. rel_eq b c e u refl (omega arith))
        (rel_length b c e u (p + 1) _ _ (mo p) (λ k q z. rel_pull b c e u q (k * 8) _ _ (λ _. omega arith) λ v l₃ _. rel_eq b c e u refl l₃) l₁)
    rel null x e u at h = rel_eq b c e u refl h
    rel (noted t v s f) x e u at h = rel_then b c e u _ _ _ _ (rel_eq b c e u refl h) (λ p. mono b f x e p) (λ p l _. rel f x e u p l)
    rel (placed t f) x e u at h = rel_then b c e u _ _ _ _ (rel_eq b c e u refl h) (λ p. mono b f x e p) (λ p l _. rel f x e u p l)
    rel (marked m) x e u at h = rel_eq b c e u refl h
    rel (refuse w m) x e u at h = rel_eq b c e u refl h
    rel (element f) x e u at h = rel f (x.1, x.1) e u at h
    rel (ext f g) x e u at h =
        rel_pull b c e u at 1 _ _ (λ y. mono_fork (at + 1) y _ _ (mono b f x e (at + 1)) (mono_then (at + 1) _ _ (omega arith) (λ q. mono b g x e q))) λ y l _.
        rel_fork b c e u y (rel f x e u (at + 1) l) (rel_then b c e u _ _ _ _ (rel_eq b c e u refl l) (λ q. mono b g x e q) (λ q z _. rel g x e u q z))
    rel (seq fs) x e u at h =
        rel_fetch b c e u at (flags fs) _ _ _ _ (λ _. mono_then (at + flags fs) _ _ (omega arith) (λ p. mono_fields b fs x e at p)) (λ _ l a. rel-fields b c e u fs x at l a (λ p y. rel_fields fs x e u at p y a)) (out_open _ _ _ _) (out_open _ _ _ _)
    rel (loose fs) x e u at h =
        rel_fetch b c e u at (flags fs) _ _ _ _ (λ _. mono_then (at + flags fs) _ _ (omega arith) (λ p. mono_fields b fs x e at p)) (λ _ l a. rel-fields b c e u fs x at l a (λ p y. rel_fields fs x e u at p y a)) (late_is 1 [] _ _).1 (late_is 1 [] _ _).1
    rel (choice t fs) x e u at h =
        rel_pull b c e u at _ _ _ (λ i. mono_then (at + width (highest (alternatives_of fs))) _ _ (omega arith) (λ q. mono_choice b fs i x e q)) λ i l _.
        rel_then b c e u _ _ _ _ (rel_eq b c e u refl l) (λ q. mono_choice b fs i x e q) (λ q y _. rel_choice fs i x e u q y)
    rel (many lo hi f) x e u at h =
        rel_sized b c e u at lo hi _ _ (λ k q. mono_times _ (λ i p. mono b f (x.0, i) e p) 1 k q) λ k q l a. rel_times b c e u _ _ (λ i p. mono b f (x.0, i) e p) (λ i p y. rel f (x.0, i) e u p y) 1 k q l
    rel (inner f) x e u at h =
        rel_length b c e u at _ _ (λ k q. mono_pull b e q k _ λ _. omega (arith, close_is (q + k) (read f x b (q + k) q)))
        (λ k q l.
        rel_pull b c e u q k _ _ (λ _. omega (arith, close_is (q + k) (read f x b (q + k) q))) λ _ y a.
        rel_eq b c e u (ap (close (q + k)) (sym (same b c f x (q + k) q a))) (omega (arith, close_is (q + k) (read f x b (q + k) q)))) h
    rel (soft m r f) x e u at h = rel_kept b c e u (softly m r) (λ a. soft_is m r a) (rel f x e u at h)
    rel (lax m j f) x e u at h = rel_kept b c e u (laxly m j) (λ a. lax_is m j a) (rel f x e u at h)

    rel_fields : (fs : Flds) (x : Ctx) (e u q at : ℕ) → at ≤ u → Agree b c (q + flags fs) → Becomes b c u (read_fields fs x b e q at) (read_fields fs x c u q at)
    rel_fields end x e u q at h a = rel_eq b c e u refl h
    rel_fields (f ⨾ fs) x e u q at h a = rel_then b c e u _ _ _ _ (rel f x e u at h) (λ p. mono_fields b fs x e q p) (λ p y _. rel_fields fs x e u q p y a)
    rel_fields (f ⨾? fs) x e u q at h a =
        let a' : Agree b c (suc q + flags fs) = agree_le a (omega arith) in
        rw (a q (omega arith))
        (rel_fork b c e u (c q) (rel_fields fs x e u (suc q) at h a') (rel_then b c e u _ _ _ _ (rel f x e u at h) (λ p. mono_fields b fs x e (suc q) p) (λ p y _. rel_fields fs x e u (suc q) p y a')))
    rel_fields (or_note t v s f fs) x e u q at h a =
        let a' : Agree b c (suc q + flags fs) = agree_le a (omega arith) in
        rw (a q (omega arith))
        (rel_fork b c e u (c q) (rel_then b c e u _ _ _ _ (rel_eq b c e u refl h) (λ p. mono_fields b fs x e (suc q) p) (λ p y _. rel_fields fs x e u (suc q) p y a'))
        (rel_then b c e u _ _ _ _ (rel f x e u at h) (λ p. mono_fields b fs x e (suc q) p) (λ p y _. rel_fields fs x e u (suc q) p y a')))
    rel_fields (unread t fs) x e u q at h a =
        let a' : Agree b c (suc q + flags fs) = agree_le a (omega arith) in
        rw (a q (omega arith))
        (rel_fork b c e u (c q) (rel_fields fs x e u (suc q) at h a') (rel_then b c e u _ _ _ _ (rel_eq b c e u refl h) (λ p. mono_fields b fs x e (suc q) p) (λ p y _. rel_fields fs x e u (suc q) p y a')))

    rel_choice : (fs : Alts) (i : ℕ) (x : Ctx) (e u at : ℕ) → at ≤ u → Becomes b c u (read_choice fs i x b e at) (read_choice fs i x c u at)
    rel_choice none_left i x e u at h = rel_eq b c e u refl h
    rel_choice (f ∥ fs) zero x e u at h = rel f x e u at h
    rel_choice (f ∥ fs) (suc i) x e u at h = rel_choice fs i x e u at h

pub stable : (f : Fmt) (x : Ctx) (b c : ℕ → ℕ) (e u at : ℕ) → at ≤ u → is_open (read f x b e at) ≡ false → Agree b c (reach (read f x b e at)) → reach (read f x b e at) ≤ u → read f x c u at ≡ read f x b e at
stable f x b c e u at h o a l = (rel b c f x e u at h).whole o a l

pub cut_short_lem : (f : Fmt) (x : Ctx) (b c : ℕ → ℕ) (e u at : ℕ) → at ≤ u → is_open (read f x b e at) ≡ false → u < reach (read f x b e at) → Agree b c u → is_open (read f x c u at) ≡ true
cut_short_lem f x b c e u at h o l a = (rel b c f x e u at h).short o l a
