-- One window, the same bits: the same answer.
use mathlib.Core.Path.{◌≡◌, refl, sym, ap, ◌∙◌, fun_ext}
use mathlib.Core.Bool.{Bool, true, false, cond}
use mathlib.Core.List.{List, []}
use Prim.Native.Nat.{ℕ, zero, suc, ◌+◌, ◌-◌, ◌*◌, ◌≤◌}
use native.Mathlib.Nat.{suc-mul, add_comm}
use native.Mathlib.Omega.{arith}
use lib.Dec.{leb, ltb}
use borrow.Author.Tests.{ltb-true}
use Rattle.x691.specs.Bits.{uint}
use Rattle.x691.specs.Encoding.{width}
use Rattle.x691.proofs.BitLaws.{uint_agree}
use Rattle.atn.specs.Format.{Fmt, num, listed, name, text, span, any_span, skipped, small, null, noted, placed, marked, refuse, element, ext, seq, loose, choice, many, inner, soft, lax}
use Rattle.atn.specs.Format.{Flds, end, ◌⨾◌, ◌⨾?◌, or_note, unread, Alts, none_left, ◌∥◌, out}
use Rattle.atn.specs.Reading.{Ctx, Ans, ok, stop, glue, late, then, times, fork, guard, unless, over, fetch, pull, sized, letters, units, lettered, short, long, fragment, lengths, length_then, flags, unread_marks, within, close, softly, laxly, read, read_fields, read_choice}
use Rattle.atn.specs.Demands.{Agree}
use Rattle.atn.proofs.Steps.{fetch_go, fetch_no}
use Rattle.atn.proofs.Reach.{split}

pub agree_le : {b c : ℕ → ℕ} {p q : ℕ} → Agree b c p → q ≤ p → Agree b c q
agree_le h l i x = h i (omega arith)

pub fork-same : (x : ℕ) {y y' z z' : Ans} → y ≡ y' → z ≡ z' → fork x y z ≡ fork x y' z'
fork-same x p q = cc

pub then_same : {a a' : Ans} {k k' : ℕ → Ans} → a ≡ a' → ((q : ℕ) → k q ≡ k' q) → then a k ≡ then a' k'
then_same {a' = a'} p h = rw p (ap (then a') (fun_ext h))

module _ (b c : ℕ → ℕ) where
  pub same_bits : {e : ℕ} (at n : ℕ) → Agree b c e → at + n ≤ e → uint b at n ≡ uint c at n
  same_bits at n h l = uint_agree b c at n (λ i x y. h i (omega arith))

  pub same_units : (w at n : ℕ) → Agree b c (at + n * w) → units b w at n ≡ units c w at n
  unfolding units
  same_units w at zero h = refl
  same_units w at (suc n) h =
      let m : suc n * w ≡ w + n * w = suc-mul n w ∙ add_comm (n * w) w in
      let z = same_bits {e = at + suc n * w} at w h (omega arith) in
      let y = same_units w (at + w) n (λ i x. h i (omega arith)) in
      cc

  pub same-unread : (fs : Flds) (q : ℕ) → Agree b c (q + flags fs) → unread_marks fs b q ≡ unread_marks fs c q
  unfolding unread_marks flags
  same-unread end q h = refl
  same-unread (f ⨾ fs) q h = same-unread fs q h
  same-unread (f ⨾? fs) q h = same-unread fs (suc q) (agree_le h (omega arith))
  same-unread (or_note t v s f fs) q h = same-unread fs (suc q) (agree_le h (omega arith))
  same-unread (unread t fs) q h = rw (h q (omega arith), same-unread fs (suc q) (agree_le h (omega arith)))

  module _ (e : ℕ) (h : Agree b c e) where
    fetch-same : (at n : ℕ) {k k' : ℕ → Ans} {z z' : Ans} → ((v : ℕ) → at + n ≤ e → k v ≡ k' v) → z ≡ z' → fetch b e at n k z ≡ fetch c e at n k' z'
    fetch-same at n {k} {k'} {z} {z'} g x =
        split (at + n) e
        (λ l. fetch_go b e at n k z l ∙ g (uint b at n) l ∙ ap k' (same_bits at n h l) ∙ sym (fetch_go c e at n k' z' l))
        (λ l. fetch_no b e at n k z l ∙ x ∙ sym (fetch_no c e at n k' z' l))

    pub pull-same : (at n : ℕ) {k k' : ℕ → Ans} → ((v : ℕ) → at + n ≤ e → k v ≡ k' v) → pull b e at n k ≡ pull c e at n k'
    unfolding pull
    pull-same at n g = fetch-same at n g refl

    within_same : within b e ≡ within c e
    unfolding within
    within_same = fun_ext λ i. go i (ltb i e) refl
      where
        go : (i : ℕ) (t : Bool) → ltb i e ≡ t → cond t (b i) 0 ≡ cond t (c i) 0
        go i true q = h i (ltb-true i e q)
        go i false q = refl

    sized_same : (at lo hi : ℕ) {k k' : ℕ → ℕ → Ans} → ((n q : ℕ) → q ≤ e → k n q ≡ k' n q) → sized b e at lo hi k ≡ sized c e at lo hi k'
    unfolding sized then
    sized_same at lo hi g = pull-same at _ λ v l. ap (glue [] (over hi (lo + v))) (g (lo + v) _ l)

    letters-same : (w n i at : ℕ) (k k' : ℕ → Ans) → (at + i * w ≤ e → k (at + i * w) ≡ k' (at + i * w)) → at ≤ e → letters b e w n i at k ≡ letters c e w n i at k'
    unfolding letters then
    letters-same w n zero at k k' g l = (let z : at + 0 * w ≡ at = omega arith in rw z at (g (omega arith)))
    letters-same w n (suc i) at k k' g l =
        let m : suc i * w ≡ w + i * w = suc-mul i w ∙ add_comm (i * w) w in
        let s : at + suc i * w ≡ at + w + i * w = omega arith in
        pull-same at w λ u y. ap (glue [] (unless (ltb u n) 1)) (letters-same w n i (at + w) k k' (λ z. rw s at (g (omega arith))) y)

    length-same : (g at : ℕ) {k k' : ℕ → ℕ → Ans} → ((n q : ℕ) → k n q ≡ k' n q) → lengths g b e at k ≡ lengths g c e at k'
    unfolding lengths short long fragment
    length-same zero at h' = refl
    length-same (suc g) at h' =
        pull-same at 1 λ x _.
        fork-same x (pull-same (at + 1) 7 λ n _. h' n (at + 8))
        (pull-same (at + 1) 1 λ y _.
        fork-same y (pull-same (at + 2) 14 λ n _. then_same refl (λ q. h' n q))
        (pull-same (at + 2) 6 λ m _. ap (λ (z : Ans). guard (leb 1 m) (at + 8) 0 (guard (leb m 4) (at + 8) 0 z)) (then_same refl (λ q. length-same g q (λ n p. h' (m * 16384 + n) p)))))

  mutual
    unfolding read flags length_then

    pub same : (f : Fmt) (x : Ctx) (e at : ℕ) → Agree b c e → read f x b e at ≡ read f x c e at
    same (num t lo hi) x e at h = pull-same e h at _ λ v _. refl
    same (listed t hi xs) x e at h = pull-same e h at _ λ v _. refl
    same (name t hi) x e at h = pull-same e h at _ λ v _. refl
    same (text t n y lo hi) x e at h = let w : ℕ = width (n - 1) in sized_same e h at lo hi λ k q l. letters-same e h w n k q _ _ (λ u. ap (λ (cs : List ℕ). ok (q + k * w) (lettered t y x.0 at cs) 0) (same_units w q k (agree_le h u))) l
    same (span t w lo hi) x e at h = sized_same e h at lo hi λ k q _. pull-same e h q (k * w) λ _ _. refl
    same (any_span t w) x e at h = length-same e h 65537 at λ k q. pull-same e h q (k * w) λ _ _. refl
    same (skipped m) x e at h = then_same refl (λ p. length-same e h 65537 p λ k q. pull-same e h q (k * 8) λ _ _. refl)
    same (small m t) x e at h =
        then_same refl (λ p. pull-same e h p 1 λ y _. fork-same y (pull-same e h (p + 1) 6 λ v _. refl) (length-same e h 65537 (p + 1) λ k q. pull-same e h q (k * 8) λ _ _. refl))
    same null x e at h = refl
    same (noted t v s f) x e at h = then_same refl (λ p. same f x e p h)
    same (placed t f) x e at h = then_same refl (λ p. same f x e p h)
    same (marked m) x e at h = refl
    same (refuse w m) x e at h = refl
    same (element f) x e at h = same f (x.1, x.1) e at h
    same (ext f g) x e at h = pull-same e h at 1 λ y _. fork-same y (same f x e (at + 1) h) (then_same refl (λ q. same g x e q h))
    same (seq fs) x e at h =
        fetch-same e h at (flags fs) (λ _ l. rw (same-unread fs at (agree_le h l)) (then_same refl (λ p. same_fields fs x e at p h l))) (ap (λ (y : ℕ → ℕ). stop (out 1) (at + (e - at)) [] (unread_marks fs y at)) (within_same e h))
    same (loose fs) x e at h =
        fetch-same e h at (flags fs) (λ _ l. rw (same-unread fs at (agree_le h l)) (then_same refl (λ p. same_fields fs x e at p h l)))
        (ap (λ (y : ℕ → ℕ). late 1 [] (unread_marks fs y at) (read_fields fs x y e at (at + (e - at)))) (within_same e h))
    same (choice t fs) x e at h = pull-same e h at _ λ i _. then_same refl (λ q. same_choice fs i x e q h)
    same (many lo hi f) x e at h = sized_same e h at lo hi λ k q _. ap (λ (r : ℕ → ℕ → Ans). times r 1 k q) (fun_ext λ i. fun_ext λ p. same f (x.0, i) e p h)
    same (inner f) x e at h = length-same e h 65537 at λ k q. pull-same e h q k λ _ u. ap (close (q + k)) (same f x (q + k) q (agree_le h u))
    same (soft m r f) x e at h = ap (softly m r) (same f x e at h)
    same (lax m j f) x e at h = ap (laxly m j) (same f x e at h)

    same_fields : (fs : Flds) (x : Ctx) (e q at : ℕ) → Agree b c e → q + flags fs ≤ e → read_fields fs x b e q at ≡ read_fields fs x c e q at
    same_fields end x e q at h l = refl
    same_fields (f ⨾ fs) x e q at h l = then_same (same f x e at h) (λ p. same_fields fs x e q p h l)
    same_fields (f ⨾? fs) x e q at h l =
        rw (h q (omega arith)) (fork-same (c q) (same_fields fs x e (suc q) at h (omega arith)) (then_same (same f x e at h) (λ p. same_fields fs x e (suc q) p h (omega arith))))
    same_fields (or_note t v s f fs) x e q at h l =
        rw (h q (omega arith))
        (fork-same (c q) (then_same refl (λ p. same_fields fs x e (suc q) p h (omega arith))) (then_same (same f x e at h) (λ p. same_fields fs x e (suc q) p h (omega arith))))
    same_fields (unread t fs) x e q at h l = rw (h q (omega arith)) (fork-same (c q) (same_fields fs x e (suc q) at h (omega arith)) (then_same refl (λ p. same_fields fs x e (suc q) p h (omega arith))))

    same_choice : (fs : Alts) (i : ℕ) (x : Ctx) (e at : ℕ) → Agree b c e → read_choice fs i x b e at ≡ read_choice fs i x c e at
    same_choice none_left i x e at h = refl
    same_choice (f ∥ fs) zero x e at h = same f x e at h
    same_choice (f ∥ fs) (suc i) x e at h = same_choice fs i x e at h
