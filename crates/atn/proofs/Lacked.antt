-- What the bits lacked are worth: "a frame longer by at least that many bits no longer stops at that same read". A reading that has passed the end of its window is, in a window that ends as many bits later, read at least up to there.
use mathlib.Core.Path.{◌≡◌, refl, sym, ap, ◌∙◌}
use mathlib.Core.Bool.{Bool, true, false}
use mathlib.Core.List.{List, [], ◌∷◌}
use Prim.Native.Nat.{ℕ, zero, suc, ◌+◌, ◌-◌, ◌*◌, ◌≤◌, ◌<◌}
use native.Mathlib.Omega.{arith}
use Rattle.x691.specs.Bits.{uint}
use Rattle.x691.specs.Types.{extent}
use Rattle.x691.specs.Encoding.{width, highest}
use Rattle.atn.specs.Format.{Fmt, num, listed, name, text, span, any_span, skipped, small, null, noted, placed, marked, refuse, element, ext, seq, loose, choice, many, inner, soft, lax}
use Rattle.atn.specs.Format.{Flds, end, ◌⨾◌, ◌⨾?◌, or_note, unread, Alts, none_left, ◌∥◌, alternatives_of, Why, out, bad, lack, quit}
use Rattle.atn.specs.Reading.{Rec, rec, word, Ctx, Ans, ok, past, stop, glue, tardy, late, then, times, fork, guard, fetch, pull, sized, letters, short, long, fragment, lengths, length_then, flags, unread_marks, within, close, shut, softly, pass_over, laxly, give_up, read, read_fields, read_choice}
use Rattle.atn.specs.Demands.{Agree}
use Rattle.atn.proofs.Steps.{fetch_go, fetch_no}
use Rattle.atn.proofs.Inverse.{both}
use Rattle.atn.proofs.Reach.{reach, is_open, split, glue-is, late_is, soft_is, lax_is, close_is, mono_pull, mono_then, mono_times, mono_fork, mono_guard, Rises, mono_letters, mono_short, mono_long, mono_fragment, mono_lengths, mono_length, mono, mono_fields, mono_choice, in_window}
use Rattle.atn.proofs.SameBits.{agree_le, same_bits}
use Rattle.atn.proofs.Stable.{stable}
use Rattle.atn.proofs.Tame.{Kind, keeps_stop, tame, tame_fields, tame_choice}

-- only a read says that it lacked bits: no part is refused as if it had
abbrev frankly : Kind
frankly = record { looses = true; softs = true; laxes = true; quits = true; outs = false }

abbrev pub frank : Fmt → Bool
frank f = tame frankly f

-- what holds of the bits that an answer says were lacked
abbrev Short : Why → (ℕ → Type 0) → Type 0
Short (out k) P = P k
Short bad P = Unit {0}
Short lack P = Unit {0}
Short (quit o j m) P = Unit {0}

abbrev pub Lacks : Ans → (ℕ → Type 0) → Type 0
Lacks (ok p R m) P = Unit {0}
Lacks (past k p R m) P = P k
Lacks (stop w p R m) P = Short w P

-- there were some; and where the window ends no sooner than at u, so many bits behind the end e, the answer y reaches as far
pub record Further (e u : ℕ) (y : Ans) (k : ℕ) : Type 0 where
  pub some : 1 ≤ k
  pub there : e + k ≤ u → e + k ≤ reach y

---------------------------------------------------------------- steps

-- y is what becomes of the answer x
pub record Grows (e u : ℕ) (x y : Ans) : Type 0 where
  pub grew : Lacks x (Further e u y)

module _ (e u : ℕ) where
  further : (y z : Ans) (k : ℕ) → reach y ≤ reach z → Further e u y k → Further e u z k
  further y z k l h = record { some = h.some; there = λ g. omega (arith, h.there g) }

  short_on : (w : Why) (y z : Ans) → reach y ≤ reach z → Short w (Further e u y) → Short w (Further e u z)
  short_on (out k) y z l h = further y z k l h
  short_on bad y z l h = tt
  short_on lack y z l h = tt
  short_on (quit o j m) y z l h = tt

  lacks_on : (x y z : Ans) → reach y ≤ reach z → Lacks x (Further e u y) → Lacks x (Further e u z)
  lacks_on (ok p R m) y z l h = tt
  lacks_on (past k p R m) y z l h = further y z k l h
  lacks_on (stop w p R m) y z l h = short_on w y z l h

  grow_on : {x y z : Ans} → reach y ≤ reach z → Grows e u x y → Grows e u x z
  grow_on {x} {y} {z} l h = record { grew = lacks_on x y z l h.grew }

  grow_none : {p : ℕ} {R : List Rec} {m : ℕ} {y : Ans} → Grows e u (ok p R m) y
  grow_none = record { grew = tt }

  grow_glue : (R : List Rec) (m : ℕ) {x y : Ans} → Grows e u x y → Grows e u (glue R m x) y
  unfolding glue
  grow_glue R m {x} {y} h = record { grew = go x h.grew }
    where
      go : (x : Ans) → Lacks x (Further e u y) → Lacks (glue R m x) (Further e u y)
      go (ok p S n) h = tt
      go (past k p S n) h = h
      go (stop w p S n) h = h

  -- behind the end the first read that passed decides
  grow_late : (k : ℕ) (R : List Rec) (m : ℕ) (x : Ans) {y : Ans} → Further e u y k → Grows e u (late k R m x) y
  unfolding late tardy
  grow_late k R m (ok p S n) h = record { grew = h }
  grow_late k R m (past l p S n) h = record { grew = h }
  grow_late k R m (stop w p S n) {y} h = record { grew = go w }
    where
      go : (w : Why) → Short (tardy k w) (Further e u y)
      go (out l) = h
      go bad = h
      go lack = h
      go (quit o j l) = tt

  -- a part that was read to its end is read so again
  abbrev Again : Ans → Ans → Type 0
  Again x y = (q : ℕ) (R : List Rec) (m : ℕ) → x ≡ ok q R m → (q ≤ e) × (y ≡ ok q R m)

  grow_then : (x y : Ans) (f g : ℕ → Ans) → Grows e u x y → Again x y → ((q : ℕ) → q ≤ reach (g q)) → ((q : ℕ) → q ≤ e → Grows e u (f q) (g q)) → Grows e u (then x f) (then y g)
  unfolding then
  grow_then (ok q R m) y f g h a mo k =
      let z = a q R m refl in
      let w : reach (g q) ≡ reach (then y g) = rw z.1 (sym (glue-is R m (g q)).0) in
      grow_glue R m (grow_on (omega arith) (k q z.0))
  grow_then (past l q R m) y f g h a mo k = grow_late l R m (f q) (further y (then y g) l (mono_then (reach y) y g (omega arith) mo) h.grew)
  grow_then (stop w q R m) y f g h a mo k = grow_on (mono_then (reach y) y g (omega arith) mo) h

  grow_ok : (q : ℕ) (R : List Rec) (m n : ℕ) (f g : ℕ → Ans) → Grows e u (f q) (g q) → Grows e u (then (ok q R m) f) (then (ok q R n) g)
  unfolding then
  grow_ok q R m n f g h = let z : reach (glue R n (g q)) ≡ reach (g q) = (glue-is R n (g q)).0 in grow_glue R m (grow_on (omega arith) h)

  grow_times : (r s : ℕ → ℕ → Ans) → ((i q : ℕ) → q ≤ e → Grows e u (r i q) (s i q)) → ((i q : ℕ) → q ≤ e → Again (r i q) (s i q)) → ((i q : ℕ) → q ≤ reach (s i q)) → (i n at : ℕ) → at ≤ e
      → Grows e u (times r i n at) (times s i n at)
  unfolding times
  grow_times r s h a mo i zero at l = grow_none
  grow_times r s h a mo i (suc n) at l = grow_then (r i at) (s i at) _ _ (h i at l) (a i at l) (λ q. mono_times s mo (suc i) n q) (λ q z. grow_times r s h a mo (suc i) n q z)

  grow_fork : (x : ℕ) {y y' z z' : Ans} → Grows e u y y' → Grows e u z z' → Grows e u (fork x y z) (fork x y' z')
  unfolding fork
  grow_fork zero h g = h
  grow_fork (suc x) h g = g

  grow_guard : (t : Bool) (at m : ℕ) {z z' : Ans} → Grows e u z z' → Grows e u (guard t at m z) (guard t at m z')
  unfolding guard
  grow_guard true at m h = h
  grow_guard false at m h = record { grew = tt }

  -- what stands in an inner string lacks nothing of the frame
  grow_close : (q : ℕ) (x : Ans) {y : Ans} → Grows e u (close q x) y
  unfolding close shut
  grow_close q (ok p R m) = grow_none
  grow_close q (past k p R m) = grow_none
  grow_close q (stop (out k) p R m) = record { grew = tt }
  grow_close q (stop bad p R m) = record { grew = tt }
  grow_close q (stop lack p R m) = record { grew = tt }
  grow_close q (stop (quit o true k) p R m) = grow_none
  grow_close q (stop (quit o false k) p R m) = grow_none

  grow_soft : (k : ℕ) (r : Bool) (x : Ans) {y : Ans} → Grows e u x y → Grows e u (softly k r x) y
  unfolding softly pass_over
  grow_soft k r (ok p R m) h = grow_none
  grow_soft k r (past l p R m) h = h
  grow_soft k r (stop (out l) p R m) h = record { grew = h.grew }
  grow_soft k r (stop bad p R m) h = grow_none
  grow_soft k r (stop lack p R m) h = record { grew = tt }
  grow_soft k r (stop (quit o j l) p R m) h = record { grew = tt }

  grow_lax : (k : ℕ) (j : Bool) (x : Ans) {y : Ans} → Grows e u x y → Grows e u (laxly k j x) y
  unfolding laxly give_up
  grow_lax k j (ok p R m) h = grow_none
  grow_lax k j (past l p R m) h = h
  grow_lax k j (stop (out l) p R m) h = record { grew = tt }
  grow_lax k j (stop bad p R m) h = record { grew = tt }
  grow_lax k j (stop lack p R m) h = record { grew = tt }
  grow_lax k j (stop (quit o i l) p R m) h = record { grew = tt }

---------------------------------------------------------------- reads

module _ (b c : ℕ → ℕ) (e u : ℕ) (ag : Agree b c e) (le : e ≤ u) where
  grow_fetch : (at n : ℕ) (k k' : ℕ → Ans) (z z' : Ans) → ((v : ℕ) → at + n ≤ e → Grows e u (k v) (k' v)) → (e < at + n → Grows e u z (fetch c u at n k' z')) → Grows e u (fetch b e at n k z) (fetch c u at n k' z')
  grow_fetch at n k k' z z' h g =
      split (at + n) e
      (λ l. rw (fetch_go b e at n k z l, fetch_go c u at n k' z' (omega arith), ← (same_bits b c at n ag l)) (h (uint b at n) l))
      (λ l. rw (fetch_no b e at n k z l) (g l))

  -- presence bits are taken one after another: where there is one more, it is taken
  fetch_past : (at n : ℕ) (k' : ℕ → Ans) (z' : Ans) → ((v : ℕ) → at + n ≤ reach (k' v)) → u ≤ reach z' → e < at + n → e + 1 ≤ u → e + 1 ≤ reach (fetch c u at n k' z')
  fetch_past at n k' z' mo r s l = split (at + n) u (λ h. rw (fetch_go c u at n k' z' h) (omega (arith, mo (uint c at n)))) (λ h. rw (fetch_no c u at n k' z' h) (omega arith))

  grow_pull : (at n : ℕ) (k k' : ℕ → Ans) → ((v : ℕ) → at + n ≤ reach (k' v)) → ((v : ℕ) → at + n ≤ e → Grows e u (k v) (k' v)) → Grows e u (pull b e at n k) (pull c u at n k')
  unfolding pull
  grow_pull at n k k' mo h =
      grow_fetch at n k k' (stop (out (at + n - e)) at [] 0) (stop (out (at + n - u)) at [] 0) h
      (λ l. record { grew = record { some = omega arith; there = λ g. (rw (fetch_go c u at n k' (stop (out (at + n - u)) at [] 0) (omega arith)) (omega (arith, mo (uint c at n)))) } })

  grow_sized : (at lo hi : ℕ) (k k' : ℕ → ℕ → Ans) → Rises k' → ((n q : ℕ) → q ≤ e → Grows e u (k n q) (k' n q)) → Grows e u (sized b e at lo hi k) (sized c u at lo hi k')
  unfolding sized reach
  grow_sized at lo hi k k' mo h =
      let w : ℕ = width (hi - lo) in
      grow_pull at w _ _ (λ v. mono_then (at + w) _ _ (omega arith) (λ q. mo (lo + v) q)) λ v l. grow_ok e u (at + w) _ _ _ _ _ (h (lo + v) (at + w) l)

  grow_letters : (w n i at : ℕ) (k k' : ℕ → Ans) → ((q : ℕ) → q ≤ reach (k' q)) → ((q : ℕ) → q ≤ e → Grows e u (k q) (k' q)) → at ≤ e → Grows e u (letters b e w n i at k) (letters c u w n i at k')
  unfolding letters reach
  grow_letters w n zero at k k' mo h l = h at l
  grow_letters w n (suc i) at k k' mo h l =
      grow_pull at w _ _ (λ v. mono_then (at + w) _ _ (omega arith) (λ q. mono_letters c u w n i q k' mo)) λ v z. grow_ok e u (at + w) _ _ _ _ _ (grow_letters w n i (at + w) k k' mo h z)

  module _ (at : ℕ) (k k' : ℕ → ℕ → Ans) (mo : Rises k') (h : (n q : ℕ) → q ≤ e → Grows e u (k n q) (k' n q)) where
    grow_short : Grows e u (short b e at k) (short c u at k')
    unfolding short
    grow_short = grow_pull (at + 1) 7 _ _ (λ n. omega (arith, mo n (at + 8))) λ n l. h n (at + 8) (omega arith)

    grow_long : Grows e u (long b e at k) (long c u at k')
    unfolding long reach
    grow_long = grow_pull (at + 2) 14 _ _ (λ n. mono_then (at + 2 + 14) _ _ (omega arith) (λ q. mo n q)) λ n l. grow_ok e u (at + 16) _ _ _ _ _ (h n (at + 16) (omega arith))

    grow_fragment : Grows e u (fragment b e at k) (fragment c u at k')
    unfolding fragment reach
    grow_fragment =
        grow_pull (at + 2) 6 _ _
        (λ m. mono_guard (at + 2 + 6) _ (at + 8) 0 _ (omega arith) (mono_guard (at + 2 + 6) _ (at + 8) 0 _ (omega arith) (mono_then (at + 2 + 6) _ _ (omega arith) (λ q. mo m q)))) λ m l.
        grow_guard e u _ (at + 8) 0 (grow_guard e u _ (at + 8) 0 (grow_ok e u (at + 8) _ _ _ _ _ (h m (at + 8) (omega arith))))

  grow_lengths : (g at : ℕ) (k k' : ℕ → ℕ → Ans) → Rises k' → ((n q : ℕ) → q ≤ e → Grows e u (k n q) (k' n q)) → Grows e u (lengths g b e at k) (lengths g c u at k')
  unfolding lengths
  grow_lengths zero at k k' mo h = record { grew = tt }
  grow_lengths (suc g) at k k' mo h =
      let mo' : Rises (λ m q. lengths g c u q (λ n p. k' (m * 16384 + n) p)) = λ m q. mono_lengths c u g q _ (λ n p. mo (m * 16384 + n) p) in
      let on : (y : ℕ) → at + 1 + 1 ≤ reach (fork y (long c u at k') (fragment c u at (λ m q. lengths g c u q (λ n p. k' (m * 16384 + n) p)))) = λ y. mono_fork (at + 1 + 1) y _ _ (mono_long c u at k' mo) (mono_fragment c u at _ mo') in
      grow_pull at 1 _ _ (λ x. mono_fork (at + 1) x _ _ (mono_short c u at k' mo) (mono_pull c u (at + 1) 1 _ on)) λ x _.
      grow_fork e u x (grow_short at k k' mo h)
      (grow_pull (at + 1) 1 _ _ on λ y _.
      grow_fork e u y (grow_long at k k' mo h) (grow_fragment at _ _ mo' (λ m q lq. grow_lengths g q _ _ (λ n p. mo (m * 16384 + n) p) (λ n p lp. h (m * 16384 + n) p lp))))

  grow_length : (at : ℕ) (k k' : ℕ → ℕ → Ans) → Rises k' → ((n q : ℕ) → q ≤ e → Grows e u (k n q) (k' n q)) → Grows e u (length_then b e at k) (length_then c u at k')
  unfolding length_then
  grow_length at k k' mo h = grow_lengths 65537 at k k' mo h

  -- so many bits, passed over
  grow_span : (at n : ℕ) (k k' : ℕ → Ans) → ((v : ℕ) → reach (k' v) ≡ at + n) → ((v : ℕ) → Grows e u (k v) (k' v)) → Grows e u (pull b e at n k) (pull c u at n k')
  grow_span at n k k' r h = grow_pull at n k k' (λ v. omega (arith, r v)) (λ v _. h v)

  read_again : (f : Fmt) (x : Ctx) (at : ℕ) → at ≤ e → Again e u (read f x b e at) (read f x c u at)
  unfolding reach is_open
  read_again f x at l q R m h =
      let i : reach (read f x b e at) ≤ e = in_window b f x e at l in
      let r : reach (read f x b e at) ≡ q = ap reach h in
      let o : is_open (read f x b e at) ≡ false = ap is_open h in
      (omega arith, stable f x b c e u at (omega arith) o (agree_le ag i) (omega arith) ∙ h)

  ---------------------------------------------------------------- formats

  mutual
    unfolding read reach flags tame tame_fields tame_choice keeps_stop

    grow : (f : Fmt) (x : Ctx) (at : ℕ) → at ≤ e → frank f ≡ true → Grows e u (read f x b e at) (read f x c u at)
    grow (num t lo hi) x at l h = grow_span at _ _ _ (λ v. refl) (λ v. grow_none e u)
    grow (listed t hi xs) x at l h = grow_span at _ _ _ (λ v. refl) (λ v. grow_none e u)
    grow (name t hi) x at l h = grow_pull at _ _ _ (λ v. mono_guard (at + width (extent 0 hi)) _ _ _ _ (omega arith) (omega arith)) (λ v _. grow_guard e u _ _ _ (grow_none e u))
    grow (text t n y lo hi) x at l h = grow_sized at lo hi _ _ (λ k q. mono_letters c u (width (n - 1)) n k q _ λ p. omega arith) λ k q z. grow_letters (width (n - 1)) n k q _ _ (λ p. omega arith) (λ p _. grow_none e u) z
    grow (span t w lo hi) x at l h = grow_sized at lo hi _ _ (λ k q. mono_pull c u q (k * w) _ λ _. omega arith) λ k q z. grow_span q (k * w) _ _ (λ v. refl) (λ v. grow_none e u)
    grow (any_span t w) x at l h = grow_length at _ _ (λ k q. mono_pull c u q (k * w) _ λ _. omega arith) λ k q z. grow_span q (k * w) _ _ (λ v. refl) (λ v. grow_none e u)
    grow (skipped m) x at l h = grow_ok e u at _ _ _ _ _ (grow_length at _ _ (λ k q. mono_pull c u q (k * 8) _ λ _. omega arith) λ k q z. grow_span q (k * 8) _ _ (λ v. refl) (λ v. grow_none e u))
    grow (small m t) x at l h =
        let mo : Rises (λ k q. pull c u q (k * 8) (λ v. ok (q + k * 8) (rec t x.0 (word v) 0 at ∷ []) 0)) = λ k q. mono_pull c u q (k * 8) _ λ _. omega arith in
        grow_ok e u at _ _ _ _ _
        (grow_pull at 1 _ _ (λ y. mono_fork (at + 1) y _ _ (mono_pull c u (at + 1) 6 _ λ v. omega arith) (mono_length c u (at + 1) _ mo)) λ y z.
        grow_fork e u y (grow_pull (at + 1) 6 _ _ (λ v. omega arith) (λ v _. grow_none e u)) (grow_length (at + 1) _ _ mo λ k q z. grow_span q (k * 8) _ _ (λ v. refl) (λ v. grow_none e u)))
    grow null x at l h = grow_none e u
    grow (noted t v s f) x at l h = grow_ok e u at _ _ _ _ _ (grow f x at l h)
    grow (placed t f) x at l h = grow_ok e u at _ _ _ _ _ (grow f x at l h)
    grow (marked m) x at l h = grow_none e u
    grow (refuse (out k) m) x at l h = let z : ◌≡◌ {A = ℕ} 0 1 = cc in absurd (omega arith)
    grow (refuse bad m) x at l h = record { grew = tt }
    grow (refuse lack m) x at l h = record { grew = tt }
    grow (refuse (quit o j k) m) x at l h = record { grew = tt }
    grow (element f) x at l h = grow f (x.1, x.1) at l h
    grow (ext f g) x at l h =
        let z = both (frank f) (frank g) h in
        grow_pull at 1 _ _ (λ y. mono_fork (at + 1) y _ _ (mono c f x u (at + 1)) (mono_then (at + 1) _ _ (omega arith) (λ q. mono c g x u q))) λ y r.
        grow_fork e u y (grow f x (at + 1) r z.0) (grow_ok e u (at + 1) _ _ _ _ _ (grow g x (at + 1) r z.1))
    grow (seq fs) x at l h =
        grow_fetch at (flags fs) _ _ _ _ (λ _ r. grow_ok e u (at + flags fs) [] _ _ _ _ (grow_fields fs x at (at + flags fs) r h r)) (λ s. record { grew = record { some = omega arith; there = λ g. fetch_past at (flags fs) _ _ (λ _. mono_then (at + flags fs) _ _ (omega arith) (λ p. mono_fields c fs x u at p)) (omega arith) s g } })
    grow (loose fs) x at l h =
        let z = both true (tame_fields frankly fs) h in
        grow_fetch at (flags fs) _ _ _ _ (λ _ r. grow_ok e u (at + flags fs) [] _ _ _ _ (grow_fields fs x at (at + flags fs) r z.1 r)) (λ s. grow_late e u 1 _ _ _ (record { some = omega arith; there = λ g. fetch_past at (flags fs) _ _ (λ _. mono_then (at + flags fs) _ _ (omega arith) (λ p. mono_fields c fs x u at p)) (omega (arith, (late_is 1 [] (unread_marks fs (within c u) at) (read_fields fs x (within c u) u at (at + (u - at)))).0, mono_fields (within c u) fs x u at (at + (u - at)))) s g }))
    grow (choice t fs) x at l h =
        let w : ℕ = width (highest (alternatives_of fs)) in
        grow_pull at w _ _ (λ i. mono_then (at + w) _ _ (omega arith) (λ q. mono_choice c fs i x u q)) λ i r. grow_ok e u (at + w) _ _ _ _ _ (grow_choice fs i x (at + w) r h)
    grow (many lo hi f) x at l h =
        grow_sized at lo hi _ _ (λ k q. mono_times _ (λ i p. mono c f (x.0, i) u p) 1 k q) λ k q z.
        grow_times e u _ _ (λ i p r. grow f (x.0, i) p r h) (λ i p r. read_again f (x.0, i) p r) (λ i p. mono c f (x.0, i) u p) 1 k q z
    grow (inner f) x at l h =
        grow_length at _ _ (λ k q. mono_pull c u q k _ λ _. omega (arith, close_is (q + k) (read f x c (q + k) q))) λ k q z.
        grow_pull q k _ _ (λ _. omega (arith, close_is (q + k) (read f x c (q + k) q))) (λ _ _. grow_close e u (q + k) (read f x b (q + k) q))
    grow (soft m r f) x at l h =
        let y : reach (softly m r (read f x c u at)) ≡ reach (read f x c u at) = (soft_is m r (read f x c u at)).0 in
        grow_soft e u m r (read f x b e at) (grow_on e u (omega arith) (grow f x at l h))
    grow (lax m j f) x at l h =
        let y : reach (laxly m j (read f x c u at)) ≡ reach (read f x c u at) = (lax_is m j (read f x c u at)).0 in
        grow_lax e u m j (read f x b e at) (grow_on e u (omega arith) (grow f x at l h))

    grow_fields : (fs : Flds) (x : Ctx) (q at : ℕ) → at ≤ e → tame_fields frankly fs ≡ true → q + flags fs ≤ e → Grows e u (read_fields fs x b e q at) (read_fields fs x c u q at)
    grow_fields end x q at l h r = grow_none e u
    grow_fields (f ⨾ fs) x q at l h r =
        let z = both (frank f) (tame_fields frankly fs) h in
        grow_then e u (read f x b e at) (read f x c u at) _ _ (grow f x at l z.0) (read_again f x at l) (λ p. mono_fields c fs x u q p) (λ p y. grow_fields fs x q p y z.1 r)
    grow_fields (f ⨾? fs) x q at l h r =
        let z = both (frank f) (tame_fields frankly fs) h in
        rw (ag q (omega arith))
        (grow_fork e u (c q) (grow_fields fs x (suc q) at l z.1 (omega arith))
        (grow_then e u (read f x b e at) (read f x c u at) _ _ (grow f x at l z.0) (read_again f x at l) (λ p. mono_fields c fs x u (suc q) p) (λ p y. grow_fields fs x (suc q) p y z.1 (omega arith))))
    grow_fields (or_note t v s f fs) x q at l h r =
        let z = both (frank f) (tame_fields frankly fs) h in
        rw (ag q (omega arith))
        (grow_fork e u (c q) (grow_ok e u at _ _ _ _ _ (grow_fields fs x (suc q) at l z.1 (omega arith)))
        (grow_then e u (read f x b e at) (read f x c u at) _ _ (grow f x at l z.0) (read_again f x at l) (λ p. mono_fields c fs x u (suc q) p) (λ p y. grow_fields fs x (suc q) p y z.1 (omega arith))))
    grow_fields (unread t fs) x q at l h r =
        rw (ag q (omega arith)) (grow_fork e u (c q) (grow_fields fs x (suc q) at l h (omega arith)) (grow_ok e u at _ _ _ _ _ (grow_fields fs x (suc q) at l h (omega arith))))

    grow_choice : (fs : Alts) (i : ℕ) (x : Ctx) (at : ℕ) → at ≤ e → tame_choice frankly fs ≡ true → Grows e u (read_choice fs i x b e at) (read_choice fs i x c u at)
    grow_choice none_left i x at l h = record { grew = tt }
    grow_choice (f ∥ fs) zero x at l h = grow f x at l (both (frank f) (tame_choice frankly fs) h).0
    grow_choice (f ∥ fs) (suc i) x at l h = grow_choice fs i x at l (both (frank f) (tame_choice frankly fs) h).1

-- the theorem
pub longer : (f : Fmt) (x : Ctx) (b c : ℕ → ℕ) (e u at : ℕ) → frank f ≡ true → Agree b c e → e ≤ u → at ≤ e → Lacks (read f x b e at) (Further e u (read f x c u at))
longer f x b c e u at h ag le l = (grow b c e u ag le f x at l h).grew
