-- The reach of an answer: it never falls, and it is within the window.
use mathlib.Core.Path.{◌≡◌, refl}
use mathlib.Core.Bool.{Bool, true, false}
use mathlib.Core.List.{List, []}
use Prim.Native.Nat.{ℕ, zero, suc, ◌+◌, ◌-◌, ◌*◌, ◌≤◌, ◌<◌}
use native.Mathlib.Nat.{add_assoc}
use native.Mathlib.Omega.{arith}
use lib.Dec.{leb}
use borrow.Author.Tests.{leb-true, leb-false}
use Rattle.x691.specs.Bits.{uint}
use Rattle.x691.specs.Types.{extent}
use Rattle.x691.specs.Encoding.{width, highest}
use Rattle.atn.specs.Format.{Fmt, num, listed, name, text, span, any_span, skipped, small, null, noted, placed, marked, refuse, element, ext, seq, loose, choice, many, inner, soft, lax}
use Rattle.atn.specs.Format.{Flds, end, ◌⨾◌, ◌⨾?◌, or_note, unread, Alts, none_left, ◌∥◌, alternatives_of, Why, out, bad, lack, quit}
use Rattle.atn.specs.Reading.{Rec, Ctx, Ans, ok, past, stop, glue, tardy, late, then, times, fork, guard, fetch, pull, sized, letters, short, long, fragment, lengths, length_then, flags, unread_marks, within, close, shut, softly, pass_over, laxly, give_up, read, read_fields, read_choice}
use Rattle.atn.proofs.Steps.{fetch_go, fetch_no}

unfoldable pub reach : Ans → ℕ
reach (ok p R m) = p
reach (past k p R m) = p
reach (stop w p R m) = p

-- an answer that more bits may change: it ran out, or it passed the window's end
unfoldable pub opens : Why → Bool
opens (out k) = true
opens bad = false
opens lack = false
opens (quit o j m) = o

unfoldable pub is_open : Ans → Bool
is_open (ok p R m) = false
is_open (past k p R m) = true
is_open (stop w p R m) = opens w

-- which of the two it is
pub split : {C : Type 0} (a b : ℕ) → (a ≤ b → C) → (b < a → C) → C
split {C} a b f g = go (leb a b) refl
  where
    go : (t : Bool) → leb a b ≡ t → C
    go true q = f (leb-true a b q)
    go false q = g (leb-false a b q)

---------------------------------------------------------------- what changes neither

pub glue-is : (R : List Rec) (m : ℕ) (a : Ans) → (reach (glue R m a) ≡ reach a) × (is_open (glue R m a) ≡ is_open a)
unfolding glue reach is_open
glue-is R m (ok p S n) = (refl, refl)
glue-is R m (past k p S n) = (refl, refl)
glue-is R m (stop w p S n) = (refl, refl)

opens-tardy : (k : ℕ) (w : Why) → opens (tardy k w) ≡ true
unfolding opens tardy
opens-tardy k (out l) = refl
opens-tardy k bad = refl
opens-tardy k lack = refl
opens-tardy k (quit o j m) = refl

-- behind the window's end every answer is open
pub late_is : (k : ℕ) (R : List Rec) (m : ℕ) (a : Ans) → (reach (late k R m a) ≡ reach a) × (is_open (late k R m a) ≡ true)
unfolding late reach is_open
late_is k R m (ok p S n) = (refl, refl)
late_is k R m (past l p S n) = (refl, refl)
late_is k R m (stop w p S n) = (refl, opens-tardy k w)

pass-is : (w : Why) (k : ℕ) (r : Bool) (p : ℕ) (R : List Rec) (m : ℕ) → (reach (pass_over w k r p R m) ≡ p) × (is_open (pass_over w k r p R m) ≡ opens w)
unfolding pass_over reach is_open opens
pass-is (out l) k r p R m = (refl, refl)
pass-is bad k r p R m = (refl, refl)
pass-is lack k r p R m = (refl, refl)
pass-is (quit o j l) k r p R m = (refl, refl)

pub soft_is : (k : ℕ) (r : Bool) (a : Ans) → (reach (softly k r a) ≡ reach a) × (is_open (softly k r a) ≡ is_open a)
unfolding softly reach is_open
soft_is k r (ok p R m) = (refl, refl)
soft_is k r (past l p R m) = (refl, refl)
soft_is k r (stop w p R m) = pass-is w k r p R m

give_is : (w : Why) (k : ℕ) (j : Bool) (p : ℕ) (R : List Rec) (m : ℕ) → (reach (give_up w k j p R m) ≡ p) × (is_open (give_up w k j p R m) ≡ opens w)
unfolding give_up reach is_open opens
give_is (out l) k j p R m = (refl, refl)
give_is bad k j p R m = (refl, refl)
give_is lack k j p R m = (refl, refl)
give_is (quit o i l) k j p R m = (refl, refl)

pub lax_is : (k : ℕ) (j : Bool) (a : Ans) → (reach (laxly k j a) ≡ reach a) × (is_open (laxly k j a) ≡ is_open a)
unfolding laxly reach is_open
lax_is k j (ok p R m) = (refl, refl)
lax_is k j (past l p R m) = (refl, refl)
lax_is k j (stop w p R m) = give_is w k j p R m

shut-is : (w : Why) (q p : ℕ) (R : List Rec) (m : ℕ) → reach (shut w q p R m) ≡ q
unfolding shut reach
shut-is (out l) q p R m = refl
shut-is bad q p R m = refl
shut-is lack q p R m = refl
shut-is (quit o false k) q p R m = refl
shut-is (quit o true k) q p R m = refl

-- "an inner bit string counts in full once it is taken"
pub close_is : (q : ℕ) (a : Ans) → reach (close q a) ≡ q
unfolding close reach
close_is q (ok p R m) = refl
close_is q (past k p R m) = refl
close_is q (stop w p R m) = shut-is w q p R m

---------------------------------------------------------------- the reach does not fall

mono_fetch : (b : ℕ → ℕ) (e at n : ℕ) (k : ℕ → Ans) (z : Ans) → at ≤ reach z → ((v : ℕ) → at + n ≤ reach (k v)) → at ≤ reach (fetch b e at n k z)
mono_fetch b e at n k z x h = split (at + n) e (λ l. rw (fetch_go b e at n k z l) (omega (arith, h (uint b at n)))) (λ l. rw (fetch_no b e at n k z l) x)

pub mono_pull : (b : ℕ → ℕ) (e at n : ℕ) (k : ℕ → Ans) → ((v : ℕ) → at + n ≤ reach (k v)) → at ≤ reach (pull b e at n k)
unfolding reach pull
mono_pull b e at n k h = mono_fetch b e at n k (stop (out (at + n - e)) at [] 0) (omega arith) h

pub mono_then : (at : ℕ) (a : Ans) (k : ℕ → Ans) → at ≤ reach a → ((q : ℕ) → q ≤ reach (k q)) → at ≤ reach (then a k)
unfolding then reach
mono_then at (ok q R m) k h g = rw (glue-is R m (k q)).0 (omega (arith, g q))
mono_then at (past l q R m) k h g = rw (late_is l R m (k q)).0 (omega (arith, g q))
mono_then at (stop w q R m) k h g = h

pub mono_times : (r : ℕ → ℕ → Ans) → ((i q : ℕ) → q ≤ reach (r i q)) → (i n at : ℕ) → at ≤ reach (times r i n at)
unfolding times reach
mono_times r h i zero at = omega arith
mono_times r h i (suc n) at = mono_then at (r i at) (λ p. times r (suc i) n p) (h i at) (λ q. mono_times r h (suc i) n q)

pub mono_fork : (at x : ℕ) (y z : Ans) → at ≤ reach y → at ≤ reach z → at ≤ reach (fork x y z)
unfolding fork
mono_fork at zero y z h g = h
mono_fork at (suc x) y z h g = g

pub mono_guard : (at : ℕ) (t : Bool) (p m : ℕ) (z : Ans) → at ≤ p → at ≤ reach z → at ≤ reach (guard t p m z)
unfolding guard reach
mono_guard at true p m z h g = g
mono_guard at false p m z h g = h

-- a continuation that does not fall behind the place that it is given
abbrev pub Rises : (ℕ → ℕ → Ans) → Type 0
Rises k = (n q : ℕ) → q ≤ reach (k n q)

module _ (b : ℕ → ℕ) (e : ℕ) where
  pub mono_sized : (at lo hi : ℕ) (k : ℕ → ℕ → Ans) → Rises k → at ≤ reach (sized b e at lo hi k)
  unfolding sized reach
  mono_sized at lo hi k h = mono_pull b e at (width (hi - lo)) _ λ v. mono_then _ _ _ (omega arith) (λ q. h (lo + v) q)

  pub mono_letters : (w n i at : ℕ) (k : ℕ → Ans) → ((q : ℕ) → q ≤ reach (k q)) → at ≤ reach (letters b e w n i at k)
  unfolding letters reach
  mono_letters w n zero at k h = h at
  mono_letters w n (suc i) at k h = mono_pull b e at w _ λ u. mono_then (at + w) _ _ (omega arith) (λ q. mono_letters w n i q k h)

  pub mono_short : (at : ℕ) (k : ℕ → ℕ → Ans) → Rises k → at + 1 ≤ reach (short b e at k)
  unfolding short
  mono_short at k h = mono_pull b e (at + 1) 7 _ λ n. omega (arith, h n (at + 8))

  pub mono_long : (at : ℕ) (k : ℕ → ℕ → Ans) → Rises k → at + 1 + 1 ≤ reach (long b e at k)
  unfolding long reach
  mono_long at k h = rw (add_assoc at 1 1) (mono_pull b e (at + 2) 14 _ λ n. mono_then (at + 2 + 14) _ _ (omega arith) (λ q. h n q))

  pub mono_fragment : (at : ℕ) (k : ℕ → ℕ → Ans) → Rises k → at + 1 + 1 ≤ reach (fragment b e at k)
  unfolding fragment reach
  mono_fragment at k h =
      rw (add_assoc at 1 1)
      (mono_pull b e (at + 2) 6 _ λ m.
      mono_guard (at + 2 + 6) _ (at + 8) 0 _ (omega arith) (mono_guard (at + 2 + 6) _ (at + 8) 0 _ (omega arith) (mono_then (at + 2 + 6) _ _ (omega arith) (λ q. h m q))))

  pub mono_lengths : (g at : ℕ) (k : ℕ → ℕ → Ans) → Rises k → at ≤ reach (lengths g b e at k)
  unfolding lengths reach
  mono_lengths zero at k h = omega arith
  mono_lengths (suc g) at k h =
      mono_pull b e at 1 _ λ x.
      mono_fork (at + 1) x _ _ (mono_short at k h)
      (mono_pull b e (at + 1) 1 _ λ y. mono_fork (at + 1 + 1) y _ _ (mono_long at k h) (mono_fragment at _ λ m q. mono_lengths g q _ λ n p. h (m * 16384 + n) p))

  pub mono_length : (at : ℕ) (k : ℕ → ℕ → Ans) → Rises k → at ≤ reach (length_then b e at k)
  unfolding length_then
  mono_length at k h = mono_lengths 65537 at k h

mutual
  unfolding read reach

  pub mono : (b : ℕ → ℕ) (f : Fmt) (x : Ctx) (e at : ℕ) → at ≤ reach (read f x b e at)
  mono b (num t lo hi) x e at = mono_pull b e at _ _ λ v. omega arith
  mono b (listed t hi xs) x e at = mono_pull b e at _ _ λ v. omega arith
  mono b (name t hi) x e at = mono_pull b e at _ _ λ v. mono_guard (at + width (extent 0 hi)) _ _ _ _ (omega arith) (omega arith)
  mono b (text t n c lo hi) x e at = mono_sized b e at lo hi _ λ k q. mono_letters b e (width (n - 1)) n k q _ λ p. omega arith
  mono b (span t w lo hi) x e at = mono_sized b e at lo hi _ λ k q. mono_pull b e q (k * w) _ λ _. omega arith
  mono b (any_span t w) x e at = mono_length b e at _ λ k q. mono_pull b e q (k * w) _ λ _. omega arith
  mono b (skipped m) x e at = mono_then at _ _ (omega arith) (λ p. mono_length b e p _ λ k q. mono_pull b e q (k * 8) _ λ _. omega arith)
  mono b (small m t) x e at =
      mono_then at _ _ (omega arith) (λ p.
      mono_pull b e p 1 _ λ y.
      mono_fork (p + 1) y _ _ (mono_pull b e (p + 1) 6 _ λ v. omega arith) (mono_length b e (p + 1) _ λ k q. mono_pull b e q (k * 8) _ λ _. omega arith))
  mono b null x e at = omega arith
  mono b (noted t v s f) x e at = mono_then at _ _ (omega arith) (λ p. mono b f x e p)
  mono b (placed t f) x e at = mono_then at _ _ (omega arith) (λ p. mono b f x e p)
  mono b (marked m) x e at = omega arith
  mono b (refuse w m) x e at = omega arith
  mono b (element f) x e at = mono b f (x.1, x.1) e at
  mono b (ext f g) x e at = mono_pull b e at 1 _ λ y. mono_fork (at + 1) y _ _ (mono b f x e (at + 1)) (mono_then (at + 1) _ _ (omega arith) (λ p. mono b g x e p))
  mono b (seq fs) x e at = mono_fetch b e at (flags fs) _ _ (omega arith) λ _. mono_then (at + flags fs) _ _ (omega arith) (λ p. mono_fields b fs x e at p)
  mono b (loose fs) x e at =
      mono_fetch b e at (flags fs) _ _ (omega (arith, (late_is 1 [] (unread_marks fs (within b e) at) (read_fields fs x (within b e) e at (at + (e - at)))).0, mono_fields (within b e) fs x e at (at + (e - at)))) λ _. mono_then (at + flags fs) _ _ (omega arith) (λ p. mono_fields b fs x e at p)
  mono b (choice t fs) x e at = mono_pull b e at _ _ λ i. mono_then (at + width (highest (alternatives_of fs))) _ _ (omega arith) (λ q. mono_choice b fs i x e q)
  mono b (many lo hi f) x e at = mono_sized b e at lo hi _ λ k q. mono_times _ (λ i p. mono b f (x.0, i) e p) 1 k q
  mono b (inner f) x e at = mono_length b e at _ λ k q. mono_pull b e q k _ λ _. omega (arith, close_is (q + k) (read f x b (q + k) q))
  mono b (soft m r f) x e at = omega (arith, (soft_is m r (read f x b e at)).0, mono b f x e at)
  mono b (lax m j f) x e at = omega (arith, (lax_is m j (read f x b e at)).0, mono b f x e at)

  pub mono_fields : (b : ℕ → ℕ) (fs : Flds) (x : Ctx) (e q at : ℕ) → at ≤ reach (read_fields fs x b e q at)
  mono_fields b end x e q at = omega arith
  mono_fields b (f ⨾ fs) x e q at = mono_then at _ _ (mono b f x e at) (λ p. mono_fields b fs x e q p)
  mono_fields b (f ⨾? fs) x e q at = mono_fork at (b q) _ _ (mono_fields b fs x e (suc q) at) (mono_then at _ _ (mono b f x e at) (λ p. mono_fields b fs x e (suc q) p))
  mono_fields b (or_note t v s f fs) x e q at = mono_fork at (b q) _ _ (mono_then at _ _ (omega arith) (λ p. mono_fields b fs x e (suc q) p)) (mono_then at _ _ (mono b f x e at) (λ p. mono_fields b fs x e (suc q) p))
  mono_fields b (unread t fs) x e q at = mono_fork at (b q) _ _ (mono_fields b fs x e (suc q) at) (mono_then at _ _ (omega arith) (λ p. mono_fields b fs x e (suc q) p))

  pub mono_choice : (b : ℕ → ℕ) (fs : Alts) (i : ℕ) (x : Ctx) (e at : ℕ) → at ≤ reach (read_choice fs i x b e at)
  mono_choice b none_left i x e at = omega arith
  mono_choice b (f ∥ fs) zero x e at = mono b f x e at
  mono_choice b (f ∥ fs) (suc i) x e at = mono_choice b fs i x e at

---------------------------------------------------------------- the reach is within the window

in_fetch : (b : ℕ → ℕ) (e at n : ℕ) (k : ℕ → Ans) (z : Ans) → reach z ≤ e → ((v : ℕ) → at + n ≤ e → reach (k v) ≤ e) → reach (fetch b e at n k z) ≤ e
in_fetch b e at n k z x h = split (at + n) e (λ l. rw (fetch_go b e at n k z l) (h (uint b at n) l)) (λ l. rw (fetch_no b e at n k z l) x)

in_pull : (b : ℕ → ℕ) (e at n : ℕ) (k : ℕ → Ans) → at ≤ e → ((v : ℕ) → at + n ≤ e → reach (k v) ≤ e) → reach (pull b e at n k) ≤ e
unfolding reach pull
in_pull b e at n k x h = in_fetch b e at n k (stop (out (at + n - e)) at [] 0) x h

in_then : (e : ℕ) (a : Ans) (k : ℕ → Ans) → reach a ≤ e → ((q : ℕ) → q ≤ e → reach (k q) ≤ e) → reach (then a k) ≤ e
unfolding then reach
in_then e (ok q R m) k h g = rw (glue-is R m (k q)).0 (g q h)
in_then e (past l q R m) k h g = rw (late_is l R m (k q)).0 (g q h)
in_then e (stop w q R m) k h g = h

in_times : (e : ℕ) (r : ℕ → ℕ → Ans) → ((i q : ℕ) → q ≤ e → reach (r i q) ≤ e) → (i n at : ℕ) → at ≤ e → reach (times r i n at) ≤ e
unfolding times reach
in_times e r h i zero at l = l
in_times e r h i (suc n) at l = in_then e (r i at) (λ p. times r (suc i) n p) (h i at l) (λ q x. in_times e r h (suc i) n q x)

in_fork : (e x : ℕ) (y z : Ans) → reach y ≤ e → reach z ≤ e → reach (fork x y z) ≤ e
unfolding fork
in_fork e zero y z h g = h
in_fork e (suc x) y z h g = g

in_guard : (e : ℕ) (t : Bool) (p m : ℕ) (z : Ans) → p ≤ e → reach z ≤ e → reach (guard t p m z) ≤ e
unfolding guard reach
in_guard e true p m z h g = g
in_guard e false p m z h g = h

module _ (b : ℕ → ℕ) (e : ℕ) where
  in_sized : (at lo hi : ℕ) (k : ℕ → ℕ → Ans) → at ≤ e → ((n q : ℕ) → q ≤ e → reach (k n q) ≤ e) → reach (sized b e at lo hi k) ≤ e
  unfolding sized reach
  in_sized at lo hi k l h = in_pull b e at (width (hi - lo)) _ l λ v y. in_then e _ _ y (λ q z. h (lo + v) q z)

  in_letters_lem : (w n i at : ℕ) (k : ℕ → Ans) → at ≤ e → ((q : ℕ) → q ≤ e → reach (k q) ≤ e) → reach (letters b e w n i at k) ≤ e
  unfolding letters reach
  in_letters_lem w n zero at k l h = h at l
  in_letters_lem w n (suc i) at k l h = in_pull b e at w _ l λ u y. in_then e _ _ y (λ q z. in_letters_lem w n i q k z h)

  in_length : (g at : ℕ) (k : ℕ → ℕ → Ans) → at ≤ e → ((n q : ℕ) → q ≤ e → reach (k n q) ≤ e) → reach (lengths g b e at k) ≤ e
  unfolding lengths short long fragment reach
  in_length zero at k l h = l
  in_length (suc g) at k l h =
      in_pull b e at 1 _ l λ x l₁.
      in_fork e x _ _ (in_pull b e (at + 1) 7 _ l₁ λ n l₂. h n (at + 8) (omega arith))
      (in_pull b e (at + 1) 1 _ l₁ λ y l₂.
      in_fork e y _ _ (in_pull b e (at + 2) 14 _ (omega arith) λ n l₃. in_then e _ _ (omega arith) (λ q x. h n q x))
      (in_pull b e (at + 2) 6 _ (omega arith) λ m l₃.
      in_guard e _ (at + 8) 0 _ (omega arith) (in_guard e _ (at + 8) 0 _ (omega arith) (in_then e _ _ (omega arith) (λ q x. in_length g q _ x (λ n p y. h (m * 16384 + n) p y))))))

mutual
  unfolding read reach length_then

  pub in_window : (b : ℕ → ℕ) (f : Fmt) (x : Ctx) (e at : ℕ) → at ≤ e → reach (read f x b e at) ≤ e
  in_window b (num t lo hi) x e at h = in_pull b e at _ _ h λ v l. l
  in_window b (listed t hi xs) x e at h = in_pull b e at _ _ h λ v l. l
  in_window b (name t hi) x e at h = in_pull b e at _ _ h λ v l. in_guard e _ _ _ _ l l
  in_window b (text t n c lo hi) x e at h = in_sized b e at lo hi _ h λ k q l. in_letters_lem b e (width (n - 1)) n k q _ l λ p y. y
  in_window b (span t w lo hi) x e at h = in_sized b e at lo hi _ h λ k q l. in_pull b e q (k * w) _ l λ _ y. y
  in_window b (any_span t w) x e at h = in_length b e 65537 at _ h λ k q l. in_pull b e q (k * w) _ l λ _ y. y
  in_window b (skipped m) x e at h = in_then e _ _ h (λ p l. in_length b e 65537 p _ l λ k q y. in_pull b e q (k * 8) _ y λ _ z. z)
  in_window b (small m t) x e at h =
      in_then e _ _ h (λ p l.
      in_pull b e p 1 _ l λ y l₁.
      in_fork e y _ _ (in_pull b e (p + 1) 6 _ l₁ λ v l₂. omega arith) (in_length b e 65537 (p + 1) _ l₁ λ k q y. in_pull b e q (k * 8) _ y λ _ z. z))
  in_window b null x e at h = h
  in_window b (noted t v s f) x e at h = in_then e _ _ h (λ p l. in_window b f x e p l)
  in_window b (placed t f) x e at h = in_then e _ _ h (λ p l. in_window b f x e p l)
  in_window b (marked m) x e at h = h
  in_window b (refuse w m) x e at h = h
  in_window b (element f) x e at h = in_window b f (x.1, x.1) e at h
  in_window b (ext f g) x e at h = in_pull b e at 1 _ h λ y l. in_fork e y _ _ (in_window b f x e (at + 1) l) (in_then e _ _ l (λ p z. in_window b g x e p z))
  in_window b (seq fs) x e at h = in_fetch b e at (flags fs) _ _ (omega arith) λ _ l. in_then e _ _ l (λ p y. in_window_fields b fs x e at p y)
  in_window b (loose fs) x e at h =
      in_fetch b e at (flags fs) _ _ (omega (arith, (late_is 1 [] (unread_marks fs (within b e) at) (read_fields fs x (within b e) e at (at + (e - at)))).0, in_window_fields (within b e) fs x e at (at + (e - at)) (omega arith))) λ _ l. in_then e _ _ l (λ p y. in_window_fields b fs x e at p y)
  in_window b (choice t fs) x e at h = in_pull b e at _ _ h λ i l. in_then e _ _ l (λ q y. in_window_choice b fs i x e q y)
  in_window b (many lo hi f) x e at h = in_sized b e at lo hi _ h λ k q l. in_times e _ (λ i p y. in_window b f (x.0, i) e p y) 1 k q l
  in_window b (inner f) x e at h = in_length b e 65537 at _ h λ k q l. in_pull b e q k _ l λ _ y. omega (arith, close_is (q + k) (read f x b (q + k) q))
  in_window b (soft m r f) x e at h = omega (arith, (soft_is m r (read f x b e at)).0, in_window b f x e at h)
  in_window b (lax m j f) x e at h = omega (arith, (lax_is m j (read f x b e at)).0, in_window b f x e at h)

  in_window_fields : (b : ℕ → ℕ) (fs : Flds) (x : Ctx) (e q at : ℕ) → at ≤ e → reach (read_fields fs x b e q at) ≤ e
  in_window_fields b end x e q at h = h
  in_window_fields b (f ⨾ fs) x e q at h = in_then e _ _ (in_window b f x e at h) (λ p l. in_window_fields b fs x e q p l)
  in_window_fields b (f ⨾? fs) x e q at h = in_fork e (b q) _ _ (in_window_fields b fs x e (suc q) at h) (in_then e _ _ (in_window b f x e at h) (λ p l. in_window_fields b fs x e (suc q) p l))
  in_window_fields b (or_note t v s f fs) x e q at h = in_fork e (b q) _ _ (in_then e _ _ h (λ p l. in_window_fields b fs x e (suc q) p l)) (in_then e _ _ (in_window b f x e at h) (λ p l. in_window_fields b fs x e (suc q) p l))
  in_window_fields b (unread t fs) x e q at h = in_fork e (b q) _ _ (in_window_fields b fs x e (suc q) at h) (in_then e _ _ h (λ p l. in_window_fields b fs x e (suc q) p l))

  in_window_choice : (b : ℕ → ℕ) (fs : Alts) (i : ℕ) (x : Ctx) (e at : ℕ) → at ≤ e → reach (read_choice fs i x b e at) ≤ e
  in_window_choice b none_left i x e at h = h
  in_window_choice b (f ∥ fs) zero x e at h = in_window b f x e at h
  in_window_choice b (f ∥ fs) (suc i) x e at h = in_window_choice b fs i x e at h
