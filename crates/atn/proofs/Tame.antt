-- A property of answers that every way of putting readings together keeps is one of every reading, if the format has no part that breaks it.
use mathlib.Core.Path.{◌≡◌, refl}
use mathlib.Core.Bool.{Bool, true, false, ◌&&◌}
use mathlib.Core.List.{List, []}
use Prim.Native.Nat.{ℕ, zero, suc, ◌+◌, ◌-◌, ◌*◌}
use Rattle.x691.specs.Bits.{uint}
use Rattle.atn.specs.Format.{Fmt, num, listed, name, text, span, any_span, skipped, small, null, noted, placed, marked, refuse, element, ext, seq, loose, choice, many, inner, soft, lax}
use Rattle.atn.specs.Format.{Flds, end, ◌⨾◌, ◌⨾?◌, or_note, unread, Alts, none_left, ◌∥◌, Why, out, bad, lack, quit}
use Rattle.atn.specs.Reading.{Rec, Ctx, Ans, ok, stop, late, then, times, fork, guard, fetch, pull, sized, letters, short, long, fragment, lengths, length_then, flags, within, close, softly, laxly, read, read_fields, read_choice}
use Rattle.atn.proofs.Steps.{fetch_go, fetch_no}
use Rattle.atn.proofs.Reach.{split}
use Rattle.atn.proofs.Inverse.{both}

-- the parts that may break the property: whether each keeps it
pub record Kind : Type 0 where
  pub looses : Bool
  pub softs : Bool
  pub laxes : Bool
  pub quits : Bool
  pub outs : Bool

unfoldable pub keeps_stop : Kind → Why → Bool
keeps_stop k (out n) = k.outs
keeps_stop k bad = true
keeps_stop k lack = true
keeps_stop k (quit o j m) = k.quits

unfoldable mutual
  pub tame : Kind → Fmt → Bool
  tame k (num t lo hi) = true
  tame k (listed t hi xs) = true
  tame k (name t hi) = true
  tame k (text t n c lo hi) = true
  tame k (span t w lo hi) = true
  tame k (any_span t w) = true
  tame k (skipped m) = true
  tame k (small m t) = true
  tame k null = true
  tame k (noted t v s f) = tame k f
  tame k (placed t f) = tame k f
  tame k (marked m) = true
  tame k (refuse w m) = keeps_stop k w
  tame k (element f) = tame k f
  tame k (ext f g) = tame k f && tame k g
  tame k (seq fs) = tame_fields k fs
  tame k (loose fs) = k.looses && tame_fields k fs
  tame k (choice t fs) = tame_choice k fs
  tame k (many lo hi f) = tame k f
  -- what a string carries is shut in
  tame k (inner f) = true
  tame k (soft m r f) = k.softs && tame k f
  tame k (lax m j f) = k.laxes && tame k f

  pub tame_fields : Kind → Flds → Bool
  tame_fields k end = true
  tame_fields k (f ⨾ fs) = tame k f && tame_fields k fs
  tame_fields k (f ⨾? fs) = tame k f && tame_fields k fs
  tame_fields k (or_note t v s f fs) = tame k f && tame_fields k fs
  tame_fields k (unread t fs) = tame_fields k fs

  pub tame_choice : Kind → Alts → Bool
  tame_choice k none_left = true
  tame_choice k (f ∥ fs) = tame k f && tame_choice k fs

-- how readings are put together
pub record Keeps (k : Kind) (P : Ans → Type 0) : Type 0 where
  pub keeps_ok : (p : ℕ) (R : List Rec) (m : ℕ) → P (ok p R m)
  pub keeps-stop : (w : Why) (p : ℕ) (R : List Rec) (m : ℕ) → keeps_stop k w ≡ true → P (stop w p R m)
  pub keeps_out : (n p : ℕ) (R : List Rec) (m : ℕ) → P (stop (out n) p R m)
  pub keeps_then : (a : Ans) (f : ℕ → Ans) → P a → ((q : ℕ) → P (f q)) → P (then a f)
  pub keeps-close : (q : ℕ) (a : Ans) → P (close q a)
  pub keeps-late : k.looses ≡ true → (R : List Rec) (m : ℕ) (a : Ans) → P a → P (late 1 R m a)
  pub keeps_soft : k.softs ≡ true → (m : ℕ) (r : Bool) (a : Ans) → P a → P (softly m r a)
  pub keeps_lax : k.laxes ≡ true → (m : ℕ) (j : Bool) (a : Ans) → P a → P (laxly m j a)

module _ (kind : Kind) (P : Ans → Type 0) (keeps : Keeps kind P) where
  fine : (p : ℕ) (R : List Rec) (m : ℕ) → P (ok p R m)
  fine = keeps.keeps_ok

  short_of : (n p : ℕ) (R : List Rec) (m : ℕ) → P (stop (out n) p R m)
  short_of = keeps.keeps_out

  broken : (p : ℕ) (R : List Rec) (m : ℕ) → P (stop bad p R m)
  unfolding keeps_stop
  broken p R m = keeps.keeps-stop bad p R m refl

  tame_times : (r : ℕ → ℕ → Ans) → ((i q : ℕ) → P (r i q)) → (i n at : ℕ) → P (times r i n at)
  unfolding times
  tame_times r h i zero at = fine _ _ _
  tame_times r h i (suc n) at = keeps.keeps_then (r i at) _ (h i at) (λ q. tame_times r h (suc i) n q)

  tame_fork : (x : ℕ) (y z : Ans) → P y → P z → P (fork x y z)
  unfolding fork
  tame_fork zero y z h g = h
  tame_fork (suc x) y z h g = g

  tame_guard : (t : Bool) (p m : ℕ) (z : Ans) → P z → P (guard t p m z)
  unfolding guard
  tame_guard true p m z h = h
  tame_guard false p m z h = broken p [] m

  tame_fetch : (b : ℕ → ℕ) (e at n : ℕ) (k : ℕ → Ans) (z : Ans) → P z → ((v : ℕ) → P (k v)) → P (fetch b e at n k z)
  tame_fetch b e at n k z x h = split (at + n) e (λ l. rw (fetch_go b e at n k z l) (h (uint b at n))) (λ l. rw (fetch_no b e at n k z l) x)

  tame_pull : (b : ℕ → ℕ) (e at n : ℕ) (k : ℕ → Ans) → ((v : ℕ) → P (k v)) → P (pull b e at n k)
  unfolding pull
  tame_pull b e at n k h = tame_fetch b e at n k (stop (out (at + n - e)) at [] 0) (short_of (at + n - e) at [] 0) h

  module _ (b : ℕ → ℕ) (e : ℕ) where
    tame_sized : (at lo hi : ℕ) (k : ℕ → ℕ → Ans) → ((n q : ℕ) → P (k n q)) → P (sized b e at lo hi k)
    unfolding sized
    tame_sized at lo hi k h = tame_pull b e at _ _ λ v. keeps.keeps_then _ _ (fine _ _ _) (λ q. h (lo + v) q)

    tame_letters : (w n i at : ℕ) (k : ℕ → Ans) → ((q : ℕ) → P (k q)) → P (letters b e w n i at k)
    unfolding letters
    tame_letters w n zero at k h = h at
    tame_letters w n (suc i) at k h = tame_pull b e at w _ λ u. keeps.keeps_then _ _ (fine _ _ _) (λ q. tame_letters w n i q k h)

    tame_lengths : (g at : ℕ) (k : ℕ → ℕ → Ans) → ((n q : ℕ) → P (k n q)) → P (lengths g b e at k)
    unfolding lengths short long fragment
    tame_lengths zero at k h = broken at [] 0
    tame_lengths (suc g) at k h =
        tame_pull b e at 1 _ λ x.
        tame_fork x _ _ (tame_pull b e (at + 1) 7 _ λ n. h n (at + 8))
        (tame_pull b e (at + 1) 1 _ λ y.
        tame_fork y _ _ (tame_pull b e (at + 2) 14 _ λ n. keeps.keeps_then _ _ (fine _ _ _) (λ q. h n q))
        (tame_pull b e (at + 2) 6 _ λ m. tame_guard _ _ _ _ (tame_guard _ _ _ _ (keeps.keeps_then _ _ (fine _ _ _) (λ q. tame_lengths g q _ λ n p. h (m * 16384 + n) p)))))

    tame_length : (at : ℕ) (k : ℕ → ℕ → Ans) → ((n q : ℕ) → P (k n q)) → P (length_then b e at k)
    unfolding length_then
    tame_length at k h = tame_lengths 65537 at k h

  ---------------------------------------------------------------- formats

  mutual
    unfolding read tame

    pub tame_read : (b : ℕ → ℕ) (f : Fmt) (x : Ctx) (e at : ℕ) → tame kind f ≡ true → P (read f x b e at)
    tame_read b (num t lo hi) x e at h = tame_pull b e at _ _ λ v. fine _ _ _
    tame_read b (listed t hi xs) x e at h = tame_pull b e at _ _ λ v. fine _ _ _
    tame_read b (name t hi) x e at h = tame_pull b e at _ _ λ v. tame_guard _ _ _ _ (fine _ _ _)
    tame_read b (text t n c lo hi) x e at h = tame_sized b e at lo hi _ λ k q. tame_letters b e _ n k q _ λ p. fine _ _ _
    tame_read b (span t w lo hi) x e at h = tame_sized b e at lo hi _ λ k q. tame_pull b e q _ _ λ _. fine _ _ _
    tame_read b (any_span t w) x e at h = tame_length b e at _ λ k q. tame_pull b e q _ _ λ _. fine _ _ _
    tame_read b (skipped m) x e at h = keeps.keeps_then _ _ (fine _ _ _) (λ p. tame_length b e p _ λ k q. tame_pull b e q _ _ λ _. fine _ _ _)
    tame_read b (small m t) x e at h =
        keeps.keeps_then _ _ (fine _ _ _) (λ p. tame_pull b e p 1 _ λ y. tame_fork y _ _ (tame_pull b e (p + 1) 6 _ λ v. fine _ _ _) (tame_length b e (p + 1) _ λ k q. tame_pull b e q _ _ λ _. fine _ _ _))
    tame_read b null x e at h = fine _ _ _
    tame_read b (noted t v s f) x e at h = keeps.keeps_then _ _ (fine _ _ _) (λ p. tame_read b f x e p h)
    tame_read b (placed t f) x e at h = keeps.keeps_then _ _ (fine _ _ _) (λ p. tame_read b f x e p h)
    tame_read b (marked m) x e at h = fine _ _ _
    tame_read b (refuse w m) x e at h = keeps.keeps-stop w at [] m h
    tame_read b (element f) x e at h = tame_read b f (x.1, x.1) e at h
    tame_read b (ext f g) x e at h =
        let z = both (tame kind f) (tame kind g) h in
        tame_pull b e at 1 _ λ y. tame_fork y _ _ (tame_read b f x e (at + 1) z.0) (keeps.keeps_then _ _ (fine _ _ _) (λ p. tame_read b g x e p z.1))
    tame_read b (seq fs) x e at h = tame_fetch b e at (flags fs) _ _ (short_of 1 _ _ _) λ _. keeps.keeps_then _ _ (fine _ _ _) (λ p. tame-fields b fs x e at p h)
    tame_read b (loose fs) x e at h =
        let z = both kind.looses (tame_fields kind fs) h in
        tame_fetch b e at (flags fs) _ _ (keeps.keeps-late z.0 _ _ _ (tame-fields (within b e) fs x e at (at + (e - at)) z.1)) λ _. keeps.keeps_then _ _ (fine _ _ _) (λ p. tame-fields b fs x e at p z.1)
    tame_read b (choice t fs) x e at h = tame_pull b e at _ _ λ i. keeps.keeps_then _ _ (fine _ _ _) (λ p. tame-choice b fs i x e p h)
    tame_read b (many lo hi f) x e at h = tame_sized b e at lo hi _ λ k q. tame_times _ (λ i p. tame_read b f (x.0, i) e p h) 1 k q
    tame_read b (inner f) x e at h = tame_length b e at _ λ k q. tame_pull b e q k _ λ _. keeps.keeps-close _ _
    tame_read b (soft m r f) x e at h = let z = both kind.softs (tame kind f) h in keeps.keeps_soft z.0 m r _ (tame_read b f x e at z.1)
    tame_read b (lax m j f) x e at h = let z = both kind.laxes (tame kind f) h in keeps.keeps_lax z.0 m j _ (tame_read b f x e at z.1)

    pub tame-fields : (b : ℕ → ℕ) (fs : Flds) (x : Ctx) (e q at : ℕ) → tame_fields kind fs ≡ true → P (read_fields fs x b e q at)
    tame-fields b end x e q at h = fine _ _ _
    tame-fields b (f ⨾ fs) x e q at h = let z = both (tame kind f) (tame_fields kind fs) h in keeps.keeps_then _ _ (tame_read b f x e at z.0) (λ p. tame-fields b fs x e q p z.1)
    tame-fields b (f ⨾? fs) x e q at h =
        let z = both (tame kind f) (tame_fields kind fs) h in
        tame_fork (b q) _ _ (tame-fields b fs x e (suc q) at z.1) (keeps.keeps_then _ _ (tame_read b f x e at z.0) (λ p. tame-fields b fs x e (suc q) p z.1))
    tame-fields b (or_note t v s f fs) x e q at h =
        let z = both (tame kind f) (tame_fields kind fs) h in
        tame_fork (b q) _ _ (keeps.keeps_then _ _ (fine _ _ _) (λ p. tame-fields b fs x e (suc q) p z.1)) (keeps.keeps_then _ _ (tame_read b f x e at z.0) (λ p. tame-fields b fs x e (suc q) p z.1))
    tame-fields b (unread t fs) x e q at h = tame_fork (b q) _ _ (tame-fields b fs x e (suc q) at h) (keeps.keeps_then _ _ (fine _ _ _) (λ p. tame-fields b fs x e (suc q) p h))

    pub tame-choice : (b : ℕ → ℕ) (fs : Alts) (i : ℕ) (x : Ctx) (e at : ℕ) → tame_choice kind fs ≡ true → P (read_choice fs i x b e at)
    tame-choice b none_left i x e at h = broken _ _ _
    tame-choice b (f ∥ fs) zero x e at h = let z = both (tame kind f) (tame_choice kind fs) h in tame_read b f x e at z.0
    tame-choice b (f ∥ fs) (suc i) x e at h = let z = both (tame kind f) (tame_choice kind fs) h in tame-choice b fs i x e at z.1
