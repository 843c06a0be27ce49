-- What a reading of frames owes: a closed reply hangs on the bits up to its reach, cut short it is open, and the reach is within the frame. Proved of each format, and of `parse_apdu`'s combination of two readings.
use mathlib.Core.Path.{◌≡◌, refl, sym, ap, ◌∙◌}
use mathlib.Core.Bool.{Bool, true, false, not}
use mathlib.Core.List.{List}
use Prim.Native.Nat.{ℕ, ◌*◌, ◌≤◌, ◌<◌, max}
use native.Mathlib.Omega.{arith}
use lib.ListN.{length}
use Rattle.x691.specs.Bits.{bit_of}
use Rattle.atn.specs.Format.{Fmt, Why, out, bad, lack, quit}
use Rattle.atn.specs.Reading.{Ans, ok, past, stop, read}
use Rattle.atn.specs.Entries.{Reply, accept, ran_out, badly, unsupplied, stopped, reply, read_frame, after_out, after_bad, or_else}
use Rattle.atn.specs.Demands.{Agree}
use Rattle.atn.proofs.Reach.{reach, opens, is_open, split, in_window}
use Rattle.atn.proofs.SameBits.{agree_le}
use Rattle.atn.proofs.Stable.{stable, cut_short_lem}

unfoldable pub reply_reach : Reply → ℕ
reply_reach (accept c p m R) = p
reply_reach (ran_out p k) = p
reply_reach (badly p) = p
reply_reach (unsupplied p) = p

-- whole, badly formed or unsupplied: more bits change nothing
unfoldable pub closed : Reply → Bool
closed (accept c p m R) = not c
closed (ran_out p k) = false
closed (badly p) = true
closed (unsupplied p) = true

pub record Keeps (F : List ℕ → Reply) : Type 0 where
  pub again : (s t : List ℕ) → closed (F s) ≡ true → Agree (bit_of s) (bit_of t) (reply_reach (F s)) → reply_reach (F s) ≤ length t * 8 → F t ≡ F s
  pub short : (s t : List ℕ) → closed (F s) ≡ true → length t * 8 < reply_reach (F s) → Agree (bit_of s) (bit_of t) (length t * 8) → closed (F t) ≡ false
  pub inside : (s : List ℕ) → reply_reach (F s) ≤ length s * 8

---------------------------------------------------------------- a format

pub reply-is : (a : Ans) → (reply_reach (reply a) ≡ reach a) × (closed (reply a) ≡ not (is_open a))
unfolding reply reply_reach closed reach is_open stopped opens
reply-is (ok p R m) = (refl, refl)
reply-is (past k p R m) = (refl, refl)
reply-is (stop w p R m) = go w
  where
    go : (w : Why) → (reply_reach (stopped w p R m) ≡ p) × (closed (stopped w p R m) ≡ not (opens w))
    go (out k) = (refl, refl)
    go bad = (refl, refl)
    go lack = (refl, refl)
    go (quit o j k) = (refl, refl)

not_flip : (t u : Bool) → t ≡ not u → t ≡ true → u ≡ false
not_flip t true h q = let z : ◌≡◌ {A = ℕ} 0 1 = cc in absurd (omega arith)
not_flip t false h q = refl

pub format_keeps : (f : Fmt) → Keeps (λ s. read_frame f s)
unfolding read_frame
format_keeps f =
    record {
      again = λ s t q a l.
          let x : Ans = read f (0, 0) (bit_of s) (length s * 8) 0 in
          let i = reply-is x in
          ap reply (stable f (0, 0) (bit_of s) (bit_of t) (length s * 8) (length t * 8) 0 (omega arith) (not_flip _ (is_open x) i.1 q) (agree_le a (omega (arith, i.0))) (omega (arith, i.0)));
      short = λ s t q l a.
          let x : Ans = read f (0, 0) (bit_of s) (length s * 8) 0 in
          let y : Ans = read f (0, 0) (bit_of t) (length t * 8) 0 in
          let i = reply-is x in
          (reply-is y).1 ∙ ap not (cut_short_lem f (0, 0) (bit_of s) (bit_of t) (length s * 8) (length t * 8) 0 (omega arith) (not_flip _ (is_open x) i.1 q) (omega (arith, i.0)) a);
      inside = λ s. omega (arith, (reply-is (read f (0, 0) (bit_of s) (length s * 8) 0)).0, in_window (bit_of s) f (0, 0) (length s * 8) 0 (omega arith));
    }

---------------------------------------------------------------- two readings combined

pub out_is : (p k : ℕ) (u : Reply) → (reply_reach (after_out p k u) ≡ max p (reply_reach u)) × (closed (after_out p k u) ≡ false)
unfolding after_out reply_reach closed
out_is p k (accept c q m R) = (refl, refl)
out_is p k (ran_out q l) = (refl, refl)
out_is p k (badly q) = (refl, refl)
out_is p k (unsupplied q) = (refl, refl)

pub bad-is : (p : ℕ) (u : Reply) → (reply_reach (after_bad p u) ≡ max p (reply_reach u)) × (closed (after_bad p u) ≡ closed u)
unfolding after_bad reply_reach closed
bad-is p (accept c q m R) = (refl, refl)
bad-is p (ran_out q l) = (refl, refl)
bad-is p (badly q) = (refl, refl)
bad-is p (unsupplied q) = (refl, refl)

-- an open downlink reading leaves the whole open
open-first : (d u : Reply) → closed d ≡ false → closed (or_else d u) ≡ false
unfolding or_else closed
open-first (accept c p m R) u h = h
open-first (ran_out p k) u h = (out_is p k u).1
open-first (badly p) u h = let z : ◌≡◌ {A = ℕ} 0 1 = cc in absurd (omega arith)
open-first (unsupplied p) u h = h

module _ (D U : List ℕ → Reply) (kd : Keeps D) (ku : Keeps U) where
  both_again : (s t : List ℕ) (d : Reply) → D s ≡ d → closed (or_else d (U s)) ≡ true → Agree (bit_of s) (bit_of t) (reply_reach (or_else d (U s))) → reply_reach (or_else d (U s)) ≤ length t * 8
      → or_else (D t) (U t) ≡ or_else d (U s)
  unfolding or_else closed reply_reach
  both_again s t (accept c p m R) x q a l =
      let y : D t ≡ D s = kd.again s t (rw x q) (rw x a) (rw x l) in
      rw (y, x)
  both_again s t (unsupplied p) x q a l =
      let y : D t ≡ D s = kd.again s t (rw x refl) (rw x a) (rw x l) in
      rw (y, x)
  both_again s t (badly p) x q a l =
      let i = bad-is p (U s) in
      let r : reply_reach (after_bad p (U s)) ≡ max p (reply_reach (U s)) = i.0 in
      let y : D t ≡ D s = kd.again s t (rw x refl) (rw x (agree_le a (omega arith))) (rw x (omega arith)) in
      let z : U t ≡ U s = ku.again s t (sym i.1 ∙ q) (agree_le a (omega arith)) (omega arith) in
      rw (y, x, z)
  both_again s t (ran_out p k) x q a l = let z : true ≡ false = sym q ∙ (out_is p k (U s)).1 in let y : ◌≡◌ {A = ℕ} 0 1 = cc in absurd (omega arith)

  both_short : (s t : List ℕ) (d : Reply) → D s ≡ d → closed (or_else d (U s)) ≡ true → length t * 8 < reply_reach (or_else d (U s)) → Agree (bit_of s) (bit_of t) (length t * 8) → closed (or_else (D t) (U t)) ≡ false
  unfolding or_else closed reply_reach
  both_short s t (accept c p m R) x q l a = open-first (D t) (U t) (kd.short s t (rw x q) (rw x l) a)
  both_short s t (unsupplied p) x q l a = open-first (D t) (U t) (kd.short s t (rw x refl) (rw x l) a)
  both_short s t (badly p) x q l a =
      let i = bad-is p (U s) in
      let r : reply_reach (after_bad p (U s)) ≡ max p (reply_reach (U s)) = i.0 in
      split p (length t * 8)
      (λ h.
      let y : D t ≡ badly p = kd.again s t (rw x refl) (rw x (agree_le a h)) (rw x h) ∙ x in
      rw y ((bad-is p (U t)).1 ∙ ku.short s t (sym i.1 ∙ q) (omega arith) a))
      (λ h. open-first (D t) (U t) (kd.short s t (rw x refl) (rw x h) a))
  both_short s t (ran_out p k) x q l a = let z : true ≡ false = sym q ∙ (out_is p k (U s)).1 in let y : ◌≡◌ {A = ℕ} 0 1 = cc in absurd (omega arith)

  both_inside : (s : List ℕ) (d : Reply) → D s ≡ d → reply_reach (or_else d (U s)) ≤ length s * 8
  unfolding or_else reply_reach
  both_inside s (accept c p m R) x = (let y = kd.inside s in rw x at y)
  both_inside s (unsupplied p) x = (let y = kd.inside s in rw x at y)
  both_inside s (badly p) x = let y : p ≤ length s * 8 = rw x at (kd.inside s) in omega (arith, (bad-is p (U s)).0, ku.inside s)
  both_inside s (ran_out p k) x = let y : p ≤ length s * 8 = rw x at (kd.inside s) in omega (arith, (out_is p k (U s)).0, ku.inside s)

  pub both_keep : Keeps (λ s. or_else (D s) (U s))
  both_keep =
      record {
        again = λ s t q a l. both_again s t (D s) refl q a l;
        short = λ s t q l a. both_short s t (D s) refl q l a;
        inside = λ s. both_inside s (D s) refl;
      }
