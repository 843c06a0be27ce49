-- What a walk behind the records of an answer may be, and how it goes through the steps of a reading.
use mathlib.Core.Path.{◌≡◌, refl}
use mathlib.Core.Bool.{Bool, true, false}
use mathlib.Core.List.{List, [], ◌∷◌, ◌++◌}
use Prim.Native.Nat.{ℕ, zero, suc, ◌+◌, ◌-◌, ◌*◌, ◌^◌, ◌≤◌, ◌<◌}
use Rattle.x691.specs.Bits.{uint}
use Rattle.x691.specs.Encoding.{width}
use Rattle.x691.proofs.BitLaws.{uint-lt}
use Rattle.atn.specs.Format.{out, bad, lack, quit}
use Rattle.atn.specs.Reading.{Rec, Ans, ok, past, stop, glue, tardy, late, then, fork, guard, fetch, pull, sized, letters, short, long, fragment, lengths, shut, close, kept, pass_over, softly, give_up, laxly}
use Rattle.atn.proofs.Steps.{fetch_go, fetch_no}
use Rattle.atn.proofs.Reach.{split}
use Rattle.record_grammar.specs.declared.Walk.{Walk}
use Rattle.record_views.specs.View.{fetched}
use Rattle.record_grammar.specs.Heard.{walked}
use Rattle.record_grammar.specs.Rows.{stepped}
use Rattle.record_grammar.specs.Table.{table}

pub walked-append : (s : Walk) (R S : List Rec) → walked table s (R ++ S) ≡ walked table (walked table s R) S
unfolding walked
walked-append s [] S = refl
walked-append s (r ∷ R) S = walked-append (stepped table s (fetched r)) R S

-- behind an answer that goes on, one that is given up, and one that fails
unfoldable pub Ends : (Walk → Type 0) → (Walk → Type 0) → (Walk → Type 0) → Walk → Ans → Type 0
Ends N G F s (ok p R m) = N (walked table s R)
Ends N G F s (past k p R m) = N (walked table s R)
Ends N G F s (stop (out k) p R m) = F (walked table s R)
Ends N G F s (stop bad p R m) = F (walked table s R)
Ends N G F s (stop lack p R m) = F (walked table s R)
Ends N G F s (stop (quit o j k) p R m) = G (walked table s R)

---------------------------------------------------------------- answers

pub ends_map : (N G F N' G' F' : Walk → Type 0) (s : Walk) → ((w : Walk) → N w → N' w) → ((w : Walk) → G w → G' w) → ((w : Walk) → F w → F' w) → (a : Ans) → Ends N G F s a → Ends N' G' F' s a
unfolding Ends
ends_map N G F N' G' F' s n g f (ok p R m) h = n _ h
ends_map N G F N' G' F' s n g f (past k p R m) h = n _ h
ends_map N G F N' G' F' s n g f (stop (out k) p R m) h = f _ h
ends_map N G F N' G' F' s n g f (stop bad p R m) h = f _ h
ends_map N G F N' G' F' s n g f (stop lack p R m) h = f _ h
ends_map N G F N' G' F' s n g f (stop (quit o j k) p R m) h = g _ h

module _ (N G F : Walk → Type 0) where
  pub ends_ok : (s : Walk) (p : ℕ) (R : List Rec) (m : ℕ) → N (walked table s R) → Ends N G F s (ok p R m)
  unfolding Ends
  ends_ok s p R m h = h

  pub ends_out : (s : Walk) (k p : ℕ) (R : List Rec) (m : ℕ) → F (walked table s R) → Ends N G F s (stop (out k) p R m)
  unfolding Ends
  ends_out s k p R m h = h

  pub ends_bad : (s : Walk) (p : ℕ) (R : List Rec) (m : ℕ) → F (walked table s R) → Ends N G F s (stop bad p R m)
  unfolding Ends
  ends_bad s p R m h = h

  pub ends_glue : (s : Walk) (R : List Rec) (m : ℕ) (a : Ans) → Ends N G F (walked table s R) a → Ends N G F s (glue R m a)
  unfolding glue Ends
  ends_glue s R m (ok p S n) h = rw walked-append h
  ends_glue s R m (past k p S n) h = rw walked-append h
  ends_glue s R m (stop (out k) p S n) h = rw walked-append h
  ends_glue s R m (stop bad p S n) h = rw walked-append h
  ends_glue s R m (stop lack p S n) h = rw walked-append h
  ends_glue s R m (stop (quit o j k) p S n) h = rw walked-append h

  pub ends_late : (s : Walk) (k : ℕ) (R : List Rec) (m : ℕ) (a : Ans) → Ends N G F (walked table s R) a → Ends N G F s (late k R m a)
  unfolding late tardy Ends
  ends_late s k R m (ok p S n) h = rw walked-append h
  ends_late s k R m (past l p S n) h = rw walked-append h
  ends_late s k R m (stop (out l) p S n) h = rw walked-append h
  ends_late s k R m (stop bad p S n) h = rw walked-append h
  ends_late s k R m (stop lack p S n) h = rw walked-append h
  ends_late s k R m (stop (quit o j l) p S n) h = rw walked-append h

  pub ends_then : (M : Walk → Type 0) (s : Walk) (a : Ans) (k : ℕ → Ans) → Ends M G F s a → ((w : Walk) (p : ℕ) → M w → Ends N G F w (k p)) → Ends N G F s (then a k)
  unfolding then Ends
  ends_then M s (ok p R m) k h g = ends_glue s R m (k p) (g _ p h)
  ends_then M s (past l p R m) k h g = ends_late s l R m (k p) (g _ p h)
  ends_then M s (stop (out l) p R m) k h g = h
  ends_then M s (stop bad p R m) k h g = h
  ends_then M s (stop lack p R m) k h g = h
  ends_then M s (stop (quit o j l) p R m) k h g = h

  -- records first, and then the rest
  pub ends_behind : (s : Walk) (q : ℕ) (R : List Rec) (m : ℕ) (k : ℕ → Ans) → Ends N G F (walked table s R) (k q) → Ends N G F s (then (ok q R m) k)
  unfolding then
  ends_behind s q R m k h = ends_glue s R m (k q) h

  pub ends_fork : (s : Walk) (x : ℕ) (y z : Ans) → Ends N G F s y → Ends N G F s z → Ends N G F s (fork x y z)
  unfolding fork
  ends_fork s zero y z h g = h
  ends_fork s (suc x) y z h g = g

  -- what is passed over: its records stay or go
  pub ends_soft : (M : Walk → Type 0) (s : Walk) (k : ℕ) (r : Bool) (a : Ans) → ((w : Walk) → M w → N w) → ((w : Walk) → F w → r ≡ true → N w) → (r ≡ false → N s) → Ends M G F s a → Ends N G F s (softly k r a)
  unfolding softly pass_over kept walked Ends
  ends_soft M s k r (ok p R m) n f d h = n _ h
  ends_soft M s k r (past l p R m) n f d h = n _ h
  ends_soft M s k true (stop (out l) p R m) n f d h = f _ h refl
  ends_soft M s k false (stop (out l) p R m) n f d h = d refl
  ends_soft M s k true (stop bad p R m) n f d h = f _ h refl
  ends_soft M s k false (stop bad p R m) n f d h = d refl
  ends_soft M s k r (stop lack p R m) n f d h = h
  ends_soft M s k r (stop (quit o j l) p R m) n f d h = h

  pub ends_lax : (H : Walk → Type 0) (s : Walk) (k : ℕ) (j : Bool) (a : Ans) → ((w : Walk) → H w → G w) → G s → Ends N H F s a → Ends N G F s (laxly k j a)
  unfolding laxly give_up walked Ends
  ends_lax H s k j (ok p R m) g d h = h
  ends_lax H s k j (past l p R m) g d h = h
  ends_lax H s k j (stop (out l) p R m) g d h = d
  ends_lax H s k j (stop bad p R m) g d h = d
  ends_lax H s k j (stop lack p R m) g d h = h
  ends_lax H s k j (stop (quit o i l) p R m) g d h = g _ h

  pub ends_close : (M H : Walk → Type 0) (s : Walk) (q : ℕ) (a : Ans) → ((w : Walk) → M w → N w) → ((w : Walk) → H w → N w) → Ends M H F s a → Ends N G F s (close q a)
  unfolding close shut Ends
  ends_close M H s q (ok p R m) n g h = n _ h
  ends_close M H s q (past k p R m) n g h = n _ h
  ends_close M H s q (stop (out k) p R m) n g h = h
  ends_close M H s q (stop bad p R m) n g h = h
  ends_close M H s q (stop lack p R m) n g h = h
  ends_close M H s q (stop (quit o false k) p R m) n g h = g _ h
  ends_close M H s q (stop (quit o true k) p R m) n g h = g _ h

  ---------------------------------------------------------------- reads that tell nothing: where they fail, the walk stands as before

  module _ (s : Walk) (b : ℕ → ℕ) (bits : (i : ℕ) → b i < 2) (e : ℕ) (fails : F s) where
    pub ends_guard : (t : Bool) (p m : ℕ) (z : Ans) → (t ≡ true → Ends N G F s z) → Ends N G F s (guard t p m z)
    unfolding guard walked Ends
    ends_guard true p m z h = h refl
    ends_guard false p m z h = fails

    pub ends_fetch : (at n : ℕ) (k : ℕ → Ans) (z : Ans) → Ends N G F s z → ((v : ℕ) → v < 2 ^ n → at + n ≤ e → Ends N G F s (k v)) → Ends N G F s (fetch b e at n k z)
    ends_fetch at n k z x h = split (at + n) e (λ l. rw (fetch_go b e at n k z l) (h (uint b at n) (uint-lt b bits at n) l)) (λ l. rw (fetch_no b e at n k z l) x)

    pub ends_pull : (at n : ℕ) (k : ℕ → Ans) → ((v : ℕ) → v < 2 ^ n → at + n ≤ e → Ends N G F s (k v)) → Ends N G F s (pull b e at n k)
    unfolding pull
    ends_pull at n k h = ends_fetch at n k _ (ends_out s _ at [] 0 (unfold walked in fails)) h

    -- marks alone
    quiet : (q m : ℕ) (k : ℕ → Ans) → Ends N G F s (k q) → Ends N G F s (then (ok q [] m) k)
    unfolding walked
    quiet q m k h = ends_behind s q [] m k h

    pub ends_sized : (at lo hi : ℕ) (k : ℕ → ℕ → Ans) → ((v q : ℕ) → v < 2 ^ width (hi - lo) → Ends N G F s (k (lo + v) q)) → Ends N G F s (sized b e at lo hi k)
    unfolding sized
    ends_sized at lo hi k h = ends_pull at _ _ λ v l _. quiet _ _ _ (h v _ l)

    pub ends_letters : (w n i at : ℕ) (k : ℕ → Ans) → ((q : ℕ) → Ends N G F s (k q)) → Ends N G F s (letters b e w n i at k)
    unfolding letters
    ends_letters w n zero at k h = h at
    ends_letters w n (suc i) at k h = ends_pull at w _ λ u _ _. quiet _ _ _ (ends_letters w n i (at + w) k h)

    pub ends_lengths : (g at : ℕ) (k : ℕ → ℕ → Ans) → ((n q : ℕ) → Ends N G F s (k n q)) → Ends N G F s (lengths g b e at k)
    unfolding lengths short long fragment
    ends_lengths zero at k h = ends_bad s at [] 0 (unfold walked in fails)
    ends_lengths (suc g) at k h =
        ends_pull at 1 _ λ x _ _.
        ends_fork s x _ _ (ends_pull (at + 1) 7 _ λ n _ _. h n (at + 8))
        (ends_pull (at + 1) 1 _ λ y _ _.
        ends_fork s y _ _ (ends_pull (at + 2) 14 _ λ n _ _. quiet _ _ _ (h n (at + 16)))
        (ends_pull (at + 2) 6 _ λ m _ _. ends_guard _ _ _ _ λ _. ends_guard _ _ _ _ λ _. quiet _ _ _ (ends_lengths g (at + 8) _ λ n p. h (m * 16384 + n) p)))
