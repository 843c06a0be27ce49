-- Records of which each span has its bits behind the place of its field, or there; and the answers that tell such records.
use mathlib.Core.Path.{◌≡◌, refl}
use mathlib.Core.Bool.{Bool, true, false, cond, not, ◌&&◌, ◌||◌}
use mathlib.Core.List.{List, [], ◌∷◌, ◌++◌}
use Prim.Native.Nat.{ℕ, zero, suc, ◌+◌, ◌-◌, ◌*◌, ◌/◌, ◌≤◌}
use native.Mathlib.Omega.{arith}
use lib.Dec.{leb}
use lib.ListN.{length, drop}
use borrow.Author.Tests.{le-leb}
use Rattle.x691.specs.Bits.{uint}
use Rattle.atn.specs.Format.{Letters, first, numeric, out, bad, lack, quit}
use Rattle.atn.specs.Reading.{Rec, rec, Ans, ok, past, stop, glue, late, then, times, fork, guard, fetch, pull, sized, letters, packs, pack, coded, spaced, none_above, lettered, spanned, kept, short, long, fragment, lengths, close, shut, softly, pass_over, laxly, give_up}
use Rattle.atn.proofs.Inverse.{both}
use Rattle.atn.proofs.Places.{tells}
use Rattle.record_lists.specs.Kinds.{span_tag}
use Rattle.screen.specs.Placed.{begins}

unfoldable pub begun : List Rec → Bool
begun [] = true
begun (x ∷ R) = begins x && begun R

begun-append : (R S : List Rec) → begun R ≡ true → begun S ≡ true → begun (R ++ S) ≡ true
unfolding begun
begun-append [] S h g = g
begun-append (x ∷ R) S h g = let k = both (begins x) (begun R) h in rw k.0 (begun-append R S k.1 g)

-- a record that is no span
abbrev Other : ℕ → Type 0
Other t = not (span_tag t) ≡ true

pub one-begun : (t m v s q : ℕ) → Other t → begun (rec t m v s q ∷ []) ≡ true
unfolding begun begins
one-begun t m v s q h = rw h refl

packs-begun : (t m q n k : ℕ) (cs : List ℕ) → Other t → begun (packs t m q n k cs) ≡ true
unfolding begun begins packs
packs-begun t m q n zero cs h = refl
packs-begun t m q n (suc k) cs h = rw h (packs-begun t m q n k (drop 8 cs) h)

pack-begun : (t m q : ℕ) (cs : List ℕ) → Other t → begun (pack t m q cs) ≡ true
unfolding pack
pack-begun t m q cs h = packs-begun t m q (length cs) ((length cs + 7) / 8) cs h

-- the second text of a satellite channel has a tag of its own
abbrev pub letters_apart : Letters → Bool
letters_apart (first c) = true
letters_apart (numeric v) = not (span_tag v)

pub text-begun : (t : ℕ) (c : Letters) (m q : ℕ) (us : List ℕ) → Other t → letters_apart c ≡ true → begun (lettered t c m q us) ≡ true
unfolding begun
text-begun t (first c) m q us h g = pack-begun t m q (coded c us) h
text-begun t (numeric v) m q us h g = begun-append (pack t m q (coded 48 us)) _ (pack-begun t m q (coded 48 us) h) (go (none_above 10 us))
  where
    go : (y : Bool) → begun (cond y (pack v m q (spaced us)) []) ≡ true
    go true = pack-begun v m q (spaced us) g
    go false = refl

or-true : (b : Bool) → (b || true) ≡ true
or-true true = refl
or-true false = refl

pub span-begun : (t m at q n : ℕ) → at ≤ q → begun (spanned t m at q n) ≡ true
unfolding begun begins spanned
span-begun t m at q zero l = refl
span-begun t m at q (suc n) l = rw (le-leb at q l, or-true (not (span_tag t))) refl

---------------------------------------------------------------- answers

abbrev pub Begun : Ans → Type 0
Begun a = begun (tells a) ≡ true

begun-glue : (R : List Rec) (m : ℕ) (a : Ans) → begun R ≡ true → Begun a → Begun (glue R m a)
unfolding glue tells
begun-glue R m (ok p S n) h g = begun-append R S h g
begun-glue R m (past k p S n) h g = begun-append R S h g
begun-glue R m (stop w p S n) h g = begun-append R S h g

pub begun-late : (k : ℕ) (R : List Rec) (m : ℕ) (a : Ans) → begun R ≡ true → Begun a → Begun (late k R m a)
unfolding late tells
begun-late k R m (ok p S n) h g = begun-append R S h g
begun-late k R m (past l p S n) h g = begun-append R S h g
begun-late k R m (stop w p S n) h g = begun-append R S h g

pub begun-then : (a : Ans) (k : ℕ → Ans) → Begun a → ((q : ℕ) → Begun (k q)) → Begun (then a k)
unfolding then tells
begun-then (ok q R m) k h g = begun-glue R m (k q) h (g q)
begun-then (past l q R m) k h g = begun-late l R m (k q) h (g q)
begun-then (stop w q R m) k h g = h

-- marks alone
pub begun-behind : (q m : ℕ) (k : ℕ → Ans) → Begun (k q) → Begun (then (ok q [] m) k)
unfolding then begun
begun-behind q m k h = begun-glue [] m (k q) refl h

pub begun-fork : (x : ℕ) (y z : Ans) → Begun y → Begun z → Begun (fork x y z)
unfolding fork
begun-fork zero y z h g = h
begun-fork (suc x) y z h g = g

pub begun-guard : (t : Bool) (p m : ℕ) (z : Ans) → Begun z → Begun (guard t p m z)
unfolding guard tells begun
begun-guard true p m z h = h
begun-guard false p m z h = refl

begun_kept : (r : Bool) (R : List Rec) → begun R ≡ true → begun (kept r R) ≡ true
unfolding kept begun
begun_kept true R h = h
begun_kept false R h = refl

pub begun_soft : (k : ℕ) (r : Bool) (a : Ans) → Begun a → Begun (softly k r a)
unfolding softly pass_over tells
begun_soft k r (ok p R m) h = h
begun_soft k r (past l p R m) h = h
begun_soft k r (stop (out l) p R m) h = begun_kept r R h
begun_soft k r (stop bad p R m) h = begun_kept r R h
begun_soft k r (stop lack p R m) h = h
begun_soft k r (stop (quit o j l) p R m) h = h

pub begun_lax : (k : ℕ) (j : Bool) (a : Ans) → Begun a → Begun (laxly k j a)
unfolding laxly give_up tells begun
begun_lax k j (ok p R m) h = h
begun_lax k j (past l p R m) h = h
begun_lax k j (stop (out l) p R m) h = refl
begun_lax k j (stop bad p R m) h = refl
begun_lax k j (stop lack p R m) h = h
begun_lax k j (stop (quit o i l) p R m) h = h

pub begun-close : (q : ℕ) (a : Ans) → Begun a → Begun (close q a)
unfolding close shut tells
begun-close q (ok p R m) h = h
begun-close q (past k p R m) h = h
begun-close q (stop (out k) p R m) h = h
begun-close q (stop bad p R m) h = h
begun-close q (stop lack p R m) h = h
begun-close q (stop (quit o false k) p R m) h = h
begun-close q (stop (quit o true k) p R m) h = h

---------------------------------------------------------------- reads

pub begun-times : (r : ℕ → ℕ → Ans) → ((i q : ℕ) → Begun (r i q)) → (i n at : ℕ) → Begun (times r i n at)
unfolding times tells begun
begun-times r h i zero at = refl
begun-times r h i (suc n) at = begun-then (r i at) _ (h i at) (λ q. begun-times r h (suc i) n q)

module _ (b : ℕ → ℕ) (e : ℕ) where
  pub begun-fetch : (at n : ℕ) (k : ℕ → Ans) (z : Ans) → Begun z → ((v : ℕ) → Begun (k v)) → Begun (fetch b e at n k z)
  unfolding fetch
  begun-fetch at n k z x h = go (leb (at + n) e)
    where
      go : (t : Bool) → Begun (cond t (k (uint b at n)) z)
      go true = h (uint b at n)
      go false = x

  pub begun-pull : (at n : ℕ) (k : ℕ → Ans) → ((v : ℕ) → Begun (k v)) → Begun (pull b e at n k)
  unfolding pull tells begun
  begun-pull at n k h = begun-fetch at n k _ refl h

  pub begun_sized : (at lo hi : ℕ) (k : ℕ → ℕ → Ans) → ((i q : ℕ) → at ≤ q → Begun (k i q)) → Begun (sized b e at lo hi k)
  unfolding sized
  begun_sized at lo hi k h = begun-pull at _ _ λ v. begun-behind _ _ _ (h (lo + v) _ (omega arith))

  pub begun-letters : (w n i at : ℕ) (k : ℕ → Ans) → ((q : ℕ) → Begun (k q)) → Begun (letters b e w n i at k)
  unfolding letters
  begun-letters w n zero at k h = h at
  begun-letters w n (suc i) at k h = begun-pull at w _ λ u. begun-behind _ _ _ (begun-letters w n i (at + w) k h)

  pub begun-lengths : (g at : ℕ) (k : ℕ → ℕ → Ans) → ((n q : ℕ) → at ≤ q → Begun (k n q)) → Begun (lengths g b e at k)
  unfolding lengths short long fragment tells begun
  begun-lengths zero at k h = refl
  begun-lengths (suc g) at k h =
      begun-pull at 1 _ λ x.
      begun-fork x _ _ (begun-pull (at + 1) 7 _ λ n. h n (at + 8) (omega arith))
      (begun-pull (at + 1) 1 _ λ y.
      begun-fork y _ _ (begun-pull (at + 2) 14 _ λ n. begun-behind (at + 16) _ _ (h n (at + 16) (omega arith)))
      (begun-pull (at + 2) 6 _ λ m.
      begun-guard _ (at + 8) 0 _ (begun-guard _ (at + 8) 0 _ (begun-behind (at + 8) _ _ (begun-lengths g (at + 8) _ λ n p l. h (m * 16384 + n) p (omega arith))))))
