-- The number in front, and the places behind it.
use mathlib.Core.Path.{◌≡◌, refl, ap, ◌∙◌}
use mathlib.Core.Bool.{Bool, cond, ◌&&◌}
use mathlib.Core.List.{List, [], ◌∷◌}
use mathlib.Core.Option.{none, some}
use Prim.Native.Nat.{ℕ, ◌+◌, ◌*◌, ◌-◌, ◌≤◌, ◌<◌}
use native.Mathlib.Nat.{le_refl}
use native.Mathlib.Omega.{arith}
use lib.Dec.{leb, eqb}
use lib.ListN.{length, take, drop, get_or, set, replicate, length-drop, length-replicate}
use lib.Seq.{take_all}
use borrow.Author.Tests.{le-leb, lt-leb, lt-ltb, le-ltb, eq-eqb, ne_eqb}
use Rattle.book_entries.specs.Book.{picture, laid, entries, listed}
use Rattle.book_entries.proofs.Listed.{zeros_none}
use Rattle.book_changes.proofs.LaidLaws.{drop_zeros}
use Rattle.std.specs.Prelude.{Ok, Err}
use Rattle.counted_books.specs.declared.Refusal.TheVariants.{NotABook}
use Rattle.counted_books.specs.Counted.{high, low, left, room, shown, held, recounted, emptied, free}

-- what is lent of a slice from its third word on
abbrev pub lent : List ℕ → List ℕ
lent w = take (length w - 2) (drop 2 w)

pub lent_is : (w : List ℕ) → lent w ≡ drop 2 w
lent_is w = take_all (length w - 2) (drop 2 w) (simp length-drop (le_refl _))

-- a slice too short for a number
pub short-held : (w : List ℕ) → length w < 2 → held w ≡ none
unfolding held
short-held [] p = refl
short-held (h ∷ []) p = refl
short-held (h ∷ l ∷ w) p = absurd (omega arith)

pub short-free : (w : List ℕ) → length w < 2 → Err NotABook ≡ free w
unfolding free
short-free [] p = refl
short-free (h ∷ []) p = refl
short-free (h ∷ l ∷ w) p = absurd (omega arith)

-- the number k in front, and the room for as many names
kept : (w : List ℕ) {k : ℕ} → 2 ≤ length w → k ≡ get_or w 0 0 * 4294967296 + get_or w 1 0 → free w ≡ cond (leb k (room w)) (Ok k) (Err NotABook)
unfolding free
kept [] p e = absurd (omega arith)
kept (h ∷ []) p e = absurd (omega arith)
kept (h ∷ l ∷ w) p e = rw e

pub kept_free : (w : List ℕ) {k : ℕ} → 2 ≤ length w → k ≡ get_or w 0 0 * 4294967296 + get_or w 1 0 → k ≤ room w → Ok k ≡ free w
kept_free w {k} p e h = rw (kept w p e, le-leb k (room w) h)

pub wrong_free : (w : List ℕ) {k : ℕ} → 2 ≤ length w → k ≡ get_or w 0 0 * 4294967296 + get_or w 1 0 → room w < k → Err NotABook ≡ free w
wrong_free w {k} p e h = rw (kept w p e, lt-leb k (room w) h)

front : (w : List ℕ) {k : ℕ} → 2 ≤ length w → k ≡ left (drop 2 w) → held w ≡ cond (eqb (get_or w 0 0) (high k) && eqb (get_or w 1 0) (low k)) (listed (drop 2 w)) none
unfolding held
front [] p e = absurd (omega arith)
front (h ∷ []) p e = absurd (omega arith)
front (h ∷ l ∷ w) p e = rw e

stored : (w : List ℕ) {k : ℕ} → 2 ≤ length w → k ≡ left (drop 2 w) → set (set w 0 (high k)) 1 (low k) ≡ recounted w
unfolding recounted
stored [] p e = absurd (omega arith)
stored (h ∷ []) p e = absurd (omega arith)
stored (h ∷ l ∷ w) p e = rw e

-- the number k of the places that are free, and the words that stand for it
module _ (w : List ℕ) {k : ℕ} (p : 2 ≤ length w) (e : k ≡ left (lent w)) where
  judged : held w ≡ cond (eqb (get_or w 0 0) (high k) && eqb (get_or w 1 0) (low k)) (listed (drop 2 w)) none
  judged = front w p (e ∙ rw (lent_is w))

  pub wrong_high : {h : ℕ} → h ≡ get_or w 0 0 → (h ≡ high k → ⊥) → held w ≡ none
  wrong_high i n = judged ∙ rw (← i, ne_eqb _ (high k) n)

  module _ {h : ℕ} (i : h ≡ get_or w 0 0) (a : h ≡ high k) where
    pub wrong_low : {l : ℕ} → l ≡ get_or w 1 0 → (l ≡ low k → ⊥) → held w ≡ none
    wrong_low j n = judged ∙ rw (← i, ← j, eq-eqb h (high k) a, ne_eqb _ (low k) n)

    pub right : {l : ℕ} (r : Bool) → l ≡ get_or w 1 0 → l ≡ low k → listed (lent w) ≡ cond r (some (entries (lent w))) none → held w ≡ cond r (some (entries (drop 2 w))) none
    right {l} r j b s = judged ∙ rw (← i, ← j, eq-eqb h (high k) a, eq-eqb l (low k) b) (rw (lent_is w) at s)

  pub counted_anew : set (set w 0 (high k)) 1 (low k) ≡ recounted w
  counted_anew = stored w p (e ∙ rw (lent_is w))

-- an emptied slice of n words
module _ (n : ℕ) {w : List ℕ} (e : w ≡ replicate n 0) where
  pub emptied-short : length w < 2 → w ≡ emptied n
  unfolding emptied
  emptied-short p = let q : n < 2 = omega (arith, ap length e, length-replicate {A = ℕ} n 0) in rw (lt-ltb n 2 q) e

  pub emptied-long : {x : List ℕ} → 2 ≤ length w → x ≡ recounted w → x ≡ emptied n
  unfolding emptied recounted shown laid picture
  emptied-long p f =
      let q : 2 ≤ n = omega (arith, ap length e, length-replicate {A = ℕ} n 0) in
      let z : n - 2 - 0 * 4 ≡ n - 2 = omega arith in
      rw (f, e, le-ltb n 2 q, drop_zeros 2 n, zeros_none (n - 2), length-replicate {A = ℕ} (n - 2) 0, z)
