-- A slice is sound exactly if calls leave it: 18 is given for no other.
use mathlib.Core.Path.{◌≡◌, sym, ap, ◌∙◌}
use mathlib.Core.List.{List, [], ◌∷◌, ◌++◌}
use mathlib.Core.Option.{none, some}
use Prim.Native.Nat.{ℕ, ◌*◌, ◌/◌, ◌-◌, ◌≤◌}
use native.Mathlib.Omega.{arith}
use lib.ListN.{length, replicate}
use Rattle.book_entries.specs.declared.Entry.{Entry}
use Rattle.book_entries.specs.Book.{picture, laid}
use Rattle.counted_books.specs.Counted.{shown, held, emptied}
use Rattle.counted_books.proofs.Held.{holding, shown-length, held-shown}
use Rattle.book_lines.specs.Lines.{saved, InWords}
use Rattle.std.specs.Prelude.{Result}
use Rattle.loaded_books.specs.declared.Refusal.{Refusal}
use Rattle.loaded_books.specs.Loads.{load}
use Rattle.book_history.specs.History.{emptying, loading, after, run}
use Rattle.book_history.specs.Left.{Words, Left}
use Rattle.book_history.proofs.Kept.{no_entries, emptied-shown}
use Rattle.book_history.proofs.Histories.{after_any}
use Rattle.book_history.proofs.SameBook.{saved_loads}

-- the frame numbers are among the words
pictured : (E : List Entry) (z : List ℕ) → Words (picture E ++ z) → InWords E
unfolding picture
pictured [] z h = tt
pictured (e ∷ E) z h = (h.1.1.0, pictured E z h.1.1.1.1)

in_words : (n : ℕ) (E : List Entry) → Words (shown n E) → InWords E
unfolding shown laid
in_words n E h = pictured E (replicate (n - 2 - length E * 4) 0) h.1.1

-- a sound slice of 32-bit words
module _ (w : List ℕ) {E : List Entry} (narrow : Words w) (h : held w ≡ some E) where
  pub numbers : InWords E
  numbers = in_words (length w) E (rw (holding w h).is at narrow)

  loaded_empty : (load (emptied (length w)) (saved E)).1 ≡ w
  loaded_empty =
      let i = holding w h in
      let n = length w in
      let f = no_entries ((n - 2) / 4) in
      let l : length (emptied n) ≡ n = rw (emptied-shown n i.long) (shown-length n [] i.long f) in
      let s : held (emptied n) ≡ some [] = rw (emptied-shown n i.long) (held-shown n [] i.long f) in
      ap (λ (o : Result ℕ Refusal × List ℕ). o.1) (saved_loads E i.fits.orderly numbers (emptied n) s (rw l i.fits.few)) ∙ rw l (sym i.is)

  -- its own saved text, loaded into an emptied slice, leaves it
  pub sound-left : Left w
  unfolding run after
  sound-left = record { calls = loading (saved E) ∷ []; is = loaded_empty }

  -- and so into any slice that is emptied first
  pub from_any : (v : List ℕ) → length v ≡ length w → run v (emptying ∷ loading (saved E) ∷ []) ≡ w
  unfolding run after
  from_any v l = rw l loaded_empty

-- what calls leave is sound, if there is room for the number
pub left-sound : (w : List ℕ) → 2 ≤ length w → Left w → (E : List Entry) × (held w ≡ some E)
left-sound w long l = let k = after_any (length w) long l.calls in (_, rw l.is at k.holds)

-- so 18 is for slices that no calls leave
pub refused-not-left : (w : List ℕ) → 2 ≤ length w → held w ≡ none → Left w → ⊥
refused-not-left w long h l = let s = left-sound w long l in let z : ◌≡◌ {A = ℕ} 0 1 = cc (h, s.1) in omega arith
