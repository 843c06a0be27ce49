-- The lines of the entries from one place on.
use mathlib.Core.Path.{◌≡◌, sym, ◌∙◌}
use mathlib.Core.Bool.{true}
use mathlib.Core.List.{List, [], ◌∷◌, append-nil}
use mathlib.Core.Option.{none, some}
use Prim.Native.Nat.{ℕ, ◌+◌, ◌*◌, ◌≤◌, ◌<◌}
use native.Mathlib.Nat.{zero-add}
use native.Mathlib.Omega.{arith}
use lib.ListN.{length, take, length-append, take-append-drop}
use borrow.Author.Tests.{le-leb, lt-leb}
use Rattle.book_entries.specs.declared.Entry.{Entry}
use Rattle.book_entries.specs.Entries.{size}
use Rattle.book_entries.specs.Book.{orderly, entries}
use Rattle.book_entries.proofs.GoodEntries.{numbers}
use Rattle.book_changes.proofs.Orderly.{first-fair, others}
use Rattle.book_lines.specs.Lines.{line, saved, put}
use Rattle.book_lines.proofs.LineLaws.{line-length, put-put}
use Rattle.counted_books.specs.Counted.{held}
use Rattle.counted_books.proofs.CountLaws.{lent}
use Rattle.counted_books.proofs.Held.{holding}
use Rattle.name_book.specs.Calls.{Leaves}
use Rattle.name_book.proofs.CallLaws.{lent-entries}
use Rattle.std.specs.Prelude.{Result, Ok, Err}
use Rattle.saved_books.specs.declared.Refusal.{Refusal}
use Rattle.saved_books.specs.declared.Refusal.TheVariants.{NotABook, TooFewBytes}
use Rattle.saved_books.specs.Saves.{settled, save}

-- the entries F are left, the first of them e
module _ {F E : List Entry} {e : Entry} (is : F ≡ e ∷ E) where
  module _ (o : orderly F ≡ true) where
    split : orderly (e ∷ E) ≡ true
    split = rw is at o

    pub next-size : (2 ≤ size e) × (size e ≤ 8)
    next-size = let n = numbers e (first-fair e E split).good in (n.least, n.most)

    pub next-orderly : orderly E ≡ true
    next-orderly = others e E split

  pub next-length : length (saved F) ≡ size e * 2 + 14 + length (saved E)
  unfolding saved
  next-length = rw is (length-append (line e) (saved E) ∙ omega (arith, line-length e))

  -- v as it was, with the line of e put at `at`
  pub next-line : (at : ℕ) (v : List ℕ) {y v' : List ℕ} {j : ℕ} → y ≡ put at (saved F) v → v' ≡ put at (line e) v → j ≡ at + (size e * 2 + 14) → at + (size e * 2 + 14) ≤ length v → y ≡ put j (saved E) v'
  unfolding saved
  next-line at v {j = j} h g k q =
      let l : j ≡ at + length (line e) = omega (arith, line-length e) in
      rw (h, is, g, l) (sym (put-put at (line e) v (omega (arith, line-length e)) (saved E)))

-- nothing is left
module _ {F : List Entry} (is : F ≡ []) where
  pub ended : (at : ℕ) (v : List ℕ) {y : List ℕ} → y ≡ put at (saved F) v → v ≡ y
  unfolding saved put
  ended at v h =
      let a : at + 0 ≡ at = omega arith in
      sym (h ∙ rw (is, a, append-nil (take at v)) (take-append-drop at v))

  pub no_bytes : length (saved F) ≡ 0
  unfolding saved
  no_bytes = rw is

pub save_unsound : (w out : List ℕ) → held w ≡ none → Leaves (Err NotABook) out (save w out)
unfolding save
save_unsound w out h = record { is = rw (h, save) }

module _ (w out : List ℕ) {E : List Entry} (h : held w ≡ some E) where
  pub lent-orderly : orderly (entries (lent w)) ≡ true
  lent-orderly = rw (lent-entries w h) (holding w h).fits.orderly

  -- the places were saved
  pub save-sound : {r : Result ℕ Refusal} {v : List ℕ} → Leaves r v (settled (saved (entries (lent w))) out) → Leaves r v (save w out)
  unfolding save
  save-sound l = record { is = rw (h, save) (rw (lent-entries w h) at l.is) }

module _ (t out : List ℕ) {n : ℕ} (e : n ≡ length t) where
  pub save-short : length out < n → Leaves (Err (TooFewBytes n)) out (settled t out)
  unfolding settled
  save-short l = record { is = rw (e, lt-leb (length t) (length out) (omega arith)) }

  pub save_wrote : {v : List ℕ} → n ≤ length out → v ≡ put 0 t out → Leaves (Ok n) v (settled t out)
  unfolding settled put
  save_wrote l x = record { is = rw (e, le-leb (length t) (length out) (omega arith), x, zero-add) }
