-- A loaded book fits its places.
use mathlib.Core.Path.{◌≡◌, refl, ◌∙◌}
use mathlib.Core.Bool.{true}
use mathlib.Core.List.{List, [], ◌∷◌}
use mathlib.Core.Option.{Option, none, some}
use Prim.Native.Nat.{ℕ, ◌+◌}
use native.Mathlib.Omega.{arith}
use lib.Dec.{leb}
use lib.ListN.{length}
use borrow.Author.Tests.{leb-true}
use Rattle.book_entries.specs.declared.Entry.{Entry}
use Rattle.book_entries.specs.Book.{orderly}
use Rattle.book_changes.specs.Changes.{insert}
use Rattle.book_changes.proofs.Orderly.{insert-length}
use Rattle.counted_books.specs.Holding.{Fits}
use Rattle.name_book.proofs.FitLaws.{either}
use Rattle.book_lines.specs.Lines.{lines}
use Rattle.std.specs.Prelude.{Result}
use Rattle.loaded_books.specs.declared.Refusal.{Refusal}
use Rattle.loaded_books.specs.Loads.{distinct, gathered, replaced}
use Rattle.loaded_books.proofs.Ready.{Ready, ready_first, ready_next}

-- entries put among others
gathered-orderly : (A N : List Entry) → Ready A N → orderly (gathered A N) ≡ true
unfolding gathered
gathered-orderly A [] r = r.orderly
gathered-orderly A (e ∷ N) r = gathered-orderly (insert e A) N (ready_next A e N r)

gathered-length : (A N : List Entry) → length (gathered A N) ≡ length A + length N
unfolding gathered
gathered-length A [] = omega arith
gathered-length A (e ∷ N) = gathered-length (insert e A) N ∙ omega (arith, insert-length e A)

pub loaded : (places : ℕ) (E : List Entry) → Fits places E → (t : List ℕ) → Fits places (replaced places (lines [] t) E).1
unfolding replaced
loaded places E f t = go (lines [] t) refl
  where
    go : (o : Option (List Entry)) → lines [] t ≡ o → Fits places (replaced places o E).1
    go none h = f
    go (some L) h =
        let P : Result ℕ Refusal × List Entry → Type 0 = λ o. Fits places o.1 in
        either P (distinct L)
        (λ d. either P (leb (length L) places)
        (λ r. record { orderly = gathered-orderly [] L (ready_first t h d); few = omega (arith, gathered-length [] L, leb-true (length L) places r) })
        (λ r. f))
        (λ d. f)
