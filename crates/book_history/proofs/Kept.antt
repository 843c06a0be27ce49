-- A call on a book that holds E leaves a book that holds what the history says, in as many words.
use mathlib.Core.Path.{◌≡◌, refl, ap, ◌∙◌}
use mathlib.Core.List.{List, []}
use mathlib.Core.Option.{some}
use Prim.Native.Nat.{ℕ, ◌/◌, ◌-◌, ◌≤◌}
use native.Mathlib.Omega.{arith}
use lib.ListN.{length}
use borrow.Author.Tests.{le-ltb}
use Rattle.book_entries.specs.declared.Entry.{Entry}
use Rattle.book_entries.specs.Book.{orderly}
use Rattle.counted_books.specs.Counted.{room, shown, held, emptied}
use Rattle.counted_books.specs.Holding.{Fits}
use Rattle.counted_books.proofs.Held.{holding, shown-length, held-shown}
use Rattle.name_book.specs.Calls.{opened, offer, add, take_out, withdraw}
use Rattle.name_book.proofs.FitLaws.{offered, taken}
use Rattle.book_lines.specs.Lines.{lines}
use Rattle.loaded_books.specs.Loads.{replaced, load}
use Rattle.loaded_books.proofs.FitLaws.{loaded}
use Rattle.book_history.specs.History.{Call, emptying, adding, withdrawing, loading, after, says}
use Rattle.book_history.specs.Keeps.{Keeps}

pub no_entries : (places : ℕ) → Fits places []
unfolding orderly
no_entries places = record { orderly = refl; few = omega arith }

pub stays_fit : (places : ℕ) (E : List Entry) → Fits places E → (c : Call) → Fits places (says places E c)
unfolding says
stays_fit places E f emptying = no_entries places
stays_fit places E f (adding e) = offered places E f e
stays_fit places E f (withdrawing k) = taken places E f k
stays_fit places E f (loading t) = loaded places E f t

pub emptied-shown : (n : ℕ) → 2 ≤ n → emptied n ≡ shown n []
unfolding emptied
emptied-shown n p = rw (le-ltb n 2 p)

-- what a call leaves of a book that holds E
opened-words : {A : Type 0} (refusal : A) (w : List ℕ) (call : List Entry → A × List Entry) (E : List Entry) → held w ≡ some E → (opened w refusal call).1 ≡ shown (length w) (call E).1
unfolding opened
opened-words refusal w call E h = rw (h, opened)

after_is : (w : List ℕ) (E : List Entry) → held w ≡ some E → (c : Call) → after w c ≡ shown (length w) (says (room w) E c)
unfolding after says add withdraw load
after_is w E h emptying = emptied-shown (length w) (holding w h).long
after_is w E h (adding e) = opened-words _ w (offer (room w) e) E h
after_is w E h (withdrawing k) = opened-words _ w (take_out k) E h
after_is w E h (loading t) = opened-words _ w (replaced (room w) (lines [] t)) E h

pub keeps-shown : (n : ℕ) (w : List ℕ) (E : List Entry) → 2 ≤ n → Fits ((n - 2) / 4) E → w ≡ shown n E → Keeps n w E
keeps-shown n w E l f e = record { long = ap length e ∙ shown-length n E l f; holds = rw e (held-shown n E l f); fits = f }

pub kept : {n : ℕ} {w : List ℕ} {E : List Entry} → Keeps n w E → (c : Call) → Keeps n (after w c) (says ((n - 2) / 4) E c)
kept {n} {w} {E} k c =
    keeps-shown n (after w c) (says ((n - 2) / 4) E c) (omega (arith, k.long, (holding w k.holds).long)) (stays_fit ((n - 2) / 4) E k.fits c) (rw k.long at (after_is w E k.holds c))
