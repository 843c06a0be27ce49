-- A call that refuses leaves the book, and so its number.
use mathlib.Core.Path.{◌≡◌, refl, sym}
use mathlib.Core.Bool.{Bool, true, false, cond, not}
use mathlib.Core.List.{List, []}
use mathlib.Core.Option.{Option, none, some}
use Prim.Native.Nat.{ℕ}
use lib.Dec.{leb, ltb}
use lib.ListN.{length}
use Rattle.book_entries.specs.declared.Entry.{Entry}
use Rattle.book_entries.specs.Entries.{good}
use Rattle.book_entries.specs.Book.{holds, numbered}
use Rattle.book_changes.proofs.Orderly.{alike}
use Rattle.counted_books.specs.Counted.{held, room}
use Rattle.counted_books.proofs.Held.{holding}
use Rattle.std.specs.Prelude.{Result, Ok, Err}
use Rattle.name_book.specs.declared.Added.{Added}
use Rattle.name_book.specs.declared.Added.TheVariants.{New}
use Rattle.name_book.specs.declared.Refusal.{Refusal}
use Rattle.name_book.specs.declared.Refusal.TheVariants.{NotABook}
use Rattle.name_book.specs.Calls.{opened, offer, add, take_out, withdraw}
use Rattle.book_lines.specs.Lines.{lines}
use Rattle.loaded_books.specs.declared.Refusal as loaded
use Rattle.loaded_books.specs.Loads.{distinct, replaced, load}

-- an outcome that is not a refusal, or leaves what was there
pub branch : {A B : Type 0} (Did : A → Type 0) (w : B) (b : Bool) {x y : A × B} → ((Did x.0 → ⊥) → x.1 ≡ w) → ((Did y.0 → ⊥) → y.1 ≡ w) → (Did (cond b x y).0 → ⊥) → (cond b x y).1 ≡ w
branch Did w true p q = p
branch Did w false p q = q

opened-left : {A : Type 0} (Did : A → Type 0) (refusal : A) (w : List ℕ) (call : List Entry → A × List Entry) → ((E : List Entry) → (Did (call E).0 → ⊥) → (call E).1 ≡ E) → (Did (opened w refusal call).0 → ⊥) → (opened w refusal call).1 ≡ w
unfolding opened
opened-left Did refusal w call same undone = go (held w) refl
  where
    go : (o : Option (List Entry)) → held w ≡ o → (opened w refusal call).1 ≡ w
    go none h = rw (h, opened)
    go (some E) h = rw (h, opened) (rw (same E (λ d. undone (rw (h, opened) d))) (sym (holding w h).is))

-- only a new name changes the book
pub add_left : (w : List ℕ) (e : Entry) → ((add w e).0 ≡ Ok New → ⊥) → (add w e).1 ≡ w
unfolding add offer
add_left w e =
    let Brought : Result Added Refusal → Type 0 = λ a. a ≡ Ok New in
    opened-left Brought (Err NotABook) w (offer (room w) e)
    (λ E. branch Brought E (holds (numbered e.number) E) (λ n. refl) (branch Brought E (not (good e)) (λ n. refl) (branch Brought E (holds (alike e) E) (λ n. refl)
    (branch Brought E (ltb (length E) (room w)) (λ n. absurd (n refl)) (λ n. refl)))))

pub withdraw-left : (w : List ℕ) (k : ℕ) → ((withdraw w k).0 ≡ Ok tt → ⊥) → (withdraw w k).1 ≡ w
unfolding withdraw take_out
withdraw-left w k =
    let Gone : Result (Unit {0}) Refusal → Type 0 = λ a. a ≡ Ok tt in
    opened-left Gone (Err NotABook) w (take_out k) (λ E. branch Gone E (holds (numbered k) E) (λ n. absurd (n refl)) (λ n. refl))

-- a book that is not loaded stays
abbrev pub Done : Result ℕ loaded.Refusal → Type 0
Done a = (n : ℕ) × (a ≡ Ok n)

pub load-left : (w t : List ℕ) → (Done (load w t).0 → ⊥) → (load w t).1 ≡ w
unfolding load replaced
load-left w t = opened-left Done (Err loaded.TheVariants.NotABook) w (replaced (room w) (lines [] t)) (same (lines [] t))
  where
    same : (o : Option (List Entry)) (E : List Entry) → (Done (replaced (room w) o E).0 → ⊥) → (replaced (room w) o E).1 ≡ E
    same none E = λ n. refl
    same (some L) E = branch Done E (distinct L) (branch Done E (leb (length L) (room w)) (λ n. absurd (n (length L, refl))) (λ n. refl)) (λ n. refl)
