-- What each call of the book answers, and what the lent words hold afterwards.
use Rattle.std.specs.Prelude.{◌≡◌, Bool, cond, not, List, ℕ, ◌/◌, ltb, length, get_or, Option, Some, None, Result, Ok, Err}
use Rattle.std.proofs.Math.Option.{none, some}
use Rattle.book_entries.specs.declared.Entry.{Entry}
use Rattle.book_entries.specs.Entries.{text, size, bytes, good}
use Rattle.book_entries.specs.Book.{place, holds, named, numbered, laid, entries}
use Rattle.counted_books.specs.Counted.{shown, held, room}
use Rattle.book_changes.specs.Changes.{insert, without, vacant}
use Rattle.name_book.specs.declared.Refusal.{Refusal}
use Rattle.name_book.specs.declared.Refusal.TheVariants.{NotABook, NumberHeld, NoSuchFrame, BookFull}
use Rattle.name_book.specs.declared.Added.{Added}
use Rattle.name_book.specs.declared.Added.TheVariants.{New, Repeated, NoName}
use Rattle.name_book.specs.declared.Frame.{Frame}

-- the number of a refusal in docs/REFUSALS.md
abbrev pub number : Refusal → ℕ
number NotABook = 18
number NumberHeld = 12
number NoSuchFrame = 11
number BookFull = 10

-- "18, a slice these calls cannot leave, first": else a call goes by the entries held, and leaves the picture of what it makes of them
unfoldable pub opened : {A : Type 0} → List ℕ → A → (List Entry → A × List Entry) → A × List ℕ
opened w refusal call = elim (held w) [ none ↦ (refusal, w) | some E ↦ ((call E).0, shown (length w) (call E).1) ]

-- the same of the places alone, of which a call is told how many there are
unfoldable pub changed : {A : Type 0} → List ℕ → (ℕ → List Entry → A × List Entry) → A × List ℕ
changed w call = ((call (length w / 4) (entries w)).0, laid (length w) (call (length w / 4) (entries w)).1)

-- the first entry that fits
abbrev pub first : (Entry → Bool) → List Entry → Entry
first fits E = get_or E (place fits E) vacant

-- "12, a frame number already held, next"; "without a name"; "repeated (with the earlier frame's number)"; "10, book full, given exactly if a new name has no free room"; "new"
unfoldable pub offer : ℕ → Entry → List Entry → Result Added Refusal × List Entry
offer places e E =
    cond (holds (numbered e.number) E) (Err NumberHeld, E)
    (cond (not (good e)) (Ok NoName, E)
    (cond (holds (named (text e) (size e)) E) (Ok (Repeated (first (named (text e) (size e)) E).number), E)
    (cond (ltb (length E) places) (Ok New, insert e E) (Err BookFull, E))))

unfoldable pub add : List ℕ → Entry → Result Added Refusal × List ℕ
unfolding opened offer
add w e = opened w (Err NotABook) (offer (room w) e)

-- "A frame number may be withdrawn"; "11, no such frame held"
unfoldable pub take_out : ℕ → List Entry → Result (Unit {0}) Refusal × List Entry
take_out k E = cond (holds (numbered k) E) (Ok tt, without k E) (Err NoSuchFrame, E)

unfoldable pub withdraw : List ℕ → ℕ → Result (Unit {0}) Refusal × List ℕ
unfolding opened take_out
withdraw w k = opened w (Err NotABook) (take_out k)

-- the frame of an entry
abbrev pub frame_of : Entry → Frame
frame_of e = record { number = e.number; bytes = bytes e }

-- "lookups find exactly those"
unfoldable pub find : ℕ → ℕ → List Entry → Option Frame
find t s E = cond (holds (named t s) E) (Some (frame_of (first (named t s) E))) None

unfoldable pub look_up : List ℕ → ℕ → ℕ → Result (Option Frame) Refusal
unfolding find
look_up w t s = elim (held w) [ none ↦ Err NotABook | some E ↦ Ok (find t s E) ]

-- the answer r and the words v are the outcome o
pub record Leaves {A : Type 0} (r : A) (v : List ℕ) (o : A × List ℕ) : Type 0 where
  pub is : (r, v) ≡ o
