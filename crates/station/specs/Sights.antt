-- "On a sound book a station's answer depends only on its own call and on whether the name and the frame number are held, by which frame, and whether a place is free."
use Rattle.std.specs.Prelude.{ℕ, ◌*◌, Bool, cond, List, length, ◌==◌, nat_le, nat_lt}
use Rattle.std.proofs.Math.Option.{Option, none, some}
use Rattle.book_entries.specs.declared.Entry.{Entry}
use Rattle.book_entries.specs.Entries.{text, size}
use Rattle.book_entries.specs.Book.{holds, named, numbered}
use Rattle.name_book.specs.Calls.{first}
use Rattle.station.specs.declared.Offered.{Offered}
use Rattle.station.specs.declared.Offered.TheVariants.{Bound, Repeated, Refused}
use Rattle.station.specs.Offers.{Call, name_of, entry}

-- what a call can see of a book
pub record Sight : Type 0 where
  -- the frame number is held
  pub taken : Bool
  -- the frame that has the name
  pub holder : Option ℕ
  -- a place is free
  pub free : Bool

abbrev pub same_name : Call → Entry → Bool
same_name c = named (text (entry c)) (size (entry c))

-- of a book of so many places that holds E
abbrev pub sight : Call → ℕ → List Entry → Sight
sight c places E = record { taken = holds (numbered c.number) E; holder = cond (holds (same_name c) E) (some (first (same_name c) E).number) none; free = nat_lt (length E) places }

-- the book's answer by what is seen of it, to a message with this reach
unfoldable pub book_answer : ℕ → Sight → Offered
book_answer p v = cond v.taken (Refused 12 p 0) (elim v.holder [ some k ↦ Repeated k | none ↦ cond v.free Bound (Refused 10 p 0) ])

-- the station's: by the call alone up to the book
unfoldable pub answer : Call → Sight → Offered
unfolding book_answer
answer c v =
    cond (nat_le c.arrived (length c.capture * 8))
    (cond ((name_of c).number == 0)
    (cond (nat_le (name_of c).reach c.arrived) (book_answer (name_of c).reach v)
    (Refused 22 (name_of c).reach 0))
    (Refused (name_of c).number (name_of c).reach (name_of c).lacked))
    (Refused 21 0 0)
