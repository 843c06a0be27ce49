-- What a station's call answers, and what the book holds afterwards.
use Rattle.std.specs.Prelude.{ℕ, ◌*◌, cond, List, length, ◌==◌, nat_le, Result, Ok, Err}
use Rattle.book_entries.specs.declared.Entry.{Entry}
use Rattle.forward_names.specs.declared.Named.{Named}
use Rattle.forward_names.specs.Names.{forward_name}
use Rattle.named_entries.specs.Made.{entry_of}
use Rattle.name_book.specs.declared.Added.{Added}
use Rattle.name_book.specs.declared.Added as added
use Rattle.name_book.specs.declared.Refusal.{Refusal}
use Rattle.name_book.specs.Calls.{add}
use Rattle.name_book.specs.Calls as book
use Rattle.station.specs.declared.Offered.{Offered}
use Rattle.station.specs.declared.Offered.TheVariants.{Bound, Repeated, Refused}

-- "a capture with the number of bits that arrived", a calibration number, and the two tables
pub record Call : Type 0 where
  pub capture : List ℕ
  pub arrived : ℕ
  pub number : ℕ
  pub down : List ℕ
  pub up : List ℕ

abbrev pub call : List ℕ → ℕ → ℕ → List ℕ → List ℕ → Call
call s a k down up = record { capture = s; arrived = a; number = k; down = down; up = up }

-- the name in the capture, by the uplink reading
abbrev pub name_of : Call → Named
name_of c = forward_name c.capture c.down c.up

-- "binds a name to a calibration number (its frame number in the book)"
abbrev pub entry : Call → Entry
entry c = entry_of (name_of c) c.number (length c.capture)

-- the book's answer as the station's; a name that was read is never without a name (named-good)
abbrev pub answered : ℕ → Result Added Refusal → Offered
answered p (Ok added.TheVariants.New) = Bound
answered p (Ok (added.TheVariants.Repeated k)) = Repeated k
answered p (Ok added.TheVariants.NoName) = Refused 19 p 0
answered p (Err r) = Refused (book.number r) p 0

-- "21 is asked first, then those of the reading, then 19 for not clean or no name, then 22, then those of the book"
unfoldable pub offer : Call → List ℕ → Offered × List ℕ
offer c w =
    cond (nat_le c.arrived (length c.capture * 8))
    (cond ((name_of c).number == 0)
    (cond (nat_le (name_of c).reach c.arrived)
    (answered (name_of c).reach (add w (entry c)).0, (add w (entry c)).1)
    (Refused 22 (name_of c).reach 0, w))
    (Refused (name_of c).number (name_of c).reach (name_of c).lacked, w))
    (Refused 21 0 0, w)
