-- "binds a name to a calibration number .. only if the forward message is clean, its reach does not exceed those bits, and the name is new in the book".
use Rattle.std.specs.Prelude.{◌≡◌, ℕ, ◌*◌, ◌<◌, ◌≤◌, false, List, length}
use Rattle.std.proofs.Math.Option.{some}
use Rattle.book_entries.specs.declared.Entry.{Entry}
use Rattle.book_entries.specs.Book.{holds, numbered}
use Rattle.counted_books.specs.Counted.{held, room}
use Rattle.station.specs.Offers.{Call, name_of}
use Rattle.station.specs.Sights.{same_name}

-- nothing stands against the call
pub record Binds (c : Call) (w : List ℕ) : Type 0 where
  pub claimed : c.arrived ≤ length c.capture * 8
  -- a clean forward message (forward_names: Identifies)
  pub named : (name_of c).number ≡ 0
  pub whole : (name_of c).reach ≤ c.arrived
  pub kept : List Entry
  pub sound : held w ≡ some kept
  pub number_free : holds (numbered c.number) kept ≡ false
  pub name_new : holds (same_name c) kept ≡ false
  pub place_free : length kept < room w
