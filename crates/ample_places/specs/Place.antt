-- Places, and what is owed by a function that reads one up to its coordinates.
use Rattle.std.specs.Prelude.{◌≡◌, Bool, true, false, List, ◌++◌, ℕ, ◌+◌, ◌≤◌}
use Rattle.atn.specs.Format.{Fmt}
use Rattle.atn.specs.Reading.{Rec, or}
use Rattle.atn.specs.Messages as message
use Rattle.records.specs.Told.{Told}
use Rattle.ample_readings.specs.Sure.{Sure}
use Rattle.ample_places.specs.declared.Name.{Name}

-- a published place, or coordinates alone
unfoldable pub place_of : Bool → Fmt
place_of true = message.published
place_of false = message.latlon

-- the format f, outside the elements, was read from `at` on up to its coordinates, j bits at most, and its records were told behind n others, b at most
pub record Named (b j : ℕ) (f : Fmt) (s : List ℕ) (at n : ℕ) (w w' : List ℕ) (r : Name) : Type 0 where
  pub recs : List Rec
  pub near : r.at ≤ at + j
  pub told : Told b w w' n r.n recs
  -- without coordinates it ends there
  pub bare : r.has ≡ 0 → (i : ℕ) → Sure f (0, i) s at r.at recs r.marks
  pub placed : (r.has ≡ 0 → ⊥) → (i q m : ℕ) (S : List Rec) → Sure message.latlon (0, i) s r.at q S m → Sure f (0, i) s at q (recs ++ S) (or r.marks m)
