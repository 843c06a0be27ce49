-- "On no, it names the first record that differs, is missing, too many or incomplete".
use Rattle.std.specs.Prelude.{◌≡◌, List, ℕ, suc, ◌*◌, ◌≤◌, ◌<◌, length, take}
use Rattle.atn.specs.Entries.{flat}
use Rattle.atn.specs.Reading.{Rec}
use Rattle.list_comparison.specs.declared.Checked.{Checked}
use Rattle.list_comparison.specs.declared.Checked.TheVariants.{Yes, Differs, Missing, TooMany, Incomplete, Refused}

-- the place that is named, 0 for none
unfoldable pub place_of : Checked → ℕ
place_of Yes = 0
place_of (Differs i) = i
place_of (Missing i) = i
place_of (TooMany i) = i
place_of (Incomplete i) = i
place_of (Refused n) = 0

-- k records of the list l are those of the reading R, and the next is not
pub record First (k : ℕ) (R : List Rec) (l : List ℕ) : Type 0 where
  pub before : take (k * 5) l ≡ flat (take k R)
  -- where the reading has one more, the list has not its five words there
  pub here : k < length R → take (suc k * 5) l ≡ flat (take (suc k) R) → ⊥
  -- where the reading has no more, the list has
  pub behind : length R ≤ k → (k ≡ length R) × (k * 5 < length l)
