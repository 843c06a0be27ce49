-- What is owed by a function that tells records.
use Rattle.std.specs.Prelude.{◌≡◌, ℕ, ◌+◌, ◌≤◌, List, ◌++◌, length, take}
use Rattle.atn.specs.Reading.{Rec}
use Rattle.atn.specs.Entries.{flat}
use Rattle.records.specs.Space.{space}

-- The records rs, at most k of them, were told behind n others: then there are m, and the words are w' where they were w.
-- The words behind those of the m records are free: what is tried and dropped has been there. An entry that wants them to stay lends no more words than its records need.
pub record Told (k : ℕ) (w w' : List ℕ) (n m : ℕ) (rs : List Rec) : Type 0 where
  pub count : m ≡ n + length rs
  -- a bound that callers add up, so that no count wraps
  pub few : m ≤ n + k
  pub room : length w' ≡ length w
  pub before : take (space n) w' ≡ take (space n) w
  -- with room for all
  pub words : space m ≤ length w → take (space m) w' ≡ take (space n) w ++ flat rs
