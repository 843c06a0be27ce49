-- What a reading says before its records are written.
use Rattle.std.specs.Prelude.{◌≡◌, Bool, true, false, List, ℕ, ◌+◌, ◌*◌, ◌≤◌, length, take}
use Rattle.atn.specs.Reading.{Rec}
use Rattle.atn.specs.Entries.{Reply, accept, ran_out, badly, unsupplied, flat, need}
use Rattle.verdicts.specs.declared.Verdict.{Verdict}

unfoldable pub verdict_of : Reply → Verdict
verdict_of (accept false p m R) = record { why = 0; reach = p; marks = m; count = length R }
verdict_of (accept true p m R) = record { why = 7; reach = p; marks = m; count = length R }
verdict_of (ran_out p k) = record { why = 4 + 16 * k; reach = p; marks = 0; count = 0 }
verdict_of (badly p) = record { why = 5; reach = p; marks = 0; count = 0 }
verdict_of (unsupplied p) = record { why = 6; reach = p; marks = 0; count = 0 }

-- the reply is accepted with these records
pub record Tells (R : List Rec) (r : Reply) : Type 0 where
  pub cut : Bool
  pub reach : ℕ
  pub marks : ℕ
  pub is : r ≡ accept cut reach marks R

-- the records of an accepted reply r stand at the front of the words k, if they fit
pub record Kept (r : Reply) (k : List ℕ) : Type 0 where
  pub kept : {R : List Rec} → Tells R r → need R ≤ length k → take (need R) k ≡ flat R

-- the reply r was found, and k are the words that the reading was lent
pub record Tried (r : Reply) (v : Verdict) (k : List ℕ) : Type 0 where
  pub is : v ≡ verdict_of r
  pub few : v.count ≤ 236124
  pub keeps : Kept r k

-- if u is accepted, so is r, with the same records
pub record Follows (u r : Reply) : Type 0 where
  pub follows : {R : List Rec} → Tells R u → Tells R r
