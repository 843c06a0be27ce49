-- `move_places` meets its contract. The invariant of each loop: since it began, the places of some records were moved, one behind the other.
use Rattle.std.proofs.Common.{◌≡◌, ℕ, ◌+◌, ◌-◌, ◌*◌, ◌≤◌, List}
use Rattle.records.specs.Space.{space}
use Rattle.records.specs.Moves.{raised_places}
use Rattle.records.proofs.places.move_places.Given as goal

-- w is w₀ with the places of k records moved, whose words begin at the word at₀; the next begins at `at`
pub record Moved (a : ℕ) (w₀ : List ℕ) (at₀ : ℕ) (w : List ℕ) (at : ℕ) : Type 0 where
  pub k : ℕ
  pub on : at ≡ at₀ + space k
  pub words : w ≡ raised_places a k at₀ w₀

abbrev pub invariant-loop : goal.invariant-loop
invariant-loop l = (l.counter ≤ 8) × (l.at ≡ l.initial.at + l.counter * 5) × Moved l.by l.initial.words l.initial.at l.words l.at

abbrev pub invariant-loop-at : goal.invariant-loop-at
invariant-loop-at l = (l.at ≤ space l.m) × Moved l.by l.initial.words l.initial.at l.words l.at

abbrev pub decreases-loop-at : goal.decreases-loop-at
decreases-loop-at l = l.stop - l.at

abbrev pub invariant-loop-at-2 : goal.invariant-loop-at-2
invariant-loop-at-2 l = (l.at ≤ space l.m) × Moved l.by l.initial.words l.initial.at l.words l.at

abbrev pub decreases-loop-at-2 : goal.decreases-loop-at-2
decreases-loop-at-2 l = l.stop - l.at
