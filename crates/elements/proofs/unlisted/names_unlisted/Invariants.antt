-- `names_unlisted` meets its contract: what it passes over is what the walk would read.
use Prim.Native.Nat.{ℕ, ◌+◌, ◌-◌, ◌*◌, ◌≤◌}
use Rattle.ample_bits.specs.Ahead.{Ahead}
use Rattle.elements.proofs.UnlistedLaws.{Stands}
use Rattle.elements.proofs.unlisted.names_unlisted.Given as goal

abbrev pub invariant-loop-word : goal.invariant-loop-word
invariant-loop-word l =
    (1 ≤ l.k) × (l.k ≤ l.count) × (l.p ≤ l.at + (l.k - 1) * 168) × Ahead l.s l.p 53 l.v × ((m i n : ℕ) → l.p ≤ l.end → Stands l.table i l.count (l.k - 1) l.s (record { at = l.at; end = l.end; why = 0; marks = m }) n l.p)

abbrev pub decreases-loop-word : goal.decreases-loop-word
decreases-loop-word l = l.count - l.k
