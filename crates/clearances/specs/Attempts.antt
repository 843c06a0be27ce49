-- Clearances that may be given up, as readings.
use Rattle.std.specs.Prelude.{true, ℕ}
use Rattle.atn.specs.Reading.{Ans, times, laxly, read}
use Rattle.atn.specs.Messages.{route_clearance}

-- a clearance with its place, and so many of them
abbrev pub attempt : (ℕ → ℕ) → ℕ → ℕ → ℕ → Ans
attempt b i e at = laxly 7 true (read route_clearance (0, i) b e at)

abbrev pub attempts : (ℕ → ℕ) → ℕ → ℕ → ℕ → Ans
attempts b n e at = times (λ i p. attempt b i e p) 1 n at
