-- The invariant: k digits of the rest are still to be put, and those behind them are there.
use mathlib.Core.Path.{◌≡◌}
use mathlib.Core.List.{◌++◌}
use Prim.Native.Nat.{◌+◌, ◌≤◌}
use lib.ListN.{length, take, drop}
use Rattle.book_lines.specs.Lines.{digits}
use Rattle.book_lines.proofs.put_digits.Given as goal

abbrev pub invariant-loop-k : goal.invariant-loop-k
invariant-loop-k l = (l.k ≤ l.n) × (length l.out ≡ length l.initial.out) × (take l.at l.initial.out ++ digits l.n l.x ++ drop (l.at + l.n) l.initial.out ≡ take l.at l.out ++ digits l.k l.rest ++ drop (l.at + l.k) l.out)
