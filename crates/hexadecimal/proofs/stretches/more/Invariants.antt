-- The invariant: what was taken of the text before and of the stretch's first characters.
use Rattle.std.proofs.Common.{List, ◌++◌, ℕ, ◌*◌, ◌≤◌, length, take}
use Rattle.hexadecimal.specs.Stretches.{SoFar}
use Rattle.hexadecimal.proofs.stretches.more.Given as goal

abbrev pub invariant-loop-c : goal.invariant-loop-c
invariant-loop-c l = (l.digits.taken ≤ length l.initial.frame * 2) × ((text : List ℕ) → SoFar text l.initial.frame l.initial.digits → SoFar (text ++ take l.c-index l.stretch) l.frame l.digits)
