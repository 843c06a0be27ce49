-- The number so far goes on with the rest of the text.
use mathlib.Core.Path.{◌≡◌}
use Prim.Native.Nat.{◌^◌, ◌<◌}
use lib.ListN.{drop}
use Rattle.book_lines.specs.Lines.{onward}
use Rattle.line_reader.proofs.number.Given as goal

abbrev pub invariant-loop-c : goal.invariant-loop-c
invariant-loop-c l = (l.x < 16 ^ l.c-index) × (onward 0 l.text ≡ onward l.x (drop l.c-index l.text))
