-- The invariant of the loop: `Going`, the lines so far are put, and those still to come are known.
use Rattle.screen_text.specs.Text.{number}
use Rattle.screen_text.proofs.TextLaws.{Going}
use Rattle.screen_text.proofs.put_lines.Given as goal

abbrev pub invariant-loop-i : goal.invariant-loop-i
invariant-loop-i l = Going l.down l.up l.words l.initial.out l.out l.n (number l.d) l.at l.i
