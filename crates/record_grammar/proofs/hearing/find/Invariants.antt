-- The invariant of the loop: what the rows still to be asked find.
use mathlib.Core.Path.{◌≡◌}
use Prim.Native.Nat.{◌-◌}
use Rattle.record_grammar.specs.Rows.{found}
use Rattle.record_grammar.proofs.hearing.find.Given as goal

abbrev pub invariant-loop : goal.invariant-loop
invariant-loop l = found l.rows 64 l.s l.s.at l.x ≡ found l.rows (64 - l.counter) l.s l.k l.x
