-- `read_elements` meets its contract.
use Prim.Native.Nat.{◌-◌}
use Rattle.elements.proofs.ElementLaws.{Walking}
use Rattle.elements.proofs.read_elements.Given as goal

abbrev pub invariant-loop-k : goal.invariant-loop-k
invariant-loop-k l = Walking l.table l.i l.left l.k l.s l.initial.y.c l.initial.y.n l.initial.words l.words l.y
