-- The invariant: the bytes of the text before this one are put.
use lib.ListN.{take}
use Rattle.screen_bytes.specs.Put.{Put}
use Rattle.screen_bytes.proofs.put_text.Given as goal

abbrev pub invariant-loop-b : goal.invariant-loop-b
invariant-loop-b l = Put l.b-index l.initial.out l.out l.at l.m (take l.b-index l.text)
