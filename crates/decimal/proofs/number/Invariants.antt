-- The invariant: the number so far and the rest of the text give the whole number.
use Rattle.std.proofs.Common.{◌≡◌, drop}
use Rattle.decimal.specs.Decimal.{numeral, onward}
use Rattle.decimal.proofs.number.Given as goal

abbrev pub invariant-loop-c : goal.invariant-loop-c
invariant-loop-c l = numeral l.text ≡ onward l.value (drop l.c-index l.text)
