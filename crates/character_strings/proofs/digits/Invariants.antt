-- The loop keeps that so many digits were read.
use Rattle.character_strings.specs.Texts.{Digits}
use Rattle.character_strings.proofs.digits.Given as goal

abbrev pub invariant-loop : goal.invariant-loop
invariant-loop l = Digits l.counter l.s l.initial.d l.d
