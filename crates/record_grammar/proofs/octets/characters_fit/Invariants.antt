-- The invariant of the loop: what is left of the octets decides.
use mathlib.Core.Path.{◌≡◌}
use Prim.Native.Nat.{◌-◌}
use Rattle.record_grammar.specs.Octets.{rule_number, octets_fit, characters_fit}
use Rattle.record_grammar.proofs.octets.characters_fit.Given as goal

abbrev pub invariant-loop : goal.invariant-loop
invariant-loop l = characters_fit (rule_number l.rule) l.n l.u l.v ≡ octets_fit (rule_number l.rule) l.spare (8 - l.counter) l.a l.b
