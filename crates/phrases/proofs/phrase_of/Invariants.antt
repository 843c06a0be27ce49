-- The invariant: as many lines are passed as were counted, and the phrase is that many lines nearer.
use Rattle.std.proofs.Common.{◌≡◌, ◌-◌, ◌≤◌, length}
use Rattle.phrases.specs.Phrases.{phrase_of}
use Rattle.phrases.proofs.phrase_of.Given as goal

abbrev pub invariant-loop : goal.invariant-loop
invariant-loop l = (length l.rest ≤ length l.table) × (phrase_of l.table l.index ≡ phrase_of l.rest (l.index - l.counter))
