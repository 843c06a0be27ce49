-- What a leaf must keep so that it can be written: it has nothing below it.
use Rattle.std.specs.Prelude.{◌≡◌, true, [], ℕ}
use Rattle.atn.specs.Messages.{no_reader}
use Rattle.node_tables.specs.Sure.{sure_of}

abbrev pub SureLeaf : ℕ → ℕ → ℕ → ℕ → ℕ → ℕ → Type 0
SureLeaf kind a b c d e = sure_of (λ _. no_reader) (λ _. true) [] kind a b c d e ≡ true
