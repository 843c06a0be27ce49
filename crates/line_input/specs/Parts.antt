-- What there is of a line of which a text was read.
use Rattle.std.specs.Prelude.{◌≡◌, false, List, ℕ, take}
use Rattle.line_input.specs.declared.parts.Bytes.{Bytes}
use Rattle.line_input.specs.declared.parts.Octets.{Octets}
use Rattle.hexadecimal.specs.Stretches.{SoFar}

-- the text, where it had room
abbrev pub Holds : List ℕ → Bytes → Type 0
Holds text b = b.long ≡ false → take b.len b.space.now ≡ text

-- the octets of its digits
abbrev pub Fills : List ℕ → Octets → Type 0
Fills text o = SoFar text o.frame.now o.digits
