-- Clean messages as bits.
use Rattle.std.specs.Prelude.{◌≡◌, false, List, ◌++◌, ℕ, length}
use Rattle.x691.specs.Bits.{bit_of, Spells}
use Rattle.atn.specs.Entries.{Outcome, accepted}

-- the bits m are a clean message for the entry P of frame and words: a frame that begins with them is given a clean answer with just their reach
pub record CleanBits (P : List ℕ → List ℕ → Outcome) (m : List ℕ) : Type 0 where
  pub frame : List ℕ
  pub words : List ℕ
  pub count : ℕ
  pub after : List ℕ
  pub spelt : Spells (bit_of frame) 0 m
  pub clean : P frame words ≡ (accepted false (length m) 0 count, after)

-- the bits m begin the bits n
pub record Begins (m n : List ℕ) : Type 0 where
  pub more : List ℕ
  pub is : m ++ more ≡ n
