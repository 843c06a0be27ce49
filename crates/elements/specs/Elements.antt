-- The elements of a message as readings: functions of the window's end and the place.
use Rattle.std.specs.Prelude.{List, ℕ}
use Rattle.x691.specs.Bits.{bit_of}
use Rattle.atn.specs.Format.{Fmt, element, choice}
use Rattle.atn.specs.Messages.{argument_of, elements}
use Rattle.atn.specs.Reading.{Ans, times, read}
use Rattle.atn.specs.Tags as tag

abbrev pub element_format : List ℕ → Fmt
element_format table = element (choice tag.element_index (elements table))

-- the argument that the byte k of a table names, of the element number i
unfoldable pub argument_at : ℕ → ℕ → List ℕ → ℕ → ℕ → Ans
argument_at k i s e p = read (argument_of k) (i, i) (bit_of s) e p

-- the element number i
unfoldable pub element_at : List ℕ → ℕ → List ℕ → ℕ → ℕ → Ans
element_at table i s e p = read (element_format table) (0, i) (bit_of s) e p

-- n elements, from number i on
unfoldable pub elements_at : List ℕ → ℕ → ℕ → List ℕ → ℕ → ℕ → Ans
elements_at table i n s e p = times (λ j q. read (element_format table) (0, j) (bit_of s) e q) i n p
