-- The questions of document 01's worked frames (crates/atn/specs/Worked.antt has the table), put to the code: what its contracts allow.
use Rattle.std.specs.Prelude.{◌≡◌, cond, List, [], ℕ, ◌-◌, ◌*◌, length, replicate, eqb}
use Rattle.x691.specs.Types.{extent}
use Rattle.x691.specs.Encoding.{width}
use Rattle.atn.specs.Entries.{parse_pdus}
use Rattle.atn.specs.Worked.{Question, range, field, count_of, length_of, small_octets, frame, told, records_of, without_words, zeros, Written, bits, is, bad, other, raw_bytes, raw_place, small_bytes, lent, enters, of_answer, told_in, counted}
use Rattle.cursor.specs.declared.place.Cursor.{Cursor}
use Rattle.cursor.specs.declared.place.Got.{Got}
use Rattle.field_ranges.specs.declared.table.Range.{Range}
use Rattle.cursor.specs.Place.{marked}
use Rattle.field_ranges.specs.Ranges.{width_of}
use Rattle.field_ranges.specs.Ends.{lowest, highest}
use Rattle.ranged_numbers.specs.Numbers.{Ranged}
use Rattle.length_determinants.specs.Lengths.{Measures, Smalls}
use Rattle.character_strings.specs.Texts.{Sized}
use Rattle.answers.specs.declared.Answer.{Answer}
use Rattle.answers.specs.Says.{answer_of, Says}

-- the place p of a frame, in a window that is the whole frame
abbrev pub from : List ℕ → ℕ → Cursor
from s p = record { at = p; end = length s * 8; why = 0; marks = 0 }

-- what is written of a number that was read, by why the reading stopped and its marks
abbrev pub found : ℕ → ℕ → ℕ → Written
found w m v = cond (eqb w 0) (is v m) (cond (eqb w 5) bad other)

abbrev pub of_got : Got ℕ → Written
of_got g = found g.c.why g.c.marks g.v

-- whatever result the contract of the code allows, it is written as a
abbrev pub Only : Question → Written → Type 0
-- `field_ranges::table::Range::width`
Only (range lo hi) a = (r : Range) (n : ℕ) → r.lo ≡ lo → r.hi ≡ hi → n ≡ width_of r → bits n ≡ a
-- `ranged_numbers::ranged`
Only (field lo hi r) a = (k : ℕ) (g : Got ℕ) → lowest k ≡ lo → highest k ≡ hi → Ranged k (raw_bytes r) (from (raw_bytes r) (raw_place (width (extent lo hi)))) g → of_got g ≡ a
-- `character_strings::size`
Only (count_of lo hi r) a = (k : ℕ) (g : Got ℕ) → lowest k ≡ lo → highest k ≡ hi → Sized k (raw_bytes r) (from (raw_bytes r) (raw_place (width (hi - lo)))) g → of_got g ≡ a
-- `length_determinants::length`
Only (length_of s) a = (l : Got ℕ) → Measures s (from s 0) l → found l.c.why l.c.marks l.v ≡ a
-- `length_determinants::small`, behind the mark that its caller makes
Only (small_octets cs) a = (g : Got ℕ) → Smalls (small_bytes cs) (marked (from (small_bytes cs) 7) 2) g → of_got g ≡ a
-- the entries
Only (frame e s) a = (r : Answer) (w : List ℕ) → Says r w (enters e s lent) → of_answer (answer_of r) ≡ a
Only (told e t s) a = (r : Answer) (w : List ℕ) → Says r w (enters e s lent) → told_in t (answer_of r) w ≡ a
Only (records_of e s) a = (r : Answer) (w : List ℕ) → Says r w (enters e s lent) → counted (answer_of r) ≡ a
Only (without_words e s) a = (r : Answer) (w : List ℕ) → Says r w (enters e s []) → of_answer (answer_of r) ≡ a
Only (zeros n x y d) a = (r : Answer) (w : List ℕ) → Says r w (parse_pdus (replicate n 0) d (replicate x 0) (replicate y 0) lent) → of_answer (answer_of r) ≡ a
