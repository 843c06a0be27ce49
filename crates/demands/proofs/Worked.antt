-- Document 01's worked frames at the code: whatever result a contract allows is what it writes. One statement over the one table.
use mathlib.Core.Path.{◌≡◌, refl, ap, subst, ◌∙◌}
use mathlib.Core.List.{List, [], ◌∷◌, map}
use Prim.Native.Nat.{ℕ, ◌-◌, ◌*◌, ◌≤◌}
use native.Mathlib.Omega.{arith}
use lib.ListN.{length}
use borrow.Author.Tests.{ne_eqb}
use Rattle.x691.specs.Types.{extent}
use Rattle.x691.specs.Encoding.{width}
use Rattle.x691.specs.Range.{All}
use Rattle.atn.specs.Format.{out, lack, quit}
use Rattle.atn.specs.Format as format
use Rattle.atn.specs.Schema.{minus}
use Rattle.atn.specs.Reading.{rec, Ans, mark}
use Rattle.atn.specs.Entries.{Outcome}
use Rattle.atn.proofs.Marks.{or_commutes, or_nil}
use Rattle.atn.specs.Worked.{Question, range, field, count_of, length_of, small_octets, frame, told, records_of, without_words, zeros, Written, bits, Row, ◌gives◌, asked, written, worked, raw_bytes, raw_place, small_bytes, of_answer, told_in, counted}
use Rattle.atn.proofs.Worked.{alone, one, one_told, one_out, one-bad, one_lack, defined, given, all-worked, told-apart, all-told-apart, tested_first, all_tested_first}
use Rattle.cursor.specs.declared.place.Cursor.{Cursor}
use Rattle.cursor.specs.Place.{number, Led, stayed, went, failed, Reads}
use Rattle.field_ranges.specs.Rows as rows
use Rattle.field_ranges.specs.Ends.{lowest, highest}
use Rattle.cursor.proofs.Laws.{reads_ok, marked-nil}
use Rattle.length_determinants.proofs.LengthLaws.{takes_small}
use Rattle.demands.specs.Worked.{from, found, Only}

-- a reading that told one number is written as the number and the cursor behind it are
module _ (k : ℕ → ℕ → Ans) (s : List ℕ) (p : ℕ) (d : Cursor) (v f : ℕ) where
  led_one : Led k (from s p) d (rec 0 0 v 0 f ∷ []) → found d.why d.marks v ≡ one (k (length s * 8) p)
  led_one (stayed h q) = absurd (h refl)
  led_one (went o m z a l q) = rw (q, a, one_told o v f m, or_commutes 0 m, or_nil m)
  led_one (failed (out lacked) o m S n z a l q) = rw (q, a, ne_eqb (number (out lacked)) 0 n, ne_eqb (number (out lacked)) 5 (λ y. omega arith), one_out lacked o m S)
  led_one (failed format.bad o m S n z a l q) = rw (q, a, one-bad o m S)
  led_one (failed lack o m S n z a l q) = rw (q, a, one_lack o m S)
  led_one (failed (quit x y m') o m S n z a l q) = absurd (n refl)

  reads_one : p ≤ length s * 8 → Reads k s (from s p) d (rec 0 0 v 0 f ∷ []) → found d.why d.marks v ≡ one (k (length s * 8) p)
  reads_one l r = led_one (r.led (l, omega arith))

-- what is told behind a number leaves the cursor
told-alone : (s : List ℕ) (c : Cursor) (v : ℕ) → Reads (λ e p. alone v e p) s c c (rec 0 0 v 0 0 ∷ [])
told-alone s c v = reads_ok _ 0 (marked-nil c)

-- the contracts allow what the definitions give, and nothing else
only-given : (q : Question) → Only q (given q)
unfolding given mark
only-given (range lo hi) = λ r n e f x. ap bits (x ∙ rw (e, f))
only-given (field lo hi r) = λ k g e f x. reads_one _ (raw_bytes r) (raw_place (width (extent lo hi))) g.c g.v (raw_place (width (extent lo hi))) (omega arith) (rw (e, f) at ((x.number 0).took (0, 0)))
only-given (count_of lo hi r) = λ k g e f x.
    reads_one _ (raw_bytes r) (raw_place (width (hi - lo))) g.c g.v 0 (omega arith) (rw (e, f) at (x.size (λ n u p. alone n u p) (told-alone (raw_bytes r) g.c g.v)))
only-given (length_of s) = λ l x. reads_one _ s 0 l.c l.v 0 (omega arith) (x.then (λ n u p. alone n u p) (told-alone s l.c l.v))
only-given (small_octets cs) = λ g x. reads_one _ (small_bytes cs) 7 g.c g.v _ (omega arith) ((takes_small 2 0 refl x).took (0, 0))
only-given (frame e s) = λ r w x. ap (λ (o : Outcome). of_answer o.0) x.is
only-given (told e t s) = λ r w x. ap (λ (o : Outcome). told_in t o.0 o.1) x.is
only-given (records_of e s) = λ r w x. ap (λ (o : Outcome). counted o.0) x.is
only-given (without_words e s) = λ r w x. ap (λ (o : Outcome). of_answer o.0) x.is
only-given (zeros n a b d) = λ r w x. ap (λ (o : Outcome). of_answer o.0) x.is

-- so where the definitions give what is written, the contracts allow nothing else
head_of : Written → List Written → Written
head_of a [] = a
head_of a (b ∷ l) = b

tail_of : List Written → List Written
tail_of [] = []
tail_of (b ∷ l) = l

all-only : (l : List Row) → map defined l ≡ map written l → All (λ r. Only (asked r) (written r)) l
unfolding head_of tail_of
all-only [] e = tt
all-only ((q gives a) ∷ l) e = (subst (Only q) (ap (head_of a) e) (only-given q), all-only l (ap tail_of e))

-- the ranges of the worked fields are rows of the code's table: year, size of an airport, level, count of elements
pub worked_rows : map {B = ℕ × ℕ} (λ (k : ℕ). (lowest k, highest k)) (rows.year ∷ rows.airport_size ∷ rows.level_0 ∷ rows.elements ∷ []) ≡ (1996, 2095) ∷ (4, 4) ∷ (minus 60, 7000) ∷ (1, 5) ∷ []
unfolding lowest highest
worked_rows = refl

-- the twelve worked frames marked P
pub worked_at_the_code : All (λ r. Only (asked r) (written r)) worked
worked_at_the_code = all-only worked all-worked

-- and the frames for its other rules
pub told-apart_at_the_code : All (λ r. Only (asked r) (written r)) told-apart
told-apart_at_the_code = all-only told-apart all-told-apart

pub tested_first_at_the_code : All (λ r. Only (asked r) (written r)) tested_first
tested_first_at_the_code = all-only tested_first all_tested_first
