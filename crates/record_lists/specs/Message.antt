-- `write_message`: the complete answer, and what the lent bytes hold afterwards.
use Rattle.std.specs.Prelude.{Bool, cond, ◌&&◌, List, [], ◌∷◌, ◌++◌, ℕ, zero, suc, ◌+◌, ◌*◌, ◌/◌, ◌%◌, length, drop, get_or, leb, ltb, eqb}
use Rattle.std.proofs.Math.Option.{Option, none, some}
use Rattle.x691.specs.Bits.{bit_of, uint}
use Rattle.atn.specs.Format.{Fmt}
use Rattle.atn.specs.Reading.{Rec, rec}
use Rattle.atn.specs.Entries.{table_fits, direction_fits}
use Rattle.record_lists.specs.Kinds.{span_tag, kind_of}
use Rattle.record_lists.specs.Write.{write}

-- k records of five words, from record i on
unfoldable pub records_from : List ℕ → ℕ → ℕ → List Rec
records_from W i zero = []
records_from W i (suc k) = rec (get_or W (i * 5) 0) (get_or W (i * 5 + 1) 0) (get_or W (i * 5 + 2) 0) (get_or W (i * 5 + 3) 0) (get_or W (i * 5 + 4) 0) ∷ records_from W (suc i) k

unfoldable pub records_of : List ℕ → List Rec
records_of W = records_from W 0 (length W / 5)

-- n bytes of a list of bits, from byte j on; behind the last bit all are 0
unfoldable pub bytes_from : List ℕ → ℕ → ℕ → List ℕ
bytes_from B j zero = []
bytes_from B j (suc n) = uint (λ i. get_or B i 0) (j * 8) 8 ∷ bytes_from B (suc j) n

-- "padded with zero bits to a byte"
unfoldable pub bytes_needed : List ℕ → ℕ
bytes_needed B = (length B + 7) / 8

unfoldable pub bytes_of : List ℕ → List ℕ
bytes_of B = bytes_from B 0 (bytes_needed B)

-- written: the number of bits; refused: the number of the refusal, and the bytes needed, which only 9 has
pub data Written : Type 0 where
  written : ℕ → Written
  refused : ℕ → ℕ → Written

-- a list is of whole records, below 2^32 of them; no machine has 2^56 bytes for spans to point into
unfoldable pub list_fits : List ℕ → List ℕ → Bool
list_fits W s = (eqb (length W % 5) 0 && ltb (length W / 5) 4294967296) && ltb (length s) 72057594037927936

unfoldable pub bits_of_message : Option Fmt → List ℕ → List ℕ → Option (List ℕ)
bits_of_message none W s = none
bits_of_message (some f) W s = cond (list_fits W s) (write span_tag f (bit_of s) (length s * 8) (records_of W)) none

unfoldable pub settled : Option (List ℕ) → List ℕ → Written × List ℕ
settled none out = (refused 8 0, out)
settled (some B) out = cond (leb (bytes_needed B) (length out)) (written (length B), bytes_of B ++ drop (bytes_needed B) out) (refused 9 (bytes_needed B), out)

-- kind, direction, down table, up table, the list's words, the bytes that its spans point into, the bytes lent: the refusals in their order
unfoldable pub write_message : ℕ → ℕ → List ℕ → List ℕ → List ℕ → List ℕ → List ℕ → Written × List ℕ
write_message k d down up W s out =
    cond (table_fits down && table_fits up) (cond (direction_fits d) (settled (bits_of_message (kind_of k d down up) W s) out) (refused 3 0, out)) (refused 2 0, out)
