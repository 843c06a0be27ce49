-- The header of a forward message from its parts.
use mathlib.Core.Path.{◌≡◌, refl, sym, ap, ◌∙◌}
use mathlib.Core.List.{List, [], ◌∷◌}
use Prim.Native.Nat.{ℕ, ◌+◌, ◌*◌}
use native.Mathlib.Omega.{arith}
use Rattle.x691.specs.Bits.{bit_of, bits_of, Spells}
use Rattle.x691.specs.Encoding.{width, width_in, size_bits}
use Rattle.atn.specs.Format.{span}
use Rattle.atn.specs.Reading.{rec, Ctx, Ans, ok, pull, spanned, flags, read}
use Rattle.atn.proofs.Steps.{sized_go}
use Rattle.cursor.specs.declared.place.Cursor.{Cursor}
use Rattle.cursor.specs.declared.place.Got.{Got}
use Rattle.character_strings.specs.declared.Text.{Text}
use Rattle.length_determinants.specs.Lengths.{Passes}
use Rattle.field_ranges.specs.Rows as rows
use Rattle.field_ranges.specs.Ends.{lowest, highest}
use Rattle.cursor.specs.Place.{Inside, Takes}
use Rattle.character_strings.specs.Texts.{Texts}
use Rattle.cursor.proofs.Laws.{reads_same}
use Rattle.length_determinants.proofs.LengthLaws.{passes_ok}
use Rattle.cursor.proofs.FormatLaws.{all_read, takes_plain, fields_must, fields_last}
use Rattle.date_times.specs.declared.DateTime.{DateTime}
use Rattle.date_times.specs.Times.{DateTimes}
use Rattle.forward_headers.specs.Headers.{Headers}

-- the 24 bits of the address
module _ {s : List ℕ} {c d : Cursor} (passes : Passes c 24 d) where
  address : Takes (span 20 1 24 24) s c d (λ n. rec 20 n c.at 24 c.at ∷ [])
  unfolding read width width_in size_bits bits_of Spells spanned
  address =
      record {
        took = λ x.
            record {
              led = λ i.
                  (reads_same (λ e q. pull (bit_of s) e q 24 λ _. ok (q + 24) (rec 20 x.0 c.at 24 c.at ∷ []) 0) (λ e q. read (span 20 1 24 24) x (bit_of s) e q) (same x i) (passes_ok passes)).led i;
            };
      }
    where
      bits : Ctx → ℕ → ℕ → Ans
      bits x n q = pull (bit_of s) c.end q (n * 1) λ _. ok (q + n * 1) (spanned 20 x.0 c.at q (n * 1)) 0

      same : (x : Ctx) → Inside s c → pull (bit_of s) c.end c.at 24 (λ _. ok (c.at + 24) (rec 20 x.0 c.at 24 c.at ∷ []) 0) ≡ read (span 20 1 24 24) x (bit_of s) c.end c.at
      same x i = sym (sized_go (bit_of s) c.end c.at 24 24 24 (bits x) (omega arith) (omega arith) tt (omega (arith, i.0)) ∙ ap (λ (q : ℕ). bits x 24 q) (omega arith))

pub header_read : {s : List ℕ} {c d : Cursor} {t : Got DateTime} {x : Got Text} → DateTimes s c t → Texts rows.flight_size s t.c x → Passes x.c 24 d
    → Headers s c (record { v = record { time = t.v; name = x.v; address = x.c.at }; c = d })
unfolding lowest highest flags all_read
header_read h g p = record { takes = takes_plain refl refl (fields_must h.takes (fields_must (g.text 19) (fields_last (address p)))); few = g.few; held = g.held }
