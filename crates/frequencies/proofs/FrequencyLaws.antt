-- A frequency from its index: a number of the rows, or what stands behind them.
use mathlib.Core.Path.{◌≡◌, refl}
use mathlib.Core.List.{List, [], ◌∷◌}
use Prim.Native.Nat.{ℕ, zero, suc, ◌+◌, ◌≤◌, ◌<◌}
use native.Mathlib.Omega.{arith}
use Rattle.x691.specs.Encoding.{width, width_in, count}
use Rattle.x691.specs.Encoding as encoding
use Rattle.atn.specs.Format.{Alts, none_left, ◌∥◌}
use Rattle.atn.specs.Reading.{rec, read_choice}
use Rattle.atn.specs.Messages as message
use Rattle.cursor.specs.declared.place.Cursor.{Cursor}
use Rattle.cursor.specs.declared.place.Got.{Got}
use Rattle.character_strings.specs.declared.Text.{Text}
use Rattle.cursor.specs.Place.{Pulls, Takes}
use Rattle.field_ranges.specs.Rows as rows
use Rattle.field_ranges.specs.Ends.{lowest, highest}
use Rattle.ranged_numbers.specs.Numbers.{rows_then, Ranged}
use Rattle.character_strings.specs.Texts.{Channel, channel_recs}
use Rattle.ranged_numbers.proofs.ChoiceLaws.{takes_index, takes_row}
use Rattle.frequencies.specs.declared.Frequency.TheVariants.{Number}
use Rattle.frequencies.specs.declared.Frequency.TheVariants as frequency
use Rattle.frequencies.specs.Records.{frequency_recs}
use Rattle.frequencies.specs.Readers.{Frequencies}
use Rattle.frequencies.proofs.Indices.{pulls_last}

abbrev behind : Alts
behind = message.numeric_string 59 73 12 12 ∥ none_left

module _ {s : List ℕ} {c : Cursor} (g : Got ℕ) (p : Pulls s c 2 g) where
  pub frequency_number : (r : Got ℕ) → g.v < 3 → Ranged (rows.frequency_0 + g.v) s g.c r
      → Frequencies s c (record { v = Number g.v c.at r.v g.c.at; c = r.c })
  unfolding frequency_recs lowest highest width width_in encoding.highest count
  frequency_number r l h =
      let y : Takes message.frequency s c r.c (λ n. rec 57 n g.v 0 c.at ∷ rec 58 n r.v 0 g.c.at ∷ []) = takes_row 57 58 rows.frequency_0 3 behind g p r l h in
      record {
        reads = y;
        held = tt;
        kind = tt;
      }

  pub frequency-channel : (r : Got Text) → 3 ≤ g.v → Channel s g.c r → Frequencies s c (record { v = frequency.Channel 3 c.at r.v; c = r.c })
  unfolding read_choice frequency_recs lowest highest width width_in encoding.highest count
  frequency-channel r l h =
      record {
        reads = takes_index 57 (rows_then 58 rows.frequency_0 3 behind) 3 _ (record { v = 3; c = g.c }) (pulls_last 2 3 g refl p l) refl (λ x u q. refl) (h.channel 59 73);
        held = record { few = h.few; there = h.held };
        kind = refl;
      }
