-- "Reading that by its entry gives the same records back, clean, with the reach before the padding; spans may move but show the same bits"
use Rattle.std.specs.Prelude.{◌≡◌, true, false, List, ◌++◌, ℕ, ◌+◌, ◌*◌, ◌/◌, ◌≤◌, length, take, drop}
use Rattle.x691.specs.Bits.{bit_of}
use Rattle.atn.specs.Reading.{Rec}
use Rattle.atn.specs.Entries.{Outcome, accepted, flat, need}
use Rattle.record_lists.specs.Items.{look, inside}
use Rattle.record_lists.specs.Kinds.{span_tag}
use Rattle.record_lists.specs.Message.{records_of}

-- the lent bytes that n bits fill, the last with its padding
abbrev pub filled : ℕ → List ℕ → List ℕ
filled n out = take ((n + 7) / 8) out

-- n bits were written from the list W, whose spans point into the bytes s. The frame t is the bytes that they fill, and
-- `entry` reads it into lent words
pub record GivenBack (W s t : List ℕ) (n : ℕ) (entry : List ℕ → Outcome) : Type 0 where
  pub recs : List Rec
  -- any words with room for the records get them, clean, with reach n; the words behind stay
  pub given : (w : List ℕ) → need recs ≤ length w → entry w ≡ (accepted false n 0 (length recs), flat recs ++ drop (need recs) w)
  -- they show what the list shows: the same records, wherever their fields start now, and for a span the same bits
  pub same : look span_tag (bit_of t) recs ≡ look span_tag (bit_of s) (records_of W)
  pub within : inside span_tag (length t * 8) recs ≡ true
