-- The records of a frequency, by their tags and the element that they stand in.
use Rattle.std.specs.Prelude.{List, [], ◌∷◌, ℕ, ◌≤◌}
use Rattle.atn.specs.Reading.{Rec, rec}
use Rattle.atn.specs.Tags as tag
use Rattle.character_strings.specs.declared.Text.{Text}
use Rattle.character_strings.specs.Texts.{channel_recs, InFrame}
use Rattle.frequencies.specs.declared.Frequency.{Frequency}
use Rattle.frequencies.specs.declared.Frequency.TheVariants.{Number, Channel}

unfoldable pub frequency_recs : List ℕ → Frequency → ℕ → List Rec
frequency_recs s (Number kind kind_at number number_at) n = rec tag.frequency n kind 0 kind_at ∷ rec tag.frequency_number n number 0 number_at ∷ []
frequency_recs s (Channel kind kind_at digits) n = rec tag.frequency n kind 0 kind_at ∷ channel_recs tag.satellite_channel tag.satellite_channel_x691 n s digits

-- a channel that can be told: its digits are in the frame, and few
pub record HeldChannel (s : List ℕ) (x : Text) : Type 0 where
  pub few : x.len ≤ 12
  pub there : InFrame 4 s x

-- the frequency can be told: so can a channel in it
abbrev pub HeldFrequency : List ℕ → Frequency → Type 0
HeldFrequency s (Number kind kind_at number number_at) = Unit {0}
HeldFrequency s (Channel kind kind_at digits) = HeldChannel s digits
