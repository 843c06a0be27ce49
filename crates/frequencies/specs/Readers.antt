-- What the readers of frequencies read: the formats of document 01, the records of their values, and the kind of a channel.
use Rattle.std.specs.Prelude.{◌≡◌, List, ℕ}
use Rattle.atn.specs.Messages as message
use Rattle.cursor.specs.declared.place.Cursor.{Cursor}
use Rattle.cursor.specs.declared.place.Got.{Got}
use Rattle.cursor.specs.Place.{Takes}
use Rattle.frequencies.specs.declared.Frequency.{Frequency}
use Rattle.frequencies.specs.declared.Frequency.TheVariants.{Number, Channel}
use Rattle.frequencies.specs.Records.{frequency_recs, HeldFrequency}

-- a channel that was read is kind 3, which is the index of its alternative in message.frequency
abbrev pub KindRead : Frequency → Type 0
KindRead (Number kind kind_at number number_at) = Unit {0}
KindRead (Channel kind kind_at digits) = kind ≡ 3

pub record Frequencies (s : List ℕ) (c : Cursor) (r : Got Frequency) : Type 0 where
  pub reads : Takes message.frequency s c r.c (frequency_recs s r.v)
  -- whatever was read
  pub held : HeldFrequency s r.v
  pub kind : KindRead r.v
