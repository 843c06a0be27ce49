-- The records of lent words, five words each, and what they show.
use Rattle.std.specs.Prelude.{List, ℕ, ◌-◌}
use Rattle.atn.specs.Reading.{Rec}
use Rattle.record_lists.specs.Items.{Item, look}
use Rattle.record_lists.specs.Kinds.{span_tag}
use Rattle.record_lists.specs.Message.{records_from}

-- the records from i to m
unfoldable pub rest : List ℕ → ℕ → ℕ → List Rec
rest W m i = records_from W i (m - i)

-- b are the bits that spans point into
unfoldable pub items : (ℕ → ℕ) → List ℕ → ℕ → ℕ → List Item
items b W m i = look span_tag b (rest W m i)
