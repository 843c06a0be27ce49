-- The words of records, and the texts that records hold.
use Rattle.std.specs.Prelude.{List, [], ◌∷◌, ◌++◌, ℕ, zero, suc, ◌+◌, ◌*◌, ◌/◌, ◌%◌, ◌-◌, ◌^◌, min, get_or}
use Rattle.atn.specs.Reading.{Rec, rec}
use Rattle.record_views.specs.View.{fetched}

-- of record i of a list: a record that is missing counts as zeros
unfoldable pub tag : List Rec → ℕ → ℕ
tag R i = (fetched (get_or R i (rec 0 0 0 0 0))).tag

unfoldable pub value : List Rec → ℕ → ℕ
value R i = (fetched (get_or R i (rec 0 0 0 0 0))).value

unfoldable pub second : List Rec → ℕ → ℕ
second R i = (fetched (get_or R i (rec 0 0 0 0 0))).second

-- the length of the text that starts the records: its second number; no text of an argument has more than 32 characters
unfoldable pub text_length : List Rec → ℕ
text_length R = min (second R 0) 32

-- its records: eight characters each
unfoldable pub text_records : List Rec → ℕ
text_records R = (text_length R + 7) / 8

-- character j of it: the first of eight is in the highest octet
unfoldable pub character : List Rec → ℕ → ℕ
character R j = value R (j / 8) / 2 ^ (56 - j % 8 * 8) % 256

-- its first k characters
unfoldable pub characters : List Rec → ℕ → List ℕ
characters R zero = []
characters R (suc k) = characters R k ++ character R k ∷ []

unfoldable pub text : List Rec → List ℕ
text R = characters R (text_length R)
