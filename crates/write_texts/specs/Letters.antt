-- A text as it is read when it is written: character by character, word by word, record by record.
use Rattle.std.specs.Prelude.{cond, ◌&&◌, List, [], ◌∷◌, ◌++◌, ℕ, zero, suc, ◌-◌, ◌/◌, ◌%◌, ◌^◌, min, leb, ltb, eqb}
use Rattle.record_lists.specs.Items.{Item, plain}
use Rattle.record_lists.specs.Parse.{value_of, Got, no, got, peel, feed, turn}

-- one of the n characters from code c on, by its place among them
unfoldable pub in_octet : ℕ → ℕ → ℕ → List Item → Got ℕ
in_octet n c x R = cond (leb c x && ltb (x - c) n) (got (x - c) R) no

-- j characters from the highest of k octets on; behind them are zeros
unfoldable pub in_word : ℕ → ℕ → ℕ → ℕ → ℕ → List Item → Got (List ℕ)
in_word n c zero k w R = cond (eqb w 0) (got [] R) no
in_word n c (suc j) zero w R = no
in_word n c (suc j) (suc k) w R = feed (in_octet n c (w / 256 ^ k) R) λ u S. turn (λ us. u ∷ us) (in_word n c j k (w % 256 ^ k) S)

-- j characters of a text of s, in the record at the front, with tag t and element number e
unfoldable pub in_record : ℕ → ℕ → ℕ → ℕ → ℕ → ℕ → List Item → Got (List ℕ)
in_record t e n c s j R = feed (peel (plain t e (value_of R) s ∷ []) zero R) λ _ S. in_word n c j 8 (value_of R) S

-- k characters in i records
unfoldable pub in_records : ℕ → ℕ → ℕ → ℕ → ℕ → ℕ → ℕ → List Item → Got (List ℕ)
in_records t e n c s zero k R = got [] R
in_records t e n c s (suc i) k R = feed (in_record t e n c s (min 8 k) R) λ us S. turn (λ vs. us ++ vs) (in_records t e n c s i (k - 8) S)
