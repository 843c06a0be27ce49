-- The rows of the table: each stands at the place that it names, and a range that the table has takes its ends from there.
use Rattle.std.proofs.Common.{◌≡◌, ℕ, zero, suc, ◌+◌, ◌<◌, List, [], ◌∷◌, map, length, get_or, sym, refl, ap, ◌∙◌, le_of_suc-le-suc, not-suc-le-zero, add-zero, add-suc, suc-add, zero-add}
use Rattle.field_ranges.specs.declared.table.Range.{Range}
use Rattle.field_ranges.specs.Ranges.{row, table, row_at, Listed}
use Rattle.field_ranges.specs.Ends.{lowest, highest}

-- by the table's row
pub lowest_of : {r : Range} → Listed r → lowest r.row ≡ r.lo
unfolding lowest
lowest_of l = sym (ap (λ (x : Range). x.lo) l)

pub highest_of : {r : Range} → Listed r → highest r.row ≡ r.hi
unfolding highest
highest_of l = sym (ap (λ (x : Range). x.hi) l)

-- the places, by one test over the table
counted_from : ℕ → List Range → List ℕ
counted_from k [] = []
counted_from k (r ∷ rs) = k ∷ counted_from (suc k) rs

counted : (j k : ℕ) (rs : List Range) → k < length rs → get_or (counted_from j rs) k 0 ≡ j + k
unfolding counted_from
counted j k [] h = absurd (not-suc-le-zero h)
counted j zero (r ∷ rs) h = sym (add-zero j)
counted j (suc k) (r ∷ rs) h = counted (suc j) k rs (le_of_suc-le-suc h) ∙ suc-add j k ∙ sym (add-suc j k)

number_of : Range → ℕ
number_of r = r.row

numbers : (rs : List Range) (k : ℕ) → get_or (map number_of rs) k 0 ≡ (get_or rs k (row 0 0 0)).row
unfolding number_of
numbers [] k = refl
numbers (r ∷ rs) zero = refl
numbers (r ∷ rs) (suc k) = numbers rs k

places : map number_of table ≡ counted_from 0 table
unfolding number_of counted_from
places = refl

pub in_place : (k : ℕ) → k < 59 → Listed (row_at k) × ((row_at k).row ≡ k)
in_place k h = let n : (row_at k).row ≡ k = sym (numbers table k) ∙ ap (λ (ns : List ℕ). get_or ns k 0) places ∙ counted 0 k table h ∙ zero-add k in (ap row_at (sym n), n)
