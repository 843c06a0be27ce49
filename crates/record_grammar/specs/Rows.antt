-- A walk by rows: which records a row takes, and where the walk stands behind one.
use Rattle.std.specs.Prelude.{Bool, false, cond, ◌&&◌, List, ℕ, zero, suc, ◌+◌, ◌-◌, ◌*◌, leb, ltb, eqb, get_or}
use Rattle.record_views.specs.declared.Record.{Record}
use Rattle.record_grammar.specs.declared.Row.{Row}
use Rattle.record_grammar.specs.declared.Walk.{Walk}
use Rattle.record_grammar.specs.Kinds.{number, reason, release, text, span, index, clearance, place, channel, digits, spaced, note}
use Rattle.record_grammar.specs.Octets.{within, characters_fit}

---------------------------------------------------------------- rows

-- number j of row k, 0 where the rows have none
unfoldable pub row_word : List ℕ → ℕ → ℕ → ℕ
row_word N k j = get_or N (k * 8 + j) 0

unfoldable pub row_at : List ℕ → ℕ → Row
row_at N k =
    record { tag = row_word N k 0; kind = row_word N k 1; low = row_word N k 2; size = row_word N k 3; next = row_word N k 4; otherwise = row_word N k 5; back = row_word N k 6; last = row_word N k 7 }

---------------------------------------------------------------- what a record holds

-- a number; where the second number is not 0 it is at most `most`, and the value 0
unfoldable pub numbered : ℕ → Row → Record → Bool
numbered most r x = cond (eqb x.second 0) (within r.low r.size x.value) (leb x.second most && eqb x.value 0)

-- the characters that are left, this record's included
unfoldable pub unheard : Walk → Record → ℕ
unheard s x = cond (eqb s.left 0) x.second s.left

-- a text's first record, or a later one
unfoldable pub length_fits : Row → Walk → Record → Bool
length_fits r s x = cond (eqb s.left 0) (within r.low r.size x.second) (eqb x.second s.whole)

unfoldable pub lettered : Row → Walk → Record → Bool
lettered r s x = length_fits r s x && characters_fit 0 (unheard s x) 0 x.value

-- the longest frame has 524,288 bits
unfoldable pub spanned : Row → Record → Bool
spanned r x = within r.low r.size x.second && leb (x.value + x.second) 524288

-- the number behind n, at most `size`
unfoldable pub counted : ℕ → Row → Record → Bool
counted n r x = eqb x.second 0 && (ltb n r.size && eqb x.value (n + 1))

-- a part of a satellite channel, by a rule for its characters
unfoldable pub channelled : ℕ → Row → Walk → Record → Bool
channelled rule r s x = eqb x.second 12 && characters_fit rule r.low s.earlier x.value

unfoldable pub all_digits : Row → Walk → Record → Bool
all_digits r s x = channelled 2 r s x && characters_fit 2 8 0 s.before

unfoldable pub noted : Row → Record → Bool
noted r x = eqb x.value r.low && eqb x.second r.size

-- by the kind of the row
unfoldable pub holds : Row → Walk → Record → Bool
holds r s x =
    cond (eqb r.kind number)
    (numbered 0 r x)
    (cond (eqb r.kind reason)
    (numbered 1 r x)
    (cond (eqb r.kind release)
    (numbered 2 r x)
    (cond (eqb r.kind text)
    (lettered r s x)
    (cond (eqb r.kind span)
    (spanned r x)
    (cond (eqb r.kind index)
    (numbered 0 r x)
    (cond (eqb r.kind clearance)
    (counted s.clearance r x)
    (cond (eqb r.kind place)
    (counted s.place r x)
    (cond (eqb r.kind channel)
    (channelled 1 r s x)
    (cond (eqb r.kind digits)
    (all_digits r s x)
    (cond (eqb r.kind spaced)
    (channelled 3 r s x)
    (cond (eqb r.kind note)
    (noted r x)
    false)))))))))))

-- the element number of what begins no element: of spans, clearances and notes, which stand outside elements, 0
unfoldable pub element_kept : ℕ → ℕ → ℕ
element_kept k e = cond (eqb k span) 0 (cond (eqb k clearance) 0 (cond (eqb k note) 0 e))

-- an index begins the next of at most 8 elements
unfoldable pub element_fits : Row → Walk → Record → Bool
element_fits r s x = cond (eqb r.kind index) (ltb s.element 8 && eqb x.element (s.element + 1)) (eqb x.element (element_kept r.kind s.element))

-- the record is this row's
unfoldable pub fits : Row → Walk → Record → Bool
fits r s x = eqb x.tag r.tag && (element_fits r s x && holds r s x)

---------------------------------------------------------------- the walk

-- rows 1 and 2 stand for others
unfoldable pub resolved : Walk → ℕ → ℕ
resolved s k = cond (eqb k 1) s.back (cond (eqb k 2) s.last k)

-- the next row to be asked; within a text there is none
unfoldable pub asked : Row → Walk → ℕ
asked r s = cond (eqb s.left 0) r.otherwise 0

-- the first row whose record this is, of at most g; or row 0, which takes none
unfoldable pub found : List ℕ → ℕ → Walk → ℕ → Record → ℕ
found N zero s k x = 0
found N (suc g) s k x = let j : ℕ = resolved s k in cond (fits (row_at N j) s x) j (found N g s (asked (row_at N j) s) x)

-- the characters left behind this record
unfoldable pub left_behind : Row → Walk → Record → ℕ
left_behind r s x = cond (eqb r.kind text) (unheard s x - 8) 0

unfoldable pub or_kept : ℕ → ℕ → ℕ
or_kept n kept = cond (eqb n 0) kept n

-- within a text the row stays
unfoldable pub row_behind : ℕ → ℕ → ℕ → ℕ
row_behind left j next = cond (eqb left 0) next j

unfoldable pub element_behind : Row → Walk → Record → ℕ
element_behind r s x = cond (eqb r.kind index) x.element (element_kept r.kind s.element)

unfoldable pub clearance_behind : Row → Walk → Record → ℕ
clearance_behind r s x = cond (eqb r.kind clearance) x.value s.clearance

-- places are counted anew in each clearance
unfoldable pub place_behind : Row → Walk → Record → ℕ
place_behind r s x = cond (eqb r.kind place) x.value (cond (eqb r.kind clearance) 0 s.place)

-- behind a record that row j took
unfoldable pub onward : ℕ → Row → Walk → Record → Walk
onward j r s x =
    record {
      at = row_behind (left_behind r s x) j r.next;
      back = or_kept r.back s.back;
      last = or_kept r.last s.last;
      element = element_behind r s x;
      clearance = clearance_behind r s x;
      place = place_behind r s x;
      whole = x.second;
      left = left_behind r s x;
      before = x.value;
      earlier = s.before;
    }

-- no more than 64 rows are asked for a record
unfoldable pub stepped : List ℕ → Walk → Record → Walk
stepped N s x = let j : ℕ = found N 64 s s.at x in onward j (row_at N j) s x
