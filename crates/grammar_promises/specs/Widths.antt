-- Every number, name, text and span of the messages has a row whose range is what its bits can hold.
use Rattle.std.specs.Prelude.{Bool, true, false, cond, ◌&&◌, ◌||◌, List, [], ◌∷◌, ℕ, zero, suc, ◌+◌, ◌-◌, ◌*◌, ◌^◌, ltb, eqb, get_or, drop}
use Rattle.atn.specs.Format.{Fmt, num, listed, name, text, span, any_span, skipped, small, null, noted, placed, marked, refuse, element, ext, seq, loose, choice, many, inner, soft, lax}
use Rattle.atn.specs.Format.{Flds, end, ◌⨾◌, ◌⨾?◌, or_note, unread, Alts, none_left, ◌∥◌, first, numeric}
use Rattle.x691.specs.Types.{extent}
use Rattle.x691.specs.Encoding.{width}

-- one of the first g rows takes the tag, with these two numbers for its range
unfoldable pub has_row : ℕ → List ℕ → ℕ → ℕ → ℕ → Bool
has_row zero N t low size = false
has_row (suc g) N t low size = (eqb (get_or N 0 0) t && (eqb (get_or N 2 0) low && eqb (get_or N 3 0) size)) || has_row g (drop 8 N) t low size

-- n numbers from lo on; below zero they stand in two rows, at the end of the 64-bit words and at their beginning
unfoldable pub number_rows : (ℕ → ℕ → ℕ → Bool) → ℕ → ℕ → ℕ → Bool
number_rows has t lo n = cond (ltb lo (2 ^ 63)) (has t lo n) (has t lo (2 ^ 64 - lo) && has t 0 (n - (2 ^ 64 - lo)))

-- so many bits from lo on, n sizes
unfoldable pub span_rows : (ℕ → ℕ → ℕ → Bool) → ℕ → ℕ → ℕ → ℕ → Bool
span_rows has t w lo zero = true
span_rows has t w lo (suc n) = has t (lo * w) 1 && span_rows has t w (suc lo) n

-- the fields of a format; a list's places, notes and the indices of choices are no fields
unfoldable mutual
  pub heard_by : (ℕ → ℕ → ℕ → Bool) → Fmt → Bool
  heard_by has (num t lo hi) = number_rows has t lo (2 ^ width (extent lo hi))
  heard_by has (listed t hi xs) = has t 0 (2 ^ width hi)
  heard_by has (name t hi) = has t 0 (hi + 1)
  heard_by has (text t n (first c) lo hi) = has t lo (2 ^ width (hi - lo))
  heard_by has (text t n (numeric u) lo hi) = has t 8 0 && has u 8 0
  heard_by has (span t w lo hi) = span_rows has t w lo (hi - lo + 1)
  heard_by has (any_span t w) = has t 1 524288
  heard_by has (skipped m) = true
  heard_by has (small m t) = has t 0 (2 ^ 63) && has t (2 ^ 63) (2 ^ 63)
  heard_by has null = true
  heard_by has (noted t v s f) = heard_by has f
  heard_by has (placed t f) = heard_by has f
  heard_by has (marked m) = true
  heard_by has (refuse w m) = true
  heard_by has (element f) = heard_by has f
  heard_by has (ext f g) = heard_by has f && heard_by has g
  heard_by has (seq fs) = all_heard has fs
  heard_by has (loose fs) = all_heard has fs
  heard_by has (choice t fs) = each_heard has fs
  heard_by has (many lo hi f) = heard_by has f
  heard_by has (inner f) = heard_by has f
  heard_by has (soft m k f) = heard_by has f
  heard_by has (lax m j f) = heard_by has f

  pub all_heard : (ℕ → ℕ → ℕ → Bool) → Flds → Bool
  all_heard has end = true
  all_heard has (f ⨾ fs) = heard_by has f && all_heard has fs
  all_heard has (f ⨾? fs) = heard_by has f && all_heard has fs
  all_heard has (or_note t v s f fs) = heard_by has f && all_heard has fs
  all_heard has (unread t fs) = has t 1 1 && all_heard has fs

  pub each_heard : (ℕ → ℕ → ℕ → Bool) → Alts → Bool
  each_heard has none_left = true
  each_heard has (f ∥ fs) = heard_by has f && each_heard has fs

-- each of a list of formats
unfoldable pub list_heard : (ℕ → ℕ → ℕ → Bool) → List Fmt → Bool
list_heard has [] = true
list_heard has (f ∷ fs) = heard_by has f && list_heard has fs
