-- How many records a value of a format has at most.
use Rattle.std.specs.Prelude.{ℕ, ◌+◌, ◌*◌, ◌/◌, max}
use Rattle.atn.specs.Format.{Fmt, num, listed, name, text, span, any_span, skipped, small, null, noted, placed, marked, refuse, element, ext, seq, loose, choice, many, inner, soft, lax}
use Rattle.atn.specs.Format.{Flds, end, ◌⨾◌, ◌⨾?◌, or_note, unread, Alts, none_left, ◌∥◌, Letters, first, numeric}

-- how many texts the characters are told by
abbrev pub texts : Letters → ℕ
texts (first c) = 1
texts (numeric v) = 2

unfoldable mutual
  pub most : Fmt → ℕ
  most (num t lo hi) = 1
  most (listed t hi xs) = 1
  most (name t hi) = 1
  most (text t n c lo hi) = texts c * ((hi + 7) / 8)
  most (span t w lo hi) = 1
  most (any_span t w) = 1
  most (skipped m) = 0
  most (small m t) = 0
  most null = 0
  most (noted t y s f) = 1 + most f
  most (placed t f) = 1 + most f
  most (marked m) = 0
  most (refuse w m) = 0
  most (element f) = most f
  most (ext f g) = most f
  most (seq fs) = most_fields fs
  most (loose fs) = most_fields fs
  most (choice t fs) = 1 + most_alts fs
  most (many lo hi f) = hi * most f
  most (inner f) = most f
  most (soft m r f) = most f
  most (lax m j f) = most f

  pub most_fields : Flds → ℕ
  most_fields end = 0
  most_fields (f ⨾ fs) = most f + most_fields fs
  most_fields (f ⨾? fs) = most f + most_fields fs
  most_fields (or_note t y s f fs) = max 1 (most f) + most_fields fs
  most_fields (unread t fs) = most_fields fs

  pub most_alts : Alts → ℕ
  most_alts none_left = 0
  most_alts (f ∥ fs) = max (most f) (most_alts fs)
