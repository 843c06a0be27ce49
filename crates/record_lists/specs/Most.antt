-- How many bits a value of a format has at most. What is inside an inner string counts by the length that this may have.
use Rattle.std.specs.Prelude.{ℕ, ◌+◌, ◌-◌, ◌*◌, max}
use Rattle.x691.specs.Types.{extent}
use Rattle.x691.specs.Encoding.{width, highest}
use Rattle.atn.specs.Format.{Fmt, num, listed, name, text, span, any_span, skipped, small, null, noted, placed, marked, refuse, element, ext, seq, loose, choice, many, inner, soft, lax}
use Rattle.atn.specs.Format.{Flds, end, ◌⨾◌, ◌⨾?◌, or_note, unread, Alts, none_left, ◌∥◌, alternatives_of}
use Rattle.atn.specs.Reading.{flags}

unfoldable mutual
  pub most : Fmt → ℕ
  most (num t lo hi) = width (extent lo hi)
  most (listed t hi xs) = width hi
  most (name t hi) = width (extent 0 hi)
  most (text t n c lo hi) = width (hi - lo) + hi * width (n - 1)
  most (span t w lo hi) = width (hi - lo) + hi * w
  most (any_span t w) = 16 + 16384 * w
  most (skipped m) = 0
  most (small m t) = 0
  most null = 0
  most (noted t y s f) = most f
  most (placed t f) = most f
  most (marked m) = 0
  most (refuse w m) = 0
  most (element f) = most f
  most (ext f g) = 1 + most f
  most (seq fs) = flags fs + most_fields fs
  most (loose fs) = flags fs + most_fields fs
  most (choice t fs) = width (highest (alternatives_of fs)) + most_alts fs
  most (many lo hi f) = width (hi - lo) + hi * most f
  most (inner f) = 16 + 16384
  most (soft m r f) = most f
  most (lax m j f) = most f

  pub most_fields : Flds → ℕ
  most_fields end = 0
  most_fields (f ⨾ fs) = most f + most_fields fs
  most_fields (f ⨾? fs) = most f + most_fields fs
  most_fields (or_note t y s f fs) = most f + most_fields fs
  most_fields (unread t fs) = most_fields fs

  pub most_alts : Alts → ℕ
  most_alts none_left = 0
  most_alts (f ∥ fs) = max (most f) (most_alts fs)
