-- Octets that are told by where they stand, and the transport address.
use Rattle.std.specs.Prelude.{List, ℕ, ◌+◌, ◌*◌}
use Rattle.x691.specs.Bits.{bit_of}
use Rattle.atn.specs.Format.{Fmt, seq, end, ◌⨾◌, ◌⨾?◌}
use Rattle.atn.specs.Reading.{Rec, Ctx, ok, pull, spanned}
use Rattle.atn.specs.Messages.{octet_span}
use Rattle.atn.specs.Tags as tag
use Rattle.cursor.specs.declared.place.Cursor.{Cursor}
use Rattle.cursor.specs.Place.{Reads}

-- k octets, told by where they stand: tag, and where their field starts
pub record Octets (t o k : ℕ) (s : List ℕ) (c d : Cursor) (T : ℕ → List Rec) : Type 0 where
  pub took : (x : Ctx) → Reads (λ e q. pull (bit_of s) e q (k * 8) λ _. ok (q + k * 8) (spanned t x.0 o q (k * 8)) 0) s c d (T x.0)

-- the transport address behind its first octets
abbrev pub short_tsap : Fmt
short_tsap = seq (octet_span tag.ars 3 3 ⨾? octet_span tag.loc_sys_nsel_tsel 10 11 ⨾ end)
