-- What was read of the parts of a format.
use Rattle.std.specs.Prelude.{ℕ, List, []}
use Rattle.x691.specs.Bits.{bit_of}
use Rattle.atn.specs.Format.{Fmt, Flds}
use Rattle.atn.specs.Reading.{Rec, Ctx, ok, fork, times, read, read_fields}
use Rattle.cursor.specs.declared.place.Cursor.{Cursor}
use Rattle.cursor.specs.Place.{Reads}

-- the fields of a sequence, whose next presence bit stands at q
pub record Fields (fs : Flds) (s : List ℕ) (c d : Cursor) (q : ℕ) (T : ℕ → List Rec) : Type 0 where
  pub took : (x : Ctx) → Reads (λ u p. read_fields fs x (bit_of s) u q p) s c d (T x.0)

-- a part that stands there unless its presence bit is clear
pub record Maybe (has : ℕ) (f : Fmt) (s : List ℕ) (c d : Cursor) (T : ℕ → List Rec) : Type 0 where
  pub took : (x : Ctx) → Reads (λ u p. fork has (ok p [] 0) (read f x (bit_of s) u p)) s c d (T x.0)

-- n parts of a list, the first with the place i
pub record Times (f : Fmt) (i n : ℕ) (s : List ℕ) (c d : Cursor) (T : ℕ → List Rec) : Type 0 where
  pub took : (x : Ctx) → Reads (λ u p. times (λ j q. read f (x.0, j) (bit_of s) u q) i n p) s c d (T x.0)
