-- What is owed by a function that tells what it reads.
use Rattle.std.specs.Prelude.{List, ℕ}
use Rattle.x691.specs.Bits.{bit_of}
use Rattle.atn.specs.Format.{Fmt, Alts}
use Rattle.atn.specs.Reading.{Rec, Ctx, read, read_choice}
use Rattle.cursor.specs.declared.place.Cursor.{Cursor}
use Rattle.cursor.specs.Place.{Reads}
use Rattle.records.specs.Told.{Told}
use Rattle.runs.specs.declared.At.{At}

-- P was read from a to z, and its records, at most b of them, were told in the element m: then the words are w' where they were w.
-- P speaks of two cursors and of what is told in an element; behind a failure it says nothing of that.
pub record Does (b m : ℕ) (P : Cursor → Cursor → (ℕ → List Rec) → Type 0) (a z : At) (w w' : List ℕ) : Type 0 where
  pub recs : ℕ → List Rec
  pub reads : P a.c z.c recs
  pub told : Told b w w' a.n z.n (recs m)

-- the alternative with the index i
pub record Alternative (fs : Alts) (i : ℕ) (s : List ℕ) (c d : Cursor) (T : ℕ → List Rec) : Type 0 where
  pub took : (x : Ctx) → Reads (λ e q. read_choice fs i x (bit_of s) e q) s c d (T x.0)

-- the part of a list with the place i
pub record InPlace (f : Fmt) (i : ℕ) (s : List ℕ) (c d : Cursor) (T : ℕ → List Rec) : Type 0 where
  pub took : (x : ℕ) → Reads (λ e p. read f (x, i) (bit_of s) e p) s c d (T x)
