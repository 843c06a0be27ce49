-- A reading whose bits are all there.
use Rattle.std.specs.Prelude.{◌≡◌, ℕ, ◌≤◌, List}
use Rattle.x691.specs.Bits.{bit_of}
use Rattle.atn.specs.Format.{Fmt, Flds}
use Rattle.atn.specs.Reading.{Rec, Ctx, ok, read, read_fields}

-- the format f, read from `at` on, comes to p with these records and marks in every window that has the bits up to p
pub record Sure (f : Fmt) (x : Ctx) (s : List ℕ) (at p : ℕ) (R : List Rec) (m : ℕ) : Type 0 where
  pub forth : at ≤ p
  pub gives : (e : ℕ) → p ≤ e → read f x (bit_of s) e at ≡ ok p R m

-- the same of fields, of which q is the next presence bit
pub record SureFields (fs : Flds) (x : Ctx) (s : List ℕ) (q at p : ℕ) (R : List Rec) (m : ℕ) : Type 0 where
  pub forth : at ≤ p
  pub gives : (e : ℕ) → p ≤ e → read_fields fs x (bit_of s) e q at ≡ ok p R m
