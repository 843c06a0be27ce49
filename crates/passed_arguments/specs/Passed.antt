-- What is known of a format that is passed over: where it ends.
use Rattle.std.specs.Prelude.{◌≡◌, List, ℕ, ◌+◌, ◌≤◌, length}
use Rattle.x691.specs.Types.{extent}
use Rattle.x691.specs.Encoding.{width, highest}
use Rattle.atn.specs.Format.{Fmt, Alts, choice, many, alternatives_of}
use Rattle.atn.specs.Reading.{Rec, Ctx}
use Rattle.atn.specs.Messages.{ext_name, speed_type, latlon, procedure}
use Rattle.atn.specs.Tags as tag
use Rattle.ranged_numbers.specs.Numbers.{rows_then}
use Rattle.ample_bits.specs.Ahead.{Ahead}
use Rattle.ample_readings.specs.Sure.{Sure}
use Rattle.ample_angles.specs.Angle.{angle_of}

-- the format f, read from `at` on, comes to p in every window that has the bits up to p; what it tells and marks on the way
pub record Passed (f : Fmt) (s : List ℕ) (at p : ℕ) : Type 0 where
  -- by the element that they stand in
  pub recs : ℕ → List Rec
  pub marks : ℕ
  pub sure : (x : Ctx) → Sure f x s at p (recs x.0) marks
  pub few : (i : ℕ) → length (recs i) ≤ 16
  pub near : p ≤ at + 160

-- the same with b records and j bits at most
pub record Within (b j : ℕ) (f : Fmt) (s : List ℕ) (at p : ℕ) : Type 0 where
  pub recs : ℕ → List Rec
  pub marks : ℕ
  pub sure : (x : Ctx) → Sure f x s at p (recs x.0) marks
  pub few : (i : ℕ) → length (recs i) ≤ b
  pub near : p ≤ at + j

-- by a word v that has its bits, in every frame: a choice whose first n alternatives are numbers, with ranges from the row k of the table on; w are the bits of its index
abbrev pub PassedRow : ℕ → ℕ → ℕ → ℕ → ℕ → ℕ → Type 0
PassedRow v at w k n p = (t u : ℕ) (fs : Alts) (s : List ℕ) → width (highest (alternatives_of (rows_then u k n fs))) ≡ w → Ahead s at w v → Within 2 72 (choice t (rows_then u k n fs)) s at p

-- a name with an extension marker
abbrev pub PassedName : ℕ → ℕ → ℕ → ℕ → Type 0
PassedName v at hi p = (at ≤ p) × (p ≤ at + 15) × ((t : ℕ) (s : List ℕ) → Ahead s at 15 v → Within 1 15 (ext_name t hi) s at p)

-- three speed types
abbrev pub PassedTriple : ℕ → ℕ → ℕ → Type 0
PassedTriple v at p = (s : List ℕ) → Ahead s at 45 v → Within 3 45 (many 3 3 speed_type) s at p

-- an angle of k bits, by the bits of its thousandths and of its degrees
abbrev pub PassedAngle : ℕ → ℕ → ℕ → ℕ → Type 0
PassedAngle v w n k = (t most degrees : ℕ) (s : List ℕ) (at : ℕ) → width (extent 0 most) ≡ w → width (extent 0 degrees) ≡ n → Ahead s at 2 v → Within 5 k (angle_of t most degrees) s at (at + k)

-- latitude and longitude
abbrev pub PassedPair : ℕ → ℕ → ℕ → Type 0
PassedPair v at p = (s : List ℕ) → Ahead s at 28 v → Within 11 50 latlon s at p

abbrev pub procedure_argument : Fmt
procedure_argument = procedure tag.procedure tag.procedure_name tag.procedure_transition
