-- Latitudes and longitudes: their formats by the rows of their ranges, their records, and what their readers read.
use Rattle.std.specs.Prelude.{◌≡◌, List, [], ◌∷◌, ◌++◌, ℕ, ◌+◌, Option, None, Some}
use Rattle.x691.specs.Types.{extent}
use Rattle.x691.specs.Encoding.{width}
use Rattle.atn.specs.Format.{Fmt, num, seq, choice, end, ◌⨾◌, none_left, ◌∥◌}
use Rattle.atn.specs.Reading.{Rec, rec, word}
use Rattle.atn.specs.Messages as message
use Rattle.cursor.specs.declared.place.Cursor.{Cursor}
use Rattle.cursor.specs.declared.place.Got.{Got}
use Rattle.cursor.specs.Place.{Inside, Takes}
use Rattle.cursor.specs.Formats.{Maybe}
use Rattle.field_ranges.specs.Rows as rows
use Rattle.field_ranges.specs.Ends.{lowest, highest}
use Rattle.angles.specs.declared.Form.{Form}
use Rattle.angles.specs.declared.Form.TheVariants.{Thousandths, Hundredths, Seconds}
use Rattle.angles.specs.declared.Angle.{Angle}
use Rattle.angles.specs.declared.Pair.{Pair}

-- the seven tags of an angle follow one another: form, thousandths, degrees, hundredths, minutes, seconds, side; k and j are the rows of the thousandths and of the degrees
abbrev pub form : ℕ → ℕ → ℕ → Fmt
form t k j =
    choice t
    (num (t + 1) (lowest k) (highest k)
    ∥ seq (num (t + 2) (lowest j) (highest j) ⨾ num (t + 3) (lowest rows.hundredths) (highest rows.hundredths) ⨾ end)
    ∥ seq (num (t + 2) (lowest j) (highest j) ⨾ num (t + 4) (lowest rows.minutes) (highest rows.minutes) ⨾ num (t + 5) (lowest rows.minutes) (highest rows.minutes) ⨾ end)
    ∥ none_left)

abbrev pub angle : ℕ → ℕ → ℕ → Fmt
angle t k j = seq (form t k j ⨾ num (t + 6) (lowest rows.side) (highest rows.side) ⨾ end)

-- the bits of a number of the row k
abbrev pub bits : ℕ → ℕ
bits k = width (extent (lowest k) (highest k))

-- The records of an angle whose form starts at p, each behind the bits of the one before: the form takes 2, the thousandths w, the degrees d. A place is a word.
abbrev pub form_recs : ℕ → ℕ → ℕ → Form → ℕ → List Rec
form_recs d t p (Thousandths a) n = rec t n 0 0 p ∷ rec (t + 1) n a 0 (word (p + 2)) ∷ []
form_recs d t p (Hundredths a b) n = rec t n 1 0 p ∷ rec (t + 2) n a 0 (word (p + 2)) ∷ rec (t + 3) n b 0 (word (p + (2 + d))) ∷ []
form_recs d t p (Seconds a b e) n = rec t n 2 0 p ∷ rec (t + 2) n a 0 (word (p + 2)) ∷ rec (t + 4) n b 0 (word (p + (2 + d))) ∷ rec (t + 5) n e 0 (word (p + (2 + d + bits rows.minutes))) ∷ []

abbrev pub side_place : Form → ℕ → ℕ → ℕ → ℕ
side_place (Thousandths a) w d p = word (p + (2 + w))
side_place (Hundredths a b) w d p = word (p + (2 + d + bits rows.hundredths))
side_place (Seconds a b e) w d p = word (p + (2 + d + bits rows.minutes + bits rows.minutes))

unfoldable pub angle_recs : ℕ → ℕ → ℕ → Angle → ℕ → List Rec
angle_recs w d t v n = form_recs d t v.at v.form n ++ (rec (t + 6) n v.side 0 (side_place v.form w d v.at) ∷ [])

-- the records of a part that may be absent, by those of one that is there
abbrev pub if_there : {A : Type 0} → (A → List Rec) → Option A → List Rec
if_there R None = []
if_there R (Some x) = R x

unfoldable pub pair_recs : Pair → ℕ → List Rec
pair_recs v n =
    rec 34 n 0 0 v.at ∷
    (if_there (λ x. angle_recs (bits rows.latitude_thousandths) (bits rows.latitude_degrees) 35 x n) v.latitude
    ++ if_there (λ x. angle_recs (bits rows.longitude_thousandths) (bits rows.longitude_degrees) 42 x n) v.longitude)

abbrev pub maybe_pair_recs : Option Pair → ℕ → List Rec
maybe_pair_recs v n = if_there (λ x. pair_recs x n) v

pub record Forms (k j : ℕ) (s : List ℕ) (c : Cursor) (r : Got Form) : Type 0 where
  pub reads : (t : ℕ) → Takes (form t k j) s c r.c (form_recs (bits j) t c.at r.v)
  -- where the side starts
  pub ends : Inside s c → r.c.why ≡ 0 → r.c.at ≡ side_place r.v (bits k) (bits j) c.at

pub record Angles (k j : ℕ) (s : List ℕ) (c : Cursor) (r : Got Angle) : Type 0 where
  pub reads : (t : ℕ) → Takes (angle t k j) s c r.c (angle_recs (bits k) (bits j) t r.v)

pub record MaybeAngles (has k j : ℕ) (s : List ℕ) (c : Cursor) (r : Got (Option Angle)) : Type 0 where
  pub reads : (t : ℕ) → Maybe has (angle t k j) s c r.c (λ n. if_there (λ x. angle_recs (bits k) (bits j) t x n) r.v)

pub record Pairs (s : List ℕ) (c : Cursor) (r : Got Pair) : Type 0 where
  pub reads : Takes message.latlon s c r.c (pair_recs r.v)

pub record MaybePairs (has : ℕ) (s : List ℕ) (c : Cursor) (r : Got (Option Pair)) : Type 0 where
  pub reads : Maybe has message.latlon s c r.c (maybe_pair_recs r.v)
