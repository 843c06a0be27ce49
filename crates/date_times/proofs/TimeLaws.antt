-- A date and time from its six numbers: one read after another, or all out of two pulls.
use Rattle.std.proofs.Common.{◌≡◌, ℕ, ◌+◌, ◌*◌, ◌/◌, ◌%◌, ◌^◌, ◌<◌, ◌≤◌, List, [], ◌∷◌, refl, ◌∙◌, arith}
use native.Mathlib.Nat.{one-le-pow, pow-le-pow_right}
use Rattle.x691.specs.Types.{extent}
use Rattle.x691.specs.Encoding.{width, width_in}
use Rattle.atn.specs.Reading.{Rec, rec, word, flags}
use Rattle.cursor.specs.declared.place.Cursor.{Cursor}
use Rattle.cursor.specs.declared.place.Got.{Got}
use Rattle.cursor.specs.Place.{put, Inside, Pulls}
use Rattle.records.specs.Told.{Told}
use Rattle.records.proofs.Telling.{told-then, place-behind}
use Rattle.field_ranges.specs.declared.table.Range.{Range}
use Rattle.field_ranges.specs.Rows as rows
use Rattle.field_ranges.specs.Ranges.{row_at}
use Rattle.field_ranges.specs.Ends.{lowest, highest}
use Rattle.ranged_numbers.specs.Numbers.{FromLowest, Ranged}
use Rattle.cursor.proofs.FormatLaws.{all_read, takes_plain, fields_must, fields_last}
use Rattle.ranged_numbers.proofs.Split.{Stands, pull_went, stands_first, stands_last, told_at_lem, ranged_at, takes_inside}
use Rattle.ranged_numbers.proofs.Places.{takes_told, along_here, number_back, number_along, along_place}
use Rattle.date_times.specs.declared.DateTime.{DateTime}
use Rattle.date_times.specs.Times.{bits, DateTimes, date_time_recs}

abbrev time : Cursor → Got ℕ → Got ℕ → Got ℕ → Got ℕ → Got ℕ → Got ℕ → Got DateTime
time c year month day hours minutes seconds =
    record {
      v = record { at = c.at; year = year.v; month = month.v; day = day.v; hours = hours.v; minutes = minutes.v; seconds = seconds.v };
      c = seconds.c;
    }

-- the records, with the place of each number behind the year
abbrev told_at : DateTime → ℕ → ℕ → ℕ → ℕ → ℕ → ℕ → List Rec
told_at v b d e f g n =
    rec 11 n v.year 0 v.at ∷ rec 12 n v.month 0 b ∷ rec 13 n v.day 0 d ∷ rec 14 n v.hours 0 e ∷ rec 15 n v.minutes 0 f ∷ rec 16 n v.seconds 0 g ∷ []

module _ {s : List ℕ} {c : Cursor} (year month day hours minutes seconds : Got ℕ) (fits : c.end < 2 ^ 64)
    (a : Ranged rows.year s c year) (b : Ranged rows.month s year.c month) (d : Ranged rows.day s month.c day) (e : Ranged rows.hours s day.c hours) (f : Ranged rows.minutes s hours.c minutes) (g : Ranged rows.minutes s minutes.c seconds) where
  -- where the reading went on, each number stands behind the bits of those before
  same-places : Inside s c → seconds.c.why ≡ 0 → (n : ℕ) → told_at (time c year month day hours minutes seconds).v year.c.at month.c.at day.c.at hours.c.at minutes.c.at n ≡ date_time_recs (time c year month day hours minutes seconds).v n
  unfolding lowest highest extent width width_in word
  same-places i z n =
      let behind-year = number_along 1 along_here a in
      let behind-month = number_along 2 behind-year b in
      let behind-day = number_along 3 behind-month d in
      let behind-hours = number_along 4 behind-day e in
      let behind-minutes = number_along 5 behind-hours f in
      let z₅ = number_back 5 behind-minutes g i z in
      let z₄ = number_back 5 behind-hours f i z₅ in
      let z₃ = number_back 4 behind-day e i z₄ in
      let z₂ = number_back 3 behind-month d i z₃ in
      let z₁ = number_back 2 behind-year b i z₂ in
      rw (along_place behind-year fits i z₁, along_place behind-month fits i z₂, along_place behind-day fits i z₃, along_place behind-hours fits i z₄, along_place behind-minutes fits i z₅)

  pub in_a_row : DateTimes s c (time c year month day hours minutes seconds)
  unfolding lowest highest flags all_read
  in_a_row =
      record {
        takes =
            takes_told (told_at (time c year month day hours minutes seconds).v year.c.at month.c.at day.c.at hours.c.at minutes.c.at) (date_time_recs (time c year month day hours minutes seconds).v) same-places
            (takes_plain refl refl
            (fields_must (takes_plain refl refl (fields_must (a.number 11) (fields_must (b.number 12) (fields_last (d.number 13)))))
            (fields_last (takes_plain refl refl (fields_must (e.number 14) (fields_must (f.number 15) (fields_last (g.number 16))))))));
      }

-- a power of two as the machine makes it
power_shifted : (w : ℕ) → w < 64 → 1 * 2 ^ w % 2 ^ 64 ≡ 2 ^ w
power_shifted w h = let g : w ≤ 63 = omega arith in let l : 2 ^ w ≤ 2 ^ 63 = pow-le-pow_right {n = 2} (omega arith) g in omega arith

pub power_some : (w : ℕ) → w < 64 → 0 < 1 * 2 ^ w % 2 ^ 64
power_some w h = rw (power_shifted w h) (one-le-pow w 2 (omega arith))

pub part-told : {r : Range} {c : Cursor} {w k : ℕ} {g : Got ℕ} (v b : ℕ) → w ≡ k → k < 64 → FromLowest r c (v / 2 ^ b % (1 * 2 ^ w % 2 ^ 64)) g → FromLowest r c (v / 2 ^ b % 2 ^ k) g
part-told {k = k} v b e h t = rw (e, power_shifted k h) at t

-- the n bits behind the first m, of which k stand behind those
part_stands : {s : List ℕ} {e p v b q : ℕ} (m n k : ℕ) → Stands s e p (m + n + k) v → q ≡ p + m → b ≡ k → Stands s e q n (v / 2 ^ b % 2 ^ n)
part_stands m n k h i j = rw (i, j) (stands_last m n (stands_first (m + n) k h))

-- the numbers are told by the cursor behind the second pull, which takes the marks of one after another
pub at_once : {s : List ℕ} {c : Cursor} {first second : Got ℕ} {wide behind-year behind-month behind-day narrow behind-minutes : ℕ} (year month day hours minutes seconds : Got ℕ)
    → Pulls s c wide first → first.c.why ≡ 0 → Pulls s first.c narrow second → second.c.why ≡ 0
    → FromLowest (row_at rows.year) second.c (first.v / 2 ^ behind-year % 2 ^ bits rows.year) year
    → FromLowest (row_at rows.month) year.c (first.v / 2 ^ behind-month % 2 ^ bits rows.month) month
    → FromLowest (row_at rows.day) month.c (first.v / 2 ^ behind-day % 2 ^ bits rows.day) day
    → FromLowest (row_at rows.hours) day.c (first.v / 2 ^ 0 % 2 ^ bits rows.hours) hours
    → FromLowest (row_at rows.minutes) hours.c (second.v / 2 ^ behind-minutes % 2 ^ bits rows.minutes) minutes
    → FromLowest (row_at rows.minutes) minutes.c (second.v / 2 ^ 0 % 2 ^ bits rows.minutes) seconds
    → behind-day ≡ bits rows.hours → behind-month ≡ behind-day + bits rows.day → behind-year ≡ behind-month + bits rows.month → wide ≡ behind-year + bits rows.year
    → behind-minutes ≡ bits rows.minutes → narrow ≡ behind-minutes + bits rows.minutes
    → c.end < 2 ^ 64
    → DateTimes s c (time c year month day hours minutes seconds)
unfolding extent width width_in
at_once {s} {c} {first} {second} {wide = wide} {narrow = narrow} year month day hours minutes seconds p h q k y m d u n z b₁ b₂ b₃ b₄ b₅ b₆ fits = record { takes = takes_inside λ i. (go i).takes }
  where
    go : Inside s c → DateTimes s c (time c year month day hours minutes seconds)
    go i =
        let w : wide ≡ 21 = omega arith in
        let v : narrow ≡ 12 = omega arith in
        let f = pull_went (rw w at p) h i in
        let g = pull_went (rw v at q) k (rw f.to (f.stands.room, i.1)) in
        let a = f.stands in
        let b : Stands s c.end (c.at + 21) 12 second.v = rw f.to at g.stands in
        let to : second.c ≡ put c (c.at + 21 + 12) 0 c.marks = g.to ∙ rw f.to in
        rw (told_at_lem c (told_at_lem c (told_at_lem c (told_at_lem c (told_at_lem c (told_at_lem c to y) m) d) u) n) z)
        (in_a_row _ _ _ _ _ _ fits
        (ranged_at c (c.at + 7) f.from refl y (part_stands 0 7 14 a (omega arith) (omega arith)) refl)
        (ranged_at c (c.at + 11) refl refl m (part_stands 7 4 10 a refl (omega arith)) (omega arith))
        (ranged_at c (c.at + 16) refl refl d (part_stands 11 5 5 a refl (omega arith)) (omega arith))
        (ranged_at c (c.at + 21) refl refl u (part_stands 16 5 0 a refl refl) (omega arith))
        (ranged_at c (c.at + 21 + 6) refl refl n (part_stands 0 6 6 b (omega arith) (omega arith)) refl)
        (ranged_at c (c.at + 21 + 12) refl refl z (part_stands 6 6 0 b refl refl) (omega arith)))

-- and told, each number at its place
pub told_time : {w w₁ w₂ w₃ w₄ w₅ w₆ : List ℕ} {n n₁ n₂ n₃ n₄ n₅ n₆ : ℕ} {v : DateTime} {b d e f g : ℕ}
    → Told 1 w w₁ n n₁ (rec 11 0 v.year 0 v.at ∷ []) → Told 1 w₁ w₂ n₁ n₂ (rec 12 0 v.month 0 b ∷ []) → Told 1 w₂ w₃ n₂ n₃ (rec 13 0 v.day 0 d ∷ [])
    → Told 1 w₃ w₄ n₃ n₄ (rec 14 0 v.hours 0 e ∷ []) → Told 1 w₄ w₅ n₄ n₅ (rec 15 0 v.minutes 0 f ∷ []) → Told 1 w₅ w₆ n₅ n₆ (rec 16 0 v.seconds 0 g ∷ [])
    → b ≡ (v.at + bits rows.year) % 2 ^ 64 → d ≡ (b + bits rows.month) % 2 ^ 64 → e ≡ (d + bits rows.day) % 2 ^ 64 → f ≡ (e + bits rows.hours) % 2 ^ 64 → g ≡ (f + bits rows.minutes) % 2 ^ 64
    → Told 6 w w₆ n n₆ (date_time_recs v 0)
unfolding word
told_time {v = v} year month day hours minutes seconds p₁ p₂ p₃ p₄ p₅ =
    let q₂ = place-behind v.at (bits rows.year) (bits rows.month) p₁ p₂ in
    let q₃ = place-behind v.at (bits rows.year + bits rows.month) (bits rows.day) q₂ p₃ in
    let q₄ = place-behind v.at (bits rows.year + bits rows.month + bits rows.day) (bits rows.hours) q₃ p₄ in
    let q₅ = place-behind v.at (bits rows.year + bits rows.month + bits rows.day + bits rows.hours) (bits rows.minutes) q₄ p₅ in
    told-then (told-then (told-then (told-then (told-then year (rw p₁ at month)) (rw q₂ at day)) (rw q₃ at hours)) (rw q₄ at minutes)) (rw q₅ at seconds)
