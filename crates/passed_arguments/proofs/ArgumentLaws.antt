-- Arguments passed over, by their bytes.
use mathlib.Core.Path.{◌≡◌, refl, sym}
use mathlib.Core.List.{List}
use Prim.Native.Nat.{ℕ, ◌+◌, ◌-◌, ◌*◌, ◌%◌, ◌^◌, ◌≤◌}
use native.Mathlib.Omega.{arith}
use Rattle.x691.specs.Types.{extent}
use Rattle.x691.specs.Encoding.{width, width_in, highest, count}
use Rattle.atn.specs.Format.{num, none_left, ◌∥◌}
use Rattle.atn.specs.Reading.{flags}
use Rattle.atn.specs.Messages as message
use Rattle.atn.specs.Messages.{ext_name, numeric_string}
use Rattle.atn.specs.Tags as tag
use Rattle.cursor.proofs.FormatLaws.{all_read}
use Rattle.field_ranges.specs.Rows as rows
use Rattle.field_ranges.specs.Ends.{lowest, highest as last}
use Rattle.ample_bits.specs.Ahead.{Ahead}
use Rattle.ample_bits.proofs.AheadLaws.{ahead-next, ahead_fewer}
use Rattle.argument_values.specs.Arguments.{argument_body}
use Rattle.passed_arguments.specs.Passed.{Passed, Within, PassedRow, PassedName, PassedTriple, PassedPair, procedure_argument}
use Rattle.passed_arguments.proofs.PassedLaws.{passed_of, passed_near, within_null, within_num, within_must, within_last, within-plain, times_none, times_more, within_many}

pub of_byte : {k j : ℕ} {s : List ℕ} {at p : ℕ} → k ≡ j → Passed (argument_body j) s at p → Passed (argument_body k) s at p
of_byte q h = rw q h

-- three names, each behind the one before
pub triple : {v at a p b q r : ℕ} → PassedName v at 8 p → a ≡ v * 2 ^ (p - at) % 2 ^ 64 → PassedName a p 8 q → b ≡ a * 2 ^ (q - p) % 2 ^ 64 → PassedName b q 8 r → PassedTriple v at r
triple {at = at} {p = p} {q = q} x e y f z = λ s h.
    let m : p ≡ at + (p - at) = omega (arith, x.0) in
    let n : q ≡ p + (q - p) = omega (arith, y.0) in
    let i = ahead-next (p - at) h m e (omega (arith, x.1)) in
    let j = ahead-next (q - p) i n f (omega (arith, x.1, y.1)) in
    within_many 3
    (times_more (x.2 tag.speed_type s (ahead_fewer 15 h (omega arith)))
    (times_more (y.2 tag.speed_type s (ahead_fewer 15 i (omega (arith, x.1)))) (times_more (z.2 tag.speed_type s (ahead_fewer 15 j (omega (arith, x.1, y.1)))) times_none)))

module _ {s : List ℕ} {at : ℕ} where
  pub nothing : Passed (argument_body 0) s at at
  unfolding argument_body
  nothing = passed_of (omega arith) (omega arith) within_null

  module _ {v p : ℕ} (a : Ahead s at 45 v) where
    named : {hi : ℕ} (t : ℕ) → PassedName v at hi p → Passed (ext_name t hi) s at p
    named t h = passed_of (omega arith) (omega arith) (h.2 t s (ahead_fewer 15 a (omega arith)))

    pub speed_type : PassedName v at 8 p → Passed (argument_body 3) s at p
    unfolding argument_body
    speed_type h = named tag.speed_type h

    pub speed-types : PassedTriple v at p → Passed (argument_body 4) s at p
    unfolding argument_body
    speed-types h = passed_of (omega arith) (omega arith) (h s a)

    pub traffic_type : PassedName v at 5 p → Passed (argument_body 9) s at p
    unfolding argument_body
    traffic_type h = named tag.traffic_type h

    pub clearance_type : PassedName v at 11 p → Passed (argument_body 10) s at p
    unfolding argument_body
    clearance_type h = named tag.clearance_type h

    pub error_information : PassedName v at 4 p → Passed (argument_body 11) s at p
    unfolding argument_body
    error_information h = named tag.error_information h

    pub facility_function : PassedName v at 8 p → Passed (argument_body 12) s at p
    unfolding argument_body
    facility_function h = named tag.facility_function h

    pub speed : PassedRow v at 3 rows.speed_0 7 p → Passed (argument_body 2) s at p
    unfolding argument_body lowest last width width_in highest count
    speed h = passed_of (omega arith) (omega arith) (h tag.speed tag.speed_number none_left s refl (ahead_fewer 3 a (omega arith)))

    pub level : PassedRow v at 2 rows.level_0 4 p → Passed (argument_body 5) s at p
    unfolding argument_body lowest last width width_in highest count
    level h = passed_of (omega arith) (omega arith) (h tag.level tag.level_number none_left s refl (ahead_fewer 2 a (omega arith)))

    pub degrees : PassedRow v at 1 rows.degrees_0 2 p → Passed (argument_body 6) s at p
    unfolding argument_body lowest last width width_in highest count
    degrees h = passed_of (omega arith) (omega arith) (h tag.degrees tag.degrees_number none_left s refl (ahead_fewer 1 a (omega arith)))

    -- its fourth kind is a text
    pub frequency : PassedRow v at 2 rows.frequency_0 3 p → Passed (argument_body 7) s at p
    unfolding argument_body lowest last width width_in highest count
    frequency h = passed_of (omega arith) (omega arith) (h tag.frequency tag.frequency_number (numeric_string tag.satellite_channel tag.satellite_channel_x691 12 12 ∥ none_left) s refl (ahead_fewer 2 a (omega arith)))

    pub coordinates : PassedPair v at p → Passed (argument_body 15) s at p
    unfolding argument_body
    coordinates h = passed_of (omega arith) (omega arith) (h s (ahead_fewer 28 a (omega arith)))

  pub position : {p : ℕ} → Within 13 113 message.position s at p → Passed (argument_body 1) s at p
  unfolding argument_body
  position h = passed_of (omega arith) (omega arith) h

  pub procedure : {p r : ℕ} → (r ≡ p) × (r ≤ at + 160) → Within 6 291 procedure_argument s at p → Passed (argument_body 13) s at r
  unfolding argument_body
  procedure e h = rw e.0 (passed_near (omega arith) (omega (arith, e.0, e.1)) h)

  pub departure : {p r : ℕ} → (r ≡ p) × (r ≤ at + 160) → Within 15 181 message.departure_clearance s at p → Passed (argument_body 16) s at r
  unfolding argument_body
  departure e h = rw e.0 (passed_near (omega arith) (omega (arith, e.0, e.1)) h)

  -- four digits
  pub code : {w : ℕ} → w ≡ width (extent 0 7) → Passed (argument_body 8) s at (at + 4 * w)
  unfolding argument_body extent width width_in
  code {w} q =
      let d : (p : ℕ) → Within 1 w (num tag.code_digit 0 7) s p (p + w) = λ p. within_num tag.code_digit 0 7 w (sym q) in
      let e : at + w + w + w + w ≡ at + 4 * w = omega arith in
      passed_of (omega arith) (omega (arith, q)) (rw e at (within_many 4 (times_more (d at) (times_more (d (at + w)) (times_more (d (at + w + w)) (times_more (d (at + w + w + w)) times_none))))))

  pub runway : {v w : ℕ} → v ≡ width (extent 1 36) → w ≡ width (extent 0 3) → Passed (argument_body 14) s at (at + v + w)
  unfolding argument_body extent width width_in flags all_read
  runway q r = rw (q, r) (passed_of (omega arith) (omega arith) (within-plain refl refl (within_must (within_num tag.runway 1 36 6 refl) (within_last (within_num tag.runway_side 0 3 2 refl)))))
