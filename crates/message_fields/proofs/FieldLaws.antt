-- The fields of the header from what was read and told.
use mathlib.Core.Path.{◌≡◌}
use mathlib.Core.List.{List, [], ◌∷◌}
use Prim.Native.Nat.{ℕ}
use native.Mathlib.Omega.{arith}
use Rattle.x691.specs.Bits.{bit_of}
use Rattle.atn.specs.Format.{num}
use Rattle.atn.specs.Reading.{Ans, ok, rec, read}
use Rattle.cursor.specs.declared.place.Cursor.{Cursor}
use Rattle.cursor.specs.declared.place.Got.{Got}
use Rattle.field_ranges.specs.Rows as rows
use Rattle.field_ranges.specs.Ends.{lowest, highest}
use Rattle.ranged_numbers.specs.Numbers.{Ranged}
use Rattle.cursor.proofs.Laws.{reads_ok, reads_here, marked-nil}
use Rattle.records.specs.Told.{Told}
use Rattle.runs.specs.declared.At.{At}
use Rattle.runs.specs.Runs.{Runs}
use Rattle.runs.proofs.RunLaws.{runs_told, runs_untold, runs_stayed, runs_silent, runs_within, runs_clear, runs_set}
use Rattle.date_times.specs.declared.DateTime.{DateTime}
use Rattle.date_times.specs.Times.{DateTimes, date_time_recs}
use Rattle.message_fields.specs.Fields.{number_field, maybe_number_field, date_time_field, acknowledgment_field}

module _ (row t : ℕ) {s : List ℕ} {c : Cursor} {g : Got ℕ} (h : Ranged row s c g) where
  pub number-told : {n m : ℕ} {w w' : List ℕ} → g.c.why ≡ 0 → Told 1 w w' n m (rec t 0 g.v 0 c.at ∷ []) → Runs 1 (number_field row t s) s c n w w' (record { n = m; c = g.c })
  unfolding number_field
  number-told z y = runs_told (number_field row t s) ((h.number t).took (0, 0)) z y

  pub number_untold : {n : ℕ} {w : List ℕ} → (g.c.why ≡ 0 → ⊥) → Runs 1 (number_field row t s) s c n w w (record { n = n; c = g.c })
  unfolding number_field
  number_untold z = runs_within 1 (number_field row t s) (omega arith) (runs_untold (number_field row t s) ((h.number t).took (0, 0)) z)

module _ (has row t : ℕ) {s : List ℕ} {c : Cursor} {n : ℕ} {w : List ℕ} where
  pub maybe_number-none : has ≡ 0 → Runs 1 (maybe_number_field has row t s) s c n w w (record { n = n; c = c })
  unfolding maybe_number_field
  maybe_number-none z = runs_clear (λ e p. ok p [] 0) (number_field row t s) has z (runs_within 1 (λ e p. ok p [] 0) (omega arith) (runs_silent (λ e p. ok p [] 0) (reads_ok [] 0 (marked-nil c))))

  pub maybe_number-some : {w' : List ℕ} {r : At} → (has ≡ 0 → ⊥) → Runs 1 (number_field row t s) s c n w w' r → Runs 1 (maybe_number_field has row t s) s c n w w' r
  unfolding maybe_number_field
  maybe_number-some z x = runs_set (λ e p. ok p [] 0) (number_field row t s) has z x

module _ {s : List ℕ} {c : Cursor} {g : Got DateTime} (h : DateTimes s c g) where
  pub date_time_told : {n m : ℕ} {w w' : List ℕ} → g.c.why ≡ 0 → Told 6 w w' n m (date_time_recs g.v 0) → Runs 6 (date_time_field s) s c n w w' (record { n = m; c = g.c })
  unfolding date_time_field
  date_time_told z y = runs_told (date_time_field s) (h.takes.took (0, 0)) z y

  pub date_time_untold : {n : ℕ} {w : List ℕ} → (g.c.why ≡ 0 → ⊥) → Runs 6 (date_time_field s) s c n w w (record { n = n; c = g.c })
  unfolding date_time_field
  date_time_untold z = runs_within 6 (date_time_field s) (omega arith) (runs_untold (date_time_field s) (h.takes.took (0, 0)) z)

abbrev absent : ℕ → ℕ → Ans
absent e p = ok p (rec 17 0 1 0 p ∷ []) 0

abbrev there : List ℕ → ℕ → ℕ → Ans
there s e p = read (num 17 0 1) (0, 0) (bit_of s) e p

module _ (has : ℕ) {s : List ℕ} {c : Cursor} {n : ℕ} {w : List ℕ} where
  pub acknowledgment_stuck : has ≡ 0 → (c.why ≡ 0 → ⊥) → Runs 1 (acknowledgment_field has s) s c n w w (record { n = n; c = c })
  unfolding acknowledgment_field
  acknowledgment_stuck z h = runs_clear absent (there s) has z (runs_within 1 absent (omega arith) (runs_stayed absent h))

  pub acknowledgment-absent : {m : ℕ} {w' : List ℕ} → has ≡ 0 → c.why ≡ 0 → Told 1 w w' n m (rec 17 0 1 0 c.at ∷ []) → Runs 1 (acknowledgment_field has s) s c n w w' (record { n = m; c = c })
  unfolding acknowledgment_field
  acknowledgment-absent z h x = runs_clear absent (there s) has z (runs_told absent (reads_here (λ p. rec 17 0 1 0 p ∷ []) 0 (marked-nil c)) h x)

  pub acknowledgment_there : {w' : List ℕ} {r : At} → (has ≡ 0 → ⊥) → Runs 1 (number_field rows.side 17 s) s c n w w' r → Runs 1 (acknowledgment_field has s) s c n w w' r
  unfolding acknowledgment_field number_field lowest highest
  acknowledgment_there z x = runs_set absent (there s) has z x
