-- A message whose header was read at once: the same reading, grouped otherwise.
use mathlib.Core.Path.{◌≡◌, refl, sym, ap, ◌∙◌}
use mathlib.Core.List.{List, [], ◌∷◌, ◌++◌}
use Prim.Native.Nat.{ℕ, zero, suc, ◌+◌, ◌*◌, ◌≤◌, ◌<◌}
use native.Mathlib.Omega.{arith}
use Rattle.x691.specs.Bits.{bit_of, uint}
use Rattle.x691.proofs.BitLaws.{bit_of-lt}
use Rattle.atn.specs.Format.{num, end, ◌⨾◌, ◌⨾?◌, or_note, Flds}
use Rattle.atn.specs.Reading.{rec, Ans, ok, glue, then, fork, or, mark, flags, read, read_fields}
use Rattle.atn.specs.Messages.{date_time_group, message_data, atc_message}
use Rattle.atn.proofs.Marks.{or_assoc, or_swap}
use Rattle.atn.proofs.Steps.{fetch_go, then-nil}
use Rattle.atn.proofs.Then.{then-then, then-end, then_same}
use Rattle.cursor.specs.declared.place.Cursor.{Cursor}
use Rattle.cursor.specs.Place.{put}
use Rattle.cursor.proofs.FormatLaws.{all_read, read_unmarked}
use Rattle.records.proofs.Telling.{told-then}
use Rattle.runs.specs.declared.At.{At}
use Rattle.runs.specs.Runs.{Ran, stayed, went, passed, gave_up, failed, Runs}
use Rattle.ample_readings.specs.declared.Step.{Step}
use Rattle.ample_readings.specs.Ample.{Done}
use Rattle.ample_readings.proofs.SureLaws.{plain-read}
use Rattle.ample_headers.specs.Header.{acknowledgment, timed, header}
use Rattle.message.specs.Data.{data_at, message_at}

module _ (table s : List ℕ) (e : ℕ) where
  abbrev rest : ℕ → Ans
  rest p = read (message_data table) (0, 0) (bit_of s) e p

  -- the acknowledgment, or the record of the default
  abbrev acked : ℕ → ℕ → Ans
  acked zero p = ok p (rec 17 0 1 0 p ∷ []) 0
  acked (suc j) p = read (num 17 0 1) (0, 0) (bit_of s) e p

  abbrev behind_time : Flds
  behind_time = or_note 17 1 0 (num 17 0 1) (message_data table ⨾ end)

  -- as the message has it
  noted-left : (j q p : ℕ) → bit_of s q ≡ j → j < 2 → read_fields behind_time (0, 0) (bit_of s) e q p ≡ then (acked j p) rest
  unfolding read_fields fork
  noted-left zero q p z l = rw z (then_same (acked 0 p) _ _ (λ r. then-end (rest r)))
  noted-left (suc zero) q p z l = rw z (then_same (acked 1 p) _ _ (λ r. then-end (rest r)))
  noted-left (suc (suc j)) q p z l = absurd (omega arith)

  timed-left : (j q p : ℕ) → bit_of s q ≡ j → j < 2 → read_fields (date_time_group ⨾ behind_time) (0, 0) (bit_of s) e q p ≡ then (read date_time_group (0, 0) (bit_of s) e p) (λ r. then (acked j r) rest)
  unfolding read_fields
  timed-left j q p z l = then_same (read date_time_group (0, 0) (bit_of s) e p) _ _ (λ r. noted-left j q r z l)

  -- as the header has it
  noted_right : (j q p : ℕ) → j < 2 → then (read_fields (acknowledgment j ⨾ end) (0, 0) (bit_of s) e q p) rest ≡ then (acked j p) rest
  unfolding read_fields read
  noted_right zero q p l = ap (λ (z : Ans). then z rest) (then-end (then (acked 0 p) (λ r. ok r [] 0)) ∙ then-end (acked 0 p))
  noted_right (suc zero) q p l = ap (λ (z : Ans). then z rest) (then-end (acked 1 p))
  noted_right (suc (suc j)) q p l = absurd (omega arith)

  timed_right : (j q p : ℕ) → j < 2 → then (read_fields (timed j) (0, 0) (bit_of s) e q p) rest ≡ then (read date_time_group (0, 0) (bit_of s) e p) (λ r. then (acked j r) rest)
  unfolding read_fields
  timed_right j q p l = then-then (read date_time_group (0, 0) (bit_of s) e p) _ rest ∙ then_same (read date_time_group (0, 0) (bit_of s) e p) _ _ (λ r. noted_right j q r l)

  abbrev id : ℕ → Ans
  id p = read (num 9 0 63) (0, 0) (bit_of s) e p

  abbrev reference : ℕ → Ans
  reference p = read (num 10 0 63) (0, 0) (bit_of s) e p

  abbrev behind_id : Flds
  behind_id = num 10 0 63 ⨾? (date_time_group ⨾ behind_time)

  bare : (j q p o : ℕ) → bit_of s q ≡ 0 → bit_of s (suc q) ≡ j → j < 2 → read_fields (num 9 0 63 ⨾ behind_id) (0, 0) (bit_of s) e q p ≡ then (read_fields (num 9 0 63 ⨾ timed j) (0, 0) (bit_of s) e o p) rest
  unfolding read_fields fork
  bare j q p o z y l = rw z (then_same (id p) _ _ (λ r. timed-left j (suc q) r y l ∙ sym (timed_right j o r l)) ∙ sym (then-then (id p) _ rest))

  referring : (j q p o : ℕ) → bit_of s q ≡ 1 → bit_of s (suc q) ≡ j → j < 2 → read_fields (num 9 0 63 ⨾ behind_id) (0, 0) (bit_of s) e q p ≡ then (read_fields (num 9 0 63 ⨾ num 10 0 63 ⨾ timed j) (0, 0) (bit_of s) e o p) rest
  unfolding read_fields fork
  referring j q p o z y l =
      rw z
      (then_same (id p) _ _ (λ r. then_same (reference r) _ _ (λ t. timed-left j (suc q) t y l ∙ sym (timed_right j o t l)) ∙ sym (then-then (reference r) _ rest)) ∙ sym (then-then (id p) _ rest))

  -- the header by its presence bits
  by_bits : (h i j at : ℕ) → h ≡ i * 2 + j → bit_of s at ≡ i → bit_of s (suc at) ≡ j → i < 2 → j < 2 → at + 2 ≤ e
      → read_fields (num 9 0 63 ⨾ behind_id) (0, 0) (bit_of s) e at (at + 2) ≡ then (read (header h) (0, 0) (bit_of s) e (at + 2)) rest
  unfolding flags all_read
  by_bits h zero zero at q z y k l o = rw q (bare 0 at (at + 2) (at + 2) z y l ∙ ap (λ (x : Ans). then x rest) (sym (plain-read (0, 0) s (num 9 0 63 ⨾ timed 0) refl refl e (at + 2) o)))
  by_bits h zero (suc zero) at q z y k l o = rw q (bare 1 at (at + 2) (at + 2) z y l ∙ ap (λ (x : Ans). then x rest) (sym (plain-read (0, 0) s (num 9 0 63 ⨾ timed 1) refl refl e (at + 2) o)))
  by_bits h (suc zero) zero at q z y k l o = rw q (referring 0 at (at + 2) (at + 2) z y l ∙ ap (λ (x : Ans). then x rest) (sym (plain-read (0, 0) s (num 9 0 63 ⨾ num 10 0 63 ⨾ timed 0) refl refl e (at + 2) o)))
  by_bits h (suc zero) (suc zero) at q z y k l o = rw q (referring 1 at (at + 2) (at + 2) z y l ∙ ap (λ (x : Ans). then x rest) (sym (plain-read (0, 0) s (num 9 0 63 ⨾ num 10 0 63 ⨾ timed 1) refl refl e (at + 2) o)))
  by_bits h zero (suc (suc j)) at q z y k l o = absurd (omega arith)
  by_bits h (suc zero) (suc (suc j)) at q z y k l o = absurd (omega arith)
  by_bits h (suc (suc i)) j at q z y k l o = absurd (omega arith)

  -- the message is its header and the data behind it
  pub header-then : (at : ℕ) → at + 2 ≤ e → read (atc_message table) (0, 0) (bit_of s) e at ≡ then (read (header (uint (bit_of s) at 2)) (0, 0) (bit_of s) e (at + 2)) rest
  unfolding read flags all_read uint
  header-then at o =
      fetch_go (bit_of s) e at 2 _ _ o
      ∙ rw (read_unmarked (num 9 0 63 ⨾ behind_id) (bit_of s) at refl)
      (then-nil (at + 2) (λ q. read_fields (num 9 0 63 ⨾ behind_id) (0, 0) (bit_of s) e at q)
      ∙ by_bits (uint (bit_of s) at 2) (bit_of s at) (bit_of s (suc at)) at (omega arith) refl refl (bit_of-lt s at) (bit_of-lt s (suc at)) o)

module _ (table : List ℕ) {s : List ℕ} {c : Cursor} {n b : ℕ} {w w₁ w₂ : List ℕ} {r : Step} {t : At} where
  pub message_ample : c.why ≡ 0 → c.at + 48 ≤ c.end → Done 9 46 (header (uint (bit_of s) c.at 2)) s (c.at + 2) n w w₁ r → Runs b (data_at table s) s (put c r.at 0 (or c.marks r.marks)) r.n w₁ w₂ t → Runs (9 + b) (message_at table s) s c n w w₂ t
  unfolding message_at data_at then glue
  message_ample z l d x =
      let h : r.at ≤ c.end = omega (arith, d.near) in
      record {
        recs = d.recs ++ x.recs;
        ran = λ i. go (header-then table s c.end c.at (omega arith) ∙ ap (λ (y : Ans). then y (λ p. read (message_data table) (0, 0) (bit_of s) c.end p)) ((d.sure 0).gives c.end h)) (x.ran (h, i.1));
        told = told-then d.told x.told;
      }
    where
      go : message_at table s c.end c.at ≡ glue d.recs r.marks (data_at table s c.end r.at) → Ran (data_at table s) (put c r.at 0 (or c.marks r.marks)) t.c x.recs → Ran (message_at table s) c t.c (d.recs ++ x.recs)
      go q (stayed k e o) = absurd (k refl)
      go q (went p m k e o u) = went p (or r.marks m) z (q ∙ rw e) o (u ∙ rw (or_assoc c.marks r.marks m))
      go q (passed l p m k e o u) = passed l p (or r.marks m) z (q ∙ rw e) o (u ∙ rw (or_assoc c.marks r.marks m))
      go q (gave_up o j y p m k e v u) = gave_up o j y p (or r.marks m) z (q ∙ rw e) v (u ∙ rw (or_assoc c.marks r.marks (or (mark y) m), or_swap r.marks (mark y) m))
      go q (failed y p m S g k e v u) = failed y p (or r.marks m) (d.recs ++ S) g z (q ∙ rw e) v (u ∙ rw (or_assoc c.marks r.marks m))
