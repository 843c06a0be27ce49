-- A message whose elements come to one outside the table: its header is passed over, and the rest of it does not count.
use mathlib.Core.Path.{◌≡◌, refl}
use mathlib.Core.Bool.{Bool, true, false}
use mathlib.Core.List.{List, []}
use Prim.Native.Nat.{ℕ, zero, suc, ◌+◌, ◌-◌, ◌*◌, ◌%◌, ◌≤◌, ◌<◌}
use native.Mathlib.Omega.{arith}
use lib.ListN.{length}
use lib.Dec.{leb}
use borrow.Author.Tests.{leb-true, leb-false}
use Rattle.x691.specs.Bits.{bit_of, uint}
use Rattle.x691.specs.Types.{extent}
use Rattle.x691.specs.Encoding.{width, width_in}
use Rattle.per.proofs.Laws.{uint-below}
use Rattle.atn.specs.Format.{num, seq, end, ◌⨾◌}
use Rattle.atn.specs.Messages.{date_time_group}
use Rattle.atn.specs.Reading.{or, flags}
use Rattle.cursor.specs.declared.place.Cursor.{Cursor}
use Rattle.cursor.specs.declared.place.Got.{Got}
use Rattle.cursor.specs.Place.{put, got, Pulls, opened, Opens, stopped, marked}
use Rattle.cursor.proofs.FormatLaws.{all_read}
use Rattle.character_strings.specs.Texts.{SizeRow, Sized}
use Rattle.character_strings.proofs.TextLaws.{size_in, size-over}
use Rattle.records.proofs.Telling.{told-within}
use Rattle.runs.proofs.RunLaws.{runs_stayed, runs_within}
use Rattle.passed_arguments.specs.Passed.{Within}
use Rattle.passed_arguments.proofs.PassedLaws.{WithinFields, within_num, within_null, within-noted, within_must, within_last, within-plain, within_more}
use Rattle.elements.specs.Elements.{elements_at}
use Rattle.elements.specs.Unlisted.{Fails}
use Rattle.elements.proofs.UnlistedLaws.{untold}
use Rattle.ample_headers.specs.Header.{acknowledgment, header}
use Rattle.ample_readings.specs.Ample.{Done}
use Rattle.message.specs.Data.{data_at, message_at}
use Rattle.message.specs.Unlisted.{header_bits}
use Rattle.message.proofs.DataLaws.{data_read}
use Rattle.message.proofs.AmpleHeader.{message_ample}

---------------------------------------------------------------- the header

module _ {s : List ℕ} where
  number : (t lo hi w : ℕ) {at p : ℕ} → width (extent lo hi) ≡ w → p ≡ at + w → Within 1 w (num t lo hi) s at p
  number t lo hi w q e = rw e (within_num t lo hi w q)

  three : (t a b d lo₁ hi₁ lo₂ hi₂ lo₃ hi₃ : ℕ) {at p : ℕ} → width (extent lo₁ hi₁) ≡ a → width (extent lo₂ hi₂) ≡ b → width (extent lo₃ hi₃) ≡ d → p ≡ at + a + b + d
      → Within 3 (a + (b + d)) (seq (num t lo₁ hi₁ ⨾ num (t + 1) lo₂ hi₂ ⨾ num (t + 2) lo₃ hi₃ ⨾ end)) s at p
  unfolding flags all_read
  three t a b d lo₁ hi₁ lo₂ hi₂ lo₃ hi₃ q₁ q₂ q₃ e =
      within-plain refl refl (within_must (number t lo₁ hi₁ a q₁ refl) (within_must (number (t + 1) lo₂ hi₂ b q₂ refl) (within_last (number (t + 2) lo₃ hi₃ d q₃ e))))

  dated : {at : ℕ} → Within 6 33 date_time_group s at (at + 33)
  unfolding flags all_read width width_in extent
  dated {at} = within-plain refl refl (within_must (three 11 7 4 5 1996 2095 1 12 1 31 refl refl refl refl) (within_last (three 14 5 6 6 0 23 0 59 0 59 refl refl refl (omega arith))))

  acknowledged : (h : ℕ) {at : ℕ} → h < 2 → Within 1 1 (acknowledgment h) s at (at + h)
  unfolding width width_in extent
  acknowledged zero {at} l = let e : at + 0 ≡ at = omega arith in rw e (within_more (omega arith) (omega arith) (within-noted 17 1 0 within_null))
  acknowledged (suc zero) l = number 17 0 1 1 refl refl
  acknowledged (suc (suc h)) l = absurd (omega arith)

  timed : (h : ℕ) {q at p : ℕ} → h < 2 → p ≡ at + 33 + h → WithinFields 7 34 (date_time_group ⨾ acknowledgment h ⨾ end) s q at p
  timed h {q} {at} {p} l e = let a : Within 1 1 (acknowledgment h) s (at + 33) p = rw e (acknowledged h l) in within_must (dated {at = at}) {q = q} (within_last a {q = q})

  pub header_passed : (h : ℕ) {at p : ℕ} → h < 4 → p ≡ at + header_bits h → Within 9 46 (header h) s at p
  unfolding flags all_read header_bits width width_in extent
  header_passed zero l e = within_more (omega arith) (omega arith) (within-plain refl refl (within_must (number 9 0 63 6 refl refl) (timed 0 (omega arith) (omega arith))))
  header_passed (suc zero) l e = within_more (omega arith) (omega arith) (within-plain refl refl (within_must (number 9 0 63 6 refl refl) (timed 1 (omega arith) (omega arith))))
  header_passed (suc (suc zero)) l e = within_more (omega arith) (omega arith) (within-plain refl refl (within_must (number 9 0 63 6 refl refl) (within_must (number 10 0 63 6 refl refl) (timed 0 (omega arith) (omega arith)))))
  header_passed (suc (suc (suc zero))) l e = within_more (omega arith) (omega arith) (within-plain refl refl (within_must (number 9 0 63 6 refl refl) (within_must (number 10 0 63 6 refl refl) (timed 1 (omega arith) (omega arith)))))
  header_passed (suc (suc (suc (suc h)))) l e = absurd (omega arith)

---------------------------------------------------------------- the data

-- the row of the number of elements, and the bits that it takes
counts : SizeRow (record { row = 54; lo = 1; hi = 5 })
counts = record { listed = refl; some = omega arith; ordered = omega arith; most = omega arith }

module _ (table s : List ℕ) (p e m n : ℕ) where
  abbrev start : Cursor
  start = record { at = p; end = e; why = 0; marks = m }

  abbrev flag : Got ℕ
  flag = record { v = uint (bit_of s) p 1; c = put start (p + 1) 0 m }

  abbrev number_of : Got ℕ
  number_of = record { v = uint (bit_of s) (p + 1) 3; c = put start (p + 1 + 3) 0 m }

  -- the elements behind their number, and then nothing more
  behind-count : {z : Got ℕ} → p + 4 ≤ e → Sized 54 s flag.c z → Fails (z.v * 143) (elements_at table 1 z.v s) s z.c n → Fails 236050 (data_at table s) s start n
  behind-count l y x =
      let o : Opens s start 1 flag = record { gave = λ _. opened refl (omega arith) refl refl } in
      record {
        to = x.to;
        run = runs_within 236050 _ (omega (arith, y.few)) (data_read table o y x.run (runs_within 162834 _ (omega arith) (runs_stayed _ (λ z. omega (arith, x.badly)))));
        badly = x.badly;
      }

  pub data_fails : {k : ℕ} → p + 4 ≤ e → k ≡ uint (bit_of s) (p + 1) 3 + 1 → ((o i : ℕ) → Fails (k * 143) (elements_at table i k s) s (record { at = p + 4; end = e; why = 0; marks = o }) n) → Fails 236050 (data_at table s) s start n
  unfolding marked stopped width width_in extent
  data_fails {k} l q x = by (leb k 5) refl
    where
      few : uint (bit_of s) (p + 1) 3 < 8
      few = uint-below s (p + 1) 3

      pulls : Pulls s flag.c 3 number_of
      pulls = record { gave = λ _. got refl (omega arith) refl refl }

      same : p + 4 ≡ p + 1 + 3
      same = omega arith

      value : k ≡ 1 + uint (bit_of s) (p + 1) 3 % 256
      value = omega (arith, few)

      by : (t : Bool) → leb k 5 ≡ t → Fails 236050 (data_at table s) s start n
      by true h = behind-count l (size_in counts number_of pulls value (leb-true k 5 h)) (rw same at (x m 1))
      by false h = behind-count l (size-over counts number_of pulls value (leb-false k 5 h) refl) (rw same at (x (or m 1) 1))

---------------------------------------------------------------- the message

module _ (table s : List ℕ) (at e n : ℕ) where
  pub message_fails : {h p : ℕ} → at + 52 ≤ e → h ≡ uint (bit_of s) at 2 → p ≡ at + 2 + header_bits h → ((o i : ℕ) → Fails 236050 (data_at table s) s (record { at = p; end = e; why = 0; marks = o }) i) → Fails 236059 (message_at table s) s (record { at = at; end = e; why = 0; marks = 0 }) n
  message_fails {h} {p} l q g x =
      let k : ℕ = uint (bit_of s) at 2 in
      let b : p ≡ at + 2 + header_bits k = rw q at g in
      let w : Within 9 46 (header k) s (at + 2) p = header_passed k (omega (arith, uint-below s at 2)) b in
      let d : Done 9 46 (header k) s (at + 2) n [] [] (record { at = p; n = n + length (w.recs 0); marks = w.marks }) = record { recs = w.recs 0; sure = λ i. w.sure (0, i); near = w.near; told = told-within 9 (w.few 0) (untold n (w.recs 0)) } in
      let y = x (or 0 w.marks) (n + length (w.recs 0)) in
      record { to = y.to; run = message_ample table refl (omega arith) d y.run; badly = y.badly }
