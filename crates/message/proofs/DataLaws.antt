-- The message from its parts: the header's fields, the elements, and the constrained data behind them.
use mathlib.Core.Path.{◌≡◌, refl, ap, ◌∙◌}
use mathlib.Core.List.{List, [], ◌++◌}
use Prim.Native.Nat.{ℕ, suc, ◌+◌, ◌/◌, ◌%◌}
use native.Mathlib.Nat.{add-zero}
use native.Mathlib.Omega.{arith}
use Rattle.x691.specs.Bits.{bit_of}
use Rattle.atn.specs.Format.{num, many, ◌⨾◌, ◌⨾?◌, or_note, end}
use Rattle.atn.specs.Messages.{constrained_data, date_time_group, message_data}
use Rattle.atn.specs.Reading.{Ans, ok, flags, read}
use Rattle.atn.specs.Tags as tag
use Rattle.atn.proofs.Tame.{tame, tame_fields}
use Rattle.atn.proofs.Elements.{elements_firm}
use Rattle.cursor.specs.declared.place.Cursor.{Cursor}
use Rattle.cursor.specs.declared.place.Got.{Got}
use Rattle.field_ranges.specs.Rows as rows
use Rattle.field_ranges.specs.Ends.{lowest, highest}
use Rattle.cursor.specs.Place.{Opens}
use Rattle.character_strings.specs.Texts.{Sized}
use Rattle.cursor.proofs.Laws.{reads_ok, marked-nil}
use Rattle.cursor.proofs.FormatLaws.{all_read, opened_inside, opened-bit, last_bit}
use Rattle.records.proofs.Telling.{told-then}
use Rattle.runs.specs.declared.At.{At}
use Rattle.runs.specs.Runs.{Runs}
use Rattle.runs.proofs.RunLaws.{runs_silent, runs_within, runs_clear, runs_set, ran_inside, ran_back, ran_must, ran_last, ran_may, ran_last_may, ran_note, ran_opened}
use Rattle.runs.proofs.SizeLaws.{runs_sized}
use Rattle.message_fields.specs.Fields.{number_field, maybe_number_field, date_time_field, acknowledgment_field}
use Rattle.elements.specs.Elements.{element_format, elements_at}
use Rattle.message.specs.Data.{constrained_at, data_at, message_at}

---------------------------------------------------------------- the data

abbrev absent : ℕ → ℕ → Ans
absent u p = ok p [] 0

abbrev there : List ℕ → ℕ → ℕ → Ans
there s u p = read constrained_data (0, 0) (bit_of s) u p

module _ (has : ℕ) {s : List ℕ} {c : Cursor} {n : ℕ} {w : List ℕ} where
  pub constrained_none : has ≡ 0 → Runs 162834 (constrained_at has s) s c n w w (record { n = n; c = c })
  unfolding constrained_at
  constrained_none z = runs_clear absent (there s) has z (runs_within 162834 absent (omega arith) (runs_silent absent (reads_ok [] 0 (marked-nil c))))

  pub constrained_some : {w' : List ℕ} {r : At} → (has ≡ 0 → ⊥) → Runs 162834 (there s) s c n w w' r → Runs 162834 (constrained_at has s) s c n w w' r
  unfolding constrained_at
  constrained_some z x = runs_set absent (there s) has z x

-- the elements behind their count
module _ (table : List ℕ) {s : List ℕ} {c : Cursor} {g z : Got ℕ} {n : ℕ} {w : List ℕ} (opens : Opens s c 1 g) (size : Sized rows.elements s g.c z) where
  counted : {a : ℕ} {w₁ : List ℕ} {r : At} → Runs a (elements_at table 1 z.v s) s z.c n w w₁ r → Runs a (λ u p. read (many 1 5 (element_format table)) (0, 0) (bit_of s) u p) s g.c n w w₁ r
  unfolding read elements_at lowest highest
  counted y = runs_sized 54 (λ k u p. elements_at table 1 k s u p) size y

  pub data_read : {a b : ℕ} {w₁ w₂ : List ℕ} {r t : At} → Runs a (elements_at table 1 z.v s) s z.c n w w₁ r → Runs b (constrained_at (g.v % 2) s) s r.c r.n w₁ w₂ t → Runs (a + b) (data_at table s) s c n w w₂ t
  unfolding data_at constrained_at tame flags all_read
  data_read {r = r} {t} x y =
      let all = counted x in
      record {
        recs = all.recs ++ y.recs;
        ran = λ i.
            let i₁ = opened_inside i opens in
            let run = all.ran i₁ in
            let i₂ = ran_inside _ s g.c r.c run i₁ in
            let elements = many 1 5 (element_format table) in
            let bit : r.c.why ≡ 0 → g.v % 2 ≡ bit_of s c.at = λ h. last_bit 0 i opens (ran_back _ run h) ∙ ap (bit_of s) (add-zero c.at) in
            ran_opened (elements ⨾ constrained_data ⨾? end) (0, 0) 1 g refl refl i (opens.gave i)
            (ran_must (0, 0) s elements (constrained_data ⨾? end) c.at (elements_firm table) run (ran_last_may (0, 0) s constrained_data c.at (g.v % 2) bit (y.ran i₂)));
        told = told-then all.told y.told;
      }

---------------------------------------------------------------- the message

module _ (table : List ℕ) {s : List ℕ} {c : Cursor} {g : Got ℕ} {n : ℕ} {w w₁ w₂ w₃ w₄ w₅ : List ℕ} {r₁ r₂ r₃ r₄ r₅ : At} {b : ℕ} (opens : Opens s c 2 g) where
  pub message-read : Runs 1 (number_field rows.msg_id 9 s) s g.c n w w₁ r₁ → Runs 1 (maybe_number_field (g.v / 2 % 2) rows.msg_id 10 s) s r₁.c r₁.n w₁ w₂ r₂ → Runs 6 (date_time_field s) s r₂.c r₂.n w₂ w₃ r₃
      → Runs 1 (acknowledgment_field (g.v % 2) s) s r₃.c r₃.n w₃ w₄ r₄ → Runs b (data_at table s) s r₄.c r₄.n w₄ w₅ r₅ → Runs (1 + (1 + (6 + (1 + b)))) (message_at table s) s c n w w₅ r₅
  unfolding message_at number_field maybe_number_field date_time_field acknowledgment_field data_at lowest highest tame tame_fields flags all_read
  message-read x₁ x₂ x₃ x₄ x₅ =
      record {
        recs = x₁.recs ++ (x₂.recs ++ (x₃.recs ++ (x₄.recs ++ x₅.recs)));
        ran = λ i.
            let i₀ = opened_inside i opens in
            let y₁ = x₁.ran i₀ in
            let i₁ = ran_inside _ s g.c r₁.c y₁ i₀ in
            let y₂ = x₂.ran i₁ in
            let i₂ = ran_inside _ s r₁.c r₂.c y₂ i₁ in
            let y₃ = x₃.ran i₂ in
            let i₃ = ran_inside _ s r₂.c r₃.c y₃ i₂ in
            let y₄ = x₄.ran i₃ in
            let i₄ = ran_inside _ s r₃.c r₄.c y₄ i₃ in
            let first : r₁.c.why ≡ 0 → g.v / 2 % 2 ≡ bit_of s c.at = λ h. opened-bit 0 i opens (omega arith) (ran_back _ y₁ h) ∙ ap (bit_of s) (add-zero c.at) in
            let second : r₃.c.why ≡ 0 → g.v % 2 ≡ bit_of s (suc c.at) = λ h. last_bit 1 i opens (ran_back _ y₁ (ran_back _ y₂ (ran_back _ y₃ h))) ∙ ap (bit_of s) (omega arith) in
            let behind₃ = message_data table ⨾ end in
            let behind₂ = or_note tag.logical_ack 1 0 (num tag.logical_ack 0 1) behind₃ in
            let behind₁ = date_time_group ⨾ behind₂ in
            let behind₀ = num tag.msg_ref 0 63 ⨾? behind₁ in
            ran_opened (num tag.msg_id 0 63 ⨾ behind₀) (0, 0) 2 g refl refl i (opens.gave i)
            (ran_must (0, 0) s (num tag.msg_id 0 63) behind₀ c.at refl y₁
            (ran_may (0, 0) s (num tag.msg_ref 0 63) behind₁ c.at (g.v / 2 % 2) refl first y₂
            (ran_must (0, 0) s date_time_group behind₂ (suc c.at) refl y₃
            (ran_note (0, 0) s tag.logical_ack 1 0 (num tag.logical_ack 0 1) behind₃ (suc c.at) (g.v % 2) refl second y₄ (ran_last (0, 0) s (message_data table) (suc (suc c.at)) (x₅.ran i₄))))));
        told = told-then x₁.told (told-then x₂.told (told-then x₃.told (told-then x₄.told x₅.told)));
      }
