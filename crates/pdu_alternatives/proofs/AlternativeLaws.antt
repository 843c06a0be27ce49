-- The message choices by the index: the start, and each alternative.
use mathlib.Core.Path.{◌≡◌, refl, sym, ap, ◌∙◌}
use mathlib.Core.List.{List, [], ◌++◌}
use Prim.Native.Nat.{ℕ, zero, suc, ◌+◌, ◌%◌, ◌≤◌, ◌<◌}
use native.Mathlib.Nat.{add-zero}
use native.Mathlib.Omega.{arith}
use Rattle.x691.specs.Bits.{bit_of}
use Rattle.x691.specs.Encoding.{count}
use Rattle.atn.specs.Format.{Alts, bad, num, end, ◌⨾◌, ◌⨾?◌, none_left, ◌∥◌, alternatives_of}
use Rattle.atn.specs.Messages.{protected_message}
use Rattle.atn.specs.Reading.{stop, mark, flags, read_choice}
use Rattle.atn.specs.Tags as tag
use Rattle.atn.proofs.Tame.{tame}
use Rattle.cursor.specs.declared.place.Cursor.{Cursor}
use Rattle.cursor.specs.declared.place.Got.{Got}
use Rattle.field_ranges.specs.Rows as rows
use Rattle.field_ranges.specs.Ends.{lowest, highest}
use Rattle.cursor.specs.Place.{stopped, Opens}
use Rattle.cursor.proofs.Laws.{reads_same, reads_stop}
use Rattle.cursor.proofs.FormatLaws.{all_read, opened_inside, last_bit}
use Rattle.records.proofs.Telling.{told-then}
use Rattle.runs.specs.declared.At.{At}
use Rattle.runs.specs.Runs.{Runs}
use Rattle.runs.proofs.RunLaws.{ran_inside, ran_last, ran_may, ran_opened, runs_silent, runs_within}
use Rattle.message_fields.specs.Fields.{number_field, maybe_number_field}
use Rattle.protected.specs.Parts.{protected}
use Rattle.forward.specs.Forward.{forward_at}
use Rattle.pdu_parts.specs.Parts.{reason_at}
use Rattle.pdu_alternatives.specs.Alternatives.{start_at, alternatives, alternative_at}

module _ (down : List ℕ) {s : List ℕ} {c : Cursor} {g : Got ℕ} {n : ℕ} {w w₁ w₂ : List ℕ} {r t : At} (opens : Opens s c 1 g) where
  pub start-read : {b : ℕ} → Runs 1 (maybe_number_field (g.v % 2) rows.side 7 s) s g.c n w w₁ r → Runs b (protected down s) s r.c r.n w₁ w₂ t → Runs (1 + b) (start_at down s) s c n w w₂ t
  unfolding start_at maybe_number_field number_field protected lowest highest tame flags all_read
  start-read x y =
      record {
        recs = x.recs ++ y.recs;
        ran = λ i.
            let i₀ = opened_inside i opens in
            let run = x.ran i₀ in
            let i₁ = ran_inside _ s g.c r.c run i₀ in
            let bit : g.c.why ≡ 0 → g.v % 2 ≡ bit_of s c.at = λ h. last_bit 0 i opens h ∙ ap (bit_of s) (add-zero c.at) in
            ran_opened (num tag.mode 0 1 ⨾? protected_message down ⨾ end) (0, 0) 1 g refl refl i (opens.gave i)
            (ran_may (0, 0) s (num tag.mode 0 1) (protected_message down ⨾ end) c.at (g.v % 2) refl bit run (ran_last (0, 0) s (protected_message down) (suc c.at) (y.ran i₁)));
        told = told-then x.told y.told;
      }

---------------------------------------------------------------- the alternatives

module _ (v : ℕ) (down up : List ℕ) {b : ℕ} {s : List ℕ} {c : Cursor} {n : ℕ} {w w' : List ℕ} {r : At} where
  -- of both directions: the reasons of aborts
  pub user_abort : (d : ℕ) → v ≡ 0 → Runs b (reason_at rows.user_abort_reason 4 s) s c n w w' r → Runs b (alternative_at d v down up s) s c n w w' r
  unfolding alternative_at reason_at read_choice highest
  user_abort zero q x = rw q x
  user_abort (suc d) q x = rw q x

  pub provider_abort : (d : ℕ) → v ≡ 1 → Runs b (reason_at rows.provider_abort_reason 5 s) s c n w w' r → Runs b (alternative_at d v down up s) s c n w w' r
  unfolding alternative_at reason_at read_choice highest
  provider_abort zero q x = rw q x
  provider_abort (suc d) q x = rw q x

  -- of the downlink
  pub down-start : v ≡ 2 → Runs b (start_at down s) s c n w w' r → Runs b (alternative_at 0 v down up s) s c n w w' r
  unfolding alternative_at start_at read_choice
  down-start q x = rw q x

  pub down_send : v ≡ 3 → Runs b (protected down s) s c n w w' r → Runs b (alternative_at 0 v down up s) s c n w w' r
  unfolding alternative_at protected read_choice
  down_send q x = rw q x

  -- of the uplink
  pub up-start-or_send : (v ≡ 0 → ⊥) → (v ≡ 1 → ⊥) → v < 4 → Runs b (protected up s) s c n w w' r → Runs b (alternative_at 1 v down up s) s c n w w' r
  unfolding alternative_at protected read_choice
  up-start-or_send = go v
    where
      go : (v : ℕ) → (v ≡ 0 → ⊥) → (v ≡ 1 → ⊥) → v < 4 → Runs b (protected up s) s c n w w' r → Runs b (alternative_at 1 v down up s) s c n w w' r
      go zero n₀ n₁ l x = absurd (n₀ refl)
      go (suc zero) n₀ n₁ l x = absurd (n₁ refl)
      go (suc (suc zero)) n₀ n₁ l x = x
      go (suc (suc (suc zero))) n₀ n₁ l x = x
      go (suc (suc (suc (suc v)))) n₀ n₁ l x = absurd (omega arith)

  pub up-forward : v ≡ 4 → Runs b (forward_at down up s) s c n w w' r → Runs b (alternative_at 1 v down up s) s c n w w' r
  unfolding alternative_at forward_at read_choice
  up-forward q x = rw q x

  pub up_response : v ≡ 5 → Runs b (reason_at rows.forward_response 6 s) s c n w w' r → Runs b (alternative_at 1 v down up s) s c n w w' r
  unfolding alternative_at reason_at read_choice highest
  up_response q x = rw q x

-- an index that no alternative has
beyond : (fs : Alts) (v : ℕ) (s : List ℕ) (u p : ℕ) → count (alternatives_of fs) ≤ v → read_choice fs v (0, 0) (bit_of s) u p ≡ stop bad p [] 1
unfolding count read_choice mark
beyond none_left v s u p h = refl
beyond (f ∥ fs) zero s u p h = absurd (omega arith)
beyond (f ∥ fs) (suc v) s u p h = beyond fs v s u p (omega arith)

pub no-alternative : (d v : ℕ) (down up : List ℕ) {b : ℕ} {s : List ℕ} {c e : Cursor} {n : ℕ} {w : List ℕ} → count (alternatives_of (alternatives d down up)) ≤ v → e ≡ stopped c 5 1
    → Runs b (alternative_at d v down up s) s c n w w (record { n = n; c = e })
unfolding alternative_at
no-alternative d v down up {b} {s} {c} h q =
    runs_within b (alternative_at d v down up s) (omega arith)
    (runs_silent (alternative_at d v down up s) (reads_same (λ u p. stop bad p [] 1) (alternative_at d v down up s) (sym (beyond (alternatives d down up) v s c.end c.at h)) (reads_stop bad 1 (λ z. omega arith) q)))

module _ (d v : ℕ) (down up : List ℕ) {b : ℕ} {s : List ℕ} {c : Cursor} {n : ℕ} {w w' : List ℕ} {r : At} where
  pub of_downlink : d ≡ 0 → Runs b (alternative_at 0 v down [] s) s c n w w' r → Runs b (alternative_at d v down up s) s c n w w' r
  unfolding alternative_at
  of_downlink q x = rw q x

  pub of_uplink : (d ≡ 0 → ⊥) → Runs b (alternative_at 1 v down up s) s c n w w' r → Runs b (alternative_at d v down up s) s c n w w' r
  unfolding alternative_at
  of_uplink = go d
    where
      go : (d : ℕ) → (d ≡ 0 → ⊥) → Runs b (alternative_at 1 v down up s) s c n w w' r → Runs b (alternative_at d v down up s) s c n w w' r
      go zero h x = absurd (h refl)
      go (suc d) h x = x
