-- The message of a send, from its string and the integrity check behind it.
use mathlib.Core.Path.{◌≡◌, refl, ap}
use mathlib.Core.Logic.{inl, inr}
use mathlib.Core.List.{List, [], ◌∷◌}
use Prim.Native.Nat.{ℕ, zero, suc, ◌+◌, ◌-◌, ◌*◌, ◌/◌, ◌%◌, ◌≤◌, ◌<◌}
use native.Mathlib.Omega.{arith}
use lib.ListN.{length}
use borrow.Author.Tests.{le-leb}
use Rattle.atn.specs.Reading.{rec}
use Rattle.cursor.specs.declared.place.Cursor.{Cursor}
use Rattle.length_determinants.proofs.LengthLaws.{passes_over, passes-short}
use Rattle.inner_strings.specs.Strings.{Lacks, Has}
use Rattle.inner_strings.proofs.StringLaws.{string_stops, string-held}
use Rattle.inner_messages.specs.Parts.{inner_at}
use Rattle.inner_messages.proofs.InnerLaws.{string_lost}
use Rattle.integrity.specs.Parts.{integrity}
use Rattle.integrity.proofs.IntegrityLaws.{integrity_lost}
use Rattle.atn.specs.Entries.{need}
use Rattle.records.specs.Space.{size, space}
use Rattle.records.specs.Told.{Told}
use Rattle.records.proofs.Telling.{told_unwritten}
use Rattle.runs.specs.declared.At.{At}
use Rattle.runs.specs.Runs.{Runs}
use Rattle.runs.proofs.RunLaws.{runs_within}
use Rattle.protected.specs.Parts.{protected}
use Rattle.protected.proofs.ProtectedLaws.{algorithm-none, part_there, protected-read}
use Rattle.pdu_alternatives.specs.Alternatives.{alternative_at}
use Rattle.pdu_alternatives.proofs.AlternativeLaws.{down_send, up-start-or_send}
use Rattle.pdus.specs.Pdus.{index_bits, pdu_at}
use Rattle.pdus.proofs.PduLaws.{pdu-read}
use Rattle.sends.specs.declared.Send.{Send}
use Rattle.sends.specs.Sends.{Protected, Shortest, one_octet, two_octets, Sends, table_of}
use Rattle.sends.proofs.HeadLaws.{place, pulled, opens, parts, measured}

---------------------------------------------------------------- the table of the direction

pub down-table : (d : ℕ) (down up : List ℕ) → d ≡ 0 → down ≡ table_of d down up
unfolding table_of
down-table d down up q = rw q refl

pub up-table : (d : ℕ) (down up : List ℕ) → (d ≡ 0 → ⊥) → up ≡ table_of d down up
unfolding table_of
up-table zero down up h = absurd (h refl)
up-table (suc d) down up h = refl

pub one_table : (d : ℕ) (table : List ℕ) → table ≡ table_of d table table
unfolding table_of
one_table zero table = refl
one_table (suc d) table = refl

---------------------------------------------------------------- from the first bits to the message

-- a protected message is all of its alternative
alternative : (d index : ℕ) (down up : List ℕ) {b : ℕ} {s : List ℕ} {c : Cursor} {n : ℕ} {w w' : List ℕ} {r : At} → d ≤ 1 → Protected d index → Runs b (protected (table_of d down up) s) s c n w w' r → Runs b (alternative_at d index down up s) s c n w w' r
unfolding table_of
alternative zero index down up one (inl q) x = down_send index down up q x
alternative zero index down up one (inr q) x = absurd (q.1 refl)
alternative (suc zero) index down up one (inl q) x = up-start-or_send index down up (λ z. omega arith) (λ z. omega arith) (omega arith) x
alternative (suc zero) index down up one (inr q) x = up-start-or_send index down up (λ z. omega (arith, q.0)) (λ z. omega (arith, q.0)) (omega (arith, q.0)) x
alternative (suc (suc d)) index down up one p x = absurd (omega arith)

length-behind : {b : ℕ → ℕ} {p n q : ℕ} → Shortest b p n q → p + 8 ≤ q
length-behind (one_octet l w h) = omega arith
length-behind (two_octets a l w h) = omega arith

module _ (d : ℕ) (s : List ℕ) (r : Send) (small : length s ≤ 65536) (one : d ≤ 1) (x : Sends d s r) where
  abbrev wide : ℕ
  wide = index_bits d

  -- the places behind the choice, the extension bit of the protected message, and its presence bits
  abbrev chosen : Cursor
  chosen = place s (1 + wide)

  abbrev pub sized : Cursor
  sized = place s (wide + 4)

  abbrev first : Cursor
  first = place s r.at

  ahead : wide + 12 ≤ length s * 8
  ahead = omega (arith, length-behind x.sized, x.held)

  -- its string
  pub send_held : {e : ℕ} → e ≡ length s * 8 → r.at + r.count ≤ length s * 8 → Has s sized (r.at / 8) ((r.at + r.count + 7) / 8) (record { at = r.at % 8; end = r.at % 8 + r.count; why = 0; marks = 0 }) (record { at = r.at + r.count; end = e; why = 0; marks = 0 })
  send_held q l = rw q (string-held (measured small x.sized x.held) (passes_over first r.count refl x.held (omega arith)) refl refl (le-leb (r.at + r.count) (length s * 8) l))

  send_lacks : length s * 8 < r.at + r.count → Lacks s sized (record { at = r.at; end = length s * 8; why = 4 + 16 * (r.at + r.count - length s * 8); marks = 0 })
  send_lacks l =
      string_stops (measured small x.sized x.held) (passes-short first r.count refl x.held (omega (arith, x.held)) (let e : r.at + r.count - length s * 8 ≡ r.count - (length s * 8 - r.at) = omega (arith, x.held) in ap (λ (k : ℕ). 4 + 16 * k) e)) (λ z. omega arith)

  -- the records of the direction and the choice, the string, and what stands behind it
  pub send_read : (down up : List ℕ) {table : List ℕ} {m n : ℕ} {w w₁ w₂ w₃ w₄ : List ℕ} {y t : At} → Told 1 w w₁ 0 m (rec 1 0 d 0 0 ∷ []) → Told 1 w₁ w₂ m n (rec 2 0 r.index 0 1 ∷ []) → table ≡ table_of d down up
      → Runs 236059 (inner_at table s) s sized n w₂ w₃ y → Runs 1 (integrity s) s y.c y.n w₃ w₄ t → Runs 236124 (pdu_at d down up s) s (place s 0) 0 w w₄ t
  send_read down up t₁ t₂ q string check =
      let p = parts d r.index s one x.named x.head in
      runs_within 236124 (pdu_at d down up s) (omega arith)
      (pdu-read d down up one refl t₁ (pulled p.extension refl (omega (arith, ahead))) refl refl (pulled p.choice refl (omega (arith, ahead))) refl t₂
      (alternative d r.index down up one x.named
      (protected-read (table_of d down up) (pulled {q = 2 + wide} p.inner_extension (omega arith) (omega (arith, ahead))) refl (opens {q = wide + 4} p.present (omega arith) (omega (arith, ahead))) (algorithm-none 0 refl) (part_there 1 (table_of d down up) (λ z. omega arith) (rw q at string)) check)))

  -- no words are needed to see that the frame ends before its string
  pub send_lost : (down up : List ℕ) → length s * 8 < r.at + r.count → Runs 236124 (pdu_at d down up s) s (place s 0) 0 [] [] (record { n = 2; c = record { at = r.at; end = length s * 8; why = 4 + 16 * (r.at + r.count - length s * 8); marks = 0 } })
  unfolding space size need
  send_lost down up l =
      send_read down up (told_unwritten (rec 1 0 d 0 0 ∷ []) (omega arith)) (told_unwritten (rec 2 0 r.index 0 1 ∷ []) (omega arith)) refl (string_lost (table_of d down up) refl (send_lacks l)) (integrity_lost (λ z. omega arith))
