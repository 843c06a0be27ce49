-- A send whose message is badly formed, which is seen before anything is told.
use mathlib.Core.Path.{◌≡◌, refl, ap, ◌∙◌}
use mathlib.Core.Bool.{Bool, true, false}
use mathlib.Core.List.{List, [], ◌∷◌}
use Prim.Native.Nat.{ℕ, ◌+◌, ◌*◌, ◌≤◌}
use native.Mathlib.Omega.{arith}
use lib.ListN.{length}
use Rattle.x691.specs.Bits.{bit_of}
use Rattle.atn.specs.Format.{out, bad, lack, quit}
use Rattle.atn.specs.Messages.{atc_message}
use Rattle.atn.specs.Reading.{Rec, rec, Ans, stop, or, pull, close, shut, read}
use Rattle.atn.specs.Entries.{need}
use Rattle.atn.proofs.Steps.{pull_go}
use Rattle.cursor.specs.declared.place.Cursor.{Cursor}
use Rattle.cursor.specs.Place.{Inside, Led, Reads}
use Rattle.cursor.specs.Place as cursors
use Rattle.records.specs.Space.{size, space}
use Rattle.records.proofs.Telling.{told_unwritten}
use Rattle.runs.specs.Runs.{given, Ran, stayed, went, passed, gave_up, failed, Runs}
use Rattle.runs.proofs.RunLaws.{runs_untold, runs_within}
use Rattle.elements.specs.Unlisted.{Fails}
use Rattle.message.specs.Data.{message_at}
use Rattle.inner_messages.specs.Parts.{inner_at}
use Rattle.integrity.proofs.IntegrityLaws.{integrity_lost}
use Rattle.pdus.specs.Pdus.{index_bits, pdu_at}
use Rattle.sends.specs.declared.Send.{Send}
use Rattle.sends.specs.Sends.{Sends, table_of}
use Rattle.sends.proofs.HeadLaws.{place, measured}
use Rattle.sends.proofs.SendLaws.{send_read}

-- a reading that stops with 5 is badly formed
pub record Bad (a : Ans) : Type 0 where
  pub at : ℕ
  pub marks : ℕ
  pub recs : List Rec
  pub is : a ≡ stop bad at recs marks

stops : {b : ℕ} {k : ℕ → ℕ → Ans} {s : List ℕ} {c : Cursor} {n : ℕ} → c.why ≡ 0 → Inside s c → Fails b k s c n → Bad (k c.end c.at)
stops {k = k} {c = c} z i x = go (x.run.ran i)
  where
    go : {R : List Rec} → Ran k c x.to.c R → Bad (k c.end c.at)
    go (stayed h _ _) = absurd (h z)
    go (went p m _ g u y) = absurd (let e = ap (λ (d : Cursor). d.why) y in omega (arith, x.badly))
    go (passed l p m _ g u y) = absurd (let e = ap (λ (d : Cursor). d.why) y in omega (arith, x.badly))
    go (gave_up o j t p m _ g u y) = absurd (given-up j (ap (λ (d : Cursor). d.why) y))
      where
        given-up : (j : Bool) → x.to.c.why ≡ given j → ⊥
        given-up true e = omega (arith, x.badly)
        given-up false e = omega (arith, x.badly)
    go (failed (out l) p m S n _ g u y) = absurd (let e = ap (λ (d : Cursor). d.why) y in omega (arith, x.badly))
    go (failed bad p m S n _ g u y) = record { at = p; marks = m; recs = S; is = g }
    go (failed lack p m S n _ g u y) = absurd (let e = ap (λ (d : Cursor). d.why) y in omega (arith, x.badly))
    go (failed (quit o j t) p m S n _ g u y) = absurd (n refl)

-- it stops with 5 behind its string
pub record Refused (d : ℕ) (down up s : List ℕ) (r : Send) : Type 0 where
  pub marks : ℕ
  pub run : Runs 236124 (pdu_at d down up s) s (place s 0) 0 [] [] (record { n = 2; c = record { at = r.at + r.count; end = length s * 8; why = 5; marks = marks } })

module _ (d : ℕ) (s : List ℕ) (r : Send) (small : length s ≤ 65536) (one : d ≤ 1) (x : Sends d s r) where
  -- what is badly formed in the string is so behind it
  abbrev string : List ℕ → ℕ → ℕ → Ans
  string table u p = pull (bit_of s) u p r.count (λ _. close (p + r.count) (read (atc_message table) (0, 0) (bit_of s) (p + r.count) p))

  behind : (table : List ℕ) (m : ℕ) {p : ℕ} {S : List Rec} → r.at + r.count ≤ length s * 8 → message_at table s (r.at + r.count) r.at ≡ stop bad p S m
      → Reads (string table) s (place s r.at) (record { at = r.at + r.count; end = length s * 8; why = 5; marks = or 0 m }) []
  unfolding message_at close shut
  behind table m {S = S} l q =
      record { led = λ _. cursors.Led.failed bad (r.at + r.count) m S (λ z. omega arith) refl (pull_go (bit_of s) (length s * 8) r.at r.count _ l ∙ ap (close (r.at + r.count)) q) l refl }

  in_string : (table : List ℕ) (m : ℕ) {n p : ℕ} {S : List Rec} → r.at + r.count ≤ length s * 8 → message_at table s (r.at + r.count) r.at ≡ stop bad p S m
      → Runs 236059 (inner_at table s) s (place s (index_bits d + 4)) n [] [] (record { n = n; c = record { at = r.at + r.count; end = length s * 8; why = 5; marks = or 0 m } })
  unfolding inner_at read
  in_string table m l q =
      runs_within 236059 (inner_at table s) (omega arith)
      (runs_untold (inner_at table s) ((measured small x.sized x.held).then (λ k u p. pull (bit_of s) u p k (λ _. close (p + k) (read (atc_message table) (0, 0) (bit_of s) (p + k) p))) (behind table m l q)) (λ z. omega arith))

  pub send_unlisted : (down up : List ℕ) {table : List ℕ} → table ≡ table_of d down up → r.at + r.count ≤ length s * 8 → ((n : ℕ) → Fails 236059 (message_at table s) s (record { at = r.at; end = r.at + r.count; why = 0; marks = 0 }) n) → Refused d down up s r
  unfolding space size need
  send_unlisted down up {table} q l f =
      let b = stops refl (omega arith, l) (f 0) in
      record {
        marks = or 0 b.marks;
        run =
            send_read d s r small one x down up (told_unwritten (rec 1 0 d 0 0 ∷ []) (omega arith)) (told_unwritten (rec 2 0 r.index 0 1 ∷ []) (omega arith)) q (in_string table b.marks l b.is) (integrity_lost (λ z. omega arith));
      }
