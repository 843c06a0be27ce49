-- What is answered from a verdict.
use mathlib.Core.Path.{◌≡◌, refl, sym}
use mathlib.Core.Bool.{Bool, true, false}
use mathlib.Core.List.{List, ◌++◌}
use Prim.Native.Nat.{ℕ, ◌+◌, ◌-◌, ◌*◌, ◌/◌, ◌%◌, ◌≤◌, ◌<◌}
use native.Mathlib.Omega.{arith}
use mathlib.Core.Logic.{◌⊎◌, ⊎_elim}
use lib.ListN.{length, take, drop}
use lib.Dec.{eqb}
use Rattle.atn.specs.Reading.{Rec}
use Rattle.atn.specs.Entries.{Reply, accept, ran_out, badly, unsupplied, read_frame, pdus, settle}
use Rattle.answers.specs.declared.Answer.{Answer}
use Rattle.answers.specs.declared.Answer.TheVariants.{Accepted, Refused}
use Rattle.answers.specs.Says.{Says}
use Rattle.cursor.specs.declared.place.Cursor.{Cursor}
use Rattle.records.specs.Space.{space}
use Rattle.records.proofs.Passes.{settle_out, settle-bad, settle_lack, settle_full, settle-fits}
use Rattle.spare_words.proofs.KeptLaws.{settle-kept}
use Rattle.runs.specs.declared.At.{At}
use Rattle.runs.specs.Runs.{Runs}
use Rattle.pdus.specs.Pdus.{pdu_at}
use Rattle.sends.specs.declared.Send.{Send}
use Rattle.sends.specs.Sends.{Sends, table_of}
use Rattle.elements.specs.Unlisted.{Fails}
use Rattle.message.specs.Data.{message_at}
use Rattle.sends.proofs.SendLaws.{send_lost}
use Rattle.sends.proofs.UnlistedLaws.{send_unlisted}
use Rattle.verdicts.specs.declared.Verdict.{Verdict}
use Rattle.verdicts.specs.Verdicts.{verdict_of, Tells, Kept, Follows}
use Rattle.cpdlc_frames.proofs.ReadingLaws.{begin, begin-inside, ran_tells, tried_refused}

module _ (w : List ℕ) (cut : Bool) (v : Verdict) {need : ℕ} (needs : need ≡ space v.count) where
  -- the records do not fit
  pub says_full : length w < need → (R : List Rec) → v.count ≡ length R → Says (Refused 7 v.reach need 0) w (settle (accept cut v.reach v.marks R) w)
  says_full l R e = record { is = settle_full refl refl e needs l }

  -- they do, and were written
  pub says-written : (d : ℕ) (down up s : List ℕ) {b : ℕ} {e : List ℕ} {x : At} → need ≤ length w → {c : Cursor} → c ≡ begin s → Runs b (pdu_at d down up s) s c 0 (take need w) e x → (R : List Rec) → v.count ≡ length R → Tells R (read_frame (pdus d down up) s)
      → Says (Accepted cut v.reach v.marks v.count) (e ++ drop need w) (settle (accept cut v.reach v.marks R) w)
  says-written d down up s l from runs R q t =
      let run = rw from at runs in
      record { is = settle-fits refl refl q needs l (rw (ran_tells d down up s (run.ran (begin-inside s)) t) at run.told) }

-- they fit, and were kept
pub says-kept : (w k : List ℕ) (cut : Bool) (v : Verdict) {need : ℕ} → need ≡ space v.count → {r : Reply} {w' : List ℕ} → need ≤ length w → need ≤ length k → w' ≡ take need k ++ drop (length (take need k)) w → Kept r k → (R : List Rec) → v.count ≡ length R → Tells R r
    → Says (Accepted cut v.reach v.marks v.count) w' (settle (accept cut v.reach v.marks R) w)
says-kept w k cut v needs l f q h R e t = record { is = settle-kept refl e needs w k l f (h.kept t) q }

module _ {v : Verdict} {w : List ℕ} (u : Reply) (h : v ≡ verdict_of u) where
  pub says-refused : (v.why ≡ 0 → ⊥) → (v.why ≡ 7 → ⊥) → Says (Refused (v.why % 16) v.reach 0 (v.why / 16)) w (settle u w)
  unfolding verdict_of
  says-refused = go u h
    where
      go : (u : Reply) → v ≡ verdict_of u → (v.why ≡ 0 → ⊥) → (v.why ≡ 7 → ⊥) → Says (Refused (v.why % 16) v.reach 0 (v.why / 16)) w (settle u w)
      go (accept false p m R) q n₀ n₇ = absurd (n₀ (rw q refl))
      go (accept true p m R) q n₀ n₇ = absurd (n₇ (rw q refl))
      go (ran_out p k) q n₀ n₇ =
          let number : (4 + 16 * k) % 16 ≡ 4 = omega arith in
          let lacked : (4 + 16 * k) / 16 ≡ k = omega arith in
          rw (q, number, lacked) (record { is = settle_out refl refl })
      go (badly p) q n₀ n₇ = rw q (record { is = settle-bad refl refl })
      go (unsupplied p) q n₀ n₇ = rw q (record { is = settle_lack refl refl })

-- accepted, and cut where the verdict says 7
pub says-accepted : (w : List ℕ) {a : Answer} {v : Verdict} {w' : List ℕ} {r : Reply} (cut : Bool) → cut ≡ eqb v.why 7 → (v.why ≡ 7) ⊎ (v.why ≡ 0) → ((R : List Rec) → v.count ≡ length R → Tells R r → Says a w' (settle (accept cut v.reach v.marks R) w)) → (u : Reply) → v ≡ verdict_of u → Follows u r
    → Says a w' (settle u w)
unfolding verdict_of
says-accepted w cut e z f (accept false p m R) h x = let y : cut ≡ false = rw h at e in rw (h, y) at (f R (rw h refl) (x.follows (record { cut = false; reach = p; marks = m; is = refl })))
says-accepted w cut e z f (accept true p m R) h x = let y : cut ≡ true = rw h at e in rw (h, y) at (f R (rw h refl) (x.follows (record { cut = true; reach = p; marks = m; is = refl })))
says-accepted w cut e z f (ran_out p lacked) h x = absurd (⊎_elim (λ q. let y = rw h at q in omega arith) (λ q. let y = rw h at q in omega arith) z)
says-accepted w cut e z f (badly p) h x = absurd (⊎_elim (λ q. let y : ◌≡◌ {A = ℕ} 5 7 = rw h at q in omega arith) (λ q. let y : ◌≡◌ {A = ℕ} 5 0 = rw h at q in omega arith) z)
says-accepted w cut e z f (unsupplied p) h x = absurd (⊎_elim (λ q. let y : ◌≡◌ {A = ℕ} 6 7 = rw h at q in omega arith) (λ q. let y : ◌≡◌ {A = ℕ} 6 0 = rw h at q in omega arith) z)

-- a send that ends before its string is refused
pub says_lost : (d : ℕ) (down up s w : List ℕ) (send : Send) {k : ℕ} → length s ≤ 65536 → d ≤ 1 → Sends d s send → length s * 8 < send.at + send.count → k ≡ send.at + send.count - length s * 8 → Says (Refused 4 send.at 0 k) w (settle (read_frame (pdus d down up) s) w)
says_lost d down up s w send {k} small one x l q =
    let tried = tried_refused d down up s (send_lost d s send small one x down up l) (λ z. omega arith) (λ z. omega arith) in
    let number : (4 + 16 * k) % 16 ≡ 4 = omega arith in
    let lacked : (4 + 16 * k) / 16 ≡ k = omega arith in
    rw (number, lacked) at (rw (sym q) at (says-refused {w = w} (read_frame (pdus d down up) s) tried.is (λ z. omega arith) (λ z. omega arith)))

-- a send whose message names an element outside the table is refused
pub says-unlisted : (d : ℕ) (down up s w : List ℕ) (send : Send) {table : List ℕ} → length s ≤ 65536 → d ≤ 1 → Sends d s send → table ≡ table_of d down up → send.at + send.count ≤ length s * 8
    → ((n : ℕ) → Fails 236059 (message_at table s) s (record { at = send.at; end = send.at + send.count; why = 0; marks = 0 }) n) → Says (Refused 5 (send.at + send.count) 0 0) w (settle (read_frame (pdus d down up) s) w)
says-unlisted d down up s w send small one x q l f =
    let tried = tried_refused d down up s (send_unlisted d s send small one x down up q l f).run (λ z. omega arith) (λ z. omega arith) in
    says-refused {w = w} (read_frame (pdus d down up) s) tried.is (λ z. omega arith) (λ z. omega arith)
