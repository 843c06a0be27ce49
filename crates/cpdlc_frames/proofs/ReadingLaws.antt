-- From the cursor behind a frame's message to what the reading says of the frame.
use mathlib.Core.Path.{◌≡◌, refl, sym, ap, ◌∙◌}
use mathlib.Core.Bool.{Bool, true, false}
use mathlib.Core.List.{List}
use Prim.Native.Nat.{ℕ, zero, suc, ◌*◌, ◌≤◌}
use native.Mathlib.Omega.{arith}
use lib.ListN.{length}
use Rattle.x691.specs.Bits.{bit_of}
use Rattle.atn.specs.Format.{out, bad, lack, quit}
use Rattle.atn.specs.Reading.{Rec, stop, or}
use Rattle.atn.specs.Entries.{Reply, accept, stopped, reply, read_frame, pdus}
use Rattle.atn.proofs.Tame.{keeps_stop, tame, tame_fields, tame_choice}
use Rattle.atn.proofs.Calm.{is_quit, gives_up, calm, calm_read}
use Rattle.cursor.specs.declared.place.Cursor.{Cursor}
use Rattle.cursor.specs.Place.{Inside}
use Rattle.records.proofs.Passes.{counted}
use Rattle.spare_words.proofs.KeptLaws.{told-kept}
use Rattle.runs.specs.declared.At.{At}
use Rattle.runs.specs.Runs.{given, Ran, stayed, went, passed, gave_up, failed, Runs}
use Rattle.pdus.specs.Pdus.{pdu_at}
use Rattle.verdicts.specs.declared.Verdict.{Verdict}
use Rattle.verdicts.specs.Verdicts.{verdict_of, Tried, Tells, Kept}

pdus_calm : (d : ℕ) (down up : List ℕ) → calm (pdus d down up) ≡ true
unfolding pdus tame tame_fields tame_choice keeps_stop
pdus_calm zero down up = refl
pdus_calm (suc d) down up = refl

-- the message at the frame's own level is never given up
never_quit : (d : ℕ) (down up s : List ℕ) {o j : Bool} {t p m : ℕ} {R : List Rec} → pdu_at d down up s (length s * 8) 0 ≡ stop (quit o j t) p R m → ⊥
unfolding pdu_at gives_up is_quit
never_quit d down up s a =
    let h : gives_up (pdu_at d down up s (length s * 8) 0) ≡ false = calm_read (bit_of s) (pdus d down up) (0, 0) (length s * 8) 0 (pdus_calm d down up) in
    let z : true ≡ false = rw a at h in
    let y : ◌≡◌ {A = ℕ} 0 1 = cc in
    omega arith

given-high : (j : Bool) → 8 ≤ given j
given-high true = omega arith
given-high false = omega arith

abbrev pub begin : List ℕ → Cursor
begin s = record { at = 0; end = length s * 8; why = 0; marks = 0 }

pub begin-inside : (s : List ℕ) → Inside s (begin s)
begin-inside s = (omega arith, omega arith)

module _ (d : ℕ) (down up s : List ℕ) where
  abbrev frame : Reply
  frame = read_frame (pdus d down up) s

  ran_whole : {c : Cursor} {R : List Rec} → Ran (pdu_at d down up s) (begin s) c R → c.why ≡ 0 → frame ≡ accept false c.at c.marks R
  unfolding read_frame reply pdu_at or
  ran_whole (stayed h q r) z = absurd (h refl)
  ran_whole (went p m y a l q) z = rw (q, a)
  ran_whole (passed lacked p m y a l q) z = absurd (let x : ◌≡◌ {A = ℕ} 7 0 = rw q at z in omega arith)
  ran_whole (gave_up o j t p m y a l q) z = absurd (never_quit d down up s a)
  ran_whole (failed w p m S n y a l q) z = absurd (n (rw q at z))

  ran_cut : {c : Cursor} {R : List Rec} → Ran (pdu_at d down up s) (begin s) c R → c.why ≡ 7 → frame ≡ accept true c.at c.marks R
  unfolding read_frame reply pdu_at or
  ran_cut (stayed h q r) z = absurd (h refl)
  ran_cut (went p m y a l q) z = absurd (let x : ◌≡◌ {A = ℕ} 0 7 = rw q at z in omega arith)
  ran_cut (passed lacked p m y a l q) z = rw (q, a)
  ran_cut (gave_up o j t p m y a l q) z = absurd (never_quit d down up s a)
  ran_cut (failed (out lacked) p m S n y a l q) z = absurd (let x = rw q at z in omega arith)
  ran_cut (failed bad p m S n y a l q) z = absurd (let x : ◌≡◌ {A = ℕ} 5 7 = rw q at z in omega arith)
  ran_cut (failed lack p m S n y a l q) z = absurd (let x : ◌≡◌ {A = ℕ} 6 7 = rw q at z in omega arith)
  ran_cut (failed (quit o j t) p m S n y a l q) z = absurd (n refl)

  ran_refused : {c : Cursor} {R : List Rec} → Ran (pdu_at d down up s) (begin s) c R → (c.why ≡ 0 → ⊥) → (c.why ≡ 7 → ⊥) → record { why = c.why; reach = c.at; marks = 0; count = 0 } ≡ verdict_of frame
  unfolding read_frame reply stopped pdu_at verdict_of
  ran_refused (stayed h q r) n₀ n₇ = absurd (h refl)
  ran_refused (went p m y a l q) n₀ n₇ = absurd (n₀ (rw q refl))
  ran_refused (passed lacked p m y a l q) n₀ n₇ = absurd (n₇ (rw q refl))
  ran_refused (gave_up o j t p m y a l q) n₀ n₇ = absurd (never_quit d down up s a)
  ran_refused (failed (out lacked) p m S n y a l q) n₀ n₇ = rw (q, a)
  ran_refused (failed bad p m S n y a l q) n₀ n₇ = rw (q, a)
  ran_refused (failed lack p m S n y a l q) n₀ n₇ = rw (q, a)
  ran_refused (failed (quit o j t) p m S n y a l q) n₀ n₇ = absurd (n refl)

  -- an accepted reading told its records
  pub ran_tells : {c : Cursor} {R S : List Rec} → Ran (pdu_at d down up s) (begin s) c R → Tells S frame → R ≡ S
  unfolding read_frame reply stopped pdu_at
  ran_tells (stayed h q r) x = absurd (h refl)
  ran_tells (went p m y a l q) x = let e = rw a at x.is in cc
  ran_tells (passed lacked p m y a l q) x = let e = rw a at x.is in cc
  ran_tells (gave_up o j t p m y a l q) x = absurd (never_quit d down up s a)
  ran_tells (failed (out lacked) p m S n y a l q) x = let e = rw a at x.is in absurd (let z : ◌≡◌ {A = ℕ} 0 1 = cc in omega arith)
  ran_tells (failed bad p m S n y a l q) x = let e = rw a at x.is in absurd (let z : ◌≡◌ {A = ℕ} 0 1 = cc in omega arith)
  ran_tells (failed lack p m S n y a l q) x = let e = rw a at x.is in absurd (let z : ◌≡◌ {A = ℕ} 0 1 = cc in omega arith)
  ran_tells (failed (quit o j t) p m S n y a l q) x = absurd (n refl)

  ---------------------------------------------------------------- into spare words

  module _ {w k : List ℕ} {x : At} (run : Runs 236124 (pdu_at d down up s) s (begin s) 0 w k x) where
    keeps : Kept frame k
    keeps = record { kept = λ t. told-kept (rw (ran_tells (run.ran (begin-inside s)) t) at run.told) }

    abbrev counting : ℕ → ℕ → Verdict
    counting why n = record { why = why; reach = x.c.at; marks = x.c.marks; count = n }

    pub tried_whole : x.c.why ≡ 0 → Tried frame (record { why = 0; reach = x.c.at; marks = x.c.marks; count = x.n }) k
    unfolding verdict_of
    tried_whole z = record { is = ap (counting 0) (counted run.told) ∙ sym (ap verdict_of (ran_whole (run.ran (begin-inside s)) z)); few = run.told.few; keeps = keeps }

    pub tried_cut : x.c.why ≡ 7 → Tried frame (record { why = 7; reach = x.c.at; marks = x.c.marks; count = x.n }) k
    unfolding verdict_of
    tried_cut z = record { is = ap (counting 7) (counted run.told) ∙ sym (ap verdict_of (ran_cut (run.ran (begin-inside s)) z)); few = run.told.few; keeps = keeps }

    pub tried_refused : (x.c.why ≡ 0 → ⊥) → (x.c.why ≡ 7 → ⊥) → Tried frame (record { why = x.c.why; reach = x.c.at; marks = 0; count = 0 }) k
    tried_refused n₀ n₇ = record { is = ran_refused (run.ran (begin-inside s)) n₀ n₇; few = omega arith; keeps = keeps }
