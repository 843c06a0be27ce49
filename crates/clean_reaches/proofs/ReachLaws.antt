-- From what a reading says to the clean reach.
use mathlib.Core.Path.{◌≡◌, refl, sym, ap, ◌∙◌}
use mathlib.Core.Bool.{Bool, true, false}
use mathlib.Core.Option.{Option, none, some}
use mathlib.Core.List.{List}
use Prim.Native.Nat.{ℕ, zero, suc, ◌*◌, ◌≤◌}
use native.Mathlib.Omega.{arith}
use lib.ListN.{length}
use lib.Dec.{eqb}
use Rattle.x691.specs.Bits.{bit_of}
use Rattle.atn.specs.Format.{Fmt, out, bad, lack, quit}
use Rattle.atn.specs.Reading.{Rec, or, read}
use Rattle.atn.specs.Entries.{Reply, accept, ran_out, badly, unsupplied, reply, read_frame}
use Rattle.atn.specs.Entries as entries
use Rattle.cursor.specs.declared.place.Cursor.{Cursor}
use Rattle.cursor.specs.Place.{Led, stayed, went, failed, Takes}
use Rattle.cm_pdus.specs.Pdus.{pdu_of}
use Rattle.cm_pdus.proofs.Sides.{by-direction}
use Rattle.verdicts.specs.declared.Verdict.{Verdict}
use Rattle.verdicts.specs.Verdicts.{verdict_of}
use Rattle.message_runs.specs.declared.Kind.TheVariants.{Cm}
use Rattle.message_runs.specs.Runs.{format_of, clean_reach}

---------------------------------------------------------------- clean is whole with no marks

module _ (p : ℕ) (R : List Rec) where
  pub cut-not-clean : {c : Bool} (m : ℕ) → c ≡ true → none ≡ clean_reach (accept c p m R)
  unfolding clean_reach
  cut-not-clean m h = rw h

  pub marked-not-clean : {c : Bool} (m : ℕ) → c ≡ false → (m ≡ 0 → ⊥) → none ≡ clean_reach (accept c p m R)
  unfolding clean_reach
  marked-not-clean zero h n = absurd (n refl)
  marked-not-clean (suc m) h n = rw h

  pub whole-clean : {c : Bool} {m : ℕ} → c ≡ false → m ≡ 0 → some p ≡ clean_reach (accept c p m R)
  unfolding clean_reach
  whole-clean h n = rw (h, n)

---------------------------------------------------------------- of a verdict

module _ {v : Verdict} where
  pub verdict-not-clean : (r : Reply) → v ≡ verdict_of r → (v.why ≡ 0 → ⊥) → none ≡ clean_reach r
  unfolding verdict_of clean_reach
  verdict-not-clean (accept false p m R) h n = absurd (n (rw h refl))
  verdict-not-clean (accept true p m R) h n = refl
  verdict-not-clean (ran_out p lacked) h n = refl
  verdict-not-clean (badly p) h n = refl
  verdict-not-clean (unsupplied p) h n = refl

  pub verdict-whole : (r : Reply) {o : Option ℕ} → v ≡ verdict_of r → v.why ≡ 0 → ((R : List Rec) → o ≡ clean_reach (accept false v.reach v.marks R)) → o ≡ clean_reach r
  unfolding verdict_of
  verdict-whole (accept false p m R) h z g = rw h at (g R)
  verdict-whole (accept true p m R) h z g = absurd (let y : ◌≡◌ {A = ℕ} 7 0 = rw h at z in omega arith)
  verdict-whole (ran_out p lacked) h z g = absurd (let y = rw h at z in omega arith)
  verdict-whole (badly p) h z g = absurd (let y : ◌≡◌ {A = ℕ} 5 0 = rw h at z in omega arith)
  verdict-whole (unsupplied p) h z g = absurd (let y : ◌≡◌ {A = ℕ} 6 0 = rw h at z in omega arith)

---------------------------------------------------------------- of a cursor behind the reading of a frame

module _ (f : Fmt) (s : List ℕ) where
  abbrev start : Cursor
  start = record { at = 0; end = length s * 8; why = 0; marks = 0 }

  led_not-clean : {d : Cursor} {R : List Rec} → (d.why ≡ 0 → ⊥) → Led (λ e p. read f (0, 0) (bit_of s) e p) start d R → none ≡ clean_reach (read_frame f s)
  unfolding read_frame reply entries.stopped clean_reach
  led_not-clean n (stayed h q) = absurd (h refl)
  led_not-clean n (went p m z a l q) = absurd (n (rw q refl))
  led_not-clean n (failed (out lacked) p m S k z a l q) = rw a
  led_not-clean n (failed bad p m S k z a l q) = rw a
  led_not-clean n (failed lack p m S k z a l q) = rw a
  led_not-clean n (failed (quit o j i) p m S k z a l q) = absurd (k refl)

  led_whole : {d : Cursor} {R : List Rec} → d.why ≡ 0 → Led (λ e p. read f (0, 0) (bit_of s) e p) start d R → read_frame f s ≡ accept false d.at d.marks R
  unfolding read_frame reply or
  led_whole n (stayed h q) = absurd (h refl)
  led_whole n (went p m z a l q) = rw (a, q)
  led_whole n (failed w p m S k z a l q) = absurd (k (rw q at n))

  module _ {d : Cursor} {T : ℕ → List Rec} (x : Takes f s start d T) where
    pub stopped-not-clean : (d.why ≡ 0 → ⊥) → none ≡ clean_reach (read_frame f s)
    stopped-not-clean n = led_not-clean n ((x.took (0, 0)).led (omega arith, omega arith))

    pub reading_whole : {o : Option ℕ} → d.why ≡ 0 → ((R : List Rec) → o ≡ clean_reach (accept false d.at d.marks R)) → o ≡ clean_reach (read_frame f s)
    reading_whole n g = g (T 0) ∙ ap clean_reach (sym (led_whole n ((x.took (0, 0)).led (omega arith, omega arith))))

---------------------------------------------------------------- the aircraft's messages and the ground's

pub cm_format : (d : ℕ) (down up : List ℕ) → d ≤ 1 → pdu_of (eqb d 1) ≡ format_of Cm d down up
unfolding format_of
cm_format d down up l = by-direction d l
