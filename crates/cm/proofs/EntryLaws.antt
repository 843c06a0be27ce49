-- From the cursor behind a frame's message to what the entry says.
use mathlib.Core.Path.{◌≡◌, refl}
use mathlib.Core.Bool.{false}
use mathlib.Core.List.{List}
use Prim.Native.Nat.{ℕ, ◌+◌, ◌*◌, ◌/◌, ◌%◌}
use native.Mathlib.Omega.{arith}
use lib.ListN.{length}
use Rattle.x691.specs.Bits.{bit_of}
use Rattle.atn.specs.Format.{Fmt, out, bad, lack, quit}
use Rattle.atn.specs.Reading.{Rec, Ans, ok, or, read}
use Rattle.atn.specs.Entries.{accept, reply, read_frame, Outcome, refused, settle}
use Rattle.atn.specs.Entries as entries
use Rattle.cursor.specs.declared.place.Cursor.{Cursor}
use Rattle.cursor.specs.Place.{number, Inside, Led, stayed, went, failed, Takes}
use Rattle.records.proofs.Passes.{settle_out, settle-bad, settle_lack}

---------------------------------------------------------------- the reading of a frame

abbrev pub start : List ℕ → Cursor
start s = record { at = 0; end = length s * 8; why = 0; marks = 0 }

at_start : (s : List ℕ) → Inside s (start s)
at_start s = (omega arith, omega arith)

module _ (f : Fmt) (s : List ℕ) where
  abbrev Frame : ℕ → ℕ → Ans
  Frame e p = read f (0, 0) (bit_of s) e p

  led_stop : {d : Cursor} {R : List Rec} {w v : List ℕ} → v ≡ w → (d.why ≡ 0 → ⊥) → Led Frame (start s) d R → ◌≡◌ {A = Outcome} (refused (d.why % 16) d.at 0 (d.why / 16), v) (settle (read_frame f s) w)
  unfolding read_frame reply entries.stopped
  led_stop y n (stayed h q) = absurd (h refl)
  led_stop y n (went p m z a l q) = absurd (n (rw q refl))
  led_stop y n (failed (out i) p m S k z a l q) =
      let number : (4 + 16 * i) % 16 ≡ 4 = omega arith in
      let lacked : (4 + 16 * i) / 16 ≡ i = omega arith in
      rw (q, number, lacked) (settle_out y (rw a))
  led_stop y n (failed bad p m S k z a l q) = rw q (settle-bad y (rw a))
  led_stop y n (failed lack p m S k z a l q) = rw q (settle_lack y (rw a))
  led_stop y n (failed (quit o j i) p m S k z a l q) = absurd (k refl)

  led_ok : {d : Cursor} {R : List Rec} → d.why ≡ 0 → Led Frame (start s) d R → Frame (length s * 8) 0 ≡ ok d.at R d.marks
  unfolding or
  led_ok n (stayed h q) = absurd (h refl)
  led_ok n (went p m z a l q) = rw q a
  led_ok n (failed w p m S k z a l q) = absurd (k (rw q at n))

  led_same : {e : Cursor} {R S : List Rec} {p m : ℕ} → Frame (length s * 8) 0 ≡ ok p R m → Led Frame (start s) e S → S ≡ R
  led_same b (stayed h q) = absurd (h refl)
  led_same b (went p m z a l q) = cc
  led_same b (failed w p m S k z a l q) = absurd (let y : ◌≡◌ {A = ℕ} 0 1 = cc in omega arith)

module _ {f : Fmt} {s : List ℕ} {d : Cursor} {T : ℕ → List Rec} (x : Takes f s (start s) d T) where
  -- a reading that stopped is refused, by its own number
  pub frame_refused : {w v : List ℕ} → v ≡ w → (d.why ≡ 0 → ⊥) → ◌≡◌ {A = Outcome} (refused (d.why % 16) d.at 0 (d.why / 16), v) (settle (read_frame f s) w)
  frame_refused y n = led_stop f s y n ((x.took (0, 0)).led (at_start s))

  pub frame-accepted : d.why ≡ 0 → read_frame f s ≡ accept false d.at d.marks (T 0)
  unfolding read_frame reply
  frame-accepted z = rw (led_ok f s z ((x.took (0, 0)).led (at_start s)))

  -- read once more it tells the same
  pub frame_again : {e : Cursor} {U : ℕ → List Rec} → d.why ≡ 0 → Takes f s (start s) e U → U 0 ≡ T 0
  frame_again z y = led_same f s (led_ok f s z ((x.took (0, 0)).led (at_start s))) ((y.took (0, 0)).led (at_start s))
