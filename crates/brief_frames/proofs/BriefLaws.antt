-- What is answered of what the frame came to.
use mathlib.Core.Path.{◌≡◌, refl, sym, ◌∙◌}
use mathlib.Core.Bool.{false}
use mathlib.Core.List.{List}
use Prim.Native.Nat.{ℕ, ◌+◌, ◌*◌, ◌/◌, ◌%◌}
use native.Mathlib.Omega.{arith}
use lib.ListN.{length}
use Rattle.x691.specs.Bits.{bit_of}
use Rattle.atn.specs.Entries.{accept, stopped, reply, read_frame, pdus, settle}
use Rattle.atn.specs.Format.{out, bad, lack, quit}
use Rattle.atn.specs.Reading.{read}
use Rattle.records.proofs.Passes.{settle_out, settle-bad, settle_lack}
use Rattle.answers.specs.declared.Answer.TheVariants.{Refused}
use Rattle.answers.specs.Says.{Says}
use Rattle.brief_frames.specs.declared.parts.Brief.{Brief}
use Rattle.brief_frames.specs.Briefs.{brief_records, Came, told, failed}

abbrev Frame : ℕ → List ℕ → List ℕ → List ℕ → Brief → Type 0
Frame d down up s b = Came (read (pdus d down up) (0, 0) (bit_of s) (length s * 8) 0) (brief_records d b) b

module _ (d : ℕ) (down up s : List ℕ) {b : Brief} where
  pub brief_told : Frame d down up s b → b.why ≡ 0 → read_frame (pdus d down up) s ≡ accept false b.reach b.marks (brief_records d b)
  unfolding read_frame reply
  brief_told (told z e) y = rw e
  brief_told (failed w S m n q e) y = absurd (n (sym q ∙ y))

  pub brief_refused : {w : List ℕ} → Frame d down up s b → (b.why ≡ 0 → ⊥) → Says (Refused (b.why % 16) b.reach 0 (b.why / 16)) w (settle (read_frame (pdus d down up) s) w)
  unfolding read_frame reply stopped
  brief_refused (told z e) y = absurd (y z)
  brief_refused (failed (out k) S m n q e) y =
      let number : (4 + 16 * k) % 16 ≡ 4 = omega arith in
      let lacked : (4 + 16 * k) / 16 ≡ k = omega arith in
      rw (q, number, lacked, e) (record { is = settle_out refl refl })
  brief_refused (failed bad S m n q e) y = rw (q, e) (record { is = settle-bad refl refl })
  brief_refused (failed lack S m n q e) y = rw (q, e) (record { is = settle_lack refl refl })
  brief_refused (failed (quit o j k) S m n q e) y = absurd (n refl)
