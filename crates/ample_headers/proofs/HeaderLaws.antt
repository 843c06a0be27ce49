-- The date and time of a header with its acknowledgment, and the header by its presence bits.
use mathlib.Core.Path.{◌≡◌, refl}
use mathlib.Core.List.{List, [], ◌∷◌}
use Prim.Native.Nat.{ℕ, zero, suc, ◌+◌, ◌-◌, ◌*◌, ◌%◌, ◌^◌, ◌≤◌, ◌<◌}
use native.Mathlib.Omega.{arith}
use Rattle.atn.specs.Format.{Fmt, num, null, seq, end, ◌⨾◌}
use Rattle.atn.specs.Reading.{rec, Ctx, or, flags, read}
use Rattle.atn.proofs.Marks.{or_nil}
use Rattle.cursor.proofs.FormatLaws.{all_read}
use Rattle.records.specs.Told.{Told}
use Rattle.records.proofs.Telling.{told-then}
use Rattle.ample_bits.specs.Ahead.{Ahead}
use Rattle.ample_bits.proofs.AheadLaws.{ahead-next}
use Rattle.ample_readings.specs.declared.Step.{Step}
use Rattle.ample_readings.specs.Sure.{Sure}
use Rattle.ample_readings.specs.Ample.{Done, DoneFields, Fixed}
use Rattle.ample_readings.proofs.SureLaws.{sure_noted, sure_must, sure_last}
use Rattle.ample_readings.proofs.AmpleLaws.{done_fields, done_must, done_plain, done-within, fixed_last}
use Rattle.ample_headers.specs.Header.{acknowledgment, timed, header}

sure_null : {x : Ctx} {s : List ℕ} {p : ℕ} → Sure null x s p p [] 0
unfolding read
sure_null = record { forth = omega arith; gives = λ e h. refl }

-- a date of k bits, a time of l bits behind it, and the acknowledgment
module _ {f g : Fmt} {k l i v a at n : ℕ} {w w₁ w₂ : List ℕ} {x y : Step} {s : List ℕ} (date : Fixed 3 k f v at n w w₁ x) (time : Fixed 3 l g a x.at x.n w₁ w₂ y) (few : k + l ≤ 33) (h : Ahead s at 34 v) (e : i ≡ k) (cut : a ≡ v * 2 ^ i % 2 ^ 64) where
  behind_date : Ahead s x.at (34 - k) a
  behind_date = ahead-next k h date.to (rw e at cut) (omega arith)

  both : Done 6 33 (seq (f ⨾ g ⨾ end)) s at n w w₂ (record { at = y.at; n = y.n; marks = or x.marks y.marks })
  unfolding flags all_read
  both = done-within (done_plain refl refl (done_must (date.done s 34 h (omega arith)) (fixed_last time behind_date (omega arith)))) (omega arith) few

  pub timed_bare : {m : ℕ} {w₃ : List ℕ} → Told 1 w₂ w₃ y.n m (rec 17 0 1 0 y.at ∷ []) → DoneFields 7 34 (seq (f ⨾ g ⨾ end) ⨾ acknowledgment 0 ⨾ end) s at n w w₃ (record { at = y.at; n = m; marks = or x.marks y.marks })
  timed_bare t = done_fields (λ d q. rw (or_nil (or x.marks y.marks)) at (sure_must {q = q} (both.sure d) (sure_last {q = q} (sure_noted 17 1 0 sure_null)))) (omega (arith, both.near)) (told-then both.told t)

  pub timed-told : {b o : ℕ} {w₃ : List ℕ} {z : Step} → o ≡ l → b ≡ a * 2 ^ o % 2 ^ 64 → Fixed 1 1 (num 17 0 1) b y.at y.n w₂ w₃ z
      → DoneFields 7 34 (seq (f ⨾ g ⨾ end) ⨾ acknowledgment 1 ⨾ end) s at n w w₃ (record { at = z.at; n = z.n; marks = or (or x.marks y.marks) z.marks })
  timed-told d c z = done_must both (fixed_last z (ahead-next l behind_date time.to (rw d at c) (omega arith)) (omega arith))

-- any presence bit that is not clear is set
pub timed-set : (has : ℕ) → (has ≡ 0 → ⊥) → timed has ≡ timed 1
timed-set zero h = absurd (h refl)
timed-set (suc has) h = refl

-- the header by its two presence bits
pub header_bare : (h : ℕ) → h < 2 → header h ≡ seq (num 9 0 63 ⨾ timed h)
header_bare zero l = refl
header_bare (suc zero) l = refl
header_bare (suc (suc h)) l = absurd (omega arith)

pub header_referring : (h k : ℕ) → h ≡ k + 2 → h < 4 → header h ≡ seq (num 9 0 63 ⨾ num 10 0 63 ⨾ timed k)
header_referring h zero e l = rw e
header_referring h (suc zero) e l = rw e
header_referring h (suc (suc k)) e l = absurd (omega arith)
