-- Lists: a record before a part, one part more at the end, and none behind a stop.
use mathlib.Core.Path.{◌≡◌, refl, sym, ◌∙◌}
use mathlib.Core.List.{List, [], ◌∷◌, ◌++◌}
use Prim.Native.Nat.{ℕ, zero, suc, ◌+◌, ◌-◌, ◌≤◌}
use native.Mathlib.Numerals.{add-one}
use native.Mathlib.Nat.{add_comm, add-zero, add-suc}
use native.Mathlib.Omega.{arith}
use Rattle.x691.specs.Bits.{bit_of}
use Rattle.atn.specs.Format.{Fmt, Why, placed}
use Rattle.atn.specs.Reading.{Rec, rec, Ctx, Ans, ok, stop, then, times, read}
use Rattle.atn.proofs.Then.{times-end}
use Rattle.cursor.specs.declared.place.Cursor.{Cursor}
use Rattle.cursor.specs.Place.{Led, stayed, went, failed, Takes}
use Rattle.cursor.specs.Formats.{Times}
use Rattle.cursor.proofs.Laws.{reads_same, reads_then, reads_here, marked-nil}
use Rattle.told_fields.specs.Does.{InPlace}

---------------------------------------------------------------- a record before a part

-- the part's place in its list
pub in_place : {t i : ℕ} {f : Fmt} {s : List ℕ} {c d : Cursor} {T : ℕ → List Rec} → Takes f s c d T → InPlace (placed t f) i s c d (λ n. rec t n i 0 c.at ∷ T n)
unfolding read
in_place {t} {i} {f} {s} {c} h = record { took = λ n. reads_then (λ u p. ok p (rec t n i 0 p ∷ []) 0) (λ u p. read f (n, i) (bit_of s) u p) (reads_here (λ p. rec t n i 0 p ∷ []) 0 (marked-nil c)) (h.took (n, i)) }

---------------------------------------------------------------- one part more at the end

pub times_at_end : {f : Fmt} {n : ℕ} {s : List ℕ} {c d e : Cursor} {T U : ℕ → List Rec} → Times f 1 n s c d T → InPlace f (n + 1) s d e U → Times f 1 (n + 1) s c e (λ m. T m ++ U m)
times_at_end {f} {n} {s} {c} x y =
    rw (add-one n) record {
      took = λ z.
          reads_same (λ u p. then (times (λ j q. read f (z.0, j) (bit_of s) u q) 1 n p) (λ q. read f (z.0, 1 + n) (bit_of s) u q)) (λ u p. times (λ j q. read f (z.0, j) (bit_of s) u q) 1 (suc n) p)
          (sym (times-end (λ j q. read f (z.0, j) (bit_of s) c.end q) 1 n c.at))
          (reads_then (λ u p. times (λ j q. read f (z.0, j) (bit_of s) u q) 1 n p) (λ u q. read f (z.0, 1 + n) (bit_of s) u q) (x.took z) (rw (add_comm n 1) at (y.took z.0)));
    }

---------------------------------------------------------------- no part more behind a stop

times_longer : (r : ℕ → ℕ → Ans) (j i k at : ℕ) {w : Why} {p m : ℕ} {S : List Rec} → times r j i at ≡ stop w p S m → times r j (i + k) at ≡ stop w p S m
unfolding then
times_longer r j i zero at e = rw (add-zero i) e
times_longer r j i (suc k) at e = rw (add-suc i k) (times-end r j (i + k) at ∙ rw (times_longer r j i k at e))

-- a list that stopped behind i of its parts stopped as a whole
pub times-stopped : {f : Fmt} {i n : ℕ} {s : List ℕ} {c d : Cursor} {T : ℕ → List Rec} → i ≤ n → (d.why ≡ 0 → ⊥) → Times f 1 i s c d T → Times f 1 n s c d T
times-stopped {f} {i} {n} {s} {c} {d} {T} l h x = record { took = λ y. record { led = λ o. go y ((x.took y).led o) } }
  where
    go : (y : Ctx) → Led (λ u p. times (λ j q. read f (y.0, j) (bit_of s) u q) 1 i p) c d (T y.0) → Led (λ u p. times (λ j q. read f (y.0, j) (bit_of s) u q) 1 n p) c d (T y.0)
    go y (stayed a q) = stayed a q
    go y (went p m z e b q) = absurd (h (rw q refl))
    go y (failed w p m S a z e b q) =
        let k : i + (n - i) ≡ n = omega arith in
        failed w p m S a z (rw k at (times_longer (λ j o. read f (y.0, j) (bit_of s) c.end o) 1 i (n - i) c.at e)) b q
