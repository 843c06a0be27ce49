-- A leg that was read and told at once, and one that was given up.
use mathlib.Core.Path.{◌≡◌, ap}
use mathlib.Core.List.{List, [], ◌∷◌, append-nil}
use Prim.Native.Nat.{ℕ, ◌+◌, ◌≤◌}
use native.Mathlib.Omega.{arith}
use Rattle.x691.specs.Bits.{bit_of}
use Rattle.atn.specs.Reading.{Rec, rec, Ans, or, read}
use Rattle.atn.specs.Entries.{need}
use Rattle.atn.specs.Messages as message
use Rattle.cursor.specs.declared.place.Cursor.{Cursor}
use Rattle.cursor.specs.Place.{put, went}
use Rattle.records.specs.Space.{size, space}
use Rattle.records.specs.Told.{Told}
use Rattle.records.proofs.Telling.{told-then, told-within, told_dropped}
use Rattle.runs.specs.declared.At.{At}
use Rattle.optional_parts.specs.Parts.{Part}
use Rattle.ample_readings.specs.declared.Step.{Step}
use Rattle.ample_readings.specs.Ample.{Done}
use Rattle.ample_readings.proofs.SureLaws.{sure_placed}
use Rattle.ample_legs.specs.Route.{route_information}

-- records and more records: the words of both
pub space_both : (n m : ℕ) → space (n + m) ≡ space n + space m
unfolding space size need
space_both n m = omega arith

-- what was told behind a part and given up does not count
pub part_untold_behind : {a b m : ℕ} {k : ℕ → ℕ → Ans} {s : List ℕ} {c : Cursor} {n : ℕ} {w w₁ w₂ : List ℕ} {r : At} {R : List Rec} → Part b k s c n w w₁ r → Told a w₁ w₂ r.n m R → Part b k s c n w w₂ r
part_untold_behind {b = b} x t = record { recs = x.recs; reads = x.reads; quiet = x.quiet; told = rw (append-nil x.recs) at (told-within b (omega arith) (told-then x.told (told_dropped t))) }

-- the record of its place, and the rest of the leg, which ends in the window
pub part_ample : {s : List ℕ} {c : Cursor} {n m : ℕ} {w w₁ w₂ : List ℕ} {r : Step} (i : ℕ) → c.why ≡ 0 → r.at ≤ c.end → Told 1 w w₁ n m (rec 96 0 i 0 c.at ∷ []) → Done 31 245 route_information s c.at m w₁ w₂ r
    → Part 158 (λ e p. read message.leg (0, i) (bit_of s) e p) s c n w w₂ (record { n = r.n; c = put c r.at c.why (or c.marks r.marks) })
part_ample {s} {c} {r = r} i z h t d =
    let y = sure_placed 96 (d.sure i) in
    record {
      recs = _;
      reads = record { led = λ _. went r.at r.marks z (y.gives c.end h) h (ap (λ (x : ℕ). put c r.at x (or c.marks r.marks)) z) };
      quiet = λ _ q. absurd (q z);
      told = told-within 158 (omega arith) (told-then t d.told);
    }
