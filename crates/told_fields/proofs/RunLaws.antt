-- What was told as it was read, as a run.
use mathlib.Core.Path.{◌≡◌}
use mathlib.Core.List.{List}
use Prim.Native.Nat.{ℕ}
use Rattle.x691.specs.Bits.{bit_of}
use Rattle.atn.specs.Format.{Fmt}
use Rattle.atn.specs.Reading.{read}
use Rattle.cursor.specs.declared.place.Cursor.{Cursor}
use Rattle.cursor.specs.Place.{Led, stayed, went, failed, Takes}
use Rattle.runs.specs.declared.At.{At}
use Rattle.runs.specs.Runs.{Ran, Runs}
use Rattle.runs.specs.Runs as runs
use Rattle.told_fields.specs.Does.{Does}

-- where the cursor had not stopped before
pub does_runs : {b en n : ℕ} {f : Fmt} {s : List ℕ} {c : Cursor} {z : At} {w w' : List ℕ} (i : ℕ) → c.why ≡ 0 → Does b en (Takes f s) (record { n = n; c = c }) z w w' → Runs b (λ e p. read f (en, i) (bit_of s) e p) s c n w w' z
does_runs {en = en} {f = f} {s} {c} {z} i g x = record { recs = x.recs en; ran = λ j. go ((x.reads.took (en, i)).led j); told = x.told }
  where
    go : Led (λ e p. read f (en, i) (bit_of s) e p) c z.c (x.recs en) → Ran (λ e p. read f (en, i) (bit_of s) e p) c z.c (x.recs en)
    go (stayed h q) = absurd (h g)
    go (went p m y e l q) = runs.went p m y e l q
    go (failed v p m S h y e l q) = runs.failed v p m S h y e l q
