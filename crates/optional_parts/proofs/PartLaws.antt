-- Parts that were read and told, put together.
use mathlib.Core.Path.{◌≡◌, refl}
use mathlib.Core.List.{List, [], ◌++◌}
use Prim.Native.Nat.{ℕ, ◌+◌, ◌≤◌}
use native.Mathlib.Omega.{arith}
use Rattle.atn.specs.Format.{Fmt}
use Rattle.atn.specs.Reading.{Rec, Ans, ok, then, read}
use Rattle.cursor.specs.declared.place.Cursor.{Cursor}
use Rattle.cursor.specs.Place.{Inside, Led, stayed, went, failed, Reads, Takes}
use Rattle.cursor.proofs.Laws.{led_stays, reads_then, reads_ok, marked-nil}
use Rattle.cursor.proofs.FormatLaws.{reads_going}
use Rattle.length_determinants.proofs.LengthLaws.{reads_clear, reads_set}
use Rattle.records.specs.Told.{Told}
use Rattle.records.proofs.Telling.{told_none, told-then, told-within}
use Rattle.runs.specs.declared.At.{At}
use Rattle.runs.specs.Runs.{Ran, Runs}
use Rattle.runs.specs.Runs as runs
use Rattle.optional_parts.specs.Parts.{Part, Optional, present}

-- of a reading that does not go on it does not matter what would be told
pub reads_any : {k : ℕ → ℕ → Ans} {s : List ℕ} {c d : Cursor} {R : List Rec} (S : List Rec) → (d.why ≡ 0 → ⊥) → Reads k s c d R → Reads k s c d S
reads_any {k} {s} {c} {d} {R} S h r = record { led = λ i. go (r.led i) }
  where
    go : Led k c d R → Led k c d S
    go (stayed x q) = stayed x q
    go (went p m z a l q) = absurd (h (rw q refl))
    go (failed w p m T n z a l q) = failed w p m T n z a l q

-- behind a stop the cursor stays
pub reads_stay : {k : ℕ → ℕ → Ans} {s : List ℕ} {c d : Cursor} {R : List Rec} → Reads k s c d R → Inside s c → (c.why ≡ 0 → ⊥) → d ≡ c
reads_stay {k} {s} {c} {d} r i h = led_stays k c d h (r.led i)

---------------------------------------------------------------- values that were read, told or not

module _ {k : ℕ → ℕ → Ans} {s : List ℕ} {c d : Cursor} {R : List Rec} {n : ℕ} where
  pub part-told : {b m : ℕ} {w w' : List ℕ} → Reads k s c d R → d.why ≡ 0 → Told b w w' n m R → Part b k s c n w w' (record { n = m; c = d })
  part-told r z t = record { recs = R; reads = r; quiet = λ i h. absurd (h (rw (reads_stay r i h) at z)); told = t }

  pub part_untold : {w : List ℕ} → Reads k s c d R → (d.why ≡ 0 → ⊥) → Part 0 k s c n w w (record { n = n; c = d })
  part_untold r z = record { recs = []; reads = reads_any [] z r; quiet = λ i h. refl; told = told_none }

-- nothing is read, and nothing told
pub part_none : {s : List ℕ} {c : Cursor} {n : ℕ} {w : List ℕ} → Part 0 (λ e p. ok p [] 0) s c n w w (record { n = n; c = c })
part_none {c = c} = record { recs = []; reads = reads_ok [] 0 (marked-nil c); quiet = λ i h. refl; told = told_none }

-- behind a stop nothing is read, whatever it would be
pub part-still : {k : ℕ → ℕ → Ans} {s : List ℕ} {c : Cursor} {n : ℕ} {w : List ℕ} → (c.why ≡ 0 → ⊥) → Part 0 k s c n w w (record { n = n; c = c })
part-still h = record { recs = []; reads = record { led = λ i. stayed h refl }; quiet = λ i g. refl; told = told_none }

---------------------------------------------------------------- the same part otherwise

module _ {a : ℕ} {k : ℕ → ℕ → Ans} {s : List ℕ} {c : Cursor} {n : ℕ} {w w' : List ℕ} {r : At} (x : Part a k s c n w w' r) where
  pub part_same : (l : ℕ → ℕ → Ans) → (c.why ≡ 0 → k c.end c.at ≡ l c.end c.at) → Part a l s c n w w' r
  part_same l q = record { recs = x.recs; reads = reads_going k l q x.reads; quiet = x.quiet; told = x.told }

  pub part-within : (b : ℕ) → a ≤ b → Part b k s c n w w' r
  part-within b h = record { recs = x.recs; reads = x.reads; quiet = x.quiet; told = told-within b h x.told }

  -- its presence bit is set
  pub part-set : (has : ℕ) → (has ≡ 0 → ⊥) → Part a (present has k) s c n w w' r
  part-set has h = record { recs = x.recs; reads = reads_set has _ k h x.reads; quiet = x.quiet; told = x.told }

  pub part_runs : Runs a k s c n w w' r
  part_runs = record { recs = x.recs; ran = λ i. go i (x.reads.led i); told = x.told }
    where
      go : Inside s c → Led k c r.c x.recs → Ran k c r.c x.recs
      go i (stayed h q) = runs.stayed h q (x.quiet i h)
      go i (went p m z e l q) = runs.went p m z e l q
      go i (failed v p m S h z e l q) = runs.failed v p m S h z e l q

-- its presence bit is clear
pub part-clear : {s : List ℕ} {c : Cursor} {n : ℕ} {w : List ℕ} (k : ℕ → ℕ → Ans) (has : ℕ) → has ≡ 0 → Part 0 (present has k) s c n w w (record { n = n; c = c })
part-clear {c = c} k has z = record { recs = []; reads = reads_clear has _ k z (reads_ok [] 0 (marked-nil c)); quiet = λ i h. refl; told = told_none }

---------------------------------------------------------------- one after another

module _ {a b : ℕ} {k l : ℕ → ℕ → Ans} {s : List ℕ} {c : Cursor} {n : ℕ} {w w₁ w₂ : List ℕ} {r t : At} where
  pub part_then : Part a k s c n w w₁ r → Part b l s r.c r.n w₁ w₂ t → Part (a + b) (λ e p. then (k e p) (λ q. l e q)) s c n w w₂ t
  part_then x y =
      record {
        recs = x.recs ++ y.recs;
        reads = reads_then k l x.reads y.reads;
        quiet = λ i h. (
            let q : r.c ≡ c = reads_stay x.reads i h in
            let z : y.recs ≡ [] = y.quiet (rw q i) (rw q h) in
            rw (x.quiet i h, z));
        told = told-then x.told y.told;
      }

---------------------------------------------------------------- an optional part, absent, stopped or told

module _ {s : List ℕ} {c : Cursor} {n : ℕ} (b : ℕ) (f : Fmt) {has : ℕ} where
  pub optional-none : {w : List ℕ} → has ≡ 0 → Optional b has f s c n w w (record { n = n; c = c })
  optional-none z = record { run = λ i. part-within (part-clear _ has z) b (omega arith) }

  module _ {d : Cursor} {T : ℕ → List Rec} (h : has ≡ 0 → ⊥) (x : Takes f s c d T) where
    pub optional_untold : {w : List ℕ} → (d.why ≡ 0 → ⊥) → Optional b has f s c n w w (record { n = n; c = d })
    optional_untold z = record { run = λ i. part-within (part-set (part_untold (x.took (0, i)) z) has h) b (omega arith) }

    pub optional-told : {m : ℕ} {w w' : List ℕ} → d.why ≡ 0 → Told b w w' n m (T 0) → Optional b has f s c n w w' (record { n = m; c = d })
    optional-told z t = record { run = λ i. part-set (part-told (x.took (0, i)) z t) has h }
