-- What stands around messages: extension bits, records before a part, choices, parts that are passed over.
use mathlib.Core.Path.{◌≡◌, refl, ap, ◌∙◌}
use mathlib.Core.Bool.{false}
use mathlib.Core.List.{List, [], ◌∷◌}
use Prim.Native.Nat.{ℕ, ◌+◌, ◌%◌}
use native.Mathlib.Nat.{zero-add}
use native.Mathlib.Omega.{arith}
use Rattle.x691.specs.Bits.{bit_of}
use Rattle.x691.specs.Encoding.{width, highest}
use Rattle.atn.specs.Format.{Fmt, Alts, out, bad, lack, quit, ext, noted, choice, alternatives_of}
use Rattle.atn.specs.Reading.{Rec, rec, Ctx, Ans, ok, then, fork, or, mark, softly, pass_over, kept, read, read_choice}
use Rattle.atn.proofs.Firm.{is_past}
use Rattle.atn.proofs.Marks.{or_assoc, or_commutes}
use Rattle.cursor.specs.declared.place.Cursor.{Cursor}
use Rattle.cursor.specs.declared.place.Got.{Got}
use Rattle.cursor.specs.Place.{put, marked, Pulls, Led}
use Rattle.cursor.specs.Place as place
use Rattle.cursor.proofs.Laws.{reads_ok, reads_here, marked-nil}
use Rattle.records.specs.Told.{Told}
use Rattle.runs.specs.declared.At.{At}
use Rattle.runs.specs.Runs.{Ran, stayed, went, passed, failed, Runs}
use Rattle.runs.specs.Windows.{Tells}
use Rattle.runs.proofs.RunLaws.{runs_then, runs_told, runs_silent, runs_stayed, runs_pull, runs_from, runs_clear, runs_set}

-- a reading that neither carries on nor gives up, from a cursor that goes on
pub runs_tells : {b : ℕ} (k : ℕ → ℕ → Ans) {s : List ℕ} {c : Cursor} {n : ℕ} {w w' : List ℕ} {r : At} → c.why ≡ 0 → Tells b k s c n w w' r → Runs b k s c n w w' r
runs_tells k {c = c} {r = r} z x = record { recs = x.recs; ran = λ i. go (x.reads.led i); told = x.told }
  where
    go : {R : List Rec} → Led k c r.c R → Ran k c r.c R
    go (place.Led.stayed h q) = absurd (h z)
    go (place.Led.went p m y a l q) = went p m y a l q
    go (place.Led.failed w p m S h y a l q) = failed w p m S h y a l q

abbrev forks : Fmt → Fmt → Ctx → List ℕ → ℕ → ℕ → ℕ → Ans
forks f k x s v u q = fork v (read f x (bit_of s) u q) (then (ok q [] (mark 2)) λ r. read k x (bit_of s) u r)

abbrev chosen : ℕ → Alts → Ctx → List ℕ → ℕ → ℕ → ℕ → ℕ → Ans
chosen t fs x s a v u p = then (ok p (rec t x.0 v 0 a ∷ []) 0) λ q. read_choice fs v x (bit_of s) u q

module _ (x : Ctx) {s : List ℕ} {c : Cursor} {n : ℕ} {w : List ℕ} where
  ---------------------------------------------------------------- extension bits

  module _ (f k : Fmt) (g : Got ℕ) (pulls : Pulls s c 1 g) where
    pub runs_root : {b : ℕ} {w' : List ℕ} {r : At} → g.v ≡ 0 → Runs b (λ u p. read f x (bit_of s) u p) s g.c n w w' r → Runs b (λ u p. read (ext f k) x (bit_of s) u p) s c n w w' r
    unfolding read
    runs_root z y = runs_pull 1 g (forks f k x s) pulls (runs_clear (λ u q. read f x (bit_of s) u q) (λ u q. then (ok q [] (mark 2)) λ r. read k x (bit_of s) u r) g.v z y)

    -- a set one: mark 2, and what follows it
    pub runs_extended : {b : ℕ} {w' : List ℕ} {e : Cursor} {r : At} → (g.v ≡ 0 → ⊥) → e ≡ marked g.c 2 → Runs b (λ u p. read k x (bit_of s) u p) s e n w w' r → Runs b (λ u p. read (ext f k) x (bit_of s) u p) s c n w w' r
    unfolding read is_past mark
    runs_extended {b} h q y =
        rw (zero-add b) at
        (runs_pull 1 g (forks f k x s) pulls
        (runs_set (λ u q. read f x (bit_of s) u q) (λ u q. then (ok q [] (mark 2)) λ r. read k x (bit_of s) u r) g.v h
        (runs_then (λ u q. ok q [] (mark 2)) (λ u r. read k x (bit_of s) u r) (λ u p. refl) (runs_silent (λ u q. ok q [] (mark 2)) (reads_ok [] 2 q)) y)))

  ---------------------------------------------------------------- records before a part, and choices

  pub runs_noted : (t v y : ℕ) (f : Fmt) {b m : ℕ} {w₁ w₂ : List ℕ} {r : At} → c.why ≡ 0 → Told 1 w w₁ n m (rec t x.0 v y c.at ∷ []) → Runs b (λ u p. read f x (bit_of s) u p) s c m w₁ w₂ r
      → Runs (1 + b) (λ u p. read (noted t v y f) x (bit_of s) u p) s c n w w₂ r
  unfolding read is_past
  runs_noted t v y f z told h = runs_then (λ u p. ok p (rec t x.0 v y p ∷ []) 0) (λ u p. read f x (bit_of s) u p) (λ u p. refl) (runs_told (λ u p. ok p (rec t x.0 v y p ∷ []) 0) (reads_here (λ p. rec t x.0 v y p ∷ []) 0 (marked-nil c)) z told) h

  module _ (t : ℕ) (fs : Alts) (g : Got ℕ) (pulls : Pulls s c (width (highest (alternatives_of fs))) g) where
    pub runs_no_index : (g.c.why ≡ 0 → ⊥) → Runs 0 (λ u p. read (choice t fs) x (bit_of s) u p) s c n w w (record { n = n; c = g.c })
    unfolding read
    runs_no_index h = runs_from (width (highest (alternatives_of fs))) g (chosen t fs x s) pulls (runs_stayed (λ u p. chosen t fs x s c.at g.v u p) h)

    pub runs_index : {b m : ℕ} {w₁ w₂ : List ℕ} {r : At} → g.c.why ≡ 0 → Told 1 w w₁ n m (rec t x.0 g.v 0 c.at ∷ []) → Runs b (λ u p. read_choice fs g.v x (bit_of s) u p) s g.c m w₁ w₂ r
        → Runs (1 + b) (λ u p. read (choice t fs) x (bit_of s) u p) s c n w w₂ r
    unfolding read is_past
    runs_index z told y =
        runs_from (width (highest (alternatives_of fs))) g (chosen t fs x s) pulls
        (runs_then (λ u p. ok p (rec t x.0 g.v 0 c.at ∷ []) 0) (λ u p. read_choice fs g.v x (bit_of s) u p) (λ u p. refl)
        (runs_told (λ u p. ok p (rec t x.0 g.v 0 c.at ∷ []) 0) (reads_ok (rec t x.0 g.v 0 c.at ∷ []) 0 (marked-nil g.c)) z told) y)

---------------------------------------------------------------- a part that is passed over where it fails, its records dropped

module _ (t : ℕ) (k : ℕ → ℕ → Ans) {c d : Cursor} {R : List Rec} (h : Led k c d R) (z : c.why ≡ 0) where
  pub soft_went : (d.why % 16 ≡ 4 → ⊥) → (d.why ≡ 5 → ⊥) → Ran (λ u p. softly t false (k u p)) c d R
  unfolding softly pass_over
  soft_went n₄ n₅ = go h
    where
      go : Led k c d R → Ran (λ u p. softly t false (k u p)) c d R
      go (place.Led.stayed n q) = absurd (n z)
      go (place.Led.went p m y a l q) = went p m y (rw a) l q
      go (place.Led.failed (out lacked) p m S n y a l q) = absurd (n₄ (rw q (omega arith)))
      go (place.Led.failed bad p m S n y a l q) = absurd (n₅ (rw q refl))
      go (place.Led.failed lack p m S n y a l q) = failed lack p m S n y (rw a) l q
      go (place.Led.failed (quit o j v) p m S n y a l q) = absurd (n refl)

  -- ran out: cut
  pub soft_out : d.why % 16 ≡ 4 → Ran (λ u p. softly t false (k u p)) c (put d d.at 7 d.marks) []
  unfolding softly pass_over kept
  soft_out z₄ = go h
    where
      go : Led k c d R → Ran (λ u p. softly t false (k u p)) c (put d d.at 7 d.marks) []
      go (place.Led.stayed n q) = absurd (n z)
      go (place.Led.went p m y a l q) = absurd (let x : 0 ≡ 4 = rw q at z₄ in omega arith)
      go (place.Led.failed (out lacked) p m S n y a l q) = passed lacked p m y (rw a) l (rw q)
      go (place.Led.failed bad p m S n y a l q) = absurd (let x : 5 ≡ 4 = rw q at z₄ in omega arith)
      go (place.Led.failed lack p m S n y a l q) = absurd (let x : 6 ≡ 4 = rw q at z₄ in omega arith)
      go (place.Led.failed (quit o j v) p m S n y a l q) = absurd (n refl)

  -- badly formed: the mark, and whole
  pub soft_bad : d.why ≡ 5 → Ran (λ u p. softly t false (k u p)) c (put d d.at 0 (or d.marks (mark t))) []
  unfolding softly pass_over kept
  soft_bad z₅ = go h
    where
      go : Led k c d R → Ran (λ u p. softly t false (k u p)) c (put d d.at 0 (or d.marks (mark t))) []
      go (place.Led.stayed n q) = absurd (n z)
      go (place.Led.went p m y a l q) = absurd (let x : 0 ≡ 5 = rw q at z₅ in omega arith)
      go (place.Led.failed (out lacked) p m S n y a l q) = absurd (let x = rw q at z₅ in omega arith)
      go (place.Led.failed bad p m S n y a l q) = went p (or (mark t) m) y (rw a) l (rw q (ap (put c p 0) (or_assoc c.marks m (mark t) ∙ ap (or c.marks) (or_commutes m (mark t)))))
      go (place.Led.failed lack p m S n y a l q) = absurd (let x : 6 ≡ 5 = rw q at z₅ in omega arith)
      go (place.Led.failed (quit o j v) p m S n y a l q) = absurd (n refl)
