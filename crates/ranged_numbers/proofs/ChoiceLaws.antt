-- A choice of numbers whose ranges stand in a row of the table: speeds, levels, frequencies.
use Rattle.std.proofs.Common.{◌≡◌, ℕ, zero, suc, ◌+◌, ◌-◌, ◌<◌, ◌≤◌, List, [], ◌∷◌, sym, ap, ◌∙◌, add-zero, add-suc, suc-add, arith}
use Rattle.x691.specs.Bits.{bit_of}
use Rattle.x691.specs.Encoding.{width, highest as last}
use Rattle.atn.specs.Format.{Fmt, num, choice, Alts, none_left, alternatives_of, bad}
use Rattle.atn.specs.Reading.{Rec, rec, Ctx, ok, stop, glue, then, or, mark, read, read_choice}
use Rattle.cursor.specs.declared.place.Cursor.{Cursor}
use Rattle.cursor.specs.declared.place.Got.{Got}
use Rattle.cursor.specs.Place.{stopped, Pulls, Takes}
use Rattle.field_ranges.specs.Ends.{lowest, highest}
use Rattle.ranged_numbers.specs.Numbers.{rows_then, Ranged}
use Rattle.cursor.proofs.Laws.{reads_same, reads_stop, reads_stop_with, pull-from}
use Rattle.cursor.proofs.FormatLaws.{takes_choice}

-- the index i, and its alternative f
pub takes_index : (t : ℕ) (fs : Alts) (i : ℕ) (f : Fmt) {s : List ℕ} {c d : Cursor} {T : ℕ → List Rec} (g : Got ℕ) → Pulls s c (width (last (alternatives_of fs))) g → g.v ≡ i
    → ((x : Ctx) (u q : ℕ) → read_choice fs i x (bit_of s) u q ≡ read f x (bit_of s) u q) → Takes f s g.c d T → Takes (choice t fs) s c d (λ n. rec t n i 0 c.at ∷ T n)
takes_index t fs i f {s} {c} {d} {T} g p z e h =
    let y : Takes (choice t fs) s c d (λ n. rec t n g.v 0 c.at ∷ T n) =
    takes_choice t fs {T = T} g p (λ x.
    reads_same (λ u q. read f x (bit_of s) u q) (λ u q. read_choice fs g.v x (bit_of s) u q)
    (sym (ap (λ (v : ℕ). read_choice fs v x (bit_of s) g.c.end g.c.at) z ∙ e x g.c.end g.c.at)) (h.took x)) in
    rw z at y

-- an index that is not listed: badly formed, mark 1
pub takes_unlisted : (t : ℕ) (fs : Alts) {s : List ℕ} {c d : Cursor} {T : ℕ → List Rec} (g : Got ℕ) → Pulls s c (width (last (alternatives_of fs))) g
    → ((x : Ctx) (u q : ℕ) → read_choice fs g.v x (bit_of s) u q ≡ stop bad q [] 1) → d ≡ stopped g.c 5 1 → Takes (choice t fs) s c d T
unfolding read then glue or
takes_unlisted t fs {s} {c} {d} {T} g p e q =
    record {
      took = λ x.
          pull-from (width (last (alternatives_of fs))) g (λ a v u r. then (ok r (rec t x.0 v 0 a ∷ []) 0) λ y. read_choice fs v x (bit_of s) u y) p
          (reads_same (λ u r. stop bad r (rec t x.0 g.v 0 c.at ∷ []) 1) _ (rw (e x g.c.end g.c.at)) (reads_stop_with _ bad 1 (λ z. omega arith) q));
    }

-- an index below n is read by its row
pub row_read : (t k n i : ℕ) (fs : Alts) (x : Ctx) (b : ℕ → ℕ) (e p : ℕ) → i < n → read_choice (rows_then t k n fs) i x b e p ≡ read (num t (lowest (k + i)) (highest (k + i))) x b e p
unfolding read_choice
row_read t k zero i fs x b e p h = absurd (omega arith)
row_read t k (suc n) zero fs x b e p h = rw (add-zero k)
row_read t k (suc n) (suc i) fs x b e p h = row_read t (suc k) n i fs x b e p (omega arith) ∙ rw (suc-add k i, ← (add-suc k i))

-- any other by what follows the rows
pub beyond_rows : (t k n i : ℕ) (fs : Alts) (x : Ctx) (b : ℕ → ℕ) (e p : ℕ) → read_choice (rows_then t k n fs) (n + i) x b e p ≡ read_choice fs i x b e p
unfolding read_choice
beyond_rows t k zero i fs x b e p = ap (λ (j : ℕ). read_choice fs j x b e p) (omega arith)
beyond_rows t k (suc n) i fs x b e p = ap (λ (j : ℕ). read_choice (rows_then t k (suc n) fs) j x b e p) (suc-add n i) ∙ beyond_rows t (suc k) n i fs x b e p

module _ (tag t k n : ℕ) (fs : Alts) {s : List ℕ} {c : Cursor} (g : Got ℕ) (pulls : Pulls s c (width (last (alternatives_of (rows_then t k n fs)))) g) where
  pub takes_row : (r : Got ℕ) → g.v < n → Ranged (k + g.v) s g.c r → Takes (choice tag (rows_then t k n fs)) s c r.c (λ m. rec tag m g.v 0 c.at ∷ rec t m r.v 0 g.c.at ∷ [])
  takes_row r l h =
      takes_choice tag (rows_then t k n fs) g pulls λ x.
      reads_same (λ u p. read (num t (lowest (k + g.v)) (highest (k + g.v))) x (bit_of s) u p) (λ u p. read_choice (rows_then t k n fs) g.v x (bit_of s) u p)
      (sym (row_read t k n g.v fs x (bit_of s) g.c.end g.c.at l)) ((h.number t).took x)

-- behind all rows nothing is listed
pub takes_no_row : (tag t k n : ℕ) {s : List ℕ} {c d : Cursor} {T : ℕ → List Rec} (g : Got ℕ) → Pulls s c (width (last (alternatives_of (rows_then t k n none_left)))) g → n ≤ g.v → d ≡ stopped g.c 5 1
    → Takes (choice tag (rows_then t k n none_left)) s c d (λ m. rec tag m g.v 0 c.at ∷ T m)
unfolding read_choice mark
takes_no_row tag t k n {s} {c} {d} {T} g pulls l q =
    takes_choice tag (rows_then t k n none_left) g pulls λ x.
    reads_same (λ u p. stop bad p [] 1) (λ u p. read_choice (rows_then t k n none_left) g.v x (bit_of s) u p)
    (let z : n + (g.v - n) ≡ g.v = omega arith in
    sym (ap (λ (j : ℕ). read_choice (rows_then t k n none_left) j x (bit_of s) g.c.end g.c.at) (sym z) ∙ beyond_rows t k n (g.v - n) none_left x (bit_of s) g.c.end g.c.at))
    (reads_stop bad 1 (λ y. omega arith) q)
