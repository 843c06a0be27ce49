-- Choices and extension bits: the index, then what it names.
use mathlib.Core.Path.{◌≡◌, sym, ap}
use mathlib.Core.List.{List, [], ◌∷◌}
use Prim.Native.Nat.{ℕ, ◌+◌, ◌≤◌}
use native.Mathlib.Omega.{arith}
use Rattle.x691.specs.Bits.{bit_of}
use Rattle.x691.specs.Encoding.{width, highest}
use Rattle.atn.specs.Format.{Fmt, Alts, bad, lack, choice, ext, alternatives_of}
use Rattle.atn.specs.Reading.{rec, Ctx, stop, mark, read, read_choice}
use Rattle.atn.specs.Messages.{unsupplied}
use Rattle.cursor.specs.declared.place.Cursor.{Cursor}
use Rattle.cursor.specs.declared.place.Got.{Got}
use Rattle.cursor.specs.Place.{stopped, marked, Pulls, Takes}
use Rattle.cursor.proofs.Laws.{reads_same, reads_stop}
use Rattle.cursor.proofs.FormatLaws.{takes_root, takes_extended, takes_choice}
use Rattle.records.specs.Told.{Told}
use Rattle.records.proofs.Telling.{told-then}
use Rattle.runs.specs.declared.At.{At}
use Rattle.told_fields.specs.Does.{Does, Alternative}
use Rattle.told_fields.proofs.DoesLaws.{does_as, does_within, does_quiet, does_refused, behind}

---------------------------------------------------------------- the alternative that an index names

module _ {en : ℕ} {fs : Alts} {i : ℕ} {s : List ℕ} {a z : At} where
  -- a format that is read in its place
  pub does_alternative : {j : ℕ} (k : ℕ) {w w' : List ℕ} (f : Fmt) → j ≤ k → ((x : Ctx) (u q : ℕ) → read_choice fs i x (bit_of s) u q ≡ read f x (bit_of s) u q) → Does j en (Takes f s) a z w w'
      → Does k en (Alternative fs i s) a z w w'
  does_alternative k f l e x =
      does_within k l (does_as (λ T h. record {
        took = λ y. reads_same (λ u q. read f y (bit_of s) u q) (λ u q. read_choice fs i y (bit_of s) u q) (sym (e y a.c.end a.c.at)) (h.took y);
      }) x)

  -- an item that is not supplied
  pub does_lacking : (k : ℕ) {w : List ℕ} → z ≡ record { n = a.n; c = stopped a.c 6 0 } → ((x : Ctx) (u q : ℕ) → read_choice fs i x (bit_of s) u q ≡ read unsupplied x (bit_of s) u q) → Does k en (Alternative fs i s) a z w w
  does_lacking k e u = does_alternative k unsupplied (omega arith) u (does_refused lack 0 (λ y. omega arith) e)

  -- none is listed: badly formed, mark 1
  pub does_unlisted : (k : ℕ) {w : List ℕ} → z ≡ record { n = a.n; c = stopped a.c 5 1 } → ((x : Ctx) (u q : ℕ) → read_choice fs i x (bit_of s) u q ≡ stop bad q [] 1) → Does k en (Alternative fs i s) a z w w
  does_unlisted k e u =
      does_within k (omega arith) (does_quiet (ap (λ (y : At). y.n) e) record {
        took = λ y. reads_same (λ u q. stop bad q [] 1) (λ u q. read_choice fs i y (bit_of s) u q) (sym (u y a.c.end a.c.at)) (reads_stop bad 1 (λ y. omega arith) (ap (λ (y : At). y.c) e));
      })

-- the index is told before the alternative
pub does_choice : {en t : ℕ} {fs : Alts} {s : List ℕ} {a z : At} {w w₁ w₂ : List ℕ} {m b : ℕ} (g : Got ℕ) → Pulls s a.c (width (highest (alternatives_of fs))) g → Told 1 w w₁ a.n m (rec t en g.v 0 a.c.at ∷ [])
    → Does b en (Alternative fs g.v s) (record { n = m; c = g.c }) z w₁ w₂ → Does (1 + b) en (Takes (choice t fs) s) a z w w₂
does_choice {t = t} {fs} {a = a} g p e x = record { recs = λ n. rec t n g.v 0 a.c.at ∷ x.recs n; reads = takes_choice t fs g p x.reads.took; told = told-then e x.told }

---------------------------------------------------------------- extension bits

module _ {en b : ℕ} {f k : Fmt} {s : List ℕ} {a z : At} {w w' : List ℕ} (g : Got ℕ) (p : Pulls s a.c 1 g) where
  pub does_root : g.v ≡ 0 → Does b en (Takes f s) (behind g a) z w w' → Does b en (Takes (ext f k) s) a z w w'
  does_root e x = record { recs = x.recs; reads = takes_root g p e x.reads; told = x.told }

  -- a set one: mark 2, and what follows it
  pub does_extended : {d : Cursor} → (g.v ≡ 0 → ⊥) → d ≡ marked g.c 2 → Does b en (Takes k s) (record { n = a.n; c = d }) z w w' → Does b en (Takes (ext f k) s) a z w w'
  unfolding mark
  does_extended n e x = record { recs = x.recs; reads = takes_extended g p n e x.reads; told = x.told }
