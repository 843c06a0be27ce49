-- Legs in a row, by their number.
use mathlib.Core.Path.{◌≡◌, sym, ap, ◌∙◌}
use mathlib.Core.List.{List, [], ◌∷◌, ◌++◌}
use Prim.Native.Nat.{ℕ, ◌+◌, ◌*◌}
use native.Mathlib.Nat.{add_comm}
use native.Mathlib.Numerals.{add-one}
use native.Mathlib.Omega.{arith}
use Rattle.x691.specs.Bits.{bit_of}
use Rattle.atn.specs.Format.{Fmt, placed, many}
use Rattle.atn.specs.Reading.{Rec, rec, Ans, ok, then, times, sized, read}
use Rattle.atn.specs.Messages as message
use Rattle.atn.proofs.Then.{times-end}
use Rattle.cursor.specs.declared.place.Cursor.{Cursor}
use Rattle.cursor.specs.declared.place.Got.{Got}
use Rattle.cursor.specs.Place.{Reads, Takes}
use Rattle.character_strings.specs.Texts.{Sized}
use Rattle.field_ranges.specs.Rows as rows
use Rattle.field_ranges.specs.Ends.{lowest, highest}
use Rattle.cursor.proofs.Laws.{reads_then, reads_ok, reads_here, marked-nil}
use Rattle.runs.specs.declared.At.{At}
use Rattle.optional_parts.specs.Parts.{Part}
use Rattle.optional_parts.proofs.PartLaws.{reads_stay, part_none, part-within, part_same, part_then}
use Rattle.leg_lists.specs.Legs.{legs_of}

-- the record of its place, and the leg
pub reads_placed : {f : Fmt} {s : List ℕ} {c d : Cursor} {T : ℕ → List Rec} (t i : ℕ) → Takes f s c d T → Reads (λ e p. read (placed t f) (0, i) (bit_of s) e p) s c d ((rec t 0 i 0 c.at ∷ []) ++ T 0)
unfolding read
reads_placed {f} {s} {c} t i h = reads_then (λ e p. ok p (rec t 0 i 0 p ∷ []) 0) (λ e p. read f (0, i) (bit_of s) e p) (reads_here (λ p. rec t 0 i 0 p ∷ []) 0 (marked-nil c)) (h.took (0, i))

module _ {s : List ℕ} {c : Cursor} {n : ℕ} where
  pub legs-none : {w : List ℕ} → Part 0 (legs_of s 0) s c n w w (record { n = n; c = c })
  unfolding times
  legs-none = part_none

  pub legs-more : {w w₁ w₂ : List ℕ} {r t : At} (i : ℕ) → Part (158 * i) (legs_of s i) s c n w w₁ r → Part 158 (λ e p. read message.leg (0, i + 1) (bit_of s) e p) s r.c r.n w₁ w₂ t
      → Part (158 * (i + 1)) (legs_of s (i + 1)) s c n w w₂ t
  legs-more i x y =
      part-within (part_same (part_then x y) (legs_of s (i + 1))
      (λ z. sym (ap (λ (k : ℕ). legs_of s k c.end c.at) (add-one i) ∙ times-end (λ j q. read message.leg (0, j) (bit_of s) c.end q) 1 i c.at ∙ ap (λ (k : ℕ). then (legs_of s i c.end c.at) (λ p. read message.leg (0, k) (bit_of s) c.end p)) (add_comm 1 i))))
      (158 * (i + 1)) (omega arith)

-- a size, and a part for each
part-sized : {b k : ℕ} (K : ℕ → ℕ → ℕ → Ans) {s : List ℕ} {c : Cursor} {g : Got ℕ} {n : ℕ} {w w' : List ℕ} {r : At} → Sized k s c g → Part b (λ e p. K g.v e p) s g.c n w w' r
    → Part b (λ e p. sized (bit_of s) e p (lowest k) (highest k) (λ m q. K m e q)) s c n w w' r
part-sized {k = k} K {s} {c} {g} z x =
    let alone : Reads (λ e p. sized (bit_of s) e p (lowest k) (highest k) (λ m q. ok q [] 0)) s c g.c [] = z.size (λ m e p. ok p [] 0) (reads_ok [] 0 (marked-nil g.c)) in
    record {
      recs = x.recs;
      reads = z.size K x.reads;
      quiet = λ i h. (let q : g.c ≡ c = reads_stay alone i h in x.quiet (rw q i) (rw q h));
      told = x.told;
    }

pub legs-all : {s : List ℕ} {c : Cursor} {g : Got ℕ} {n i : ℕ} {w w' : List ℕ} {r : At} → Sized rows.legs s c g → i ≡ g.v → Part (158 * i) (legs_of s i) s g.c n w w' r
    → Part 80896 (λ e p. read (many 1 128 message.leg) (0, 0) (bit_of s) e p) s c n w w' r
unfolding read lowest highest
legs-all {s} z q x = part-within (part-sized (legs_of s) z (rw q at x)) 80896 (omega (arith, z.few))
