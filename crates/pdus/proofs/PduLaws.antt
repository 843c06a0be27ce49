-- The message choice from its index and its alternative.
use mathlib.Core.Path.{◌≡◌, refl, sym, ap, ◌∙◌}
use mathlib.Core.List.{List, [], ◌∷◌}
use Prim.Native.Nat.{ℕ, zero, suc, ◌+◌, ◌≤◌}
use native.Mathlib.Omega.{arith}
use Rattle.x691.specs.Bits.{bit_of}
use Rattle.x691.specs.Encoding.{width, width_in, count}
use Rattle.x691.specs.Encoding as encoding
use Rattle.atn.specs.Entries.{pdus}
use Rattle.atn.specs.Format.{Fmt, Alts, noted, ext, choice, alternatives_of}
use Rattle.atn.specs.Messages.{extension_alternative}
use Rattle.atn.specs.Reading.{rec, read}
use Rattle.atn.specs.Tags as tag
use Rattle.cursor.specs.declared.place.Cursor.{Cursor}
use Rattle.cursor.specs.declared.place.Got.{Got}
use Rattle.cursor.specs.Place.{marked, Pulls}
use Rattle.records.specs.Told.{Told}
use Rattle.runs.specs.declared.At.{At}
use Rattle.runs.specs.Runs.{Runs}
use Rattle.runs.proofs.FrameLaws.{runs_noted, runs_root, runs_extended, runs_no_index, runs_index}
use Rattle.runs.proofs.RunLaws.{runs_same}
use Rattle.pdu_parts.specs.Parts.{extension_at}
use Rattle.pdu_alternatives.specs.Alternatives.{alternatives, alternative_at}
use Rattle.pdus.specs.Pdus.{index_bits, pdu_at}

---------------------------------------------------------------- the bits of the index

pub bits-down : {d : ℕ} → d ≡ 0 → 2 ≡ index_bits d
unfolding index_bits
bits-down q = rw q refl

pub bits_up : (d : ℕ) → (d ≡ 0 → ⊥) → 3 ≡ index_bits d
unfolding index_bits
bits_up zero h = absurd (h refl)
bits_up (suc d) h = refl

pub few_bits : {b : ℕ} (d : ℕ) → b ≡ index_bits d → b ≤ 64
unfolding index_bits
few_bits {b} d q = rw q (go d)
  where
    go : (d : ℕ) → index_bits d ≤ 64
    go zero = omega arith
    go (suc d) = omega arith

---------------------------------------------------------------- the choice

abbrev pdu_format : ℕ → Alts → Fmt
pdu_format d fs = noted tag.direction d 0 (ext (choice tag.pdu fs) extension_alternative)

pdus-is : (d : ℕ) (down up : List ℕ) → d ≤ 1 → pdus d down up ≡ pdu_format d (alternatives d down up)
unfolding pdus
pdus-is zero down up l = refl
pdus-is (suc zero) down up l = refl
pdus-is (suc (suc d)) down up l = absurd (omega arith)

index_is : (d : ℕ) (down up : List ℕ) → index_bits d ≡ width (encoding.highest (alternatives_of (alternatives d down up)))
unfolding index_bits width width_in encoding.highest count
index_is zero down up = refl
index_is (suc d) down up = refl

module _ (d : ℕ) (down up : List ℕ) {s : List ℕ} {c : Cursor} {n m : ℕ} {w w₁ : List ℕ} {x : Got ℕ} (one : d ≤ 1) (goes : c.why ≡ 0) (t : Told 1 w w₁ n m (rec 1 0 d 0 c.at ∷ [])) (bit : Pulls s c 1 x) where
  behind-direction : {b : ℕ} {w₂ : List ℕ} {r : At} → Runs b (λ u p. read (ext (choice tag.pdu (alternatives d down up)) extension_alternative) (0, 0) (bit_of s) u p) s c m w₁ w₂ r → Runs (1 + b) (pdu_at d down up s) s c n w w₂ r
  unfolding pdu_at
  behind-direction y =
      runs_same (λ u p. read (pdu_format d (alternatives d down up)) (0, 0) (bit_of s) u p) (pdu_at d down up s) (λ _ _. ap (λ (f : Fmt). read f (0, 0) (bit_of s) c.end c.at) (sym (pdus-is d down up one)))
      (runs_noted (0, 0) tag.direction d 0 (ext (choice tag.pdu (alternatives d down up)) extension_alternative) goes t y)

  pub pdu-extended : {e : Cursor} {w₂ : List ℕ} {r : At} → (x.v ≡ 0 → ⊥) → e ≡ marked x.c 2 → Runs 2 (extension_at s) s e m w₁ w₂ r → Runs 3 (pdu_at d down up s) s c n w w₂ r
  unfolding extension_at
  pdu-extended h q y = behind-direction (runs_extended (0, 0) (choice tag.pdu (alternatives d down up)) extension_alternative x bit h q y)

  module _ {b : ℕ} {g : Got ℕ} (z : x.v ≡ 0) (e : b ≡ index_bits d) (index : Pulls s x.c b g) where
    wide : Pulls s x.c (width (encoding.highest (alternatives_of (alternatives d down up)))) g
    wide = rw (e ∙ index_is d down up) at index

    pub pdu_stuck : (g.c.why ≡ 0 → ⊥) → Runs 1 (pdu_at d down up s) s c n w w₁ (record { n = m; c = g.c })
    pdu_stuck h = behind-direction (runs_root (0, 0) (choice tag.pdu (alternatives d down up)) extension_alternative x bit z (runs_no_index (0, 0) tag.pdu (alternatives d down up) g wide h))

    pub pdu-read : {k a : ℕ} {w₂ w₃ : List ℕ} {r : At} → g.c.why ≡ 0 → Told 1 w₁ w₂ m k (rec 2 0 g.v 0 x.c.at ∷ []) → Runs a (alternative_at d g.v down up s) s g.c k w₂ w₃ r → Runs (1 + (1 + a)) (pdu_at d down up s) s c n w w₃ r
    unfolding alternative_at
    pdu-read h u y = behind-direction (runs_root (0, 0) (choice tag.pdu (alternatives d down up)) extension_alternative x bit z (runs_index (0, 0) tag.pdu (alternatives d down up) g wide h u y))
