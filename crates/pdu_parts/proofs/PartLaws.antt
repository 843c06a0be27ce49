-- The extension, told and not.
use mathlib.Core.Path.{◌≡◌}
use mathlib.Core.List.{List, [], ◌∷◌}
use Prim.Native.Nat.{ℕ}
use native.Mathlib.Omega.{arith}
use Rattle.x691.specs.Bits.{bit_of}
use Rattle.atn.specs.Format.{small}
use Rattle.atn.specs.Reading.{rec, mark, read}
use Rattle.atn.specs.Tags as tag
use Rattle.cursor.specs.declared.place.Cursor.{Cursor}
use Rattle.cursor.specs.declared.place.Got.{Got}
use Rattle.length_determinants.specs.Lengths.{Smalls}
use Rattle.cursor.specs.Place.{marked}
use Rattle.length_determinants.proofs.LengthLaws.{takes_small}
use Rattle.records.specs.Told.{Told}
use Rattle.runs.specs.Runs.{Runs}
use Rattle.runs.proofs.FrameLaws.{runs_noted}
use Rattle.runs.proofs.RunLaws.{runs_told, runs_untold, runs_within}
use Rattle.pdu_parts.specs.Parts.{extension_at}

-- the index of an alternative behind the extension bit
module _ {s : List ℕ} {c d : Cursor} {g : Got ℕ} {n m : ℕ} {w w₁ : List ℕ} (goes : c.why ≡ 0) (t : Told 1 w w₁ n m (rec 2 0 0 1 c.at ∷ [])) (q : d ≡ marked c 2) (h : Smalls s d g) where
  pub extension_untold : (g.c.why ≡ 0 → ⊥) → Runs 2 (extension_at s) s c n w w₁ (record { n = m; c = g.c })
  unfolding extension_at mark
  extension_untold z =
      runs_within 2 (extension_at s) (omega arith)
      (runs_noted (0, 0) tag.pdu 0 1 (small 2 tag.extension_index) goes t (runs_untold (λ u p. read (small 2 tag.extension_index) (0, 0) (bit_of s) u p) ((takes_small 2 tag.extension_index q h).took (0, 0)) z))

  pub extension-told : {k : ℕ} {w₂ : List ℕ} → g.c.why ≡ 0 → Told 1 w₁ w₂ m k (rec 3 0 g.v 0 d.at ∷ []) → Runs 2 (extension_at s) s c n w w₂ (record { n = k; c = g.c })
  unfolding extension_at mark
  extension-told z u = runs_noted (0, 0) tag.pdu 0 1 (small 2 tag.extension_index) goes t (runs_told (λ u p. read (small 2 tag.extension_index) (0, 0) (bit_of s) u p) ((takes_small 2 tag.extension_index q h).took (0, 0)) z u)
