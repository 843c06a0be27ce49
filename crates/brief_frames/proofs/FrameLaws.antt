-- The whole frame, from its extension bit, its index and what stands behind them.
use mathlib.Core.Path.{◌≡◌, refl, ◌∙◌}
use mathlib.Core.Logic.{inl, inr}
use mathlib.Core.List.{List, [], ◌∷◌}
use Prim.Native.Nat.{ℕ, zero, suc, ◌+◌, ◌*◌, ◌^◌, ◌≤◌, ◌<◌}
use native.Mathlib.Omega.{arith}
use lib.ListN.{length}
use Rattle.x691.specs.Bits.{bit_of, uint}
use Rattle.x691.specs.Encoding.{width, width_in, highest, count}
use Rattle.per.proofs.Laws.{uint-below, uint-split}
use Rattle.atn.specs.Entries.{pdus}
use Rattle.atn.specs.Format.{Fmt, Alts, out, bad, noted, ext, choice, alternatives_of}
use Rattle.atn.specs.Messages.{ext_reason, extension_alternative}
use Rattle.atn.specs.Reading.{Rec, rec, Ans, stop, then, glue, or, mark, read, read_choice}
use Rattle.atn.specs.Tags as tag
use Rattle.atn.proofs.Steps.{pull_go, pull_no}
use Rattle.cursor.specs.Place.{number}
use Rattle.pdu_alternatives.specs.Alternatives.{alternatives}
use Rattle.pdus.specs.Pdus.{index_bits}
use Rattle.brief_frames.specs.declared.parts.Brief.{Brief}
use Rattle.brief_frames.specs.Bare.{Bare, empty, extended, apart}
use Rattle.brief_frames.specs.Briefs.{behind_direction, brief_records, Came, told, failed}
use Rattle.brief_frames.proofs.PartLaws.{ext_set, ext_clear}

---------------------------------------------------------------- what names no message

module _ (s : List ℕ) where
  first_bit : uint (bit_of s) 0 8 ≡ uint (bit_of s) 0 1 * 2 ^ 7 + uint (bit_of s) 1 7
  first_bit = uint-split (bit_of s) 0 1 7

  three : uint (bit_of s) 1 7 ≡ uint (bit_of s) 1 3 * 2 ^ 4 + uint (bit_of s) 4 4
  three = uint-split (bit_of s) 1 3 4

module _ (s : List ℕ) {o d : ℕ} (octet : uint (bit_of s) 0 8 ≡ o) where
  pub bare_extended : 128 ≤ o → Bare d s
  bare_extended h = extended (omega (arith, first_bit s, uint-below s 0 1, uint-below s 1 7))

  pub bare_down : d ≡ 0 → o < 64 → Bare d s
  unfolding index_bits
  bare_down q h =
      let a : uint (bit_of s) 1 7 ≡ uint (bit_of s) 1 2 * 2 ^ 5 + uint (bit_of s) 3 5 = uint-split (bit_of s) 1 2 5 in
      rw q (apart (inl (omega (arith, first_bit s, a))))

  module _ (one : d ≡ 1) where
    pub bare_low : o < 32 → Bare d s
    unfolding index_bits
    bare_low h = rw one (apart (inl (omega (arith, first_bit s, three s))))

    pub bare_high : 80 ≤ o → Bare d s
    unfolding index_bits
    bare_high h = go (uint (bit_of s) 0 1) refl
      where
        go : (v : ℕ) → uint (bit_of s) 0 1 ≡ v → Bare d s
        go zero z = rw one (apart (inr (refl, omega (arith, first_bit s, three s, uint-below s 4 4))))
        go (suc zero) z = extended z
        go (suc (suc v)) z = absurd (omega (arith, uint-below s 0 1))

neither : (i : ℕ) → i ≤ 1 → (i ≡ 0 → ⊥) → (i ≡ 1 → ⊥) → ⊥
neither zero l n₀ n₁ = n₀ refl
neither (suc zero) l n₀ n₁ = n₁ refl
neither (suc (suc i)) l n₀ n₁ = omega arith

-- behind a clear extension bit, an index that is no abort's is the uplink's
pub uplink : {d i : ℕ} {s : List ℕ} → Bare d s → (length s ≡ 0 → ⊥) → uint (bit_of s) 0 1 ≡ 0 → i ≡ uint (bit_of s) 1 (index_bits d) → (i ≡ 0 → ⊥) → (i ≡ 1 → ⊥) → (d ≡ 1) × (5 ≤ i)
uplink (empty q) some z e n₀ n₁ = absurd (some q)
uplink (extended q) some z e n₀ n₁ = absurd (omega arith)
uplink {i = i} (apart (inl l)) some z e n₀ n₁ = absurd (neither i (omega (arith, l)) n₀ n₁)
uplink (apart (inr q)) some z e n₀ n₁ = (q.0, omega (arith, q.1))

---------------------------------------------------------------- the whole frame

came_behind : {a : Ans} {R : List Rec} {b : Brief} (r : Rec) → Came a R b → Came (glue (r ∷ []) 0 a) (r ∷ R) b
unfolding glue or
came_behind r (told z e) = told z (rw e)
came_behind r (failed w S m n q e) = failed w (r ∷ S) m n q (rw e)

abbrev pdu_format : ℕ → Alts → Fmt
pdu_format d fs = noted tag.direction d 0 (ext (choice tag.pdu fs) extension_alternative)

pdus-is : (d : ℕ) (down up : List ℕ) → d ≤ 1 → pdus d down up ≡ pdu_format d (alternatives d down up)
unfolding pdus
pdus-is zero down up l = refl
pdus-is (suc zero) down up l = refl
pdus-is (suc (suc d)) down up l = absurd (omega arith)

index_is : (d : ℕ) (down up : List ℕ) → width (highest (alternatives_of (alternatives d down up))) ≡ index_bits d
unfolding index_bits width width_in highest count
index_is zero down up = refl
index_is (suc d) down up = refl

abbrev Frame : ℕ → List ℕ → List ℕ → List ℕ → Brief → ℕ → Type 0
Frame d down up s b e = Came (read (pdus d down up) (0, 0) (bit_of s) e 0) (brief_records d b) b

-- a reason behind the record of its index i
abbrev Reason : List ℕ → ℕ → ℕ → ℕ → Brief → ℕ → ℕ → Type 0
Reason s e p i b t hi = Came (glue (rec tag.pdu 0 i 0 1 ∷ []) 0 (read (ext_reason t hi) (0, 0) (bit_of s) e p)) (behind_direction b) b

module _ (d : ℕ) (down up s : List ℕ) {b : Brief} (one : d ≤ 1) where
  behind-direction : (e : ℕ) {a : Ans} → read (ext (choice tag.pdu (alternatives d down up)) extension_alternative) (0, 0) (bit_of s) e 0 ≡ a → Came a (behind_direction b) b → Frame d down up s b e
  unfolding read then
  behind-direction e q x = rw (pdus-is d down up one, q) (came_behind (rec tag.direction 0 d 0 0) x)

  pub frame-empty : length s ≡ 0 → b.why ≡ number (out 1) → b.reach ≡ 0 → Frame d down up s b (length s * 8)
  unfolding read
  frame-empty z q r =
      let e : length s * 8 ≡ 0 = omega arith in
      rw e (behind-direction 0 (pull_no (bit_of s) 0 0 1 _ (omega arith)) (failed (out 1) [] 0 (λ y. omega arith) q (rw r)))

  module _ (e : ℕ) where
    pub frame-extended : 1 ≤ e → (uint (bit_of s) 0 1 ≡ 0 → ⊥) → Came (glue [] (mark 2) (read extension_alternative (0, 0) (bit_of s) e 1)) (behind_direction b) b → Frame d down up s b e
    frame-extended h n x = behind-direction e (ext_set (choice tag.pdu (alternatives d down up)) extension_alternative (0, 0) (bit_of s) e 0 h n) x

    module _ (i p : ℕ) (z : uint (bit_of s) 0 1 ≡ 0) (index : i ≡ uint (bit_of s) 1 (index_bits d)) (at : p ≡ 1 + index_bits d) (held : p ≤ e) where
      frame_indexed : {a : Ans} → read_choice (alternatives d down up) i (0, 0) (bit_of s) e p ≡ a → Came (glue (rec tag.pdu 0 i 0 1 ∷ []) 0 a) (behind_direction b) b → Frame d down up s b e
      unfolding read then
      frame_indexed q x =
          behind-direction e
          (ext_clear (choice tag.pdu (alternatives d down up)) extension_alternative (0, 0) (bit_of s) e 0 (omega arith) z
          ∙ rw (index_is d down up) (pull_go (bit_of s) e 1 (index_bits d) _ (omega arith) ∙ rw (← index, ← at, q)))
          x

      pub frame_user_abort : i ≡ 0 → Reason s e p i b tag.user_abort_reason 12 → Frame d down up s b e
      unfolding read_choice
      frame_user_abort q x = frame_indexed (rw q (go d)) x
        where
          go : (d : ℕ) → read_choice (alternatives d down up) 0 (0, 0) (bit_of s) e p ≡ read (ext_reason tag.user_abort_reason 12) (0, 0) (bit_of s) e p
          go zero = refl
          go (suc d) = refl

      pub frame_provider_abort : i ≡ 1 → Reason s e p i b tag.provider_abort_reason 7 → Frame d down up s b e
      unfolding read_choice
      frame_provider_abort q x = frame_indexed (rw q (go d)) x
        where
          go : (d : ℕ) → read_choice (alternatives d down up) 1 (0, 0) (bit_of s) e p ≡ read (ext_reason tag.provider_abort_reason 7) (0, 0) (bit_of s) e p
          go zero = refl
          go (suc d) = refl

      module _ (up-only : d ≡ 1) where
        pub frame_response : i ≡ 5 → Reason s e p i b tag.forward_response 2 → Frame d down up s b e
        unfolding read_choice
        frame_response q x = frame_indexed (rw (q, up-only)) x

        pub frame-bad : 6 ≤ i → b.why ≡ 5 → b.reach ≡ p → Frame d down up s b e
        unfolding read_choice glue or
        frame-bad h q r = frame_indexed {a = stop bad p [] (mark 1)} (rw up-only (go i h)) (failed bad (rec tag.pdu 0 i 0 1 ∷ []) (mark 1) (λ y. omega arith) q (rw r))
          where
            go : (i : ℕ) → 6 ≤ i → read_choice (alternatives 1 down up) i (0, 0) (bit_of s) e p ≡ stop bad p [] (mark 1)
            go zero l = absurd (omega arith)
            go (suc zero) l = absurd (omega arith)
            go (suc (suc zero)) l = absurd (omega arith)
            go (suc (suc (suc zero))) l = absurd (omega arith)
            go (suc (suc (suc (suc zero)))) l = absurd (omega arith)
            go (suc (suc (suc (suc (suc zero))))) l = absurd (omega arith)
            go (suc (suc (suc (suc (suc (suc i)))))) l = refl
