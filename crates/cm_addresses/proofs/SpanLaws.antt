-- Octets from what was passed over.
use mathlib.Core.Path.{◌≡◌, refl, sym, ap, ◌∙◌}
use mathlib.Core.List.{List, [], ◌∷◌}
use Prim.Native.Nat.{ℕ, zero, suc, ◌+◌, ◌-◌, ◌*◌}
use native.Mathlib.Omega.{arith}
use Rattle.x691.specs.Bits.{bit_of, bits_of, Spells}
use Rattle.x691.specs.Encoding.{width, width_in, size_bits}
use Rattle.atn.specs.Format.{span}
use Rattle.atn.specs.Reading.{Rec, rec, Ctx, Ans, ok, pull, sized, spanned, read}
use Rattle.atn.proofs.Steps.{sized_go}
use Rattle.cursor.specs.declared.place.Cursor.{Cursor}
use Rattle.cursor.specs.declared.place.Got.{Got}
use Rattle.cursor.specs.Place.{Inside, Takes}
use Rattle.length_determinants.specs.Lengths.{Passes}
use Rattle.field_ranges.specs.Rows as rows
use Rattle.field_ranges.specs.Ends.{lowest, highest}
use Rattle.character_strings.specs.Texts.{Sized}
use Rattle.cursor.proofs.Laws.{reads_same}
use Rattle.length_determinants.proofs.LengthLaws.{passes_ok}
use Rattle.cm_addresses.specs.Addresses.{Octets}

module _ {t o k n : ℕ} {s : List ℕ} {c d : Cursor} (e : n ≡ k * 8) (p : Passes c n d) where
  octets-spanned : Octets t o k s c d (λ m. spanned t m o c.at n)
  octets-spanned =
      rw e record {
        took = λ x.
            reads_same (λ u q. pull (bit_of s) u q (k * 8) λ _. ok (q + k * 8) (spanned t x.0 o c.at (k * 8)) 0)
            (λ u q. pull (bit_of s) u q (k * 8) λ _. ok (q + k * 8) (spanned t x.0 o q (k * 8)) 0) refl (passes_ok (rw e at p));
      }

  pub octets-none : n ≡ 0 → Octets t o k s c d (λ m. [])
  unfolding spanned
  octets-none z = record { took = λ x. let none : spanned t x.0 o c.at n ≡ [] = rw z in rw none at (octets-spanned.took x) }

  pub octets-some : (n ≡ 0 → ⊥) → Octets t o k s c d (λ m. rec t m c.at n o ∷ [])
  unfolding spanned
  octets-some h = record { took = λ x. rw (one n x.0 h) at (octets-spanned.took x) }
    where
      one : (v m : ℕ) → (v ≡ 0 → ⊥) → spanned t m o c.at v ≡ rec t m c.at v o ∷ []
      one zero m z = absurd (z refl)
      one (suc v) m z = refl

module _ {t k : ℕ} {s : List ℕ} {c d : Cursor} {T : ℕ → List Rec} where
  -- so many, always
  pub span_fixed : Octets t c.at k s c d T → Takes (span t 8 k k) s c d T
  unfolding read width width_in size_bits bits_of Spells
  span_fixed h = record { took = λ x. record { led = λ i. (reads_same (λ e q. pull (bit_of s) e q (k * 8) λ _. ok (q + k * 8) (spanned t x.0 c.at q (k * 8)) 0) (λ e q. read (span t 8 k k) x (bit_of s) e q) (same x i) (h.took x)).led i } }
    where
      octets : Ctx → ℕ → ℕ → Ans
      octets x n q = pull (bit_of s) c.end q (n * 8) λ _. ok (q + n * 8) (spanned t x.0 c.at q (n * 8)) 0

      same : (x : Ctx) → Inside s c → pull (bit_of s) c.end c.at (k * 8) (λ _. ok (c.at + k * 8) (spanned t x.0 c.at c.at (k * 8)) 0) ≡ read (span t 8 k k) x (bit_of s) c.end c.at
      same x i =
          let e : k - k ≡ 0 = omega arith in
          let w : width (k - k) ≡ 0 = rw e in
          sym (sized_go (bit_of s) c.end c.at k k k (octets x) (omega arith) (omega arith) (rw w tt) (omega (arith, i.0)) ∙ ap (λ (q : ℕ). octets x k q) (omega arith))

-- the row of the selectors' sizes
pub span-selectors : {t : ℕ} {s : List ℕ} {c d : Cursor} {T : ℕ → List Rec} (g : Got ℕ) → Sized rows.selector_size s c g → Octets t c.at g.v s g.c d T → Takes (span t 8 10 11) s c d T
unfolding read lowest highest
span-selectors {t} {s} {c} g z h = record { took = λ x. reads_same (λ e p. sized (bit_of s) e p 10 11 (λ k q. octets x k e q)) (λ e p. read (span t 8 10 11) x (bit_of s) e p) refl (z.size (octets x) (h.took x)) }
  where
    octets : Ctx → ℕ → ℕ → ℕ → Ans
    octets x k e q = pull (bit_of s) e q (k * 8) λ _. ok (q + k * 8) (spanned t x.0 c.at q (k * 8)) 0
