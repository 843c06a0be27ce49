-- A string at the front of a list: what is got from the items there.
use mathlib.Core.Path.{◌≡◌, refl}
use mathlib.Core.Bool.{Bool, true, false, cond, ◌&&◌}
use mathlib.Core.List.{List, [], ◌∷◌}
use Prim.Native.Nat.{ℕ, ◌/◌, ◌%◌, ◌^◌, ◌≤◌, ◌<◌}
use native.Mathlib.Omega.{arith}
use native.Mathlib.Nat.{mul-le-mul}
use lib.ListN.{length}
use borrow.Author.Tests.{eq-eqb}
use Rattle.x691.specs.Bits.{stretch}
use Rattle.x691.specs.Encoding.{unit_bits, joined}
use Rattle.record_lists.specs.Items.{Item, bits, tag_of}
use Rattle.record_lists.specs.Shown.{spanned}
use Rattle.record_lists.specs.Parse.{bits_in, bits_at, same, units_of, all_below, Got, no, got, peel, leaf}
use Rattle.record_lists.proofs.Forth.{same_inv}
use Rattle.record_lists.proofs.Back.{same-numbers}
use Rattle.write_spans.proofs.UnitLaws.{units-length, units-none, below, counted, spread, units-whole, whole-units}

one_span : (t e : ℕ) (xs : List ℕ) → 1 ≤ length xs → spanned t e xs ≡ bits t e xs ∷ []
unfolding spanned
one_span t e [] h = absurd (omega (arith, h))
one_span t e (x ∷ xs) h = refl

-- a number of units that fits, each of w bits
module _ (fits : ℕ → Bool) (t e w : ℕ) where
  abbrev pub string_at : List Item → Got (List ℕ)
  string_at R = leaf (λ cs. spanned t e (unit_bits (2 ^ w) cs)) (λ cs. fits (length cs) && all_below (2 ^ w) cs) (units_of w (bits_at t R)) R

  pub string_unfit : (R : List Item) → fits (length (bits_at t R) / w) ≡ false → string_at R ≡ no
  unfolding leaf
  string_unfit R h = rw (units-length w (bits_at t R), h)

  pub string-empty : (R : List Item) → length (bits_at t R) / w ≡ 0 → fits 0 ≡ true → string_at R ≡ got [] R
  unfolding leaf all_below unit_bits joined spanned peel
  string-empty R h k = rw (units-none w (bits_at t R) h, k)

  module _ (b : ℕ → ℕ) (bit : (i : ℕ) → b i < 2) (v s : ℕ) (some : 1 ≤ s / w) where
    many : 1 ≤ w → 1 ≤ length (unit_bits (2 ^ w) (units_of w (stretch b v s)))
    many l = omega (arith, spread b bit w v s, mul-le-mul some l)

    pub string-whole : (S : List Item) → 1 ≤ w → fits (s / w) ≡ true → s % w ≡ 0 → string_at (bits t e (stretch b v s) ∷ S) ≡ got (units_of w (stretch b v s)) S
    unfolding leaf bits_at tag_of bits_in peel same
    string-whole S l f h =
        rw (
          eq-eqb t t refl,
          counted b bit w v s,
          f,
          below b bit w v s,
          one_span t e (unit_bits (2 ^ w) (units_of w (stretch b v s))) (many l),
          units-whole b bit w v s h,
          eq-eqb t t refl,
          eq-eqb e e refl,
          same-numbers (stretch b v s),
        )

    pub string_other : (e' : ℕ) (S : List Item) → 1 ≤ w → fits (s / w) ≡ true → (e ≡ e' → s % w ≡ 0 → ⊥) → string_at (bits t e' (stretch b v s) ∷ S) ≡ no
    unfolding leaf bits_at tag_of bits_in peel
    string_other e' S l f h =
        rw (
          eq-eqb t t refl,
          counted b bit w v s,
          f,
          below b bit w v s,
          one_span t e (unit_bits (2 ^ w) (units_of w (stretch b v s))) (many l),
        )
        (go (same (bits t e (unit_bits (2 ^ w) (units_of w (stretch b v s)))) (bits t e' (stretch b v s))) refl)
      where
        go : (a : Bool) → same (bits t e (unit_bits (2 ^ w) (units_of w (stretch b v s)))) (bits t e' (stretch b v s)) ≡ a → cond a (got (units_of w (stretch b v s)) S) no ≡ no
        go true q =
            let z = same_inv (bits t e (unit_bits (2 ^ w) (units_of w (stretch b v s)))) (bits t e' (stretch b v s)) q in
            let x : unit_bits (2 ^ w) (units_of w (stretch b v s)) ≡ stretch b v s = cc in
            let y : e ≡ e' = cc in
            absurd (h y (whole-units b bit w v s x))
        go false q = refl
