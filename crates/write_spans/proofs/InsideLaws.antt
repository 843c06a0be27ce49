-- Spans that lie inside, from a record on.
use mathlib.Core.Path.{◌≡◌, sym, ◌∙◌}
use mathlib.Core.Bool.{Bool, true, false, not, ◌&&◌, ◌||◌}
use mathlib.Core.List.{List}
use Prim.Native.Nat.{ℕ, zero, suc, ◌+◌, ◌-◌, ◌*◌, ◌≤◌, ◌<◌}
use native.Mathlib.Omega.{arith}
use native.Mathlib.Numerals.{add-one}
use lib.ListN.{get_or}
use lib.Dec.{leb}
use borrow.Author.Tests.{leb-true}
use Rattle.atn.proofs.Inverse.{both}
use Rattle.record_lists.specs.Items.{inside}
use Rattle.record_lists.specs.Message.{records_from}
use Rattle.pens.specs.Rest.{rest}

module _ (sp : ℕ → Bool) (e : ℕ) (W : List ℕ) where
  -- record i is no span, or lies inside
  abbrev pub lies : ℕ → Bool
  lies i = not (sp (get_or W (i * 5) 0)) || leb (get_or W (i * 5 + 2) 0 + get_or W (i * 5 + 3) 0) e

  pub span_lies : (i : ℕ) {t r : Bool} → t ≡ sp (get_or W (i * 5) 0) → t ≡ true → r ≡ leb (get_or W (i * 5 + 2) 0 + get_or W (i * 5 + 3) 0) e → r ≡ lies i
  span_lies i x y z = rw (← x, y) z

  pub other_lies : (i : ℕ) {t : Bool} → t ≡ sp (get_or W (i * 5) 0) → t ≡ false → true ≡ lies i
  other_lies i x y = rw (← x, y)

module _ (sp : ℕ → Bool) (e : ℕ) (W : List ℕ) (m : ℕ) where
  pub inside-end : (i : ℕ) → m ≤ i → inside sp e (rest W m i) ≡ true
  unfolding rest records_from inside
  inside-end i h = let z : m - i ≡ 0 = omega arith in rw z

  pub inside-cons : (i : ℕ) → i < m → inside sp e (rest W m i) ≡ lies sp e W i && inside sp e (rest W m (i + 1))
  unfolding rest records_from inside
  inside-cons i h = let z : m - i ≡ suc (m - suc i) = omega arith in rw (z, add-one)

  -- a record that lies inside is passed, and one that does not is the answer
  pub inside-next : (i : ℕ) {r : Bool} → i < m → r ≡ lies sp e W i → r ≡ true → inside sp e (rest W m i) ≡ inside sp e (rest W m (i + 1))
  inside-next i h t l = inside-cons i h ∙ rw (← t, l)

  pub inside-not : (i : ℕ) {r : Bool} → i < m → r ≡ lies sp e W i → r ≡ false → inside sp e (rest W m i) ≡ false
  inside-not i h t l = inside-cons i h ∙ rw (← t, l)

  -- where all lie inside, those from a record on do
  pub inside-from : inside sp e (rest W m 0) ≡ true → (i : ℕ) → i ≤ m → inside sp e (rest W m i) ≡ true
  inside-from a zero h = a
  inside-from a (suc i) h = rw add-one at (both (lies sp e W i) (inside sp e (rest W m (i + 1))) (sym (inside-cons i (omega arith)) ∙ inside-from a i (omega arith))).1

  -- and each span does
  pub inside_at : inside sp e (rest W m 0) ≡ true → (i : ℕ) → i < m → sp (get_or W (i * 5) 0) ≡ true → get_or W (i * 5 + 2) 0 + get_or W (i * 5 + 3) 0 ≤ e
  inside_at a i h s =
      let z = (both (lies sp e W i) (inside sp e (rest W m (i + 1))) (sym (inside-cons i h) ∙ inside-from a i (omega arith))).0 in
      leb-true (get_or W (i * 5 + 2) 0 + get_or W (i * 5 + 3) 0) e (rw s at z)
