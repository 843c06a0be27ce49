-- The entries from one place on.
use mathlib.Core.Path.{◌≡◌, refl, ap, ◌∙◌}
use mathlib.Core.Bool.{Bool, true, false, cond}
use mathlib.Core.List.{List, [], ◌∷◌, ◌++◌}
use Prim.Native.Nat.{ℕ, zero, suc, ◌+◌, ◌*◌, ◌-◌, ◌≤◌, ◌<◌}
use native.Mathlib.Nat.{le_refl}
use native.Mathlib.Numerals.{add-one, add-two, add-three}
use native.Mathlib.Omega.{arith}
use lib.Dec.{eqb}
use lib.ListN.{length, take, drop, get_or, length-drop, length-append}
use lib.Seq.{drop-cons, take_all}
use Rattle.book_entries.specs.declared.Entry.{Entry}
use Rattle.book_entries.specs.Entries.{words, entry_at}
use Rattle.book_entries.specs.Book.{picture, entries}

-- the entries from place i on
abbrev pub from : List ℕ → ℕ → List Entry
from w i = entries (drop (i * 4) w)

-- four words on
pub four : (w : List ℕ) (i : ℕ) → i * 4 + 3 < length w → drop (i * 4) w ≡ words (entry_at w i) ++ drop ((i + 1) * 4) w
four w i p =
    let h : i * 4 < length w = omega arith in
    let h₁ : suc (i * 4) < length w = omega arith in
    let h₂ : suc (suc (i * 4)) < length w = omega arith in
    let h₃ : suc (suc (suc (i * 4))) < length w = omega arith in
    let e : suc (suc (suc (suc (i * 4)))) ≡ (i + 1) * 4 = omega arith in
    rw (drop-cons w (i * 4) 0 h, drop-cons w (suc (i * 4)) 0 h₁, drop-cons w (suc (suc (i * 4))) 0 h₂, drop-cons w (suc (suc (suc (i * 4)))) 0 h₃, e, add-one (i * 4), add-two (i * 4), add-three (i * 4))

module _ (w : List ℕ) (i : ℕ) where
  pub step : i * 4 + 3 < length w → from w i ≡ cond (eqb (get_or w (i * 4 + 3) 0) 0) [] (entry_at w i ∷ from w (i + 1))
  unfolding entries
  step p = rw (four w i p)

  -- a place in use
  pub used : i * 4 + 3 < length w → eqb (get_or w (i * 4 + 3) 0) 0 ≡ false → from w i ≡ entry_at w i ∷ from w (i + 1)
  used p e = step p ∙ rw e

  pub unused : i * 4 + 3 < length w → eqb (get_or w (i * 4 + 3) 0) 0 ≡ true → from w i ≡ []
  unused p e = step p ∙ rw e

pub three : (x : List ℕ) → length x < 4 → entries x ≡ []
unfolding entries
three [] p = refl
three (a ∷ []) p = refl
three (a ∷ b ∷ []) p = refl
three (a ∷ b ∷ k ∷ []) p = refl
three (a ∷ b ∷ k ∷ s ∷ x) p = absurd (omega arith)

-- the first entry is taken off
pub first_off : (w : List ℕ) {e : Entry} → 4 ≤ length w → eqb (get_or w 3 0) 0 ≡ false → e ≡ entry_at w 0 → entries w ≡ e ∷ entries (take (length w - 4) (drop 4 w))
first_off w p t is = used w 0 (omega arith) t ∙ rw (is, take_all (length w - 4) (drop 4 w) (simp length-drop (le_refl _)))

-- no whole place
pub behind : (w : List ℕ) (i : ℕ) → length w < i * 4 + 4 → from w i ≡ []
behind w i p = three (drop (i * 4) w) (simp length-drop (omega arith))

enough : (x : List ℕ) → 0 < length (entries x) → 3 < length x
unfolding entries
enough [] p = absurd (omega arith)
enough (a ∷ []) p = absurd (omega arith)
enough (a ∷ b ∷ []) p = absurd (omega arith)
enough (a ∷ b ∷ k ∷ []) p = absurd (omega arith)
enough (a ∷ b ∷ k ∷ s ∷ x) p = omega arith

module _ (w : List ℕ) (i : ℕ) (p : 0 < length (from w i)) where
  pub inside : i * 4 + 3 < length w
  inside = omega (arith, enough (drop (i * 4) w) p, length-drop (i * 4) w)

  pub next : from w i ≡ entry_at w i ∷ from w (i + 1)
  next = go (eqb (get_or w (i * 4 + 3) 0) 0) refl
    where
      go : (b : Bool) → eqb (get_or w (i * 4 + 3) 0) 0 ≡ b → from w i ≡ entry_at w i ∷ from w (i + 1)
      go true e = let z : length (from w i) ≡ 0 = ap length (unused w i inside e) in absurd (omega arith)
      go false e = used w i inside e

-- the entries before place i and those from it on
pub counted : (w : List ℕ) (i : ℕ) → i ≤ length (entries w) → length (entries w) ≡ i + length (from w i)
counted w zero p = omega arith
counted w (suc i) p =
    let q : length (entries w) ≡ i + length (from w i) = counted w i (omega arith) in
    let r : length (from w i) ≡ suc (length (from w (i + 1))) = ap length (next w i (omega arith)) in
    let e : i + 1 ≡ suc i = add-one i in
    rw (← e) (omega arith)

module _ (w : List ℕ) (i : ℕ) (p : i < length (entries w)) where
  some_left : 0 < length (from w i)
  some_left = omega (arith, counted w i (omega arith))

  pub inside_of : i * 4 + 3 < length w
  inside_of = inside w i some_left

  pub next_of : from w i ≡ entry_at w i ∷ from w (i + 1)
  next_of = next w i some_left

none-long : (E : List Entry) → length E ≡ 0 → E ≡ []
none-long [] p = refl
none-long (e ∷ E) p = absurd (omega arith)

pub last : (w : List ℕ) → from w (length (entries w)) ≡ []
last w = none-long _ (omega (arith, counted w (length (entries w)) (omega arith)))

pub picture-length : (E : List Entry) → length (picture E) ≡ length E * 4
unfolding picture
picture-length [] = refl
picture-length (e ∷ E) = omega (arith, picture-length E)

-- a slice is its entries and what stands behind them
pub pictured : (w : List ℕ) → w ≡ picture (entries w) ++ drop (length (entries w) * 4) w
unfolding picture entries
pictured [] = refl
pictured (a ∷ []) = refl
pictured (a ∷ b ∷ []) = refl
pictured (a ∷ b ∷ k ∷ []) = refl
pictured (a ∷ b ∷ k ∷ s ∷ w) = go (pictured w) (eqb s 0)
  where
    E : Bool → List Entry
    E t = cond t [] (record { high = a; low = b; number = k; shape = s } ∷ entries w)

    go : w ≡ picture (entries w) ++ drop (length (entries w) * 4) w → (t : Bool) → a ∷ b ∷ k ∷ s ∷ w ≡ picture (E t) ++ drop (length (E t) * 4) (a ∷ b ∷ k ∷ s ∷ w)
    go h true = refl
    go h false =
        let e : suc (length (entries w)) * 4 ≡ suc (suc (suc (suc (length (entries w) * 4)))) = omega arith in
        rw e (ap (λ (x : List ℕ). a ∷ b ∷ k ∷ s ∷ x) h)

pub places : (w : List ℕ) → length (entries w) * 4 ≤ length w
places w = omega (arith, picture-length (entries w), length-append (picture (entries w)) (drop (length (entries w) * 4) w), ap length (pictured w))
