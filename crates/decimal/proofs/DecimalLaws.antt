-- The number that digits make, one at a time.
use mathlib.Core.Path.{◌≡◌, refl, ◌∙◌}
use mathlib.Core.Bool.{Bool, true, false, cond}
use mathlib.Core.List.{List, [], ◌∷◌}
use Prim.Native.Nat.{ℕ, ◌+◌, ◌*◌, ◌-◌, ◌^◌, ◌≤◌, ◌<◌}
use native.Mathlib.Numerals.{add-one}
use native.Mathlib.Omega.{arith}
use lib.Dec.{ltb}
use lib.ListN.{length, drop, get_or, drop_of_length-le}
use lib.Seq.{drop-cons}
use Rattle.std.specs.Prelude.{None, Some, option_and_then}
use Rattle.decimal.specs.Decimal.{onward, numeral}

-- a text that is not empty is read from its first character on
pub some-text : (text : List ℕ) → 0 < length text → numeral text ≡ onward 0 text
unfolding numeral
some-text [] p = absurd (omega arith)
some-text (c ∷ t) p = refl

pub no_text : (text : List ℕ) → length text ≡ 0 → numeral text ≡ None
unfolding numeral
no_text [] p = refl
no_text (c ∷ t) p = absurd (omega arith)

-- a digit more, and what comes
pub onward-cons : (n c : ℕ) (t : List ℕ) → onward n (c ∷ t) ≡ option_and_then (λ m. onward m t) (onward n (c ∷ []))
unfolding onward
onward-cons n c t = go (ltb c 48) (ltb c 58) (ltb (n * 10 + (c - 48)) (2 ^ 64))
  where
    m : ℕ
    m = n * 10 + (c - 48)

    go : (a b d : Bool) → cond a None (cond b (cond d (onward m t) None) None) ≡ option_and_then (λ m. onward m t) (cond a None (cond b (cond d (Some m) None) None))
    go true b d = refl
    go false false d = refl
    go false true false = refl
    go false true true = refl

module _ (text : List ℕ) (i n : ℕ) (p : i < length text) where
  turn : onward n (drop i text) ≡ option_and_then (λ m. onward m (drop (i + 1) text)) (onward n (get_or text i 0 ∷ []))
  turn = rw (drop-cons text i 0 p, add-one i) (onward-cons n (get_or text i 0) _)

  pub goes_on : {m : ℕ} → Some m ≡ onward n (get_or text i 0 ∷ []) → onward n (drop i text) ≡ onward m (drop (i + 1) text)
  goes_on e = turn ∙ rw (← e)

  pub stops : None ≡ onward n (get_or text i 0 ∷ []) → onward n (drop i text) ≡ None
  stops e = turn ∙ rw (← e)

pub all : (text : List ℕ) (i n : ℕ) → length text ≤ i → onward n (drop i text) ≡ Some n
unfolding onward
all text i n p = rw (drop_of_length-le text p)
