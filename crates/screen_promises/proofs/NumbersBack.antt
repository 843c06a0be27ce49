-- A number on the screen is read as the number it shows, by the definition that the programs read decimals by.
use mathlib.Core.Path.{◌≡◌, refl, ◌∙◌}
use mathlib.Core.Bool.{Bool, true, false, cond}
use mathlib.Core.List.{List, [], ◌∷◌, ◌++◌}
use Prim.Native.Nat.{ℕ, zero, suc, ◌+◌, ◌*◌, ◌/◌, ◌%◌, ◌-◌, ◌^◌, ◌≤◌, ◌<◌}
use native.Mathlib.Nat.{pow-suc}
use native.Mathlib.Decide.{dec_le}
use native.Mathlib.Omega.{arith}
use lib.Dec.{ltb, eqb}
use lib.ListN.{length, length-append}
use borrow.Author.Tests.{lt-ltb, le-ltb, ne_eqb}
use Rattle.std.specs.Prelude.{None, Some}
use Rattle.decimal.specs.Decimal.{onward, numeral}
use Rattle.decimal.proofs.DecimalLaws.{some-text}
use Rattle.screen_numbers.specs.Numbers.{digit, digits, decimal, hundredths, thousandths}
use Rattle.screen_promises.specs.Unpointed.{point, unpointed}

-- a text that is read as far as y goes on from there
onward-append : (n : ℕ) (t u : List ℕ) {y : ℕ} → onward n t ≡ Some y → onward n (t ++ u) ≡ onward y u
unfolding onward
onward-append n [] u {y} e = let h : n ≡ y = cc in rw h
onward-append n (c ∷ t) u {y} e = go (ltb c 48) (ltb c 58) (ltb (n * 10 + (c - 48)) (2 ^ 64)) (λ h. onward-append (n * 10 + (c - 48)) t u h) e
  where
    go : (a b d : Bool) → (onward (n * 10 + (c - 48)) t ≡ Some y → onward (n * 10 + (c - 48)) (t ++ u) ≡ onward y u)
        → cond a None (cond b (cond d (onward (n * 10 + (c - 48)) t) None) None) ≡ Some y → cond a None (cond b (cond d (onward (n * 10 + (c - 48)) (t ++ u)) None) None) ≡ onward y u
    go true b d f h = absurd (let z : ◌≡◌ {A = ℕ} 0 1 = cc in omega arith)
    go false false d f h = absurd (let z : ◌≡◌ {A = ℕ} 0 1 = cc in omega arith)
    go false true false f h = absurd (let z : ◌≡◌ {A = ℕ} 0 1 = cc in omega arith)
    go false true true f h = f h

-- one digit more
one_more : (y x : ℕ) (t : List ℕ) → y * 10 + x % 10 < 2 ^ 64 → onward y (digit x ∷ t) ≡ onward (y * 10 + x % 10) t
unfolding onward digit
one_more y x t h =
    let e : 48 + x % 10 - 48 ≡ x % 10 = omega arith in
    rw (le-ltb (48 + x % 10) 48 (omega arith), lt-ltb (48 + x % 10) 58 (omega arith), e, lt-ltb (y * 10 + x % 10) (2 ^ 64) h)

digits_back : (k x : ℕ) → x < 10 ^ k → x < 2 ^ 64 → onward 0 (digits k x) ≡ Some x
unfolding digits onward
digits_back zero x p q = let e : x ≡ 0 = omega arith in rw e
digits_back (suc k) x p q = go (dec_le 10 x) (digits_back k (x / 10) (omega (arith, pow-suc 10 k)) (omega arith))
  where
    go : Dec (10 ≤ x) → onward 0 (digits k (x / 10)) ≡ Some (x / 10) → onward 0 (digits (suc k) x) ≡ Some x
    go (yes h) r =
        let e : x / 10 * 10 + x % 10 ≡ x = omega arith in
        let f : x / 10 * 10 + x % 10 < 2 ^ 64 = omega arith in
        rw (le-ltb x 10 h) (onward-append 0 (digits k (x / 10)) (digit x ∷ []) r ∙ one_more (x / 10) x [] f ∙ rw e)
    go (no h) r =
        let l : x < 10 = omega arith in
        let e : 0 * 10 + x % 10 ≡ x = omega arith in
        rw (lt-ltb x 10 l) (one_more 0 x [] (omega arith) ∙ rw e)

some-digit : (k x : ℕ) → 0 < length (digits (suc k) x)
unfolding digits
some-digit k x = go (ltb x 10)
  where
    go : (b : Bool) → 0 < length (cond b (digit x ∷ []) (digits k (x / 10) ++ digit x ∷ []))
    go true = omega arith
    go false = omega (arith, length-append (digits k (x / 10)) (digit x ∷ []))

-- every number of 64 bits
pub decimal_back : (x : ℕ) → x < 2 ^ 64 → numeral (decimal x) ≡ Some x
unfolding decimal
decimal_back x h = some-text (digits 20 x) (some-digit 19 x) ∙ digits_back 20 x (omega arith) h

-- digits have no point
unpointed-digit : (x : ℕ) (t : List ℕ) → unpointed (digit x ∷ t) ≡ digit x ∷ unpointed t
unfolding unpointed digit
unpointed-digit x t = rw (ne_eqb (48 + x % 10) point (λ e. omega arith))

unpointed-append : (s t : List ℕ) → unpointed (s ++ t) ≡ unpointed s ++ unpointed t
unfolding unpointed
unpointed-append [] t = refl
unpointed-append (c ∷ s) t = go (eqb c point) (unpointed-append s t)
  where
    go : (b : Bool) → unpointed (s ++ t) ≡ unpointed s ++ unpointed t → cond b (unpointed (s ++ t)) (c ∷ unpointed (s ++ t)) ≡ cond b (unpointed s) (c ∷ unpointed s) ++ unpointed t
    go true e = e
    go false e = rw e

unpointed-digits : (k x : ℕ) → unpointed (digits k x) ≡ digits k x
unfolding digits unpointed
unpointed-digits zero x = refl
unpointed-digits (suc k) x = go (ltb x 10) (unpointed-digits k (x / 10))
  where
    go : (b : Bool) → unpointed (digits k (x / 10)) ≡ digits k (x / 10) → unpointed (cond b (digit x ∷ []) (digits k (x / 10) ++ digit x ∷ [])) ≡ cond b (digit x ∷ []) (digits k (x / 10) ++ digit x ∷ [])
    go true e = unpointed-digit x []
    go false e = unpointed-append (digits k (x / 10)) (digit x ∷ []) ∙ rw (e, unpointed-digit x [])

no_point : (t : List ℕ) → unpointed (46 ∷ t) ≡ unpointed t
unfolding unpointed
no_point t = refl

end : unpointed [] ≡ []
unfolding unpointed
end = refl

-- digits behind a whole number
behind : (x : ℕ) (t : List ℕ) → x < 2 ^ 64 → numeral (unpointed (decimal x ++ t)) ≡ onward x (unpointed t)
unfolding decimal
behind x t h =
    rw (unpointed-append (digits 20 x) t, unpointed-digits 20 x)
    (some-text (digits 20 x ++ unpointed t) (omega (arith, some-digit 19 x, length-append (digits 20 x) (unpointed t)))
    ∙ onward-append 0 (digits 20 x) (unpointed t) (digits_back 20 x (omega arith) h))

read : (x : ℕ) → onward x [] ≡ Some x
unfolding onward
read x = refl

-- with the point left out, hundredths and thousandths are read as the whole number that they were made from
module _ (x : ℕ) (h : x < 2 ^ 64) where
  last : x / 10 * 10 + x % 10 ≡ x
  last = omega arith

  second : x / 100 * 10 + x / 10 % 10 ≡ x / 10
  second = omega arith

  third : x / 1000 * 10 + x / 100 % 10 ≡ x / 100
  third = omega arith

  two : onward (x / 100) (digit (x / 10) ∷ digit x ∷ []) ≡ Some x
  two = one_more (x / 100) (x / 10) (digit x ∷ []) (omega arith) ∙ rw second (one_more (x / 10) x [] (omega arith) ∙ rw last (read x))

  pub hundredths_back : numeral (unpointed (hundredths x)) ≡ Some x
  unfolding hundredths
  hundredths_back =
      behind (x / 100) (46 ∷ digit (x / 10) ∷ digit x ∷ []) (omega arith)
      ∙ rw (no_point (digit (x / 10) ∷ digit x ∷ []), unpointed-digit (x / 10) (digit x ∷ []), unpointed-digit x [], end) two

  pub thousandths_back : numeral (unpointed (thousandths x)) ≡ Some x
  unfolding thousandths
  thousandths_back =
      behind (x / 1000) (46 ∷ digit (x / 100) ∷ digit (x / 10) ∷ digit x ∷ []) (omega arith)
      ∙ rw (no_point (digit (x / 100) ∷ digit (x / 10) ∷ digit x ∷ []), unpointed-digit (x / 100) (digit (x / 10) ∷ digit x ∷ []), unpointed-digit (x / 10) (digit x ∷ []), unpointed-digit x [], end)
      (one_more (x / 1000) (x / 100) (digit (x / 10) ∷ digit x ∷ []) (omega arith) ∙ rw third two)
