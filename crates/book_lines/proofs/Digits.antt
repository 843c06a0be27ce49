-- Digits that were written are read as the number they show.
use mathlib.Core.Path.{◌≡◌, refl, ◌∙◌}
use mathlib.Core.Bool.{Bool, true, false, cond}
use mathlib.Core.List.{List, [], ◌∷◌, ◌++◌, append_assoc, append-nil}
use mathlib.Core.Option.{none, some}
use Prim.Native.Nat.{ℕ, zero, suc, ◌+◌, ◌*◌, ◌/◌, ◌%◌, ◌^◌, ◌≤◌, ◌<◌}
use native.Mathlib.Nat.{pow-suc}
use native.Mathlib.Decide.{dec_le}
use native.Mathlib.Omega.{arith}
use native.Mathlib.Numerals.{add-one}
use lib.Pow.{pow-add}
use lib.Dec.{ltb}
use lib.Seq.{append_snoc}
use borrow.Author.Tests.{lt-ltb, le-ltb, ne_eqb}
use Rattle.book_lines.specs.Lines.{digit, digits, value, onward, lines}

-- the two forms of a digit's character
by-digit : (P : ℕ → Type 0) (d : ℕ) → (d < 10 → P (d + 48)) → (10 ≤ d → P (d + 55)) → P (digit d)
by-digit P d f g = go (dec_le 10 d)
  where
    go : Dec (10 ≤ d) → P (digit d)
    go (yes h) = rw (le-ltb d 10 h) (g h)
    go (no h) = let l : d < 10 = omega arith in rw (lt-ltb d 10 l) (f l)

pub value-digit : (d : ℕ) → d < 16 → value (digit d) ≡ d
value-digit d p =
    by-digit (λ c. value c ≡ d) d
    (λ h. rw (le-ltb (d + 48) 48 (omega arith), lt-ltb (d + 48) 58 (omega arith)) (omega arith))
    (λ h. rw (le-ltb (d + 55) 48 (omega arith), le-ltb (d + 55) 58 (omega arith), le-ltb (d + 55) 65 (omega arith), lt-ltb (d + 55) 71 (omega arith)) (omega arith))

no_feed : (d : ℕ) → digit d ≡ 10 → ⊥
no_feed d = by-digit (λ c. c ≡ 10 → ⊥) d (λ h e. omega arith) (λ h e. omega arith)

-- a text read as far as y goes on from there
onward-append : (x : ℕ) (t u : List ℕ) {y : ℕ} → onward x t ≡ some y → onward x (t ++ u) ≡ onward y u
unfolding onward
onward-append x [] u {y} e = let h : x ≡ y = cc in rw h
onward-append x (c ∷ t) u {y} e = go (ltb (value c) 16) (λ h. onward-append (x * 16 + value c) t u h) e
  where
    go : (b : Bool) → (onward (x * 16 + value c) t ≡ some y → onward (x * 16 + value c) (t ++ u) ≡ onward y u) → cond b (onward (x * 16 + value c) t) none ≡ some y → cond b (onward (x * 16 + value c) (t ++ u)) none ≡ onward y u
    go true f h = f h
    go false f h = absurd (let z : ◌≡◌ {A = ℕ} 0 1 = cc in omega arith)

pub read-digits : (n x : ℕ) → x < 16 ^ n → onward 0 (digits n x) ≡ some x
unfolding digits onward
read-digits zero x p = let e : x ≡ 0 = omega arith in rw e
read-digits (suc n) x p =
    let h : x / 16 < 16 ^ n = omega (arith, pow-suc 16 n) in
    let d : value (digit (x % 16)) ≡ x % 16 = value-digit (x % 16) (omega arith) in
    let l : x % 16 < 16 = omega arith in
    let e : x / 16 * 16 + x % 16 ≡ x = omega arith in
    onward-append 0 (digits n (x / 16)) (digit (x % 16) ∷ []) (read-digits n (x / 16) h) ∙ rw (d, lt-ltb (x % 16) 16 l, e)

-- a line goes on with digits
pub lines-digits : (n x : ℕ) (l t : List ℕ) → lines l (digits n x ++ t) ≡ lines (l ++ digits n x) t
unfolding digits lines
lines-digits zero x l t = simp append-nil
lines-digits (suc n) x l t =
    let d = digit (x % 16) in
    rw (append_snoc (digits n (x / 16)) d t, lines-digits n (x / 16) l (d ∷ t), ne_eqb d 10 (no_feed (x % 16)), append_assoc l (digits n (x / 16)) (d ∷ []))

-- the number grows by a digit
pub grows : (i x d : ℕ) → x < 16 ^ i → d < 16 → x * 16 + d < 16 ^ (i + 1)
grows i x d p q = rw (add-one i, pow-suc 16 i) (omega arith)

-- digits two to a character
pub two_digits_lem : (s : ℕ) → 16 ^ (s * 2) ≡ 256 ^ s
two_digits_lem zero = refl
two_digits_lem (suc s) =
    let e : suc s * 2 ≡ s * 2 + 2 = omega arith in
    rw (e, pow-add 16 (s * 2) 2, two_digits_lem s, pow-suc 256 s)
