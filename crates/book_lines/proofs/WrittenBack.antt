-- "four-digit lines .. are written back with five": a line that is read is written back as it was, its length in five digits.
use mathlib.Core.Path.{◌≡◌, refl, sym, ◌∙◌}
use mathlib.Core.Bool.{Bool, true, false, cond}
use mathlib.Core.List.{List, [], ◌∷◌, ◌++◌, append-nil}
use mathlib.Core.Option.{Option, none, some}
use Prim.Native.Nat.{ℕ, suc, ◌+◌, ◌*◌, ◌/◌, ◌%◌, ◌-◌, ◌^◌, ◌≤◌, ◌<◌}
use native.Mathlib.Nat.{one-le-pow, mul-div_cancel}
use native.Mathlib.Omega.{arith}
use lib.Dec.{ltb, lit≤}
use lib.ListN.{length}
use lib.Seq.{append_snoc}
use borrow.Author.Tests.{lt-ltb, le-ltb, ltb-true, ltb-false}
use Rattle.book_entries.specs.declared.Entry.{Entry}
use Rattle.book_entries.specs.Entries.{text, size, bytes, good}
use Rattle.book_lines.specs.Lines.{digit, digits, value, onward, line, entry_of, checked, entry}
use Rattle.book_lines.proofs.Digits.{grows}
use Rattle.book_lines.proofs.FourDigits.{joined, as_joined, same-entry}

-- each digit has one character
digit_value : (c : ℕ) → value c < 16 → digit (value c) ≡ c
digit_value c p = go (ltb c 48) (ltb c 58) (ltb c 65) (ltb c 71) refl refl refl refl p
  where
    go : (s t u v : Bool) → ltb c 48 ≡ s → ltb c 58 ≡ t → ltb c 65 ≡ u → ltb c 71 ≡ v → cond s 16 (cond t (c - 48) (cond u 16 (cond v (c - 55) 16))) < 16 → digit (cond s 16 (cond t (c - 48) (cond u 16 (cond v (c - 55) 16)))) ≡ c
    go true t u v i j k l q = absurd (omega arith)
    go false true u v i j k l q = rw (lt-ltb (c - 48) 10 (omega (arith, ltb-true c 58 j))) (omega (arith, ltb-false c 48 i))
    go false false true v i j k l q = absurd (omega arith)
    go false false false true i j k l q = rw (le-ltb (c - 55) 10 (omega (arith, ltb-false c 65 k))) (omega (arith, ltb-false c 65 k))
    go false false false false i j k l q = absurd (omega arith)

-- one digit more was read
more : (x c : ℕ) (t : List ℕ) {y : ℕ} → onward x (c ∷ t) ≡ some y → (value c < 16) × (onward (x * 16 + value c) t ≡ some y)
unfolding onward
more x c t {y} e = go (ltb (value c) 16) refl e
  where
    go : (b : Bool) → ltb (value c) 16 ≡ b → cond b (onward (x * 16 + value c) t) none ≡ some y → (value c < 16) × (onward (x * 16 + value c) t ≡ some y)
    go true l h = (ltb-true (value c) 16 l, h)
    go false l h = absurd (let z : ◌≡◌ {A = ℕ} 0 1 = cc in omega arith)

-- a text is the digits of its number, behind those of the number it started from
digits_back : (k x : ℕ) (t : List ℕ) {y : ℕ} → onward x t ≡ some y → digits (k + length t) y ≡ digits k x ++ t
unfolding onward digits
digits_back k x [] {y} e =
    let h : x ≡ y = cc in
    let z : k + 0 ≡ k = omega arith in
    rw (h, z, append-nil)
digits_back k x (c ∷ t) {y} e =
    let m = more x c t e in
    let i : k + suc (length t) ≡ suc k + length t = omega arith in
    let d : (x * 16 + value c) / 16 ≡ x = omega (arith, m.0) in
    let r : (x * 16 + value c) % 16 ≡ value c = omega (arith, m.0) in
    rw i (digits_back (suc k) (x * 16 + value c) t m.1 ∙ rw (d, r, digit_value c m.0, append_snoc (digits k x) c t))

-- so many digits are a number of so many digits
small : (i x : ℕ) (t : List ℕ) {y : ℕ} → x < 16 ^ i → onward x t ≡ some y → y < 16 ^ (i + length t)
unfolding onward
small i x [] {y} p e =
    let h : x ≡ y = cc in
    let z : i + 0 ≡ i = omega arith in
    rw (← h, z) p
small i x (c ∷ t) p e =
    let m = more x c t e in
    let j : i + suc (length t) ≡ i + 1 + length t = omega arith in
    rw j (small (i + 1) (x * 16 + value c) t (grows i x (value c) p m.0) m.1)

-- a text of n digits is the digits of its number, which has no more
module _ (n : ℕ) (t : List ℕ) {y : ℕ} (l : length t ≡ n) (e : onward 0 t ≡ some y) where
  all_digits_lem : n ≡ 0 + length t
  all_digits_lem = omega arith

  text-digits : digits n y ≡ t
  unfolding digits
  text-digits = rw all_digits_lem (digits_back 0 0 t e)

  text-small : y < 16 ^ n
  text-small = rw all_digits_lem (small 0 0 t (lit≤ tt) e)

-- the three numbers of a line that is good
record Read (s : ℕ) (o p q : Option ℕ) (e : Entry) : Type 0 where
  name : ℕ
  number : ℕ
  length : ℕ
  has-name : o ≡ some name
  has-number : p ≡ some number
  has-length : q ≡ some length
  is : e ≡ entry_of s name number length

read : (s : ℕ) (o p q : Option ℕ) {e : Entry} → joined s o p q ≡ some e → Read s o p q e
unfolding joined checked
read s none p q h = absurd (let z : ◌≡◌ {A = ℕ} 0 1 = cc in omega arith)
read s (some x) none q h = absurd (let z : ◌≡◌ {A = ℕ} 0 1 = cc in omega arith)
read s (some x) (some k) none h = absurd (let z : ◌≡◌ {A = ℕ} 0 1 = cc in omega arith)
read s (some x) (some k) (some n) {e} h = go (good (entry_of s x k n)) h
  where
    go : (b : Bool) → cond b (some (entry_of s x k n)) none ≡ some e → Read s (some x) (some k) (some n) e
    go true g = record { name = x; number = k; length = n; has-name = refl; has-number = refl; has-length = refl; is = cc }
    go false g = absurd (let z : ◌≡◌ {A = ℕ} 0 1 = cc in omega arith)

-- a line by its numbers
numbers-line : (s x k n : ℕ) → n < 1048576 → line (entry_of s x k n) ≡ digits (s * 2) x ++ digits 8 k ++ digits 5 n ++ 10 ∷ []
unfolding line
numbers-line s x k n p =
    let u = x * 256 ^ (8 - s) in
    let z : size (entry_of s x k n) ≡ s = omega arith in
    let b : bytes (entry_of s x k n) ≡ n = omega arith in
    let t : text (entry_of s x k n) ≡ u = omega arith in
    rw (z, b, t, mul-div_cancel x (one-le-pow (8 - s) 256 (lit≤ tt)))

module _ (s : ℕ) (a b : List ℕ) (p : 2 ≤ s) (q : s ≤ 8) (la : length a ≡ s * 2) (lb : length b ≡ 8) where
  pub as_it_was : (c : List ℕ) {e : Entry} → length c ≡ 5 → entry (a ++ b ++ c) ≡ some e → line e ≡ a ++ b ++ c ++ 10 ∷ []
  as_it_was c lc h =
      let r = read s (onward 0 a) (onward 0 b) (onward 0 c) (sym (as_joined s a b p q la lb c (omega arith) (omega arith)) ∙ h) in
      let x : digits (s * 2) r.name ≡ a = text-digits (s * 2) a la r.has-name in
      let k : digits 8 r.number ≡ b = text-digits 8 b lb r.has-number in
      let n : digits 5 r.length ≡ c = text-digits 5 c lc r.has-length in
      let f : r.length < 1048576 = text-small 5 c lc r.has-length in
      rw (r.is, numbers-line s r.name r.number r.length f, x, k, n)

  -- four digits are written back with five
  pub with_five : (c : List ℕ) {e : Entry} → length c ≡ 4 → entry (a ++ b ++ c) ≡ some e → line e ≡ a ++ b ++ 48 ∷ c ++ 10 ∷ []
  with_five c lc h = as_it_was (48 ∷ c) (omega arith) (sym (same-entry s a b p q la lb c lc) ∙ h)
