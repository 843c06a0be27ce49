-- Digits read one by one, and the parts of a line.
use mathlib.Core.Path.{◌≡◌, refl, sym, ◌∙◌}
use mathlib.Core.Bool.{Bool, true, false, cond}
use mathlib.Core.List.{List}
use mathlib.Core.Option.{none, some}
use Prim.Native.Nat.{ℕ, ◌+◌, ◌*◌, ◌/◌, ◌-◌, ◌^◌, ◌≤◌, ◌<◌}
use native.Mathlib.Nat.{pow-le-pow_right, one-le-pow, mul-lt-mul_of_pos_right}
use native.Mathlib.Numerals.{add-one}
use native.Mathlib.Omega.{arith}
use lib.Pow.{pow-add}
use lib.Dec.{lit≤, ltb}
use Rattle.std.specs.Prelude.{Some, None}
use lib.ListN.{length, take, drop, get_or, drop_of_length-le, length-drop}
use lib.Seq.{drop-cons, length-take-le, take_all}
use borrow.Author.Tests.{lt-ltb, le-ltb, le-leb, lt-leb, ltb-true, ltb-false}
use Rattle.book_entries.specs.declared.Entry.{Entry}
use Rattle.book_entries.specs.Entries.{good}
use Rattle.book_lines.specs.Lines.{value, onward, entry_of, checked, parts, entry}
use Rattle.book_lines.proofs.Digits.{grows}
use Rattle.book_lines.proofs.Parts.{opens}

module _ (t : List ℕ) (i x : ℕ) (p : i < length t) where
  pub turn : {d : ℕ} → d ≡ value (get_or t i 0) → d < 16 → onward x (drop i t) ≡ onward (x * 16 + d) (drop (i + 1) t)
  unfolding onward
  turn e l = rw (drop-cons t i 0 p, add-one i, ← e, lt-ltb _ 16 l)

  pub no_digit : {d : ℕ} → d ≡ value (get_or t i 0) → 16 ≤ d → onward x (drop i t) ≡ none
  unfolding onward
  no_digit e l = rw (drop-cons t i 0 p, ← e, le-ltb _ 16 l)

pub all : (t : List ℕ) (i x : ℕ) → length t ≤ i → onward x (drop i t) ≡ some x
unfolding onward
all t i x p = rw (drop_of_length-le t p)

-- a number of at most sixteen digits
pub in-word : (i x d : ℕ) → x < 16 ^ i → d < 16 → i < 16 → x * 16 + d < 2 ^ 64
in-word i x d p q l =
    let k : i + 1 ≤ 16 = omega arith in
    omega (arith, grows i x d p q, pow-le-pow_right {n = 16} (lit≤ tt) k)

-- at most five digits
pub in_five : (n x : ℕ) → n ≤ 5 → x < 16 ^ n → x < 1048576
in_five n x p q = omega (arith, pow-le-pow_right {n = 16} (lit≤ tt) p)

-- a name of s characters, moved up to the first one's place
pub moved_up : (s x : ℕ) → s ≤ 8 → x < 256 ^ s → x * 256 ^ (8 - s) < 2 ^ 64
moved_up s x p q =
    let e : s + (8 - s) ≡ 8 = omega arith in
    let z : 0 < 256 ^ (8 - s) = one-le-pow (8 - s) 256 (lit≤ tt) in
    let f : 256 ^ s * 256 ^ (8 - s) ≡ 2 ^ 64 = sym (pow-add 256 s (8 - s)) ∙ rw e in
    rw (← f) (mul-lt-mul_of_pos_right q z)

pub checked-bad : (e : Entry) → good e ≡ false → checked e ≡ none
unfolding checked
checked-bad e g = rw g

pub checked-good : (e : Entry) → good e ≡ true → checked e ≡ some e
unfolding checked
checked-good e g = rw g

-- a line of another length than a line can have
pub short : (l : List ℕ) → length l < 16 → entry l ≡ none
unfolding entry
short l p = rw (lt-leb 16 (length l) p)

pub long : (l : List ℕ) → 16 ≤ length l → 29 < length l → entry l ≡ none
unfolding entry
long l p q = rw (le-leb 16 (length l) p, lt-leb (length l) 29 q)

-- a name of s characters, eight digits, and four or five
module _ (l : List ℕ) (p : 16 ≤ length l) (q : length l ≤ 29) where
  abbrev pub chars : ℕ
  chars = (length l - 12) / 2

  pub name-length : length (take (chars * 2) l) ≡ chars * 2
  name-length = length-take-le (chars * 2) l (omega arith)

  pub number-length : length (take (chars * 2 + 8 - chars * 2) (drop (chars * 2) l)) ≡ 8
  number-length = length-take-le (chars * 2 + 8 - chars * 2) (drop (chars * 2) l) (omega (arith, length-drop (chars * 2) l)) ∙ omega arith

  pub bytes-length : length (take (length l - (chars * 2 + 8)) (drop (chars * 2 + 8) l)) ≤ 5
  bytes-length = omega (arith, length-take-le (length l - (chars * 2 + 8)) (drop (chars * 2 + 8) l) (omega (arith, length-drop (chars * 2 + 8) l)))

  eight : take (chars * 2 + 8 - chars * 2) (drop (chars * 2) l) ≡ take 8 (drop (chars * 2) l)
  eight = let e : chars * 2 + 8 - chars * 2 ≡ 8 = omega arith in rw e

  others : take (length l - (chars * 2 + 8)) (drop (chars * 2 + 8) l) ≡ drop (chars * 2 + 8) l
  others = take_all (length l - (chars * 2 + 8)) (drop (chars * 2 + 8) l) (omega (arith, length-drop (chars * 2 + 8) l))

  pub bad-name : onward 0 (take (chars * 2) l) ≡ none → entry l ≡ none
  unfolding parts
  bad-name e = opens l p q ∙ rw (e, parts)

  module _ {x : ℕ} (e : onward 0 (take (chars * 2) l) ≡ some x) where
    pub bad-number : onward 0 (take (chars * 2 + 8 - chars * 2) (drop (chars * 2) l)) ≡ none → entry l ≡ none
    unfolding parts
    bad-number f = opens l p q ∙ rw (e, rw eight at f, parts)

    module _ {k : ℕ} (f : onward 0 (take (chars * 2 + 8 - chars * 2) (drop (chars * 2) l)) ≡ some k) where
      pub bad-bytes : onward 0 (take (length l - (chars * 2 + 8)) (drop (chars * 2 + 8) l)) ≡ none → entry l ≡ none
      unfolding parts
      bad-bytes g = opens l p q ∙ rw (e, rw eight at f, rw others at g, parts)

      pub whole : {b : ℕ} → onward 0 (take (length l - (chars * 2 + 8)) (drop (chars * 2 + 8) l)) ≡ some b → entry l ≡ checked (entry_of chars x k b)
      unfolding parts
      whole g = opens l p q ∙ rw (e, rw eight at f, rw others at g, parts)

-- what a character was read as
module _ {v : ℕ} where
  pub read : {d : ℕ} → Some d ≡ cond (ltb v 16) (Some v) None → (d ≡ v) × (d < 16)
  read {d} e = go (ltb v 16) refl e
    where
      go : (b : Bool) → ltb v 16 ≡ b → Some d ≡ cond b (Some v) None → (d ≡ v) × (d < 16)
      go true h f = let is : d ≡ v = cc in (is, omega (arith, is, ltb-true v 16 h))
      go false h f = absurd (let z : ◌≡◌ {A = ℕ} 0 1 = cc in omega arith)

  pub unread : None ≡ cond (ltb v 16) (Some v) None → 16 ≤ v
  unread e = go (ltb v 16) refl e
    where
      go : (b : Bool) → ltb v 16 ≡ b → None ≡ cond b (Some v) None → 16 ≤ v
      go true h f = absurd (let z : ◌≡◌ {A = ℕ} 0 1 = cc in omega arith)
      go false h f = ltb-false v 16 h
