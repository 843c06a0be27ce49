-- A line in three parts: a name, a number and a length of four digits or five.
use mathlib.Core.Path.{◌≡◌, ◌∙◌}
use mathlib.Core.List.{List, ◌++◌, append_assoc}
use mathlib.Core.Option.{some}
use Prim.Native.Nat.{ℕ, ◌+◌, ◌*◌, ◌/◌, ◌-◌, ◌≤◌}
use native.Mathlib.Omega.{arith}
use lib.ListN.{length, take, drop, length-append}
use lib.Seq.{take_at, drop_at}
use borrow.Author.Tests.{le-leb}
use Rattle.book_lines.specs.Lines.{onward, entry_of, checked, parts, entry}

pub opens : (l : List ℕ) → 16 ≤ length l → length l ≤ 29 → entry l ≡ parts ((length l - 12) / 2) l
unfolding entry
opens l p q = rw (le-leb 16 (length l) p, le-leb (length l) 29 q)

-- a name of s characters, eight digits, and those of the length
module _ (s : ℕ) (a b c : List ℕ) (p : 2 ≤ s) (q : s ≤ 8) (la : length a ≡ s * 2) (lb : length b ≡ 8) (four : 4 ≤ length c) (five : length c ≤ 5) where
  chars : (length (a ++ b ++ c) - 12) / 2 ≡ s
  chars = omega (arith, length-append (a ++ b) c, length-append a b)

  pub cut : entry (a ++ b ++ c) ≡ parts s (a ++ b ++ c)
  cut = rw (opens (a ++ b ++ c) (omega (arith, length-append (a ++ b) c, length-append a b)) (omega (arith, length-append (a ++ b) c, length-append a b)), chars)

  pub first : take (s * 2) (a ++ b ++ c) ≡ a
  first = rw (append_assoc a b c) (take_at a (b ++ c) (s * 2) la)

  pub second : take 8 (drop (s * 2) (a ++ b ++ c)) ≡ b
  second = rw (append_assoc a b c, drop_at a (b ++ c) (s * 2) la) (take_at b c 8 lb)

  pub third : drop (s * 2 + 8) (a ++ b ++ c) ≡ c
  third = drop_at (a ++ b) c (s * 2 + 8) (length-append a b ∙ omega arith)

  pub read : {x k n : ℕ} → onward 0 a ≡ some x → onward 0 b ≡ some k → onward 0 c ≡ some n → entry (a ++ b ++ c) ≡ checked (entry_of s x k n)
  unfolding parts
  read {x} {k} {n} f g h =
      let f' : onward 0 (take (s * 2) (a ++ b ++ c)) ≡ some x = rw first f in
      let g' : onward 0 (take 8 (drop (s * 2) (a ++ b ++ c))) ≡ some k = rw second g in
      let h' : onward 0 (drop (s * 2 + 8) (a ++ b ++ c)) ≡ some n = rw third h in
      cut ∙ rw (f', g', h', parts)
