-- The numbers of a row.
use mathlib.Core.Path.{◌≡◌, refl, sym}
use mathlib.Core.List.{List}
use Prim.Native.Nat.{ℕ, ◌+◌, ◌-◌, ◌*◌, ◌≤◌, ◌<◌}
use native.Mathlib.Decide.{dec_le}
use native.Mathlib.Omega.{arith}
use borrow.Author.Tests.{le-leb, lt-leb}
use lib.Dec.{leb}
use lib.ListN.{length, get_or, get_or-eq_default}
use Rattle.record_grammar.specs.Rows.{row_word}

pub row_in : (N : List ℕ) (k j : ℕ) → get_or N (k * 8 + j) 0 ≡ row_word N k j
unfolding row_word
row_in N k j = refl

pub row_out : (N : List ℕ) (k j : ℕ) → length N ≤ k * 8 + j → 0 ≡ row_word N k j
unfolding row_word
row_out N k j h = sym (get_or-eq_default N 0 h)

-- a span within the longest frame
pub room : (k v s : ℕ) → s ≤ k → leb v (k - s) ≡ leb (v + s) k
room k v s h = go (dec_le (v + s) k)
  where
    go : Dec (v + s ≤ k) → leb v (k - s) ≡ leb (v + s) k
    go (yes y) = rw (le-leb (v + s) k y, le-leb v (k - s) (omega arith))
    go (no n) = let l : k < v + s = omega (arith, n) in rw (lt-leb (v + s) k l, lt-leb v (k - s) (omega arith))
