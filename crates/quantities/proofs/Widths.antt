-- The width of an index does not hang on the alternatives' tags.
use mathlib.Core.Path.{◌≡◌, refl, ap}
use Prim.Native.Nat.{ℕ, zero, suc}
use Rattle.x691.specs.Encoding.{width, highest, count}
use Rattle.atn.specs.Format.{none_left, alternatives_of}
use Rattle.ranged_numbers.specs.Numbers.{rows_then}
use Rattle.quantities.specs.Readers.{index_width}

same_count : (t u k n : ℕ) → count (alternatives_of (rows_then t k n none_left)) ≡ count (alternatives_of (rows_then u k n none_left))
unfolding count
same_count t u k zero = refl
same_count t u k (suc n) = ap suc (same_count t u (suc k) n)

pub index-width : (t k n : ℕ) → index_width k n ≡ width (highest (alternatives_of (rows_then t k n none_left)))
unfolding index_width highest
index-width t k n = rw (same_count 0 t k n)
