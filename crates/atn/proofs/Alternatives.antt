-- The alternatives of a choice, where they stand one after another in a table of nodes.
use mathlib.Core.Path.{◌≡◌, refl, ap}
use Prim.Native.Nat.{ℕ, zero, suc}
use Rattle.x691.specs.Encoding.{count}
use Rattle.atn.specs.Format.{Fmt, alternatives_of}
use Rattle.atn.specs.Alternatives.{alternatives_from}

pub count-from : (F : ℕ → Fmt) (k n : ℕ) → count (alternatives_of (alternatives_from F k n)) ≡ n
unfolding alternatives_from count
count-from F k zero = refl
count-from F k (suc n) = ap suc (count-from F (suc k) n)
