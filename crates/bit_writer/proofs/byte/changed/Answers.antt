-- `bit_writer::byte::changed` meets its contract: no shift loses a bit.
use mathlib.Core.Path.{◌≡◌}
use Prim.Native.Nat.{ℕ, ◌+◌, ◌*◌, ◌/◌, ◌%◌, ◌^◌, ◌≤◌, ◌<◌}
use native.Mathlib.Nat.{mod-eq_of_lt}
use native.Mathlib.Omega.{arith}
use lib.Pow.{shl_exact, split}
use Rattle.per.proofs.Laws.{one_shl, one-shl_pos}
use Rattle.bit_writer.proofs.Fields.{replaced, replaced-lt}
use Rattle.bit_writer.proofs.byte.changed.Goals as goal

-- what the machine adds up
sum : (v low m x : ℕ) → v < 2 ^ 8 → low + m ≤ 8 → x < 2 ^ m
    → (v / 2 ^ (low + m) * 2 ^ (low + m) % 2 ^ 64 + x * 2 ^ low % 2 ^ 64 + v % (1 * 2 ^ low % 2 ^ 64) ≡ replaced v low m x) × (replaced v low m x < 2 ^ 8)
unfolding replaced
sum v low m x h k l =
    let a : v / 2 ^ (low + m) * 2 ^ (low + m) < 2 ^ 64 = omega (arith, split v (low + m)) in
    (rw (mod-eq_of_lt a, shl_exact m low 64 l (omega arith), one_shl low (omega arith)), replaced-lt 8 v low m x k h l)

sum_at : (c : goal.Start) → let a = c.args in
    (a.v / 2 ^ (a.low + a.m) * 2 ^ (a.low + a.m) % 2 ^ 64 + a.x * 2 ^ a.low % 2 ^ 64 + a.v % (1 * 2 ^ a.low % 2 ^ 64) ≡ replaced a.v a.low a.m a.x) × (replaced a.v a.low a.m a.x < 2 ^ 8)
sum_at c = let a = c.args in sum a.v a.low a.m a.x (omega arith) c.requires.0 c.requires.1

pub overflow_add-result : goal.overflow_add-result
overflow_add-result c = omega (arith, sum_at c)

pub nonzero_rem-result : goal.nonzero_rem-result
nonzero_rem-result c = one-shl_pos c.args.low (omega arith)

pub overflow_add-result-2 : goal.overflow_add-result-2
overflow_add-result-2 c = omega (arith, sum_at c)

pub overflow_cast-result : goal.overflow_cast-result
overflow_cast-result c = omega (arith, sum_at c)

pub returns : goal.returns
unfolding replaced
returns c = (sum_at c).0
