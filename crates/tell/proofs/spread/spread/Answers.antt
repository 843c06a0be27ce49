use mathlib.Core.Path.{◌≡◌, refl}
use Prim.Native.Nat.{ℕ, suc, ◌+◌, ◌-◌, ◌*◌, ◌/◌, ◌%◌, ◌^◌, ◌≤◌, ◌<◌}
use native.Mathlib.Nat.{zero-mul, one-mul, suc-mul, div-one, mul-le-mul}
use native.Mathlib.Omega.{arith}
use lib.Dec.{lit<, lit≤}
use lib.Pow.{pow_mono, shr-shr, shl_exact}
use Rattle.per.proofs.Laws.{one-shl_pos}
use Rattle.tell.specs.Characters.{widened}
use Rattle.tell.proofs.WideningLaws.{widened-below}
use Rattle.tell.proofs.spread.spread.Invariants.{Above}
use Rattle.tell.proofs.spread.spread.Goals as goal

module _ {v w k r : ℕ} (narrow : w ≤ 8) (some : 0 < k) (p : Above v w k r) where
  place : (k - 1) * w ≤ 56
  place = mul-le-mul {n₁ = k - 1} {m₁ = w} {n₂ = 7} {m₂ = 8} (omega arith) narrow

  next : r * 256 + v / 2 ^ ((k - 1) * w) % (1 * 2 ^ w % 2 ^ 64) ≡ widened w 8 (8 - (k - 1)) (v / 2 ^ ((k - 1) * w))
  unfolding widened
  next =
      let e : 8 - (k - 1) ≡ suc (8 - k) = omega arith in
      let f : suc (k - 1) ≡ k = omega arith in
      rw (e, p.sum, shl_exact {a = 1} 1 w 64 (lit< tt) (omega arith), one-mul, shr-shr v ((k - 1) * w) w, ← suc-mul (k - 1) w, f)

  next_fits : r * 256 + v / 2 ^ ((k - 1) * w) % (1 * 2 ^ w % 2 ^ 64) < 2 ^ 64
  next_fits = omega (arith, next, widened-below w 8 (8 - (k - 1)) (v / 2 ^ ((k - 1) * w)) narrow, pow_mono {i = 8 * (8 - (k - 1))} {j = 64} (omega arith))

pub loop-k-init : goal.loop-k-init
unfolding widened
loop-k-init c = record { few = lit≤ tt; sum = refl }

pub overflow_mul-r : goal.overflow_mul-r
overflow_mul-r c = omega (arith, next_fits c.requires.0 c.loop-k-test.true c.loop-k.invariant)

pub overflow_mul-r-in-loop-k : goal.overflow_mul-r-in-loop-k
overflow_mul-r-in-loop-k c = omega (arith, place c.requires.0 c.loop-k-test.true c.loop-k.invariant)

pub overflow_shr-r : goal.overflow_shr-r
overflow_shr-r c = omega (arith, place c.requires.0 c.loop-k-test.true c.loop-k.invariant)

pub overflow_shl-r : goal.overflow_shl-r
overflow_shl-r c = omega (arith, c.requires.0)

pub nonzero_rem-r : goal.nonzero_rem-r
nonzero_rem-r c = one-shl_pos c.args.width (omega (arith, c.requires.0))

pub overflow_add-r : goal.overflow_add-r
overflow_add-r c = omega (arith, next_fits c.requires.0 c.loop-k-test.true c.loop-k.invariant)

pub loop-k-preserved : goal.loop-k-preserved
loop-k-preserved c =
    record {
      few = omega (arith, c.loop-k.invariant.few);
      sum = next c.requires.0 c.loop-k-test.true c.loop-k.invariant;
    }

pub returns : goal.returns
returns c =
    let e : c.loop-k.k ≡ 0 = omega (arith, c.loop-k-test.false) in
    rw (e, zero-mul c.args.width, div-one c.args.v) at c.loop-k.invariant.sum
