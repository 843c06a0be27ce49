use mathlib.Core.Path.{◌≡◌, refl, sym, ap, ◌∙◌}
use mathlib.Core.List.{List}
use Prim.Native.Nat.{ℕ, ◌+◌, ◌-◌, ◌/◌, ◌%◌, ◌^◌, ◌≤◌, ◌<◌}
use native.Mathlib.Nat.{mod-lt}
use native.Mathlib.Omega.{arith}
use lib.ListN.{length}
use lib.Pow.{pow_pos, shr_lt}
use Rattle.x691.specs.Bits.{bits_of}
use Rattle.x691.proofs.BitLaws.{length-bits_of}
use Rattle.per.proofs.Laws.{one_shl, one-shl_pos}
use Rattle.bit_writer.specs.Put.{set_bits}
use Rattle.bit_writer.proofs.PutLaws.{set_bits-join, set_bits-length}
use Rattle.bit_writer.proofs.Numbers.{bits_of-join}
use Rattle.bit_writer.proofs.number.put.Goals as goal

-- a turn puts the first m bits
turn : (s t : List ℕ) (p m l v : ℕ) → m ≤ l → v < 2 ^ l → t ≡ set_bits s p (bits_of m (v / 2 ^ (l - m))) → set_bits s p (bits_of l v) ≡ set_bits t (p + m) (bits_of (l - m) (v % 2 ^ (l - m)))
turn s t p m l v h u e =
    let k : l ≡ m + (l - m) = omega arith in
    ap (λ (n : ℕ). set_bits s p (bits_of n v)) k
    ∙ ap (set_bits s p) (bits_of-join m (l - m) v (rw (← k) u))
    ∙ set_bits-join s p (bits_of m (v / 2 ^ (l - m))) (bits_of (l - m) (v % 2 ^ (l - m)))
    ∙ rw (length-bits_of m (v / 2 ^ (l - m)), e)

done : (s : List ℕ) (p l v : ℕ) → l ≡ 0 → set_bits s p (bits_of l v) ≡ s
unfolding set_bits bits_of
done s p l v h = rw h

pub loop-left-init : goal.loop-left-init
loop-left-init c = (refl, c.requires.1, refl, c.requires.0, refl)

pub in_first-m-requires : goal.in_first-m-requires
in_first-m-requires c = tt

pub overflow_sub-left : goal.overflow_sub-left
overflow_sub-left c = omega arith

pub overflow_shr-rest : goal.overflow_shr-rest
overflow_shr-rest c = omega arith

pub put_in_one-requires : goal.put_in_one-requires
put_in_one-requires c =
    let z = c.loop-left in
    let m = c.in_first-m.result in
    let e : m + (z.left - m) ≡ z.left = omega arith in
    (omega arith, shr_lt m (z.left - m) (rw e z.invariant.1))

pub overflow_shl-rest : goal.overflow_shl-rest
overflow_shl-rest c = omega arith

pub nonzero_rem-rest : goal.nonzero_rem-rest
nonzero_rem-rest c = one-shl_pos _ (omega arith)

pub overflow_add-place : goal.overflow_add-place
overflow_add-place c = omega arith

pub loop-left-smaller : goal.loop-left-smaller
loop-left-smaller c = omega arith

pub loop-left-preserved : goal.loop-left-preserved
loop-left-preserved c =
    let z = c.loop-left in
    let m = c.in_first-m.result in
    let e = c.put_in_one.ensures in
    rw (one_shl (z.left - m) (omega arith)) (
      z.invariant.0 ∙ turn z.out _ z.place m z.left z.rest (omega arith) z.invariant.1 e,
      mod-lt z.rest (pow_pos (z.left - m)),
      omega arith,
      omega arith,
      ap length e ∙ set_bits-length z.out z.place _ ∙ z.invariant.4,
    )

pub shape_of-out : goal.shape_of-out
shape_of-out c = c.loop-left.invariant.4

pub returns : goal.returns
returns c =
    let z = c.loop-left in
    sym (z.invariant.0 ∙ done z.out z.place z.left z.rest (omega arith))
