-- `rest` meets its contract: at the frame's edge its last 64 bits are moved up.
use mathlib.Core.Path.{◌≡◌}
use Prim.Native.Nat.{ℕ, ◌+◌, ◌-◌, ◌*◌}
use native.Mathlib.Omega.{arith}
use lib.ListN.{length}
use Rattle.ample_bits.proofs.AheadLaws.{ahead_fewer, ahead_none, ahead_edge}
use Rattle.ample_bits.proofs.rest.Goals as goal

pub ahead-requires : goal.ahead-requires
ahead-requires c = omega (arith, c.requires.0, c.if-at-last.true)

pub overflow_mul-gap : goal.overflow_mul-gap
overflow_mul-gap c = omega (arith, c.requires.0, c.requires.1, c.if-at-last.false)

pub overflow_sub-gap : goal.overflow_sub-gap
overflow_sub-gap c = omega (arith, c.requires.0, c.if-at-last.false)

pub eight-requires : goal.eight-requires
eight-requires c = omega (arith, c.requires.0)

pub returns-then-gap-lt64 : goal.returns-then-gap-lt64
returns-then-gap-lt64 c =
    let s = c.args.s.now in
    let last : ℕ = length s - 8 in
    let gap : ℕ = c.args.at - last * 8 in
    let e : 8 * last + gap ≡ c.args.at = omega (arith, c.requires.0, c.if-at-last.false) in
    rw e at (ahead_fewer 57 (ahead_edge s (8 * last) gap c.eight.ensures (omega (arith, c.requires.0)) (omega (arith, c.if-gap-lt64.true))) (omega arith))

pub returns : goal.returns
returns c = ahead_none c.args.s.now c.args.at (omega (arith, c.requires.0, c.if-gap-lt64.false, c.if-at-last.false))

pub overflow_sub-last : goal.overflow_sub-last
overflow_sub-last c = c.requires.0

pub returns-then-at-last : goal.returns-then-at-last
returns-then-at-last c = c.ahead.ensures
