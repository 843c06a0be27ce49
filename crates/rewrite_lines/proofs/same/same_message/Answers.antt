use mathlib.Core.Bool.{false≢true}
use native.Mathlib.Omega.{arith}
use Rattle.rewrite_lines.proofs.same.same_message.Goals as goal

pub returns-then-bits-reach : goal.returns-then-bits-reach
returns-then-bits-reach c = (λ e. absurd (false≢true e), λ h. absurd (c.if-bits-reach.true h.as_many))

pub returns-then-written-need : goal.returns-then-written-need
returns-then-written-need c = (λ e. absurd (false≢true e), λ h. absurd (let l = h.stands in omega (arith, c.if-written-need.true)))

pub returns-then-frame-need : goal.returns-then-frame-need
returns-then-frame-need c = (λ e. absurd (false≢true e), λ h. absurd (let l = h.stood in omega (arith, c.if-frame-need.true)))

pub returns-then-uint-ne0 : goal.returns-then-uint-ne0
returns-then-uint-ne0 c = (λ e. absurd (false≢true e), λ h. absurd (let p = h.padded in let u = c.uint.ensures.0 (omega (arith, c.if-frame-need.false, c.if-written-need.false)) in c.if-uint-ne0.true cc))

pub returns : goal.returns
returns c = (λ e. record { as_many = c.if-bits-reach.false; stands = omega (arith, c.if-written-need.false); stood = omega (arith, c.if-frame-need.false); padded = let u = c.uint.ensures.0 (omega (arith, c.if-written-need.false)) in let z = c.if-uint-ne0.false in cc; bits = c.same_bits.ensures.0 e }, λ h. c.same_bits.ensures.1 h.bits)
