use native.Mathlib.Omega.{arith}
use Rattle.verdicts.proofs.VerdictLaws.{verdict-after-whole, verdict-after-cut, verdict-after_fewer, verdict-after-none}
use Rattle.verdicts.proofs.after_out.Goals as goal

pub returns-then-v-eq0 : goal.returns-then-v-eq0
returns-then-v-eq0 c = (λ k u _ h. verdict-after-whole _ k c.larger-reach.ensures c.if-v-eq0.true u h, omega arith)

pub returns-then-v-eq7 : goal.returns-then-v-eq7
returns-then-v-eq7 c = (λ k u _ h. verdict-after-cut _ k c.larger-reach.ensures c.if-v-eq7.true u h, omega arith)

pub returns-then-v-why : goal.returns-then-v-why
returns-then-v-why c = (λ k u w h. verdict-after_fewer _ k c.larger-reach.ensures c.if-v-eq4.true c.if-v-why.true u w h, omega arith)

pub returns-else-v-why : goal.returns-else-v-why
returns-else-v-why c =
    (λ k u w h. verdict-after-none _ k c.larger-reach.ensures c.if-v-eq0.false c.if-v-eq7.false (λ _. c.if-v-why.false) u w h, omega arith)

pub returns-else-v-eq4 : goal.returns-else-v-eq4
returns-else-v-eq4 c =
    (λ k u w h. verdict-after-none _ k c.larger-reach.ensures c.if-v-eq0.false c.if-v-eq7.false (λ z. absurd (c.if-v-eq4.false z)) u w h, omega arith)
