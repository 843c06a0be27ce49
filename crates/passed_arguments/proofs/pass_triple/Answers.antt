use mathlib.Core.Path.{refl}
use native.Mathlib.Omega.{arith}
use Rattle.x691.specs.Types.{extent}
use Rattle.x691.specs.Encoding.{width, width_in}
use Rattle.passed_arguments.proofs.ArgumentLaws.{triple}
use Rattle.passed_arguments.proofs.pass_triple.Goals as goal

pub pass_name-p-requires : goal.pass_name-p-requires
unfolding extent width width_in
pass_name-p-requires c = (refl, omega arith, omega arith, omega (arith, c.requires))

pub overflow_sub-p : goal.overflow_sub-p
overflow_sub-p c = (c.pass_name-p.ensures c.if-p-eq0.false).0

pub behind-a-requires : goal.behind-a-requires
behind-a-requires c = omega (arith, (c.pass_name-p.ensures c.if-p-eq0.false).1)

pub pass_name-q-requires : goal.pass_name-q-requires
unfolding extent width width_in
pass_name-q-requires c = (refl, omega arith, omega arith, omega (arith, (c.pass_name-p.ensures c.if-p-eq0.false).1, c.requires))

pub overflow_sub-q : goal.overflow_sub-q
overflow_sub-q c = (c.pass_name-q.ensures c.if-q-eq0.false).0

pub behind-requires : goal.behind-requires
behind-requires c = omega (arith, (c.pass_name-q.ensures c.if-q-eq0.false).1)

pub pass_name-requires : goal.pass_name-requires
unfolding extent width width_in
pass_name-requires c =
    (refl, omega arith, omega arith, omega (arith, (c.pass_name-q.ensures c.if-q-eq0.false).1, (c.pass_name-p.ensures c.if-p-eq0.false).1, c.requires))

pub returns : goal.returns
returns c = λ z.
    triple (c.pass_name-p.ensures c.if-p-eq0.false) c.behind-a.ensures (c.pass_name-q.ensures c.if-q-eq0.false) c.behind.ensures (c.pass_name.ensures z)

pub returns-then-p-eq0 : goal.returns-then-p-eq0
returns-then-p-eq0 c = λ z. absurd (z refl)

pub returns-then-q-eq0 : goal.returns-then-q-eq0
returns-then-q-eq0 c = λ z. absurd (z refl)
