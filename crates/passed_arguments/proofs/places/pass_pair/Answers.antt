-- `pass_pair` meets its contract: the longitude stands behind the latitude, or behind the presence bits.
use mathlib.Core.Path.{refl, sym}
use Prim.Native.Nat.{◌+◌, ◌≤◌}
use native.Mathlib.Omega.{arith}
use Rattle.x691.specs.Types.{extent}
use Rattle.x691.specs.Encoding.{width, width_in}
use Rattle.passed_arguments.proofs.PlaceLaws.{front_by, front-absent, front-present, longitude-absent, longitude-present}
use Rattle.passed_arguments.proofs.places.pass_pair.Goals as goal
use Rattle.passed_arguments.proofs.places.pass_pair.Goals.{then-has-ge2+else-n-eq0, else-has-ge2}

pub overflow_add-p : goal.overflow_add-p
overflow_add-p c = omega (arith, c.requires)

pub angle_bits-n-requires : goal.angle_bits-n-requires
unfolding extent width width_in
angle_bits-n-requires c = (omega (arith, c.width.ensures.0), omega (arith, c.width-then-has-ge2.ensures.0))

pub behind-a-requires-then-has-ge2 : goal.behind-a-requires-then-has-ge2
behind-a-requires-then-has-ge2 c = omega (arith, c.angle_bits-n.ensures.0)

pub overflow_add-p-then-has-ge2 : goal.overflow_add-p-then-has-ge2
overflow_add-p-then-has-ge2 c = omega (arith, c.angle_bits-n.ensures.0, c.requires)

pub angle_bits-n-requires-2 : goal.angle_bits-n-requires-2
unfolding extent width width_in
angle_bits-n-requires-2 c = (omega (arith, c.width-2.ensures.0), omega (arith, c.width-3.ensures.0))

pub returns-then-n-eq0 : goal.returns-then-n-eq0
returns-then-n-eq0 c = λ z. absurd (z refl)

pub returns-then-n-eq0-2 : goal.returns-then-n-eq0-2
returns-then-n-eq0-2 c = λ z. absurd (z refl)

pub returns-then-has-eq0 : goal.returns-then-has-eq0
returns-then-has-eq0 c = λ z s h.
    let e = c.first-has.ensures in
    let f = c.behind-a.ensures in
    longitude-absent h e f
    (elim c.if-has-ge2.branch [
      | then-has-ge2+else-n-eq0 w ↦ front_by w.p-is w.a-is (front-present h e f w.if-has-ge2.true (sym w.width.ensures.0) (sym w.width-then-has-ge2.ensures.0) (w.angle_bits-n.ensures.1 w.if-n-eq0.false) w.angle_bits-n.ensures.0 w.behind-a-then-has-ge2.ensures)
      | else-has-ge2 w ↦ front_by w.p-is w.a-is (front-absent h e f (omega (arith, w.if-has-ge2.false)))
    ])
    c.if-has-eq0.true

pub overflow_add-result : goal.overflow_add-result
overflow_add-result c =
    let l : c.if-has-ge2.p ≤ c.args.at + 26 = elim c.if-has-ge2.branch [ then-has-ge2+else-n-eq0 w ↦ omega (arith, w.p-is, w.angle_bits-n.ensures.0) | else-has-ge2 w ↦ omega (arith, w.p-is) ] in
    omega (arith, l, c.requires, c.angle_bits-n-2.ensures.0)

pub returns : goal.returns
returns c = λ z s h.
    let e = c.first-has.ensures in
    let f = c.behind-a.ensures in
    longitude-present h e f
    (elim c.if-has-ge2.branch [
      | then-has-ge2+else-n-eq0 w ↦ front_by w.p-is w.a-is (front-present h e f w.if-has-ge2.true (sym w.width.ensures.0) (sym w.width-then-has-ge2.ensures.0) (w.angle_bits-n.ensures.1 w.if-n-eq0.false) w.angle_bits-n.ensures.0 w.behind-a-then-has-ge2.ensures)
      | else-has-ge2 w ↦ front_by w.p-is w.a-is (front-absent h e f (omega (arith, w.if-has-ge2.false)))
    ])
    c.if-has-eq0.false (sym c.width-2.ensures.0) (sym c.width-3.ensures.0) (c.angle_bits-n-2.ensures.1 c.if-n-eq0-2.false) c.angle_bits-n-2.ensures.0
