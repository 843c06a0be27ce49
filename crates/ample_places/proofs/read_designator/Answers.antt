use mathlib.Core.Path.{◌≡◌, refl}
use Prim.Native.Nat.{◌≤◌}
use native.Mathlib.Omega.{arith}
use Rattle.x691.specs.Encoding.{width}
use Rattle.records.proofs.Telling.{told_none}
use Rattle.ample_bits.proofs.AheadLaws.{ahead-next, ahead_fewer}
use Rattle.ample_readings.proofs.AmpleLaws.{ample_done, ample_none}
use Rattle.ample_places.proofs.PlaceLaws.{size-wide, first_below, designator_sure}
use Rattle.ample_places.proofs.read_designator.Goals as goal
use Rattle.ample_places.proofs.read_designator.Goals.{After-width-wide}

wide : (c : After-width-wide) → let w = c.width-wide.result in (width 5 ≡ w) × (1 ≤ w) × (w ≤ 3)
wide c = size-wide 2 7 (omega arith) (omega arith) (omega arith) c.width-wide.ensures.0

pub first-requires : goal.first-requires
first-requires c = let w = wide (goal.at.first-requires c).After-width-wide in (w.1, omega (arith, w.2))

pub returns-then-size : goal.returns-then-size
returns-then-size c = λ s h l. ample_none told_none c.given_up.ensures

pub short_text-m-requires : goal.short_text-m-requires
short_text-m-requires c =
    (c.requires.0, c.requires.1, omega arith, omega (arith, c.if-size.false))

pub overflow_mul-result : goal.overflow_mul-result
overflow_mul-result c = omega (arith, c.if-size.false)

pub overflow_add-size : goal.overflow_add-size
overflow_add-size c = omega (arith, first_below 3 c.width-wide.result c.ranges.v.fits c.first.ensures (wide (goal.at.overflow_add-size c).After-width-wide).2 (omega arith))

pub behind-requires : goal.behind-requires
behind-requires c = omega (arith, (wide (goal.at.behind-requires c).After-width-wide).2)

pub overflow_add-result : goal.overflow_add-result
overflow_add-result c = omega (arith, (wide (goal.at.overflow_add-result c).After-width-wide).2, c.requires.2)

pub overflow_add-result-2 : goal.overflow_add-result-2
overflow_add-result-2 c = omega (arith, (wide (goal.at.overflow_add-result-2 c).After-width-wide).2, c.requires.2, c.if-size.false)

pub returns : goal.returns
returns c = λ s h l.
    let w = wide (goal.at.returns c).After-width-wide in
    ample_done (record {
      recs = _;
      sure = λ i'. designator_sure w.0 w.2 h c.first.ensures refl (omega (arith, c.if-size.false));
      near = omega (arith, w.2, c.if-size.false);
      told = c.short_text-m.ensures s _ (ahead_fewer _ (ahead-next c.width-wide.result h refl c.behind.ensures (omega (arith, w.2))) (omega (arith, w.2, c.if-size.false))) (omega (arith, w.2, c.requires.2)) (omega (arith, w.2, c.if-size.false));
    })
