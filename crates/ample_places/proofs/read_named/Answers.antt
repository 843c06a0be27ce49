-- `read_named` meets its contract, with and without coordinates.
use mathlib.Core.Path.{refl}
use Prim.Native.Nat.{◌+◌, ◌<◌}
use native.Mathlib.Omega.{arith}
use Rattle.per.proofs.Laws.{uint-below}
use Rattle.ample_bits.proofs.AheadLaws.{first-spelt, ahead-next, ahead_fewer}
use Rattle.ample_places.proofs.PlaceLaws.{first_below, named_bare, named-placed}
use Rattle.ample_places.proofs.read_named.Goals as goal
use Rattle.ample_places.proofs.read_named.Goals.{After-first-raw}

few : (c : After-first-raw) → c.first-raw.result < 8
few c = first_below 3 c.args.wide (omega (arith, c.behind-b.ensures)) c.first-raw.ensures c.requires.8 (omega arith)

pub overflow_add-size : goal.overflow_add-size
overflow_add-size c = omega (arith, few (goal.at.overflow_add-size c).After-first-raw, c.requires.5)

pub text_ahead-text-requires : goal.text_ahead-text-requires
text_ahead-text-requires c =
    let n = ahead-next 1 c.requires.4 refl c.behind-b.ensures (omega arith) in
    (ahead_fewer 42 (ahead-next c.args.wide n refl c.behind.ensures (omega (arith, c.requires.8))) (omega (arith, c.requires.8)), omega (arith, c.requires.3, c.requires.8), omega (arith, few (goal.at.text_ahead-text-requires c).After-first-raw, c.requires.5))

pub short_text-m-requires : goal.short_text-m-requires
short_text-m-requires c =
    (c.requires.0, c.requires.1, omega (arith, c.requires.5), omega (arith, few (goal.at.short_text-m-requires c).After-first-raw, c.requires.5))

pub overflow_mul-result : goal.overflow_mul-result
overflow_mul-result c = omega (arith, few (goal.at.overflow_mul-result c).After-first-raw, c.requires.5)

pub overflow_add-result : goal.overflow_add-result
overflow_add-result c = omega (arith, few (goal.at.overflow_add-result c).After-first-raw, c.requires.2, c.requires.5, c.requires.8)

pub returns : goal.returns
returns c =
    let r = few (goal.at.returns c).After-first-raw in
    let h = c.first-has.ensures in
    record {
      recs = _;
      near = omega (arith, c.requires.5, c.requires.8);
      told = c.short_text-m.ensures c.args.s.now (c.args.at + 1 + c.args.wide) c.text_ahead-text.ensures (omega (arith, c.requires.2, c.requires.8)) (omega (arith, c.requires.3, c.requires.5, c.requires.8));
      bare = λ z i. rw c.above-marks.ensures (named_bare c.args.most c.requires.4 h c.behind-b.ensures c.first-raw.ensures (omega (arith, c.requires.5)) c.requires.8 c.requires.6 c.args.tag z);
      placed = λ z i q m S y.
          rw c.above-marks.ensures
          (named-placed c.args.most c.requires.4 h c.behind-b.ensures c.first-raw.ensures (omega (arith, c.requires.5)) c.requires.8 c.requires.6 c.args.tag (omega (arith, z, h, first-spelt c.requires.4 1 (omega arith), uint-below c.args.s.now c.args.at 1)) y);
    }
