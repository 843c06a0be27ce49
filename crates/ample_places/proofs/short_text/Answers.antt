use Prim.Native.Nat.{◌*◌}
use native.Mathlib.Omega.{arith}
use Rattle.ample_places.proofs.PlaceLaws.{first_below, told-one}
use Rattle.ample_places.proofs.short_text.Goals as goal

pub top_sevens-x-requires : goal.top_sevens-x-requires
top_sevens-x-requires c = (first_below 56 (c.args.len * 7) c.ranges.v.fits c.first.ensures (omega (arith, c.requires.3)) (omega arith), c.requires.2, c.requires.3)

pub returns : goal.returns
returns c =
    λ s at h i j. told-one h i j c.requires.2 c.requires.3 c.first.ensures c.top_sevens-x.ensures c.store.ensures
