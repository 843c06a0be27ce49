use Prim.Native.Nat.{◌*◌}
use native.Mathlib.Omega.{arith}
use Rattle.ample_bits.proofs.AheadLaws.{ahead_fewer}
use Rattle.ample_places.proofs.text_ahead.Goals as goal

pub returns-then-len-le-AT_HAND : goal.returns-then-len-le-AT_HAND
returns-then-len-le-AT_HAND c = ahead_fewer (c.args.len * 7) c.requires.0 (omega (arith, c.if-len-le-AT_HAND.true))

pub returns : goal.returns
returns c = ahead_fewer (c.args.len * 7) c.ahead.ensures (omega (arith, c.requires.2))
