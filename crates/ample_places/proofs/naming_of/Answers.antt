use mathlib.Core.Path.{refl}
use native.Mathlib.Omega.{arith}
use Rattle.ample_places.proofs.PlaceLaws.{size-wide}
use Rattle.ample_places.proofs.naming_of.Goals as goal

pub returns-then-kind-eq0 : goal.returns-then-kind-eq0
returns-then-kind-eq0 c = let w = size-wide 1 5 (omega arith) (omega arith) (omega arith) c.width-wide.ensures.0 in (refl, w.0, w.1, w.2, λ _. (refl, refl), λ q. absurd (omega (arith, c.if-kind-eq0.true)))

pub returns : goal.returns
returns c = let w = size-wide 1 4 (omega arith) (omega arith) (omega arith) c.width-wide-2.ensures.0 in (refl, w.0, w.1, w.2, λ q. absurd (c.if-kind-eq0.false q), λ _. (refl, refl))
