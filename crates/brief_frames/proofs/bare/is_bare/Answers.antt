use mathlib.Core.Path.{◌≡◌}
use mathlib.Core.List.{List}
use Prim.Native.Nat.{ℕ, ◌<◌}
use native.Mathlib.Omega.{arith}
use lib.ListN.{get_or}
use borrow.Author.Tests.{leb-true}
use Rattle.x691.specs.Bits.{bit_of, uint}
use Rattle.per.proofs.Laws.{uint-octet}
use Rattle.brief_frames.specs.Bare.{empty}
use Rattle.brief_frames.proofs.HeadLaws.{other}
use Rattle.brief_frames.proofs.FrameLaws.{bare_extended, bare_down, bare_low, bare_high}
use Rattle.brief_frames.proofs.bare.is_bare.Goals as goal

octet : (s : List ℕ) → get_or s 0 0 < 256 → uint (bit_of s) 0 8 ≡ get_or s 0 0
octet s h = uint-octet s 0 (omega (arith, h))

pub returns-then-frame-eq0 : goal.returns-then-frame-eq0
returns-then-frame-eq0 c _ = empty c.if-frame-eq0.true

pub returns-then-first-lt64 : goal.returns-then-first-lt64
returns-then-first-lt64 c _ = bare_down _ (octet c.args.frame.now (omega (arith, c.type_inv.frame 0))) c.if-direction-eq0.true c.if-first-lt64.true

pub returns-else-first-lt64 : goal.returns-else-first-lt64
returns-else-first-lt64 c t = bare_extended _ (octet c.args.frame.now (omega (arith, c.type_inv.frame 0))) (leb-true _ _ t)

pub returns-then-first-lt32 : goal.returns-then-first-lt32
returns-then-first-lt32 c _ = bare_low _ (octet c.args.frame.now (omega (arith, c.type_inv.frame 0))) (other _ c.requires c.if-direction-eq0.false) c.if-first-lt32.true

pub returns-else-first-lt32 : goal.returns-else-first-lt32
returns-else-first-lt32 c t = bare_high _ (octet c.args.frame.now (omega (arith, c.type_inv.frame 0))) (other _ c.requires c.if-direction-eq0.false) (leb-true _ _ t)
