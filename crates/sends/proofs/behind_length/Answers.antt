use mathlib.Core.Path.{refl}
use Rattle.sends.proofs.HeadLaws.{short-length, long-length}
use Rattle.sends.proofs.behind_length.Goals as goal

pub returns-then-size-lt32768 : goal.returns-then-size-lt32768
returns-then-size-lt32768 c s worth _ = (refl, short-length s worth c.if-size-lt32768.true)

pub returns-then-size-lt32896 : goal.returns-then-size-lt32896
returns-then-size-lt32896 c s worth some = absurd (some c.none.ensures)

pub returns-then-size-lt49152 : goal.returns-then-size-lt49152
returns-then-size-lt49152 c s worth _ = (refl, long-length s worth c.if-size-lt32896.false c.if-size-lt49152.true)

pub returns : goal.returns
returns c s worth some = absurd (some c.none-2.ensures)
