use Rattle.pdus.proofs.PduLaws.{bits-down, bits_up}
use Rattle.pdus.proofs.choices.index_bits.Goals as goal

pub returns-then-direction-eq0 : goal.returns-then-direction-eq0
returns-then-direction-eq0 c = bits-down c.if-direction-eq0.true

pub returns : goal.returns
returns c = bits_up _ c.if-direction-eq0.false
