use Rattle.frequencies.proofs.FrequencyLaws.{frequency_number, frequency-channel}
use Rattle.frequencies.proofs.read_frequency.Goals as goal

pub returns-then-kind-lt3 : goal.returns-then-kind-lt3
returns-then-kind-lt3 c = frequency_number c.bits-index.result c.bits-index.ensures c.ranged-number.result c.if-kind-lt3.true (rw c.range_at-range.ensures.1 at c.ranged-number.ensures)

pub returns : goal.returns
returns c = frequency-channel c.bits-index.result c.bits-index.ensures c.channel-satellite.result c.if-kind-lt3.false c.channel-satellite.ensures

pub ranged-number-requires : goal.ranged-number-requires
ranged-number-requires c = c.range_at-range.ensures.0
