use Rattle.std.proofs.Common.{arith}
use Rattle.records.proofs.Telling.{told-then, told-within}
use Rattle.frequencies.specs.Records.{frequency_recs}
use Rattle.tell_frequencies.proofs.tell_frequency.Goals as goal

pub returns-in-Number : goal.returns-in-Number
unfolding frequency_recs
returns-in-Number c = rw c.in-Number.is (told-within {j = 2} 5 (omega arith) (told-then c.emit-m.ensures c.emit.ensures))

pub returns-in-Channel : goal.returns-in-Channel
unfolding frequency_recs
returns-in-Channel c = rw c.in-Channel.is (told-then c.emit-behind.ensures c.tell_channel.ensures)
