use native.Mathlib.Omega.{arith}
use Rattle.character_strings.proofs.TextLaws.{channel-all, channel-cut}
use Rattle.character_strings.proofs.channel.Goals as goal

pub returns-then-all : goal.returns-then-all
returns-then-all c = channel-all c.digits-d.ensures c.ahead-all.ensures c.if-all.true (omega arith)

pub returns : goal.returns
returns c = channel-cut c.digits-d.ensures c.ahead-all.ensures c.if-all.false
