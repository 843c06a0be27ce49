use mathlib.Core.Path.{refl}
use native.Mathlib.Omega.{arith}
use Rattle.character_strings.proofs.TextLaws.{passed_all, passed_out, passed_stuck}
use Rattle.character_strings.proofs.characters.Goals as goal

pub returns-then-not-ahead : goal.returns-then-not-ahead
returns-then-not-ahead c = passed_stuck c.ahead.ensures c.if-not-ahead.true c.stop-d.ensures

pub overflow_sub-left : goal.overflow_sub-left
overflow_sub-left c = omega (arith, c.ahead.ensures.room c.if-not-ahead.false)

pub returns-then-len-room : goal.returns-then-len-room
returns-then-len-room c = passed_all c.ahead.ensures c.if-not-ahead.false c.if-len-room.true refl (omega arith)

pub returns : goal.returns
returns c = passed_out c.ahead.ensures c.if-not-ahead.false c.if-len-room.false refl c.ran_out-why.ensures

pub ran_out-why-requires : goal.ran_out-why-requires
ran_out-why-requires c = omega arith
