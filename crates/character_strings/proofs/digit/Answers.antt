use Rattle.character_strings.proofs.TextLaws.{digit_in, digit-over}
use Rattle.character_strings.proofs.digit.Goals as goal

pub returns-then-g-lt11 : goal.returns-then-g-lt11
returns-then-g-lt11 c = let g = c.bits-g in digit_in g.result g.ensures c.if-g-lt11.true

pub returns : goal.returns
returns c = let g = c.bits-g in digit-over g.result g.ensures c.if-g-lt11.false c.mark.ensures
