-- `write_texts::word::write_character` meets its contract.
use mathlib.Core.Path.{refl}
use Rattle.x691.proofs.Widths.{unit-fits}
use Rattle.write_texts.proofs.WordWrites.{character_in, character-below, character-above}
use Rattle.write_texts.proofs.word.write_character.Goals as goal

pub returns-then-x-c : goal.returns-then-x-c
returns-then-x-c c = λ T m. character-below _ _ _ T m _ _ _ _ c.if-x-c.true refl

pub returns-then-n-u : goal.returns-then-n-u
returns-then-n-u c = λ T m. character-above _ _ _ T m _ _ _ _ c.if-n-u.true refl

pub ink-requires : goal.ink-requires
ink-requires c = (c.bits_for.ensures.1, rw c.bits_for.ensures.0 (unit-fits _ _ c.if-n-u.false))

pub returns : goal.returns
returns c = λ T m. character_in _ _ _ T m _ _ _ _ _ c.bits_for.ensures.0 c.if-x-c.false c.if-n-u.false c.ink.ensures
