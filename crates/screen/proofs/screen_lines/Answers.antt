use mathlib.Core.Path.{sym, ◌∙◌}
use Rattle.screen.specs.Screen.{text}
use Rattle.screen.proofs.ScreenLaws.{lengths, not-given, are-given, full, shown}
use Rattle.screen.proofs.screen_lines.Goals as goal

pub returns-then-not-are_given : goal.returns-then-not-are_given
returns-then-not-are_given c = let e = c.args in not-given e.words.now e.down.now e.up.now e.out.now (sym c.are_given.ensures ∙ c.if-not-are_given.true)

pub put_lines-need-requires : goal.put_lines-need-requires
put_lines-need-requires c = let e = c.args in lengths e.words.now e.down.now e.up.now (sym c.are_given.ensures ∙ c.if-not-are_given.false)

pub returns-then-out-need : goal.returns-then-out-need
unfolding text
returns-then-out-need c = let e = c.args in are-given e.words.now e.down.now e.up.now e.out.now (sym c.are_given.ensures ∙ c.if-not-are_given.false) (full c.put_lines-need.ensures e.out.now c.if-out-need.true)

pub put_lines-requires : goal.put_lines-requires
put_lines-requires c = let e = c.args in lengths e.words.now e.down.now e.up.now (sym c.are_given.ensures ∙ c.if-not-are_given.false)

pub returns : goal.returns
unfolding text
returns c = let e = c.args in are-given e.words.now e.down.now e.up.now e.out.now (sym c.are_given.ensures ∙ c.if-not-are_given.false) (shown c.put_lines-need.ensures e.out.now c.put_lines.ensures c.if-out-need.false)
