use mathlib.Core.Path.{sym, ◌∙◌}
use Rattle.tell.proofs.TextsTold.{told-digits, told_both}
use Rattle.tell.proofs.tell_channel.Goals as goal

pub returns-then-none_above_ten : goal.returns-then-none_above_ten
returns-then-none_above_ten c =
    told_both c.args.tag c.args.element c.args.s.now c.args.x c.args.x691 c.requires.1 (sym c.none_above_ten.ensures ∙ c.if-none_above_ten.true) c.tell_run-m.ensures c.tell_run.ensures

pub returns : goal.returns
returns c =
    told-digits c.args.tag c.args.element c.args.s.now c.args.x c.args.x691 c.requires.1 (sym c.none_above_ten.ensures ∙ c.if-none_above_ten.false) c.tell_run-m.ensures
