use mathlib.Core.Path.{sym}
use Rattle.element_kinds.proofs.KindLaws.{same-kind, no-kind, other-kind}
use Rattle.element_kinds.proofs.kind_agrees.Goals as goal

pub returns-then-eq : goal.returns-then-eq
returns-then-eq c = same-kind c.args.kind c.args.k c.args.t (sym c.if-eq.ensures)

pub returns-then-is_none : goal.returns-then-is_none
returns-then-is_none c = no-kind c.args.kind c.args.k c.args.t (sym c.if-eq.ensures) c.if-is_none.ensures c.is_last.ensures

pub returns : goal.returns
returns c = other-kind c.args.kind c.args.k c.args.t (sym c.if-eq.ensures) c.if-is_none.ensures
