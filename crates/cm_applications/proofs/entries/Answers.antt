use borrow.Author.Rules.{rules}
use Prim.Native.Nat.{◌-◌}
use mathlib.Core.Path.{◌≡◌, refl}
use native.Mathlib.Omega.{arith}
use Rattle.cursor.proofs.FormatLaws.{times_none}
use Rattle.told_fields.proofs.DoesLaws.{does_length, does_quiet}
use Rattle.cm_applications.proofs.ListLaws.{entries-more, entries-stopped, does_list}
use Rattle.cm_applications.proofs.entries.Goals as goal

pub size-g-requires : goal.size-g-requires
size-g-requires c = search rules

pub loop-i-init : goal.loop-i-init
loop-i-init c = (omega arith, does_quiet refl times_none)

pub overflow_add-i : goal.overflow_add-i
overflow_add-i c = omega arith

pub entry-z-requires : goal.entry-z-requires
entry-z-requires c = omega (arith, c.loop-i.invariant.1.told.few, c.size-g.ensures.few, c.requires)

pub shape_of-words-then-z-ne0 : goal.shape_of-words-then-z-ne0
shape_of-words-then-z-ne0 c = does_length (entries-more c.loop-i.invariant.1 c.entry-z.ensures)

-- the reading has stopped
pub returns-then-z-ne0 : goal.returns-then-z-ne0
returns-then-z-ne0 c = does_list c.args.addressed c.size-g.result c.size-g.ensures (entries-stopped _ (omega arith) c.if-z-ne0.true (entries-more c.loop-i.invariant.1 c.entry-z.ensures))

pub loop-i-preserved : goal.loop-i-preserved
loop-i-preserved c = (omega arith, entries-more c.loop-i.invariant.1 c.entry-z.ensures)

pub shape_of-words : goal.shape_of-words
shape_of-words c = does_length c.loop-i.invariant.1

pub returns : goal.returns
returns c = let e : c.loop-i.i ≡ c.size-g.result.v = omega arith in does_list c.args.addressed c.size-g.result c.size-g.ensures (rw e at c.loop-i.invariant.1)
