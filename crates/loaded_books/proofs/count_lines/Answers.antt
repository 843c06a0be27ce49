use mathlib.Core.Path.{refl, ◌∙◌}
use mathlib.Core.List.{[]}
use native.Mathlib.Omega.{arith}
use Rattle.book_text.specs.Cuts.{collected, left}
use Rattle.loaded_books.proofs.LoadLaws.{at_first, with_entry, without, counting, behind-nothing, bad-line, all_read_lem}
use Rattle.loaded_books.proofs.count_lines.Goals as goal

pub loop-line-init : goal.loop-line-init
loop-line-init c =
    let i = c.into_iter-line-iterator.ensures.into_iter_gives in
    rw i record { entries = []; is = at_first c.args.saved.now c.of-line-items.ensures.held ∙ behind-nothing (collected (left c.of-line-items.result)); many = refl; few = omega (arith, c.of-line-items.ensures.few) }

pub returns-in_err-line : goal.returns-in_err-line
returns-in_err-line c = rw c.from_residual.ensures (bad-line c.loop-line.invariant (without c.in-Some.ensures.steps c.in_err-line.was))

pub loop-line-preserved : goal.loop-line-preserved
loop-line-preserved c = counting c.loop-line.invariant (with_entry c.in-Some.ensures.steps c.in_ok-line.was)

pub returns : goal.returns
returns c = let z = c.loop-line.invariant in (z.entries, all_read_lem z c.in-None.ensures.steps.0, z.many)
