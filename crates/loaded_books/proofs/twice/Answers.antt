use mathlib.Core.Path.{◌≡◌, refl, sym, ◌∙◌}
use mathlib.Core.Bool.{true, false}
use Rattle.loaded_books.specs.Loads.{distinct}
use Rattle.loaded_books.proofs.LoadLaws.{at_first, with_entry, without, here, later, none_left, no_bad, again, once}
use Rattle.loaded_books.proofs.twice.Goals as goal

pub loop-line-init : goal.loop-line-init
loop-line-init c = (tt, tt, λ M h. record { left = M; rest = sym (at_first c.args.saved.now c.of-later.ensures.held) ∙ h; same = refl })

pub returns-in_default-line : goal.returns-in_default-line
returns-in_default-line c = λ M h. no_bad (c.loop-line.invariant.2 M h) (without c.in-Some.ensures.steps c.in_default-line.is)

pub returns-then-meets_later : goal.returns-then-meets_later
returns-then-meets_later c = λ M h.
    let is = with_entry c.in-Some.ensures.steps c.in-Some-line.is in
    let d : distinct M ≡ false = here (c.loop-line.invariant.2 M h) is (λ N g. again c.in-Some-line.e N (c.meets_later.ensures N g) c.if-meets_later.true) in
    rw d

pub loop-line-preserved : goal.loop-line-preserved
loop-line-preserved c =
    let is = with_entry c.in-Some.ensures.steps c.in-Some-line.is in
    (tt, tt, λ M h. later (c.loop-line.invariant.2 M h) is (λ N g. once c.in-Some-line.e N (c.meets_later.ensures N g) c.if-meets_later.false))

pub returns : goal.returns
unfolding distinct
returns c = λ M h. let d : distinct M ≡ true = none_left (c.loop-line.invariant.2 M h) c.in_default.ensures.steps.0 in rw d
