use mathlib.Core.Path.{refl, sym, ◌∙◌}
use Rattle.book_entries.specs.Book.{holds}
use Rattle.loaded_books.proofs.LoadLaws.{with_entry, without, here, later, none_left, no_bad, met, unmet}
use Rattle.loaded_books.proofs.meets_later.Goals as goal

pub loop-line-init : goal.loop-line-init
loop-line-init c = λ M h. record { left = M; rest = rw c.into_iter-line-iterator.ensures.into_iter_gives h; same = refl }

pub returns-in_default : goal.returns-in_default
returns-in_default c = λ M h. no_bad (c.loop-line.invariant M h) (without c.in-Some.ensures.steps c.in_default.is)

pub returns-then-do_meet : goal.returns-then-do_meet
returns-then-do_meet c = λ M h.
    let is = with_entry c.in-Some.ensures.steps c.in-Some-line.is in
    sym (here (c.loop-line.invariant M h) is (λ N g. met c.args.e c.in-Some-line.f N (sym c.do_meet.ensures ∙ c.if-do_meet.true)))

pub loop-line-preserved : goal.loop-line-preserved
loop-line-preserved c = λ M h.
    let is = with_entry c.in-Some.ensures.steps c.in-Some-line.is in
    later (c.loop-line.invariant M h) is (λ N g. unmet c.args.e c.in-Some-line.f N (sym c.do_meet.ensures ∙ c.if-do_meet.false))

pub returns : goal.returns
unfolding holds
returns c = λ M h. sym (none_left (c.loop-line.invariant M h) c.in-None.ensures.steps.0)
