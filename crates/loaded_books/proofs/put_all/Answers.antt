use native.Mathlib.Omega.{arith}
use Rattle.loaded_books.proofs.LoadLaws.{at_first, with_entry, without}
use Rattle.loaded_books.proofs.Ready.{put_first, put_last, counted, as_long, place-left, put_next, no-bad}
use Rattle.loaded_books.proofs.put_all.Goals as goal

pub loop-line-init : goal.loop-line-init
loop-line-init c = rw c.into_iter-line-iterator.ensures.into_iter_gives (put_first (at_first c.args.saved.now c.of-line-items.ensures.held) c.requires.0 c.requires.1)

pub returns-in_default : goal.returns-in_default
returns-in_default c = λ L h. no-bad c.loop-line.invariant (without c.in-Some.ensures.steps c.in_default.is)

pub insert-requires : goal.insert-requires
insert-requires c =
    let p = c.loop-line.invariant in
    omega (arith, counted p, as_long p, place-left p (with_entry c.in-Some.ensures.steps c.in-Some-line.is))

pub loop-line-preserved : goal.loop-line-preserved
loop-line-preserved c = put_next c.loop-line.invariant (with_entry c.in-Some.ensures.steps c.in-Some-line.is) c.insert.ensures

pub returns : goal.returns
returns c = λ L h. put_last c.loop-line.invariant c.in-None.ensures.steps.0 h
