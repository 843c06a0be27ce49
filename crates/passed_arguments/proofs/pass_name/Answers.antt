use mathlib.Core.Path.{refl, sym, ◌∙◌}
use native.Mathlib.Omega.{arith}
use Rattle.ample_bits.proofs.AheadLaws.{first-spelt, behind-ahead}
use Rattle.passed_arguments.proofs.PassedLaws.{within_more, name-extended, name-plain}
use Rattle.passed_arguments.proofs.pass_name.Goals as goal

pub overflow_add-result : goal.overflow_add-result
overflow_add-result c = omega (arith, c.requires.3)

pub returns-then-first-ne0 : goal.returns-then-first-ne0
returns-then-first-ne0 c = λ z. (
  omega arith,
  omega arith,
  λ t s h.
      let u = c.first.ensures ∙ first-spelt h 1 (omega arith) in
      within_more (omega arith) (omega arith) (name-extended t c.args.range.hi u c.if-first-ne0.true),
)

pub first-requires-2 : goal.first-requires-2
first-requires-2 c = let w = c.width-wide.ensures.0 in (omega (arith, w, c.requires.1), omega (arith, w, c.requires.2))

pub overflow_add-result-2 : goal.overflow_add-result-2
overflow_add-result-2 c = omega (arith, c.requires.3)

pub overflow_add-result-3 : goal.overflow_add-result-3
overflow_add-result-3 c = omega (arith, c.width-wide.ensures.1, c.requires.3)

pub returns : goal.returns
returns c = λ z.
    let w = c.width-wide in (
      omega arith,
      omega (arith, w.ensures.0, c.requires.2),
      λ t s h.
          let u = c.first.ensures ∙ first-spelt h 1 (omega arith) in
          let n = c.first-2.ensures ∙ first-spelt (rw (← c.behind.ensures) at (behind-ahead h 1 (omega arith))) w.result (omega (arith, w.ensures.0, c.requires.2)) in
          within_more (omega arith) (omega (arith, w.ensures.0, c.requires.2))
          (name-plain t c.args.range.hi u w.result c.if-first-ne0.false (rw c.requires.0 at (sym w.ensures.0)) n (rw (c.extent.ensures, c.requires.0) at c.if-extent-first.false)),
    )

pub returns-then-extent-first : goal.returns-then-extent-first
returns-then-extent-first c = λ z. absurd (z refl)
