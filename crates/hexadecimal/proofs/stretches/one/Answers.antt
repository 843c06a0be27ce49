use Rattle.std.proofs.Common.{sym, ◌∙◌, arith, rules}
use Rattle.hexadecimal.proofs.StretchLaws.{full, longer, wrong, higher, lower}
use Rattle.hexadecimal.proofs.stretches.one.Goals as goal
use Rattle.hexadecimal.proofs.stretches.one.Goals.{then-n-eq0, else-n-eq0}

pub returns-then-at-frame-clause-so_far : goal.returns-then-at-frame-clause-so_far
returns-then-at-frame-clause-so_far c = λ text so. record { is = full text _ _ _ _ (omega (arith, c.if-at-frame.true, c.requires)) so.is }

pub returns-in_default-clause-so_far : goal.returns-in_default-clause-so_far
returns-in_default-clause-so_far c = λ text so. record { is = wrong text _ _ _ _ (omega (arith, c.if-at-frame.false, c.requires)) (sym c.digit.ensures.value ∙ c.in_default.is) so.is }

pub returns-clause-so_far : goal.returns-clause-so_far
returns-clause-so_far c = λ text so. record { is = longer text _ _ _ _ _ (omega (arith, c.if-at-frame.false, c.requires)) (elim c.if-n-eq0.branch [ then-n-eq0 w ↦ rw w.frame-is (higher _ _ _ _ (search rules) (sym c.digit.ensures.value ∙ c.in-Some.is) w.if-n-eq0.true) | else-n-eq0 w ↦ rw (w.frame-is, w.joined.ensures) (lower _ _ _ _ (search rules) (sym c.digit.ensures.value ∙ c.in-Some.is) (omega (arith, w.if-n-eq0.false))) ]) so.is }
