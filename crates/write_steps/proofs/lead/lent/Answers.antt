use mathlib.Core.Path.{refl}
use native.Mathlib.Omega.{arith}
use Rattle.pens.specs.Stand.{before, refused}
use Rattle.write_steps.proofs.LeadLaws.{lent_there, lent_none, lent_off, lent_lost, lent_err}
use Rattle.write_steps.proofs.lead.lent.Goals as goal

pub bounds-table-v : goal.bounds-table-v
bounds-table-v c = omega (arith, (c.in_ok-i.ensures (λ _. 0)).below)

pub returns-in_err-i : goal.returns-in_err-i
returns-in_err-i c =
    λ F y s.
    lent_err F c.args.tag c.args.k _ c.args.x y s _ _ _ _ _ _ c.from_residual.result c.from_residual.ensures.1
    (lent_lost F c.args.tag c.args.k _ c.args.x y s _ _ _ _ _ (record { v = 0; p = refused }) (c.in_err-i.ensures s) refl)

pub returns-then-byte-gt16 : goal.returns-then-byte-gt16
returns-then-byte-gt16 c =
    λ F y s. lent_off F c.args.tag c.args.k _ c.args.x y s _ _ _ _ (record { k = c.args.k; x = c.args.x; p = refused }) _ (lent_none F c.args.tag c.args.k _ c.args.x y s _ _ _ _ _ _ (record { v = c.in_ok-i.i.value; p = before c.in_ok-i.i.pen }) (c.in_ok-i.ensures s) c.if-byte-gt16.true refl refl refl) refl

pub returns : goal.returns
returns c =
    λ F y s. rw c.to_part.ensures (lent_there F c.args.tag c.args.k _ c.args.x y s _ _ _ _ _ _ (record { v = c.in_ok-i.i.value; p = before c.in_ok-i.i.pen }) (c.in_ok-i.ensures s) c.if-byte-gt16.false refl refl refl)
