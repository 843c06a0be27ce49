use mathlib.Core.Path.{◌≡◌, refl, ◌∙◌}
use native.Mathlib.Omega.{arith}
use Rattle.book_changes.proofs.ChangeLaws.{inserting, inserted_last}
use Rattle.book_changes.proofs.insert.Goals as goal

pub loop-i-preserved : goal.loop-i-preserved
loop-i-preserved c =
    let z = c.loop-i in
    inserting z.invariant (omega arith) (omega arith) c.pass-carried.ensures.0 c.pass-carried.ensures.1

pub loop-i-init : goal.loop-i-init
loop-i-init c = record { within = omega arith; long = refl; rest = refl; done = refl }

pub returns : goal.returns
returns c =
    let z = c.loop-i in
    let e : z.i ≡ c.count-n.result = omega arith in
    rw (← c.count-n.ensures.is, ← e) (inserted_last z.invariant (e ∙ c.count-n.ensures.is) (rw (← e) at c.put_entry.ensures))
