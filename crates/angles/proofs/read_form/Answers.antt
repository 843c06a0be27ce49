use native.Mathlib.Omega.{arith}
use Rattle.cursor.proofs.Laws.{got_is}
use Rattle.angles.proofs.AngleLaws.{form-zero, form-one, form_two, form-none}
use Rattle.angles.proofs.read_form.Goals as goal

pub ranged-requires : goal.ranged-requires
ranged-requires c = c.requires.0

pub ranged-a-requires : goal.ranged-a-requires
ranged-a-requires c = c.requires.1

pub ranged-a-requires-in-2 : goal.ranged-a-requires-in-2
ranged-a-requires-in-2 c = c.requires.1

pub returns-in-0 : goal.returns-in-0
returns-in-0 c =
    rw (got_is c.map.ensures.value c.map.ensures.place) (form-zero c.bits-index.result c.bits-index.ensures (omega (arith, c.well_formed)) c.in-0.is c.ranged.result c.ranged.ensures)

pub returns-in-1 : goal.returns-in-1
returns-in-1 c =
    form-one c.bits-index.result c.bits-index.ensures (omega (arith, c.well_formed)) c.in-1.is c.ranged-a.result c.ranged-a.ensures c.ranged-b.result c.ranged-b.ensures

pub returns-in-2 : goal.returns-in-2
returns-in-2 c =
    form_two c.bits-index.result c.bits-index.ensures (omega (arith, c.well_formed)) c.in-2.is c.ranged-a-in-2.result c.ranged-a-in-2.ensures c.ranged-b-in-2.result c.ranged-b-in-2.ensures c.ranged-d.result c.ranged-d.ensures

pub returns-in_default : goal.returns-in_default
returns-in_default c =
    form-none c.bits-index.result c.bits-index.ensures (λ z. omega arith) (λ z. omega arith) (λ z. omega arith) c.stop.ensures
