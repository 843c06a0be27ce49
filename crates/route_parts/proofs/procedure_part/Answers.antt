use native.Mathlib.Omega.{arith}
use Rattle.records.proofs.Telling.{told-length}
use Rattle.optional_parts.proofs.PartLaws.{optional-none, optional_untold, optional-told}
use Rattle.route_parts.proofs.procedure_part.Goals as goal

pub returns-then-has-eq0 : goal.returns-then-has-eq0
returns-then-has-eq0 c = optional-none _ _ c.if-has-eq0.true

pub returns-then-d-ne0 : goal.returns-then-d-ne0
returns-then-d-ne0 c = optional_untold _ _ c.if-has-eq0.false (c.read_procedure-a.ensures.reads _ _ _) c.if-d-ne0.true

pub tell_procedure-m-requires : goal.tell_procedure-m-requires
tell_procedure-m-requires c = (omega (arith, c.requires.0), c.read_procedure-a.ensures.held_name, c.read_procedure-a.ensures.held_transition)

pub shape_of-words : goal.shape_of-words
shape_of-words c = told-length c.tell_procedure-m.ensures

pub returns : goal.returns
returns c = optional-told _ _ c.if-has-eq0.false (c.read_procedure-a.ensures.reads _ _ _) c.if-d-ne0.false c.tell_procedure-m.ensures
