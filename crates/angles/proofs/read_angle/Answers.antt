use Rattle.angles.proofs.AngleLaws.{form-side}
use Rattle.angles.proofs.read_angle.Goals as goal

pub read_form-form-requires : goal.read_form-form-requires
read_form-form-requires c = c.requires

pub returns : goal.returns
returns c = form-side c.read_form-form.ensures c.ranged-side.ensures
