use Rattle.enumerations.proofs.read_clearance_type.Goals as goal

pub returns : goal.returns
returns c = c.read_name.ensures
