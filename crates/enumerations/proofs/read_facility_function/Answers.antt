use Rattle.enumerations.proofs.read_facility_function.Goals as goal

pub returns : goal.returns
returns c = c.read_name.ensures
