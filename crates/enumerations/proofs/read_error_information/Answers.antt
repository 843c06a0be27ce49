use Rattle.enumerations.proofs.read_error_information.Goals as goal

pub returns : goal.returns
returns c = c.read_name.ensures
