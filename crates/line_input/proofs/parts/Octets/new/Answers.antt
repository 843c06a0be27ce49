use Rattle.line_input.proofs.parts.Octets.new.Goals as goal

pub returns : goal.returns
returns c = c.start.ensures.so_far _
