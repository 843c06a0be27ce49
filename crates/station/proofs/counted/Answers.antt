use Rattle.station.proofs.counted.Goals as goal

pub returns-in-Bound : goal.returns-in-Bound
returns-in-Bound c = rw (c.next-in-Bound.ensures, c.next.ensures, c.in-Bound.is)

pub returns-in-Repeated : goal.returns-in-Repeated
returns-in-Repeated c = rw (c.next-in-Repeated.ensures, c.next.ensures, c.in-Repeated.is)

pub returns-in-Refused : goal.returns-in-Refused
returns-in-Refused c = rw (c.next-in-Refused.ensures, c.next.ensures, c.in-Refused.is)
