use native.Mathlib.Omega.{arith}
use Rattle.runs.proofs.RunLaws.{runs_stayed, runs_within}
use Rattle.forward.proofs.ForwardLaws.{forward_lost, forward-read}
use Rattle.forward.proofs.read_forward.Goals as goal

pub returns-then-c-ne0 : goal.returns-then-c-ne0
returns-then-c-ne0 c = runs_within 236122 _ (omega arith) (runs_stayed _ c.if-c-ne0.true)

pub tell_header-a-requires : goal.tell_header-a-requires
tell_header-a-requires c = (omega (arith, c.requires.1), c.read_header-h.ensures.few, c.read_header-h.ensures.held)

pub emit-b-requires : goal.emit-b-requires
emit-b-requires c = omega (arith, c.requires.1, c.tell_header-a.ensures.few)

pub read_carried-x-requires : goal.read_carried-x-requires
read_carried-x-requires c = (omega (arith, c.requires.1, c.tell_header-a.ensures.few, c.emit-b.ensures.few), c.requires.2, c.requires.3, c.requires.4, c.requires.5)

pub move_places-requires : goal.move_places-requires
move_places-requires c = omega (arith, c.read_carried-x.ensures.told.few, c.emit-b.ensures.few, c.tell_header-a.ensures.few, c.requires.1)

pub returns-in-Lost : goal.returns-in-Lost
returns-in-Lost c = forward_lost _ _ c.if-c-ne0.false c.read_header-h.ensures c.bits-g.ensures c.in-Lost.ensures c.forgive-e.ensures

pub returns-in-Found : goal.returns-in-Found
returns-in-Found c =
    forward-read _ _ c.if-c-ne0.false c.read_header-h.ensures c.bits-g.ensures c.requires.0 c.in-Found.ensures
    c.tell_header-a.ensures c.emit-b.ensures c.read_carried-x.ensures c.bits-by.ensures c.move_places.ensures c.close_window-e.ensures
