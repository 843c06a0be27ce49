use native.Mathlib.Omega.{arith}
use Rattle.atn.specs.Reading.{or}
use Rattle.records.proofs.Telling.{told-length}
use Rattle.runs.proofs.RunLaws.{runs_stayed, runs_within}
use Rattle.elements.proofs.ElementLaws.{argument-told, argument-lacks, argument_dropped}
use Rattle.elements.proofs.read_told_argument.Goals as goal

pub returns-then-c-ne0 : goal.returns-then-c-ne0
returns-then-c-ne0 c = runs_within 142 _ (omega arith) (runs_stayed _ c.if-c-ne0.true)

pub tell_argument-m-requires : goal.tell_argument-m-requires
tell_argument-m-requires c = (c.requires, c.read_argument-a.ensures.held)

pub shape_of-words-then-d-eq0 : goal.shape_of-words-then-d-eq0
shape_of-words-then-d-eq0 c = told-length c.tell_argument-m.ensures

pub returns-then-d-eq0 : goal.returns-then-d-eq0
returns-then-d-eq0 c = argument-told _ _ c.read_argument-a.ensures.reads c.if-d-eq0.true c.tell_argument-m.ensures

pub returns-then-d-eq6 : goal.returns-then-d-eq6
returns-then-d-eq6 c = runs_within 142 _ (omega arith) (argument-lacks _ _ c.read_argument-a.ensures.reads c.if-d-eq6.true)

pub returns : goal.returns
unfolding or
returns c = runs_within 142 _ (omega arith) (argument_dropped _ _ c.read_argument-a.ensures.reads c.if-c-ne0.false c.if-d-eq0.false c.if-d-eq6.false)
