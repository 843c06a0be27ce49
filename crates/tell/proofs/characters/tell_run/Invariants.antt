-- The loop keeps that the characters before i are told.
use Prim.Native.Nat.{◌<◌, ◌-◌, ◌+◌}
use Rattle.tell.proofs.CharacterLaws.{Upto}
use Rattle.tell.proofs.characters.tell_run.Given as goal

abbrev pub invariant-loop-i : goal.invariant-loop-i
invariant-loop-i l = (l.i < l.r.len + 8) × Upto l.tag l.element l.s l.r l.initial.words l.words l.initial.m l.m l.i

abbrev pub decreases-loop-i : goal.decreases-loop-i
decreases-loop-i l = l.r.len - l.i
