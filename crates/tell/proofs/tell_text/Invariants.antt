-- The loop keeps that the characters before i are told.
use Prim.Native.Nat.{◌<◌, ◌-◌, ◌+◌}
use Rattle.tell.proofs.CharacterLaws.{Upto}
use Rattle.tell.proofs.TextsTold.{sevens_of}
use Rattle.tell.proofs.tell_text.Given as goal

abbrev pub invariant-loop-i : goal.invariant-loop-i
invariant-loop-i l = (l.i < l.x.len + 8) × Upto l.tag l.element l.s (sevens_of l.x) l.initial.words l.words l.initial.m l.m l.i

abbrev pub decreases-loop-i : goal.decreases-loop-i
decreases-loop-i l = l.x.len - l.i
