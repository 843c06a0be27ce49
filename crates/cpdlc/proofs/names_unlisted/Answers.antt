-- `names_unlisted` meets its contract: by the table of the direction.
use mathlib.Core.Bool.{false≢true}
use native.Mathlib.Omega.{arith}
use Rattle.sends.proofs.SendLaws.{down-table, up-table}
use Rattle.cpdlc_frames.proofs.SaysLaws.{says-unlisted}
use Rattle.cpdlc.proofs.names_unlisted.Goals as goal

pub overflow_add-end : goal.overflow_add-end
overflow_add-end c = omega (arith, c.requires.7, c.requires.0)

pub returns-then-send-ge-MANY_BITS : goal.returns-then-send-ge-MANY_BITS
returns-then-send-ge-MANY_BITS c q = absurd (false≢true q)

pub has_unlisted-requires : goal.has_unlisted-requires
has_unlisted-requires c = let p = c.requires in (omega (arith, p.6.held, p.0), p.1, p.2)

pub returns-then-direction-eq0 : goal.returns-then-direction-eq0
returns-then-direction-eq0 c q w = let p = c.requires in says-unlisted _ _ _ _ w _ p.0 p.5 p.6 (down-table _ _ _ c.if-direction-eq0.true) p.7 (c.has_unlisted.ensures q)

pub has_unlisted-requires-2 : goal.has_unlisted-requires-2
has_unlisted-requires-2 c = let p = c.requires in (omega (arith, p.6.held, p.0), p.3, p.4)

pub returns : goal.returns
returns c q w = let p = c.requires in says-unlisted _ _ _ _ w _ p.0 p.5 p.6 (up-table _ _ _ c.if-direction-eq0.false) p.7 (c.has_unlisted-2.ensures q)
