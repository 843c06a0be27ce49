use Rattle.cm.proofs.DirectionLaws.{cm-long, cm-direction, cm_reads}
use Rattle.cm.proofs.parse_cm.Goals as goal

pub returns-then-frame-gt-LONGEST_FRAME : goal.returns-then-frame-gt-LONGEST_FRAME
returns-then-frame-gt-LONGEST_FRAME c = record { is = rw c.refused.ensures (cm-long _ _ _ c.if-frame-gt-LONGEST_FRAME.true) }

pub returns-then-direction-gt1 : goal.returns-then-direction-gt1
returns-then-direction-gt1 c = record { is = rw c.refused-then-direction-gt1.ensures (cm-direction _ _ _ c.if-frame-gt-LONGEST_FRAME.false c.if-direction-gt1.true) }

pub returns : goal.returns
returns c = record { is = cm_reads _ _ _ c.if-frame-gt-LONGEST_FRAME.false c.if-direction-gt1.false c.answer.ensures.is }
