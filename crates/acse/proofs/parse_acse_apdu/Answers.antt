use mathlib.Core.Path.{refl, ap, ◌∙◌}
use Rattle.atn.specs.Entries.{parse_acse_apdu}
use Rattle.records.proofs.Passes.{settle_out, settle-bad}
use Rattle.acse_apdus.specs.Apdus.{reply_of}
use Rattle.answers.proofs.Entering.{enter-long, enter_reads}
use Rattle.acse.proofs.parse_acse_apdu.Goals as goal

pub returns-then-frame-gt-LONGEST_FRAME : goal.returns-then-frame-gt-LONGEST_FRAME
unfolding parse_acse_apdu
returns-then-frame-gt-LONGEST_FRAME c = record { is = enter-long _ _ _ _ c.if-frame-gt-LONGEST_FRAME.true }

pub returns-in-Heard : goal.returns-in-Heard
unfolding parse_acse_apdu
returns-in-Heard c = record { is = enter_reads _ _ _ c.if-frame-gt-LONGEST_FRAME.false (c.read_apdu-apdu.ensures.is ∙ ap reply_of c.in-Heard.is) c.settle_message.ensures.is }

pub returns-in-RanOut : goal.returns-in-RanOut
unfolding parse_acse_apdu
returns-in-RanOut c = record { is = enter_reads _ _ _ c.if-frame-gt-LONGEST_FRAME.false (c.read_apdu-apdu.ensures.is ∙ ap reply_of c.in-RanOut.is) (settle_out refl refl) }

pub returns-in-Badly : goal.returns-in-Badly
unfolding parse_acse_apdu
returns-in-Badly c = record { is = enter_reads _ _ _ c.if-frame-gt-LONGEST_FRAME.false (c.read_apdu-apdu.ensures.is ∙ ap reply_of c.in-Badly.is) (settle-bad refl refl) }
