use Rattle.clean_reaches.proofs.ReachLaws.{cm_format}
use Rattle.message_runs.specs.Runs.{format_of}
use Rattle.clean_reaches.proofs.clean_reach.Goals as goal

pub returns-in-Cpdlc : goal.returns-in-Cpdlc
unfolding format_of
returns-in-Cpdlc c = rw c.in-Cpdlc.is c.cpdlc_reach.ensures

pub returns-in-Cm : goal.returns-in-Cm
unfolding format_of
returns-in-Cm c =
    rw c.in-Cm.is (rw (cm_format c.args.direction c.args.down.now c.args.up.now c.requires.5) at c.cm_reach.ensures)

pub returns-in-Acse : goal.returns-in-Acse
unfolding format_of
returns-in-Acse c = rw c.in-Acse.is c.acse_reach.ensures
