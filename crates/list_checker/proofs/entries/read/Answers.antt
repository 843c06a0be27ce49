use Rattle.list_checker.specs.Entered.{entered}
use Rattle.list_checker.proofs.entries.read.Goals as goal

pub returns-in-Apdu : goal.returns-in-Apdu
unfolding entered
returns-in-Apdu c = rw c.in-Apdu.is c.parse_apdu.ensures

pub returns-in-Pdus : goal.returns-in-Pdus
unfolding entered
returns-in-Pdus c = rw c.in-Pdus.is c.parse_pdus.ensures

pub returns-in-Cm : goal.returns-in-Cm
unfolding entered
returns-in-Cm c = rw c.in-Cm.is c.parse_cm.ensures

pub returns-in-Acse : goal.returns-in-Acse
unfolding entered
returns-in-Acse c = rw c.in-Acse.is c.parse_acse_apdu.ensures
