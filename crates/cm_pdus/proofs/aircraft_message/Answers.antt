use mathlib.Core.Path.{refl}
use native.Mathlib.Omega.{arith}
use Rattle.atn.specs.Reading.{read_choice}
use Rattle.atn.specs.Format.{num}
use Rattle.atn.specs.Messages.{cm_logon_request, cm_abort}
use Rattle.atn.specs.Tags as tag
use Rattle.field_ranges.specs.Ends.{lowest, highest}
use Rattle.told_fields.proofs.ChoiceLaws.{does_alternative, does_unlisted}
use Rattle.cm_pdus.proofs.PduLaws.{aircraft_unlisted}
use borrow.Author.Rules.{rules}
use Rattle.cm_pdus.proofs.aircraft_message.Goals as goal

pub returns-then-index-eq0 : goal.returns-then-index-eq0
unfolding read_choice
returns-then-index-eq0 c = does_alternative 3272 cm_logon_request (omega arith) (λ x u q. rw c.if-index-eq0.true) c.logon_request.ensures

pub returns-then-index-eq1 : goal.returns-then-index-eq1
unfolding read_choice lowest highest
returns-then-index-eq1 c = does_alternative 3272 (num tag.contact_response 0 1) (omega arith) (λ x u q. rw c.if-index-eq1.true) c.number.ensures

pub reason-requires : goal.reason-requires
unfolding lowest
reason-requires c = (search rules, search rules, refl)

pub returns-then-index-eq2 : goal.returns-then-index-eq2
unfolding read_choice highest
returns-then-index-eq2 c = does_alternative 3272 cm_abort (omega arith) (λ x u q. rw c.if-index-eq2.true) c.reason.ensures

pub returns : goal.returns
returns c = does_unlisted 3272 c.refuse.ensures (λ x u q. aircraft_unlisted c.args.s.now x u q c.args.index (omega arith))
