use mathlib.Core.Path.{refl}
use native.Mathlib.Omega.{arith}
use Rattle.atn.specs.Reading.{read_choice}
use Rattle.atn.specs.Format.{num}
use Rattle.atn.specs.Messages.{cm_logon_request, cm_logon_response, cm_abort}
use Rattle.atn.specs.Tags as tag
use Rattle.field_ranges.specs.Ends.{lowest, highest}
use Rattle.told_fields.proofs.ChoiceLaws.{does_alternative, does_lacking, does_unlisted}
use Rattle.cm_pdus.proofs.PduLaws.{ground_response, ground_unlisted}
use borrow.Author.Rules.{rules}
use Rattle.cm_pdus.proofs.ground_message.Goals as goal

pub returns-then-index-lt2 : goal.returns-then-index-lt2
returns-then-index-lt2 c = does_alternative 3272 cm_logon_response (omega arith) (λ x u q. ground_response c.args.s.now x u q c.args.index c.if-index-lt2.true) c.logon_response.ensures

pub returns-then-index-eq2 : goal.returns-then-index-eq2
unfolding read_choice
returns-then-index-eq2 c = does_lacking 3272 c.refuse.ensures (λ x u q. rw c.if-index-eq2.true)

pub returns-then-index-eq3 : goal.returns-then-index-eq3
unfolding read_choice
returns-then-index-eq3 c = does_alternative 3272 cm_logon_request (omega arith) (λ x u q. rw c.if-index-eq3.true) c.logon_request.ensures

pub reason-requires : goal.reason-requires
unfolding lowest
reason-requires c = (search rules, search rules, refl)

pub returns-then-index-eq4 : goal.returns-then-index-eq4
unfolding read_choice highest
returns-then-index-eq4 c = does_alternative 3272 cm_abort (omega arith) (λ x u q. rw c.if-index-eq4.true) c.reason.ensures

pub returns-then-index-eq5 : goal.returns-then-index-eq5
unfolding read_choice lowest highest
returns-then-index-eq5 c = does_alternative 3272 (num tag.cm_forward_response 0 2) (omega arith) (λ x u q. rw c.if-index-eq5.true) c.number.ensures

pub returns : goal.returns
returns c = does_unlisted 3272 c.refuse-2.ensures (λ x u q. ground_unlisted c.args.s.now x u q c.args.index (omega arith))
