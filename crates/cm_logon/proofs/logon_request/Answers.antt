use native.Mathlib.Omega.{arith}
use Rattle.field_ranges.specs.Ends.{lowest, highest}
use Rattle.told_fields.proofs.DoesLaws.{does_length}
use Rattle.cm_logon.proofs.LogonLaws.{request_does}
use borrow.Author.Rules.{rules}
use Rattle.cm_logon.proofs.logon_request.Goals as goal

pub letters-flight-requires : goal.letters-flight-requires
letters-flight-requires c = (search rules, search rules)

pub maybe_entries-air-requires : goal.maybe_entries-air-requires
maybe_entries-air-requires c = omega (arith, c.requires, c.letters-flight.ensures.told.few, c.long_tsap-tsap.ensures.told.few, c.maybe_entries-ground.ensures.told.few)

pub maybe_letters-from-requires : goal.maybe_letters-from-requires
maybe_letters-from-requires c = (omega (arith, c.requires, c.letters-flight.ensures.told.few, c.long_tsap-tsap.ensures.told.few, c.maybe_entries-ground.ensures.told.few, c.maybe_entries-air.ensures.told.few, (c.maybe_facility-facility.ensures c.args.s.now c.args.words.now).told.few), search rules)

pub maybe_letters-to-requires : goal.maybe_letters-to-requires
maybe_letters-to-requires c = (omega (arith, c.requires, c.letters-flight.ensures.told.few, c.long_tsap-tsap.ensures.told.few, c.maybe_entries-ground.ensures.told.few, c.maybe_entries-air.ensures.told.few, (c.maybe_facility-facility.ensures c.args.s.now c.args.words.now).told.few, c.maybe_letters-from.ensures.told.few), search rules)

pub maybe_etd-requires : goal.maybe_etd-requires
maybe_etd-requires c = omega (arith, c.requires, c.letters-flight.ensures.told.few, c.long_tsap-tsap.ensures.told.few, c.maybe_entries-ground.ensures.told.few, c.maybe_entries-air.ensures.told.few, (c.maybe_facility-facility.ensures c.args.s.now c.args.words.now).told.few, c.maybe_letters-from.ensures.told.few, c.maybe_letters-to.ensures.told.few)

pub returns : goal.returns
unfolding lowest highest
returns c = request_does c.presence-p.result c.presence-p.ensures c.letters-flight.ensures c.long_tsap-tsap.ensures c.maybe_entries-ground.ensures c.maybe_entries-air.ensures (c.maybe_facility-facility.ensures c.args.s.now c.maybe_entries-air.new.words) c.maybe_letters-from.ensures c.maybe_letters-to.ensures c.maybe_etd.ensures

pub shape_of-words : goal.shape_of-words
shape_of-words c = does_length (returns c)
