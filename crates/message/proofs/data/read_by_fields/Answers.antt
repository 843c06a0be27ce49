use mathlib.Core.Path.{refl}
use native.Mathlib.Omega.{arith}
use Rattle.records.proofs.Telling.{told-length, told-then}
use Rattle.message.proofs.DataLaws.{message-read}
use Rattle.message.proofs.data.read_by_fields.Goals as goal

pub maybe_number_field-reference-requires : goal.maybe_number_field-reference-requires
maybe_number_field-reference-requires c = (refl, omega (arith, c.requires.0, c.number_field-id.ensures.told.few))

pub date_time_field-time-requires : goal.date_time_field-time-requires
date_time_field-time-requires c = omega (arith, c.requires.0, c.number_field-id.ensures.told.few, c.maybe_number_field-reference.ensures.told.few)

pub acknowledgment_field-x-requires : goal.acknowledgment_field-x-requires
acknowledgment_field-x-requires c = omega (arith, c.requires.0, c.number_field-id.ensures.told.few, c.maybe_number_field-reference.ensures.told.few, c.date_time_field-time.ensures.told.few)

pub read_data-requires : goal.read_data-requires
read_data-requires c = (omega (arith, c.requires.0, c.number_field-id.ensures.told.few, c.maybe_number_field-reference.ensures.told.few, c.date_time_field-time.ensures.told.few, c.acknowledgment_field-x.ensures.told.few), c.requires.1, c.requires.2)

pub shape_of-words : goal.shape_of-words
shape_of-words c = told-length (told-then c.number_field-id.ensures.told (told-then c.maybe_number_field-reference.ensures.told (told-then c.date_time_field-time.ensures.told (told-then c.acknowledgment_field-x.ensures.told c.read_data.ensures.told))))

pub returns : goal.returns
returns c = message-read _ c.presence-has.ensures c.number_field-id.ensures c.maybe_number_field-reference.ensures c.date_time_field-time.ensures c.acknowledgment_field-x.ensures c.read_data.ensures
