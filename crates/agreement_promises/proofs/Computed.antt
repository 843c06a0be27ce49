-- Each index has its kind in every list that a message gives: computed for each message.
use mathlib.Core.Bool.{Bool, true}
use mathlib.Core.List.{List}
use mathlib.Core.Path.{◌≡◌, refl}
use Prim.Native.Nat.{ℕ}
use Rattle.atn.specs.Format.{Fmt}
use Rattle.atn.specs.Messages.{aircraft_pdus, ground_pdus, cm_aircraft, cm_ground, acse}
use Rattle.element_kinds.specs.Kinds.{kind_by}
use Rattle.element_kinds.specs.Agreed.{is_last}
use Rattle.agreement_promises.specs.Kept.{byte_kind, fits}
use Rattle.grammar_promises.proofs.Sets.{among, add, union, each, all_among}
use Rattle.agreement_promises.proofs.States.{alike, inside, step, told, fit, all_fit, known, all_known}
use Rattle.agreement_promises.proofs.Back.{closure, items, texts, letters, back, back_fields, back_alts, arguments_fit, elements_fit, back_element, all_kept}

-- to unfold this is to unfold all that it is made by
unfoldable pub kept_well : Fmt → Bool
unfolding kind_by is_last byte_kind fits alike inside among add union each all_among step told fit all_fit known all_known closure items texts letters back back_fields back_alts arguments_fit elements_fit back_element all_kept
kept_well f = all_kept f

pub kept-well : (f : Fmt) → kept_well f ≡ true → all_kept f ≡ true
unfolding kept_well
kept-well f h = h

pub acse-kept : kept_well acse ≡ true
unfolding kept_well
acse-kept = refl

pub cm_aircraft_kept : kept_well cm_aircraft ≡ true
unfolding kept_well
cm_aircraft_kept = refl

pub cm_ground_kept : kept_well cm_ground ≡ true
unfolding kept_well
cm_ground_kept = refl

-- by any lent tables
pub aircraft_kept : (down : List ℕ) → kept_well (aircraft_pdus down) ≡ true
unfolding kept_well
aircraft_kept down = refl

pub ground_kept : (down up : List ℕ) → kept_well (ground_pdus down up) ≡ true
unfolding kept_well
ground_kept down up = refl
