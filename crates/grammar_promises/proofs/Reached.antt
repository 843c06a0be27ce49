-- Every reading ends where a list of records may end: computed for each message.
use mathlib.Core.Bool.{Bool, true, false, ◌&&◌}
use mathlib.Core.List.{List, [], ◌∷◌}
use mathlib.Core.Path.{◌≡◌, refl}
use Prim.Native.Nat.{ℕ}
use lib.Dec.{eqb}
use Rattle.x691.specs.Types.{extent}
use Rattle.x691.specs.Encoding.{width, width_in}
use Rattle.atn.specs.Format.{Fmt, null}
use Rattle.atn.specs.Messages.{arguments, argument, no_reader, aircraft_pdus, ground_pdus, cm_aircraft, cm_ground, acse}
use Rattle.record_grammar.specs.Rows.{or_kept}
use Rattle.record_grammar.specs.Table.{table}
use Rattle.grammar_promises.proofs.Sets.{among, add, union, each, all_among}
use Rattle.grammar_promises.proofs.States.{agree, tells, State, lost, stands, nil, inside}
use Rattle.grammar_promises.proofs.Verdicts.{Scope, value, also, surely, ranged, numbers, texts, spans, notes, counts, kinds, kept_val, element_sure, verdict}
use Rattle.grammar_promises.proofs.Steps.{row_from, rows_of, rows, blocks_of, blocks, row, choose, meant, seek, told_val, behind, land, step}
use Rattle.grammar_promises.proofs.Texts.{text_behind, text_step}
use Rattle.grammar_promises.proofs.Channels.{channel_step}
use Rattle.grammar_promises.proofs.Goes.{Exits, all_lost, either, and_then, counter, forget, begun, again, changed, exactly, stay, any_number, number_step, letters_step, span_step, failing, leaf, fallible, refused, list_items, chosen, goes, goes_fields, goes_alts}

-- outside elements and lists
abbrev pub outside : Scope
outside = record { own = nil; here = nil; most = 0 }

-- the end is heard there
unfoldable pub at_end : State → Bool
at_end lost = false
at_end (stands a b l e c p) = eqb a 3

unfoldable pub all_end : List State → Bool
all_end [] = true
all_end (σ ∷ A) = at_end (step outside 0 (value 0 1 0) σ) && all_end A

-- behind the index of an element: its argument, by any byte of a table
unfoldable pub arguments_go : (Fmt → Exits) → List Fmt → Exits
arguments_go h [] = h (argument no_reader)
arguments_go h (f ∷ fs) = either (h (argument f)) (arguments_go h fs)

unfoldable pub element_go : Bool → Scope → List State → Exits
element_go track Γ A = either (goes track (λ _ _. all_lost) null Γ A) (arguments_go (λ f. goes track (λ _ _. all_lost) f Γ A) arguments)

unfoldable pub reached : Bool → Fmt → Exits
reached track f = goes track (λ Γ A. element_go track Γ A) f outside (stands 4 0 0 nil nil nil ∷ [])

-- all that may be accepted
unfoldable pub ends : Exits → Bool
ends X = all_end X.next && all_end X.given

-- computed: to unfold this is to unfold all that the exits are made by
unfoldable pub ends_well : Bool → Fmt → Bool
unfolding row_from rows_of rows blocks_of blocks or_kept table agree tells inside among add union each all_among also surely ranged numbers texts spans notes counts kinds kept_val element_sure verdict row choose meant seek told_val behind land step text_behind text_step channel_step either and_then counter forget begun again changed exactly stay any_number number_step letters_step span_step failing leaf fallible refused list_items chosen goes goes_fields goes_alts at_end all_end arguments_go element_go reached extent width width_in ends
ends_well track f = ends (reached track f)

pub ends-well : (track : Bool) (f : Fmt) → ends_well track f ≡ true → ends (reached track f) ≡ true
unfolding ends_well
ends-well track f h = h

---------------------------------------------------------------- the messages

pub acse_ends : ends_well true acse ≡ true
unfolding ends_well
acse_ends = refl

pub cm_aircraft_ends : ends_well false cm_aircraft ≡ true
unfolding ends_well
cm_aircraft_ends = refl

pub cm_ground_ends : ends_well false cm_ground ≡ true
unfolding ends_well
cm_ground_ends = refl

-- by any lent tables
pub aircraft_ends : (down : List ℕ) → ends_well false (aircraft_pdus down) ≡ true
unfolding ends_well
aircraft_ends down = refl

pub ground_ends : (down up : List ℕ) → ends_well false (ground_pdus down up) ≡ true
unfolding ends_well
ground_ends down up = refl
