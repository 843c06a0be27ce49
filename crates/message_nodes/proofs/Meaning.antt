-- The table's roots are the messages.
use mathlib.Core.Path.{◌≡◌, refl, ap, ◌∙◌}
use mathlib.Core.Bool.{false}
use mathlib.Core.Option.{some}
use mathlib.Core.List.{List}
use Prim.Native.Nat.{ℕ, zero, suc}
use Rattle.atn.specs.Tags as tag
use Rattle.atn.specs.Format.{Fmt, num, span, any_span, skipped, noted, ext, seq, choice, inner, soft, lax}
use Rattle.atn.specs.Format.{end, ◌⨾◌, ◌⨾?◌, or_note, none_left, ◌∥◌}
use Rattle.atn.specs.Alternatives.{alternatives_from}
use Rattle.atn.specs.Messages.{ia5, no_reader, ext_reason, date_time_group, message_data, atc_message, extension_alternative, aircraft_pdus, ground_pdus, cm_ground, cm_aircraft, acse}
use Rattle.atn.specs.Entries.{pdus, cm_of}
use Rattle.record_lists.specs.Kinds.{kind_of}
use Rattle.record_lists.proofs.Messages.{some_is, nothing}
use Rattle.node_tables.specs.Nodes.{node_word, member_of, members_from, letters_by, format_of, format_at}
use Rattle.message_nodes.specs.Table.{table, depth, down_message_root, down_carried_root, up_carried_root, downlink_root, uplink_root, cm_aircraft_root, cm_ground_root, acse_root}
use Rattle.message_nodes.specs.Roots.{by_direction, root_of}
use Rattle.message_nodes.proofs.Elements.{Deeper, down-carried, up-carried, down-message, up-message}

acse-whole : (down up : List ℕ) → format_at depth table down up acse_root ≡ acse
unfolding letters_by format_at format_of member_of members_from alternatives_from node_word table
acse-whole down up = refl

cm_aircraft_whole : (down up : List ℕ) → format_at depth table down up cm_aircraft_root ≡ cm_aircraft
unfolding letters_by format_at format_of member_of members_from alternatives_from node_word table
cm_aircraft_whole down up = refl

cm_ground_whole : (down up : List ℕ) → format_at depth table down up cm_ground_root ≡ cm_ground
unfolding letters_by format_at format_of member_of members_from alternatives_from node_word table
cm_ground_whole down up = refl

-- the messages by what their inner strings hold
abbrev protected_by : Fmt → Fmt
protected_by f = ext (seq (skipped 4 ⨾? or_note tag.empty 1 0 (inner f) (soft 7 false (any_span tag.integrity_check 1) ⨾ end))) no_reader

abbrev aircraft_by : Fmt → Fmt → Fmt
aircraft_by f g =
    noted tag.direction 0 0
    (ext (choice tag.pdu (ext_reason tag.user_abort_reason 12 ∥ ext_reason tag.provider_abort_reason 7 ∥ seq (num tag.mode 0 1 ⨾? protected_by f ⨾ end) ∥ protected_by g ∥ none_left)) extension_alternative)

abbrev forward_by : Fmt → Fmt → Fmt
forward_by f g =
    soft 7 false
    (seq (seq (date_time_group ⨾ ia5 tag.aircraft_id 2 8 ⨾ span tag.aircraft_address 1 24 24 ⨾ end) ⨾ choice tag.carried_direction (inner f ∥ inner g ∥ none_left) ⨾ end))

abbrev ground_by : Fmt → Fmt → Fmt → Fmt
ground_by f g h =
    noted tag.direction 1 0
    (ext
    (choice tag.pdu (ext_reason tag.user_abort_reason 12 ∥ ext_reason tag.provider_abort_reason 7 ∥ protected_by f ∥ protected_by f ∥ forward_by g h ∥ ext_reason tag.forward_response 2 ∥ none_left))
    extension_alternative)

downlink_whole : (down up : List ℕ) → format_at depth table down up downlink_root ≡ aircraft_pdus down
unfolding letters_by format_at format_of member_of members_from alternatives_from node_word table
downlink_whole down up =
    ap (λ f. aircraft_by f (format_at (Deeper 1) table down up down_message_root)) (down-message 0 down up)
    ∙ ap (λ f. aircraft_by (atc_message down) f) (down-message 1 down up)

uplink-whole : (down up : List ℕ) → format_at depth table down up uplink_root ≡ ground_pdus down up
unfolding letters_by format_at format_of member_of members_from alternatives_from node_word table
uplink-whole down up =
    ap (λ f. ground_by f (format_at (Deeper 0) table down up up_carried_root) (format_at (Deeper 0) table down up down_carried_root)) (up-message 1 down up)
    ∙ ap (λ f. ground_by (atc_message up) f (format_at (Deeper 0) table down up down_carried_root)) (up-carried 0 down up)
    ∙ ap (λ f. ground_by (atc_message up) (lax 7 false (message_data up)) f) (down-carried 0 down up)

whole-pdus : (d : ℕ) (down up : List ℕ) → format_at depth table down up (by_direction d downlink_root uplink_root) ≡ pdus d down up
unfolding by_direction pdus
whole-pdus zero down up = downlink_whole down up
whole-pdus (suc d) down up = uplink-whole down up

whole-cm : (d : ℕ) (down up : List ℕ) → format_at depth table down up (by_direction d cm_aircraft_root cm_ground_root) ≡ cm_of d
unfolding by_direction cm_of
whole-cm zero down up = cm_aircraft_whole down up
whole-cm (suc d) down up = cm_ground_whole down up

-- a message is what its root means
pub meaning : (k d : ℕ) (down up : List ℕ) {f : Fmt} → kind_of k d down up ≡ some f → format_at depth table down up (root_of k d) ≡ f
unfolding kind_of root_of
meaning zero d down up h = whole-pdus d down up ∙ some_is h
meaning (suc zero) d down up h = whole-cm d down up ∙ some_is h
meaning (suc (suc zero)) d down up h = acse-whole down up ∙ some_is h
meaning (suc (suc (suc k))) d down up h = nothing h
