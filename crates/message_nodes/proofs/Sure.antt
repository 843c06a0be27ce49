-- The table keeps what a table must keep, whatever tables of 1 to 256 bytes are lent.
use mathlib.Core.Path.{◌≡◌, refl, ap, ◌∙◌}
use mathlib.Core.Bool.{Bool, true, false, ◌&&◌}
use mathlib.Core.List.{List}
use Prim.Native.Nat.{ℕ, zero, suc, ◌≤◌}
use native.Mathlib.Omega.{arith}
use lib.ListN.{length}
use lib.Dec.{leb}
use borrow.Author.Tests.{le-leb}
use Rattle.x691.specs.Range.{member}
use Rattle.atn.specs.Format.{Fmt, lax}
use Rattle.atn.specs.Alternatives.{alternatives_from}
use Rattle.atn.specs.Messages.{message_data, atc_message}
use Rattle.atn.specs.Reading.{flags}
use Rattle.record_lists.specs.Clear.{solid, firsts}
use Rattle.record_lists.specs.Kinds.{span_tag}
use Rattle.record_lists.specs.Parse.{same_numbers}
use Rattle.record_lists.specs.Most.{most}
use Rattle.node_tables.specs.Nodes.{node_word, member_of, members_from, letters_by, format_of, format_at}
use Rattle.node_tables.specs.Sure.{sure_member, sure_members, sure_each, sure_text, sure_channel, sure_letters, sure_unit, sure_size, sure_of, sure_at}
use Rattle.message_nodes.specs.Table.{table, depth, down_message_root, down_carried_root, up_message_root, up_carried_root, downlink_root, uplink_root, cm_aircraft_root, cm_ground_root, acse_root}
use Rattle.message_nodes.specs.Roots.{by_direction, root_of}
use Rattle.message_nodes.proofs.Elements.{Deeper, down-carried, up-carried, down-message, up-message}
use Rattle.message_nodes.proofs.Bounds.{data_most, message-most}

acse_sure : (down up : List ℕ) → sure_at depth table down up acse_root ≡ true
unfolding sure_member sure_members sure_each sure_text sure_channel sure_letters sure_unit sure_size sure_of sure_at letters_by format_at format_of member_of members_from alternatives_from node_word table flags solid firsts span_tag same_numbers member
acse_sure down up = refl

cm_sure : (d : ℕ) (down up : List ℕ) → sure_at depth table down up (by_direction d cm_aircraft_root cm_ground_root) ≡ true
unfolding sure_member sure_members sure_each sure_text sure_channel sure_letters sure_unit sure_size sure_of sure_at letters_by format_at format_of member_of members_from alternatives_from node_word table flags solid firsts span_tag same_numbers member by_direction
cm_sure zero down up = refl
cm_sure (suc d) down up = refl

---------------------------------------------------------------- CPDLC: all but the bits of an inner string computes

-- whether the bits at a node can be counted
abbrev counted : ℕ → List ℕ → List ℕ → ℕ → Bool
counted g down up k = leb (most (format_at (Deeper g) table down up k)) 4294967296

counts : (f g : Fmt) (n : ℕ) → f ≡ g → most g ≤ n → n ≤ 4294967296 → leb (most f) 4294967296 ≡ true
counts f g n e h l = ap (λ x. leb (most x) 4294967296) e ∙ le-leb (most g) 4294967296 (omega arith)

down-counted : (g : ℕ) (down up : List ℕ) → length down ≤ 256 → counted g down up down_message_root ≡ true
down-counted g down up l = counts _ (atc_message down) 63000 (down-message g down up) (message-most down l) (omega arith)

up-counted : (g : ℕ) (down up : List ℕ) → length up ≤ 256 → counted g down up up_message_root ≡ true
up-counted g down up l = counts _ (atc_message up) 63000 (up-message g down up) (message-most up l) (omega arith)

down-carried-counted : (g : ℕ) (down up : List ℕ) → length down ≤ 256 → counted g down up down_carried_root ≡ true
unfolding most
down-carried-counted g down up l = counts _ (lax 7 false (message_data down)) 62000 (down-carried g down up) (data_most down l) (omega arith)

up-carried-counted : (g : ℕ) (down up : List ℕ) → length up ≤ 256 → counted g down up up_carried_root ≡ true
unfolding most
up-carried-counted g down up l = counts _ (lax 7 false (message_data up)) 62000 (up-carried g down up) (data_most up l) (omega arith)

-- a protected message, and a forwarded one, by their inner strings
abbrev protected_by : Bool → Bool
protected_by b = (b && true) && true

abbrev forward_by : Bool → Bool → Bool
forward_by b c = ((b && true) && ((c && true) && true)) && true

downlink_sure : (down up : List ℕ) → length down ≤ 256 → sure_at depth table down up downlink_root ≡ true
unfolding sure_member sure_members sure_each sure_text sure_channel sure_letters sure_unit sure_size sure_of sure_at letters_by format_at format_of member_of members_from alternatives_from node_word table flags solid firsts span_tag same_numbers member
downlink_sure down up l =
    ap (λ b. (protected_by b && true) && (protected_by (counted 1 down up down_message_root) && true)) (down-counted 0 down up l)
    ∙ ap (λ b. protected_by b && true) (down-counted 1 down up l)

uplink_sure : (down up : List ℕ) → length down ≤ 256 → length up ≤ 256 → sure_at depth table down up uplink_root ≡ true
unfolding sure_member sure_members sure_each sure_text sure_channel sure_letters sure_unit sure_size sure_of sure_at letters_by format_at format_of member_of members_from alternatives_from node_word table flags solid firsts span_tag same_numbers member
uplink_sure down up l m =
    ap (λ b. protected_by b && (protected_by b && (forward_by (counted 0 down up up_carried_root) (counted 0 down up down_carried_root) && true))) (up-counted 1 down up m)
    ∙ ap (λ b. forward_by b (counted 0 down up down_carried_root) && true) (up-carried-counted 0 down up m)
    ∙ ap (λ b. forward_by true b && true) (down-carried-counted 0 down up l)

pdus_sure : (d : ℕ) (down up : List ℕ) → length down ≤ 256 → length up ≤ 256 → sure_at depth table down up (by_direction d downlink_root uplink_root) ≡ true
unfolding by_direction
pdus_sure zero down up l m = downlink_sure down up l
pdus_sure (suc d) down up l m = uplink_sure down up l m

-- every message can be written by the table
pub sure : (k d : ℕ) (down up : List ℕ) → length down ≤ 256 → length up ≤ 256 → sure_at depth table down up (root_of k d) ≡ true
unfolding root_of
sure zero d down up l m = pdus_sure d down up l m
sure (suc zero) d down up l m = cm_sure d down up
sure (suc (suc k)) d down up l m = acse_sure down up
