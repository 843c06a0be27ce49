-- The nodes of a message's elements and of the message, whatever tables are lent.
use mathlib.Core.Path.{◌≡◌, ap}
use mathlib.Core.Bool.{false}
use mathlib.Core.List.{List}
use Prim.Native.Nat.{ℕ, suc}
use Rattle.atn.specs.Tags as tag
use Rattle.atn.specs.Format.{Fmt, num, element, seq, choice, many, lax}
use Rattle.atn.specs.Format.{end, ◌⨾◌, ◌⨾?◌, or_note, Alts}
use Rattle.atn.specs.Alternatives.{alternatives_from}
use Rattle.atn.specs.Messages.{date_time_group, constrained_data, message_data, atc_message}
use Rattle.node_tables.specs.Nodes.{node_word, member_of, members_from, lent_table, letters_by, format_of, format_at}
use Rattle.message_nodes.specs.Table.{table, down_carried_root, down_message_root, up_carried_root, up_message_root}
use Rattle.message_nodes.proofs.Arguments.{Deep, lent-elements}

-- by the alternatives of the elements
abbrev data_by : Alts → Fmt
data_by es = seq (many 1 5 (element (choice tag.element_index es)) ⨾ constrained_data ⨾? end)

abbrev carried_by : Alts → Fmt
carried_by es = lax 7 false (data_by es)

abbrev message_by : Alts → Fmt
message_by es = seq (num tag.msg_id 0 63 ⨾ num tag.msg_ref 0 63 ⨾? date_time_group ⨾ or_note tag.logical_ack 1 0 (num tag.logical_ack 0 1) (data_by es ⨾ end))

-- from 22 nodes deep on, the elements with their message are whole; their arguments are then 17 deep
abbrev pub Deeper : ℕ → ℕ
Deeper g = suc (suc (Deep (Deep g)))

abbrev left : ℕ → ℕ
left g = suc (suc (suc (suc (suc (suc (suc g))))))

pub down-carried : (g : ℕ) (down up : List ℕ) → format_at (Deeper g) table down up down_carried_root ≡ lax 7 false (message_data down)
unfolding letters_by format_at format_of member_of members_from alternatives_from lent_table node_word table
down-carried g down up = ap (λ es. carried_by es) (lent-elements (left g) down up down)

pub up-carried : (g : ℕ) (down up : List ℕ) → format_at (Deeper g) table down up up_carried_root ≡ lax 7 false (message_data up)
unfolding letters_by format_at format_of member_of members_from alternatives_from lent_table node_word table
up-carried g down up = ap (λ es. carried_by es) (lent-elements (left g) down up up)

pub down-message : (g : ℕ) (down up : List ℕ) → format_at (Deeper g) table down up down_message_root ≡ atc_message down
unfolding letters_by format_at format_of member_of members_from alternatives_from lent_table node_word table
down-message g down up = ap (λ es. message_by es) (lent-elements (left g) down up down)

pub up-message : (g : ℕ) (down up : List ℕ) → format_at (Deeper g) table down up up_message_root ≡ atc_message up
unfolding letters_by format_at format_of member_of members_from alternatives_from lent_table node_word table
up-message g down up = ap (λ es. message_by es) (lent-elements (left g) down up up)
