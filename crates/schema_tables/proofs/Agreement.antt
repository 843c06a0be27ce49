-- "the tables for document 01's argument readers, the satellite channel apart, agree with them on every input, refusals included".
use mathlib.Core.Path.{◌≡◌, refl, ap, ◌∙◌}
use mathlib.Core.Bool.{Bool, true, ◌&&◌}
use mathlib.Core.List.{List, [], ◌∷◌}
use Prim.Native.Nat.{ℕ, zero, suc, ◌+◌, ◌*◌, ◌≤◌, ◌<◌}
use native.Mathlib.Omega.{arith}
use lib.ListN.{length, get_or}
use lib.Dec.{leb}
use borrow.Author.Tests.{le-leb}
use Rattle.x691.specs.Bits.{bit_of, uint}
use Rattle.x691.specs.Encoding.{width, width_in, highest, count}
use Rattle.atn.specs.Format.{Fmt, num, many, none_left, ◌∥◌}
use Rattle.atn.specs.Alternatives.{alternatives_from}
use Rattle.atn.specs.Reading.{Ctx, Ans, mark, read, read_choice, flags, unread_marks, sized, pull, fetch, times, over, unless, then}
use Rattle.atn.specs.Messages.{speed_type, code, frequency, numeric_string, arguments, no_reader}
use Rattle.atn.specs.Entries.{reply, read_frame, enter, decide, test, frame_fits}
use Rattle.atn.specs.Tags as tag
use Rattle.atn.specs.Demands.{passes}
use Rattle.atn.proofs.Inverse.{both}
use Rattle.schema_tables.specs.Nodes.{nodes, node_word, member_of, members_from, format_of, format_at, meaning}
use Rattle.schema_tables.specs.Tests.{below, each, raised, range_fits, kind_fits, node_fits, kinds_fit, first_of, count_of, first_at, count_at, link_fits, links_fit, within, depth_fits}
use Rattle.schema_tables.specs.Entry.{table_tests, Kept, capped, parse_by_table}
use Rattle.schema_tables.specs.Arguments.{speed_types_nodes, code_nodes, frequency_nodes, argument_tables}
use Rattle.schema_tables.specs.Agrees.{Channel, Reads}
use Rattle.schema_tables.proofs.Capped.{kept_reads}

---------------------------------------------------------------- lists of exactly so many, and the channel

module _ (x : Ctx) (b : ℕ → ℕ) (e at : ℕ) (inside : at ≤ e) where
  three-speeds : Reads speed_types_nodes (many 3 3 speed_type) x b e at
  unfolding meaning format_at format_of member_of members_from alternatives_from node_word nodes mark read flags unread_marks sized pull times over unless width width_in fetch uint
  three-speeds = let z : leb (at + 0) e ≡ true = le-leb (at + 0) e (omega arith) in rw z

  four-digits : Reads code_nodes code x b e at
  unfolding meaning format_at format_of member_of members_from alternatives_from node_word nodes mark read flags unread_marks sized pull times over unless width width_in fetch uint
  four-digits = let z : leb (at + 0) e ≡ true = le-leb (at + 0) e (omega arith) in rw z

no_channel : (i : ℕ) (x : Ctx) (b : ℕ → ℕ) (e at : ℕ) (f g h u v : Fmt) → (i ≡ 3 → ⊥) → read_choice (f ∥ g ∥ h ∥ u ∥ none_left) i x b e at ≡ read_choice (f ∥ g ∥ h ∥ v ∥ none_left) i x b e at
unfolding read
no_channel zero x b e at f g h u v n = refl
no_channel (suc zero) x b e at f g h u v n = refl
no_channel (suc (suc zero)) x b e at f g h u v n = refl
no_channel (suc (suc (suc zero))) x b e at f g h u v n = absurd (n refl)
no_channel (suc (suc (suc (suc i)))) x b e at f g h u v n = refl

frequencies : (x : Ctx) (b : ℕ → ℕ) (e at : ℕ) → (Channel b at → ⊥) → Reads frequency_nodes frequency x b e at
unfolding meaning format_at format_of member_of members_from alternatives_from node_word nodes mark read pull fetch width width_in highest count then
frequencies x b e at n =
    rw (no_channel (uint b at 2) x b e (at + 2) (num tag.frequency_number 2850 28000) (num tag.frequency_number 23600 27398) (num tag.frequency_number 9000 15999) no_reader (numeric_string tag.satellite_channel tag.satellite_channel_x691 12 12) n)

---------------------------------------------------------------- all of them

-- from number j on, each table means its argument or reads as it; number 6 is the frequency
data Agree : ℕ → List (List ℕ) → List Fmt → Type 0 where
  done : {j : ℕ} → Agree j [] []
  means : {j : ℕ} {N : List ℕ} {f : Fmt} {Ns : List (List ℕ)} {fs : List Fmt} → meaning N ≡ f → Agree (suc j) Ns fs → Agree j (N ∷ Ns) (f ∷ fs)
  reads : {j : ℕ} {N : List ℕ} {f : Fmt} {Ns : List (List ℕ)} {fs : List Fmt} → ((x : Ctx) (b : ℕ → ℕ) (e at : ℕ) → at ≤ e → (j ≡ 6 → Channel b at → ⊥) → Reads N f x b e at) → Agree (suc j) Ns fs → Agree j (N ∷ Ns) (f ∷ fs)

all_agree : Agree 0 argument_tables arguments
unfolding meaning format_at format_of member_of members_from alternatives_from node_word nodes mark
all_agree =
    means refl
    (means refl
    (means refl
    (reads (λ x b e at i n. three-speeds x b e at i)
    (means refl
    (means refl
    (reads (λ x b e at i n. frequencies x b e at (n refl))
    (reads (λ x b e at i n. four-digits x b e at i) (means refl (means refl (means refl (means refl (means refl (means refl (means refl (means refl done)))))))))))))))

module _ (x : Ctx) (b : ℕ → ℕ) (e at : ℕ) (inside : at ≤ e) where
  pick : (j k : ℕ) {Ns : List (List ℕ)} {fs : List Fmt} → Agree j Ns fs → k < length Ns → (j + k ≡ 6 → Channel b at → ⊥) → Reads (get_or Ns k []) (get_or fs k no_reader) x b e at
  pick j k done l n = absurd (omega arith)
  pick j zero (means q h) l n = ap (λ g. read g x b e at) q
  pick j zero (reads q h) l n = q x b e at inside λ z. n (omega arith)
  pick j (suc k) (means q h) l n = pick (suc j) k h (omega arith) λ z. n (omega arith)
  pick j (suc k) (reads q h) l n = pick (suc j) k h (omega arith) λ z. n (omega arith)

  -- wherever an argument stands, its table reads as it does, the frequency's channel apart
  pub agree : (k : ℕ) → k < 16 → (k ≡ 6 → Channel b at → ⊥) → Reads (get_or argument_tables k []) (get_or arguments k no_reader) x b e at
  agree k l n = pick 0 k all_agree l λ z. n (omega arith)

-- so a frame that is the argument
pub agree_frame : (k : ℕ) → k < 16 → (s : List ℕ) → (k ≡ 6 → Channel (bit_of s) 0 → ⊥) → read_frame (meaning (get_or argument_tables k [])) s ≡ read_frame (get_or arguments k no_reader) s
unfolding read_frame
agree_frame k l s n = ap (λ (a : Ans). reply a) (agree (0, 0) (bit_of s) (length s * 8) 0 (omega arith) k l n)

---------------------------------------------------------------- none of the tables is refused

all_fit : List (List ℕ) → Bool
all_fit [] = true
all_fit (N ∷ Ns) = passes (table_tests N) && all_fit Ns

tables_fit : all_fit argument_tables ≡ true
unfolding all_fit passes below each raised range_fits kind_fits node_fits kinds_fit first_of count_of first_at count_at link_fits links_fit within depth_fits node_word nodes
tables_fit = refl

fit_at : (k : ℕ) (Ns : List (List ℕ)) → all_fit Ns ≡ true → k < length Ns → Kept (get_or Ns k [])
unfolding all_fit
fit_at k [] h l = absurd (omega arith)
fit_at zero (N ∷ Ns) h l = (both (passes (table_tests N)) (all_fit Ns) h).0
fit_at (suc k) (N ∷ Ns) h l = fit_at k Ns (both (passes (table_tests N)) (all_fit Ns) h).1 (omega arith)

pub tables-kept : (k : ℕ) → k < 16 → Kept (get_or argument_tables k [])
tables-kept k l = fit_at k argument_tables tables_fit l

-- answers and words: what an entry would give that reads by the argument alone
pub agree_entry : (k : ℕ) → k < 16 → (s w : List ℕ) → (k ≡ 6 → Channel (bit_of s) 0 → ⊥) → parse_by_table s (get_or argument_tables k []) w ≡ capped (enter [] (λ f. read_frame (get_or arguments k no_reader) f) s w)
unfolding enter
agree_entry k l s w n = kept_reads (get_or argument_tables k []) (tables-kept k l) s w ∙ ap (λ r. capped (decide (test (frame_fits s) 1 ∷ []) r w)) (agree_frame k l s n)
