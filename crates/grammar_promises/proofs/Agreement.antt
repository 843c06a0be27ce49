-- The ranges that the rows name are those of the messages' fields.
use mathlib.Core.Bool.{Bool, true}
use mathlib.Core.List.{[], ◌∷◌}
use mathlib.Core.Path.{◌≡◌, refl}
use Prim.Native.Nat.{ℕ}
use Rattle.x691.specs.Types.{extent}
use Rattle.x691.specs.Encoding.{width, width_in}
use Rattle.atn.specs.Messages.{arguments, elements, aircraft_pdus, ground_pdus, cm_aircraft, cm_ground, acse}
use Rattle.record_grammar.specs.Table.{table}
use Rattle.grammar_promises.specs.Widths.{has_row, number_rows, span_rows, heard_by, all_heard, each_heard, list_heard}

-- one of the rows takes the tag, with this range
abbrev has : ℕ → ℕ → ℕ → Bool
has t low size = has_row 200 table t low size

-- all messages; the elements stand apart, since their table is lent
pub messages_heard : list_heard (λ t low size. has t low size) (aircraft_pdus [] ∷ ground_pdus [] [] ∷ cm_aircraft ∷ cm_ground ∷ acse ∷ []) ≡ true
unfolding has_row number_rows span_rows heard_by all_heard each_heard list_heard elements extent width width_in table
messages_heard = refl

-- the arguments of elements
pub arguments-heard : list_heard (λ t low size. has t low size) arguments ≡ true
unfolding has_row number_rows span_rows heard_by all_heard each_heard list_heard extent width width_in table
arguments-heard = refl
