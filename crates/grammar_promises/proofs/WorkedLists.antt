-- Lists that a reading gives, and lists that none gives, worked out.
use mathlib.Core.Bool.{true, false}
use mathlib.Core.List.{List, [], ◌∷◌}
use mathlib.Core.Path.{◌≡◌, refl}
use Prim.Native.Nat.{ℕ}
use Rattle.atn.specs.Reading.{Rec, rec}
use Rattle.record_grammar.specs.Octets.{within, spaced_one, octet_fits, octet_or, octets_fit, characters_fit}
use Rattle.record_grammar.specs.Rows.{row_word, row_at, numbered, unheard, length_fits, lettered, spanned, counted, channelled, all_digits, noted, holds, element_kept, element_fits, fits, resolved, asked, found, left_behind, or_kept, row_behind, element_behind, clearance_behind, place_behind, onward, stepped}
use Rattle.record_grammar.specs.Heard.{start, walked, heard}
use Rattle.record_grammar.specs.Table.{table}

-- a message of the aircraft with this month and these elements
abbrev sent : ℕ → List Rec → List Rec
sent month elements =
    rec 1 0 0 0 0 ∷ rec 2 0 3 0 1 ∷ rec 9 0 5 0 16 ∷ rec 11 0 2024 0 22 ∷ rec 12 0 month 0 29 ∷ rec 13 0 29 0 33 ∷ rec 14 0 23 0 38 ∷ rec 15 0 59 0 43 ∷ rec 16 0 58 0 49 ∷ rec 17 0 1 0 55 ∷ elements

-- an element without argument, and one with a flight level
pub wilco : heard table (sent 2 (rec 22 1 0 0 58 ∷ [])) ≡ true
unfolding within spaced_one octet_fits octet_or octets_fit characters_fit row_word row_at numbered unheard length_fits lettered spanned counted channelled all_digits noted holds element_kept element_fits fits resolved asked found left_behind or_kept row_behind element_behind clearance_behind place_behind onward stepped start walked heard table
wilco = refl

pub flight_level : heard table (sent 2 (rec 22 1 6 0 58 ∷ rec 53 1 2 0 65 ∷ rec 54 1 350 0 67 ∷ [])) ≡ true
unfolding within spaced_one octet_fits octet_or octets_fit characters_fit row_word row_at numbered unheard length_fits lettered spanned counted channelled all_digits noted holds element_kept element_fits fits resolved asked found left_behind or_kept row_behind element_behind clearance_behind place_behind onward stepped start walked heard table
flight_level = refl

-- without elements; with a month that four bits cannot hold
pub no_elements : heard table (sent 2 []) ≡ false
unfolding within spaced_one octet_fits octet_or octets_fit characters_fit row_word row_at numbered unheard length_fits lettered spanned counted channelled all_digits noted holds element_kept element_fits fits resolved asked found left_behind or_kept row_behind element_behind clearance_behind place_behind onward stepped start walked heard table
no_elements = refl

pub month_17 : heard table (sent 17 (rec 22 1 0 0 58 ∷ [])) ≡ false
unfolding within spaced_one octet_fits octet_or octets_fit characters_fit row_word row_at numbered unheard length_fits lettered spanned counted channelled all_digits noted holds element_kept element_fits fits resolved asked found left_behind or_kept row_behind element_behind clearance_behind place_behind onward stepped start walked heard table
month_17 = refl
