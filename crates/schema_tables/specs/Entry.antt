-- The entry: a frame read by a lent table of nodes.
use Rattle.std.specs.Prelude.{◌≡◌, true, List, [], ◌∷◌, ℕ, min}
use Rattle.atn.specs.Entries.{Answer, accepted, refused, Outcome, Test, test, enter, read_frame}
use Rattle.atn.specs.Demands.{passes}
use Rattle.schema_tables.specs.Nodes.{meaning}
use Rattle.schema_tables.specs.Tests.{kinds_fit, links_fit, depth_fits}

-- "before the frame is read, in the order 17, 15, 16"
abbrev pub table_tests : List ℕ → List Test
table_tests N = test (kinds_fit N) 17 ∷ test (links_fit N) 15 ∷ test (depth_fits N) 16 ∷ []

-- a table that is not refused
abbrev pub Kept : List ℕ → Type 0
Kept N = passes (table_tests N) ≡ true

-- the largest word
abbrev pub top : ℕ
top = 18446744073709551615

-- "A need above 2^64 - 1 words is returned as 2^64 - 1"
unfoldable pub capped_answer : Answer → Answer
capped_answer (accepted c p m k) = accepted c p m k
capped_answer (refused n p k l) = refused n p (min k top) l

unfoldable pub capped : Outcome → Outcome
capped o = (capped_answer o.0, o.1)

-- frame, table, words
unfoldable pub parse_by_table : List ℕ → List ℕ → List ℕ → Outcome
parse_by_table s N w = capped (enter (table_tests N) (λ f. read_frame (meaning N) f) s w)
