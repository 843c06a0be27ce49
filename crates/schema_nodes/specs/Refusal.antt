-- The first refusal of a table, 0 where there is none.
use Rattle.std.specs.Prelude.{ℕ, cond, List, Result, Ok, Err, ⊤}
use Rattle.schema_tables.specs.Tests.{kinds_fit, links_fit, depth_fits}
use Rattle.schema_nodes.specs.declared.refusal.Refusal.{Refusal}
use Rattle.schema_nodes.specs.declared.refusal.Refusal.TheVariants.{UnfitKinds, UnfitLinks, UnfitDepth}

unfoldable pub refusal_of : List ℕ → ℕ
refusal_of N = cond (kinds_fit N) (cond (links_fit N) (cond (depth_fits N) 0 16) 15) 17

-- the number of a refusal
abbrev pub number : Refusal → ℕ
number UnfitKinds = 17
number UnfitLinks = 15
number UnfitDepth = 16

-- 0 where there is none
abbrev pub number_of : Result ⊤ Refusal → ℕ
number_of (Ok _) = 0
number_of (Err r) = number r
