use mathlib.Core.Path.{◌∙◌}
use Prim.Native.Nat.{ℕ}
use Rattle.std.proofs.Common.{rules}
use Rattle.std.proofs.lemmas.Iterator.{YieldsList-from_slice}
use Rattle.std.proofs.lemmas.Iterator.Search.{all_from_yields_List}
use borrow.Author.Tests.{tests}
use lib.Dec.{eqb}
use Rattle.book_search.proofs.SearchLaws.{all-clear}
use Rattle.book_search.proofs.is_clear.Goals as goal

pub returns : goal.returns
returns c = all_from_yields_List (λ (x : ℕ). eqb x 0) _ _ c.all.result c.all.ensures.ran (YieldsList-from_slice c.args.words.now cc) (λ x b q k. search (rules, tests)) ∙ all-clear c.args.words.now
