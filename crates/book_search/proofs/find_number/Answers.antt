use Rattle.std.proofs.Common.{rules}
use Rattle.std.proofs.lemmas.Iterator.Consumers.{YieldsList-from_first}
use Rattle.std.proofs.lemmas.Iterator.Search.{position_from_yields_List}
use borrow.Author.Tests.{tests}
use Rattle.book_entries.specs.Book.{numbered}
use Rattle.book_entries.specs.Left.{left}
use Rattle.book_search.proofs.find_number.Goals as goal

pub returns : goal.returns
returns c = position_from_yields_List (numbered c.args.number) c.position.new.self _ _ c.position.ensures.ran (YieldsList-from_first (λ x. x) left _ c.of.ensures.held) (λ x b q k. search (rules, tests))
