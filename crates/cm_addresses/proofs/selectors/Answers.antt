use Rattle.cm_addresses.proofs.SpanLaws.{span-selectors}
use borrow.Author.Rules.{rules}
use Rattle.cm_addresses.proofs.selectors.Goals as goal

pub octets-requires : goal.octets-requires
octets-requires c = (search rules, c.size-g.ensures.few)

pub returns : goal.returns
returns c = let x = c.octets.ensures c.args.s.now in record { recs = x.recs; reads = span-selectors c.size-g.result c.size-g.ensures x.reads; told = x.told }
