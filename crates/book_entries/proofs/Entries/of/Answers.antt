use Rattle.book_entries.proofs.Places.{places}
use Rattle.book_entries.proofs.Entries.of.Goals as goal

pub returns-clause-few : goal.returns-clause-few
returns-clause-few c = places c.args.places.now
