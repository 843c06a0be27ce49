-- What an iterator over the entries of a book has left.
use Rattle.std.specs.Prelude.{List}
use Rattle.book_entries.specs.declared.Entry.{Entry}
use Rattle.book_entries.specs.declared.Entries.{Entries}
use Rattle.book_entries.specs.Book.{entries}

abbrev pub left : Entries → List Entry
left s = entries s.places.now
