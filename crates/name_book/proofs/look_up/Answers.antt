-- A sound book: its places are lent.
use mathlib.Core.Path.{◌≡◌}
use mathlib.Core.Option.{some}
use lib.ListN.{drop}
use Rattle.book_entries.specs.Book.{entries}
use Rattle.counted_books.specs.Counted.{held}
use Rattle.name_book.proofs.CallLaws.{unheld, is_held, lent-long, look-up_unsound, look-up-held}
use Rattle.name_book.proofs.look_up.Goals.{Else-not-sound_book}
use Rattle.name_book.proofs.look_up.Goals as goal

is-sound : (c : Else-not-sound_book) → held c.args.book.now ≡ some (entries (drop 2 c.args.book.now))
is-sound c = is_held c.args.book.now c.sound_book.ensures c.if-not-sound_book.false

pub returns : goal.returns
returns c =
    let a = c.args in
    look-up-held a.book.now a.name a.size (is-sound (goal.at.returns c).Else-not-sound_book) c.look_at.ensures

pub slice_bounds-look_at-count : goal.slice_bounds-look_at-count
slice_bounds-look_at-count c = lent-long c.args.book.now (is-sound (goal.at.slice_bounds-look_at-count c).Else-not-sound_book)

pub slice_bounds-look_at-start : goal.slice_bounds-look_at-start
slice_bounds-look_at-start c = lent-long c.args.book.now (is-sound (goal.at.slice_bounds-look_at-start c).Else-not-sound_book)

pub returns-then-not-sound_book : goal.returns-then-not-sound_book
returns-then-not-sound_book c =
    let a = c.args in
    look-up_unsound a.book.now a.name a.size (unheld a.book.now c.sound_book.ensures c.if-not-sound_book.true)
