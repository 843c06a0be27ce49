-- A sound book: its places are lent, and the number in front is set anew.
use mathlib.Core.Path.{◌≡◌}
use mathlib.Core.Option.{some}
use lib.ListN.{drop}
use Rattle.book_entries.specs.Book.{entries}
use Rattle.counted_books.specs.Counted.{held, room}
use Rattle.counted_books.proofs.Held.{holding}
use Rattle.std.specs.Prelude.{Err}
use Rattle.name_book.specs.declared.Refusal.TheVariants.{NotABook}
use Rattle.name_book.specs.Calls.{offer, add}
use Rattle.name_book.proofs.FitLaws.{offered}
use Rattle.name_book.proofs.CallLaws.{unheld, is_held, lent-long, lent-listed, back_long, opened-none, opened-changed}
use Rattle.name_book.proofs.add_entry.Goals.{Else-not-sound_book}
use Rattle.name_book.proofs.add_entry.Goals as goal

is-sound : (c : Else-not-sound_book) → held c.args.book.now ≡ some (entries (drop 2 c.args.book.now))
is-sound c = is_held c.args.book.now c.sound_book.ensures c.if-not-sound_book.false

pub slice_bounds-add_at-count : goal.slice_bounds-add_at-count
slice_bounds-add_at-count c = lent-long c.args.book.now (is-sound (goal.at.slice_bounds-add_at-count c).Else-not-sound_book)

pub slice_bounds-add_at-start : goal.slice_bounds-add_at-start
slice_bounds-add_at-start c = lent-long c.args.book.now (is-sound (goal.at.slice_bounds-add_at-start c).Else-not-sound_book)

pub add_at-added-requires : goal.add_at-added-requires
add_at-added-requires c = lent-listed c.args.book.now (is-sound (goal.at.add_at-added-requires c).Else-not-sound_book)

pub recount-requires : goal.recount-requires
recount-requires c = back_long c.args.book.now (is-sound (goal.at.recount-requires c).Else-not-sound_book) c.add_at-added.new.places

pub returns-then-not-sound_book : goal.returns-then-not-sound_book
unfolding add
returns-then-not-sound_book c =
    let a = c.args in
    opened-none (Err NotABook) a.book.now _ (unheld a.book.now c.sound_book.ensures c.if-not-sound_book.true)

pub returns : goal.returns
unfolding add
returns c =
    let w = c.args.book.now in
    let h = is-sound (goal.at.returns c).Else-not-sound_book in
    let E = entries (drop 2 w) in
    opened-changed (Err NotABook) w (λ n. offer n c.args.e) h (offered (room w) E (holding w h).fits c.args.e) c.add_at-added.ensures c.recount.ensures
