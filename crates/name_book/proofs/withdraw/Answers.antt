-- A sound book: its places are lent, and the number in front is set anew.
use mathlib.Core.Path.{◌≡◌}
use mathlib.Core.Option.{some}
use lib.ListN.{drop}
use Rattle.book_entries.specs.Book.{entries}
use Rattle.counted_books.specs.Counted.{held, room}
use Rattle.counted_books.proofs.Held.{holding}
use Rattle.std.specs.Prelude.{Err}
use Rattle.name_book.specs.declared.Refusal.TheVariants.{NotABook}
use Rattle.name_book.specs.Calls.{take_out, withdraw}
use Rattle.name_book.proofs.FitLaws.{taken}
use Rattle.name_book.proofs.CallLaws.{unheld, is_held, lent-long, lent-listed, back_long, opened-none, opened-changed}
use Rattle.name_book.proofs.withdraw.Goals.{Else-not-sound_book}
use Rattle.name_book.proofs.withdraw.Goals as goal

is-sound : (c : Else-not-sound_book) → held c.args.book.now ≡ some (entries (drop 2 c.args.book.now))
is-sound c = is_held c.args.book.now c.sound_book.ensures c.if-not-sound_book.false

pub slice_bounds-withdraw_at-count : goal.slice_bounds-withdraw_at-count
slice_bounds-withdraw_at-count c = lent-long c.args.book.now (is-sound (goal.at.slice_bounds-withdraw_at-count c).Else-not-sound_book)

pub slice_bounds-withdraw_at-start : goal.slice_bounds-withdraw_at-start
slice_bounds-withdraw_at-start c = lent-long c.args.book.now (is-sound (goal.at.slice_bounds-withdraw_at-start c).Else-not-sound_book)

pub withdraw_at-withdrawn-requires : goal.withdraw_at-withdrawn-requires
withdraw_at-withdrawn-requires c = lent-listed c.args.book.now (is-sound (goal.at.withdraw_at-withdrawn-requires c).Else-not-sound_book)

pub recount-requires : goal.recount-requires
recount-requires c = back_long c.args.book.now (is-sound (goal.at.recount-requires c).Else-not-sound_book) c.withdraw_at-withdrawn.new.places

pub returns-then-not-sound_book : goal.returns-then-not-sound_book
unfolding withdraw
returns-then-not-sound_book c =
    let a = c.args in
    opened-none (Err NotABook) a.book.now _ (unheld a.book.now c.sound_book.ensures c.if-not-sound_book.true)

pub returns : goal.returns
unfolding withdraw
returns c =
    let w = c.args.book.now in
    let h = is-sound (goal.at.returns c).Else-not-sound_book in
    let E = entries (drop 2 w) in
    opened-changed (Err NotABook) w (λ n. take_out c.args.number) h (taken (room w) E (holding w h).fits c.args.number) c.withdraw_at-withdrawn.ensures c.recount.ensures
