-- A sound book: its places are lent, and the number in front is set anew.
use mathlib.Core.List.{[]}
use lib.ListN.{drop}
use Rattle.book_entries.specs.Book.{entries}
use Rattle.counted_books.specs.Counted.{room}
use Rattle.counted_books.proofs.Held.{holding}
use Rattle.name_book.proofs.CallLaws.{unheld, is_held, lent-long, lent-listed, back_long, opened-none, opened-changed}
use Rattle.book_lines.specs.Lines.{lines}
use Rattle.std.specs.Prelude.{Err}
use Rattle.loaded_books.specs.declared.Refusal.TheVariants.{NotABook}
use Rattle.loaded_books.specs.Loads.{replaced, load}
use Rattle.loaded_books.proofs.FitLaws.{loaded}
use Rattle.loaded_books.proofs.load.Goals as goal

pub returns-then-not-sound_book : goal.returns-then-not-sound_book
unfolding load
returns-then-not-sound_book c =
    let a = c.args in
    opened-none (Err NotABook) a.book.now _ (unheld a.book.now c.sound_book.ensures (c.if-not-sound_book.true))

pub returns : goal.returns
unfolding load
returns c =
    let t = c.args.saved.now in
    let E = entries (drop 2 c.args.book.now) in
    opened-changed (Err NotABook) c.args.book.now (λ n. replaced n (lines [] t)) (is_held c.args.book.now c.sound_book.ensures c.if-not-sound_book.false) (loaded (room c.args.book.now) E (holding c.args.book.now (is_held c.args.book.now c.sound_book.ensures c.if-not-sound_book.false)).fits t) c.load_at-loaded.ensures c.recount.ensures

pub slice_bounds-load_at-count : goal.slice_bounds-load_at-count
slice_bounds-load_at-count c = lent-long c.args.book.now (is_held c.args.book.now c.sound_book.ensures c.if-not-sound_book.false)

pub slice_bounds-load_at-start : goal.slice_bounds-load_at-start
slice_bounds-load_at-start c = lent-long c.args.book.now (is_held c.args.book.now c.sound_book.ensures c.if-not-sound_book.false)

pub load_at-loaded-requires : goal.load_at-loaded-requires
load_at-loaded-requires c = lent-listed c.args.book.now (is_held c.args.book.now c.sound_book.ensures c.if-not-sound_book.false)

pub recount-requires : goal.recount-requires
recount-requires c = back_long c.args.book.now (is_held c.args.book.now c.sound_book.ensures c.if-not-sound_book.false) c.load_at-loaded.new.places
