-- A sound book: its places are lent.
use Rattle.name_book.proofs.CallLaws.{unheld, is_held, lent-long}
use Rattle.saved_books.proofs.SaveLaws.{save_unsound, lent-orderly, save-sound}
use Rattle.saved_books.proofs.save.Goals as goal

pub returns-then-not-sound_book : goal.returns-then-not-sound_book
returns-then-not-sound_book c =
    let a = c.args in
    save_unsound a.book.now a.out.now (unheld a.book.now c.sound_book.ensures (c.if-not-sound_book.true))

pub save_at-requires : goal.save_at-requires
save_at-requires c = lent-orderly c.args.book.now c.args.out.now (is_held c.args.book.now c.sound_book.ensures c.if-not-sound_book.false)

pub returns : goal.returns
returns c = let a = c.args in save-sound a.book.now a.out.now (is_held c.args.book.now c.sound_book.ensures c.if-not-sound_book.false) c.save_at.ensures

pub slice_bounds-save_at-count : goal.slice_bounds-save_at-count
slice_bounds-save_at-count c = lent-long c.args.book.now (is_held c.args.book.now c.sound_book.ensures c.if-not-sound_book.false)

pub slice_bounds-save_at-start : goal.slice_bounds-save_at-start
slice_bounds-save_at-start c = lent-long c.args.book.now (is_held c.args.book.now c.sound_book.ensures c.if-not-sound_book.false)
