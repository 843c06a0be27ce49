-- `emit` meets its contract. Where the words end before the record's end, nothing is written.
use Rattle.std.proofs.Common.{◌≡◌, ℕ, ◌+◌, arith}
use Rattle.atn.specs.Entries.{need}
use Rattle.records.specs.Space.{size, space}
use Rattle.records.proofs.Sizes.{space-more}
use Rattle.records.proofs.Telling.{told-length, told_unwritten}
use Rattle.records.proofs.emit.Goals as goal

-- the words of a record more
five : {at : ℕ} (n : ℕ) → at ≡ space n → space (n + 1) ≡ at + 5
unfolding size need
five n place = omega (arith, space-more n)

pub overflow_add-words_for : goal.overflow_add-words_for
unfolding space size need
overflow_add-words_for c = omega arith

pub store-requires : goal.store-requires
store-requires c =
    (c.requires, omega (arith, five c.args.n c.words_for.ensures, c.if-words_for-words.true))

pub returns-then-words_for-words : goal.returns-then-words_for-words
returns-then-words_for-words c = c.store.ensures

pub shape_of-words-then-words_for-words : goal.shape_of-words-then-words_for-words
shape_of-words-then-words_for-words c = told-length (returns-then-words_for-words c)

pub returns : goal.returns
returns c = let a = c.args in told_unwritten _ (omega (arith, five a.n c.words_for.ensures, c.if-words_for-words.false))
