-- `copy_two` meets its contract: the stores in a row are the first ten words of `from`, with what stood behind them.
use mathlib.Core.Path.{refl, ap, ◌∙◌}
use mathlib.Core.List.{List, ◌++◌}
use Prim.Native.Nat.{ℕ}
use native.Mathlib.Omega.{arith}
use lib.ListN.{drop, length-set}
use lib.Seq.{sets-eq}
use Rattle.spare_words.proofs.CopyLaws.{words, words_take}
use Rattle.spare_words.proofs.front.copy_two.Goals as goal

pub bounds-to-1 : goal.bounds-to-1
bounds-to-1 c = simp length-set (omega (arith, c.requires.1))

pub bounds-to-2 : goal.bounds-to-2
bounds-to-2 c = simp length-set (omega (arith, c.requires.1))

pub bounds-to-3 : goal.bounds-to-3
bounds-to-3 c = simp length-set (omega (arith, c.requires.1))

pub bounds-to-4 : goal.bounds-to-4
bounds-to-4 c = simp length-set (omega (arith, c.requires.1))

pub bounds-to-5 : goal.bounds-to-5
bounds-to-5 c = simp length-set (omega (arith, c.requires.1))

pub bounds-to-6 : goal.bounds-to-6
bounds-to-6 c = simp length-set (omega (arith, c.requires.1))

pub bounds-to-7 : goal.bounds-to-7
bounds-to-7 c = simp length-set (omega (arith, c.requires.1))

pub bounds-to-8 : goal.bounds-to-8
bounds-to-8 c = simp length-set (omega (arith, c.requires.1))

pub bounds-to-9 : goal.bounds-to-9
bounds-to-9 c = simp length-set (omega (arith, c.requires.1))

pub shape_of-to : goal.shape_of-to
shape_of-to c = simp length-set refl

pub returns : goal.returns
returns c =
    let from = c.args.from.now in
    let to = c.args.to.now in
    sets-eq (words 10 0 from) to 0 c.requires.1 ∙ ap (λ (l : List ℕ). l ++ drop 10 to) (words_take 10 0 from c.requires.0)
