-- `copy_one` meets its contract: the stores in a row are the first five words of `from`, with what stood behind them.
use mathlib.Core.Path.{refl, ap, ◌∙◌}
use mathlib.Core.List.{List, ◌++◌}
use Prim.Native.Nat.{ℕ}
use native.Mathlib.Omega.{arith}
use lib.ListN.{drop, length-set}
use lib.Seq.{sets-eq}
use Rattle.spare_words.proofs.CopyLaws.{words, words_take}
use Rattle.spare_words.proofs.front.copy_one.Goals as goal

pub bounds-to-1 : goal.bounds-to-1
bounds-to-1 c = simp length-set (omega (arith, c.requires.1))

pub bounds-to-2 : goal.bounds-to-2
bounds-to-2 c = simp length-set (omega (arith, c.requires.1))

pub bounds-to-3 : goal.bounds-to-3
bounds-to-3 c = simp length-set (omega (arith, c.requires.1))

pub bounds-to-4 : goal.bounds-to-4
bounds-to-4 c = simp length-set (omega (arith, c.requires.1))

pub shape_of-to : goal.shape_of-to
shape_of-to c = simp length-set refl

pub returns : goal.returns
returns c =
    let from = c.args.from.now in
    let to = c.args.to.now in
    sets-eq (words 5 0 from) to 0 c.requires.1 ∙ ap (λ (l : List ℕ). l ++ drop 5 to) (words_take 5 0 from c.requires.0)
