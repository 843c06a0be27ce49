-- `put_record` meets its contract: the stores in a row are the record's words, with what stood behind them.
use Rattle.std.proofs.Common.{[], ◌∷◌, arith, length-set}
use lib.Seq.{sets-eq}
use Rattle.atn.specs.Entries.{flat, need}
use Rattle.records.specs.Space.{size}
use Rattle.records.proofs.front.put_record.Goals as goal

pub bounds-front-0 : goal.bounds-front-0
unfolding size need
bounds-front-0 c = omega (arith, c.requires)

pub bounds-front-1 : goal.bounds-front-1
unfolding size need
bounds-front-1 c = simp length-set (omega (arith, c.requires))

pub bounds-front-2 : goal.bounds-front-2
unfolding size need
bounds-front-2 c = simp length-set (omega (arith, c.requires))

pub bounds-front-3 : goal.bounds-front-3
unfolding size need
bounds-front-3 c = simp length-set (omega (arith, c.requires))

pub bounds-front-4 : goal.bounds-front-4
unfolding size need
bounds-front-4 c = simp length-set (omega (arith, c.requires))

pub returns : goal.returns
unfolding flat size need
returns c =
    let a = c.args in
    sets-eq (a.tag ∷ a.element ∷ a.value ∷ a.second ∷ a.place ∷ []) a.front.now 0 c.requires
