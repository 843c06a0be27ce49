use native.Mathlib.Omega.{arith}
use Rattle.atn.specs.Entries.{need}
use Rattle.records.specs.Space.{size, space}
use Rattle.records.proofs.Telling.{told-length, told-then}
use Rattle.acse.proofs.telling.tell_all.Goals as goal

pub store-n-requires : goal.store-n-requires
unfolding space size need
store-n-requires c = (omega arith, omega (arith, c.requires))

pub tell-m-requires : goal.tell-m-requires
unfolding space size need
tell-m-requires c =
    let t = c.store-n.ensures in
    (omega (arith, t.few), omega (arith, c.requires, t.count, told-length t))

pub tell-requires : goal.tell-requires
unfolding space size need
tell-requires c =
    let t = c.store-n.ensures in
    let u = c.tell-m.ensures in
    (omega (arith, t.few, u.few), omega (arith, c.requires, t.count, u.count, told-length t, told-length u))

pub returns : goal.returns
returns c = told-then c.store-n.ensures (told-then c.tell-m.ensures c.tell.ensures)
