-- `per::number::near` meets its contract: four octets hold the bits, where they are there.
use Rattle.std.proofs.Common.{ℕ, ◌-◌, ◌*◌, ◌∙◌, arith}
use Rattle.per.proofs.Laws.{uint-cut, four-octets}
use Rattle.per.proofs.number.near.Goals as goal

pub returns : goal.returns
returns c =
    let a = c.args in
    let i = c.first-i.result in
    let v = c.four.ensures.0 ∙ four-octets a.s.now i (λ (k : ℕ). omega (arith, c.type_inv.s k)) in
    (λ h. uint-cut a.s.now a.at a.n i (a.at - i * 8) 4 (omega arith) (omega arith) v c.cut.ensures.0, c.cut.ensures.1)
