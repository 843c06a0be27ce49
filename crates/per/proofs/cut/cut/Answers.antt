-- `per::cut::cut` meets its contract: the shift drops the bits behind, the remainder those before.
use Rattle.std.proofs.Common.{mod-lt, arith, pow_pos}
use Rattle.per.proofs.Laws.{one_shl, one-shl_pos, shifted}
use Rattle.per.proofs.cut.cut.Goals as goal

pub nonzero_rem-result-2 : goal.nonzero_rem-result-2
nonzero_rem-result-2 c = one-shl_pos c.args.n c.requires.2

pub returns : goal.returns
returns c =
    let a = c.args in
    let p = c.requires in
    rw (one_shl a.n p.2) (λ b. shifted a.v a.size a.skip a.n (omega arith) p.0 b c.wrapping_sub_usize.ensures.value, mod-lt _ (pow_pos a.n))
