use mathlib.Core.Path.{◌≡◌, refl, ap, ◌∙◌}
use mathlib.Core.List.{◌++◌}
use Prim.Native.Nat.{ℕ, ◌+◌, ◌-◌}
use native.Mathlib.Omega.{arith}
use lib.ListN.{take, drop, length-set}
use Rattle.book_lines.specs.Lines.{digits}
use Rattle.book_lines.proofs.LineLaws.{turn, finished}
use Rattle.book_lines.proofs.put_digits.Goals as goal

pub loop-k-preserved : goal.loop-k-preserved
loop-k-preserved c =
    let z = c.loop-k in
    let a = c.args in
    let k = z.k - 1 in
    let e : z.k ≡ k + 1 = omega arith in
    (omega arith, length-set z.out (a.at + k) c.digit.result ∙ z.invariant.1, rw c.digit.ensures (turn a.at k z.rest z.out (omega arith) (z.invariant.2 ∙ ap (λ (j : ℕ). take a.at z.out ++ digits j z.rest ++ drop (a.at + j) z.out) e)))

pub returns : goal.returns
returns c =
    let z = c.loop-k in
    let a = c.args in
    let k : z.k ≡ 0 = omega arith in
    finished a.at a.n a.x z.rest a.out.now z.out (z.invariant.2 ∙ rw k)

pub loop-k-init : goal.loop-k-init
loop-k-init c = (omega arith, refl, refl)
