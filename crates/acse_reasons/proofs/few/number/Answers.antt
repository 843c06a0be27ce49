-- `few::number` meets its contract: one octet holds the bits, where they are there, or two.
use Rattle.std.proofs.Common.{◌≡◌, ℕ, ◌+◌, ◌*◌, ◌/◌, ◌%◌, ◌<◌, List, get_or, sym, arith}
use Rattle.x691.specs.Bits.{bit_of, uint}
use Rattle.per.proofs.Laws.{uint-below, uint-cut, uint-octet, octets-join}
use Rattle.acse_reasons.proofs.few.number.Goals as goal

two_octets : (s : List ℕ) (i : ℕ) → ((k : ℕ) → get_or s k 0 < 256) → get_or s i 0 * 256 + get_or s (i + 1) 0 ≡ uint (bit_of s) (8 * i) 16
two_octets s i g = omega (arith, uint-octet s i (g i), uint-octet s (i + 1) (g (i + 1)), octets-join s i 1 1)

none : (s : List ℕ) (at n : ℕ) → n ≡ 0 → 0 ≡ uint (bit_of s) at n
none s at n z = rw z (omega (arith, uint-below s at 0))

pub overflow_cast-s : goal.overflow_cast-s
overflow_cast-s c = let a = c.args in omega (arith, c.type_inv.s (a.at / 8))

pub returns-then-i-s : goal.returns-then-i-s
returns-then-i-s c =
    let a = c.args in
    let s = a.s.now in
    let o = uint-octet s (a.at / 8) (omega (arith, c.type_inv.s (a.at / 8))) in
    λ h. uint-cut s a.at a.n (a.at / 8) (a.at % 8) 1 (omega arith) (omega (arith, c.if-behind-le8.true)) (sym o) (λ _. c.cut.ensures)

-- no bits, where there is no octet of theirs
pub returns-then-behind-le8 : goal.returns-then-behind-le8
returns-then-behind-le8 c = let a = c.args in λ h. none a.s.now a.at a.n (omega (arith, h, c.if-i-s.false))

pub returns-then-i-s-2 : goal.returns-then-i-s-2
returns-then-i-s-2 c =
    let a = c.args in
    let s = a.s.now in
    let i = a.at / 8 in
    let g : (k : ℕ) → get_or s k 0 < 256 = λ k. omega (arith, c.type_inv.s k) in
    let v : c.four.result ≡ uint (bit_of s) (8 * i) 16 = omega (arith, c.four.ensures.0, two_octets s i g) in
    λ h. uint-cut s a.at a.n i (a.at % 8) 2 (omega arith) (omega arith) v (λ _. c.cut-then-i-s-2.ensures)
