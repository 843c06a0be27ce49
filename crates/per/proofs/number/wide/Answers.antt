use Rattle.std.proofs.Common.{◌≡◌, ℕ, ◌+◌, ◌-◌, ◌*◌, ◌/◌, ◌%◌, ◌^◌, ◌<◌, ◌≤◌, List, get_or, sym, refl, ap, ◌∙◌, arith, pow_pos, shl_exact}
use Rattle.x691.specs.Bits.{bit_of, uint}
use Rattle.per.proofs.Laws.{uint-below, uint-below-wide, uint-split, uint-cut, uint-octet, octets-join, four-octets}
use Rattle.per.proofs.number.wide.Invariants.{Taken}
use Rattle.per.proofs.number.wide.Goals as goal

-- what octet i has of them behind the others
more : {s : List ℕ} {at n i skip v left take x : ℕ} → Taken s at n i skip v left → n ≤ 64 → 0 < left → take ≤ left → x ≡ uint (bit_of s) (8 * i + skip) take
    → v * 2 ^ take % 2 ^ 64 + x ≡ uint (bit_of s) at (n - (left - take))
more {s} {at} {n} {i} {skip} {v} {left} {take} {x} t l w h q =
    let b = bit_of s in
    let some = t.some in
    let e : n - left + take ≡ n - (left - take) = omega arith in
    let p : at + (n - left) ≡ 8 * i + skip = omega (arith, t.place w) in
    let k : v < 2 ^ (n - left) = rw t.value (uint-below s at (n - left)) in
    rw (shl_exact (n - left) take 64 k (omega arith), t.value, q, ← p) (sym (uint-split b at (n - left) take) ∙ ap (uint b at) e)

none : (s : List ℕ) (at n : ℕ) → 0 ≡ uint (bit_of s) at (n - n)
none s at n = let e : n - n ≡ 0 = omega arith in rw e (omega (arith, uint-below s at 0))

pub overflow_cast-s : goal.overflow_cast-s
overflow_cast-s c = let a = c.args in omega (arith, c.type_inv.s (a.at / 8))

pub returns-then-skip-n-le8 : goal.returns-then-skip-n-le8
returns-then-skip-n-le8 c =
    let a = c.args in
    let o = uint-octet a.s.now (a.at / 8) (omega (arith, c.type_inv.s (a.at / 8))) in
    (λ h. uint-cut a.s.now a.at a.n (a.at / 8) (a.at % 8) 1 (omega arith) (omega (arith, c.if-skip-n-le8.true)) (sym o) c.cut.ensures.0, c.cut.ensures.1)

pub returns-then-n-le57 : goal.returns-then-n-le57
returns-then-n-le57 c =
    let a = c.args in
    let s = a.s.now in
    let i = c.first-from.result in
    let g : (k : ℕ) → get_or s k 0 < 256 = λ k. omega (arith, c.type_inv.s k) in
    let fifth : i + 4 + 1 ≡ i + 5 = omega arith in
    let sixth : i + 4 + 2 ≡ i + 6 = omega arith in
    let seventh : i + 4 + 3 ≡ i + 7 = omega arith in
    let v : c.four-high.result * 4294967296 + c.four-low.result ≡ uint (bit_of s) (8 * i) 64 =
    omega (arith, c.four-high.ensures.0, c.four-low.ensures.0, four-octets s i g, rw (fifth, sixth, seventh) at (four-octets s (i + 4) g), octets-join s i 4 4) in
    (λ h. uint-cut s a.at a.n i (a.at - i * 8) 8 (omega arith) (omega arith) v c.cut-then-n-le57.ensures.0, c.cut-then-n-le57.ensures.1)

pub loop-left-init : goal.loop-left-init
loop-left-init c = let a = c.args in record { place = λ h. omega arith; some = omega arith; within = omega arith; value = none a.s.now a.at a.n }

-- the bits are not there
pub returns-then-s-i : goal.returns-then-s-i
returns-then-s-i c = let t = c.loop-left.invariant in (λ h. absurd (omega (arith, t.place c.loop-left-test.true, c.if-s-i.true)), pow_pos _)

pub overflow_sub-skip : goal.overflow_sub-skip
overflow_sub-skip c = omega (arith, c.loop-left.invariant.within)

pub overflow_cast-s-in-loop-left : goal.overflow_cast-s-in-loop-left
overflow_cast-s-in-loop-left c = let l = c.loop-left in omega (arith, c.type_inv.s l.i)

-- behind a turn
turn : (c : goal.After-cut-in-loop-left) →
    let l = c.loop-left in
    let a = c.args in
    let take = c.min-take.result in
    l.v * 2 ^ take % 2 ^ 64 + c.cut-in-loop-left.result ≡ uint (bit_of a.s.now) a.at (a.n - (l.left - take))
turn c =
    let l = c.loop-left in
    let a = c.args in
    let take = c.min-take.result in
    let s = a.s.now in
    let o = uint-octet s l.i (omega (arith, c.type_inv.s l.i)) in
    let k : l.skip + take ≤ 8 = omega (arith, l.invariant.within, c.min-take.ensures) in
    let h : take ≤ l.left = omega (arith, c.min-take.ensures) in
    more l.invariant c.requires c.loop-left-test.true h (uint-cut s (8 * l.i + l.skip) take l.i l.skip 1 refl k (sym o) c.cut-in-loop-left.ensures.0)

pub overflow_add-v : goal.overflow_add-v
overflow_add-v c =
    let a = c.args in
    let m = a.n - (c.loop-left.left - c.min-take.result) in
    omega (arith, turn c, uint-below-wide 64 a.s.now a.at m (omega arith))

pub loop-left-smaller : goal.loop-left-smaller
loop-left-smaller c =
    omega (arith, c.loop-left.invariant.within, c.loop-left-test.true, c.min-take.ensures)

pub loop-left-preserved : goal.loop-left-preserved
loop-left-preserved c =
    let t = c.loop-left.invariant in
    let e = c.min-take.ensures in
    record { place = λ h. omega (arith, t.place c.loop-left-test.true, t.within, e); some = omega (arith, t.some); within = omega arith; value = turn c }

pub returns : goal.returns
returns c =
    let l = c.loop-left in
    let a = c.args in
    let e : a.n - l.left ≡ a.n = omega (arith, c.loop-left-test.false) in
    let v : l.v ≡ uint (bit_of a.s.now) a.at a.n = rw e at l.invariant.value in
    (λ h. v, rw v (uint-below a.s.now a.at a.n))
