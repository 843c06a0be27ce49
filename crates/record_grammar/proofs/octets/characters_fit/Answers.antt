use mathlib.Core.Bool.{true, ◌&&◌}
use mathlib.Core.Path.{◌≡◌}
use Prim.Native.Nat.{ℕ, ◌+◌, zero, suc, ◌-◌, ◌%◌, ◌/◌, ◌<◌}
use native.Mathlib.Omega.{arith}
use borrow.Author.Tests.{not-true, not-false}
use Rattle.record_grammar.specs.Octets.{octet_or, octets_fit, characters_fit}
use Rattle.record_grammar.proofs.octets.characters_fit.Goals as goal

-- one octet, and the others
one_more : (rule spare k j a b : ℕ) → 0 < k → j ≡ k - 1 → octets_fit rule spare k a b ≡ octet_or rule spare (a % 256) (b % 256) && octets_fit rule (spare - 1) j (a / 256) (b / 256)
unfolding octets_fit
one_more rule spare zero j a b h i = elim h [ ]
one_more rule spare (suc k) j a b h i = let e : j ≡ k = omega (arith, i) in rw e

none_left : (rule spare k a b : ℕ) → k ≡ 0 → octets_fit rule spare k a b ≡ true
unfolding octets_fit
none_left rule spare k a b h = rw h

pub loop-init : goal.loop-init
unfolding characters_fit
loop-init c = rw c.saturating_sub-spare.ensures

pub returns-then-not-octet_or : goal.returns-then-not-octet_or
returns-then-not-octet_or c =
    let l = c.loop in
    let z = c.octet_or.ensures in
    rw (l.invariant, one_more _ l.spare (8 - l.counter) (8 - (l.counter + 1)) l.a l.b (omega arith) (omega arith), ← z, not-true c.octet_or.result (rw c.if-not-octet_or.true))

pub loop-preserved : goal.loop-preserved
loop-preserved c =
    let l = c.loop in
    let z = c.octet_or.ensures in
    rw (l.invariant, one_more _ l.spare (8 - l.counter) (8 - (l.counter + 1)) l.a l.b (omega arith) (omega arith), ← z, not-false c.octet_or.result (rw c.if-not-octet_or.false), c.saturating_sub-spare-in-loop.ensures)

pub returns : goal.returns
returns c = let l = c.loop in rw (l.invariant, none_left _ l.spare (8 - l.counter) l.a l.b (omega (arith, c.loop-test.false)))
