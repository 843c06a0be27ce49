-- `has_unlisted` meets its contract: behind the header and the number of elements stand the elements.
use mathlib.Core.Path.{◌≡◌, refl, ◌∙◌}
use mathlib.Core.Bool.{false≢true}
use Prim.Native.Nat.{ℕ, ◌+◌, ◌*◌, ◌^◌}
use native.Mathlib.Omega.{arith}
use Rattle.x691.specs.Bits.{bit_of, uint}
use Rattle.per.proofs.Laws.{uint-below, uint-split}
use Rattle.ample_bits.proofs.AheadLaws.{first-spelt, ahead-next}
use Rattle.message.proofs.UnlistedLaws.{data_fails, message_fails}
use Rattle.message.proofs.unlisted.has_unlisted.Goals as goal

pub overflow_add-at : goal.overflow_add-at
overflow_add-at c = omega (arith, c.requires.0)

pub returns-then-s-at : goal.returns-then-s-at
returns-then-s-at c q = absurd (false≢true q)

pub overflow_add-at-2 : goal.overflow_add-at-2
overflow_add-at-2 c = omega (arith, c.requires.0)

pub returns-then-end-at : goal.returns-then-end-at
returns-then-end-at c q = absurd (false≢true q)

pub ahead-requires : goal.ahead-requires
ahead-requires c = omega (arith, c.if-s-at.false)

pub first-has-requires : goal.first-has-requires
first-has-requires c = (omega arith, omega arith)

pub overflow_add-p : goal.overflow_add-p
overflow_add-p c = omega (arith, c.requires.0)

pub header_bits-requires : goal.header_bits-requires
header_bits-requires c = let u = c.first-has.ensures ∙ first-spelt c.ahead.ensures 2 (omega arith) in omega (arith, u, uint-below c.args.s.now c.args.at 2)

pub overflow_add-p-2 : goal.overflow_add-p-2
overflow_add-p-2 c = omega (arith, c.header_bits.ensures.1, c.requires.0)

pub rest-v-requires : goal.rest-v-requires
rest-v-requires c = (omega (arith, c.if-s-at.false), omega (arith, c.header_bits.ensures.1, c.requires.0))

pub first-requires : goal.first-requires
first-requires c = (omega arith, omega arith)

pub overflow_add-count : goal.overflow_add-count
overflow_add-count c = omega arith

pub behind-requires : goal.behind-requires
behind-requires c = omega arith

pub overflow_add-p-3 : goal.overflow_add-p-3
overflow_add-p-3 c = omega (arith, c.header_bits.ensures.1, c.requires.0)

pub names_unlisted-requires : goal.names_unlisted-requires
names_unlisted-requires c =
    (omega (arith, c.if-s-at.false), omega (arith, c.header_bits.ensures.1, c.requires.0), ahead-next 4 c.rest-v.ensures refl c.behind.ensures (omega arith), c.requires.1, c.requires.2, omega arith, omega arith)

pub returns : goal.returns
returns c q n =
    let s = c.args.s.now in
    let p : ℕ = c.args.at + 2 + c.header_bits.result in
    let h = c.first-has.ensures ∙ first-spelt c.ahead.ensures 2 (omega arith) in
    let u = c.first.ensures ∙ first-spelt c.rest-v.ensures 4 (omega arith) in
    let v : uint (bit_of s) p 4 ≡ uint (bit_of s) p 1 * 2 ^ 3 + uint (bit_of s) (p + 1) 3 = uint-split (bit_of s) p 1 3 in
    let l = uint-below s (p + 1) 3 in
    message_fails _ _ _ _ n (omega (arith, c.if-end-at.false)) h (omega (arith, c.header_bits.ensures.0))
    (λ o i. data_fails _ _ _ _ o i (omega (arith, c.header_bits.ensures.1, c.if-end-at.false)) (omega (arith, u)) (λ m j. c.names_unlisted.ensures q m j i))
