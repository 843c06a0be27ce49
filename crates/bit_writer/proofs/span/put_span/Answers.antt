use mathlib.Core.Path.{◌≡◌, refl, sym, ap, ◌∙◌}
use mathlib.Core.Bool.{Bool, true, false}
use mathlib.Core.List.{List}
use Prim.Native.Nat.{ℕ, ◌+◌, ◌-◌, ◌*◌, ◌≤◌, ◌<◌, min}
use native.Mathlib.Omega.{arith}
use lib.Dec.{leb}
use borrow.Author.Tests.{leb-true, leb-false}
use Rattle.x691.specs.Bits.{bit_of, uint, bits_of, stretch}
use Rattle.x691.proofs.BitLaws.{bit_of-lt}
use Rattle.bit_writer.specs.Put.{set_bits}
use Rattle.bit_writer.proofs.PutLaws.{set_bits-join}
use Rattle.bit_writer.proofs.Stretches.{stretch-join, stretch-length, stretch-number}
use Rattle.bit_writer.proofs.span.put_span.Goals as goal

-- a turn puts m bits more
turn : (s t a : List ℕ) (p q m n v : ℕ) → m ≤ n → v ≡ uint (bit_of a) q m → t ≡ set_bits s p (bits_of m v) → set_bits s p (stretch (bit_of a) q n) ≡ set_bits t (p + m) (stretch (bit_of a) (q + m) (n - m))
turn s t a p q m n v h u e =
    let b = bit_of a in
    let k : n ≡ m + (n - m) = omega arith in
    let f : t ≡ set_bits s p (stretch b q m) = e ∙ rw (u, stretch-number b (bit_of-lt a) q m) in
    ap (λ (l : ℕ). set_bits s p (stretch b q l)) k
    ∙ ap (set_bits s p) (stretch-join b q m (n - m))
    ∙ set_bits-join s p (stretch b q m) (stretch b (q + m) (n - m))
    ∙ rw (stretch-length b q m, f)

none : (s : List ℕ) (p : ℕ) (b : ℕ → ℕ) (q n : ℕ) → n ≡ 0 → set_bits s p (stretch b q n) ≡ s
unfolding set_bits stretch
none s p b q n h = rw h

-- a run of 56 bits, or what is left
run : (s t a : List ℕ) (p q i m n v : ℕ) → i * 56 < n → m ≡ min (n - i * 56) 56 → v ≡ uint (bit_of a) (q + i * 56) m → t ≡ set_bits s (p + i * 56) (bits_of m v)
    → set_bits s (p + i * 56) (stretch (bit_of a) (q + i * 56) (n - i * 56)) ≡ set_bits t (p + (i + 1) * 56) (stretch (bit_of a) (q + (i + 1) * 56) (n - (i + 1) * 56))
run s t a p q i m n v l h u e = turn s t a (p + i * 56) (q + i * 56) m (n - i * 56) v (omega arith) u e ∙ go (leb 56 (n - i * 56)) refl
  where
    go : (z : Bool) → leb 56 (n - i * 56) ≡ z → set_bits t (p + i * 56 + m) (stretch (bit_of a) (q + i * 56 + m) (n - i * 56 - m)) ≡ set_bits t (p + (i + 1) * 56) (stretch (bit_of a) (q + (i + 1) * 56) (n - (i + 1) * 56))
    go true z =
        let w : 56 ≤ n - i * 56 = leb-true 56 (n - i * 56) z in
        let x : p + i * 56 + m ≡ p + (i + 1) * 56 = omega arith in
        let y : q + i * 56 + m ≡ q + (i + 1) * 56 = omega arith in
        let k : n - i * 56 - m ≡ n - (i + 1) * 56 = omega arith in
        rw (x, y, k) refl
    go false z =
        let w : n - i * 56 < 56 = leb-false 56 (n - i * 56) z in
        none t _ _ _ _ (omega arith) ∙ sym (none t _ _ _ _ (omega arith))

none_put : (p q n : ℕ) (s : List ℕ) (b : ℕ → ℕ) → set_bits s p (stretch b q n) ≡ set_bits s (p + 0 * 56) (stretch b (q + 0 * 56) (n - 0 * 56))
none_put p q n s b =
    let x : p + 0 * 56 ≡ p = omega arith in
    let y : q + 0 * 56 ≡ q = omega arith in
    let k : n - 0 * 56 ≡ n = omega arith in
    rw (x, y, k) refl

pub loop-i-init : goal.loop-i-init
loop-i-init c = none_put c.args.at c.args.from c.args.n _ _

pub uint-requires : goal.uint-requires
uint-requires c = omega arith

pub put-requires : goal.put-requires
put-requires c = (omega arith, c.uint.ensures.1, omega arith)

pub loop-i-preserved : goal.loop-i-preserved
loop-i-preserved c =
    let a = c.args in
    let z = c.loop-i in
    z.invariant ∙ run z.out _ a.src.now a.at a.from z.i c.chunk-m.result a.n c.uint.result (omega arith) c.chunk-m.ensures (c.uint.ensures.0 (omega arith)) c.put.ensures

pub returns : goal.returns
returns c =
    let z = c.loop-i in
    sym (z.invariant ∙ none z.out _ _ _ _ (omega arith))
