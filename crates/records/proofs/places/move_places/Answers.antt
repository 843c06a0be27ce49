use Rattle.std.proofs.Common.{◌≡◌, ℕ, ◌+◌, ◌-◌, ◌*◌, ◌<◌, ◌≤◌, min, List, length, sym, refl, ap, ◌∙◌, arith}
use Rattle.atn.specs.Entries.{need}
use Rattle.records.specs.Space.{size, space}
use Rattle.records.specs.Moves.{raised_places}
use Rattle.records.proofs.Moving.{raised-length, raised-then, raised_out}
use Rattle.records.proofs.places.move_places.Invariants.{Moved}
use Rattle.records.proofs.places.move_places.Goals as goal

-- the words of n records
fives : (n : ℕ) → space n ≡ n * 5
unfolding space size need
fives n = refl

module _ {a : ℕ} {w₀ : List ℕ} {at₀ : ℕ} where
  none : Moved a w₀ at₀ w₀ at₀
  unfolding raised_places
  none = record { k = 0; on = omega (arith, fives 0); words = refl }

  module _ {w : List ℕ} {at : ℕ} (x : Moved a w₀ at₀ w at) where
    room : length w ≡ length w₀
    room = ap length x.words ∙ raised-length a x.k at₀ w₀

    -- with those of j more
    more-words : {v : List ℕ} (j : ℕ) → v ≡ raised_places a j at w → v ≡ raised_places a (x.k + j) at₀ w₀
    more-words j e = e ∙ rw (x.on, x.words) (sym (raised-then a x.k j at₀ w₀))

    then : {v : List ℕ} {to : ℕ} → Moved a w at v to → Moved a w₀ at₀ v to
    then y = record { k = x.k + y.k; on = omega (arith, x.on, y.on, fives x.k, fives y.k, fives (x.k + y.k)); words = more-words y.k y.words }

    one_more : {v : List ℕ} → v ≡ raised_places a 1 at w → Moved a w₀ at₀ v (at + 5)
    one_more e = then (record { k = 1; on = omega (arith, fives 1); words = e })

    -- the records left are none, or have no room
    all : (n m : ℕ) → at₀ ≡ space n → at ≤ space m → min (space m) (length w₀) ≤ at + 4 → w ≡ raised_places a (m - n) (space n) w₀
    all n m q h s =
        let j : ℕ = m - n - x.k in
        let e : x.k + j ≡ m - n = omega (arith, x.on, fives n, fives m, fives x.k) in
        let o : 0 < j → length w ≤ at + 4 = λ p. omega (arith, room, x.on, fives n, fives m, fives x.k) in
        rw (e, q) at (more-words j (sym (raised_out a j at w o)))

pub returns-then-m-n : goal.returns-then-m-n
unfolding raised_places
returns-then-m-n c =
    let a = c.args in
    let z : a.m - a.n ≡ 0 = omega (arith, c.if-m-n.true) in
    sym (ap (λ (k : ℕ). raised_places a.by k (space a.n) a.words.now) z)

pub loop-at-init : goal.loop-at-init
loop-at-init c =
    let a = c.args in
    (omega (arith, c.words_for-at.ensures, c.if-m-n.false, fives a.n, fives a.m), none)

pub overflow_add-at : goal.overflow_add-at
overflow_add-at c =
    omega (arith, c.loop-at.invariant.0, fives c.args.m, c.requires)

pub loop-init : goal.loop-init
loop-init c = (omega arith, omega arith, none)

pub loop-at-smaller : goal.loop-at-smaller
loop-at-smaller c = omega (arith, c.loop.invariant.1, c.loop.invariant.0, c.loop-test.false, c.loop-at-test.true)

pub loop-at-preserved : goal.loop-at-preserved
loop-at-preserved c =
    let eight = c.loop.invariant in
    (omega (arith, eight.0, eight.1, c.loop-at-test.true, c.min-stop.ensures, c.words_for.ensures), then c.loop-at.invariant.1 eight.2)

pub move_place-requires : goal.move_place-requires
move_place-requires c =
    let some = c.loop.invariant in
    omega (arith, c.loop-test.true, some.1, room some.2, c.loop-at-test.true, room c.loop-at.invariant.1, c.min-stop.ensures)

pub overflow_add-at-in-loop : goal.overflow_add-at-in-loop
overflow_add-at-in-loop c =
    let some = c.loop.invariant in
    omega (arith, some.0, some.1, c.loop-at.invariant.0, fives c.args.m, c.requires)

pub loop-preserved : goal.loop-preserved
loop-preserved c =
    let some = c.loop.invariant in
    (omega (arith, c.loop-test.true), omega (arith, some.1), one_more some.2 c.move_place.ensures)

pub loop-at-2-init : goal.loop-at-2-init
loop-at-2-init c = (c.loop-at.invariant.0, none)

pub overflow_add-at-in-loop-at-2 : goal.overflow_add-at-in-loop-at-2
overflow_add-at-in-loop-at-2 c =
    omega (arith, c.loop-at-2.invariant.0, fives c.args.m, c.requires)

pub move_place-requires-in-loop-at-2 : goal.move_place-requires-in-loop-at-2
move_place-requires-in-loop-at-2 c =
    omega (arith, c.loop-at-2-test.true, room c.loop-at-2.invariant.1, room c.loop-at.invariant.1, c.min-stop.ensures)

pub overflow_add-at-in-loop-at-2-2 : goal.overflow_add-at-in-loop-at-2-2
overflow_add-at-in-loop-at-2-2 c =
    omega (arith, c.loop-at-2.invariant.0, fives c.args.m, c.requires)

pub loop-at-2-smaller : goal.loop-at-2-smaller
loop-at-2-smaller c = omega (arith, c.loop-at-2-test.true)

pub loop-at-2-preserved : goal.loop-at-2-preserved
loop-at-2-preserved c =
    (omega (arith, c.loop-at-2-test.true, c.min-stop.ensures, c.words_for.ensures), one_more c.loop-at-2.invariant.1 c.move_place-in-loop-at-2.ensures)

-- the two loops, one after another
both : (c : goal.After-loop-at-2) → Moved c.args.by c.args.words.now c.words_for-at.result c.loop-at-2.words c.loop-at-2.at
both c = then c.loop-at.invariant.1 c.loop-at-2.invariant.1

pub shape_of-words : goal.shape_of-words
shape_of-words c = room (both c)

pub returns : goal.returns
returns c =
    let a = c.args in
    all (both c) a.n a.m c.words_for-at.ensures c.loop-at-2.invariant.0 (omega (arith, c.loop-at-2-test.false, c.min-stop.ensures, c.words_for.ensures))

pub words_for-at-requires : goal.words_for-at-requires
words_for-at-requires c = omega arith
