use Prim.Native.Nat.{◌-◌}
use native.Mathlib.Nat.{le_refl}
use native.Mathlib.Omega.{arith}
use Rattle.spare_words.proofs.CopyLaws.{Copied, tail_length, copied_none, copied_on, copied_then, copied_more, copied_word, copied_all}
use Rattle.spare_words.proofs.copy.Goals as goal

pub loop-i-init : goal.loop-i-init
loop-i-init c = (le_refl _, copied_none c.requires)

pub copy_four-requires : goal.copy_four-requires
copy_four-requires c =
    let q = c.loop-i-test.true in
    let h = c.loop-i.invariant.1 in
    simp tail_length (omega (arith, q), omega (arith, q, h.fits, h.long))

pub copy_four-requires-in-loop-i : goal.copy_four-requires-in-loop-i
copy_four-requires-in-loop-i c =
    let q = c.loop-i-test.true in
    let h = copied_more 20 c.loop-i.invariant.1 (omega (arith, q)) c.copy_four.ensures in
    simp tail_length (omega (arith, q), omega (arith, q, h.fits, h.long))

pub loop-i-preserved : goal.loop-i-preserved
loop-i-preserved c =
    let q = c.loop-i-test.true in
    let l = c.loop-i in
    (omega (arith, l.invariant.0), copied_more 20 (copied_more 20 l.invariant.1 (omega (arith, q)) c.copy_four.ensures) (omega (arith, q)) c.copy_four-in-loop-i.ensures)

pub loop-i-2-init : goal.loop-i-2-init
loop-i-2-init c = (le_refl _, copied_on c.loop-i.invariant.1)

pub copy_two-requires : goal.copy_two-requires
copy_two-requires c =
    let q = c.loop-i-2-test.true in
    let h = c.loop-i-2.invariant.1 in
    simp tail_length (omega (arith, q), omega (arith, q, h.fits, h.long))

pub loop-i-2-preserved : goal.loop-i-2-preserved
loop-i-2-preserved c = (omega (arith, c.loop-i-2.invariant.0), copied_more 10 c.loop-i-2.invariant.1 c.loop-i-2-test.true c.copy_two.ensures)

pub loop-i-3-init : goal.loop-i-3-init
loop-i-3-init c = (le_refl _, copied_on c.loop-i-2.invariant.1)

pub copy_one-requires : goal.copy_one-requires
copy_one-requires c =
    let q = c.loop-i-3-test.true in
    let h = c.loop-i-3.invariant.1 in
    simp tail_length (omega (arith, q), omega (arith, q, h.fits, h.long))

pub loop-i-3-preserved : goal.loop-i-3-preserved
loop-i-3-preserved c = (omega (arith, c.loop-i-3.invariant.0), copied_more 5 c.loop-i-3.invariant.1 c.loop-i-3-test.true c.copy_one.ensures)

pub loop-i-4-init : goal.loop-i-4-init
loop-i-4-init c = (le_refl _, copied_on c.loop-i-3.invariant.1)

pub loop-i-4-preserved : goal.loop-i-4-preserved
loop-i-4-preserved c = (omega (arith, c.loop-i-4.invariant.0), copied_word c.loop-i-4.invariant.1 c.loop-i-4-test.true)

-- the four loops, one after another
all : (c : goal.After-loop-i-4) → Copied c.args.from.now c.args.to.now c.loop-i-4.to c.loop-i-4.i
all c =
    let l2 = c.loop-i-2 in
    let l3 = c.loop-i-3 in
    let l4 = c.loop-i-4 in
    copied_then (copied_then (copied_then c.loop-i.invariant.1 l2.invariant.0 l2.invariant.1) l3.invariant.0 l3.invariant.1) l4.invariant.0 l4.invariant.1

pub shape_of-to : goal.shape_of-to
shape_of-to c = (all c).long

pub returns : goal.returns
returns c = copied_all (all c) c.loop-i-4-test.false
