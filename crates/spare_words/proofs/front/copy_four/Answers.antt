use mathlib.Core.Path.{◌≡◌}
use mathlib.Core.List.{List, ◌++◌}
use Prim.Native.Nat.{ℕ, ◌-◌, ◌≤◌}
use native.Mathlib.Omega.{arith}
use lib.ListN.{length, take, drop}
use borrow.Rule.Slice.PartMut.{put_mid, mid_of}
use Rattle.spare_words.proofs.CopyLaws.{Copied, tail_length, copied, copied_more}
use Rattle.spare_words.proofs.front.copy_four.Goals as goal

module _ (from v : List ℕ) {w : List ℕ} (h : 20 ≤ length from) (l : length from ≤ length v) (e : w ≡ take 10 from ++ drop 10 v) where
  two : Copied from v w 10
  two = copied 10 (omega (arith, h)) l e

  four : {t : List ℕ} → t ≡ take 10 (mid_of 10 (length from - 10) from) ++ drop 10 (mid_of 10 (length w - 10) w) → Copied from v (put_mid 10 (length w - 10) w t) 20
  four g = copied_more 10 two (omega (arith, h)) g

pub copy_two-requires : goal.copy_two-requires
copy_two-requires c = (omega (arith, c.requires.0), omega (arith, c.requires.0, c.requires.1))

pub copy_two-requires-2 : goal.copy_two-requires-2
copy_two-requires-2 c =
    let h = two c.args.from.now c.args.to.now c.requires.0 c.requires.1 c.copy_two.ensures in
    simp tail_length (omega (arith, c.requires.0), omega (arith, c.requires.0, c.requires.1, h.long))

pub shape_of-to : goal.shape_of-to
shape_of-to c = (four c.args.from.now c.args.to.now c.requires.0 c.requires.1 c.copy_two.ensures c.copy_two-2.ensures).long

pub returns : goal.returns
returns c = (four c.args.from.now c.args.to.now c.requires.0 c.requires.1 c.copy_two.ensures c.copy_two-2.ensures).front
