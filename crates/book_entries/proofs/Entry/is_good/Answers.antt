-- Each test of the code is one of the definition.
use Prim.Native.Nat.{◌/◌}
use native.Mathlib.Omega.{arith}
use native.Mathlib.Nat.{one-le-pow}
use lib.Dec.{lit≤}
use borrow.Author.Tests.{lt-leb, le-leb}
use Rattle.book_entries.specs.Entries.{good}
use Rattle.book_entries.proofs.Entry.is_good.Goals as goal

pub returns-then-size-lt2 : goal.returns-then-size-lt2
unfolding good
returns-then-size-lt2 c = let s = c.args.self.shape / 1048576 in simp (lt-leb 2 s (omega arith))

pub returns-then-size-gt8 : goal.returns-then-size-gt8
unfolding good
returns-then-size-gt8 c = let s = c.args.self.shape / 1048576 in simp (le-leb 2 s (omega arith), lt-leb s 8 (omega arith))

pub nonzero_rem-result : goal.nonzero_rem-result
nonzero_rem-result c = rw c.unit.ensures (one-le-pow _ 256 (lit≤ tt))

pub returns-then-not-plain : goal.returns-then-not-plain
unfolding good
returns-then-not-plain c = let s = c.args.self.shape / 1048576 in simp (le-leb 2 s (omega arith), le-leb s 8 (omega arith), ← c.plain.ensures, c.if-not-plain.true)

pub returns-then-not-plain-2 : goal.returns-then-not-plain-2
unfolding good
returns-then-not-plain-2 c = let s = c.args.self.shape / 1048576 in simp (le-leb 2 s (omega arith), le-leb s 8 (omega arith), ← c.plain.ensures, c.if-not-plain.false, ← c.plain-2.ensures, c.if-not-plain-2.true)

pub returns : goal.returns
unfolding good
returns c = let s = c.args.self.shape / 1048576 in rw (c.unit.ensures, c.text.ensures, c.size-size.ensures) (simp (le-leb 2 s (omega arith), le-leb s 8 (omega arith), ← c.plain.ensures, c.if-not-plain.false, ← c.plain-2.ensures, c.if-not-plain-2.false))
