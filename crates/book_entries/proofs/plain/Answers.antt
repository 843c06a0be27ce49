-- Each test of the code is one of the definition.
use Prim.Native.Nat.{◌/◌, ◌%◌}
use native.Mathlib.Omega.{arith}
use borrow.Author.Tests.{lt-ltb, le-ltb}
use Rattle.book_entries.specs.Entries.{plain}
use Rattle.book_entries.proofs.plain.Goals as goal

pub returns-then-x-ge128 : goal.returns-then-x-ge128
unfolding plain
returns-then-x-ge128 c = let x = c.args.x in simp (le-ltb (x % 256) 128 (omega arith))

pub returns-then-x-ge128-2 : goal.returns-then-x-ge128-2
unfolding plain
returns-then-x-ge128-2 c = let x = c.args.x in simp (lt-ltb (x % 256) 128 (omega arith), le-ltb (x / 256 % 256) 128 (omega arith))

pub returns-then-x-ge128-3 : goal.returns-then-x-ge128-3
unfolding plain
returns-then-x-ge128-3 c = let x = c.args.x in simp (lt-ltb (x % 256) 128 (omega arith), lt-ltb (x / 256 % 256) 128 (omega arith), le-ltb (x / 65536 % 256) 128 (omega arith))

pub returns : goal.returns
unfolding plain
returns c = let x = c.args.x in simp (lt-ltb (x % 256) 128 (omega arith), lt-ltb (x / 256 % 256) 128 (omega arith), lt-ltb (x / 65536 % 256) 128 (omega arith))
