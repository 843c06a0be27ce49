-- What a good entry is, in numbers.
use mathlib.Core.Path.{◌≡◌}
use mathlib.Core.Bool.{true, ◌&&◌}
use Prim.Native.Nat.{ℕ, ◌/◌, ◌%◌, ◌-◌, ◌^◌, ◌≤◌, ◌<◌}
use native.Mathlib.Omega.{arith}
use lib.Dec.{leb, ltb, eqb}
use borrow.Author.Tests.{leb-true, ltb-true, eqb-true}
use Rattle.book_entries.specs.declared.Entry.{Entry}
use Rattle.book_entries.specs.Entries.{text, size, plain, good}
use Rattle.book_entries.proofs.Tests.{both}

plain-small : (x : ℕ) → plain x ≡ true → x < 4294967296
unfolding plain
plain-small x p =
    let a = both (ltb (x % 256) 128) (ltb (x / 256 % 256) 128 && (ltb (x / 65536 % 256) 128 && ltb (x / 16777216) 128)) p in
    let b = both (ltb (x / 256 % 256) 128) (ltb (x / 65536 % 256) 128 && ltb (x / 16777216) 128) a.1 in
    omega (arith, ltb-true (x / 16777216) 128 (both (ltb (x / 65536 % 256) 128) (ltb (x / 16777216) 128) b.1).1)

-- the numbers of a good entry
pub record Numbers (e : Entry) : Type 0 where
  pub least : 2 ≤ size e
  pub most : size e ≤ 8
  pub high : e.high < 4294967296
  pub low : e.low < 4294967296
  pub ends : text e % 256 ^ (8 - size e) ≡ 0

pub numbers : (e : Entry) → good e ≡ true → Numbers e
unfolding good
numbers e g =
    let z = eqb (text e % 256 ^ (8 - size e)) 0 in
    let a = both (leb 2 (size e)) (leb (size e) 8 && (plain e.high && (plain e.low && z))) g in
    let b = both (leb (size e) 8) (plain e.high && (plain e.low && z)) a.1 in
    let c = both (plain e.high) (plain e.low && z) b.1 in
    let d = both (plain e.low) z c.1 in
    record { least = leb-true 2 (size e) a.0; most = leb-true (size e) 8 b.0; high = plain-small e.high c.0; low = plain-small e.low d.0; ends = eqb-true (text e % 256 ^ (8 - size e)) 0 d.1 }
