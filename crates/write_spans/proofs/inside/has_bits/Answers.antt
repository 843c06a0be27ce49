-- `write_spans::inside::has_bits` meets its contract: octets are counted by quotients.
use Prim.Native.Nat.{◌+◌, ◌*◌}
use native.Mathlib.Omega.{arith}
use lib.ListN.{length}
use borrow.Author.Tests.{leb-true, leb-false}
use Rattle.per.proofs.Laws.{leb_tells}
use Rattle.write_spans.proofs.inside.has_bits.Goals as goal

pub returns : goal.returns
returns c = leb_tells _ (c.args.from + c.args.n) (length c.args.src.now * 8) (λ t. omega (arith, leb-true)) (λ t. omega (arith, leb-false))
