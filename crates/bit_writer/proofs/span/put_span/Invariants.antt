-- `bit_writer::span::put_span` meets its contract. The loop's invariant: the first i runs are put, and the others still to put.
use mathlib.Core.Path.{◌≡◌}
use Prim.Native.Nat.{◌+◌, ◌-◌, ◌*◌}
use Rattle.x691.specs.Bits.{bit_of, stretch}
use Rattle.bit_writer.specs.Put.{set_bits}
use Rattle.bit_writer.proofs.span.put_span.Given as goal

abbrev pub invariant-loop-i : goal.invariant-loop-i
invariant-loop-i l = set_bits l.initial.out l.at (stretch (bit_of l.src) l.from l.n) ≡ set_bits l.out (l.at + l.i * 56) (stretch (bit_of l.src) (l.from + l.i * 56) (l.n - l.i * 56))
