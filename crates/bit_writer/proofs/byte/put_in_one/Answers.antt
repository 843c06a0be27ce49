-- `bit_writer::byte::put_in_one` meets its contract: the bits lie in one byte, which is replaced, or behind the last.
use mathlib.Core.Path.{sym, ◌∙◌}
use native.Mathlib.Omega.{arith}
use lib.Seq.{set_out}
use Rattle.bit_writer.proofs.Fields.{replaced}
use Rattle.bit_writer.proofs.Within.{within}
use Rattle.bit_writer.proofs.byte.put_in_one.Goals as goal

pub returns-then-i-out : goal.returns-then-i-out
unfolding replaced
returns-then-i-out c =
    let a = c.args in
    let p = c.requires in
    rw (within a.out.now a.at a.m a.x p.0 p.1, c.changed.ensures)

pub returns-else-i-out : goal.returns-else-i-out
returns-else-i-out c =
    let a = c.args in
    let p = c.requires in
    sym (within a.out.now a.at a.m a.x p.0 p.1 ∙ set_out a.out.now _ _ (omega arith))
