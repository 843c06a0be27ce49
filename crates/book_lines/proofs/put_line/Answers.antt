-- The parts of the line, one behind the other.
use mathlib.Core.Path.{refl, ap, ◌∙◌}
use Prim.Native.Nat.{◌*◌, ◌/◌, ◌-◌, ◌^◌}
use native.Mathlib.Nat.{one-le-pow}
use native.Mathlib.Omega.{arith}
use lib.Dec.{lit≤}
use lib.ListN.{length}
use Rattle.book_entries.specs.Entries.{text, size, bytes}
use Rattle.book_lines.specs.Lines.{digits, line}
use Rattle.book_lines.proofs.LineLaws.{digits-length, line-length, put-length, chained}
use Rattle.book_lines.proofs.put_line.Goals as goal

pub nonzero_div-text : goal.nonzero_div-text
nonzero_div-text c = rw c.unit.ensures (one-le-pow _ 256 (lit≤ tt))

pub returns : goal.returns
unfolding line
returns c =
    let a = c.args in
    let d = c.name_digits-width in
    let name = digits (size a.e * 2) (text a.e / 256 ^ (8 - size a.e)) in
    let number = digits 8 a.e.number in
    let last = digits 5 (bytes a.e) in
    let p = digits-length (size a.e * 2) (text a.e / 256 ^ (8 - size a.e)) in
    let q = digits-length 8 a.e.number in
    let r = digits-length 5 (bytes a.e) in
    chained a.at name number last a.out.now 10
    (rw (d.ensures, c.text.ensures, c.unit.ensures, c.size.ensures) at c.put_digits.ensures)
    (rw c.from.ensures at c.put_digits-2.ensures)
    (omega (arith, d.ensures, p))
    (rw (c.from-2.ensures, c.bytes.ensures) at c.put_digits-3.ensures)
    (omega (arith, q))
    refl
    (omega (arith, r))
    (omega (arith, d.ensures, c.requires))

pub shape_of-out : goal.shape_of-out
shape_of-out c = let a = c.args in ap length (returns c) ∙ put-length a.at (line a.e) a.out.now (omega (arith, line-length a.e, c.requires))
