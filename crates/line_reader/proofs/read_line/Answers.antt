-- Each way through the code is one of the definition.
use mathlib.Core.Path.{sym, ◌∙◌}
use native.Mathlib.Omega.{arith}
use Rattle.line_reader.proofs.ReadLaws.{short, long, chars, name-length, number-length, bytes-length, bad-name, bad-number, bad-bytes, whole, in_five}
use Rattle.book_lines.proofs.Digits.{two_digits_lem}
use Rattle.line_reader.proofs.read_line.Goals as goal

pub returns-then-n-lt16 : goal.returns-then-n-lt16
returns-then-n-lt16 c = short c.args.line.now c.if-n-lt16.true

pub returns-then-n-gt29 : goal.returns-then-n-gt29
returns-then-n-gt29 c = long c.args.line.now c.if-n-lt16.false c.if-n-gt29.true

pub slice_bounds-number-end : goal.slice_bounds-number-end
slice_bounds-number-end c = sym (name-length c.args.line.now c.if-n-lt16.false c.if-n-gt29.false)

pub number-requires : goal.number-requires
number-requires c = omega (arith, name-length c.args.line.now c.if-n-lt16.false c.if-n-gt29.false)

pub returns-in_err-name : goal.returns-in_err-name
returns-in_err-name c = rw c.from_residual.ensures (bad-name c.args.line.now c.if-n-lt16.false c.if-n-gt29.false c.in_err-name.ensures.is)

pub returns-in_err-frame : goal.returns-in_err-frame
returns-in_err-frame c = rw c.from_residual-in_err-frame.ensures (bad-number c.args.line.now c.if-n-lt16.false c.if-n-gt29.false c.in_ok-name.ensures.is c.in_err-frame.ensures.is)

pub returns-in_err-bytes : goal.returns-in_err-bytes
returns-in_err-bytes c = rw c.from_residual-in_err-bytes.ensures (bad-bytes c.args.line.now c.if-n-lt16.false c.if-n-gt29.false c.in_ok-name.ensures.is c.in_ok-frame.ensures.is c.in_err-bytes.ensures.is)

pub checked-requires : goal.checked-requires
checked-requires c =
    let l = c.args.line.now in
    let p = c.if-n-lt16.false in
    let q = c.if-n-gt29.false in
    (omega arith, omega arith, rw (name-length l p q, two_digits_lem (chars l p q)) at c.in_ok-name.ensures.small, rw (number-length l p q) at c.in_ok-frame.ensures.small, in_five _ _ (bytes-length l p q) c.in_ok-bytes.ensures.small)

pub returns : goal.returns
returns c = whole c.args.line.now c.if-n-lt16.false c.if-n-gt29.false c.in_ok-name.ensures.is c.in_ok-frame.ensures.is c.in_ok-bytes.ensures.is ∙ c.checked.ensures
