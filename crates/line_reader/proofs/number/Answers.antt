use mathlib.Core.Path.{◌≡◌, refl, ◌∙◌}
use Prim.Native.Nat.{◌+◌, ◌*◌, ◌^◌, ◌<◌}
use native.Mathlib.Omega.{arith}
use lib.ListN.{length}
use Rattle.book_lines.proofs.Digits.{grows}
use Rattle.line_reader.proofs.ReadLaws.{turn, no_digit, all, in-word, read, unread}
use Rattle.line_reader.proofs.number.Goals as goal
use Rattle.line_reader.proofs.number.Goals.{In_ok-d}

pub returns-in_err-d : goal.returns-in_err-d
returns-in_err-d c =
    let z = c.loop-c in
    rw c.from_residual.ensures record { is = z.invariant.1 ∙ no_digit c.args.text.now z.c-index z.x (omega arith) refl (unread c.in_err-d.ensures); small = tt }

-- the number with one digit more
fits : (c : In_ok-d) → c.loop-c.x * 16 + c.in_ok-d.d < 2 ^ 64
fits c = in-word c.loop-c.c-index c.loop-c.x c.in_ok-d.d c.loop-c.invariant.0 (read c.in_ok-d.ensures).1 (omega (arith, c.requires, c.loop-c-test.true))

pub loop-c-preserved : goal.loop-c-preserved
loop-c-preserved c =
    let z = c.loop-c in
    let d = read c.in_ok-d.ensures in
    (grows z.c-index z.x c.in_ok-d.d z.invariant.0 d.1, z.invariant.1 ∙ turn c.args.text.now z.c-index z.x (omega arith) d.0 d.1)

pub returns : goal.returns
returns c =
    let t = c.args.text.now in
    let z = c.loop-c in
    let e : z.c-index ≡ length t = omega arith in
    record { is = z.invariant.1 ∙ all t z.c-index z.x (omega arith); small = rw (← e) z.invariant.0 }

pub overflow_mul-x : goal.overflow_mul-x
overflow_mul-x c = omega (arith, fits (goal.at.overflow_mul-x c).In_ok-d)

pub overflow_add-x : goal.overflow_add-x
overflow_add-x c = omega (arith, fits (goal.at.overflow_add-x c).In_ok-d)
