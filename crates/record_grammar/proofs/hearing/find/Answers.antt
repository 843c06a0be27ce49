use mathlib.Core.Path.{◌≡◌, refl, sym, ◌∙◌}
use Prim.Native.Nat.{◌+◌, ◌-◌}
use native.Mathlib.Omega.{arith}
use Rattle.record_grammar.proofs.HearingLaws.{found_here, found-later, found_none}
use Rattle.record_grammar.proofs.hearing.find.Goals as goal

pub loop-init : goal.loop-init
loop-init c = refl

pub returns-then-does_fit : goal.returns-then-does_fit
returns-then-does_fit c =
    let e = c.args in
    let l = c.loop in
    sym (l.invariant ∙ found_here e.rows.now e.s e.x (64 - l.counter) l.k (omega (arith, c.loop-test.true)) c.resolve-j.ensures c.row_at-r.ensures c.does_fit.ensures c.if-does_fit.true)

pub loop-preserved : goal.loop-preserved
loop-preserved c =
    let e = c.args in
    let l = c.loop in
    let z : 64 - l.counter - 1 ≡ 64 - (l.counter + 1) = omega arith in
    rw z at (l.invariant ∙ found-later e.rows.now e.s e.x (64 - l.counter) l.k (omega (arith, c.loop-test.true)) c.resolve-j.ensures c.row_at-r.ensures c.does_fit.ensures c.if-does_fit.false c.ask-k.ensures)

pub returns : goal.returns
returns c =
    let e = c.args in
    let l = c.loop in
    sym (l.invariant ∙ found_none e.rows.now e.s e.x (64 - l.counter) l.k (omega (arith, c.loop-test.false)))
