use Prim.Native.Nat.{◌<◌}
use native.Mathlib.Omega.{arith}
use Rattle.record_views.specs.View.{count}
use Rattle.record_views.proofs.ViewLaws.{stands, record_there, record_past}
use Rattle.record_views.proofs.record_at.Goals as goal

pub overflow_mul-at : goal.overflow_mul-at
overflow_mul-at c =
    let e = c.args in
    let h : e.i < count e.words.now = rw c.records_in.ensures at c.if-i-records_in.true in
    rw c.words_for.ensures (omega (arith, stands e.words.now e.i h))

pub record_from-requires : goal.record_from-requires
record_from-requires c =
    let e = c.args in
    let h : e.i < count e.words.now = rw c.records_in.ensures at c.if-i-records_in.true in
    rw c.words_for.ensures (stands e.words.now e.i h)

pub returns-then-i-records_in : goal.returns-then-i-records_in
returns-then-i-records_in c =
    let e = c.args in
    let h : e.i < count e.words.now = rw c.records_in.ensures at c.if-i-records_in.true in
    rw (c.record_from.ensures, c.words_for.ensures, record_there e.words.now e.i h)

pub returns : goal.returns
returns c =
    let e = c.args in
    let h = rw c.records_in.ensures at c.if-i-records_in.false in
    rw (record_past e.words.now e.i h)
