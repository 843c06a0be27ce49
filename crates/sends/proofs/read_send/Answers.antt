use mathlib.Core.Path.{refl}
use native.Mathlib.Omega.{arith}
use Rattle.records.proofs.Telling.{told-length}
use Rattle.integrity.proofs.IntegrityLaws.{integrity_lost, integrity-clear}
use Rattle.sends.proofs.SendLaws.{one_table, send_held, send_read}
use Rattle.sends.proofs.read_send.Goals as goal

pub read_found-x-requires : goal.read_found-x-requires
read_found-x-requires c =
    let h = send_held _ _ _ c.requires.0 c.requires.1 c.requires.4 c.bits.ensures c.requires.5 in
    (c.requires.0, omega (arith, c.emit-n.ensures.few, c.emit-m.ensures.few), c.requires.2, c.requires.3, h.ordered, h.held)

pub returns-then-d-ne0 : goal.returns-then-d-ne0
returns-then-d-ne0 c down up q =
    let string = c.read_found-x.ensures _ refl (send_held _ _ _ c.requires.0 c.requires.1 c.requires.4 c.bits.ensures c.requires.5) in
    send_read _ _ _ c.requires.0 c.requires.1 c.requires.4 down up c.emit-m.ensures c.emit-n.ensures q string (integrity_lost c.if-d-ne0.true)

pub shape_of-words-then-d-ne0 : goal.shape_of-words-then-d-ne0
shape_of-words-then-d-ne0 c = told-length (returns-then-d-ne0 c _ _ (one_table _ _)).told

pub returns-then-none-eq0 : goal.returns-then-none-eq0
returns-then-none-eq0 c down up q =
    let string = c.read_found-x.ensures _ refl (send_held _ _ _ c.requires.0 c.requires.1 c.requires.4 c.bits.ensures c.requires.5) in
    send_read _ _ _ c.requires.0 c.requires.1 c.requires.4 down up c.emit-m.ensures c.emit-n.ensures q string (integrity-clear c.bits-none.ensures c.if-d-ne0.false c.if-e-eq0.true c.if-none-eq0.true)

pub shape_of-words-then-none-eq0 : goal.shape_of-words-then-none-eq0
shape_of-words-then-none-eq0 c = told-length (returns-then-none-eq0 c _ _ (one_table _ _)).told

pub read_integrity-requires : goal.read_integrity-requires
read_integrity-requires c =
    let string = c.read_found-x.ensures _ refl (send_held _ _ _ c.requires.0 c.requires.1 c.requires.4 c.bits.ensures c.requires.5) in
    (c.requires.0, omega (arith, string.told.few, c.emit-n.ensures.few, c.emit-m.ensures.few))

pub returns : goal.returns
returns c down up q =
    let string = c.read_found-x.ensures _ refl (send_held _ _ _ c.requires.0 c.requires.1 c.requires.4 c.bits.ensures c.requires.5) in
    send_read _ _ _ c.requires.0 c.requires.1 c.requires.4 down up c.emit-m.ensures c.emit-n.ensures q string c.read_integrity.ensures

pub shape_of-words : goal.shape_of-words
shape_of-words c = told-length (returns c _ _ (one_table _ _)).told

pub overflow_add-end : goal.overflow_add-end
overflow_add-end c = omega (arith, c.requires.0, c.requires.5)

pub overflow_add-window : goal.overflow_add-window
overflow_add-window c = omega (arith, c.requires.0, c.requires.5)

pub overflow_add-end-2 : goal.overflow_add-end-2
overflow_add-end-2 c = omega (arith, c.requires.0, c.requires.5)
