use mathlib.Core.Path.{sym, ◌∙◌}
use native.Mathlib.Omega.{arith}
use borrow.Author.Tests.{leb-true}
use Rattle.sends.proofs.HeadLaws.{length-few}
use Rattle.cpdlc_frames.proofs.try_any.Goals as goal

pub overflow_add-send : goal.overflow_add-send
overflow_add-send c =
    let x = c.find_send-send.ensures c.if-send-ne0.true in
    omega (arith, c.requires.0, x.held, length-few x.sized)

pub try_send-requires : goal.try_send-requires
try_send-requires c =
    let p = c.requires in
    (p.0, p.1, p.2, p.3, p.4, p.5, c.find_send-send.ensures c.if-send-ne0.true, leb-true _ _ (sym c.holds.ensures ∙ c.if-holds.true))
