use Rattle.std.proofs.Common.{refl, arith}
use Rattle.per.proofs.Widths.{width-le}
use Rattle.acse_reasons.proofs.NoteLaws.{noted}
use Rattle.acse_reasons.proofs.FormatLaws.{keeps-root, keeps-extended, keeps-number}
use Rattle.acse_reasons.proofs.reasons.reason.Goals as goal

pub returns-then-extension-ne0 : goal.returns-then-extension-ne0
returns-then-extension-ne0 c = rw c.extended.ensures (simp noted (keeps-extended c.few-extension.ensures c.if-extension-ne0.true refl _))

pub few-number-requires : goal.few-number-requires
few-number-requires c = omega (arith, c.bits_for.ensures.0, width-le 8 c.args.highest c.requires)

pub returns : goal.returns
returns c =
    let a = c.args in
    rw c.note_at.ensures
    (simp noted
    (keeps-root c.few-extension.ensures c.if-extension-ne0.false (keeps-number a.tag a.highest (omega arith) (omega arith) (rw c.bits_for.ensures.0 at c.few-number.ensures) (rw (← c.above.ensures) c.mark-d.ensures))))
