use Rattle.std.proofs.Common.{[], ◌∷◌, refl, arith}
use Rattle.x691.specs.Types.{extent}
use Rattle.x691.specs.Encoding.{width, width_in}
use Rattle.acse_reasons.proofs.NoteLaws.{noted}
use Rattle.acse_reasons.proofs.FormatLaws.{keeps-root, keeps-extended, keeps-listed}
use Rattle.acse_reasons.proofs.reasons.release_reason.Goals as goal

pub returns-then-extension-ne0 : goal.returns-then-extension-ne0
returns-then-extension-ne0 c = rw c.extended.ensures (simp noted (keeps-extended c.few-extension.ensures c.if-extension-ne0.true refl _))

pub few-index-requires : goal.few-index-requires
unfolding width width_in extent
few-index-requires c = omega (arith, c.width.ensures.0)

pub returns : goal.returns
unfolding width width_in extent
returns c =
    rw c.note_at.ensures
    (simp noted
    (keeps-root c.few-extension.ensures c.if-extension-ne0.false (keeps-listed _ 30 (0 ∷ 1 ∷ 30 ∷ []) (rw c.width.ensures.0 at c.few-index.ensures) (rw (← c.unlisted.ensures) c.mark-d.ensures))))
