use mathlib.Core.Path.{refl}
use Rattle.acse_reasons.proofs.NoteLaws.{noted}
use Rattle.acse_reasons.proofs.FormatLaws.{keeps-root, keeps-unread}
use Rattle.acse_bodies.proofs.SequenceLaws.{keeps-absent, keeps_given}
use Rattle.acse_bodies.proofs.BodyLaws.{keeps-alone}
use Rattle.acse_bodies.proofs.read_release.Goals as goal

pub returns-then-extension-ne0 : goal.returns-then-extension-ne0
returns-then-extension-ne0 c = rw c.unread.ensures (keeps-unread c.few-extension.ensures c.if-extension-ne0.true refl)

pub returns-then-presence-eq0 : goal.returns-then-presence-eq0
returns-then-presence-eq0 c =
    keeps-alone c.note_at-absent.result c.alone.ensures (rw c.note_at-absent.ensures (simp noted (keeps-root c.few-extension.ensures c.if-extension-ne0.false (keeps-absent _ 0 2 c.few-presence.ensures c.if-presence-eq0.true))))

pub returns : goal.returns
returns c = keeps-alone c.release_reason-given.result c.alone-2.ensures (keeps-root c.few-extension.ensures c.if-extension-ne0.false (keeps_given _ 0 2 c.few-presence.ensures c.if-presence-eq0.false c.release_reason-given.ensures))
