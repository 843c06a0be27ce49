use mathlib.Core.Path.{refl}
use Rattle.acse_reasons.proofs.FormatLaws.{keeps-root, keeps-unread}
use Rattle.acse_bodies.proofs.SequenceLaws.{keeps-first, keeps_both}
use Rattle.acse_bodies.proofs.BodyLaws.{keeps-alone}
use Rattle.acse_bodies.proofs.read_abort.Goals as goal

pub returns-then-extension-ne0 : goal.returns-then-extension-ne0
returns-then-extension-ne0 c = rw c.unread.ensures (keeps-unread c.few-extension.ensures c.if-extension-ne0.true refl)

pub returns-then-presence-eq0 : goal.returns-then-presence-eq0
returns-then-presence-eq0 c = keeps-alone c.reason-source.result c.alone.ensures (keeps-root c.few-extension.ensures c.if-extension-ne0.false (keeps-first c.few-presence.ensures c.if-presence-eq0.true c.reason-source.ensures))

pub returns : goal.returns
returns c = keeps-root c.few-extension.ensures c.if-extension-ne0.false (keeps_both c.few-presence.ensures c.if-presence-eq0.false c.reason-source.ensures c.reason-diagnostic.ensures)
