use Rattle.acse_apdus.proofs.ApduLaws.{hears_short, hears_extended, hears_no_index, hears_unlisted, hears_body}
use borrow.Author.Rules.{rules}
use Rattle.acse_apdus.proofs.read_apdu.Goals as goal

pub returns-then-c-ne0 : goal.returns-then-c-ne0
returns-then-c-ne0 c = hears_short (rw c.bits.ensures at c.few-extension.ensures) c.if-c-ne0.true

pub returns-then-extension-ne0 : goal.returns-then-extension-ne0
returns-then-extension-ne0 c = rw (c.heard.ensures, c.unread.ensures) (hears_extended (rw c.bits.ensures at c.few-extension.ensures) c.if-c-ne0.false c.if-extension-ne0.true)

pub returns-then-d-ne0 : goal.returns-then-d-ne0
returns-then-d-ne0 c = hears_no_index (rw c.bits.ensures at c.few-extension.ensures) c.if-c-ne0.false c.if-extension-ne0.false c.few-index.ensures c.if-d-ne0.true

pub returns-then-pdu-gt4 : goal.returns-then-pdu-gt4
returns-then-pdu-gt4 c = hears_unlisted (rw c.bits.ensures at c.few-extension.ensures) c.if-c-ne0.false c.if-extension-ne0.false c.few-index.ensures c.if-d-ne0.false c.if-pdu-gt4.true

pub returns : goal.returns
returns c = rw c.heard-2.ensures (hears_body (rw c.bits.ensures at c.few-extension.ensures) c.if-c-ne0.false c.if-extension-ne0.false c.few-index.ensures c.if-d-ne0.false (search rules) c.read_body-body.ensures)
