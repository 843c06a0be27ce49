use mathlib.Core.Path.{sym}
use mathlib.Core.Bool.{false≢true}
use Rattle.record_lists.specs.Items.{plain}
use Rattle.pens.proofs.RestLaws.{record_last, record-value, record-element, record-tag, record-end}
use Rattle.pens.proofs.is_record.Goals as goal

pub returns-then-words-k-3 : goal.returns-then-words-k-3
returns-then-words-k-3 c = (λ b. record_last b c.args.records.words.now c.args.records.len c.args.i c.args.tag c.args.element c.args.value c.args.second c.requires c.if-i-records.true c.if-words-k.true c.if-words-k-2.true c.if-words-k-3.true, λ _. c.if-i-records.true)

pub returns-else-words-k-3 : goal.returns-else-words-k-3
returns-else-words-k-3 c = (λ b. sym (record-value b c.args.records.words.now c.args.records.len c.args.i c.args.tag c.args.element c.args.value c.args.second c.requires c.if-i-records.true c.if-words-k-3.false), λ h. absurd (false≢true h))

pub returns-else-words-k-2 : goal.returns-else-words-k-2
returns-else-words-k-2 c = (λ b. sym (record-element b c.args.records.words.now c.args.records.len c.args.i c.args.tag c.args.element c.args.value c.args.second c.requires c.if-i-records.true c.if-words-k-2.false), λ h. absurd (false≢true h))

pub returns-else-words-k : goal.returns-else-words-k
returns-else-words-k c = (λ b. sym (record-tag b c.args.records.words.now c.args.records.len c.args.i c.args.tag c.args.element c.args.value c.args.second c.requires c.if-i-records.true c.if-words-k.false), λ h. absurd (false≢true h))

pub returns-else-i-records : goal.returns-else-i-records
returns-else-i-records c = (λ b. sym (record-end b c.args.records.words.now c.args.records.len c.args.i (plain c.args.tag c.args.element c.args.value c.args.second) c.if-i-records.false), λ h. absurd (false≢true h))
