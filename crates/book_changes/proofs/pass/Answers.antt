-- Where the entry stays, the words do.
use mathlib.Core.Path.{ap, ◌∙◌}
use native.Mathlib.Omega.{arith}
use Rattle.book_entries.specs.declared.Entry.{Entry}
use Rattle.book_changes.proofs.ChangeLaws.{put, put_same, goes_before, goes_on}
use Rattle.book_changes.proofs.pass.Goals as goal

pub returns-then-e-f : goal.returns-then-e-f
returns-then-e-f c =
    let a = c.args in
    let g = goes_before c.entry_at-f.ensures c.if-e-f.true in
    (g.0, c.put_entry.ensures ∙ ap (λ (f : Entry). put a.book.now a.i f) g.1)

pub returns : goal.returns
returns c =
    let a = c.args in
    let g = goes_on c.entry_at-f.ensures c.if-e-f.false in
    (g.0, put_same a.book.now a.i (omega arith) ∙ ap (λ (f : Entry). put a.book.now a.i f) g.1)
