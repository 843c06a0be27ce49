-- Each way through the code is one of the definition. What is known after each test is said once.
use mathlib.Core.Path.{◌≡◌, sym, ap, ◌∙◌}
use mathlib.Core.Bool.{true, false}
use Rattle.book_entries.specs.declared.Entry.{Entry}
use Rattle.book_entries.specs.Entries.{text, size, good}
use Rattle.book_entries.specs.Book.{holds, named, numbered, entries}
use Rattle.book_entries.proofs.Places.{inside_of}
use Rattle.book_search.proofs.SearchLaws.{Placed, placed, absent, held_if}
use Rattle.name_book.proofs.CallLaws.{first-of, add_taken, add-nameless, add_repeated, add_full, add-new}
use Rattle.name_book.proofs.add_at.Goals.{Else-is_some, Else-not-is_good, In-Some, In_default}
use Rattle.name_book.proofs.add_at.Goals as goal

is_free : (c : Else-is_some) → holds (numbered c.args.e.number) (entries c.args.places.now) ≡ false
is_free c = held_if (numbered c.args.e.number) (entries c.args.places.now) c.is_some.ensures c.find_number.ensures ∙ c.if-is_some.false

is-good : (c : Else-not-is_good) → good c.args.e ≡ true
is-good c = sym c.is_good.ensures ∙ c.if-not-is_good.false

at : (c : In-Some) → Placed (named (text c.args.e) (size c.args.e)) (entries c.args.places.now) c.in-Some.p
at c = placed (named (text c.args.e) (size c.args.e)) (entries c.args.places.now) (rw (c.name.ensures.0, c.name.ensures.1) at c.in-Some.ensures)

is-new : (c : In_default) → holds (named (text c.args.e) (size c.args.e)) (entries c.args.places.now) ≡ false
is-new c = absent (named (text c.args.e) (size c.args.e)) (entries c.args.places.now) (rw (c.name.ensures.0, c.name.ensures.1) at c.in_default.ensures)

pub returns-then-is_some : goal.returns-then-is_some
returns-then-is_some c =
    let a = c.args in
    add_taken a.places.now a.e c.requires (held_if (numbered a.e.number) (entries a.places.now) c.is_some.ensures c.find_number.ensures ∙ c.if-is_some.true)

pub returns-then-not-is_good : goal.returns-then-not-is_good
returns-then-not-is_good c =
    add-nameless c.args.places.now c.args.e c.requires (is_free (goal.at.returns-then-not-is_good c).Else-is_some) (sym c.is_good.ensures ∙ c.if-not-is_good.true)

pub entry_at-f-requires : goal.entry_at-f-requires
entry_at-f-requires c = inside_of c.args.places.now c.in-Some.p (at (goal.at.entry_at-f-requires c).In-Some).within

pub returns-in-Some : goal.returns-in-Some
returns-in-Some c =
    let o = goal.at.returns-in-Some c in
    let p = at o.In-Some in
    add_repeated c.args.places.now c.args.e c.requires (is_free o.Else-is_some) (is-good o.Else-not-is_good) p.there (ap (λ (f : Entry). f.number) (first-of c.args.places.now p c.entry_at-f.ensures))

pub returns-then-places-n : goal.returns-then-places-n
returns-then-places-n c =
    let o = goal.at.returns-then-places-n c in
    add_full c.args.places.now c.args.e c.requires (is_free o.Else-is_some) (is-good o.Else-not-is_good) (is-new o.In_default) (rw c.count-n.ensures.is at c.if-places-n.true)

pub returns : goal.returns
returns c =
    let o = goal.at.returns c in
    add-new c.args.places.now c.args.e c.requires (is_free o.Else-is_some) (is-good o.Else-not-is_good) (is-new o.In_default) (rw c.count-n.ensures.is at c.if-places-n.false) c.insert.ensures
