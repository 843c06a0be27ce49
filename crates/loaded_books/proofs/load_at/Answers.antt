-- Each way through the code is one of the definition. What is known after each test is said once.
use mathlib.Core.Path.{◌≡◌, sym, ap, ◌∙◌}
use mathlib.Core.Bool.{true}
use mathlib.Core.List.{[]}
use Prim.Native.Nat.{ℕ}
use native.Mathlib.Omega.{arith}
use lib.ListN.{length, replicate, length-replicate}
use borrow.Author.Tests.{not-true, not-false}
use Rattle.book_entries.specs.Book.{laid}
use Rattle.loaded_books.specs.Loads.{distinct, gathered}
use Rattle.loaded_books.proofs.LoadLaws.{load-bad, load-twice, load_full, load-done}
use Rattle.loaded_books.proofs.load_at.Goals.{After-empty, Else-twice}
use Rattle.loaded_books.proofs.load_at.Goals as goal

is-distinct : (c : Else-twice) → distinct c.in-Some.ensures.0 ≡ true
is-distinct c = let n = c.in-Some.ensures in not-false (distinct n.0) (sym (c.twice.ensures n.0 n.1) ∙ c.if-twice.false)

-- the emptied words are as many
emptied : (c : After-empty) → length c.empty.new.book ≡ length c.args.places.now
emptied c = ap length c.empty.ensures ∙ length-replicate {A = ℕ} (length c.args.places.now) 0

pub returns-in_default : goal.returns-in_default
returns-in_default c = load-bad c.args.places.now c.args.saved.now c.requires c.in_default.ensures

pub returns-then-twice : goal.returns-then-twice
returns-then-twice c =
    let n = c.in-Some.ensures in
    load-twice c.args.places.now c.args.saved.now c.requires n.1 (not-true (distinct n.0) (sym (c.twice.ensures n.0 n.1) ∙ c.if-twice.true))

pub returns-then-places-names : goal.returns-then-places-names
returns-then-places-names c =
    let n = c.in-Some.ensures in
    load_full c.args.places.now c.args.saved.now c.requires n.1 (is-distinct (goal.at.returns-then-places-names c).Else-twice) (rw (← n.2) c.if-places-names.true)

pub put_all-requires : goal.put_all-requires
put_all-requires c =
    let n = c.in-Some.ensures in
    let l = emptied (goal.at.put_all-requires c).After-empty in
    (c.empty.ensures ∙ ap (λ (k : ℕ). replicate k 0) (sym l), record { entries = n.0; is = n.1; apart = is-distinct (goal.at.put_all-requires c).Else-twice; few = omega (arith, l, n.2, c.if-places-names.false) })

pub returns : goal.returns
returns c =
    let n = c.in-Some.ensures in
    load-done c.args.places.now c.args.saved.now c.requires n.1 (is-distinct (goal.at.returns c).Else-twice) n.2 (omega (arith, n.2, c.if-places-names.false))
    (c.put_all.ensures n.0 n.1 ∙ ap (λ (k : ℕ). laid k (gathered [] n.0)) (emptied (goal.at.returns c).After-empty))
