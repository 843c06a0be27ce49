use mathlib.Core.Path.{◌≡◌, ap}
use mathlib.Core.List.{◌∷◌}
use Prim.Native.Nat.{◌-◌}
use native.Mathlib.Omega.{arith}
use lib.ListN.{length, take, drop, get_or}
use borrow.Author.Tests.{eq-eqb, ne_eqb}
use Rattle.book_entries.specs.Book.{entries}
use Rattle.book_entries.specs.Left.{left}
use Rattle.book_entries.proofs.Places.{three, unused, first_off}
use Rattle.book_entries.proofs.EntriesIterator.next.Goals as goal
use Rattle.book_entries.proofs.EntriesIterator.next.Goals.{then-self-lt4-via-then-self-lt4, then-self-lt4-via-else-self-lt4+then-self-eq0}

pub returns-then-self-lt4-clause-steps : goal.returns-then-self-lt4-clause-steps
returns-then-self-lt4-clause-steps c =
    let w = c.args.self.now.places.now in
    elim c.then-self-lt4.branch [
      | then-self-lt4-via-then-self-lt4 b ↦ let e = three w b.if-self-lt4.true in (e, e)
      | then-self-lt4-via-else-self-lt4+then-self-eq0 b ↦ let e = unused w 0 (omega arith) (eq-eqb (get_or w 3 0) 0 b.if-self-eq0.true) in (e, e)
    ]

-- the first entry, and the others
taken : (c : goal.After-self-3-1) → left c.args.self.now ≡ c.entry_at-entry.result ∷ entries (take (length c.args.self.now.places.now - 4) (drop 4 c.args.self.now.places.now))
taken c =
    let w = c.args.self.now.places.now in
    first_off w c.if-self-lt4.false (ne_eqb (get_or w 3 0) 0 c.if-self-eq0.false) c.entry_at-entry.ensures

pub returns-clause-steps : goal.returns-clause-steps
returns-clause-steps c = taken c

pub returns-clause-goes : goal.returns-clause-goes
returns-clause-goes c = record { on = λ f. (tt, tt, omega (arith, ap length (taken c))); keeps = tt; rests = λ f. tt }
