-- After any sequence of calls from an emptied slice the book holds exactly what the history says, and keeps the number of its free places.
use mathlib.Core.Path.{◌≡◌}
use mathlib.Core.List.{List, [], ◌∷◌}
use Prim.Native.Nat.{ℕ, ◌/◌, ◌-◌, ◌≤◌}
use lib.ListN.{length}
use Rattle.book_entries.specs.declared.Entry.{Entry}
use Rattle.std.specs.Prelude.{Ok}
use Rattle.counted_books.specs.Counted.{emptied, free}
use Rattle.counted_books.proofs.Held.{holding}
use Rattle.book_history.specs.History.{Call, after, run, history}
use Rattle.book_history.specs.Keeps.{Keeps}
use Rattle.book_history.proofs.Kept.{keeps-shown, no_entries, emptied-shown, kept}

pub kept-all : {n : ℕ} {w : List ℕ} {E : List Entry} → Keeps n w E → (cs : List Call) → Keeps n (run w cs) (history ((n - 2) / 4) E cs)
unfolding run history
kept-all k [] = k
kept-all {w = w} k (c ∷ cs) = kept-all {w = after w c} (kept k c) cs

-- a slice with room for the number, emptied
module _ (n : ℕ) (long : 2 ≤ n) (cs : List Call) where
  -- "After any sequence of calls, each name held appears once, as the history says"
  pub after_any : Keeps n (run (emptied n) cs) (history ((n - 2) / 4) [] cs)
  after_any = kept-all (keeps-shown n (emptied n) [] long (no_entries ((n - 2) / 4)) (emptied-shown n long)) cs

  -- "Keep the number in the book itself, correct after every add, withdrawal, load and refusal": the places less the names held
  pub number-kept : free (run (emptied n) cs) ≡ Ok ((n - 2) / 4 - length (history ((n - 2) / 4) [] cs))
  number-kept =
      let k = after_any in
      let i = holding (run (emptied n) cs) k.holds in
      rw k.long at i.free
