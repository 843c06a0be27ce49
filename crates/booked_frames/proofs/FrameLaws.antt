-- Each way through the code is one of the definition; and a named frame makes a good entry, so that "without a name" is said of no other.
use mathlib.Core.Path.{◌≡◌}
use mathlib.Core.Bool.{true, false}
use mathlib.Core.List.{List}
use Prim.Native.Nat.{ℕ, ◌≤◌, ◌<◌}
use native.Mathlib.Omega.{arith}
use lib.ListN.{length}
use borrow.Author.Tests.{eq-eqb, ne_eqb}
use Rattle.book_entries.specs.Entries.{good}
use Rattle.forward_names.specs.declared.Named.{Named}
use Rattle.forward_names.specs.Names.{forward_name}
use Rattle.named_entries.specs.Made.{entry_of}
use Rattle.named_entries.proofs.GoodNames.{named-good, short, small}
use Rattle.std.specs.Prelude.{Result}
use Rattle.name_book.specs.declared.Added.{Added}
use Rattle.name_book.specs.declared.Refusal.{Refusal}
use Rattle.name_book.specs.Calls.{add, Leaves}
use Rattle.booked_frames.specs.Frames.{nameless, offered, add_frame}

module _ (w s : List ℕ) (k : ℕ) (down up : List ℕ) {n : Named} (e : n ≡ forward_name s down up) {r : Result Added Refusal} {v : List ℕ} where
  pub no_name : (n.number ≡ 0 → ⊥) → Leaves r v (add w (nameless k)) → Leaves r v (add_frame w s k down up)
  unfolding add_frame offered
  no_name z x = record { is = rw (← e, ne_eqb n.number 0 z) x.is }

  pub by_name : n.number ≡ 0 → Leaves r v (add w (entry_of n k (length s))) → Leaves r v (add_frame w s k down up)
  unfolding add_frame offered
  by_name z x = record { is = rw (← e, eq-eqb n.number 0 z) x.is }

-- what the entry of a name asks for
pub enters : (s down up : List ℕ) {n : Named} → n ≡ forward_name s down up → n.number ≡ 0 → (n.size ≤ 8) × (length s < 1048576)
enters s down up e z =
    let z' : (forward_name s down up).number ≡ 0 = rw e at z in
    (rw e (small s down up z'), omega (arith, short s down up z'))

pub named-entry : (s : List ℕ) (k : ℕ) (down up : List ℕ) → (forward_name s down up).number ≡ 0 → good (offered (forward_name s down up) k (length s)) ≡ true
unfolding offered
named-entry s k down up z = rw (eq-eqb (forward_name s down up).number 0 z) (named-good s down up z k)

pub unnamed_entry : (s : List ℕ) (k : ℕ) (down up : List ℕ) → ((forward_name s down up).number ≡ 0 → ⊥) → good (offered (forward_name s down up) k (length s)) ≡ false
unfolding offered good
unnamed_entry s k down up n = rw (ne_eqb (forward_name s down up).number 0 n)
