-- "or else without a name": this is not said of a frame that begins with a clean forward message.
use mathlib.Core.Path.{◌≡◌, refl, ap}
use mathlib.Core.Bool.{Bool, true, false, cond, ◌&&◌}
use mathlib.Core.List.{List}
use mathlib.Core.Option.{Option, none, some}
use Prim.Native.Nat.{ℕ}
use native.Mathlib.Omega.{arith}
use lib.Dec.{ltb}
use lib.ListN.{length}
use Rattle.x691.specs.Types.{Value}
use Rattle.atn.specs.Format.{type_of}
use Rattle.atn.specs.Messages.{forward}
use Rattle.atn.specs.Entries.{frame_fits, table_fits}
use Rattle.book_entries.specs.declared.Entry.{Entry}
use Rattle.book_entries.specs.Entries.{text, size, good}
use Rattle.book_entries.specs.Book.{holds, named, numbered}
use Rattle.counted_books.specs.Counted.{held, room}
use Rattle.forward_names.specs.declared.Named.{Named}
use Rattle.forward_names.specs.Names.{forward_name}
use Rattle.forward_names.specs.Forwarded.{Forwards}
use Rattle.forward_names.proofs.Identifiers.{each-named}
use Rattle.std.specs.Prelude.{Result, Ok, Err}
use Rattle.name_book.specs.declared.Added.{Added}
use Rattle.name_book.specs.declared.Added.TheVariants.{New, Repeated, NoName}
use Rattle.name_book.specs.declared.Refusal.{Refusal}
use Rattle.name_book.specs.declared.Refusal.TheVariants.{NotABook, NumberHeld, BookFull}
use Rattle.name_book.specs.Calls.{opened, offer, add}
use Rattle.booked_frames.specs.Frames.{offered, add_frame}
use Rattle.booked_frames.proofs.FrameLaws.{named-entry}

-- the answers to an entry that has a name
module _ (e : Entry) (g : good e ≡ true) where
  offer-named : (places : ℕ) (E : List Entry) → (offer places e E).0 ≡ Ok NoName → ⊥
  unfolding offer
  offer-named places E q = go (holds (numbered e.number) E) (holds (named (text e) (size e)) E) (ltb (length E) places) _ _ (rw g at q)
    where
      go : (t n f : Bool) (k : ℕ) (F : List Entry) → (cond {A = Result Added Refusal × List Entry} t (Err NumberHeld, E) (cond n (Ok (Repeated k), E) (cond f (Ok New, F) (Err BookFull, E)))).0 ≡ Ok NoName → ⊥
      go true n f k F h = let z : ◌≡◌ {A = ℕ} 0 1 = cc in omega arith
      go false true f k F h = let z : ◌≡◌ {A = ℕ} 0 1 = cc in omega arith
      go false false true k F h = let z : ◌≡◌ {A = ℕ} 0 1 = cc in omega arith
      go false false false k F h = let z : ◌≡◌ {A = ℕ} 0 1 = cc in omega arith

  add-named : (w : List ℕ) → (add w e).0 ≡ Ok NoName → ⊥
  unfolding add opened
  add-named w q = go (held w) refl
    where
      go : (o : Option (List Entry)) → held w ≡ o → ⊥
      go none h = let x : ◌≡◌ {A = Result Added Refusal} (Err NotABook) (Ok NoName) = rw (h, opened) at q in let z : ◌≡◌ {A = ℕ} 0 1 = cc in omega arith
      go (some E) h = offer-named (room w) E (rw (h, opened) at q)

pub never_nameless : (w s : List ℕ) (k : ℕ) (down up : List ℕ) → frame_fits s ≡ true → (table_fits down && table_fits up) ≡ true → {p : ℕ} {v : Value (type_of (forward down up))} → Forwards s down up p v
    → (add_frame w s k down up).0 ≡ Ok NoName → ⊥
unfolding add_frame
never_nameless w s k down up fits tables f =
    add-named (offered (forward_name s down up) k (length s)) (named-entry s k down up (ap (λ (n : Named). n.number) (each-named s down up fits tables f))) w
