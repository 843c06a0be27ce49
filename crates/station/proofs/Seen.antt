-- A station's answer is a function of its call and of what that sees of the book.
use Rattle.std.proofs.Common.{◌≡◌, ℕ, ◌*◌, Bool, true, false, eqb, ltb, leb, List, length, sym, refl, ap, ◌∙◌, eqb-true}
use mathlib.Core.Option.{some}
use Rattle.book_entries.specs.declared.Entry.{Entry}
use Rattle.book_entries.specs.Entries.{good}
use Rattle.book_entries.specs.Book.{holds, numbered}
use Rattle.counted_books.specs.Counted.{held, room}
use Rattle.named_entries.proofs.GoodNames.{named-good}
use Rattle.name_book.specs.Calls as book
use Rattle.name_book.specs.Calls.{opened, add}
use Rattle.station.specs.Offers.{Call, name_of, entry, answered, offer}
use Rattle.station.specs.Sights.{same_name, sight, book_answer, answer}

module _ (c : Call) where
  -- the book's answer to an entry that has a name
  pub said : (p places : ℕ) (E : List Entry) → good (entry c) ≡ true → answered p (book.offer places (entry c) E).0 ≡ book_answer p (sight c places E)
  unfolding book.offer book_answer
  said p places E g = go (holds (numbered c.number) E) (holds (same_name c) E) (ltb (length E) places) refl refl refl
    where
      go : (t n f : Bool) → holds (numbered c.number) E ≡ t → holds (same_name c) E ≡ n → ltb (length E) places ≡ f → answered p (book.offer places (entry c) E).0 ≡ book_answer p (sight c places E)
      go true n f a b d = rw a
      go false true f a b d = rw (a, g, b)
      go false false true a b d = rw (a, g, b, d)
      go false false false a b d = rw (a, g, b, d)

  module _ (w : List ℕ) {E : List Entry} (h : held w ≡ some E) where
    pub added : (add w (entry c)).0 ≡ (book.offer (room w) (entry c) E).0
    unfolding add opened
    added = rw (h, opened)

    -- the answer is a function of the call and of what it sees
    pub seen : (offer c w).0 ≡ answer c (sight c (room w) E)
    unfolding offer answer
    seen = go (leb c.arrived (length c.capture * 8)) (eqb (name_of c).number 0) (leb (name_of c).reach c.arrived) refl refl refl
      where
        go : (a b d : Bool) → leb c.arrived (length c.capture * 8) ≡ a → eqb (name_of c).number 0 ≡ b → leb (name_of c).reach c.arrived ≡ d → (offer c w).0 ≡ answer c (sight c (room w) E)
        go false b d x y z = rw x
        go true false d x y z = rw (x, y)
        go true true false x y z = rw (x, y, z)
        go true true true x y z = rw (x, y, z) (ap (answered (name_of c).reach) added ∙ said (name_of c).reach (room w) E (named-good c.capture c.down c.up (eqb-true (name_of c).number 0 y) c.number))

  -- so two books that look alike to a call answer it alike
  pub same_answer : (v w : List ℕ) {E F : List Entry} → held v ≡ some E → held w ≡ some F → sight c (room v) E ≡ sight c (room w) F → (offer c v).0 ≡ (offer c w).0
  same_answer v w g h e = seen v g ∙ ap (answer c) e ∙ sym (seen w h)
