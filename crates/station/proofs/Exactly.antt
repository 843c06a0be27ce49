-- A name is bound exactly if the message is clean, its reach does not exceed the bits that arrived, and name and number are new in a sound book with a free place.
use Rattle.std.proofs.Common.{◌≡◌, ℕ, ◌*◌, ◌≤◌, Bool, true, false, cond, eqb, leb, List, length, sym, refl, ap, ◌∙◌, arith, ltb-true, lt-ltb, eq-eqb, eqb-true, le-leb, leb-true}
use mathlib.Core.Option.{Option, none, some}
use Rattle.book_entries.specs.declared.Entry.{Entry}
use Rattle.book_entries.specs.Book.{holds}
use Rattle.counted_books.specs.Counted.{shown, held, room}
use Rattle.book_changes.specs.Changes.{insert}
use Rattle.named_entries.proofs.GoodNames.{named-good}
use Rattle.name_book.specs.Calls as book
use Rattle.name_book.specs.Calls.{opened, add}
use Rattle.station.specs.declared.Offered.{Offered}
use Rattle.station.specs.declared.Offered.TheVariants.{Bound, Repeated, Refused}
use Rattle.station.specs.Offers.{Call, name_of, entry, answered, offer}
use Rattle.station.specs.Sights.{same_name, sight, book_answer}
use Rattle.station.specs.Binds.{Binds}
use Rattle.station.proofs.Seen.{added, said}

not_bound : (n p k : ℕ) → Refused n p k ≡ Bound → ⊥
not_bound n p k e = let z : ◌≡◌ {A = ℕ} 0 1 = cc in omega arith

-- a choice that has become Bound goes the one way, where the other cannot
module _ {A : Type 0} (f : A → Offered) where
  taken : (b : Bool) (x y : A) → f (cond b x y) ≡ Bound → (f y ≡ Bound → ⊥) → (b ≡ true) × (f x ≡ Bound)
  taken true x y e n = (refl, e)
  taken false x y e n = absurd (n e)

  left : (b : Bool) (x y : A) → f (cond b x y) ≡ Bound → (f x ≡ Bound → ⊥) → (b ≡ false) × (f y ≡ Bound)
  left true x y e n = absurd (n e)
  left false x y e n = (refl, e)

module _ (c : Call) (w : List ℕ) where
  pub binds : (b : Binds c w) → offer c w ≡ (Bound, shown (length w) (insert (entry c) b.kept))
  unfolding offer add opened book.offer
  binds b =
      let g = named-good c.capture c.down c.up b.named c.number in
      rw (le-leb c.arrived (length c.capture * 8) b.claimed, eq-eqb (name_of c).number 0 b.named, le-leb (name_of c).reach c.arrived b.whole, b.sound, opened)
      (rw (b.number_free, g, b.name_new, lt-ltb (length b.kept) (room w) b.place_free))

  -- the book, behind the tests of the call
  module _ (claimed : c.arrived ≤ length c.capture * 8) (named : (name_of c).number ≡ 0) (whole : (name_of c).reach ≤ c.arrived) where
    by_book : (o : Option (List Entry)) → held w ≡ o → answered (name_of c).reach (add w (entry c)).0 ≡ Bound → Binds c w
    unfolding add opened book_answer
    by_book none h e = absurd (not_bound 18 (name_of c).reach 0 (rw (h, opened) at e))
    by_book (some E) h e =
        let g = named-good c.capture c.down c.up named c.number in
        let v = sight c (room w) E in
        let a : book_answer (name_of c).reach v ≡ Bound = sym (said c (name_of c).reach (room w) E g) ∙ sym (ap (answered (name_of c).reach) (added c w h)) ∙ e in
        let t = left (λ (o : Offered). o) v.taken _ _ a (not_bound 12 (name_of c).reach 0) in
        let n = left (λ (o : Option ℕ). elim o [ some k ↦ Repeated k | none ↦ cond v.free Bound (Refused 10 (name_of c).reach 0) ]) (holds (same_name c) E) _ _ t.1 (λ z. let y : ◌≡◌ {A = ℕ} 0 1 = cc in omega arith) in
        let f = taken (λ (o : Offered). o) v.free _ _ n.1 (not_bound 10 (name_of c).reach 0) in
        record { claimed = claimed; named = named; whole = whole; kept = E; sound = h; number_free = t.0; name_new = n.0; place_free = ltb-true (length E) (room w) f.0 }

  pub bound : (offer c w).0 ≡ Bound → Binds c w
  unfolding offer
  bound e =
      let x = taken (λ (o : Offered × List ℕ). o.0) (leb c.arrived (length c.capture * 8)) _ _ e (not_bound 21 0 0) in
      let y = taken (λ (o : Offered × List ℕ). o.0) (eqb (name_of c).number 0) _ _ x.1 (not_bound (name_of c).number (name_of c).reach (name_of c).lacked) in
      let z = taken (λ (o : Offered × List ℕ). o.0) (leb (name_of c).reach c.arrived) _ _ y.1 (not_bound 22 (name_of c).reach 0) in
      by_book (leb-true c.arrived (length c.capture * 8) x.0) (eqb-true (name_of c).number 0 y.0) (leb-true (name_of c).reach c.arrived z.0) (held w) refl z.1
