-- Each way through a call is one of the definition.
use Rattle.std.proofs.Common.{◌≡◌, ℕ, ◌*◌, ◌/◌, ◌%◌, ◌<◌, ◌≤◌, true, false, eqb, leb, List, length, arith, eq-eqb, ne_eqb, le-leb}
use native.Mathlib.Decide.{ℕ_discrete}
use borrow.Author.Tests.{lt-leb}
use Rattle.forward_names.specs.declared.Named.{Named}
use Rattle.named_entries.proofs.GoodNames.{short, small}
use Rattle.std.specs.Prelude.{Result}
use Rattle.name_book.specs.declared.Added.{Added}
use Rattle.name_book.specs.declared.Refusal.{Refusal}
use Rattle.name_book.specs.Calls.{add, Leaves}
use Rattle.station.specs.declared.Offered.{Offered}
use Rattle.station.specs.declared.Offered.TheVariants.{Refused}
use Rattle.station.specs.declared.Shift.{Shift}
use Rattle.station.specs.Offers.{Call, name_of, entry, answered, offer}
use Rattle.station.specs.Shifts.{counted, offer_counted}

-- the call c on the book w, which answers r
module _ (c : Call) (w : List ℕ) {r : Offered} where
  pub too_few : leb c.arrived (length c.capture * 8) ≡ false → r ≡ Refused 21 0 0 → Leaves r w (offer c w)
  unfolding offer
  too_few h a = record { is = rw (h, a) }

  module _ (h : leb c.arrived (length c.capture * 8) ≡ true) {n : Named} (e : n ≡ name_of c) where
    pub unnamed : (n.number ≡ 0 → ⊥) → r ≡ Refused n.number n.reach n.lacked → Leaves r w (offer c w)
    unfolding offer
    unnamed z a = record { is = rw (h, a, ← e, ne_eqb n.number 0 z) }

    module _ (z : n.number ≡ 0) where
      pub beyond : c.arrived < n.reach → r ≡ Refused 22 n.reach 0 → Leaves r w (offer c w)
      unfolding offer
      beyond l a = record { is = rw (h, a, ← e, eq-eqb n.number 0 z, lt-leb n.reach c.arrived l) }

      pub booked : n.reach ≤ c.arrived → {a : Result Added Refusal} {v : List ℕ} → Leaves a v (add w (entry c)) → r ≡ answered n.reach a → Leaves r v (offer c w)
      unfolding offer
      booked l i a = record { is = rw (a, e, h, eq-eqb (name_of c).number 0 (rw e at z), le-leb (name_of c).reach c.arrived (rw e at l), ← i.is) }

-- the answer is counted behind the book's
pub then-counted : (s : Shift) (c : Call) (w : List ℕ) {f : Shift} {v : List ℕ} {a : Offered} → Leaves a v (offer c w) → f ≡ counted s a → Leaves (record { answer = a; shift = f }) v (offer_counted s c w)
unfolding offer_counted
then-counted s c w l e = record { is = rw (e, ← l.is) }

-- what the entry of a name asks for
pub enters : (c : Call) {n : Named} → n ≡ name_of c → n.number ≡ 0 → (n.size ≤ 8) × (length c.capture < 1048576)
enters c e z =
    let z' : (name_of c).number ≡ 0 = rw e at z in
    (rw e (small c.capture c.down c.up z'), omega (arith, short c.capture c.down c.up z'))

-- bits that fill whole bytes
pub whole-bytes : (bytes bits : ℕ) → bits % 8 ≡ 0 → bytes ≤ bits / 8 → eqb (bits / 8) bytes ≡ leb bits (bytes * 8)
whole-bytes bytes bits z l = go (ℕ_discrete (bits / 8) bytes)
  where
    go : Dec (bits / 8 ≡ bytes) → eqb (bits / 8) bytes ≡ leb bits (bytes * 8)
    go (yes e) = rw (eq-eqb (bits / 8) bytes e, le-leb bits (bytes * 8) (omega arith))
    go (no n) = rw (ne_eqb (bits / 8) bytes n, lt-leb bits (bytes * 8) (omega arith))
