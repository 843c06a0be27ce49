-- Only a bound name changes the book.
use Rattle.std.proofs.Common.{◌≡◌, ℕ, ◌*◌, eqb, leb, List, length, refl, ap}
use Rattle.book_history.proofs.Refused.{branch, add_left}
use Rattle.station.specs.declared.Offered.{Offered}
use Rattle.station.specs.declared.Offered.TheVariants.{Bound}
use Rattle.station.specs.Offers.{Call, name_of, entry, answered, offer}

pub unchanged : (c : Call) (w : List ℕ) → ((offer c w).0 ≡ Bound → ⊥) → (offer c w).1 ≡ w
unfolding offer
unchanged c w =
    let IsBound : Offered → Type 0 = λ a. a ≡ Bound in
    branch IsBound w (leb c.arrived (length c.capture * 8)) (branch IsBound w (eqb (name_of c).number 0) (branch IsBound w (leb (name_of c).reach c.arrived)
    (λ n. add_left w (entry c) (λ z. n (ap (answered (name_of c).reach) z))) (λ n. refl)) (λ n. refl)) (λ n. refl)
