-- "No call of one station alters a binding of the other": what is held stays, after any calls of any stations.
use Rattle.std.proofs.Common.{◌≡◌, ℕ, ◌-◌, ◌*◌, ◌/◌, Bool, true, false, cond, not, ◌||◌, eqb, ltb, leb, List, [], ◌∷◌, length, refl, ◌∙◌}
use mathlib.Core.Option.{some}
use Rattle.book_entries.specs.declared.Entry.{Entry}
use Rattle.book_entries.specs.Entries.{good}
use Rattle.book_entries.specs.Book.{holds, numbered}
use Rattle.counted_books.specs.Counted.{held}
use Rattle.counted_books.proofs.Held.{holding}
use Rattle.book_changes.proofs.Orderly.{alike, holds-insert}
use Rattle.name_book.specs.Calls as book
use Rattle.name_book.specs.Calls.{add}
use Rattle.std.specs.Prelude.{Result}
use Rattle.name_book.specs.declared.Added.{Added}
use Rattle.name_book.specs.declared.Refusal.{Refusal}
use Rattle.book_history.specs.History.{adding, after, says}
use Rattle.book_history.specs.Keeps.{Keeps}
use Rattle.book_history.proofs.Kept.{kept}
use Rattle.station.specs.declared.Offered.{Offered}
use Rattle.station.specs.Offers.{Call, name_of, entry, offer}
use Rattle.station.specs.Shifts.{Turn, run}
use Rattle.station.specs.Kept.{Kept}

branch : {A : Type 0} (P : A → Type 0) (b : Bool) {x y : A} → P x → P y → P (cond b x y)
branch P true p q = p
branch P false p q = q

or-true : (b : Bool) → b || true ≡ true
or-true true = refl
or-true false = refl

-- an entry offered to the book takes none away
stays : (fits : Entry → Bool) (places : ℕ) (e : Entry) (E : List Entry) → holds fits E ≡ true → holds fits (book.offer places e E).1 ≡ true
unfolding book.offer
stays fits places e E h =
    let P : Result Added Refusal × List Entry → Type 0 = λ o. holds fits o.1 ≡ true in
    branch P (holds (numbered e.number) E) h (branch P (not (good e)) h (branch P (holds (alike e) E) h
    (branch P (ltb (length E) places) (holds-insert fits e E ∙ rw h (or-true (fits e))) h)))

-- a call leaves the book, or what adding leaves
either : (P : List ℕ → Type 0) (c : Call) (w : List ℕ) → P w → P (add w (entry c)).1 → P (offer c w).1
unfolding offer
either P c w same more =
    let Q : Offered × List ℕ → Type 0 = λ o. P o.1 in
    branch Q (leb c.arrived (length c.capture * 8)) (branch Q (eqb (name_of c).number 0) (branch Q (leb (name_of c).reach c.arrived) more same) same) same

after_one : {n : ℕ} (w : List ℕ) (E : List Entry) → Keeps n w E → (c : Call) → Kept n E (offer c w).1
unfolding after says
after_one {n} w E k c = either (Kept n E) c w (record { now = E; keeps = k; stays = λ fits h. h }) (record { now = _; keeps = kept k (adding (entry c)); stays = λ fits h. stays fits ((n - 2) / 4) (entry c) E h })

after-all : {n : ℕ} (w : List ℕ) (E : List Entry) → Keeps n w E → (ts : List Turn) → Kept n E (run w ts)
unfolding run
after-all w E k [] = record { now = E; keeps = k; stays = λ fits h. h }
after-all w E k (t ∷ ts) =
    let a = after_one w E k t.made in
    let b = after-all (offer t.made w).1 a.now a.keeps ts in
    record { now = b.now; keeps = b.keeps; stays = λ fits h. b.stays fits (a.stays fits h) }

-- every entry of a sound book is held after any calls
pub bindings_stay : (w : List ℕ) (E : List Entry) → held w ≡ some E → (ts : List Turn) → Kept (length w) E (run w ts)
bindings_stay w E h ts = after-all w E (record { long = refl; holds = h; fits = (holding w h).fits }) ts
