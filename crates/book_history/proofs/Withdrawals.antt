use mathlib.Core.List.{[]}
-- A withdrawn frame leaves nothing under its name, whatever frames repeated it, and its room is used again.
use mathlib.Core.Path.{◌≡◌, refl, sym, ap, ◌∙◌}
use mathlib.Core.Bool.{Bool, true, false, cond, not, true≢false}
use mathlib.Core.List.{List, ◌∷◌}
use mathlib.Core.Option.{Option, none, some}
use Prim.Native.Nat.{ℕ, ◌/◌, ◌-◌, ◌≤◌}
use native.Mathlib.Omega.{arith}
use lib.Dec.{ltb, eqb}
use lib.ListN.{length}
use borrow.Author.Tests.{ltb-true, lt-ltb, eqb-true, eq-eqb, ne_eqb}
use Rattle.book_entries.specs.declared.Entry.{Entry}
use Rattle.book_entries.specs.Entries.{text, size, good}
use Rattle.book_entries.specs.Book.{place, holds, numbered, orderly}
use Rattle.book_entries.proofs.Tests.{both, holds-place}
use Rattle.book_changes.specs.Changes.{without}
use Rattle.book_changes.proofs.Orderly.{alike, others, first-fair, holds-without, without-length}
use Rattle.counted_books.specs.Counted.{room, held}
use Rattle.counted_books.proofs.Held.{holding}
use Rattle.std.specs.Prelude.{None, Result, Ok, Err}
use Rattle.name_book.specs.declared.Added.{Added}
use Rattle.name_book.specs.declared.Added.TheVariants.{New, Repeated}
use Rattle.name_book.specs.declared.Refusal.{Refusal}
use Rattle.name_book.specs.declared.Refusal.TheVariants.{NotABook, BookFull}
use Rattle.name_book.specs.Calls.{first, opened, offer, add, take_out, withdraw, find, look_up}
use Rattle.name_book.proofs.FitLaws.{either}
use Rattle.book_history.specs.History.{withdrawing, after, says}
use Rattle.book_history.specs.Keeps.{Keeps, In, here, there}
use Rattle.book_history.proofs.Kept.{kept}
use Rattle.book_history.proofs.Once.{in_holds, higher, first_in, name_once}
use Rattle.book_history.proofs.Refused.{add_left}

---------------------------------------------------------------- of the entries

-- one of these is the first, or one of the others
front : {g f : Entry} {E : List Entry} (P : Entry → Type 0) → In g (f ∷ E) → P f → (In g E → P g) → P g
front P here p q = p
front P (there m) p q = q m

-- what is left was there, and has another number
left_in : (k : ℕ) {g : Entry} (E : List Entry) → orderly E ≡ true → In g (without k E) → In g E × (numbered k g ≡ false)
unfolding without
left_in k {g = g} [] o m = elim m [ ]
left_in k {g} (f ∷ E) o m = go (numbered k f) refl m (left_in k E (others f E o))
  where
    go : (b : Bool) → numbered k f ≡ b → In g (cond b E (f ∷ without k E)) → (In g (without k E) → In g E × (numbered k g ≡ false)) → In g (f ∷ E) × (numbered k g ≡ false)
    go true t n i = (there n, ne_eqb g.number k (omega (arith, eqb-true f.number k t, higher f E (first-fair f E o).before (others f E o) n)))
    go false t n i = front (λ x. In x (f ∷ E) × (numbered k x ≡ false)) n (here, t) (λ j. (there (i j).0, (i j).1))

same_name : (e f g : Entry) → alike e f ≡ true → alike e g ≡ true → alike f g ≡ true
same_name e f g a b =
    let p = both (eqb (text f) (text e)) (eqb (size f) (size e)) a in
    let q = both (eqb (text g) (text e)) (eqb (size g) (size e)) b in
    rw (
      eq-eqb (text g) (text f) (eqb-true (text g) (text e) q.0 ∙ sym (eqb-true (text f) (text e) p.0)),
      eq-eqb (size g) (size f) (eqb-true (size g) (size e) q.1 ∙ sym (eqb-true (size f) (size e) p.1)),
    )

-- without the frame that holds a name, the name is not held
none_left : (e f : Entry) (E : List Entry) → orderly E ≡ true → In f E → alike e f ≡ true → holds (alike e) (without f.number E) ≡ false
none_left e f E o m a = go (holds (alike e) (without f.number E)) refl
  where
    go : (b : Bool) → holds (alike e) (without f.number E) ≡ b → b ≡ false
    go false h = refl
    go true h =
        let i = first_in (alike e) (without f.number E) h in
        let g = first (alike e) (without f.number E) in
        let l = left_in f.number E o i.0 in
        let s : f ≡ g = name_once E o m l.0 (same_name e f g a i.1) in
        absurd (true≢false (sym (eq-eqb g.number f.number (ap (λ (x : Entry). x.number) (sym s))) ∙ l.1))

module _ (places : ℕ) (e : Entry) (E : List Entry) where
  -- a repeated frame tells the number of the one that holds its name
  repeated : {k : ℕ} → (offer places e E).0 ≡ Ok (Repeated k) → (holds (alike e) E ≡ true) × ((first (alike e) E).number ≡ k)
  unfolding offer
  repeated {k} =
      let P : Result Added Refusal × List Entry → Type 0 = λ o. o.0 ≡ Ok (Repeated k) → (holds (alike e) E ≡ true) × ((first (alike e) E).number ≡ k) in
      either P (holds (numbered e.number) E) (λ t q. absurd (let z : ◌≡◌ {A = ℕ} 0 1 = cc in omega arith)) (λ t.
      either P (not (good e)) (λ g q. absurd (let z : ◌≡◌ {A = ℕ} 0 1 = cc in omega arith)) (λ g.
      either P (holds (alike e) E) (λ n q. (n, cc)) (λ n.
      either P (ltb (length E) places) (λ r q. absurd (let z : ◌≡◌ {A = ℕ} 0 1 = cc in omega arith)) (λ r q. absurd (let z : ◌≡◌ {A = ℕ} 0 1 = cc in omega arith)))))

  -- refused for want of room, it has a name and a number that are not held
  crowded : (offer places e E).0 ≡ Err BookFull → (holds (numbered e.number) E ≡ false) × (not (good e) ≡ false) × (holds (alike e) E ≡ false)
  unfolding offer
  crowded =
      let P : Result Added Refusal × List Entry → Type 0 = λ o. o.0 ≡ Err BookFull → (holds (numbered e.number) E ≡ false) × (not (good e) ≡ false) × (holds (alike e) E ≡ false) in
      either P (holds (numbered e.number) E) (λ t q. absurd (let z : ◌≡◌ {A = ℕ} 0 1 = cc in omega arith)) (λ t.
      either P (not (good e)) (λ g q. absurd (let z : ◌≡◌ {A = ℕ} 0 1 = cc in omega arith)) (λ g.
      either P (holds (alike e) E) (λ n q. absurd (let z : ◌≡◌ {A = ℕ} 0 1 = cc in omega arith)) (λ n.
      either P (ltb (length E) places) (λ r q. absurd (let z : ◌≡◌ {A = ℕ} 0 1 = cc in omega arith)) (λ r q. (t, g, n)))))

  -- with one frame less it is new
  taken_in : (k : ℕ) → (offer places e E).0 ≡ Err BookFull → holds (numbered k) E ≡ true → length E ≤ places → (offer places e (without k E)).0 ≡ Ok New
  unfolding offer
  taken_in k h g f =
      let c = crowded h in
      let l = without-length k E (ltb-true (place (numbered k) E) (length E) (sym (holds-place (numbered k) E) ∙ g)) in
      rw (holds-without (numbered e.number) k E c.0, c.1, holds-without (alike e) k E c.2, lt-ltb (length (without k E)) places (omega arith))

there_was : (k : ℕ) (E : List Entry) → (take_out k E).0 ≡ Ok tt → holds (numbered k) E ≡ true
unfolding take_out
there_was k E =
    let P : Result (Unit {0}) Refusal × List Entry → Type 0 = λ o. o.0 ≡ Ok tt → holds (numbered k) E ≡ true in
    either P (holds (numbered k) E) (λ t q. t) (λ t q. absurd (let z : ◌≡◌ {A = ℕ} 0 1 = cc in omega arith))

---------------------------------------------------------------- of the words

some_is : {E F : List Entry} → some E ≡ some F → E ≡ F
some_is e = cc

-- an answer other than 18 is of a slice that holds entries
sound : {A : Type 0} (refusal : A) (w : List ℕ) (call : List Entry → A × List Entry) {a : A} → (opened w refusal call).0 ≡ a → (refusal ≡ a → ⊥) → (E : List Entry) × (held w ≡ some E) × ((call E).0 ≡ a)
unfolding opened
sound refusal w call {a} h n = go (held w) refl
  where
    go : (o : Option (List Entry)) → held w ≡ o → (E : List Entry) × (held w ≡ some E) × ((call E).0 ≡ a)
    go none e = absurd (n (rw (e, opened) at h))
    go (some E) e = (E, e, rw (e, opened) at h)

says-without : (places k : ℕ) (E : List Entry) → holds (numbered k) E ≡ true → says places E (withdrawing k) ≡ without k E
unfolding says take_out
says-without places k E g = rw (g, says)

withdrawn_keeps : (w : List ℕ) (k : ℕ) (E : List Entry) → held w ≡ some E → holds (numbered k) E ≡ true → Keeps (length w) (withdraw w k).1 (without k E)
unfolding after
withdrawn_keeps w k E h g = rw (says-without ((length w - 2) / 4) k E g) at (kept {w = w} (record { long = refl; holds = h; fits = (holding w h).fits }) (withdrawing k))

-- the frame that holds a name is withdrawn: the name is not found
pub name_gone : (w : List ℕ) (E : List Entry) → held w ≡ some E → (e f : Entry) → In f E → alike e f ≡ true → look_up (withdraw w f.number).1 (text e) (size e) ≡ Ok None
unfolding look_up find
name_gone w E h e f m a =
    let k = withdrawn_keeps w f.number E h (in_holds (numbered f.number) E m (eq-eqb f.number f.number refl)) in
    rw (k.holds, look_up) (rw (none_left e f E (holding w h).fits.orderly m a))

-- "A repeated frame is not held, so withdrawing the first does not bring it in"
pub not_brought_in : (w : List ℕ) (e : Entry) {k : ℕ} → (add w e).0 ≡ Ok (Repeated k) → look_up (withdraw (add w e).1 k).1 (text e) (size e) ≡ Ok None
unfolding add
not_brought_in w e {k} h =
    let s = sound (Err NotABook) w (offer (room w) e) h (λ q. let z : ◌≡◌ {A = ℕ} 0 1 = cc in omega arith) in
    let r = repeated (room w) e s.0 s.2 in
    let i = first_in (alike e) s.0 r.0 in
    let v : (add w e).1 ≡ w = add_left w e (λ q. let z : ◌≡◌ {A = ℕ} 0 1 = cc in omega arith) in
    rw (v, ← r.1) (name_gone w s.0 s.1 e (first (alike e) s.0) i.0 i.1)

-- "A frame number may be withdrawn, and its room is used again": a new name that a full book refused is taken
pub room_again : (w : List ℕ) (e : Entry) (k : ℕ) → (add w e).0 ≡ Err BookFull → (withdraw w k).0 ≡ Ok tt → (add (withdraw w k).1 e).0 ≡ Ok New
unfolding add withdraw
room_again w e k h g =
    let s = sound (Err NotABook) w (offer (room w) e) h (λ q. let z : ◌≡◌ {A = ℕ} 0 1 = cc in omega arith) in
    let E = s.0 in
    let t = sound (Err NotABook) w (take_out k) g (λ q. let z : ◌≡◌ {A = ℕ} 0 1 = cc in omega arith) in
    let m : holds (numbered k) E ≡ true = there_was k E (rw (some_is (sym t.1 ∙ s.1)) at t.2) in
    let v = withdrawn_keeps w k E s.1 m in
    rw (v.holds, opened, v.long) (taken_in (room w) e E k s.2 m (holding w s.1).fits.few)
