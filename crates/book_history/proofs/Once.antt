-- Each name and each number is held once, and look-ups find exactly the entries held.
use mathlib.Core.Path.{◌≡◌, refl, sym, ap, ◌∙◌}
use mathlib.Core.Bool.{Bool, true, false, cond, ◌||◌, true≢false, false≢true}
use mathlib.Core.List.{List, [], ◌∷◌}
use Prim.Native.Nat.{ℕ, suc, ◌<◌}
use native.Mathlib.Omega.{arith}
use lib.ListN.{get_or}
use borrow.Author.Tests.{ltb-true, eq-eqb}
use Rattle.book_entries.specs.declared.Entry.{Entry}
use Rattle.book_entries.specs.Entries.{text, size, bytes}
use Rattle.book_entries.specs.Book.{place, holds, named, before, orderly}
use Rattle.book_changes.specs.Changes.{vacant}
use Rattle.book_changes.proofs.Orderly.{alike, alike_comm, first-fair, others}
use Rattle.name_book.specs.Calls.{first, frame_of, find}
use Rattle.std.specs.Prelude.{Option, Some, None}
use Rattle.name_book.specs.declared.Frame.{Frame}
use Rattle.book_history.specs.Keeps.{In, here, there}

pub in_holds : (fits : Entry → Bool) {e : Entry} (E : List Entry) → In e E → fits e ≡ true → holds fits E ≡ true
unfolding holds
in_holds fits {e = e} [] x'' g = elim x'' [ ]
in_holds fits (f ∷ E) here g = rw g
in_holds fits (f ∷ E) (there m) g = go (fits f) (in_holds fits E m g)
  where
    go : (b : Bool) → holds fits E ≡ true → b || holds fits E ≡ true
    go true h = refl
    go false h = h

-- "each name held appears once"
pub name_once : {e f : Entry} (E : List Entry) → orderly E ≡ true → In e E → In f E → alike e f ≡ true → e ≡ f
name_once {e = e} {f = f} [] o x4 _ a = elim x4 [ ]
name_once (g ∷ E) o here here a = refl
name_once (g ∷ E) o here (there n) a = absurd (true≢false (sym (in_holds (alike g) E n a) ∙ (first-fair g E o).fresh))
name_once {e} (g ∷ E) o (there m) here a = absurd (true≢false (sym (in_holds (alike g) E m (alike_comm g e ∙ a)) ∙ (first-fair g E o).fresh))
name_once (g ∷ E) o (there m) (there n) a = name_once E (others g E o) m n a

-- the numbers behind an entry are higher
pub higher : (g : Entry) {e : Entry} (E : List Entry) → before g E ≡ true → orderly E ≡ true → In e E → g.number < e.number
higher g {e = e} [] b o x3 = elim x3 [ ]
higher g (f ∷ E) b o here = ltb-true g.number f.number b
higher g (f ∷ E) b o (there m) = omega (arith, ltb-true g.number f.number b, higher f E (first-fair f E o).before (others f E o) m)

pub number_once : {e f : Entry} (E : List Entry) → orderly E ≡ true → In e E → In f E → e.number ≡ f.number → e ≡ f
number_once {e = e} {f = f} [] o x4 _ a = elim x4 [ ]
number_once (g ∷ E) o here here a = refl
number_once (g ∷ E) o here (there n) a = absurd (omega (arith, higher g E (first-fair g E o).before (others g E o) n))
number_once (g ∷ E) o (there m) here a = absurd (omega (arith, higher g E (first-fair g E o).before (others g E o) m))
number_once (g ∷ E) o (there m) (there n) a = number_once E (others g E o) m n a

-- the first that fits is one of the entries, and fits
pub first_in : (fits : Entry → Bool) (E : List Entry) → holds fits E ≡ true → In (first fits E) E × (fits (first fits E) ≡ true)
unfolding holds place
first_in fits [] h = absurd (false≢true h)
first_in fits (e ∷ E) h = go (fits e) refl h (first_in fits E)
  where
    at : Bool → Entry
    at b = get_or (e ∷ E) (cond b 0 (suc (place fits E))) vacant

    go : (b : Bool) → fits e ≡ b → b || holds fits E ≡ true → (holds fits E ≡ true → In (first fits E) E × (fits (first fits E) ≡ true)) → In (at b) (e ∷ E) × (fits (at b) ≡ true)
    go true g k i = (here, g)
    go false g k i = (there (i k).0, (i k).1)

-- "lookups find exactly those": an entry held is found by its name
pub finds : (e : Entry) (E : List Entry) → orderly E ≡ true → In e E → find (text e) (size e) E ≡ Some (frame_of e)
unfolding find
finds e E o m =
    let h = in_holds (alike e) E m (rw (eq-eqb (text e) (text e) refl, eq-eqb (size e) (size e) refl)) in
    let i = first_in (alike e) E h in
    let s : first (alike e) E ≡ e = sym (name_once E o m i.0 i.1) in
    rw (h, s)

-- and what is found is held, with this name
pub found-held : (t s : ℕ) (E : List Entry) {k b : ℕ} → find t s E ≡ Some (record { number = k; bytes = b }) → (e : Entry) × In e E × (named t s e ≡ true) × (k ≡ e.number) × (b ≡ bytes e)
unfolding find
found-held t s E {k} {b} h = go (holds (named t s) E) refl h
  where
    F : Entry
    F = first (named t s) E

    go : (v : Bool) → holds (named t s) E ≡ v → cond {A = Option Frame} v (Some (frame_of F)) None ≡ Some (record { number = k; bytes = b }) → (e : Entry) × In e E × (named t s e ≡ true) × (k ≡ e.number) × (b ≡ bytes e)
    go true g j =
        let i = first_in (named t s) E g in
        let f : ◌≡◌ {A = Frame} (record { number = k; bytes = b }) (frame_of F) = cc in
        (F, i.0, i.1, ap (λ (x : Frame). x.number) f, ap (λ (x : Frame). x.bytes) f)
    go false g j = absurd (let z : ◌≡◌ {A = ℕ} 0 1 = cc in omega arith)
