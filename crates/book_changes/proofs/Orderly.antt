-- Orderly entries stay so with a new one among them, and with one less.
use mathlib.Core.Path.{◌≡◌, refl, sym, ap, ◌∙◌}
use mathlib.Core.Bool.{Bool, true, false, cond, not, ◌&&◌, ◌||◌}
use mathlib.Core.List.{List, [], ◌∷◌}
use Prim.Native.Nat.{ℕ, suc, ◌<◌}
use native.Mathlib.Decide.{ℕ_discrete}
use native.Mathlib.Omega.{arith}
use lib.Dec.{ltb, eqb}
use lib.ListN.{length}
use borrow.Author.Tests.{ltb-true, ltb-false, lt-ltb, eq-eqb, ne_eqb, eqb-false, not-true}
use Rattle.book_entries.specs.declared.Entry.{Entry}
use Rattle.book_entries.specs.Entries.{text, size, good}
use Rattle.book_entries.specs.Book.{holds, place, named, numbered, before, fair, orderly}
use Rattle.book_entries.proofs.Tests.{both, neither}
use Rattle.book_changes.specs.Changes.{higher, insert, without}

-- the name of e
abbrev pub alike : Entry → Entry → Bool
alike e = named (text e) (size e)

-- what a fair entry is
pub record Fair (e : Entry) (E : List Entry) : Type 0 where
  pub good : good e ≡ true
  pub before : before e E ≡ true
  pub fresh : holds (alike e) E ≡ false

fair-parts : (e : Entry) (E : List Entry) → fair e E ≡ true → Fair e E
unfolding fair
fair-parts e E h =
    let a = both (good e) (before e E && not (holds (alike e) E)) h in
    let b = both (before e E) (not (holds (alike e) E)) a.1 in
    record { good = a.0; before = b.0; fresh = not-true (holds (alike e) E) b.1 }

fair_of : (e : Entry) (E : List Entry) → Fair e E → fair e E ≡ true
unfolding fair
fair_of e E f = rw (f.good, f.before, f.fresh)

-- the first entry, and the others
module _ (e : Entry) (E : List Entry) (o : orderly (e ∷ E) ≡ true) where
  split : (fair e E ≡ true) × (orderly E ≡ true)
  unfolding orderly
  split = both (fair e E) (orderly E) o

  pub first-fair : Fair e E
  first-fair = fair-parts e E split.0

  pub others : orderly E ≡ true
  others = split.1

pub orderly_of : (e : Entry) (E : List Entry) → Fair e E → orderly E ≡ true → orderly (e ∷ E) ≡ true
unfolding orderly
orderly_of e E f o = rw (fair_of e E f, o)

pub eqb_comm : (a b : ℕ) → eqb a b ≡ eqb b a
eqb_comm a b = go (ℕ_discrete a b)
  where
    go : Dec (a ≡ b) → eqb a b ≡ eqb b a
    go (yes h) = rw (eq-eqb a b h, eq-eqb b a (sym h))
    go (no h) = rw (ne_eqb a b h, ne_eqb b a (λ k. h (sym k)))

pub alike_comm : (e f : Entry) → alike e f ≡ alike f e
alike_comm e f = rw (eqb_comm (text f) (text e), eqb_comm (size f) (size e))

-- an entry more
pub insert-length : (e : Entry) (E : List Entry) → length (insert e E) ≡ suc (length E)
unfolding insert
insert-length e [] = refl
insert-length e (f ∷ E) = ap suc (insert-length (higher e f) E)

pub holds-insert : (fits : Entry → Bool) (e : Entry) (E : List Entry) → holds fits (insert e E) ≡ fits e || holds fits E
unfolding insert holds
holds-insert fits e [] = refl
holds-insert fits e (f ∷ E) = rw (holds-insert fits (higher e f) E) (go (ltb e.number f.number))
  where
    swap : (a b h : Bool) → a || (b || h) ≡ b || (a || h)
    swap true true h = refl
    swap true false h = refl
    swap false b h = refl

    go : (b : Bool) → fits (cond b e f) || (fits (cond b f e) || holds fits E) ≡ fits e || (fits f || holds fits E)
    go true = refl
    go false = swap (fits f) (fits e) (holds fits E)

-- an entry in front of higher ones stays there
insert-front : (e : Entry) (E : List Entry) → before e E ≡ true → orderly E ≡ true → insert e E ≡ e ∷ E
unfolding insert
insert-front e [] b o = refl
insert-front e (f ∷ E) b o = rw b (ap (λ (l : List Entry). e ∷ l) (insert-front f E (first-fair f E o).before (others f E o)))

before-insert : (f e : Entry) (E : List Entry) → before f E ≡ true → ltb f.number e.number ≡ true → before f (insert e E) ≡ true
unfolding insert
before-insert f e [] b l = l
before-insert f e (g ∷ E) b l = go (ltb e.number g.number)
  where
    go : (t : Bool) → ltb f.number (cond t e g).number ≡ true
    go true = l
    go false = b

pub insert-orderly : (e : Entry) (E : List Entry) → good e ≡ true → holds (numbered e.number) E ≡ false → holds (alike e) E ≡ false → orderly E ≡ true → orderly (insert e E) ≡ true
unfolding insert holds
insert-orderly e [] g k a o = orderly_of e [] (record { good = g; before = refl; fresh = a }) o
insert-orderly e (f ∷ E) g k a o = go (ltb e.number f.number) refl (insert-orderly e E g ks.1 ns.1 (others f E o))
  where
    ks : (numbered e.number f ≡ false) × (holds (numbered e.number) E ≡ false)
    ks = neither (numbered e.number f) (holds (numbered e.number) E) k

    ns : (alike e f ≡ false) × (holds (alike e) E ≡ false)
    ns = neither (alike e f) (holds (alike e) E) a

    rest : Fair f E
    rest = first-fair f E o

    go : (b : Bool) → ltb e.number f.number ≡ b → orderly (insert e E) ≡ true → orderly (cond b e f ∷ insert (cond b f e) E) ≡ true
    go true t h = rw (insert-front f E rest.before (others f E o)) (orderly_of e (f ∷ E) (record { good = g; before = t; fresh = a }) o)
    go false t h =
        let l : f.number < e.number = omega (arith, ltb-false e.number f.number t, eqb-false f.number e.number ks.0) in
        orderly_of f (insert e E) (record { good = rest.good; before = before-insert f e E rest.before (lt-ltb f.number e.number l); fresh = holds-insert (alike f) e E ∙ rw (alike_comm f e, ns.0, rest.fresh) }) h

-- an entry less
pub without-length : (k : ℕ) (E : List Entry) → place (numbered k) E < length E → suc (length (without k E)) ≡ length E
unfolding without place
without-length k [] p = absurd (omega arith)
without-length k (e ∷ E) p = go (numbered k e) p (without-length k E)
  where
    go : (b : Bool) → cond b 0 (suc (place (numbered k) E)) < suc (length E) → (place (numbered k) E < length E → suc (length (without k E)) ≡ length E) → suc (length (cond b E (e ∷ without k E))) ≡ suc (length E)
    go true q h = refl
    go false q h = ap suc (h (omega arith))

pub holds-without : (fits : Entry → Bool) (k : ℕ) (E : List Entry) → holds fits E ≡ false → holds fits (without k E) ≡ false
unfolding without holds
holds-without fits k [] h = h
holds-without fits k (e ∷ E) h = go (numbered k e) (holds-without fits k E n.1)
  where
    n : (fits e ≡ false) × (holds fits E ≡ false)
    n = neither (fits e) (holds fits E) h

    go : (b : Bool) → holds fits (without k E) ≡ false → holds fits (cond b E (e ∷ without k E)) ≡ false
    go true i = n.1
    go false i = rw (n.0, i)

before-without : (f : Entry) (k : ℕ) (E : List Entry) → before f E ≡ true → orderly E ≡ true → before f (without k E) ≡ true
unfolding without
before-without f k [] b o = b
before-without f k (e ∷ E) b o = go (numbered k e)
  where
    through : (E : List Entry) → before e E ≡ true → before f E ≡ true
    through [] l = refl
    through (g ∷ E) l = lt-ltb f.number g.number (omega (arith, ltb-true f.number e.number b, ltb-true e.number g.number l))

    go : (t : Bool) → before f (cond t E (e ∷ without k E)) ≡ true
    go true = through E (first-fair e E o).before
    go false = b

pub without-orderly : (k : ℕ) (E : List Entry) → orderly E ≡ true → orderly (without k E) ≡ true
unfolding without
without-orderly k [] o = o
without-orderly k (e ∷ E) o = go (numbered k e) (without-orderly k E (others e E o))
  where
    f : Fair e E
    f = first-fair e E o

    go : (t : Bool) → orderly (without k E) ≡ true → orderly (cond t E (e ∷ without k E)) ≡ true
    go true h = others e E o
    go false h = orderly_of e (without k E) (record { good = f.good; before = before-without e k E f.before (others e E o); fresh = holds-without (alike e) k E f.fresh }) h
