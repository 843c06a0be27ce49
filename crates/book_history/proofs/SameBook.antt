-- A saved book loads as the same book.
use mathlib.Core.Path.{◌≡◌, refl, ap, ◌∙◌}
use mathlib.Core.Bool.{Bool, true, false, ◌||◌}
use mathlib.Core.List.{List, [], ◌∷◌, ◌++◌}
use mathlib.Core.Option.{some}
use Prim.Native.Nat.{ℕ, ◌≤◌, ◌<◌}
use native.Mathlib.Omega.{arith}
use lib.ListN.{length, take, drop}
use lib.Seq.{append_snoc, take_at}
use borrow.Author.Tests.{ltb-true, le-leb, le-ltb, ne_eqb}
use Rattle.book_entries.specs.declared.Entry.{Entry}
use Rattle.book_entries.specs.Book.{holds, numbered, before, orderly}
use Rattle.book_changes.specs.Changes.{insert}
use Rattle.book_changes.proofs.Orderly.{alike, first-fair, others}
use Rattle.counted_books.specs.Counted.{room, shown, held}
use Rattle.counted_books.proofs.Held.{holding}
use Rattle.name_book.specs.Calls.{opened}
use Rattle.book_lines.specs.Lines.{saved, InWords}
use Rattle.book_lines.proofs.Returned.{saved_back}
use Rattle.std.specs.Prelude.{Ok}
use Rattle.saved_books.specs.Saves.{settled, save}
use Rattle.loaded_books.specs.Loads.{distinct, gathered, replaced, load}

-- no entry behind g has a number up to g's
above : (k : ℕ) (g : Entry) → k ≤ g.number → (E : List Entry) → before g E ≡ true → orderly E ≡ true → holds (numbered k) E ≡ false
unfolding holds
above k g p [] b o = refl
above k g p (f ∷ E) b o =
    let l : g.number < f.number = ltb-true g.number f.number b in
    rw (ne_eqb f.number k (λ e. let z : f.number ≡ k = e in omega arith)) (above k f (omega arith) E (first-fair f E o).before (others f E o))

neither_of : (p q : Entry → Bool) (E : List Entry) → holds p E ≡ false → holds q E ≡ false → holds (λ f. p f || q f) E ≡ false
unfolding holds
neither_of p q [] a b = refl
neither_of p q (f ∷ E) a b = go (p f) (q f) a b (neither_of p q E)
  where
    go : (s t : Bool) → s || holds p E ≡ false → t || holds q E ≡ false → (holds p E ≡ false → holds q E ≡ false → holds (λ f. p f || q f) E ≡ false) → s || t || holds (λ f. p f || q f) E ≡ false
    go true t a b h = absurd (let z : ◌≡◌ {A = ℕ} 0 1 = cc in omega arith)
    go false true a b h = absurd (let z : ◌≡◌ {A = ℕ} 0 1 = cc in omega arith)
    go false false a b h = h a b

pub orderly-distinct : (E : List Entry) → orderly E ≡ true → distinct E ≡ true
unfolding distinct
orderly-distinct [] o = refl
orderly-distinct (e ∷ E) o =
    let f = first-fair e E o in
    rw (neither_of (numbered e.number) (alike e) E (above e.number e (omega arith) E f.before (others e E o)) f.fresh, orderly-distinct E (others e E o))

-- every number of A is below k
abbrev Below : ℕ → List Entry → Type 0
Below k [] = Unit {0}
Below k (f ∷ A) = (f.number < k) × Below k A

insert_last : (e : Entry) (A : List Entry) → Below e.number A → insert e A ≡ A ++ e ∷ []
unfolding insert
insert_last e [] b = refl
insert_last e (f ∷ A) b = rw (le-ltb e.number f.number (omega arith)) (ap (λ (l : List Entry). f ∷ l) (insert_last e A b.1))

below_more : (j k : ℕ) (e : Entry) (A : List Entry) → Below j A → j ≤ k → e.number < k → Below k (A ++ e ∷ [])
below_more j k e [] b p q = (q, tt)
below_more j k e (f ∷ A) b p q = (omega arith, below_more j k e A b.1 p q)

-- entries by rising number, put one by one behind lower ones
rising : (A : List Entry) (e : Entry) (E : List Entry) → Below e.number A → orderly (e ∷ E) ≡ true → gathered A (e ∷ E) ≡ A ++ e ∷ E
unfolding gathered
rising A e [] b o = insert_last e A b
rising A e (f ∷ E) b o =
    let l : e.number < f.number = ltb-true e.number f.number (first-fair e (f ∷ E) o).before in
    rw (insert_last e A b, rising (A ++ e ∷ []) f E (below_more e.number f.number e A b (omega arith) l) (others e (f ∷ E) o), append_snoc A e (f ∷ E))

pub gathered-same : (E : List Entry) → orderly E ≡ true → gathered [] E ≡ E
unfolding gathered
gathered-same [] o = refl
gathered-same (e ∷ E) o = rising [] e E tt o

-- the text of E, loaded into a sound book with places for it
module _ (E : List Entry) (o : orderly E ≡ true) (k : InWords E) where
  pub saved_loads : (v : List ℕ) {F : List Entry} → held v ≡ some F → length E ≤ room v → load v (saved E) ≡ (Ok (length E), shown (length v) E)
  unfolding load opened replaced
  saved_loads v h r = rw (h, opened) (rw (saved_back E o k, orderly-distinct E o, le-leb (length E) (room v) r, gathered-same E o))

-- a book that is saved, and the bytes that were written
module _ (w out : List ℕ) {E : List Entry} (h : held w ≡ some E) (room_for : length (saved E) ≤ length out) where
  pub saved-text : save w out ≡ (Ok (length (saved E)), saved E ++ drop (length (saved E)) out)
  unfolding save settled
  saved-text = rw (h, save) (rw (le-leb (length (saved E)) (length out) room_for))

  -- "saved .. loaded .. in place of what was held": as many words hold the same words
  pub same_book : InWords E → (v : List ℕ) {F : List Entry} → held v ≡ some F → length v ≡ length w → load v (take (length (saved E)) (save w out).1) ≡ (Ok (length E), w)
  same_book k v g l =
      let i = holding w h in
      let t : take (length (saved E)) (save w out).1 ≡ saved E = rw saved-text (take_at (saved E) (drop (length (saved E)) out) (length (saved E)) refl) in
      rw t (saved_loads E i.fits.orderly k v g (rw l i.fits.few) ∙ rw (l, ← i.is))
