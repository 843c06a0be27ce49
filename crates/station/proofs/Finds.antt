-- A name that was found is found with the same frame after any calls of any stations.
use Rattle.std.proofs.Common.{◌≡◌, ℕ, suc, Bool, true, false, cond, ◌&&◌, ◌||◌, eqb, List, [], ◌∷◌, get_or, sym, refl, ap, ◌∙◌, true≢false, arith, eq-eqb, eqb-true}
use mathlib.Core.Bool.{false≢true}
use mathlib.Core.Option.{Option, none, some}
use Rattle.book_entries.specs.declared.Entry.{Entry}
use Rattle.book_entries.specs.Entries.{text, size, bytes}
use Rattle.book_entries.specs.Book.{place, holds, named, orderly}
use Rattle.counted_books.specs.Counted.{held}
use Rattle.book_entries.proofs.Tests.{both}
use Rattle.book_changes.specs.Changes.{vacant}
use Rattle.book_changes.proofs.Orderly.{first-fair, others}
use Rattle.std.specs.Prelude.{Some, None, Result, Ok, Err}
use Rattle.std.specs.Prelude as given
use Rattle.name_book.specs.Calls.{first, frame_of, find, look_up}
use Rattle.name_book.specs.declared.Frame.{Frame}
use Rattle.name_book.specs.declared.Refusal.{Refusal}
use Rattle.name_book.specs.declared.Refusal.TheVariants.{NotABook}
use Rattle.station.specs.Shifts.{Turn, run}
use Rattle.station.proofs.Stays.{bindings_stay}

-- the first that fits has g: one that fits has g
some-has : (fits g : Entry → Bool) (E : List Entry) → holds fits E ≡ true → g (first fits E) ≡ true → holds (λ f. fits f && g f) E ≡ true
unfolding holds place
some-has fits g [] h i = absurd (false≢true h)
some-has fits g (e ∷ E) h i = go (fits e) refl h i (some-has fits g E)
  where
    go : (b : Bool) → fits e ≡ b → b || holds fits E ≡ true → g (get_or (e ∷ E) (cond b 0 (suc (place fits E))) vacant) ≡ true → (holds fits E ≡ true → g (first fits E) ≡ true → holds (λ f. fits f && g f) E ≡ true) → fits e && g e || holds (λ f. fits f && g f) E ≡ true
    go true q h i rest = rw (q, i)
    go false q h i rest = rw q (rest h i)

some_fits : (fits g : Entry → Bool) (E : List Entry) → holds (λ f. fits f && g f) E ≡ true → holds fits E ≡ true
unfolding holds
some_fits fits g [] h = h
some_fits fits g (e ∷ E) h = go (fits e) (g e) h (some_fits fits g E)
  where
    go : (a b : Bool) → a && b || holds (λ f. fits f && g f) E ≡ true → (holds (λ f. fits f && g f) E ≡ true → holds fits E ≡ true) → a || holds fits E ≡ true
    go true b h rest = refl
    go false b h rest = rest h

-- a name stands once: one that has it and g is the first that has it
first-has : (t s : ℕ) (g : Entry → Bool) (E : List Entry) → orderly E ≡ true → holds (λ f. named t s f && g f) E ≡ true → g (first (named t s) E) ≡ true
unfolding holds place
first-has t s g [] o h = absurd (false≢true h)
first-has t s g (e ∷ E) o h = go (named t s e) (g e) refl refl h (first-has t s g E (others e E o))
  where
    twice : named t s e ≡ true → holds (named t s) E ≡ true → ⊥
    twice q i =
        let n = both (eqb (text e) t) (eqb (size e) s) q in
        true≢false (sym i ∙ rw (eqb-true (text e) t n.0, eqb-true (size e) s n.1) at (first-fair e E o).fresh)

    go : (a b : Bool) → named t s e ≡ a → g e ≡ b → a && b || holds (λ f. named t s f && g f) E ≡ true → (holds (λ f. named t s f && g f) E ≡ true → g (first (named t s) E) ≡ true) → g (get_or (e ∷ E) (cond a 0 (suc (place (named t s) E))) vacant) ≡ true
    go true true q r h rest = r
    go true false q r h rest = absurd (twice q (some_fits (named t s) g E h))
    go false b q r h rest = rest h

-- of a name: the frame's number and byte length
abbrev bound_to : ℕ → ℕ → Entry → Bool
bound_to k b e = eqb e.number k && eqb (bytes e) b

module _ (t s k b : ℕ) where
  found_so : (E : List Entry) → find t s E ≡ Some (record { number = k; bytes = b }) → holds (λ f. named t s f && bound_to k b f) E ≡ true
  unfolding find
  found_so E e = go (holds (named t s) E) refl e
    where
      f : Entry
      f = first (named t s) E

      go : (h : Bool) → holds (named t s) E ≡ h → cond {A = given.Option Frame} h (Some (frame_of f)) None ≡ Some (record { number = k; bytes = b }) → holds (λ f. named t s f && bound_to k b f) E ≡ true
      go true h q =
          let z : ◌≡◌ {A = Frame} (frame_of f) (record { number = k; bytes = b }) = cc in
          let x : f.number ≡ k = ap (λ (g : Frame). g.number) z in
          let y : bytes f ≡ b = ap (λ (g : Frame). g.bytes) z in
          some-has (named t s) (bound_to k b) E h (rw (eq-eqb f.number k x, eq-eqb (bytes f) b y))
      go false h q = absurd (let z : ◌≡◌ {A = ℕ} 0 1 = cc in omega arith)

  so_found : (E : List Entry) → orderly E ≡ true → holds (λ f. named t s f && bound_to k b f) E ≡ true → find t s E ≡ Some (record { number = k; bytes = b })
  unfolding find
  so_found E o h =
      let f = first (named t s) E in
      let i = both (eqb f.number k) (eqb (bytes f) b) (first-has t s (bound_to k b) E o h) in
      rw (some_fits (named t s) (bound_to k b) E h, eqb-true f.number k i.0, eqb-true (bytes f) b i.1)

  pub found_again : (w : List ℕ) (ts : List Turn) → look_up w t s ≡ Ok (Some (record { number = k; bytes = b })) → look_up (run w ts) t s ≡ Ok (Some (record { number = k; bytes = b }))
  unfolding look_up
  found_again w ts e = go (held w) refl e
    where
      go : (o : Option (List Entry)) → held w ≡ o → ◌≡◌ {A = Result (given.Option Frame) Refusal} (elim o [ none ↦ Err NotABook | some E ↦ Ok (find t s E) ]) (Ok (Some (record { number = k; bytes = b }))) → look_up (run w ts) t s ≡ Ok (Some (record { number = k; bytes = b }))
      go none h q = absurd (let z : ◌≡◌ {A = ℕ} 0 1 = cc in omega arith)
      go (some E) h q =
          let i = bindings_stay w E h ts in
          let p : ◌≡◌ {A = given.Option Frame} (find t s E) (Some (record { number = k; bytes = b })) = cc in
          rw (i.keeps.holds, look_up) (ap (λ (f : given.Option Frame). Ok f) (so_found i.now i.keeps.fits.orderly (i.stays (λ f. named t s f && bound_to k b f) (found_so E p))))
