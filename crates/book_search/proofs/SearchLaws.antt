-- The test of all places.
use mathlib.Core.Path.{◌≡◌, refl, sym, ◌∙◌}
use mathlib.Core.Bool.{Bool, true, false, cond, not}
use mathlib.Core.List.{List, [], ◌∷◌}
use mathlib.Core.Option.{none, some}
use Prim.Native.Nat.{ℕ, suc, ◌+◌, ◌*◌, ◌-◌, ◌<◌}
use native.Mathlib.Nat.{le_refl}
use native.Mathlib.Omega.{arith}
use borrow.Author.Tests.{ltb-true}
use lib.Dec.{eqb, ltb}
use lib.ListN.{length, take, drop, length-drop}
use lib.Seq.{take_all}
use Rattle.std.specs.Prelude.{Option, Some, None, is_some}
use Rattle.std.specs.List.{list_any, list_all, position, position_or_len}
use Rattle.book_entries.specs.declared.Entry.{Entry}
use Rattle.book_entries.specs.Entries.{text, size, good, entry_at}
use Rattle.book_entries.proofs.Places.{from, next_of, last}
use Rattle.book_entries.proofs.Tests.{holds-place}
use Rattle.book_entries.specs.Book.{place, holds, named, before, fair, orderly, entries, clear, listed}

-- what a test says of x it says of y
pub told : {A : Type 0} (test : A → Bool) {x y : A} {r s : Bool} → r ≡ test x → x ≡ y → r ≡ s → test y ≡ s
told test e p f = rw (← p) (sym e ∙ f)

-- the entry e, with E behind it
module _ (e : Entry) (E : List Entry) where
  pub bad : good e ≡ false → false ≡ fair e E
  unfolding fair
  bad g = rw g

  module _ (g : good e ≡ true) where
    pub falling : before e E ≡ false → false ≡ fair e E
    unfolding fair
    falling b = rw (g, b)

    pub fresh : before e E ≡ true → {h : Bool} → h ≡ holds (named (text e) (size e)) E → not h ≡ fair e E
    unfolding fair
    fresh b h = rw (g, b, h)

-- the entries F are left, the first of them e
module _ {F E : List Entry} {e : Entry} (is : F ≡ e ∷ E) where
  pub unfair : false ≡ fair e E → orderly F ≡ false
  unfolding orderly
  unfair f = rw (is, ← f)

  pub turn : true ≡ fair e E → orderly F ≡ orderly E
  unfolding orderly
  turn f = rw (is, ← f)

  pub met : (fits : Entry → Bool) → fits e ≡ true → holds fits F ≡ true
  unfolding holds
  met fits f = rw (is, f)

  pub passed : (fits : Entry → Bool) → fits e ≡ false → holds fits F ≡ holds fits E
  unfolding holds
  passed fits f = rw (is, f)

pub all-orderly : {E : List Entry} → E ≡ [] → orderly E ≡ true
unfolding orderly
all-orderly is = rw is

pub nothing : (fits : Entry → Bool) {E : List Entry} → E ≡ [] → holds fits E ≡ false
unfolding holds
nothing fits is = rw is

-- behind the last entry there is none
pub at-end : (w : List ℕ) (i : ℕ) → i ≡ length (entries w) → from w i ≡ []
at-end w i e = rw e (last w)

-- the entry e and the one at place i
pub none-behind : (e : Entry) (w : List ℕ) (i : ℕ) → i ≡ length (entries w) → before e (from w i) ≡ true
none-behind e w i p = rw (at-end w i p)

pub one-behind : (e : Entry) (w : List ℕ) (i : ℕ) → i < length (entries w) → before e (from w i) ≡ ltb e.number (entry_at w i).number
one-behind e w i p = rw (next_of w i p)

module _ (w : List ℕ) where
  pub unsound : orderly (entries w) ≡ false → listed w ≡ none
  unfolding listed
  unsound e = rw e

  pub judged : {r : Bool} → orderly (entries w) ≡ true → r ≡ clear (drop (length (entries w) * 4) w) → listed w ≡ cond r (some (entries w)) none
  unfolding listed
  judged e f = rw (e, f)

  -- the words behind the entries, lent
  pub clear-behind : {n : ℕ} {r : Bool} → n ≡ length (entries w) → r ≡ clear (take (length w - n * 4) (drop (n * 4) w)) → r ≡ clear (drop (length (entries w) * 4) w)
  clear-behind {n} is e = e ∙ rw (take_all (length w - n * 4) (drop (n * 4) w) (simp length-drop (le_refl _)), is)

-- std's words for the same tests of all
pub any-holds : (fits : Entry → Bool) (E : List Entry) → list_any fits E ≡ holds fits E
unfolding holds
any-holds fits [] = refl
any-holds fits (e ∷ E) = rw (any-holds fits E)

pub all-clear : (w : List ℕ) → list_all (λ (x : ℕ). eqb x 0) w ≡ clear w
unfolding clear
all-clear [] = refl
all-clear (x ∷ w) = rw (all-clear w)

-- the place of the first entry that fits
place-is : (fits : Entry → Bool) (E : List Entry) → place fits E ≡ position_or_len fits E
unfolding place
place-is fits [] = refl
place-is fits (e ∷ E) = go (fits e) (place-is fits E)
  where
    go : (b : Bool) → place fits E ≡ position_or_len fits E → cond b 0 (suc (place fits E)) ≡ cond (not b) (1 + position_or_len fits E) 0
    go true h = refl
    go false h = omega (arith, h)

position-is : (fits : Entry → Bool) (E : List Entry) → position fits E ≡ cond (holds fits E) (Some (place fits E)) None
position-is fits E = rw (holds-place fits E, place-is fits E)

-- p is the place of the first entry of E that fits
pub record Placed (fits : Entry → Bool) (E : List Entry) (p : ℕ) : Type 0 where
  pub there : holds fits E ≡ true
  pub first : p ≡ place fits E
  pub within : p < length E

module _ (fits : Entry → Bool) (E : List Entry) where
  pub placed : {p : ℕ} → Some p ≡ position fits E → Placed fits E p
  placed {p} e = go (holds fits E) refl (e ∙ position-is fits E)
    where
      go : (b : Bool) → holds fits E ≡ b → Some p ≡ cond b (Some (place fits E)) None → Placed fits E p
      go true h q =
          let f : p ≡ place fits E = cc in
          record { there = h; first = f; within = omega (arith, f, ltb-true (place fits E) (length E) (sym (holds-place fits E) ∙ h)) }
      go false h q = absurd (let z : ◌≡◌ {A = ℕ} 0 1 = cc in omega arith)

  pub absent : None ≡ position fits E → holds fits E ≡ false
  absent e = go (holds fits E) (e ∙ position-is fits E)
    where
      go : (b : Bool) → None ≡ cond b (Some (place fits E)) None → b ≡ false
      go false h = refl
      go true h = absurd (let z : ◌≡◌ {A = ℕ} 0 1 = cc in omega arith)

  pub held_if : {r : Bool} {o : Option ℕ} → r ≡ is_some o → o ≡ position fits E → holds fits E ≡ r
  held_if e f = go (holds fits E) (e ∙ rw (f, position-is fits E))
    where
      go : {r : Bool} (b : Bool) → r ≡ is_some (cond b (Some (place fits E)) None) → b ≡ r
      go true h = sym h
      go false h = sym h
