-- Places list the entries E exactly if they are their picture, and the entries are orderly.
use mathlib.Core.Path.{◌≡◌, refl, ap, ◌∙◌}
use mathlib.Core.Bool.{Bool, true, false, cond}
use mathlib.Core.List.{List, [], ◌∷◌, ◌++◌}
use mathlib.Core.Option.{Option, none, some}
use Prim.Native.Nat.{ℕ, zero, suc, ◌*◌, ◌-◌, ◌≤◌}
use native.Mathlib.Omega.{arith}
use lib.Dec.{eqb}
use lib.ListN.{length, drop, replicate, length-append, length-drop, length-replicate}
use lib.Seq.{drop_at}
use borrow.Author.Tests.{eqb-true, ne_eqb}
use Rattle.book_entries.specs.declared.Entry.{Entry}
use Rattle.book_entries.specs.Book.{fair, orderly, picture, laid, entries, clear, listed}
use Rattle.book_entries.proofs.Places.{pictured, picture-length}
use Rattle.book_entries.proofs.Tests.{both, shape_good}

pub clear_zeros : (x : List ℕ) → clear x ≡ true → x ≡ replicate (length x) 0
unfolding clear
clear_zeros [] e = refl
clear_zeros (a ∷ x) e =
    let b = both (eqb a 0) (clear x) e in
    rw (eqb-true a 0 b.0, ← clear_zeros x b.1)

zeros_clear : (n : ℕ) → clear (replicate n 0) ≡ true
unfolding clear
zeros_clear zero = refl
zeros_clear (suc n) = zeros_clear n

-- what is known of places that list E
pub record Listing (w : List ℕ) (E : List Entry) : Type 0 where
  pub is : entries w ≡ E
  pub orderly : orderly E ≡ true
  pub clear : clear (drop (length E * 4) w) ≡ true

judged : (b : Bool) {E F : List Entry} → cond b (some E) none ≡ some F → (b ≡ true) × (E ≡ F)
judged true e = (refl, cc)
judged false {E} {F} e = absurd (let z : ◌≡◌ {A = ℕ} 0 1 = ap (λ (o : Option (List Entry)). elim o [ none ↦ 0 | some X ↦ 1 ]) e in omega arith)

pub listing : {w : List ℕ} {E : List Entry} → listed w ≡ some E → Listing w E
unfolding listed
listing {w} {E} e =
    let j = judged _ e in
    let b = both _ _ j.0 in
    record { is = j.1; orderly = rw (← j.1) b.0; clear = rw (← j.1) b.1 }

-- n words that list E
module _ (n : ℕ) (E : List Entry) (fits : length E * 4 ≤ n) where
  pub laid-length : length (laid n E) ≡ n
  unfolding laid
  laid-length = length-append (picture E) (replicate (n - length E * 4) 0) ∙ omega (arith, picture-length E, length-replicate {A = ℕ} (n - length E * 4) 0)

-- the words are the picture of the entries
pub laid-is : {w : List ℕ} {E : List Entry} → listed w ≡ some E → w ≡ laid (length w) E
unfolding laid
laid-is {w} {E} e =
    let h = listing e in
    let z : drop (length E * 4) w ≡ replicate (length w - length E * 4) 0 = clear_zeros _ h.clear ∙ ap (λ (k : ℕ). replicate k 0) (length-drop (length E * 4) w) in
    pictured w ∙ rw (h.is, z)

pub zeros_none : (n : ℕ) → entries (replicate n 0) ≡ []
unfolding entries
zeros_none zero = refl
zeros_none (suc zero) = refl
zeros_none (suc (suc zero)) = refl
zeros_none (suc (suc (suc zero))) = refl
zeros_none (suc (suc (suc (suc n)))) = refl

entries_of : (E : List Entry) (n : ℕ) → orderly E ≡ true → entries (picture E ++ replicate n 0) ≡ E
unfolding entries picture orderly fair
entries_of [] n o = zeros_none n
entries_of (e ∷ E) n o =
    let s : eqb e.shape 0 ≡ false = ne_eqb e.shape 0 (λ z. let y : e.shape ≡ 0 = z in omega (arith, shape_good e (both _ _ (both _ _ o).0).0)) in
    let t = both (fair e E) (orderly E) o in
    rw (s, entries_of E n t.1)

-- and the picture of orderly entries lists them
pub listed-laid : (n : ℕ) (E : List Entry) → orderly E ≡ true → length E * 4 ≤ n → listed (laid n E) ≡ some E
unfolding listed laid
listed-laid n E o fits =
    let z : List ℕ = replicate (n - length E * 4) 0 in
    rw (entries_of E (n - length E * 4) o, o, drop_at (picture E) z (length E * 4) (picture-length E), zeros_clear (n - length E * 4))
