-- Characters by where they stand, and the records of all of them.
use mathlib.Core.Path.{◌≡◌, refl, sym, ap, ◌∙◌}
use mathlib.Core.Bool.{Bool, true, false, cond}
use mathlib.Core.List.{List, [], ◌∷◌, ◌++◌, append_assoc, append-nil}
use Prim.Native.Nat.{ℕ, zero, suc, ◌+◌, ◌-◌, ◌*◌, ◌/◌, ◌≤◌, ◌<◌}
use native.Mathlib.Nat.{suc-mul, add-zero, add-suc, suc-add}
use native.Mathlib.Omega.{arith}
use lib.ListN.{length, drop, length-append}
use lib.Dec.{ltb, eqb}
use borrow.Author.Tests.{ltb-true, ltb-false}
use Rattle.x691.specs.Bits.{bit_of, uint}
use Rattle.atn.specs.Reading.{Rec, rec, octets, packs, pack, coded, spaced, units}
use Rattle.atn.proofs.Texts.{length-units, length-coded, length-spaced}
use Rattle.records.specs.Told.{Told}
use Rattle.records.proofs.Telling.{told_none, told-then, told-within, told-length}
use Rattle.tell.specs.declared.characters.Run.{Run}
use Rattle.tell.specs.Characters.{units_from, counted, from}

---------------------------------------------------------------- characters

module _ (s : List ℕ) (r : Run) where
  abbrev unit : ℕ → ℕ
  unit i = uint (bit_of s) (r.at + i * r.width) r.width

  abbrev code : ℕ → ℕ
  code i = cond r.spaced (cond (eqb (unit i) 0) 32 (47 + unit i)) (r.first + unit i)

  units-next : (i : ℕ) → i < r.len → units_from s r i ≡ unit i ∷ units_from s r (suc i)
  unfolding units
  units-next i h =
      let e : r.len - i ≡ suc (r.len - suc i) = omega arith in
      let f : r.at + i * r.width + r.width ≡ r.at + suc i * r.width = omega (arith, suc-mul i r.width) in
      rw (e, f)

  from_next : (i : ℕ) → i < r.len → from s r i ≡ code i ∷ from s r (suc i)
  unfolding from counted spaced coded
  from_next i h = rw (units-next i h) (go r.spaced)
    where
      go : (t : Bool) → cond t (spaced (unit i ∷ units_from s r (suc i))) (coded r.first (unit i ∷ units_from s r (suc i)))
          ≡ cond t (cond (eqb (unit i) 0) 32 (47 + unit i)) (r.first + unit i) ∷ cond t (spaced (units_from s r (suc i))) (coded r.first (units_from s r (suc i)))
      go true = refl
      go false = refl

  from-none : (i : ℕ) → r.len ≤ i → from s r i ≡ []
  unfolding from counted spaced coded units
  from-none i h = let e : r.len - i ≡ 0 = omega arith in rw e (go r.spaced)
    where
      go : (t : Bool) → cond {A = List ℕ} t [] [] ≡ []
      go true = refl
      go false = refl

  from-length : length (from s r 0) ≡ r.len
  unfolding from counted
  from-length = go r.spaced (length-units (bit_of s) r.width (r.at + 0 * r.width) (r.len - 0))
    where
      go : (t : Bool) → length (units_from s r 0) ≡ r.len - 0 → length (cond t (spaced (units_from s r 0)) (coded r.first (units_from s r 0))) ≡ r.len
      go true q = length-spaced (units_from s r 0) ∙ omega arith
      go false q = length-coded r.first (units_from s r 0) ∙ omega arith

  from-drop : (k i : ℕ) → drop k (from s r i) ≡ from s r (i + k)
  from-drop zero i = rw (add-zero i)
  from-drop (suc k) i = go (ltb i r.len) refl (from-drop k (suc i))
    where
      go : (t : Bool) → ltb i r.len ≡ t → drop k (from s r (suc i)) ≡ from s r (suc i + k) → drop (suc k) (from s r i) ≡ from s r (i + suc k)
      go true q h = rw (from_next i (ltb-true i _ q), add-suc, ← suc-add) h
      go false q h = let l : r.len ≤ i = ltb-false i _ q in rw (from-none i l, from-none (i + suc k) (omega arith))

---------------------------------------------------------------- the records of all characters

module _ (t m : ℕ) (s : List ℕ) (r : Run) where
  -- those of the characters from i on
  abbrev behind : ℕ → List Rec
  behind i = packs t m r.from r.len ((r.len - i + 7) / 8) (from s r i)

  behind-next : (i : ℕ) → i < r.len → behind i ≡ rec t m (octets 8 (from s r i)) r.len r.from ∷ behind (i + 8)
  unfolding packs
  behind-next i h = let e : (r.len - i + 7) / 8 ≡ suc ((r.len - (i + 8) + 7) / 8) = omega arith in rw (e, from-drop s r 8 i)

  behind-none : (i : ℕ) → r.len ≤ i → behind i ≡ []
  unfolding packs
  behind-none i h = let e : (r.len - i + 7) / 8 ≡ 0 = omega arith in rw e

  behind-all : pack t m r.from (from s r 0) ≡ behind 0
  unfolding pack
  behind-all = let e : r.len ≡ r.len - 0 = omega arith in rw (from-length s r) (ap (λ (l : ℕ). packs t m r.from r.len ((l + 7) / 8) (from s r 0)) e)

-- the records of the characters before i are told, and with the others they are all
pub record Upto (t e : ℕ) (s : List ℕ) (r : Run) (w w' : List ℕ) (n m i : ℕ) : Type 0 where
  pub gone : List Rec
  pub told : Told (length gone) w w' n m gone
  pub all : gone ++ behind t e s r i ≡ behind t e s r 0
  pub count : m + (r.len - i + 7) / 8 ≡ n + (r.len + 7) / 8

pub upto_none : {t e : ℕ} {s : List ℕ} {r : Run} {w : List ℕ} {n : ℕ} → Upto t e s r w w n n 0
upto_none = record { gone = []; told = told_none; all = refl; count = omega arith }

module _ {t e : ℕ} {s : List ℕ} {r : Run} {w w' : List ℕ} where
  pub upto_more : {w'' : List ℕ} {n m l i v : ℕ} → i < r.len → Upto t e s r w w' n m i → v ≡ octets 8 (from s r i) → Told 1 w' w'' m l (rec t e v r.len r.from ∷ []) → Upto t e s r w w'' n l (i + 8)
  upto_more {w''} {n} {m} {l} {i} {v} h u q x =
      let c : l ≡ m + 1 = x.count in
      let one : List Rec = rec t e v r.len r.from ∷ [] in
      record {
        gone = u.gone ++ one;
        told = told-within (length (u.gone ++ one)) (simp length-append (omega arith)) (told-then u.told x);
        all = append_assoc u.gone one (behind t e s r (i + 8)) ∙ ap (λ (rs : List Rec). u.gone ++ rs) (rw q (sym (behind-next t e s r i h))) ∙ u.all;
        count = omega (arith, u.count);
      }

  pub upto_all : {n m i : ℕ} → r.len ≤ i → Upto t e s r w w' n m i → Told ((r.len + 7) / 8) w w' n m (pack t e r.from (from s r 0))
  upto_all {n} {m} {i} h u =
      let q : u.gone ≡ pack t e r.from (from s r 0) = sym (append-nil u.gone) ∙ (rw (behind-none t e s r i h) at u.all) ∙ sym (behind-all t e s r) in
      let x : Told (length u.gone) w w' n m (pack t e r.from (from s r 0)) = rw q (rw q at u.told) in
      record { count = x.count; few = omega (arith, u.count); room = x.room; before = x.before; words = x.words }

  pub upto_length : {n m i : ℕ} → Upto t e s r w w' n m i → length w' ≡ length w
  upto_length u = told-length u.told
