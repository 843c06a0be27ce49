-- A phrase is filled, one bracket after the other.
use mathlib.Core.Path.{◌≡◌, refl, ap, ◌∙◌}
use mathlib.Core.List.{List, ◌++◌}
use Prim.Native.Nat.{ℕ, suc, ◌+◌, ◌-◌, ◌≤◌, ◌<◌}
use native.Mathlib.Omega.{arith}
use lib.ListN.{length, take, drop, length-drop}
use lib.Seq.{length-take-le}
use borrow.Author.Tests.{lt-ltb, le-ltb}
use Rattle.element_kinds.specs.Kinds.{byte}
use Rattle.element_kinds.specs.declared.Kind.{Kind}
use Rattle.element_kinds.specs.declared.Kind.TheVariants.{Position, Speed, SpeedType, ThreeSpeedTypes, Level, Degrees, Frequency, Code, TrafficType, ClearanceType, ErrorInformation, FacilityFunction, Procedure, Runway, Coordinates, DepartureClearance}
use Rattle.atn.specs.Reading.{Rec}
use Rattle.phrases.specs.Phrases.{place, close, fill}
use Rattle.phrases.specs.Found.{Closed}
use Rattle.phrases.proofs.PhraseLaws.{tail}
use Rattle.screen_elements.specs.Lines.{argument, value_count, values}

pub fill_none : (kind : ℕ) (R : List Rec) (p : List ℕ) {n : ℕ} → n ≡ 0 → fill (values n kind R) p ≡ p
unfolding fill values
fill_none kind R p e = rw e

-- no bracket is closed
pub fill-all : (n kind : ℕ) (R : List Rec) (p : List ℕ) → (n ≡ 0 → ⊥) → close p ≡ length p → fill (values n kind R) p ≡ p
unfolding fill values
fill-all n kind R p h e =
    let m : n ≡ suc (n - 1) = omega arith in
    let c : length p ≤ close p = omega (arith, e) in
    rw (m, le-ltb (close p) (length p) c)

module _ (n kind : ℕ) (R : List Rec) (p : List ℕ) {i k : ℕ} (h : n ≡ 0 → ⊥) (o : i ≡ place 91 p) (f : Closed p i k) where
  one_more : n ≡ suc (n - 1)
  one_more = omega arith

  -- the first bracket takes the next value
  pub fill_more : fill (values n kind R) p ≡ take i p ++ argument kind R ++ fill (values (n - 1) kind (drop 1 R)) (take (length p - (k + 1)) (drop (k + 1) p))
  unfolding fill values
  fill_more =
      let c : close p < length p = rw f.close_is at f.within in
      ap (λ (j : ℕ). fill (values j kind R) p) one_more ∙ rw (lt-ltb (close p) (length p) c, tail p (k + 1), o, f.close_is)

-- how long the parts of a phrase are, before its first bracket and behind it
pub front : (p : List ℕ) {i : ℕ} → i ≤ length p → length (take i p) ≡ i
front p {i} h = length-take-le i p h

pub behind : (p : List ℕ) (k : ℕ) → length (take (length p - (k + 1)) (drop (k + 1) p)) ≡ length p - (k + 1)
behind p k = ap length (tail p (k + 1)) ∙ length-drop (k + 1) p

-- one value, but for three speed types
pub one-value : (k : Kind) → (k ≡ ThreeSpeedTypes → ⊥) → 1 ≡ value_count (byte k)
unfolding value_count
one-value Position h = refl
one-value Speed h = refl
one-value SpeedType h = refl
one-value ThreeSpeedTypes h = absurd (h refl)
one-value Level h = refl
one-value Degrees h = refl
one-value Frequency h = refl
one-value Code h = refl
one-value TrafficType h = refl
one-value ClearanceType h = refl
one-value ErrorInformation h = refl
one-value FacilityFunction h = refl
one-value Procedure h = refl
one-value Runway h = refl
one-value Coordinates h = refl
one-value DepartureClearance h = refl
