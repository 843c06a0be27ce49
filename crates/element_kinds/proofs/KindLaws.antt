-- A record that was fetched, and what follows from it for an element.
use mathlib.Core.Bool.{Bool, true, false, not, ◌&&◌}
use mathlib.Core.List.{List}
use mathlib.Core.Path.{◌≡◌, refl, sym, ap}
use Prim.Native.Nat.{ℕ, ◌+◌, ◌≤◌, ◌<◌}
use native.Mathlib.Numerals.{add-one}
use borrow.Author.Tests.{eq-eqb, ne_eqb}
use native.Mathlib.Omega.{arith}
use denote.Enum.Bare.{sameb}
use denote.Enum.Declared.{tag_of}
use Rattle.std.specs.Prelude.{Option, None, Some, eqb}
use Rattle.std.specs.Option.{option_eq, is_some}
use Rattle.element_kinds.specs.declared.Kind.{Kind}
use Rattle.element_kinds.specs.declared.Kind.TheVariants.{Position, Speed, SpeedType, ThreeSpeedTypes, Level, Degrees, Frequency, Code, TrafficType, ClearanceType, ErrorInformation, FacilityFunction, Procedure, Runway, Coordinates, DepartureClearance}
use Rattle.element_kinds.specs.contracts.Kind.{the_type}
use Rattle.atn.specs.Reading.{Rec}
use Rattle.record_views.specs.View.{count, record_at, records_from, fetched}
use Rattle.record_views.specs.declared.Record.{Record}
use Rattle.record_views.proofs.ViewLaws.{from_here, from_end}
use Rattle.screen_records.specs.Fields.{tag}
use Rattle.screen_records.proofs.FieldLaws.{behind, here}
use Rattle.element_kinds.specs.Kinds.{byte, byte_of, kind_by, kind_of}
use Rattle.element_kinds.specs.Agreed.{is_last, kind_agrees, one_agrees, later_agree, element_agrees, agreed}

-- kinds are the same where their bytes are
kind-tag : (k : Kind) → byte k ≡ tag_of the_type k + 1
kind-tag Position = refl
kind-tag Speed = refl
kind-tag SpeedType = refl
kind-tag ThreeSpeedTypes = refl
kind-tag Level = refl
kind-tag Degrees = refl
kind-tag Frequency = refl
kind-tag Code = refl
kind-tag TrafficType = refl
kind-tag ClearanceType = refl
kind-tag ErrorInformation = refl
kind-tag FacilityFunction = refl
kind-tag Procedure = refl
kind-tag Runway = refl
kind-tag Coordinates = refl
kind-tag DepartureClearance = refl

next-same : (m n : ℕ) → eqb m n ≡ eqb (m + 1) (n + 1)
next-same m n = grind arith

pub same-byte : (k kind : Option Kind) → option_eq (sameb the_type) k kind ≡ eqb (byte_of k) (byte_of kind)
same-byte None None = refl
same-byte None (Some y) = sym (ne_eqb 0 (byte y) (omega (arith, kind-tag y)))
same-byte (Some x) None = sym (ne_eqb (byte x) 0 (omega (arith, kind-tag x)))
same-byte (Some x) (Some y) = rw (kind-tag x, kind-tag y) (next-same (tag_of the_type x) (tag_of the_type y))

none-byte : (k : Option Kind) → eqb (byte_of k) 0 ≡ not (is_some k)
none-byte None = refl
none-byte (Some x) = ne_eqb (byte x) 0 (omega (arith, kind-tag x))

-- an argument of the same kind, none, and another
module _ (kind k : Option Kind) (t : ℕ) where
  pub same-kind : option_eq (sameb the_type) k kind ≡ true → true ≡ kind_agrees (byte_of kind) (byte_of k) t
  unfolding kind_agrees
  same-kind h = rw (← same-byte k kind, h) refl

  pub no-kind : {b : Bool} → option_eq (sameb the_type) k kind ≡ false → is_some k ≡ false → b ≡ is_last t → b ≡ kind_agrees (byte_of kind) (byte_of k) t
  unfolding kind_agrees
  no-kind h g e = rw (← same-byte k kind, h, none-byte k, g) e

  pub other-kind : option_eq (sameb the_type) k kind ≡ false → is_some k ≡ true → false ≡ kind_agrees (byte_of kind) (byte_of k) t
  unfolding kind_agrees
  other-kind h g = rw (← same-byte k kind, h, none-byte k, g) refl

-- the tag of the record k behind i
pub tag_at : (w : List ℕ) (i k : ℕ) {x : Record} → x ≡ fetched (record_at w (i + k)) → tag (records_from i w) k ≡ x.tag
unfolding tag
tag_at w i k e = sym (ap (λ (y : Record). y.tag) (behind i k w e))

-- of record i itself
pub tag_now : (w : List ℕ) (i : ℕ) {x : Record} → x ≡ fetched (record_at w i) → tag (records_from i w) 0 ≡ x.tag
unfolding tag
tag_now w i e = sym (ap (λ (y : Record). y.tag) (here i w e))

pub kind_is : (w : List ℕ) (i : ℕ) {x y : Record} {k : ℕ} → x ≡ fetched (record_at w i) → y ≡ fetched (record_at w (i + 1)) → k ≡ kind_by x.tag y.tag → k ≡ kind_of (records_from i w)
unfolding kind_of
kind_is w i {x} {y} ex ey e =
    rw (tag_now w i {x = x} ex, tag_at w i 1 {x = y} ey) e

-- a record that begins no element of the index, and one that does
module _ (w : List ℕ) (i index kind : ℕ) {x : Record} (ex : x ≡ fetched (record_at w i)) (R : List Rec) where
  pub no_element : (x.tag ≡ 22 → ⊥) → true ≡ one_agrees index kind (record_at w i) R
  unfolding one_agrees
  no_element h = rw (← ex, ne_eqb x.tag 22 h)

  pub no_index : x.tag ≡ 22 → (x.value ≡ index → ⊥) → true ≡ one_agrees index kind (record_at w i) R
  unfolding one_agrees
  no_index h g = rw (← ex, eq-eqb x.tag 22 h, ne_eqb x.value index g)

  pub same_index : {k t : ℕ} {b : Bool} → x.tag ≡ 22 → x.value ≡ index → kind_of R ≡ k → tag R 0 ≡ t → b ≡ kind_agrees kind k t → b ≡ one_agrees index kind (record_at w i) R
  unfolding one_agrees
  same_index h g ek et eb = rw (← ex, eq-eqb x.tag 22 h, eq-eqb x.value index g, ek, et) eb

  pub no_element_agrees : (x.tag ≡ 22 → ⊥) → true ≡ element_agrees (record_at w i) R
  unfolding element_agrees
  no_element_agrees h = rw (← ex, ne_eqb x.tag 22 h)

  pub element-agrees : {k : ℕ} {b : Bool} → x.tag ≡ 22 → kind_of R ≡ k → b ≡ later_agree x.value k R → b ≡ element_agrees (record_at w i) R
  unfolding element_agrees
  element-agrees h ek eb = rw (← ex, eq-eqb x.tag 22 h, ek) eb

-- one record more, and the end
module _ (w : List ℕ) (index kind : ℕ) where
  pub later-step : (i : ℕ) {b : Bool} → i < count w → b ≡ one_agrees index kind (record_at w i) (records_from (i + 1) w) → later_agree index kind (records_from i w) ≡ b && later_agree index kind (records_from (i + 1) w)
  unfolding later_agree
  later-step i h e = rw (from_here w i h, e, add-one)

  pub later-end : (i : ℕ) → count w ≤ i → later_agree index kind (records_from i w) ≡ true
  unfolding later_agree
  later-end i h = rw (from_end w i h)

module _ (w : List ℕ) where
  pub agreed-step : (i : ℕ) {b : Bool} → i < count w → b ≡ element_agrees (record_at w i) (records_from (i + 1) w) → agreed (records_from i w) ≡ b && agreed (records_from (i + 1) w)
  unfolding agreed
  agreed-step i h e = rw (from_here w i h, e, add-one)

  pub agreed-end : (i : ℕ) → count w ≤ i → agreed (records_from i w) ≡ true
  unfolding agreed
  agreed-end i h = rw (from_end w i h)
