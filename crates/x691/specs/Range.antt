-- The values that a type allows: numbers within their range, sizes within theirs, and each length below 16,384.
use Rattle.std.specs.Prelude.{◌≡◌, Bool, true, false, ◌||◌, List, [], ◌∷◌, ℕ, ◌≤◌, ◌<◌, length, eqb}
use Rattle.std.proofs.Math.Option.{Option, none, some}
use Rattle.std.proofs.Common.{inl, inr}
use Rattle.x691.specs.Types.{Asn, NULL, UNLISTED, INTEGER, ONE-OF, STRING, ANY-STRING, EXTENSIBLE, SEQUENCE, CHOICE, SEQUENCE-OF, CONTAINING}
use Rattle.x691.specs.Types.{Members, END, ◌&◌, ◌&?◌, Alternatives, NONE, ◌∣◌, extent, Value, Values, Pick}
use Rattle.x691.specs.Encoding.{encode}

unfoldable pub member : ℕ → List ℕ → Bool
member v [] = false
member v (x ∷ xs) = eqb v x || member v xs

module _ {A : Type 0} where
  abbrev pub All : (A → Type 0) → List A → Type 0
  All P [] = Unit {0}
  All P (a ∷ xs) = P a × All P xs

  abbrev pub IfAny : (A → Type 0) → Option A → Type 0
  IfAny P none = Unit {0}
  IfAny P (some a) = P a

abbrev mutual
  pub InRange : (t : Asn) → Value t → Type 0
  InRange NULL v = Unit {0}
  InRange UNLISTED v = ⊥
  InRange (INTEGER lo hi) v = v ≤ extent lo hi
  InRange (ONE-OF hi xs) v = (v ≤ hi) × (member v xs ≡ true)
  InRange (STRING n lo hi) cs = (lo ≤ length cs) × (length cs ≤ hi) × All (λ c. c < n) cs
  InRange (ANY-STRING n) cs = (length cs < 16384) × All (λ c. c < n) cs
  InRange (EXTENSIBLE t) v = InRange t v
  InRange (SEQUENCE ms) vs = AllInRange ms vs
  InRange (CHOICE ts) c = PickInRange ts c
  InRange (SEQUENCE-OF lo hi t) vs = (lo ≤ length vs) × (length vs ≤ hi) × All (λ v. InRange t v) vs
  InRange (CONTAINING t) v = (length (encode t v) < 16384) × InRange t v

  pub AllInRange : (ms : Members) → Values ms → Type 0
  AllInRange END vs = Unit {0}
  AllInRange (t & ms) vs = InRange t vs.0 × AllInRange ms vs.1
  AllInRange (t &? ms) vs = IfAny (λ v. InRange t v) vs.0 × AllInRange ms vs.1

  pub PickInRange : (ts : Alternatives) → Pick ts → Type 0
  PickInRange NONE c = ⊥
  PickInRange (t ∣ ts) (inl v) = InRange t v
  PickInRange (t ∣ ts) (inr c) = PickInRange ts c
