-- Steps that pass on what they get, and one record.
use mathlib.Core.Path.{◌≡◌, refl}
use mathlib.Core.List.{List, [], ◌∷◌}
use Prim.Native.Nat.{ℕ}
use Rattle.record_lists.specs.Items.{Item}
use Rattle.record_lists.specs.Parse.{Got, no, got, peel, feed, turn}
use Rattle.record_lists.proofs.Forth.{peel_inv}

module _ {A : Type 0} where
  pub turn-same : (x : Got A) → turn (λ a. a) x ≡ x
  unfolding turn
  turn-same no = refl
  turn-same (got a R) = refl

module _ {A B : Type 0} where
  pub feed_same : (x : Got A) (k : A → List Item → Got B) → feed x (λ a S. turn (λ b. b) (k a S)) ≡ feed x k
  unfolding feed
  feed_same no k = refl
  feed_same (got a R) k = turn-same (k a R)

-- the record is the one asked for
pub peel_one : (i : Item) (a : ℕ) (R : List Item) {v : ℕ} {S : List Item} → peel (i ∷ []) a R ≡ got v S → R ≡ i ∷ S
peel_one i a R h = (peel_inv (i ∷ []) a R h).1
