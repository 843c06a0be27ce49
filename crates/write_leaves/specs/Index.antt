-- The index of an alternative: a record, as the bits that hold every index.
use Rattle.std.specs.Prelude.{◌≡◌, true, false, List, [], ◌∷◌, ℕ, ◌-◌, ◌≤◌, ◌<◌, ltb, Result, Ok, Err}
use Rattle.x691.specs.Bits.{bits_of}
use Rattle.x691.specs.Encoding.{width}
use Rattle.record_lists.specs.Items.{Item, plain}
use Rattle.record_lists.specs.Parse.{Got, got, value_of, leaf, keep}
use Rattle.pens.specs.Stand.{Stand, before, refused}
use Rattle.pens.specs.declared.Wrote.{Wrote}
use Rattle.pens.specs.declared.Refused.{Refused}
use Rattle.pens.specs.Rest.{items}
use Rattle.pens.specs.Writes.{Writes}

-- an index below n
unfoldable pub index_of : ℕ → ℕ → ℕ → List Item → Got ℕ
index_of t e n R = keep (λ i. ltb i n) (leaf (λ i. plain t e i 0 ∷ []) (λ i. true) (value_of R) R)

-- an index, and where the writer stands behind it
pub record Indexed : Type 0 where
  pub v : ℕ
  pub p : Stand

abbrev pub index_after : Result (Wrote ℕ) Refused → Indexed
index_after (Ok w) = record { v = w.value; p = before w.pen }
index_after (Err _) = record { v = 0; p = refused }

pub record Indexes (t e n : ℕ) (b : ℕ → ℕ) (W : List ℕ) (m : ℕ) (p : Stand) (X : List ℕ) (q : Indexed) (Y : List ℕ) : Type 0 where
  pub writes : Writes (λ i. bits_of (width (n - 1)) i) (λ R. index_of t e n R) (λ j. items b W m j) m p X q.p Y
  pub named : p.off ≡ false → p.next ≤ m → (i : ℕ) (S : List Item) → index_of t e n (items b W m p.next) ≡ got i S → i ≡ q.v
  pub below : q.v < n
