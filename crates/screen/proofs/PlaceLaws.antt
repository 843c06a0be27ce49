-- Places that rise from one record to the next, and those that do not.
use mathlib.Core.Bool.{Bool, true, false, ◌&&◌}
use mathlib.Core.List.{List}
use mathlib.Core.Path.{◌≡◌}
use Prim.Native.Nat.{ℕ, ◌+◌, ◌≤◌, ◌<◌}
use native.Mathlib.Numerals.{add-one}
use lib.Dec.{leb}
use borrow.Author.Tests.{le-leb, lt-leb}
use Rattle.record_lists.specs.Kinds.{span_tag}
use Rattle.record_views.specs.View.{count, record_at, records_from, fetched}
use Rattle.record_views.specs.declared.Record.{Record}
use Rattle.record_views.proofs.ViewLaws.{from_here, from_end}
use Rattle.screen.specs.Placed.{place, begins, placed}

-- a record that is a span, and another
module _ (w : List ℕ) (i : ℕ) {x : Record} {q : ℕ} (ex : x ≡ fetched (record_at w i)) (eq : q ≡ place (record_at w i)) where
  pub span_begins : span_tag x.tag ≡ true → leb q x.value ≡ begins (record_at w i)
  unfolding begins
  span_begins h = rw (← ex, ← eq, h)

  pub other_begins : span_tag x.tag ≡ false → true ≡ begins (record_at w i)
  unfolding begins
  other_begins h = rw (← ex, h)

module _ (w : List ℕ) (i lo : ℕ) where
  -- the field of record i begins no earlier than lo
  pub placed_on : {q : ℕ} {b : Bool} → i < count w → q ≡ place (record_at w i) → lo ≤ q → b ≡ begins (record_at w i) → placed lo (records_from i w) ≡ b && placed q (records_from (i + 1) w)
  unfolding placed
  placed_on {q} h e l g = rw (from_here w i h, ← e, le-leb lo q l, ← g, add-one)

  -- or earlier
  pub placed-falls : {q : ℕ} → i < count w → q ≡ place (record_at w i) → q < lo → placed lo (records_from i w) ≡ false
  unfolding placed
  placed-falls {q} h e l = rw (from_here w i h, ← e, lt-leb lo q l)

  pub placed_end : count w ≤ i → placed lo (records_from i w) ≡ leb lo 524288
  unfolding placed
  placed_end h = rw (from_end w i h)
