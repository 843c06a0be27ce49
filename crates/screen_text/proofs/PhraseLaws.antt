-- The two directions, and whether every element has a phrase.
use mathlib.Core.Bool.{Bool, true, false, cond, ◌&&◌}
use mathlib.Core.List.{List, [], ◌∷◌, ◌++◌}
use mathlib.Core.Path.{◌≡◌, refl, ap, ◌∙◌}
use Prim.Native.Nat.{ℕ, ◌+◌, ◌≤◌, ◌<◌}
use native.Mathlib.Numerals.{add-one}
use lib.Dec.{eqb}
use lib.ListN.{length}
use Rattle.atn.specs.Reading.{Rec}
use Rattle.atn.specs.Tags as tags
use Rattle.record_views.specs.View.{count, record_at, records_from, fetched}
use Rattle.record_views.specs.declared.Record.{Record}
use Rattle.record_views.proofs.ViewLaws.{from_here, from_end}
use Rattle.screen_text.specs.Text.{direction, table_of, one_phrased, phrased, left_after, record_line, lines}

by-tags : (a b : Bool) (v d d' : ℕ) → eqb d 0 ≡ eqb d' 0 → eqb (cond a v (cond b (cond (eqb v 0) 1 0) d)) 0 ≡ eqb (cond a v (cond b (cond (eqb v 0) 1 0) d')) 0
by-tags true b v d d' e = refl
by-tags false b v d d' e = elim b as (λ (c : Bool). eqb (cond c (cond (eqb v 0) 1 0) d) 0 ≡ eqb (cond c (cond (eqb v 0) 1 0) d') 0) [ true ↦ refl | false ↦ e ]

-- of a direction's number only whether it is 0 counts
same-direction : (d d' : ℕ) (x : Record) → eqb d 0 ≡ eqb d' 0 → eqb (direction d x) 0 ≡ eqb (direction d' x) 0
unfolding direction
same-direction d d' x e = by-tags (eqb x.tag tags.direction) (eqb x.tag tags.carried_direction) x.value d d' e

module _ (down up : List ℕ) where
  pub same-table : (d d' : ℕ) → eqb d 0 ≡ eqb d' 0 → table_of down up d ≡ table_of down up d'
  unfolding table_of
  same-table d d' e = ap (λ (b : Bool). cond b down up) e

  pub table-short : (d n : ℕ) → length down < n → length up < n → length (table_of down up d) < n
  unfolding table_of
  table-short d n h g = elim (eqb d 0) as (λ (b : Bool). length (cond b down up) < n) [ true ↦ h | false ↦ g ]

  pub same-phrased : (d d' : ℕ) (R : List Rec) → eqb d 0 ≡ eqb d' 0 → phrased down up d R ≡ phrased down up d' R
  unfolding phrased
  same-phrased d d' [] e = refl
  same-phrased d d' (x ∷ R) e =
      let s : eqb (direction d (fetched x)) 0 ≡ eqb (direction d' (fetched x)) 0 = same-direction d d' (fetched x) e in
      rw (same-table (direction d (fetched x)) (direction d' (fetched x)) s, same-phrased (direction d (fetched x)) (direction d' (fetched x)) R s) refl

  pub same-lines : (d d' n : ℕ) (R : List Rec) → eqb d 0 ≡ eqb d' 0 → lines down up n d R ≡ lines down up n d' R
  unfolding lines
  same-lines d d' n [] e = refl
  same-lines d d' n (x ∷ R) e =
      let s : eqb (direction d (fetched x)) 0 ≡ eqb (direction d' (fetched x)) 0 = same-direction d d' (fetched x) e in
      rw (same-table (direction d (fetched x)) (direction d' (fetched x)) s, same-lines (direction d (fetched x)) (direction d' (fetched x)) (left_after n (fetched x)) R s) refl

-- one record more, and the end
module _ (down up w : List ℕ) (d i : ℕ) where
  pub phrased-step : {x : Record} {table : List ℕ} {b : Bool} (d' : ℕ) → i < count w → x ≡ fetched (record_at w i) → eqb d' 0 ≡ eqb (direction d x) 0 → table ≡ table_of down up d' → b ≡ one_phrased table x → phrased down up d (records_from i w) ≡ b && phrased down up d' (records_from (i + 1) w)
  unfolding phrased
  phrased-step {x} {table} {b} d' h ex ed et eb =
      let t : b ≡ one_phrased (table_of down up (direction d x)) x = eb ∙ ap (λ (z : List ℕ). one_phrased z x) (et ∙ same-table down up d' (direction d x) ed) in
      let p : phrased down up d' (records_from (i + 1) w) ≡ phrased down up (direction d x) (records_from (i + 1) w) = same-phrased down up d' (direction d x) (records_from (i + 1) w) ed in
      rw (from_here w i h, t, p, ex, add-one)

  pub phrased-end : count w ≤ i → phrased down up d (records_from i w) ≡ true
  unfolding phrased
  phrased-end h = rw (from_end w i h)

  pub lines-step : {x : Record} {table : List ℕ} (n n' d' : ℕ) → i < count w → x ≡ fetched (record_at w i) → eqb d' 0 ≡ eqb (direction d x) 0 → table ≡ table_of down up d' → n' ≡ left_after n x → lines down up n d (records_from i w) ≡ record_line n table x (records_from (i + 1) w) ++ lines down up n' d' (records_from (i + 1) w)
  unfolding lines
  lines-step {x} {table} n n' d' h ex ed et en =
      let t : table ≡ table_of down up (direction d x) = et ∙ same-table down up d' (direction d x) ed in
      let p : lines down up n' d' (records_from (i + 1) w) ≡ lines down up n' (direction d x) (records_from (i + 1) w) = same-lines down up d' (direction d x) n' (records_from (i + 1) w) ed in
      rw (from_here w i h, p, t, en, ex, add-one)

  pub lines-end : (n : ℕ) → count w ≤ i → lines down up n d (records_from i w) ≡ []
  unfolding lines
  lines-end n h = rw (from_end w i h)
