-- The lines so far, and those still to come.
use mathlib.Core.List.{List, [], ◌++◌, append_assoc, append-nil}
use mathlib.Core.Path.{◌≡◌, refl, sym, ap, ◌∙◌}
use Prim.Native.Nat.{ℕ, ◌+◌, ◌-◌, ◌*◌, ◌^◌, ◌≤◌, ◌<◌}
use native.Mathlib.Omega.{arith}
use lib.Dec.{eqb}
use lib.ListN.{length}
use Rattle.record_views.specs.View.{count, record_at, records_from, fetched}
use Rattle.record_views.specs.declared.Record.{Record}
use Rattle.atn.specs.Entries.{need}
use Rattle.records.specs.Space.{size, space}
use Rattle.record_views.proofs.ViewLaws.{stands}
use Rattle.screen_bytes.specs.Put.{Put}
use Rattle.screen_bytes.proofs.Putting.{put-none, put_then, put-within}
use Rattle.screen_text.specs.Text.{direction, table_of, left_after, record_line, lines, most, cost}
use Rattle.screen_text.proofs.PhraseLaws.{lines-step, lines-end}
use Rattle.screen_text.proofs.LineLaws.{left_less}

-- before record i: the lines so far are put, n more may come
pub record Going (down up w out₀ out : List ℕ) (n d at i : ℕ) : Type 0 where
  pub before : List ℕ
  pub few : n ≤ 8
  pub put : Put ((8 - n) * most) out₀ out 0 at before
  pub rest : lines down up 8 0 (records_from 0 w) ≡ before ++ lines down up n d (records_from i w)

pub going_start : (down up w out : List ℕ) → Going down up w out out 8 0 0 0
going_start down up w out = record { before = []; few = omega arith; put = put-none; rest = refl }

module _ {down up w out₀ out : List ℕ} {n d at i : ℕ} (g : Going down up w out₀ out n d at i) where
  -- no place is far
  pub going_near : at < 2 ^ 48
  going_near = omega (arith, g.few, g.put.few)

  pub going_on : {out' : List ℕ} {x : Record} {table : List ℕ} {n' at' : ℕ} (d' : ℕ) → i < count w → x ≡ fetched (record_at w i) → eqb d' 0 ≡ eqb (direction d x) 0 → table ≡ table_of down up d' → n' ≡ left_after n x → Put (cost n x) out out' at at' (record_line n table x (records_from (i + 1) w)) → Going down up w out₀ out' n' d' at' (i + 1)
  unfolding cost
  going_on {x = x} {table = table} {n' = n'} d' h ex ed et en p =
      let line : List ℕ = record_line n table x (records_from (i + 1) w) in
      let l : n' ≤ n = rw en (left_less n x) in
      record {
        before = g.before ++ line;
        few = omega (arith, g.few);
        put = put-within ((8 - n') * most) (omega (arith, g.few, en)) (put_then g.put p);
        rest = g.rest ∙ ap (λ (z : List ℕ). g.before ++ z) (lines-step down up w d i n n' d' h ex ed et en) ∙ sym (append_assoc g.before line (lines down up n' d' (records_from (i + 1) w)));
      }

  pub going_all : count w ≤ i → Put (8 * most) out₀ out 0 at (lines down up 8 0 (records_from 0 w))
  going_all h =
      let e : lines down up 8 0 (records_from 0 w) ≡ g.before = g.rest ∙ ap (λ (z : List ℕ). g.before ++ z) (lines-end down up w d i n h) ∙ append-nil g.before in
      rw e (put-within (8 * most) (omega arith) g.put)

-- records of few words are few
pub not_many : (w : List ℕ) (i : ℕ) → i < count w → length w < 2 ^ 40 → i < 2 ^ 47
unfolding space size need
not_many w i h l = omega (arith, stands w i h)
