-- The elements: an index into the lent table, then the argument that its byte names.
use mathlib.Core.Path.{◌≡◌, refl, sym, ◌∙◌}
use mathlib.Core.Bool.{false}
use mathlib.Core.List.{List, [], ◌∷◌}
use Prim.Native.Nat.{ℕ, zero, suc, ◌+◌, ◌-◌, ◌*◌, ◌≤◌, ◌<◌}
use native.Mathlib.Omega.{arith}
use lib.ListN.{length, get_or}
use Rattle.x691.specs.Bits.{bit_of}
use Rattle.x691.specs.Encoding.{width, highest}
use Rattle.atn.specs.Format.{bad, alternatives_of}
use Rattle.atn.specs.Messages.{argument_of, elements}
use Rattle.atn.specs.Reading.{Rec, rec, Ctx, Ans, ok, stop, then, or, mark, times, laxly, pull, read, read_choice}
use Rattle.atn.proofs.Tame.{tame}
use Rattle.atn.proofs.Firm.{is_past, firm_read}
use Rattle.atn.proofs.Elements.{elements-count, elements_firm}
use Rattle.cursor.specs.declared.place.Cursor.{Cursor}
use Rattle.cursor.specs.declared.place.Got.{Got}
use Rattle.cursor.specs.Place.{put, stopped, Pulls, Takes}
use Rattle.cursor.proofs.Laws.{reads_ok, marked-nil}
use Rattle.ranged_numbers.proofs.ChoiceLaws.{takes_unlisted}
use Rattle.records.specs.Told.{Told}
use Rattle.records.proofs.Telling.{told_none, told-length}
use Rattle.runs.specs.declared.At.{At}
use Rattle.runs.specs.Runs.{Runs}
use Rattle.runs.proofs.RunLaws.{runs_then, runs_same, runs_told, runs_untold, runs_stayed, runs_silent, runs_within, runs_pull, led_lax, led_lax_lack, ran_lax}
use Rattle.argument_values.specs.Arguments.{argument_body}
use Rattle.elements.specs.Elements.{argument_at, element_format, element_at, elements_at}

---------------------------------------------------------------- the table

pub index-bits : (table : List ℕ) → width (highest (alternatives_of (elements table))) ≡ width (length table - 1)
unfolding highest
index-bits table = rw (elements-count table)

listed : (table : List ℕ) (v : ℕ) (x : Ctx) (b : ℕ → ℕ) (e p : ℕ) → v < length table → read_choice (elements table) v x b e p ≡ read (argument_of (get_or table v 0)) x b e p
unfolding elements read_choice
listed [] v x b e p l = absurd (omega arith)
listed (k ∷ table) zero x b e p l = refl
listed (k ∷ table) (suc v) x b e p l = listed table v x b e p (omega arith)

outside : (table : List ℕ) (v : ℕ) (x : Ctx) (b : ℕ → ℕ) (e p : ℕ) → length table ≤ v → read_choice (elements table) v x b e p ≡ stop bad p [] 1
unfolding elements read_choice mark
outside [] v x b e p l = refl
outside (k ∷ table) zero x b e p l = absurd (omega arith)
outside (k ∷ table) (suc v) x b e p l = outside table v x b e p (omega arith)

---------------------------------------------------------------- an argument

-- an argument is read by its body, and given up where that fails
lax_body : (k : ℕ) (x : Ctx) (b : ℕ → ℕ) (e p : ℕ) → laxly 3 false (read (argument_body k) x b e p) ≡ read (argument_of k) x b e p
unfolding argument_body argument_of read laxly
lax_body zero x b e p = refl
lax_body (suc k) x b e p = refl

module _ (k i : ℕ) {s : List ℕ} {c d : Cursor} {T : ℕ → List Rec} (h : Takes (argument_body k) s c d T) where
  abbrev body : ℕ → ℕ → Ans
  body u p = read (argument_body k) (i, i) (bit_of s) u p

  abbrev lax_reading : ℕ → ℕ → Ans
  lax_reading u p = laxly 3 false (body u p)

  from_body : {b n : ℕ} {w w' : List ℕ} {r : At} → Runs b lax_reading s c n w w' r → Runs b (argument_at k i s) s c n w w' r
  unfolding argument_at
  from_body y = runs_same lax_reading (argument_at k i s) (λ _ _. lax_body k (i, i) (bit_of s) c.end c.at) y

  pub argument-told : {b n m : ℕ} {w w' : List ℕ} → d.why ≡ 0 → Told b w w' n m (T i) → Runs b (argument_at k i s) s c n w w' (record { n = m; c = d })
  argument-told z t = from_body (runs_told lax_reading (record { led = λ j. led_lax 3 false body ((h.took (i, i)).led j) z }) z t)

  pub argument-lacks : {n : ℕ} {w : List ℕ} → d.why ≡ 6 → Runs 0 (argument_at k i s) s c n w w (record { n = n; c = d })
  argument-lacks z = from_body (runs_untold lax_reading (record { led = λ j. led_lax_lack 3 false body ((h.took (i, i)).led j) z }) (λ y. omega arith))

  -- it leaves its element without fields
  pub argument_dropped : {n : ℕ} {w : List ℕ} → c.why ≡ 0 → (d.why ≡ 0 → ⊥) → (d.why ≡ 6 → ⊥) → Runs 0 (argument_at k i s) s c n w w (record { n = n; c = put d d.at 8 (or d.marks 4) })
  unfolding mark
  argument_dropped z n₀ n₆ = from_body (record { recs = []; ran = λ j. ran_lax 3 false body z ((h.took (i, i)).led j) n₀ n₆; told = told_none })

---------------------------------------------------------------- an element

module _ (table : List ℕ) (i : ℕ) {s : List ℕ} {c : Cursor} {b : ℕ} {g : Got ℕ} (width_is : b ≡ width (length table - 1)) (pulls : Pulls s c b g) where
  -- behind the index, which starts where the element does
  abbrev indexed : ℕ → ℕ → ℕ → Ans
  indexed v u p = then (ok p (rec 22 i v 0 c.at ∷ []) 0) (λ q. read_choice (elements table) v (i, i) (bit_of s) u q)

  wide : Pulls s c (width (highest (alternatives_of (elements table)))) g
  wide = rw (width_is ∙ sym (index-bits table)) at pulls

  from-index : {a n : ℕ} {w w' : List ℕ} {r : At} → Runs a (λ u p. indexed g.v u p) s g.c n w w' r → Runs a (element_at table i s) s c n w w' r
  unfolding element_at read
  from-index y =
      let w : ℕ = width (highest (alternatives_of (elements table))) in
      runs_same (λ u p. pull (bit_of s) u p w (λ v. indexed v u (p + w))) (element_at table i s) (λ _ _. refl) (runs_pull w g indexed wide y)

  pub element_stuck : {n : ℕ} {w : List ℕ} → (g.c.why ≡ 0 → ⊥) → Runs 0 (element_at table i s) s c n w w (record { n = n; c = g.c })
  element_stuck h = from-index (runs_stayed (λ u p. indexed g.v u p) h)

  -- "An index outside its table makes the message 5"
  pub element_outside : {d : Cursor} {n : ℕ} {w : List ℕ} → length table ≤ g.v → g.c.why ≡ 0 → d ≡ stopped g.c 5 1 → Runs 0 (element_at table i s) s c n w w (record { n = n; c = d })
  unfolding element_at read stopped
  element_outside {d} l z q =
      runs_untold (element_at table i s) ((takes_unlisted 22 (elements table) {T = λ _. []} g wide (λ x u p. outside table g.v x (bit_of s) u p l) q).took (i, i)) (λ y. let e : 5 ≡ 0 = rw (q, z) at y in omega arith)

  pub element-read : {a n m : ℕ} {w w₁ w₂ : List ℕ} {r : At} → g.v < length table → g.c.why ≡ 0 → Told 1 w w₁ n m (rec 22 i g.v 0 c.at ∷ []) → Runs a (argument_at (get_or table g.v 0) i s) s g.c m w₁ w₂ r → Runs (1 + a) (element_at table i s) s c n w w₂ r
  unfolding argument_at is_past
  element-read l z t y =
      from-index
      (runs_then (λ u p. ok p (rec 22 i g.v 0 c.at ∷ []) 0) (λ u p. read_choice (elements table) g.v (i, i) (bit_of s) u p) (λ u p. refl)
      (runs_told (λ u p. ok p (rec 22 i g.v 0 c.at ∷ []) 0) (reads_ok (rec 22 i g.v 0 c.at ∷ []) 0 (marked-nil g.c)) z t)
      (runs_same (argument_at (get_or table g.v 0) i s) (λ u p. read_choice (elements table) g.v (i, i) (bit_of s) u p) (λ _ _. sym (listed table g.v (i, i) (bit_of s) g.c.end g.c.at l)) y))

---------------------------------------------------------------- the walk

module _ (table : List ℕ) (i : ℕ) {s : List ℕ} {c : Cursor} {n : ℕ} {w : List ℕ} where
  pub walk_none : (k : ℕ) → k ≡ 0 → Runs (k * 143) (elements_at table i k s) s c n w w (record { n = n; c = c })
  unfolding elements_at times
  walk_none k z = rw z (runs_silent (elements_at table i 0 s) (reads_ok [] 0 (marked-nil c)))

  pub walk_more : (k : ℕ) {w₁ w₂ : List ℕ} {r t : At} → (k ≡ 0 → ⊥) → Runs 143 (element_at table i s) s c n w w₁ r → Runs ((k - 1) * 143) (elements_at table (i + 1) (k - 1) s) s r.c r.n w₁ w₂ t → Runs (k * 143) (elements_at table i k s) s c n w w₂ t
  unfolding elements_at element_at times tame
  walk_more zero h x y = absurd (h refl)
  walk_more (suc k) h x y =
      let e : i + 1 ≡ suc i = omega arith in
      let f : suc k - 1 ≡ k = omega arith in
      runs_within (suc k * 143) _ (omega arith) (runs_then (element_at table i s) (elements_at table (suc i) k s) (λ u p. firm_read (bit_of s) (element_format table) (0, i) u p (elements_firm table)) x (rw (e, f) at y))

-- k of `left` elements are walked, from number i on: the rest of the walk is all that is missing
pub record Walking (table : List ℕ) (i left k : ℕ) (s : List ℕ) (c : Cursor) (n : ℕ) (w₀ w : List ℕ) (y : At) : Type 0 where
  pub some : k ≤ left
  pub few : y.n ≤ n + k * 143
  pub room : length w ≡ length w₀
  pub rest : {w' : List ℕ} {t : At} → Runs ((left - k) * 143) (elements_at table (i + k) (left - k) s) s y.c y.n w w' t → Runs (left * 143) (elements_at table i left s) s c n w₀ w' t

module _ (table : List ℕ) (i left : ℕ) {s : List ℕ} {c : Cursor} {n : ℕ} {w₀ : List ℕ} where
  pub walking_begun : Walking table i left 0 s c n w₀ w₀ (record { n = n; c = c })
  walking_begun =
      let e : i + 0 ≡ i = omega arith in
      let f : left - 0 ≡ left = omega arith in
      record { some = omega arith; few = omega arith; room = refl; rest = λ x. rw (e, f) at x }

  module _ {k : ℕ} {w : List ℕ} {y : At} (walking : Walking table i left k s c n w₀ w y) where
    pub walking_on : {w₁ : List ℕ} {z : At} → k < left → Runs 143 (element_at table (i + k) s) s y.c y.n w w₁ z → Walking table i left (k + 1) s c n w₀ w₁ z
    walking_on h x =
        let e : i + (k + 1) ≡ i + k + 1 = omega arith in
        let f : left - (k + 1) ≡ left - k - 1 = omega arith in
        record {
          some = omega arith;
          few = omega (arith, walking.few, x.told.few);
          room = told-length x.told ∙ walking.room;
          rest = λ z. walking.rest (walk_more table (i + k) (left - k) (λ q. omega arith) x (rw (e, f) at z));
        }

    pub walking_done : left ≤ k → Runs (left * 143) (elements_at table i left s) s c n w₀ w y
    walking_done h = walking.rest (walk_none table (i + k) (left - k) (omega (arith, walking.some)))
