-- What is surely read of texts, names and places.
use mathlib.Core.Path.{◌≡◌, refl, sym, ◌∙◌}
use mathlib.Core.List.{List, [], ◌∷◌, ◌++◌, append-nil}
use Prim.Native.Nat.{ℕ, zero, suc, ◌+◌, ◌-◌, ◌*◌, ◌/◌, ◌%◌, ◌^◌, ◌≤◌, ◌<◌}
use native.Mathlib.Omega.{arith}
use lib.Pow.{pow_mono, shr_lt}
use lib.ListN.{length}
use borrow.Author.Tests.{ne_eqb}
use Rattle.x691.specs.Bits.{bit_of, uint}
use Rattle.x691.specs.Types.{extent}
use Rattle.x691.specs.Encoding.{width, width_in, highest, count}
use Rattle.x691.proofs.BitLaws.{uint-one}
use Rattle.per.proofs.Laws.{uint-below}
use Rattle.per.proofs.Widths.{width-le}
use Rattle.atn.specs.Format.{Fmt, Alts, num, seq, end, ◌⨾◌, none_left, ◌∥◌}
use Rattle.atn.specs.Reading.{Rec, rec, Ctx, over, or, octets, pack, packs, units, flags, read, read_choice}
use Rattle.atn.specs.Messages as message
use Rattle.atn.proofs.Marks.{or_nil, or_commutes}
use Rattle.atn.proofs.Steps.{over_in}
use Rattle.atn.proofs.Texts.{length-units}
use Rattle.cursor.proofs.FormatLaws.{all_read}
use Rattle.records.specs.Told.{Told}
use Rattle.records.proofs.Telling.{told_none, told-then, told-within}
use Rattle.character_strings.specs.declared.Text.{Text}
use Rattle.tell.specs.Characters.{widened}
use Rattle.tell.proofs.TextsTold.{sevens-told}
use Rattle.ample_bits.specs.Ahead.{Ahead}
use Rattle.ample_bits.proofs.AheadLaws.{first-spelt, behind-ahead}
use Rattle.ample_readings.specs.declared.Step.{Step}
use Rattle.ample_readings.specs.Sure.{Sure}
use Rattle.ample_readings.specs.Ample.{Done, Fixed}
use Rattle.ample_readings.proofs.SureLaws.{sure_choice, sure_seq, sure_must, sure_end, sure_absent, sure_last_present, sure-text}
use Rattle.ample_readings.proofs.AmpleLaws.{done_of, done_plain, done_must, done_last}
use Rattle.ample_places.specs.declared.Name.{Name}
use Rattle.ample_places.specs.Place.{Named}

-- a text of one to eight characters is one record
packed-one : (t q at k : ℕ) (s : List ℕ) → 1 ≤ k → k ≤ 8 → pack t 0 q (units (bit_of s) 7 at k) ≡ rec t 0 (octets 8 (units (bit_of s) 7 at k)) k q ∷ []
unfolding pack packs
packed-one t q at k s h l = let e : (k + 7) / 8 ≡ 1 = omega arith in rw (length-units (bit_of s) 7 at k, e)

pub told-one : {s : List ℕ} {t q at k v y u : ℕ} {w w' : List ℕ} {n m : ℕ} → Ahead s at (k * 7) v → at < 2 ^ 60 → at + k * 7 ≤ length s * 8 → 1 ≤ k → k ≤ 8 → u ≡ v / 2 ^ (64 - k * 7) → y ≡ widened 7 8 8 u * 2 ^ (64 - 8 * k) % 2 ^ 64
    → Told 1 w w' n m (rec t 0 y k q ∷ []) → Told 1 w w' n m (pack t 0 q (units (bit_of s) 7 at k))
told-one {s} {t} {q} {at} {k} {v} {y} {u} a j i h l e f p =
    let x : Text = record { from = q; at = at; len = k } in
    let z : at + 0 * 7 ≡ at = omega arith in
    let d : k - 0 ≡ k = omega arith in
    let g : u ≡ uint (bit_of s) (at + 0 * 7) (k * 7) = rw z (e ∙ first-spelt a (k * 7) (omega arith)) in
    let o : y ≡ octets 8 (units (bit_of s) 7 at k) = rw (z, d) at (sevens-told {x = x} 0 (record { there = omega arith; fits = omega arith }) (omega arith) (omega arith) g f) in
    rw (packed-one t q at k s h l, ← o) p

---------------------------------------------------------------- sizes

extent-plain : (lo hi : ℕ) → lo ≤ hi → hi < 2 ^ 64 → extent lo hi ≡ hi - lo
unfolding extent
extent-plain lo hi h l = omega arith

width_some : (d : ℕ) → 1 ≤ d → 1 ≤ width d
unfolding width width_in
width_some zero h = absurd (omega arith)
width_some (suc d) h = some d
  where
    some : (k : ℕ) → 1 ≤ width_in (suc k) (suc d)
    some k = rw (ne_eqb (suc d) 0 (λ e. omega arith), width_in) (omega arith)

-- the bits of a size that has two to eight values
pub size-wide : (lo hi : ℕ) {w : ℕ} → lo < hi → hi ≤ lo + 7 → hi < 2 ^ 64 → w ≡ width (extent lo hi) → (width (hi - lo) ≡ w) × (1 ≤ w) × (w ≤ 3)
size-wide lo hi h l m e =
    let q : _ ≡ width (hi - lo) = rw (extent-plain lo hi (omega arith) m) at e in
    (sym q, omega (arith, q, width_some (hi - lo) (omega arith)), omega (arith, q, width-le 3 (hi - lo) (omega arith)))

-- what at most k bits spell
pub first_below : {v raw : ℕ} (k w : ℕ) → v < 2 ^ 64 → raw ≡ v / 2 ^ (64 - w) → w ≤ k → k ≤ 64 → raw < 2 ^ k
first_below {v} k w h g l o =
    let e : w + (64 - w) ≡ 64 = omega arith in
    omega (arith, g, shr_lt {n = v} w (64 - w) (rw e h), pow_mono l)

---------------------------------------------------------------- places

module _ {s : List ℕ} {at v has b raw k w : ℕ} (most : ℕ) (a : Ahead s at 46 v) (e : has ≡ v / 2 ^ (64 - 1)) (f : b ≡ v * 2 ^ 1 % 2 ^ 64) (g : raw ≡ b / 2 ^ (64 - w)) (h : k ≡ raw + 1) (l : w ≤ 3) (q : width (most - 1) ≡ w) where
  bit : has ≡ bit_of s at
  bit = e ∙ first-spelt a 1 (omega arith) ∙ uint-one (bit_of s) at

  size : k ≡ 1 + uint (bit_of s) (at + 1) w
  size = omega (arith, g ∙ first-spelt (rw (← f) at (behind-ahead a 1 (omega arith))) w (omega arith))

  -- without coordinates
  pub named_bare : {x : Ctx} (t : ℕ) → has ≡ 0 → Sure (message.named t most) x s at (at + 1 + w + k * 7) (pack t x.0 (at + 1) (units (bit_of s) 7 (at + 1 + w) k)) (over most k)
  unfolding flags all_read
  named_bare {x} t z =
      sure_seq 1 refl refl (rw (append-nil (pack t x.0 (at + 1) (units (bit_of s) 7 (at + 1 + w) k)), or_nil (over most k)) at
      (sure_must {q = at} (sure-text {x = x} t 1 most w q size) (sure_absent {f = message.latlon} (sym bit ∙ z) sure_end)))

  pub named-placed : {x : Ctx} {r m : ℕ} {R : List Rec} (t : ℕ) → has ≡ 1 → Sure message.latlon x s (at + 1 + w + k * 7) r R m → Sure (message.named t most) x s at r (pack t x.0 (at + 1) (units (bit_of s) 7 (at + 1 + w) k) ++ R) (or (over most k) m)
  unfolding flags all_read
  named-placed t z y = sure_seq 1 refl refl (sure_must {q = at} (sure-text t 1 most w q size) (sure_last_present (sym bit ∙ z) y))

-- the kind of a published place, told before, and the place
abbrev places : Alts
places = message.named 99 5 ∥ message.named 100 4 ∥ none_left

chosen : {t most : ℕ} (kind : ℕ) (x : Ctx) (s : List ℕ) (e p : ℕ) → kind < 2 → (kind ≡ 0 → (t ≡ 99) × (most ≡ 5)) → (kind ≡ 1 → (t ≡ 100) × (most ≡ 4)) → read_choice places kind x (bit_of s) e p ≡ read (message.named t most) x (bit_of s) e p
unfolding read_choice
chosen zero x s e p h fix navaid = rw ((fix refl).0, (fix refl).1)
chosen (suc zero) x s e p h fix navaid = rw ((navaid refl).0, (navaid refl).1)
chosen (suc (suc i)) x s e p h fix navaid = absurd (omega arith)

pub published-named : {t most : ℕ} {s : List ℕ} {at n m v kind : ℕ} {w w₁ w₂ : List ℕ} {r : Name} → Ahead s at 47 v → kind ≡ v / 2 ^ (64 - 1) → Told 1 w w₁ n m (rec 98 0 kind 0 at ∷ [])
    → (kind ≡ 0 → (t ≡ 99) × (most ≡ 5)) → (kind ≡ 1 → (t ≡ 100) × (most ≡ 4)) → Named 1 60 (message.named t most) s (at + 1) m w₁ w₂ r → Named 2 61 message.published s at n w w₂ r
unfolding width width_in highest count
published-named {t} {most} {s} {at} {kind = kind} a e told fix navaid x =
    let k : kind ≡ uint (bit_of s) at 1 = e ∙ first-spelt a 1 (omega arith) in
    let all : (i q o : ℕ) (R : List Rec) → Sure (message.named t most) (0, i) s (at + 1) q R o → Sure message.published (0, i) s at q (rec 98 0 kind 0 at ∷ R) o =
    λ i q o R y. sure_choice 98 places (message.named t most) 1 _ refl k (λ d p. chosen kind (0, i) s d p (omega (arith, k, uint-below s at 1)) fix navaid) y in
    record {
      recs = rec 98 0 kind 0 at ∷ x.recs;
      near = omega (arith, x.near);
      told = told-then told x.told;
      bare = λ z i. all i _ _ _ (x.bare z i);
      placed = λ z i q o S y. all i q _ _ (x.placed z i q o S y);
    }

-- coordinates alone have nothing before them
pub none_named : {s : List ℕ} {at n : ℕ} {w : List ℕ} → Named 2 61 message.latlon s at n w w (record { at = at; n = n; marks = 0; has = 1 })
none_named = record { recs = []; near = omega arith; told = told-within 2 (omega arith) told_none; bare = λ z i. absurd (omega (arith, z)); placed = λ z i q m S y. rw (or_commutes 0 m, or_nil m) y }

---------------------------------------------------------------- bearings and designators

-- the kind of a bearing, told before, and its number: both kinds have one range
abbrev bearings : Alts
bearings = num 56 1 360 ∥ num 56 1 360 ∥ none_left

either : (kind : ℕ) (x : Ctx) (s : List ℕ) (e p : ℕ) → kind < 2 → read_choice bearings kind x (bit_of s) e p ≡ read (num 56 1 360) x (bit_of s) e p
unfolding read_choice
either zero x s e p h = refl
either (suc zero) x s e p h = refl
either (suc (suc i)) x s e p h = absurd (omega arith)

pub degrees_fixed : {at v kind b n m : ℕ} {w w₁ w₂ : List ℕ} {r : Step} → kind ≡ v / 2 ^ (64 - 1) → b ≡ v * 2 ^ 1 % 2 ^ 64 → Told 1 w w₁ n m (rec 55 0 kind 0 at ∷ []) → Fixed 1 9 (num 56 1 360) b (at + 1) m w₁ w₂ r → Fixed 2 10 message.degrees v at n w w₂ r
unfolding width width_in highest count
degrees_fixed {at} {v} {kind} e f told x = record {
  done = λ s j a l. (
      let k : kind ≡ uint (bit_of s) at 1 = e ∙ first-spelt a 1 (omega arith) in
      let y = x.done s (j - 1) (rw (← f) at (behind-ahead a 1 (omega arith))) (omega arith) in
      done_of (λ i. sure_choice 55 bearings (num 56 1 360) 1 kind refl k (λ d p. either kind (0, i) s d p (omega (arith, k, uint-below s at 1))) (y.sure i)) (omega (arith, y.near)) (told-then told y.told));
  to = omega (arith, x.to);
  count = omega (arith, x.count, told.count);
}

-- a place with its bearing
pub done-bearing : {f : Fmt} {s : List ℕ} {at n : ℕ} {w w₁ w₂ : List ℕ} {r r₁ : Step} → Done 13 111 f s at n w w₁ r → Done 2 10 message.degrees s r.at r.n w₁ w₂ r₁
    → Done 15 121 (seq (f ⨾ message.degrees ⨾ end)) s at n w w₂ (record { at = r₁.at; n = r₁.n; marks = or r.marks r₁.marks })
unfolding flags all_read
done-bearing d e = done_plain refl refl (done_must d (done_last e))

-- a designator in its range
pub designator_sure : {x : Ctx} {s : List ℕ} {at v raw k w : ℕ} → width 5 ≡ w → w ≤ 3 → Ahead s at 52 v → raw ≡ v / 2 ^ (64 - w) → k ≡ raw + 2 → k ≤ 7 → Sure (message.ia5 101 2 7) x s at (at + w + k * 7) (pack 101 x.0 at (units (bit_of s) 7 (at + w) k)) 0
designator_sure {x} {s} {at} {k = k} {w} q l a e f h = rw (over_in 7 k h) at (sure-text {x = x} {s = s} 101 2 7 w {at = at} {k = k} q (omega (arith, e ∙ first-spelt a w (omega arith))))
