-- Angles, pairs of them and positions that are passed over.
use mathlib.Core.Path.{◌≡◌, refl, sym, ◌∙◌}
use mathlib.Core.List.{List}
use Prim.Native.Nat.{ℕ, zero, suc, ◌+◌, ◌-◌, ◌*◌, ◌/◌, ◌%◌, ◌^◌, ◌≤◌, ◌<◌}
use native.Mathlib.Omega.{arith}
use Rattle.x691.specs.Bits.{bit_of, uint}
use Rattle.x691.specs.Types.{extent}
use Rattle.x691.specs.Encoding.{width, width_in, highest, count}
use Rattle.x691.proofs.BitLaws.{bit_of-lt, uint-one}
use Rattle.per.proofs.Laws.{uint-below-wide}
use Rattle.atn.specs.Format.{Fmt, Flds, Alts, num, seq, end, ◌⨾◌, ◌⨾?◌, none_left, ◌∥◌}
use Rattle.atn.specs.Reading.{Ctx, or, flags, unread_mark, unread_marks, read, read_choice}
use Rattle.atn.specs.Messages as message
use Rattle.atn.specs.Tags as tag
use Rattle.cursor.proofs.FormatLaws.{all_read}
use Rattle.ample_bits.specs.Ahead.{Ahead}
use Rattle.ample_bits.proofs.AheadLaws.{first-spelt, ahead-next, ahead_fewer}
use Rattle.ample_angles.specs.Angle.{forms, angle_of}
use Rattle.passed_arguments.specs.Passed.{Within, PassedAngle, procedure_argument}
use Rattle.passed_arguments.proofs.PassedLaws.{WithinFields, within_more, within_num, within-name, within-noted, within_choice, within-chosen, within_end, within_must, within_last, within-present, within-absent, within_seq, within-plain, within-unread, within-clear, within_text}

-- the same place, called otherwise
within_at : {b j : ℕ} {f : Fmt} {s : List ℕ} {at p q : ℕ} → p ≡ q → Within b j f s at p → Within b j f s at q
within_at e w = rw e at w

fields_more : {b c j k : ℕ} {fs : Flds} {s : List ℕ} {q at p : ℕ} → b ≤ c → j ≤ k → WithinFields b j fs s q at p → WithinFields c k fs s q at p
fields_more h l z = record { recs = z.recs; marks = z.marks; sure = z.sure; few = λ i. omega (arith, z.few i); near = omega (arith, z.near) }

---------------------------------------------------------------- angles

-- the form of an angle, and what stands behind it
module _ {v i : ℕ} (form : i ≡ v / 2 ^ (64 - 2)) where
  formed : {b j k : ℕ} {f : Fmt} {s : List ℕ} {at p : ℕ} (t most degrees : ℕ) → Ahead s at 2 v → ((x : Ctx) (e r : ℕ) → read_choice (forms t most degrees) i x (bit_of s) e r ≡ read f x (bit_of s) e r)
      → b ≤ 4 → 2 + j ≤ k → p ≡ at + k → Within b j (seq (f ⨾ num (t + 6) 0 1 ⨾ end)) s (at + 2) p → Within 5 k (angle_of t most degrees) s at (at + k)
  unfolding width width_in highest count
  formed t most degrees a c h l e y = within_at e (within_more (omega arith) l (within-chosen t (forms t most degrees) 2 i refl (form ∙ first-spelt a 2 (omega arith)) c y))

  -- w are the bits of its thousandths, n those of its degrees
  module _ (w n : ℕ) where
    pub thousandths : {d : ℕ} → i ≡ 0 → d ≡ width (extent 0 1) → PassedAngle v w n (2 + w + d)
    unfolding read_choice flags all_read
    thousandths {d} z e = λ t most degrees s at p q a.
        formed t most degrees a (λ x m r. rw z) (omega arith) (omega arith) (omega arith)
        (within-plain refl refl (within_must (within_num (t + 1) 0 most w p) (within_last (within_num (t + 6) 0 1 d (sym e)))))

    pub hundredths : {d h : ℕ} → i ≡ 1 → h ≡ width (extent 0 5999) → d ≡ width (extent 0 1) → PassedAngle v w n (2 + n + h + d)
    unfolding read_choice flags all_read
    hundredths {d} {h} z g e = λ t most degrees s at p q a.
        formed t most degrees a (λ x m r. rw z) (omega arith) (omega arith) (omega arith)
        (within-plain refl refl (within_must (within-plain refl refl (within_must (within_num (t + 2) 0 degrees n q) (within_last (within_num (t + 3) 0 5999 h (sym g))))) (within_last (within_num (t + 6) 0 1 d (sym e)))))

    pub seconds : {d h : ℕ} → i ≡ 2 → h ≡ width (extent 0 59) → d ≡ width (extent 0 1) → PassedAngle v w n (2 + n + 2 * h + d)
    unfolding read_choice flags all_read
    seconds {d} {h} z g e = λ t most degrees s at p q a.
        formed t most degrees a (λ x m r. rw z) (omega arith) (omega arith) (omega arith)
        (within-plain refl refl (within_must (within-plain refl refl (within_must (within_num (t + 2) 0 degrees n q) (within_must (within_num (t + 4) 0 59 h (sym g)) (within_last (within_num (t + 5) 0 59 h (sym g)))))) (within_last (within_num (t + 6) 0 1 d (sym e)))))

---------------------------------------------------------------- pairs

bits_of : (s : List ℕ) (at : ℕ) {v : ℕ} → v ≡ uint (bit_of s) at 2 → (bit_of s at ≡ v / 2) × (bit_of s (suc at) ≡ v % 2)
unfolding uint
bits_of s at u = let a = bit_of-lt s at in let b = bit_of-lt s (suc at) in (omega arith, omega arith)

-- behind the latitude, if there is one: the bits of the longitude stand at the top of a, and what is passed of it makes the pair
pub record Front (s : List ℕ) (at p a : ℕ) : Type 0 where
  pub word : Ahead s p 2 a
  pub makes : {r : ℕ} → WithinFields 5 24 (message.longitude ⨾? end) s (suc at) p r → Within 11 50 message.latlon s at r

pub front_by : {s : List ℕ} {at p q a b : ℕ} → p ≡ q → a ≡ b → Front s at q b → Front s at p a
front_by e f x = rw (e, f) x

module _ {s : List ℕ} {at v has b : ℕ} (h : Ahead s at 28 v) (e : has ≡ v / 2 ^ (64 - 2)) (f : b ≡ v * 2 ^ 2 % 2 ^ 64) where
  spelt : has ≡ uint (bit_of s) at 2
  spelt = e ∙ first-spelt h 2 (omega arith)

  pub front-absent : has < 2 → Front s at (at + 2) b
  unfolding flags all_read
  front-absent l =
      let z : bit_of s at ≡ 0 = omega (arith, (bits_of s at spelt).0) in
      record {
        word = ahead_fewer 2 (ahead-next 2 h refl f (omega arith)) (omega arith);
        makes = λ y. within_more (omega arith) (omega arith) (within-noted tag.coordinates 0 0 (within_seq 2 refl refl (within-absent z y)));
      }

  pub front-present : {w d n a : ℕ} → 2 ≤ has → width (extent 0 90000) ≡ w → width (extent 0 89) ≡ d → PassedAngle b w d n → n ≤ 24 → a ≡ b * 2 ^ n % 2 ^ 64 → Front s at (at + 2 + n) a
  unfolding flags all_read
  front-present {n = n} l p q x m g =
      let z : bit_of s at ≡ 1 = omega (arith, (bits_of s at spelt).0, bit_of-lt s at) in
      let k = ahead-next 2 h refl f (omega arith) in
      record {
        word = ahead_fewer 2 (ahead-next n k refl g (omega arith)) (omega arith);
        makes = λ y. within_more (omega arith) (omega arith) (within-noted tag.coordinates 0 0 (within_seq 2 refl refl (within-present (x tag.latitude 90000 89 s (at + 2) p q (ahead_fewer 2 k (omega arith))) z y)));
      }

  module _ {p a : ℕ} (front : Front s at p a) where
    pub longitude-absent : has % 2 ≡ 0 → Within 11 50 message.latlon s at p
    longitude-absent l = let z : bit_of s (suc at) ≡ 0 = (bits_of s at spelt).1 ∙ l in front.makes (fields_more (omega arith) (omega arith) (within-absent z within_end))

    pub longitude-present : {w d n : ℕ} → (has % 2 ≡ 0 → ⊥) → width (extent 0 180000) ≡ w → width (extent 0 179) ≡ d → PassedAngle a w d n → n ≤ 24 → Within 11 50 message.latlon s at (p + n)
    longitude-present l q r x m =
        let z : bit_of s (suc at) ≡ 1 = omega (arith, (bits_of s at spelt).1, l) in
        front.makes (fields_more (omega arith) (omega arith) (within-present (x tag.longitude 180000 179 s p q r front.word) z within_end))

---------------------------------------------------------------- positions

-- a name of k characters, and what is passed of its coordinates
pub named : {c j : ℕ} {s : List ℕ} {at k r : ℕ} (t most w : ℕ) → width (most - 1) ≡ w → k ≡ 1 + uint (bit_of s) (at + 1) w → k ≤ 8 → WithinFields c j (message.latlon ⨾? end) s at (at + 1 + w + k * 7) r → Within (1 + c) (1 + (w + 56 + j)) (message.named t most) s at r
unfolding flags all_read
named t most w q u l y = within_seq 1 refl refl (within_must (within_more (omega arith) (omega arith) (within_text t 1 most w q u)) y)

abbrev places : Alts
places = message.named tag.fix 5 ∥ message.named tag.navaid 4 ∥ message.ia5 tag.airport 4 4 ∥ message.latlon ∥ message.unlisted ∥ none_left

module _ {s : List ℕ} {at : ℕ} where
  -- of a size that takes w bits: three of a fix, two of a navaid
  pub position-named : {c j w k r : ℕ} (i : ℕ) → i ≡ uint (bit_of s) at 3 → i < 2 → w ≡ 3 - i → k ≡ 1 + uint (bit_of s) (at + 3 + 1) w → k ≤ 8 → c ≤ 11 → j ≤ 50 → WithinFields c j (message.latlon ⨾? end) s (at + 3) (at + 3 + 1 + w + k * 7) r → Within 13 113 message.position s at r
  unfolding width width_in highest count read_choice
  position-named {w = w} zero u h e g l m n y = within_more (omega arith) (omega arith) (within_choice tag.position places 3 0 refl u (λ x d q. refl) (named tag.fix 5 w (sym e) g l y))
  position-named {w = w} (suc zero) u h e g l m n y = within_more (omega arith) (omega arith) (within_choice tag.position places 3 1 refl u (λ x d q. refl) (named tag.navaid 4 w (sym e) g l y))
  position-named (suc (suc i)) u h e g l m n y = absurd (omega arith)

  module _ {i : ℕ} (u : i ≡ uint (bit_of s) at 3) where
    pub position-airport : i ≡ 2 → Within 13 113 message.position s at (at + 3 + 4 * 7)
    unfolding width width_in highest count read_choice uint
    position-airport z =
        let e : at + 3 + 0 + 4 * 7 ≡ at + 3 + 4 * 7 = omega arith in
        within_at e (within_more (omega arith) (omega arith) (within_choice tag.position places 3 2 refl (sym z ∙ u) (λ x d q. refl) (within_text tag.airport 4 4 0 refl refl)))

    pub position-placed : {r : ℕ} → i ≡ 3 → Within 11 50 message.latlon s (at + 3) r → Within 13 113 message.position s at r
    unfolding width width_in highest count read_choice
    position-placed z y = within_more (omega arith) (omega arith) (within_choice tag.position places 3 3 refl (sym z ∙ u) (λ x d q. refl) y)

-- a position's word: behind its kind the presence bit of the coordinates, and the size of the name
module _ {s : List ℕ} {at v a : ℕ} (h : Ahead s at 45 v) (f : a ≡ v * 2 ^ 3 % 2 ^ 64) where
  behind_kind : Ahead s (at + 3) 42 a
  behind_kind = ahead-next 3 h refl f (omega arith)

  pub has-spelt : {has : ℕ} → has ≡ a / 2 ^ (64 - 1) → has ≡ bit_of s (at + 3)
  has-spelt e = e ∙ first-spelt behind_kind 1 (omega arith) ∙ uint-one (bit_of s) (at + 3)

  pub size-spelt : {b w raw : ℕ} → b ≡ a * 2 ^ 1 % 2 ^ 64 → raw ≡ b / 2 ^ (64 - w) → w ≤ 3 → (raw ≡ uint (bit_of s) (at + 3 + 1) w) × (raw < 8)
  size-spelt {w = w} {raw} g e l =
      let u : raw ≡ uint (bit_of s) (at + 3 + 1) w = e ∙ first-spelt (ahead-next 1 behind_kind refl g (omega arith)) w (omega arith) in
      (u, omega (arith, u, uint-below-wide 3 s (at + 3 + 1) w l))

pub fields_bare : {s : List ℕ} {at p : ℕ} → 0 ≡ bit_of s at → WithinFields 0 0 (message.latlon ⨾? end) s at p p
fields_bare z = within-absent (sym z) within_end

pub fields_placed : {s : List ℕ} {at p r has : ℕ} → has ≡ bit_of s at → (has ≡ 0 → ⊥) → Within 11 50 message.latlon s p r → WithinFields 11 50 (message.latlon ⨾? end) s at p r
fields_placed {s} {at} e z y = let b : bit_of s at ≡ 1 = omega (arith, e, z, bit_of-lt s at) in within-present y b within_end

---------------------------------------------------------------- procedures

-- a kind of w bits, and a name of k characters, whose size has d
pub procedure-named : {s : List ℕ} {at i k w d r : ℕ} → w ≡ width (extent 0 2) → d ≡ width (extent 1 20) → i ≡ uint (bit_of s) (at + 1) w → i ≤ 2 → k ≡ 1 + uint (bit_of s) (at + 1 + w) d → WithinFields 1 59 (message.ia5 tag.procedure_transition 1 5 ⨾? end) s at (at + 1 + w + d + k * 7) r → Within 6 291 procedure_argument s at r
unfolding extent width width_in flags all_read
procedure-named {s} {at} {k = k} {w} {d} e f u l g y =
    let n : k ≤ 32 = omega (arith, g, f, uint-below-wide 5 s (at + 1 + w) d (omega (arith, f))) in
    within_more (omega arith) (omega (arith, e, f)) (within_seq 1 refl refl (within_must (within-name tag.procedure 2 w (sym e) u l) (within_must (within_more {c = 4} {k = 229} (omega arith) (omega (arith, f)) (within_text tag.procedure_name 1 20 d (sym f) g)) y)))

pub transition-absent : {s : List ℕ} {at p : ℕ} → 0 ≡ bit_of s at → WithinFields 1 59 (message.ia5 tag.procedure_transition 1 5 ⨾? end) s at p p
transition-absent z = fields_more (omega arith) (omega arith) (within-absent (sym z) within_end)

pub transition-present : {s : List ℕ} {at p k w has : ℕ} → has ≡ bit_of s at → (has ≡ 0 → ⊥) → w ≡ width (extent 1 5) → k ≡ 1 + uint (bit_of s) p w → WithinFields 1 59 (message.ia5 tag.procedure_transition 1 5 ⨾? end) s at p (p + w + k * 7)
unfolding extent width width_in
transition-present {s} {at} {p} {k} {w} e z f g =
    let b : bit_of s at ≡ 1 = omega (arith, e, z, bit_of-lt s at) in
    let n : k ≤ 8 = omega (arith, g, f, uint-below-wide 3 s p w (omega (arith, f))) in
    within-present (within_more {c = 1} {k = 59} (omega arith) (omega (arith, f)) (within_text tag.procedure_transition 1 5 w (sym f) g)) b within_end

-- a procedure's word: behind the presence bit of the transition its kind of w bits, and the size of its name
module _ {s : List ℕ} {at v a : ℕ} (h : Ahead s at 45 v) (f : a ≡ v * 2 ^ 1 % 2 ^ 64) where
  behind-presence : Ahead s (at + 1) 44 a
  behind-presence = ahead-next 1 h refl f (omega arith)

  pub procedure_kind : {i : ℕ} (w : ℕ) → i ≡ a / 2 ^ (64 - w) → w ≤ 44 → i ≡ uint (bit_of s) (at + 1) w
  procedure_kind w e l = e ∙ first-spelt behind-presence w l

  pub procedure_size : {b d raw : ℕ} (w : ℕ) → b ≡ a * 2 ^ w % 2 ^ 64 → raw ≡ b / 2 ^ (64 - d) → w + d ≤ 44 → d ≤ 5 → (raw ≡ uint (bit_of s) (at + 1 + w) d) × (raw < 32)
  procedure_size {d = d} {raw} w g e l n =
      let u : raw ≡ uint (bit_of s) (at + 1 + w) d = e ∙ first-spelt (ahead-next w behind-presence refl g (omega arith)) d (omega arith) in
      (u, omega (arith, u, uint-below-wide 5 s (at + 1 + w) d n))

-- the size of a transition, from the bits behind the name
pub transition_size : {s : List ℕ} {p v w raw : ℕ} → Ahead s p 57 v → raw ≡ v / 2 ^ (64 - w) → w ≤ 3 → (raw ≡ uint (bit_of s) p w) × (raw < 8)
transition_size {s} {p} {w = w} {raw} h e l = let u : raw ≡ uint (bit_of s) p w = e ∙ first-spelt h w (omega arith) in (u, omega (arith, u, uint-below-wide 3 s p w l))

---------------------------------------------------------------- departures

-- a flight of k characters, whose size has w bits, and a position
pub departure : {s : List ℕ} {at i k w r : ℕ} → i ≡ uint (bit_of s) at 2 → i ≡ 0 → w ≡ width (extent 2 8) → k ≡ 2 + uint (bit_of s) (at + 2) w → Within 13 113 message.position s (at + 2 + w + k * 7) r → Within 15 181 message.departure_clearance s at r
unfolding extent width width_in flags unread_marks unread_mark or
departure {s} {at} {i} {k} {w} u e f g y =
    let b : bit_of s at ≡ 0 = omega (arith, (bits_of s at u).0) in
    let c : bit_of s (suc at) ≡ 0 = omega (arith, (bits_of s at u).1) in
    let n : k ≤ 9 = omega (arith, g, f, uint-below-wide 3 s (at + 2) w (omega (arith, f))) in
    within-clear 2 refl (rw (b, c) refl)
    (within_must (within_more {c = 2} {k = 66} (omega arith) (omega (arith, f)) (within_text tag.flight_identification 2 8 w (sym f) g)) (within_must y (within-unread b (within-unread c within_end))))

-- a departure's word: behind the presence bits the size of the flight
pub flight_size : {s : List ℕ} {at v a w raw : ℕ} → Ahead s at 45 v → a ≡ v * 2 ^ 2 % 2 ^ 64 → raw ≡ a / 2 ^ (64 - w) → w ≤ 3 → (raw ≡ uint (bit_of s) (at + 2) w) × (raw < 8)
flight_size {s} {at} {w = w} {raw} h f e l =
    let u : raw ≡ uint (bit_of s) (at + 2) w = e ∙ first-spelt (ahead-next 2 h refl f (omega arith)) w (omega arith) in
    (u, omega (arith, u, uint-below-wide 3 s (at + 2) w l))
