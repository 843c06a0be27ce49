-- What is passed over of a format, from what is passed over of its parts: a law for each kind.
use mathlib.Core.Path.{◌≡◌, refl, sym, ap, ◌∙◌}
use mathlib.Core.Bool.{true}
use mathlib.Core.List.{List, [], ◌∷◌, ◌++◌}
use Prim.Native.Nat.{ℕ, zero, suc, ◌+◌, ◌-◌, ◌*◌, ◌/◌, ◌≤◌, ◌<◌}
use native.Mathlib.Omega.{arith}
use lib.ListN.{length, length-append}
use borrow.Author.Tests.{le-leb}
use Rattle.x691.specs.Bits.{bit_of, uint, bits_of, Spells}
use Rattle.x691.specs.Types.{extent}
use Rattle.x691.specs.Encoding.{width, width_in, size_bits, highest}
use Rattle.per.proofs.Laws.{uint-below}
use Rattle.atn.specs.Format.{Fmt, Flds, Alts, null, num, name, noted, ext, choice, seq, many, alternatives_of, end, ◌⨾◌, ◌⨾?◌, unread}
use Rattle.atn.specs.Reading.{Rec, rec, Ctx, ok, then, glue, times, guard, fork, over, or, mark, word, pack, packs, units, flags, unread_marks, read, read_fields, read_choice}
use Rattle.atn.specs.Messages.{ia5, ext_name}
use Rattle.atn.proofs.Steps.{fetch_go, pull_go, sized_go, then-nil}
use Rattle.atn.proofs.Texts.{length-units}
use Rattle.cursor.proofs.FormatLaws.{all_read}
use Rattle.field_ranges.specs.declared.table.Range.{Range}
use Rattle.field_ranges.specs.Ranges.{Listed, width_of}
use Rattle.field_ranges.proofs.RowLaws.{lowest_of, highest_of}
use Rattle.field_ranges.specs.Ends.{lowest, highest as last}
use Rattle.ranged_numbers.specs.Numbers.{rows_then}
use Rattle.ranged_numbers.proofs.ChoiceLaws.{row_read}
use Rattle.ample_readings.specs.Sure.{SureFields}
use Rattle.ample_readings.proofs.SureLaws.{sure_word, sure_choice, sure_noted, sure_end, sure_must, sure_last, sure_absent, sure_present, sure_seq, sure_plain, sure_chosen, sure-text}
use Rattle.passed_arguments.specs.Passed.{Passed, Within}

pub passed_of : {b j : ℕ} {f : Fmt} {s : List ℕ} {at p : ℕ} → b ≤ 16 → j ≤ 160 → Within b j f s at p → Passed f s at p
passed_of h l w = record { recs = w.recs; marks = w.marks; sure = w.sure; few = λ i. omega (arith, w.few i); near = omega (arith, w.near) }

-- fields, of which q is the next presence bit
pub record WithinFields (b j : ℕ) (fs : Flds) (s : List ℕ) (q at p : ℕ) : Type 0 where
  pub recs : ℕ → List Rec
  pub marks : ℕ
  pub sure : (x : Ctx) → SureFields fs x s q at p (recs x.0) marks
  pub few : (i : ℕ) → length (recs i) ≤ b
  pub near : p ≤ at + j

-- n of a part, of which i is the place of the first
pub record WithinTimes (b j : ℕ) (f : Fmt) (s : List ℕ) (i n at p : ℕ) : Type 0 where
  pub recs : ℕ → List Rec
  pub marks : ℕ
  pub forth : at ≤ p
  pub gives : (m e : ℕ) → p ≤ e → times (λ k q. read f (m, k) (bit_of s) e q) i n at ≡ ok p (recs m) marks
  pub few : (m : ℕ) → length (recs m) ≤ b
  pub near : p ≤ at + j

length-packs : (t m q n k : ℕ) (cs : List ℕ) → length (packs t m q n k cs) ≡ k
unfolding packs
length-packs t m q n zero cs = refl
length-packs t m q n (suc k) cs = ap suc (length-packs t m q n k _)

-- the bits of a number by the row of its range
pub row-wide : {r : Range} {k w : ℕ} → Listed r → r.row ≡ k → w ≡ width_of r → width (extent (lowest k) (last k)) ≡ w
row-wide l e q = rw (← e, lowest_of l, highest_of l) (sym q)

-- where the end is near by itself
pub passed_near : {b j : ℕ} {f : Fmt} {s : List ℕ} {at p : ℕ} → b ≤ 16 → p ≤ at + 160 → Within b j f s at p → Passed f s at p
passed_near h l w = record { recs = w.recs; marks = w.marks; sure = w.sure; few = λ i. omega (arith, w.few i); near = l }

module _ {s : List ℕ} where
  pub within_more : {b c j k : ℕ} {f : Fmt} {at p : ℕ} → b ≤ c → j ≤ k → Within b j f s at p → Within c k f s at p
  within_more h l w = record { recs = w.recs; marks = w.marks; sure = w.sure; few = λ i. omega (arith, w.few i); near = omega (arith, w.near) }

  pub within_null : {at : ℕ} → Within 0 0 null s at at
  unfolding read
  within_null = record { recs = λ i. []; marks = 0; sure = λ x. record { forth = omega arith; gives = λ e h. refl }; few = λ i. omega arith; near = omega arith }

  ---------------------------------------------------------------- numbers and names

  pub within_num : (t lo hi w : ℕ) {at : ℕ} → width (extent lo hi) ≡ w → Within 1 w (num t lo hi) s at (at + w)
  within_num t lo hi w {at} q =
      record {
        recs = λ i. rec t i (word (lo + uint (bit_of s) at w)) 0 at ∷ [];
        marks = over (extent lo hi) (uint (bit_of s) at w);
        sure = λ x. sure_word t lo hi (extent lo hi) w refl q refl;
        few = λ i. omega arith;
        near = omega arith;
      }

  pub within-name : (t hi w : ℕ) {at v : ℕ} → width (extent 0 hi) ≡ w → v ≡ uint (bit_of s) at w → v ≤ extent 0 hi → Within 1 w (name t hi) s at (at + w)
  unfolding read guard
  within-name t hi w {at} {v} q u l =
      record {
        recs = λ i. rec t i v 0 at ∷ [];
        marks = 0;
        sure = λ x. record { forth = omega arith; gives = λ e h. rw q (pull_go (bit_of s) e at w _ h ∙ rw (← u, le-leb v (extent 0 hi) l)) };
        few = λ i. omega arith;
        near = omega arith;
      }

  module _ {f g : Fmt} {at : ℕ} where
    pub within-root : {b j p : ℕ} → 0 ≡ uint (bit_of s) at 1 → Within b j f s (at + 1) p → Within b (1 + j) (ext f g) s at p
    unfolding read fork
    within-root u w =
        record {
          recs = w.recs;
          marks = w.marks;
          sure = λ x. record { forth = omega (arith, (w.sure x).forth); gives = λ e h. pull_go (bit_of s) e at 1 _ (omega (arith, (w.sure x).forth)) ∙ rw (← u, (w.sure x).gives e h) };
          few = w.few;
          near = omega (arith, w.near);
        }

    pub within-extended : {b j p : ℕ} → 1 ≡ uint (bit_of s) at 1 → Within b j g s (at + 1) p → Within b (1 + j) (ext f g) s at p
    unfolding read fork then glue
    within-extended u w =
        record {
          recs = w.recs;
          marks = or (mark 2) w.marks;
          sure = λ x. record { forth = omega (arith, (w.sure x).forth); gives = λ e h. pull_go (bit_of s) e at 1 _ (omega (arith, (w.sure x).forth)) ∙ rw (← u, (w.sure x).gives e h) };
          few = w.few;
          near = omega (arith, w.near);
        }

  pub within-noted : {b j : ℕ} {f : Fmt} {at p : ℕ} (t v z : ℕ) → Within b j f s at p → Within (suc b) j (noted t v z f) s at p
  within-noted {at = at} t v z w = record { recs = λ i. rec t i v z at ∷ w.recs i; marks = w.marks; sure = λ x. sure_noted t v z (w.sure x); few = λ i. omega (arith, w.few i); near = w.near }

  module _ (t hi : ℕ) {at v : ℕ} (u : v ≡ uint (bit_of s) at 1) where
    pub name-extended : (v ≡ 0 → ⊥) → Within 1 1 (ext_name t hi) s at (at + 1)
    name-extended z = within-extended (omega (arith, u, uint-below s at 1, z)) (within-noted t 0 1 within_null)

    pub name-plain : (w : ℕ) {n : ℕ} → v ≡ 0 → width (extent 0 hi) ≡ w → n ≡ uint (bit_of s) (at + 1) w → n ≤ extent 0 hi → Within 1 (1 + w) (ext_name t hi) s at (at + 1 + w)
    name-plain w z q e l = within-root (sym z ∙ u) (within-name t hi w q e l)

  ---------------------------------------------------------------- choices

  module _ {b j : ℕ} {f : Fmt} {at p : ℕ} (t : ℕ) (fs : Alts) (w i : ℕ) (q : width (highest (alternatives_of fs)) ≡ w) (u : i ≡ uint (bit_of s) at w) (c : (x : Ctx) (e r : ℕ) → read_choice fs i x (bit_of s) e r ≡ read f x (bit_of s) e r) where
    pub within_choice : Within b j f s (at + w) p → Within (suc b) (w + j) (choice t fs) s at p
    within_choice y =
        record {
          recs = λ k. rec t k i 0 at ∷ y.recs k;
          marks = y.marks;
          sure = λ x. sure_choice t fs f w i q u (c x) (y.sure x);
          few = λ k. omega (arith, y.few k);
          near = omega (arith, y.near);
        }

    -- at the front of two
    pub within-chosen : {g : Fmt} → Within b j (seq (f ⨾ g ⨾ end)) s (at + w) p → Within (suc b) (w + j) (seq (choice t fs ⨾ g ⨾ end)) s at p
    within-chosen y =
        record {
          recs = λ k. rec t k i 0 at ∷ y.recs k;
          marks = y.marks;
          sure = λ x. sure_chosen t fs w i q u (c x) (y.sure x);
          few = λ k. omega (arith, y.few k);
          near = omega (arith, y.near);
        }

  -- a number whose range stands in the row of its kind
  pub within-row : (t u k n : ℕ) (fs : Alts) (w d i : ℕ) {at : ℕ} → width (highest (alternatives_of (rows_then u k n fs))) ≡ w → i ≡ uint (bit_of s) at w → i < n → width (extent (lowest (k + i)) (last (k + i))) ≡ d
      → Within 2 (w + d) (choice t (rows_then u k n fs)) s at (at + w + d)
  within-row t u k n fs w d i q e l h = within_choice t (rows_then u k n fs) w i q e (λ x a r. row_read u k n i fs x (bit_of s) a r l) (within_num u (lowest (k + i)) (last (k + i)) d h)

  ---------------------------------------------------------------- sequences

  pub within_end : {q at : ℕ} → WithinFields 0 0 end s q at at
  within_end = record { recs = λ i. []; marks = 0; sure = λ x. sure_end; few = λ i. omega arith; near = omega arith }

  module _ {b j : ℕ} {f : Fmt} {at p : ℕ} (y : Within b j f s at p) where
    pub within_must : {c k : ℕ} {fs : Flds} {q r : ℕ} → WithinFields c k fs s q p r → WithinFields (b + c) (j + k) (f ⨾ fs) s q at r
    within_must {q = q} z =
        record {
          recs = λ i. y.recs i ++ z.recs i;
          marks = or y.marks z.marks;
          sure = λ x. sure_must {q = q} (y.sure x) (z.sure x);
          few = λ i. omega (arith, length-append (y.recs i) (z.recs i), y.few i, z.few i);
          near = omega (arith, y.near, z.near);
        }

    pub within_last : {q : ℕ} → WithinFields b j (f ⨾ end) s q at p
    within_last {q} = record { recs = y.recs; marks = y.marks; sure = λ x. sure_last {q = q} (y.sure x); few = y.few; near = y.near }

    pub within-present : {c k : ℕ} {fs : Flds} {q r : ℕ} → bit_of s q ≡ 1 → WithinFields c k fs s (suc q) p r → WithinFields (b + c) (j + k) (f ⨾? fs) s q at r
    within-present {q = q} h z =
        record {
          recs = λ i. y.recs i ++ z.recs i;
          marks = or y.marks z.marks;
          sure = λ x. sure_present {q = q} h (y.sure x) (z.sure x);
          few = λ i. omega (arith, length-append (y.recs i) (z.recs i), y.few i, z.few i);
          near = omega (arith, y.near, z.near);
        }

  pub within-absent : {b j : ℕ} {f : Fmt} {fs : Flds} {q at p : ℕ} → bit_of s q ≡ 0 → WithinFields b j fs s (suc q) at p → WithinFields b j (f ⨾? fs) s q at p
  within-absent h z = record { recs = z.recs; marks = z.marks; sure = λ x. sure_absent h (z.sure x); few = z.few; near = z.near }

  pub within_seq : {b j : ℕ} {fs : Flds} {at p : ℕ} (n : ℕ) → flags fs ≡ n → all_read fs ≡ true → WithinFields b j fs s at (at + n) p → Within b (n + j) (seq fs) s at p
  within_seq n q a z = record { recs = z.recs; marks = z.marks; sure = λ x. sure_seq n q a (z.sure x); few = z.few; near = omega (arith, z.near) }

  -- without presence bits
  pub within-plain : {b j : ℕ} {fs : Flds} {at p : ℕ} → flags fs ≡ 0 → all_read fs ≡ true → WithinFields b j fs s at at p → Within b j (seq fs) s at p
  within-plain q a z = record { recs = z.recs; marks = z.marks; sure = λ x. sure_plain q a (z.sure x); few = z.few; near = z.near }

  -- a part that is not read, absent
  pub within-unread : {b j t : ℕ} {fs : Flds} {q at p : ℕ} → bit_of s q ≡ 0 → WithinFields b j fs s (suc q) at p → WithinFields b j (unread t fs) s q at p
  unfolding read_fields fork
  within-unread h z = record { recs = z.recs; marks = z.marks; sure = λ x. record { forth = (z.sure x).forth; gives = λ e l. rw h ((z.sure x).gives e l) }; few = z.few; near = z.near }

  -- a sequence whose parts that are not read are absent
  pub within-clear : {b j : ℕ} {fs : Flds} {at p : ℕ} (n : ℕ) → flags fs ≡ n → unread_marks fs (bit_of s) at ≡ 0 → WithinFields b j fs s at (at + n) p → Within b (n + j) (seq fs) s at p
  unfolding read
  within-clear {fs = fs} {at} n q m z =
      record {
        recs = z.recs;
        marks = z.marks;
        sure = λ x. record {
          forth = omega (arith, (z.sure x).forth);
          gives = λ e h. rw q (fetch_go (bit_of s) e at n _ _ (omega (arith, (z.sure x).forth)) ∙ rw m (then-nil (at + n) (λ r. read_fields fs x (bit_of s) e at r) ∙ (z.sure x).gives e h));
        };
        few = z.few;
        near = omega (arith, z.near);
      }

  ---------------------------------------------------------------- lists of a known size

  pub times_none : {f : Fmt} {i at : ℕ} → WithinTimes 0 0 f s i 0 at at
  unfolding times
  times_none = record { recs = λ m. []; marks = 0; forth = omega arith; gives = λ m e h. refl; few = λ m. omega arith; near = omega arith }

  pub times_more : {b c j k : ℕ} {f : Fmt} {i n at p r : ℕ} → Within b j f s at p → WithinTimes c k f s (suc i) n p r → WithinTimes (b + c) (j + k) f s i (suc n) at r
  unfolding times then glue
  times_more {i = i} y z =
      record {
        recs = λ m. y.recs m ++ z.recs m;
        marks = or y.marks z.marks;
        forth = omega (arith, (y.sure (0, 0)).forth, z.forth);
        gives = λ m e h. rw ((y.sure (m, i)).gives e (omega (arith, z.forth)), z.gives m e h);
        few = λ m. omega (arith, length-append (y.recs m) (z.recs m), y.few m, z.few m);
        near = omega (arith, y.near, z.near);
      }

  pub within_many : {b j : ℕ} {f : Fmt} {at p : ℕ} (n : ℕ) → WithinTimes b j f s 1 n at p → Within b j (many n n f) s at p
  unfolding read width width_in size_bits bits_of Spells
  within_many {f = f} {at} n z =
      let d : n - n ≡ 0 = omega arith in
      let w : width (n - n) ≡ 0 = rw d in
      record {
        recs = z.recs;
        marks = z.marks;
        sure = λ x. record {
          forth = z.forth;
          gives = λ e h. sized_go (bit_of s) e at n n n _ (omega arith) (omega arith) (rw w tt) (omega (arith, z.forth)) ∙ ap (λ (p : ℕ). times (λ j q. read f (x.0, j) (bit_of s) e q) 1 n p) (omega arith) ∙ z.gives x.0 e h;
        };
        few = z.few;
        near = z.near;
      }

  ---------------------------------------------------------------- texts

  pub within_text : (t lo hi w : ℕ) {at k : ℕ} → width (hi - lo) ≡ w → k ≡ lo + uint (bit_of s) at w → Within ((k + 7) / 8) (w + k * 7) (ia5 t lo hi) s at (at + w + k * 7)
  unfolding pack
  within_text t lo hi w {at} {k} q u =
      let cs : List ℕ = units (bit_of s) 7 (at + w) k in
      record {
        recs = λ i. pack t i at cs;
        marks = over hi k;
        sure = λ x. sure-text t lo hi w q u;
        few = λ i. omega (arith, length-packs t i at (length cs) ((length cs + 7) / 8) cs, length-units (bit_of s) 7 (at + w) k);
        near = omega arith;
      }
