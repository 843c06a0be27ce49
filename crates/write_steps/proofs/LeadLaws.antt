-- A node above one part, by its kind.
use mathlib.Core.Path.{◌≡◌, refl, sym, ap, ◌∙◌}
use mathlib.Core.Bool.{Bool, true, false, not, ◌&&◌, false≢true}
use mathlib.Core.Logic.{◌⊎◌, inl, inr}
use mathlib.Core.List.{List, [], ◌∷◌}
use Prim.Native.Nat.{ℕ, zero, suc, ◌+◌, ◌-◌, ◌≤◌, ◌<◌}
use native.Mathlib.Omega.{arith}
use lib.ListN.{length, get_or}
use lib.Dec.{leb, ltb, eqb}
use borrow.Author.Tests.{leb-true, ltb-true, le-leb, lt-leb, not-true, eqb-true, eqb-false}
use Rattle.x691.specs.Encoding.{width, highest, count, encode}
use Rattle.atn.specs.Format.{Fmt, noted, placed, element, ext, choice, soft, lax, Alts, type_of, alternatives_of}
use Rattle.atn.specs.Alternatives.{alternatives_from}
use Rattle.atn.specs.Messages.{no_reader, argument}
use Rattle.atn.specs.Reading.{Ctx}
use Rattle.atn.proofs.Inverse.{both}
use Rattle.atn.proofs.Alternatives.{count-from}
use Rattle.record_lists.specs.Items.{Item, plain}
use Rattle.record_lists.specs.Kinds.{span_tag}
use Rattle.record_lists.specs.Parse.{peel, parse}
use Rattle.node_tables.specs.declared.Node.{Node}
use Rattle.node_tables.specs.Nodes.{format_of, lent_alternatives, lent_table}
use Rattle.node_tables.specs.Sure.{sure_of, sure_each}
use Rattle.std.specs.Prelude.{Result, Ok, Err}
use Rattle.std.specs.Result.{IsErrAnd}
use Rattle.std.proofs.lemmas.Result.{err_from_is_err_and}
use Rattle.pens.specs.declared.Wrote.{Wrote as Written}
use Rattle.pens.specs.declared.Refused.{Refused}
use Rattle.pens.specs.Stand.{Stand, refused}
use Rattle.pens.proofs.PenLaws.{writes_still}
use Rattle.write_steps.specs.declared.lead.Below.{Below}
use Rattle.pens.specs.Rest.{items}
use Rattle.pens.specs.Writes.{Wrote, Writes, Inks, Part}
use Rattle.pens.proofs.PartLaws.{noted-part, placed-part, ext_part, choice_part}
use Rattle.write_leaves.specs.Index.{Indexed, index_of, Indexes}
use Rattle.write_leaves.specs.Lent.{SureLeaf}
use Rattle.write_leaves.proofs.LeafLaws.{part_as}
use Rattle.write_steps.specs.Steps.{Above, Led, led, Leads, LeadsLent, LeadsTo, LentTo}
use Rattle.write_steps.proofs.PickLaws.{nth, pick_wrote, choice_index, nth_from, count-lent, nth_lent}

sure-each : (S : ℕ → Bool) (k n i : ℕ) → sure_each S k n ≡ true → i < n → S (k + i) ≡ true
unfolding sure_each
sure-each S k zero i h l = absurd (omega arith)
sure-each S k (suc n) zero h l = ap S (omega arith) ∙ (both (S k) (sure_each S (suc k) n) h).0
sure-each S k (suc n) (suc i) h l = ap S (omega arith) ∙ sure-each S (suc k) n i (both (S k) (sure_each S (suc k) n) h).1 (omega arith)

---------------------------------------------------------------- the kinds

one_more : {k n : ℕ} → n ≤ k → (k ≡ n → ⊥) → n + 1 ≤ k
one_more h a = omega (arith, h, a)

pub last_two : {k : ℕ} → Above k → (k ≡ 8 → ⊥) → (k ≡ 9 → ⊥) → (k ≡ 10 → ⊥) → (k ≡ 11 → ⊥) → (k ≡ 14 → ⊥) → (k ≡ 15 → ⊥) → (k ≡ 18) ⊎ (k ≡ 19)
last_two {k} h a b c d e f =
    let g : 18 ≤ k = one_more (one_more (one_more (one_more (one_more (one_more (one_more (one_more (one_more (one_more h.from_8 a) b) c) d) h.not_12) h.not_13) e) f) h.not_16) h.not_17 in
    go (eqb k 18) refl g
  where
    go : (z : Bool) → eqb k 18 ≡ z → 18 ≤ k → (k ≡ 18) ⊎ (k ≡ 19)
    go true q l = inl (eqb-true k 18 q)
    go false q l = inr (omega (arith, one_more l (eqb-false k 18 q), h.to_19))

---------------------------------------------------------------- what a node keeps

module _ (a b c d e : ℕ) {kind : ℕ} where
  pub keeps-noted : kind ≡ 8 → SureLeaf kind a b c d e → span_tag a ≡ false
  unfolding sure_of
  keeps-noted k h = not-true (span_tag a) (both (not (span_tag a)) true (rw k at h)).0

  pub keeps_placed : kind ≡ 9 → SureLeaf kind a b c d e → span_tag a ≡ false
  unfolding sure_of
  keeps_placed k h = not-true (span_tag a) (both (not (span_tag a)) true (rw k at h)).0

  pub keeps_choice : kind ≡ 14 → SureLeaf kind a b c d e → (span_tag a ≡ false) × (b < 1000000) × (1 ≤ c) × (c ≤ 256)
  unfolding sure_of
  keeps_choice k h =
      let f : (not (span_tag a) && ltb b 1000000) && ((leb 1 c && leb c 256) && sure_each (λ _. true) b c) ≡ true = rw k at h in
      let g = both (not (span_tag a) && ltb b 1000000) ((leb 1 c && leb c 256) && sure_each (λ _. true) b c) f in
      let i = both (not (span_tag a)) (ltb b 1000000) g.0 in
      let j = both (leb 1 c && leb c 256) (sure_each (λ _. true) b c) g.1 in
      let l = both (leb 1 c) (leb c 256) j.0 in
      (not-true (span_tag a) i.0, ltb-true b 1000000 i.1, leb-true 1 c l.0, leb-true c 256 l.1)

  pub keeps-lent : kind ≡ 15 → SureLeaf kind a b c d e → (span_tag a ≡ false) × (b < 1000000)
  unfolding sure_of
  keeps-lent k h =
      let f : (not (span_tag a) && ltb b 1000000) && sure_each (λ _. true) b 17 ≡ true = rw k at h in
      let g = both (not (span_tag a) && ltb b 1000000) (sure_each (λ _. true) b 17) f in
      let i = both (not (span_tag a)) (ltb b 1000000) g.0 in
      (not-true (span_tag a) i.0, ltb-true b 1000000 i.1)

---------------------------------------------------------------- an index, and its alternative

module _ (b : ℕ → ℕ) (W : List ℕ) (m : ℕ) (x : Ctx) (t n : ℕ) (fs : Alts) (p : Stand) (i : Indexed) (r : Stand) (X Y Z : List ℕ) (size : count (alternatives_of fs) ≡ n) (indexed : Indexes t x.0 n b W m p X i Y) where
  abbrev T : ℕ → List Item
  T j = items b W m j

  wide : width (highest (alternatives_of fs)) ≡ width (n - 1)
  unfolding highest
  wide = ap (λ (z : ℕ). width (z - 1)) size

  -- its alternative is written, or the pen is refused and has none to write
  picked : (i.p.off ≡ true → r.off ≡ true) → (i.p.off ≡ false → i.p.next ≤ m → Wrote (λ v. encode (type_of (nth fs i.v)) v) T m i.p Y r Z (parse (nth fs i.v) x (T i.p.next))) → Part (choice t fs) x b W m p X r Z
  picked s h =
      choice_part b W m x p i.p r X Y Z t fs (λ R. index_of t x.0 n R) (choice_index t n fs x size)
      (record { still = indexed.writes.still; goes = λ z l. rw wide (indexed.writes.goes z l) })
      s
      (λ z k j e o l.
      let v : j ≡ i.v = indexed.named z k j (T i.p.next) e in
      let u : i.v < count (alternatives_of fs) = omega (arith, size, indexed.below) in
      rw v (pick_wrote fs i.v x (T i.p.next) T m i.p Y r Z u (h o l)))

-- where the index is refused, the choice is
pub choice_off : (b : ℕ → ℕ) (W : List ℕ) (m : ℕ) (x : Ctx) (t n : ℕ) (fs : Alts) (p : Stand) (i : Indexed) (X Y : List ℕ) → count (alternatives_of fs) ≡ n → Indexes t x.0 n b W m p X i Y → i.p.off ≡ true → (Z : List ℕ) → Part (choice t fs) x b W m p X refused Z
choice_off b W m x t n fs p i X Y size indexed o Z = picked b W m x t n fs p i refused X Y Z size indexed (λ _. refl) (λ z. absurd (false≢true (sym z ∙ o)))

---------------------------------------------------------------- each kind

module _ (F : ℕ → Fmt) (S : ℕ → Bool) (N down up : List ℕ) (n : Node) (x y : ℕ) (s : ℕ → ℕ) (W : List ℕ) (m : ℕ) (p : Stand) (X : List ℕ) (l : Led) (Y : List ℕ) where
  abbrev sure : Type 0
  sure = sure_of F S N n.kind n.a n.b n.c n.d n.e ≡ true

  abbrev here : Fmt
  here = format_of F N down up n.kind n.a n.b n.c n.d n.e

  leads_as : (f : Fmt) → here ≡ f → ((r : Stand) (Z : List ℕ) → Part (F l.k) (l.x, y) s W m l.p Y r Z → Part f (x, y) s W m p X r Z) → S l.k ≡ true → Leads F S N down up n x y s W m p X l Y
  leads_as f e g k = record { goes = λ r Z h. part_as here f (x, y) s W m p X r Z e (g r Z h); sure = k }

  pub leads_noted : n.kind ≡ 8 → sure → l.k ≡ n.d → l.x ≡ x → Y ≡ X → Writes (λ _. []) (λ R. peel (plain n.a x n.b n.c ∷ []) zero R) (λ i. items s W m i) m p X l.p X → Leads F S N down up n x y s W m p X l Y
  unfolding format_of sure_of
  leads_noted k h u v w a =
      let z : not (span_tag n.a) && S n.d ≡ true = rw k at h in
      leads_as (noted n.a n.b n.c (F n.d)) (rw k)
      (λ r Z c. noted-part s W m (x, y) p l.p r X X Z n.a n.b n.c (F n.d) a (rw (u, v, w) at c))
      (rw u (both (not (span_tag n.a)) (S n.d) z).1)

  pub leads_placed : n.kind ≡ 9 → sure → l.k ≡ n.b → l.x ≡ x → Y ≡ X → Writes (λ _. []) (λ R. peel (plain n.a x y 0 ∷ []) zero R) (λ i. items s W m i) m p X l.p X → Leads F S N down up n x y s W m p X l Y
  unfolding format_of sure_of
  leads_placed k h u v w a =
      let z : not (span_tag n.a) && S n.b ≡ true = rw k at h in
      leads_as (placed n.a (F n.b)) (rw k)
      (λ r Z c. placed-part s W m (x, y) p l.p r X X Z n.a (F n.b) a (rw (u, v, w) at c))
      (rw u (both (not (span_tag n.a)) (S n.b) z).1)

  pub leads_element : n.kind ≡ 10 → sure → l.k ≡ n.a → l.x ≡ y → l.p ≡ p → Y ≡ X → Leads F S N down up n x y s W m p X l Y
  unfolding format_of sure_of parse encode
  leads_element k h u v o w = leads_as (element (F n.a)) (rw k) (λ r Z c. rw (u, v, o, w) at c) (rw u (rw k at h))

  pub leads_ext : n.kind ≡ 11 → sure → l.k ≡ n.a → l.x ≡ x → Inks p X 1 0 l.p Y → Leads F S N down up n x y s W m p X l Y
  unfolding format_of sure_of
  leads_ext k h u v a = leads_as (ext (F n.a) (F n.b)) (rw k) (λ r Z c. ext_part s W m (x, y) p l.p r X Y Z (F n.a) (F n.b) a (rw (u, v) at c)) (rw u (rw k at h))

  pub leads_choice : n.kind ≡ 14 → sure → (i : Indexed) → l.k ≡ n.b + i.v → l.x ≡ x → l.p ≡ i.p → Indexes n.a x n.c s W m p X i Y → Leads F S N down up n x y s W m p X l Y
  unfolding format_of sure_of
  leads_choice k h i u v o a =
      let z : (not (span_tag n.a) && ltb n.b 1000000) && ((leb 1 n.c && leb n.c 256) && sure_each S n.b n.c) ≡ true = rw k at h in
      let f : Alts = alternatives_from F n.b n.c in
      let e = nth_from F n.b n.c i.v a.below in
      leads_as (choice n.a f) (rw k)
      (λ r Z c.
      let c' : Part (F (n.b + i.v)) (x, y) s W m i.p Y r Z = rw (u, v, o) at c in
      picked s W m (x, y) n.a n.c f p i r X Y Z (count-from F n.b n.c) a c'.still (λ q j. rw e (c'.goes q j)))
      (rw u (sure-each S n.b n.c i.v (both (leb 1 n.c && leb n.c 256) (sure_each S n.b n.c) (both (not (span_tag n.a) && ltb n.b 1000000) ((leb 1 n.c && leb n.c 256) && sure_each S n.b n.c) z).1).1 a.below))

  pub leads_lent : n.kind ≡ 15 → sure → (table : List ℕ) → table ≡ lent_table down up n.c → LeadsLent F n.a n.b table x y s W m p X l Y → Leads F S N down up n x y s W m p X l Y
  unfolding format_of sure_of
  leads_lent k h table e a =
      let z : (not (span_tag n.a) && ltb n.b 1000000) && sure_each S n.b 17 ≡ true = rw k at h in
      let j : n.b + (l.k - n.b) ≡ l.k = omega (arith, a.from) in
      let i : l.k - n.b < 17 = omega (arith, a.from, a.to) in
      leads_as (choice n.a (lent_alternatives F n.b table)) (rw (k, e)) (λ r Z c. a.goes r Z (rw a.same at c))
      (rw (← j) (sure-each S n.b 17 (l.k - n.b) (both (not (span_tag n.a) && ltb n.b 1000000) (sure_each S n.b 17) z).1 i))

  pub leads_through : (n.kind ≡ 18) ⊎ (n.kind ≡ 19) → sure → l.k ≡ n.c → l.x ≡ x → l.p ≡ p → Y ≡ X → Leads F S N down up n x y s W m p X l Y
  unfolding format_of sure_of parse encode
  leads_through (inl k) h u v o w = leads_as (soft n.a (eqb n.b 1) (F n.c)) (rw k) (λ r Z c. rw (u, v, o, w) at c) (rw u (rw k at h))
  leads_through (inr k) h u v o w = leads_as (lax n.a (eqb n.b 1) (F n.c)) (rw k) (λ r Z c. rw (u, v, o, w) at c) (rw u (rw k at h))

---------------------------------------------------------------- lent alternatives

module _ (F : ℕ → Fmt) (tag k : ℕ) (table : List ℕ) (x y : ℕ) (s : ℕ → ℕ) (W : List ℕ) (m : ℕ) (p : Stand) (X : List ℕ) (l : Led) (Y : List ℕ) (i : Indexed) (indexed : Indexes tag x (length table) s W m p X i Y) where
  abbrev byte : ℕ
  byte = get_or table i.v 0

  pub lent_there : byte ≤ 16 → l.k ≡ k + byte → l.x ≡ x → l.p ≡ i.p → LeadsLent F tag k table x y s W m p X l Y
  lent_there h u v o =
      let e : nth (lent_alternatives F k table) i.v ≡ F (k + byte) = nth_lent F k table i.v indexed.below ∙ rw (le-leb byte 16 h) in
      record {
        goes = λ r Z c.
            let c' : Part (F (k + byte)) (x, y) s W m i.p Y r Z = rw (u, o) at c in
            picked s W m (x, y) tag (length table) (lent_alternatives F k table) p i r X Y Z (count-lent F k table) indexed c'.still (λ q j. rw e (c'.goes q j));
        same = v;
        from = omega (arith, u);
        to = omega (arith, u, h);
      }

  -- a byte without a node: the pen is refused
  pub lent_none : 16 < byte → l.k ≡ k → l.x ≡ x → l.p.off ≡ true → LeadsLent F tag k table x y s W m p X l Y
  unfolding parse
  lent_none h u v o =
      let e : nth (lent_alternatives F k table) i.v ≡ argument no_reader = nth_lent F k table i.v indexed.below ∙ rw (lt-leb byte 16 h) in
      record {
        goes = λ r Z c. picked s W m (x, y) tag (length table) (lent_alternatives F k table) p i r X Y Z (count-lent F k table) indexed (λ _. c.still o) (λ q j. rw e (off r Z (c.still o)));
        same = v;
        from = omega (arith, u);
        to = omega (arith, u);
      }
    where
      off : (r : Stand) (Z : List ℕ) → r.off ≡ true → Wrote (λ v. encode (type_of (argument no_reader)) v) (λ j. items s W m j) m i.p Y r Z (parse (argument no_reader) (x, y) (items s W m i.p.next))
      off r Z h = h

pub lent-down : (down up : List ℕ) (c : ℕ) → c ≡ 0 → down ≡ lent_table down up c
unfolding lent_table
lent-down down up c h = rw h

pub lent-up : (down up : List ℕ) (c : ℕ) → (c ≡ 0 → ⊥) → up ≡ lent_table down up c
unfolding lent_table
lent-up down up zero h = absurd (h refl)
lent-up down up (suc n) h = refl

---------------------------------------------------------------- refusals

module _ (F : ℕ → Fmt) (S : ℕ → Bool) (N down up : List ℕ) (n : Node) (x y : ℕ) (s : ℕ → ℕ) (W : List ℕ) (m : ℕ) (p : Stand) (X : List ℕ) (l : Led) (Y : List ℕ) where
  -- no part is written behind a refusal
  pub leads_off : Leads F S N down up n x y s W m p X l Y → l.p.off ≡ true → (Z : List ℕ) → Part (format_of F N down up n.kind n.a n.b n.c n.d n.e) (x, y) s W m p X refused Z
  leads_off a o Z = a.goes refused Z (writes_still _ _ _ _ _ _ _ _ o refl)

module _ (F : ℕ → Fmt) (tag k : ℕ) (table : List ℕ) (x y : ℕ) (s : ℕ → ℕ) (W : List ℕ) (m : ℕ) (p : Stand) (X : List ℕ) (l : Led) (Y : List ℕ) where
  pub lent_off : LeadsLent F tag k table x y s W m p X l Y → l.p.off ≡ true → (Z : List ℕ) → Part (choice tag (lent_alternatives F k table)) (x, y) s W m p X refused Z
  lent_off a o Z = a.goes refused Z (writes_still _ _ _ _ _ _ _ _ o refl)

module _ (F : ℕ → Fmt) (S : ℕ → Bool) (N down up : List ℕ) (n : Node) (x y : ℕ) (s : ℕ → ℕ) (W : List ℕ) (m : ℕ) (p : Stand) (X Y : List ℕ) where
  -- where the step is that of a lent table
  pub lent_leads : n.kind ≡ 15 → sure_of F S N n.kind n.a n.b n.c n.d n.e ≡ true → (table : List ℕ) → table ≡ lent_table down up n.c → (r : Result (Written Below) Refused) → LentTo F n.a n.b table x y s W m p X r Y → LeadsTo F S N down up n x y s W m p X r Y
  unfolding format_of
  lent_leads k h table e (Ok w) a = leads_lent F S N down up n x y s W m p X (led w) Y k h table e a
  lent_leads k h table e (Err _) a = λ Z. part_as (format_of F N down up n.kind n.a n.b n.c n.d n.e) (choice n.a (lent_alternatives F n.b table)) (x, y) s W m p X refused Z (rw (k, e)) (a Z)

-- a lent table's index that is refused
pub lent_lost : (F : ℕ → Fmt) (tag k : ℕ) (table : List ℕ) (x y : ℕ) (s : ℕ → ℕ) (W : List ℕ) (m : ℕ) (p : Stand) (X Y : List ℕ) (i : Indexed) → Indexes tag x (length table) s W m p X i Y → i.p.off ≡ true → (Z : List ℕ) → Part (choice tag (lent_alternatives F k table)) (x, y) s W m p X refused Z
lent_lost F tag k table x y s W m p X Y i a o Z = choice_off s W m (x, y) tag (length table) (lent_alternatives F k table) p i X Y (count-lent F k table) a o Z

-- an error is the refusal of the node
pub led_off : (F : ℕ → Fmt) (S : ℕ → Bool) (N down up : List ℕ) (n : Node) (x y : ℕ) (s : ℕ → ℕ) (W : List ℕ) (m : ℕ) (p : Stand) (X Y : List ℕ) (Q : Refused → Type 0) (r : Result (Written Below) Refused) → IsErrAnd r Q
    → ((Z : List ℕ) → Part (format_of F N down up n.kind n.a n.b n.c n.d n.e) (x, y) s W m p X refused Z) → LeadsTo F S N down up n x y s W m p X r Y
led_off F S N down up n x y s W m p X Y Q r k a = let z = err_from_is_err_and r k in rw z.1 a

pub lent_err : (F : ℕ → Fmt) (tag k : ℕ) (table : List ℕ) (x y : ℕ) (s : ℕ → ℕ) (W : List ℕ) (m : ℕ) (p : Stand) (X Y : List ℕ) (Q : Refused → Type 0) (r : Result (Written Below) Refused) → IsErrAnd r Q
    → ((Z : List ℕ) → Part (choice tag (lent_alternatives F k table)) (x, y) s W m p X refused Z) → LentTo F tag k table x y s W m p X r Y
lent_err F tag k table x y s W m p X Y Q r e a = let z = err_from_is_err_and r e in rw z.1 a
