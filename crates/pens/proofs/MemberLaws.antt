-- How a sequence is written: the presence bits stand before the members, and each is put when its member is met.
use mathlib.Core.Path.{◌≡◌, refl, sym, ap, ◌∙◌}
use mathlib.Core.Bool.{true, false}
use mathlib.Core.Option.{Option, none, some}
use mathlib.Core.List.{List, [], ◌∷◌, ◌++◌}
use Prim.Native.Nat.{ℕ, suc, ◌+◌, ◌≤◌}
use native.Mathlib.Omega.{arith}
use lib.ListN.{length, drop, length-append}
use Rattle.x691.specs.Types.{Value, Values}
use Rattle.x691.specs.Encoding.{flag, if_any, preamble, encode, encode_members}
use Rattle.atn.specs.Format.{Fmt, seq, loose, Flds, end, ◌⨾◌, ◌⨾?◌, or_note, unread, type_of, members_of}
use Rattle.atn.specs.Reading.{Ctx, flags}
use Rattle.atn.proofs.Complete.{length-preamble}
use Rattle.bit_writer.specs.Put.{set_bit, set_bits}
use Rattle.bit_writer.proofs.PutLaws.{set_bits-join, set_bits_under}
use Rattle.record_lists.specs.Items.{Item, plain}
use Rattle.record_lists.specs.Clear.{firsts}
use Rattle.record_lists.specs.Parse.{Got, no, got, opens, begins, feed, turn, perhaps, parse, parse_fields}
use Rattle.pens.specs.Stand.{Stand}
use Rattle.pens.specs.Rest.{items}
use Rattle.pens.specs.Writes.{limit, Took, Wrote, Writes, Skips, Part, TookMembers, WroteMembers, WritesMembers, Members}

-- bits put before others
pub set_bits_swap : (s : List ℕ) (a c : ℕ) (xs ys : List ℕ) → a + length xs ≤ c → set_bits (set_bits s c ys) a xs ≡ set_bits (set_bits s a xs) c ys
unfolding set_bits
set_bits_swap s a c [] ys h = refl
set_bits_swap s a c (x ∷ xs) ys h = ap (λ (l : List ℕ). set_bits l (suc a) xs) (set_bits_under s a c x ys (omega arith)) ∙ set_bits_swap (set_bit s a x) (suc a) c xs ys (omega arith)

---------------------------------------------------------------- members one after another, whatever their values

module _ {A B C : Type 0} (enc : A → List ℕ) (pre enc' : B → List ℕ) (pre'' enc'' : C → List ℕ) (g : List Item → Got A) (h : List Item → Got B) (c : A → B → C) (T : ℕ → List Item) (m fl fl' : ℕ) (p q r : Stand) (U₀ X Y Z : List ℕ) where
  -- bits F put from fl on, with no member, before all
  module _ (F : List ℕ) (flagged : fl + length F ≤ limit → X ≡ set_bits U₀ fl F) (moved : fl' ≡ fl + length F) (pres : (a : A) (b : B) → pre'' (c a b) ≡ F ++ pre b) (joins : (a : A) (b : B) → enc'' (c a b) ≡ enc a ++ enc' b) where
    took_both : (a : A) (b : B) (S U : List Item) → Took enc T m p X q Y a S → TookMembers fl' pre enc' T m q Y r Z b U → TookMembers fl pre'' enc'' T m p U₀ r Z (c a b) U
    took_both a b S U t u =
        record {
          on = u.on;
          left = u.left;
          fits = u.fits;
          wrote = λ k l.
              let n = ap (λ (z : List ℕ). length z) (joins a b) ∙ length-append (enc a) (enc' b) in
              let o = ap (λ (z : List ℕ). length z) (pres a b) ∙ length-append F (pre b) in
              let i = t.wrote (omega (arith, l, n)) in
              let j = u.wrote (omega (arith, k, o, moved, i.0)) (omega (arith, l, n, i.0)) in
              let v = flagged (omega (arith, k, l, o)) in (
                omega (arith, n, i.0, j.0),
                j.1 ∙ rw (i.1, v, i.0, moved, pres a b, joins a b)
                    (ap (λ (z : List ℕ). set_bits z (p.at + length (enc a)) (enc' b)) (set_bits_swap (set_bits U₀ fl F) (fl + length F) p.at (pre b) (enc a) (omega (arith, k, o)))
                    ∙ ap (λ (z : List ℕ). set_bits (set_bits z p.at (enc a)) (p.at + length (enc a)) (enc' b)) (sym (set_bits-join U₀ fl F (pre b)))
                    ∙ sym (set_bits-join (set_bits U₀ fl (F ++ pre b)) p.at (enc a) (enc' b))),
              );
        }

    then_members : Writes enc g T m p X q Y → WritesMembers fl' pre enc' h T m q Y r Z → WritesMembers fl pre'' enc'' (λ R. feed (g R) λ a S. turn (λ b. c a b) (h S)) T m p U₀ r Z
    unfolding feed turn
    then_members x y = record { still = λ z. y.still (x.still z); goes = λ z l. go (g (T p.next)) (x.goes z l) }
      where
        more : (a : A) (S : List Item) → Took enc T m p X q Y a S → (k : Got B) → WroteMembers fl' pre enc' T m q Y r Z k → WroteMembers fl pre'' enc'' T m p U₀ r Z (turn (λ b. c a b) k)
        more a S t no w = w
        more a S t (got b U) w = took_both a b S U t w

        go : (k : Got A) → Wrote enc T m p X q Y k → WroteMembers fl pre'' enc'' T m p U₀ r Z (feed k λ a S. turn (λ b. c a b) (h S))
        go no w = y.still w
        go (got a S) w = more a S w (h S) (rw w.left (y.goes w.on w.fits))

-- a member that is absent: bits F from fl on, and so many records passed
module _ {B C : Type 0} (pre enc' : B → List ℕ) (pre'' enc'' : C → List ℕ) (h : List Item → Got B) (c : B → C) (T : ℕ → List Item) (m fl fl' k : ℕ) (p q r : Stand) (U₀ X Z F : List ℕ) where
  skip-member : (fl + length F ≤ limit → X ≡ set_bits U₀ fl F) → fl' ≡ fl + length F → ((b : B) → pre'' (c b) ≡ F ++ pre b) → ((b : B) → enc'' (c b) ≡ enc' b)
      → q.off ≡ p.off → q.at ≡ p.at → (p.off ≡ false → p.next ≤ m → (q.next ≤ m) × (drop k (T p.next) ≡ T q.next))
      → WritesMembers fl' pre enc' h T m q X r Z → WritesMembers fl pre'' enc'' (λ R. turn c (h (drop k R))) T m p U₀ r Z
  unfolding turn
  skip-member flagged moved pres same o s t y = record { still = λ z. y.still (o ∙ z); goes = λ z l. rw (t z l).1 (go (h (T q.next)) (y.goes (o ∙ z) (t z l).0)) }
    where
      go : (k : Got B) → WroteMembers fl' pre enc' T m q X r Z k → WroteMembers fl pre'' enc'' T m p U₀ r Z (turn c k)
      go no w = w
      go (got b U) w =
          record {
            on = w.on;
            left = w.left;
            fits = w.fits;
            wrote = λ k l.
                let n = ap (λ (z : List ℕ). length z) (same b) in
                let i = ap (λ (z : List ℕ). length z) (pres b) ∙ length-append F (pre b) in
                let j = w.wrote (omega (arith, k, i, moved, s)) (omega (arith, l, n, s)) in
                (omega (arith, n, j.0, s), j.1 ∙ rw (flagged (omega (arith, k, l, i)), moved, s, pres b, same b) (ap (λ (z : List ℕ). set_bits z p.at (enc' b)) (sym (set_bits-join U₀ fl F (pre b)))));
          }

---------------------------------------------------------------- members by their form

module _ (b : ℕ → ℕ) (W : List ℕ) (m : ℕ) (x : Ctx) (fl : ℕ) (p q r : Stand) (U₀ X Y Z : List ℕ) where
  abbrev T : ℕ → List Item
  T i = items b W m i

  pub members_end : Members fl end x b W m p X p X
  unfolding parse_fields preamble encode set_bits
  members_end = record { still = λ z. z; goes = λ z l. record { on = z; left = refl; fits = l; wrote = λ _ _. (omega arith, refl) } }

  pub members_must : (f : Fmt) (fs : Flds) → Part f x b W m p X q Y → Members fl fs x b W m q Y r Z → Members fl (f ⨾ fs) x b W m p X r Z
  unfolding parse_fields preamble encode set_bits
  members_must f fs a c =
      then_members (λ v. encode (type_of f) v) (λ vs. preamble (members_of fs) vs) (λ vs. encode_members (members_of fs) vs) (λ vs. preamble (members_of (f ⨾ fs)) vs) (λ vs. encode_members (members_of (f ⨾ fs)) vs)
      (λ R. parse f x R) (λ R. parse_fields fs x R) (λ v vs. (v, vs)) T m fl fl p q r X X Y Z [] (λ _. refl) (omega arith) (λ _ _. refl) (λ _ _. refl) a c

  -- one that is there
  some-member : (f : Fmt) (fs : Flds) → (fl ≤ limit → X ≡ set_bit U₀ fl 1) → Part f x b W m p X q Y → Members (fl + 1) fs x b W m q Y r Z
      → WritesMembers fl (λ (vs : Option (Value (type_of f)) × Values (members_of fs)). flag vs.0 ∷ preamble (members_of fs) vs.1) (λ (vs : Option (Value (type_of f)) × Values (members_of fs)). if_any (λ v. encode (type_of f) v) vs.0 ++ encode_members (members_of fs) vs.1) (λ R. feed (parse f x R) λ a S. turn (λ vs. (some a, vs)) (parse_fields fs x S)) T m p U₀ r Z
  unfolding set_bits flag if_any
  some-member f fs s a c =
      then_members (λ v. encode (type_of f) v) (λ vs. preamble (members_of fs) vs) (λ vs. encode_members (members_of fs) vs) (λ (vs : Option (Value (type_of f)) × Values (members_of fs)). flag vs.0 ∷ preamble (members_of fs) vs.1) (λ (vs : Option (Value (type_of f)) × Values (members_of fs)). if_any (λ v. encode (type_of f) v) vs.0 ++ encode_members (members_of fs) vs.1)
      (λ R. parse f x R) (λ R. parse_fields fs x R) (λ v vs. (some v, vs)) T m fl (fl + 1) p q r U₀ X Y Z (1 ∷ []) (λ l. s (omega (arith, l))) refl (λ _ _. refl) (λ _ _. refl) a c

  -- one that is not: k records stand for it
  none-member : {A : Type 0} (enc : A → List ℕ) (fs : Flds) (k : ℕ) → (fl ≤ limit → X ≡ set_bit U₀ fl 0) → q.off ≡ p.off → q.at ≡ p.at → (p.off ≡ false → p.next ≤ m → (q.next ≤ m) × (drop k (T p.next) ≡ T q.next))
      → Members (fl + 1) fs x b W m q X r Z
      → WritesMembers fl (λ (vs : Option A × Values (members_of fs)). flag vs.0 ∷ preamble (members_of fs) vs.1) (λ (vs : Option A × Values (members_of fs)). if_any enc vs.0 ++ encode_members (members_of fs) vs.1) (λ R. turn (λ vs. (none, vs)) (parse_fields fs x (drop k R))) T m p U₀ r Z
  unfolding set_bits flag if_any
  none-member {A} enc fs k s o e t c =
      skip-member (λ vs. preamble (members_of fs) vs) (λ vs. encode_members (members_of fs) vs) (λ (vs : Option A × Values (members_of fs)). flag vs.0 ∷ preamble (members_of fs) vs.1) (λ (vs : Option A × Values (members_of fs)). if_any enc vs.0 ++ encode_members (members_of fs) vs.1)
      (λ R. parse_fields fs x R) (λ vs. (none, vs)) T m fl (fl + 1) k p q r U₀ X Z (0 ∷ []) (λ l. s (omega (arith, l))) refl (λ _. refl) (λ _. refl) o e t c

  absent-member : {A : Type 0} (enc : A → List ℕ) (fs : Flds) → (fl ≤ limit → X ≡ set_bit U₀ fl 0) → Members (fl + 1) fs x b W m p X r Z
      → WritesMembers fl (λ (vs : Option A × Values (members_of fs)). flag vs.0 ∷ preamble (members_of fs) vs.1) (λ (vs : Option A × Values (members_of fs)). if_any enc vs.0 ++ encode_members (members_of fs) vs.1) (λ R. turn (λ vs. (none, vs)) (parse_fields fs x R)) T m p U₀ r Z
  unfolding set_bits flag if_any
  absent-member {A} enc fs s c =
      skip-member (λ vs. preamble (members_of fs) vs) (λ vs. encode_members (members_of fs) vs) (λ (vs : Option A × Values (members_of fs)). flag vs.0 ∷ preamble (members_of fs) vs.1) (λ (vs : Option A × Values (members_of fs)). if_any enc vs.0 ++ encode_members (members_of fs) vs.1)
      (λ R. parse_fields fs x R) (λ vs. (none, vs)) T m fl (fl + 1) 0 p p r U₀ X Z (0 ∷ []) (λ l. s (omega (arith, l))) refl (λ _. refl) (λ _. refl) refl refl (λ _ l. (l, refl)) c

  -- optional: there if the next item has one of its first tags
  pub members_some : (f : Fmt) (fs : Flds) → opens (firsts f) (T p.next) ≡ true → (fl ≤ limit → X ≡ set_bit U₀ fl 1) → Part f x b W m p X q Y → Members (fl + 1) fs x b W m q Y r Z → Members fl (f ⨾? fs) x b W m p U₀ r Z
  unfolding parse_fields perhaps preamble encode
  members_some f fs h s a c = let w = some-member f fs s a c in record { still = w.still; goes = λ z l. rw h (w.goes z l) }

  pub members_none : (f : Fmt) (fs : Flds) → opens (firsts f) (T p.next) ≡ false → (fl ≤ limit → X ≡ set_bit U₀ fl 0) → Members (fl + 1) fs x b W m p X r Z → Members fl (f ⨾? fs) x b W m p U₀ r Z
  unfolding parse_fields perhaps preamble encode
  members_none f fs h s c = let w = absent-member (λ v. encode (type_of f) v) fs s c in record { still = w.still; goes = λ z l. rw h (w.goes z l) }

  -- with a note where it is absent
  pub members_noted : (t y s : ℕ) (f : Fmt) (fs : Flds) → begins (plain t x.0 y s) (T p.next) ≡ true → (fl ≤ limit → X ≡ set_bit U₀ fl 0)
      → q.off ≡ p.off → q.at ≡ p.at → (p.off ≡ false → p.next ≤ m → (q.next ≤ m) × (drop 1 (T p.next) ≡ T q.next))
      → Members (fl + 1) fs x b W m q X r Z → Members fl (or_note t y s f fs) x b W m p U₀ r Z
  unfolding parse_fields perhaps preamble encode
  members_noted t y s f fs h i o e n c = let w = none-member (λ v. encode (type_of f) v) fs 1 i o e n c in record { still = w.still; goes = λ z l. rw h (w.goes z l) }

  pub members_unnoted : (t y s : ℕ) (f : Fmt) (fs : Flds) → begins (plain t x.0 y s) (T p.next) ≡ false → (fl ≤ limit → X ≡ set_bit U₀ fl 1)
      → Part f x b W m p X q Y → Members (fl + 1) fs x b W m q Y r Z → Members fl (or_note t y s f fs) x b W m p U₀ r Z
  unfolding parse_fields perhaps preamble encode
  members_unnoted t y s f fs h i a c = let w = some-member f fs i a c in record { still = w.still; goes = λ z l. rw h (w.goes z l) }

  pub members_unread : (t : ℕ) (fs : Flds) → (fl ≤ limit → X ≡ set_bit U₀ fl 0) → Members (fl + 1) fs x b W m p X r Z → Members fl (unread t fs) x b W m p U₀ r Z
  unfolding parse_fields preamble encode
  members_unread t fs s c = absent-member (λ v. absurd v) fs s c

-- a sequence: its presence bits are left out, its members put behind them
module _ (b : ℕ → ℕ) (W : List ℕ) (m : ℕ) (x : Ctx) (p q r : Stand) (X Z : List ℕ) (fs : Flds) (fl : ℕ) where
  -- the presence bits stand at the pen's place, where it counts
  sequence : (p.at ≤ limit → fl ≡ p.at) → Skips p (flags fs) q → Members fl fs x b W m q X r Z
      → Writes (λ vs. preamble (members_of fs) vs ++ encode_members (members_of fs) vs) (λ R. parse_fields fs x R) (λ i. items b W m i) m p X r Z
  sequence f s c = record { still = λ z. c.still (s.off_stays ∙ z); goes = λ z l. go (parse_fields fs x (items b W m p.next)) (rw (← s.next_stays) (c.goes (s.off_stays ∙ z) (omega (arith, s.next_stays, l)))) }
    where
      go : (k : Got (Values (members_of fs))) → WroteMembers fl (λ vs. preamble (members_of fs) vs) (λ vs. encode_members (members_of fs) vs) (λ i. items b W m i) m q X r Z k
          → Wrote (λ vs. preamble (members_of fs) vs ++ encode_members (members_of fs) vs) (λ i. items b W m i) m p X r Z k
      go no w = w
      go (got vs S) w =
          record {
            on = w.on;
            left = w.left;
            fits = w.fits;
            wrote = λ l.
                let n = length-append (preamble (members_of fs) vs) (encode_members (members_of fs) vs) in
                let k = length-preamble fs vs in
                let i = s.moves (omega (arith, l)) in
                let y = f (omega (arith, l)) in
                let j = w.wrote (omega (arith, k, i, y)) (omega (arith, l, n, k, i)) in
                let e : q.at ≡ p.at + length (preamble (members_of fs) vs) = i ∙ ap (λ (z : ℕ). p.at + z) (sym k) in
                (omega (arith, n, k, i, j.0), j.1 ∙ rw (e, y) (sym (set_bits-join X p.at (preamble (members_of fs) vs) (encode_members (members_of fs) vs))));
          }

  pub seq_part : (p.at ≤ limit → fl ≡ p.at) → Skips p (flags fs) q → Members fl fs x b W m q X r Z → Part (seq fs) x b W m p X r Z
  unfolding parse encode
  seq_part f s c = sequence f s c

  pub loose_part : (p.at ≤ limit → fl ≡ p.at) → Skips p (flags fs) q → Members fl fs x b W m q X r Z → Part (loose fs) x b W m p X r Z
  unfolding parse encode
  loose_part f s c = sequence f s c
