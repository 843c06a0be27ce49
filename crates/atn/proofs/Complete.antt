-- Complete: bits that begin with the encoding of a value are read as that value's records, with no mark.
use mathlib.Core.Path.{◌≡◌, refl, ap, ◌∙◌}
use mathlib.Core.Option.{Option, none, some}
use mathlib.Core.Logic.{inl, inr}
use mathlib.Core.List.{List, [], ◌∷◌, ◌++◌}
use Prim.Native.Nat.{ℕ, suc, ◌+◌, ◌-◌, ◌*◌, ◌^◌, ◌≤◌, ◌<◌}
use native.Mathlib.Nat.{add-zero}
use native.Mathlib.Numerals.{add-one}
use native.Mathlib.Omega.{arith}
use lib.ListN.{length, length-append}
use borrow.Author.Tests.{le-leb, eq-eqb}
use Rattle.x691.specs.Bits.{bits_of, Spells}
use Rattle.x691.specs.Types.{Value, Values, Pick, extent, UNLISTED, Alternatives}
use Rattle.x691.specs.Encoding.{width, length_bits, size_bits, unit_bits, joined, if_any, flag, preamble, highest, index, encode, encode_members, encode_pick}
use Rattle.x691.specs.Range.{InRange, AllInRange, PickInRange}
use Rattle.x691.proofs.BitLaws.{spells_fst, spells_snd, length-bits_of}
use Rattle.atn.specs.Format.{Fmt, num, listed, name, text, span, any_span, skipped, small, null, noted, placed, marked, refuse, element, ext, seq, loose, choice, many, inner, soft, lax}
use Rattle.atn.specs.Format.{Flds, end, ◌⨾◌, ◌⨾?◌, or_note, unread, Alts, none_left, ◌∥◌, type_of, members_of, alternatives_of, Letters}
use Rattle.atn.specs.Reading.{Rec, rec, Ctx, Ans, ok, then, fork, guard, or, unless, lettered, spanned, fetch, pull, flags, unread_mark, unread_marks, close, softly, laxly, read, read_fields, read_choice}
use Rattle.atn.specs.Told.{tell, tell_fields, tell_pick}
use Rattle.x691.proofs.Widths.{width-holds, width-pow, index-highest}
use Rattle.atn.proofs.Steps.{then-nil, then_go, over_in, fetch_go, pull_go, pull-spelt, pull-bit, length-size, sized_go, length-units, letters_go, units_back, length_go, times_go, any_go}

pub length-preamble : (fs : Flds) (vs : Values (members_of fs)) → length (preamble (members_of fs) vs) ≡ flags fs
unfolding preamble flags
length-preamble end vs = refl
length-preamble (f ⨾ fs) vs = length-preamble fs vs.1
length-preamble (f ⨾? fs) vs = ap suc (length-preamble fs vs.1)
length-preamble (or_note t v s f fs) vs = ap suc (length-preamble fs vs.1)
length-preamble (unread t fs) vs = ap suc (length-preamble fs vs.1)

-- a part without values is absent
pub no_flag : (o : Option ⊥) → flag o ≡ 0
unfolding flag
no_flag none = refl
no_flag (some a) = absurd a

none-encoded : (h : ⊥ → List ℕ) (o : Option ⊥) → if_any h o ≡ []
unfolding if_any
none-encoded h none = refl
none-encoded h (some a) = absurd a

unread-nil : (b : ℕ → ℕ) (fs : Flds) (vs : Values (members_of fs)) (q : ℕ) → Spells b q (preamble (members_of fs) vs) → unread_marks fs b q ≡ 0
unfolding preamble Spells unread_marks unread_mark or
unread-nil b end vs q s = refl
unread-nil b (f ⨾ fs) vs q s = unread-nil b fs vs.1 q s
unread-nil b (f ⨾? fs) vs q s = unread-nil b fs vs.1 (suc q) s.1
unread-nil b (or_note t v y f fs) vs q s = unread-nil b fs vs.1 (suc q) s.1
unread-nil b (unread t fs) vs q s =
    let z : b q ≡ 0 = s.0 ∙ no_flag vs.0 in
    rw z (unread-nil b fs vs.1 (suc q) s.1)

module _ (b : ℕ → ℕ) where
  abbrev pub Completes : Fmt → Type 0
  Completes f = (v : Value (type_of f)) (x : Ctx) (e at : ℕ) → InRange (type_of f) v → Spells b at (encode (type_of f) v) → at + length (encode (type_of f) v) ≤ e
      → read f x b e at ≡ ok (at + length (encode (type_of f) v)) (tell f v x at) 0

  -- leaves that are a number of a fixed width
  number_go : (w v : ℕ) (k : ℕ → Ans) (e at : ℕ) → v < 2 ^ w → Spells b at (bits_of w v) → at + length (bits_of w v) ≤ e → pull b e at w k ≡ k v
  number_go w v k e at l s h = pull-spelt b e at w v k l s (omega (arith, length-bits_of w v))

  text_go : (t n : ℕ) (c : Letters) (lo hi : ℕ) → Completes (text t n c lo hi)
  unfolding read encode tell
  text_go t n c lo hi cs x e at g s h =
      let w : ℕ = width (n - 1) in
      let z : List ℕ = size_bits lo hi (length cs) in
      let a = length-append z (unit_bits n cs) in
      let i = length-size b e lo hi (length cs) in
      let j = length-units b e n cs in
      let q : ℕ = at + width (hi - lo) in
      let u : Spells b q (unit_bits n cs) = rw i at (spells_snd b at z (unit_bits n cs) s) in
      sized_go b e at lo hi (length cs) _ g.0 g.1 (spells_fst b at z (unit_bits n cs) s) (omega arith)
      ∙ letters_go b e n cs q _ g.2 u (omega arith)
      ∙ rw (units_back b n cs q g.2 u) (ap (λ (p : ℕ). ok p (lettered t c x.0 at cs) 0) (omega arith))

  -- w bits a unit
  length-string : (e w : ℕ) (cs : List ℕ) → length (unit_bits (2 ^ w) cs) ≡ length cs * w
  length-string e w cs = length-units b e (2 ^ w) cs ∙ rw (width-pow w)

  span_go : (t w lo hi : ℕ) → Completes (span t w lo hi)
  unfolding read encode tell
  span_go t w lo hi cs x e at g s h =
      let z : List ℕ = size_bits lo hi (length cs) in
      let r : List ℕ = unit_bits (2 ^ w) cs in
      let a = length-append z r in
      let i = length-size b e lo hi (length cs) in
      let j = length-string e w cs in
      let q : ℕ = at + width (hi - lo) in
      sized_go b e at lo hi (length cs) _ g.0 g.1 (spells_fst b at z r s) (omega arith)
      ∙ pull_go b e q (length cs * w) _ (omega arith)
      ∙ ap (λ (p : ℕ). ok p (spanned t x.0 at q (length cs * w)) 0) (omega arith)

  any_span_go : (t w : ℕ) → Completes (any_span t w)
  unfolding read encode tell
  any_span_go t w cs x e at g s h =
      let l : List ℕ = length_bits (length cs) in
      let r : List ℕ = unit_bits (2 ^ w) cs in
      let a = length-append l r in
      let j = length-string e w cs in
      length_go b e at (length cs) _ g.0 (spells_fst b at l r s) (omega arith)
      ∙ pull_go b e (at + length l) (length cs * w) _ (omega arith)
      ∙ ap (λ (p : ℕ). ok p (spanned t x.0 at (at + length l) (length cs * w)) 0) (omega arith)

  -- the presence bits of a sequence, then its fields
  fields_go : (fs : Flds) (vs : Values (members_of fs)) (x : Ctx) (e at : ℕ) (z : Ans) → Spells b at (preamble (members_of fs) vs ++ encode_members (members_of fs) vs)
      → at + length (preamble (members_of fs) vs ++ encode_members (members_of fs) vs) ≤ e
      → (Spells b at (preamble (members_of fs) vs) → Spells b (at + flags fs) (encode_members (members_of fs) vs) → at + flags fs + length (encode_members (members_of fs) vs) ≤ e
      → read_fields fs x b e at (at + flags fs) ≡ ok (at + flags fs + length (encode_members (members_of fs) vs)) (tell_fields fs vs x (at + flags fs)) 0)
      → fetch b e at (flags fs) (λ _. then (ok (at + flags fs) [] (unread_marks fs b at)) λ p. read_fields fs x b e at p) z
      ≡ ok (at + length (preamble (members_of fs) vs ++ encode_members (members_of fs) vs)) (tell_fields fs vs x (at + flags fs)) 0
  fields_go fs vs x e at z s h ih =
      let p : List ℕ = preamble (members_of fs) vs in
      let r : List ℕ = encode_members (members_of fs) vs in
      let a = length-append p r in
      let c = length-preamble fs vs in
      let ps = spells_fst b at p r s in
      fetch_go b e at (flags fs) _ z (omega arith)
      ∙ rw (unread-nil b fs vs at ps) (then-nil (at + flags fs) (λ q. read_fields fs x b e at q))
      ∙ ih ps (rw c at (spells_snd b at p r s)) (omega arith)
      ∙ ap (λ (q : ℕ). ok q (tell_fields fs vs x (at + flags fs)) 0) (omega arith)

  mutual
    unfolding read encode tell preamble index Spells fork guard close or unless softly laxly

    pub complete : (f : Fmt) → Completes f
    complete (num t lo hi) v x e at g s h = let w : ℕ = width (extent lo hi) in number_go w v _ e at (omega (arith, width-holds (extent lo hi))) s h ∙ rw (over_in (extent lo hi) v g, length-bits_of w v)
    complete (listed t hi xs) v x e at g s h = number_go (width hi) v _ e at (omega (arith, width-holds hi, g.0)) s h ∙ rw (le-leb v hi g.0, g.1, length-bits_of (width hi) v)
    complete (name t hi) v x e at g s h = let w : ℕ = width (extent 0 hi) in number_go w v _ e at (omega (arith, width-holds (extent 0 hi))) s h ∙ rw (le-leb v (extent 0 hi) g, length-bits_of w v)
    complete (text t n c lo hi) v x e at g s h = text_go t n c lo hi v x e at g s h
    complete (span t n lo hi) v x e at g s h = span_go t n lo hi v x e at g s h
    complete (any_span t n) v x e at g s h = any_span_go t n v x e at g s h
    complete (skipped m) v x e at g s h = absurd v
    complete (small m t) v x e at g s h = absurd v
    complete null v x e at g s h = rw add-zero
    complete (noted t y z f) v x e at g s h = then_go (λ p. read f x b e p) refl (complete f v x e at g s h)
    complete (placed t f) v x e at g s h = then_go (λ p. read f x b e p) refl (complete f v x e at g s h)
    complete (marked m) v x e at g s h = absurd v
    complete (refuse w m) v x e at g s h = absurd v
    complete (element f) v x e at g s h = complete f v (x.1, x.1) e at g s h
    complete (ext f k) v x e at g s h =
        pull-bit b e at 0 _ (omega arith) s.0 ∙ complete f v x e (at + 1) g (rw add-one s.1) (omega arith) ∙ ap (λ (p : ℕ). ok p (tell f v x (at + 1)) 0) (omega arith)
    complete (seq fs) v x e at g s h = fields_go fs v x e at _ s h (λ p r l. complete_fields fs v x e at (at + flags fs) g p r l)
    complete (loose fs) v x e at g s h = fields_go fs v x e at _ s h (λ p r l. complete_fields fs v x e at (at + flags fs) g p r l)
    complete (choice t fs) v x e at g s h =
        let ts : Alternatives = alternatives_of fs in
        let w : ℕ = width (highest ts) in
        let i : List ℕ = bits_of w (index ts v) in
        let a = length-append i (encode_pick ts v) in
        let c : length i ≡ w = length-bits_of w (index ts v) in
        pull-spelt b e at w (index ts v) _ (omega (arith, width-holds (highest ts), index-highest ts v)) (spells_fst b at i (encode_pick ts v) s) (omega arith)
        ∙ then_go (λ p. read_choice fs (index ts v) x b e p) refl (complete_pick fs v x e (at + w) g (rw c at (spells_snd b at i (encode_pick ts v) s)) (omega arith))
        ∙ ap (λ (p : ℕ). ok p (rec t x.0 (index ts v) 0 at ∷ tell_pick fs v x (at + w)) 0) (omega arith)
    complete (many lo hi f) v x e at g s h =
        let z : List ℕ = size_bits lo hi (length v) in
        let l : List ℕ = joined (λ a. encode (type_of f) a) v in
        let a = length-append z l in
        let i = length-size b e lo hi (length v) in
        sized_go b e at lo hi (length v) _ g.0 g.1 (spells_fst b at z l s) (omega arith)
        ∙ times_go (λ a. InRange (type_of f) a) b e (λ a. encode (type_of f) a) (λ i a q. tell f a (x.0, i) q) (λ i q. read f (x.0, i) b e q) (λ i a p y z u. complete f a (x.0, i) e p y z u) v 1 (at + width (hi - lo)) g.2 (rw i at (spells_snd b at z l s)) (omega arith)
        ∙ ap (λ (p : ℕ). ok p (tell (many lo hi f) v x at) 0) (omega arith)
    complete (inner f) v x e at g s h =
        let k : ℕ = length (encode (type_of f) v) in
        let l : List ℕ = length_bits k in
        let a = length-append l (encode (type_of f) v) in
        length_go b e at k _ g.0 (spells_fst b at l (encode (type_of f) v) s) (omega arith)
        ∙ pull_go b e (at + length l) k _ (omega arith)
        ∙ ap (close (at + length l + k)) (complete f v x (at + length l + k) (at + length l) g.1 (spells_snd b at l (encode (type_of f) v) s) (omega arith))
        ∙ rw (eq-eqb (at + length l + k) (at + length l + k) refl) (ap (λ (p : ℕ). ok p (tell f v x (at + length l)) 0) (omega arith))
    complete (soft m r f) v x e at g s h = ap (softly m r) (complete f v x e at g s h)
    complete (lax m j f) v x e at g s h = ap (laxly m j) (complete f v x e at g s h)

    pub complete_fields : (fs : Flds) (vs : Values (members_of fs)) (x : Ctx) (e q at : ℕ) → AllInRange (members_of fs) vs → Spells b q (preamble (members_of fs) vs) → Spells b at (encode_members (members_of fs) vs)
        → at + length (encode_members (members_of fs) vs) ≤ e → read_fields fs x b e q at ≡ ok (at + length (encode_members (members_of fs) vs)) (tell_fields fs vs x at) 0
    complete_fields end vs x e q at g w s h = rw add-zero
    complete_fields (f ⨾ fs) vs x e q at g w s h =
        let y : List ℕ = encode (type_of f) vs.0 in
        let r : List ℕ = encode_members (members_of fs) vs.1 in
        let a = length-append y r in
        then_go (λ p. read_fields fs x b e q p) (complete f vs.0 x e at g.0 (spells_fst b at y r s) (omega arith)) (complete_fields fs vs.1 x e q (at + length y) g.1 w (spells_snd b at y r s) (omega arith))
        ∙ ap (λ (p : ℕ). ok p (tell_fields (f ⨾ fs) vs x at) 0) (omega arith)
    complete_fields (f ⨾? fs) vs x e q at g w s h =
        let y : List ℕ = if_any (λ a. encode (type_of f) a) vs.0 in
        let r : List ℕ = encode_members (members_of fs) vs.1 in
        let a = length-append y r in
        rw w.0
        (any_go (λ a. InRange (type_of f) a) b e (λ a. encode (type_of f) a) (λ a p. tell f a x p) (λ p. read f x b e p) [] (λ p. read_fields fs x b e (suc q) p) (λ p. read_fields fs x b e (suc q) p) (λ a p y z u. complete f a x e p y z u) vs.0 at g.0
        (spells_fst b at y r s) (omega arith) (complete_fields fs vs.1 x e (suc q) (at + length y) g.1 w.1 (spells_snd b at y r s) (omega arith)) (λ z. z)
        ∙ ap (λ (p : ℕ). ok p (tell_fields (f ⨾? fs) vs x at) 0) (omega arith))
    complete_fields (or_note t v z f fs) vs x e q at g w s h =
        let y : List ℕ = if_any (λ a. encode (type_of f) a) vs.0 in
        let r : List ℕ = encode_members (members_of fs) vs.1 in
        let a = length-append y r in
        let n : Rec = rec t x.0 v z at in
        rw w.0
        (any_go (λ a. InRange (type_of f) a) b e (λ a. encode (type_of f) a) (λ a p. tell f a x p) (λ p. read f x b e p) (n ∷ []) (λ p. then (ok p (n ∷ []) 0) λ u. read_fields fs x b e (suc q) u) (λ p. read_fields fs x b e (suc q) p) (λ a p y z u. complete f a x e p y z u) vs.0 at g.0
        (spells_fst b at y r s) (omega arith) (complete_fields fs vs.1 x e (suc q) (at + length y) g.1 w.1 (spells_snd b at y r s) (omega arith)) (λ z. then_go (λ u. read_fields fs x b e (suc q) u) refl z)
        ∙ ap (λ (p : ℕ). ok p (tell_fields (or_note t v z f fs) vs x at) 0) (omega arith))
    complete_fields (unread t fs) vs x e q at g w s h =
        let z : b q ≡ 0 = w.0 ∙ no_flag vs.0 in
        let i : if_any (λ v. encode UNLISTED v) vs.0 ≡ [] = none-encoded (λ v. encode UNLISTED v) vs.0 in
        rw (z, i) (complete_fields fs vs.1 x e (suc q) at g.1 w.1 (rw i at s) (rw i at h))

    pub complete_pick : (fs : Alts) (c : Pick (alternatives_of fs)) (x : Ctx) (e at : ℕ) → PickInRange (alternatives_of fs) c → Spells b at (encode_pick (alternatives_of fs) c) → at + length (encode_pick (alternatives_of fs) c) ≤ e
        → read_choice fs (index (alternatives_of fs) c) x b e at ≡ ok (at + length (encode_pick (alternatives_of fs) c)) (tell_pick fs c x at) 0
    complete_pick none_left c x e at g s h = absurd c
    complete_pick (f ∥ fs) (inl v) x e at g s h = complete f v x e at g s h
    complete_pick (f ∥ fs) (inr c) x e at g s h = complete_pick fs c x e at g s h
