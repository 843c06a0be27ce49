-- The records of a message in the frame show what its value shows, and its spans lie inside.
use mathlib.Core.Path.{◌≡◌, refl, ◌∙◌}
use mathlib.Core.Bool.{Bool, true, not, ◌&&◌, ◌||◌}
use mathlib.Core.Option.{Option, none, some}
use mathlib.Core.Logic.{inl, inr}
use mathlib.Core.List.{List, [], ◌∷◌, ◌++◌}
use Prim.Native.Nat.{ℕ, zero, suc, ◌+◌, ◌-◌, ◌*◌, ◌/◌, ◌^◌, ◌≤◌, ◌<◌}
use native.Mathlib.Omega.{arith}
use native.Mathlib.Numerals.{add-one}
use lib.ListN.{length, drop, length-append}
use lib.Dec.{leb}
use borrow.Author.Tests.{not-true, le-leb, leb-true}
use Rattle.x691.specs.Bits.{bits_of, Spells, stretch}
use Rattle.x691.specs.Types.{Value, Values, Pick}
use Rattle.x691.specs.Encoding.{width, highest, length_bits, size_bits, unit_bits, joined, if_any, preamble, encode, encode_members, encode_pick, index}
use Rattle.x691.specs.Range.{member, All, IfAny, InRange, AllInRange, PickInRange}
use Rattle.x691.proofs.BitLaws.{length-bits_of, spells_fst, spells_snd}
use Rattle.atn.specs.Format.{Fmt, num, listed, name, text, span, any_span, skipped, small, null, noted, placed, marked, refuse, element, ext, seq, loose, choice, many, inner, soft, lax}
use Rattle.atn.specs.Format.{Flds, end, ◌⨾◌, ◌⨾?◌, or_note, unread, Alts, none_left, ◌∥◌, type_of, members_of, alternatives_of, Letters, first, numeric}
use Rattle.atn.specs.Reading.{Rec, rec, Ctx, word, pack, packs, coded, spaced, none_above, lettered, flags}
use Rattle.atn.specs.Reading as reading
use Rattle.atn.specs.Told.{tell_any, tell_all, tell, tell_fields, tell_pick}
use Rattle.atn.proofs.Inverse.{both}
use Rattle.atn.proofs.Steps.{length-size}
use Rattle.atn.proofs.Complete.{length-preamble}
use Rattle.record_lists.specs.Items.{Item, plain, look, inside}
use Rattle.record_lists.specs.Shown.{packed, spelt, in_letters, spanned, show_any, show_all, shown, shown_fields, shown_pick}
use Rattle.record_lists.specs.Clear.{apart, solid, solid_fields, firsts, firsts_fields, ahead, clear, clear_letters, clear_fields, clear_alts}
use Rattle.record_lists.proofs.First.{length-span}

stretch-spelt : (b : ℕ → ℕ) (q : ℕ) (xs : List ℕ) → Spells b q xs → stretch b q (length xs) ≡ xs
unfolding stretch Spells
stretch-spelt b q [] s = refl
stretch-spelt b q (x ∷ xs) s = rw (s.0, stretch-spelt b (suc q) xs s.1)

-- the records R show S, and no span of theirs goes past the e bits
pub record Seen (sp : ℕ → Bool) (b : ℕ → ℕ) (e : ℕ) (R : List Rec) (S : List Item) : Type 0 where
  pub looks : look sp b R ≡ S
  pub within : inside sp e R ≡ true

none_above_lem : (n : ℕ) (us : List ℕ) → n ≤ 11 → All (λ u. u < n) us → none_above 10 us ≡ true
unfolding none_above
none_above_lem n [] l a = refl
none_above_lem n (u ∷ us) l a = rw (le-leb u 10 (omega (arith, a.0)), none_above_lem n us l a.1)

module _ (sp : ℕ → Bool) (b : ℕ → ℕ) (e : ℕ) where
  abbrev See : List Rec → List Item → Type 0
  See R S = Seen sp b e R S

  seen_nil : See [] []
  unfolding look inside
  seen_nil = record { looks = refl; within = refl }

  look-join : (R U : List Rec) → look sp b (R ++ U) ≡ look sp b R ++ look sp b U
  unfolding look
  look-join [] U = refl
  look-join (rec t m v s q ∷ R) U = rw (look-join R U)

  inside-join : (R U : List Rec) → inside sp e R ≡ true → inside sp e U ≡ true → inside sp e (R ++ U) ≡ true
  unfolding inside
  inside-join [] U x y = y
  inside-join (rec t m v s q ∷ R) U x y =
      let c = both (not (sp t) || leb (v + s) e) (inside sp e R) x in
      rw c.0 (inside-join R U c.1 y)

  seen_join : {R U : List Rec} {S T : List Item} → See R S → See U T → See (R ++ U) (S ++ T)
  seen_join {R} {U} x y = record { looks = look-join R U ∙ rw (x.looks, y.looks); within = inside-join R U x.within y.within }

  seen_one : (t m v s q : ℕ) {R : List Rec} {S : List Item} → not (sp t) ≡ true → See R S → See (rec t m v s q ∷ R) (plain t m v s ∷ S)
  unfolding look inside
  seen_one t m v s q h x = record { looks = rw (not-true (sp t) h, x.looks); within = rw (not-true (sp t) h, x.within) }

  seen_packs : (t m q n k : ℕ) (cs : List ℕ) → not (sp t) ≡ true → See (packs t m q n k cs) (packed t m n k cs)
  unfolding packs packed
  seen_packs t m q n zero cs h = seen_nil
  seen_packs t m q n (suc k) cs h = seen_one t m (reading.octets 8 cs) n q h (seen_packs t m q n k (drop 8 cs) h)

  seen_pack : (t m q : ℕ) (cs : List ℕ) → not (sp t) ≡ true → See (pack t m q cs) (spelt t m cs)
  unfolding pack spelt
  seen_pack t m q cs h = seen_packs t m q (length cs) ((length cs + 7) / 8) cs h

  seen_letters : (t n m q : ℕ) (c : Letters) (us : List ℕ) → not (sp t) ≡ true → clear_letters sp n c ≡ true → All (λ u. u < n) us → See (lettered t c m q us) (in_letters t c m us)
  seen_letters t n m q (first c) us h k a = seen_pack t m q (coded c us) h
  seen_letters t n m q (numeric v) us h k a =
      let d = both (not (sp v)) (leb n 11) k in
      rw (none_above_lem n us (leb-true n 11 d.1) a) (seen_join (seen_pack t m q (coded 48 us) h) (seen_pack v m q (spaced us) d.0))

  seen_span : (t m at q n : ℕ) (xs : List ℕ) → sp t ≡ true → length xs ≡ n → Spells b q xs → q + n ≤ e → See (reading.spanned t m at q n) (spanned t m xs)
  unfolding look inside reading.spanned spanned
  seen_span t m at q zero [] h l s k = seen_nil
  seen_span t m at q (suc n) [] h l s k = absurd (omega (arith, l))
  seen_span t m at q zero (x ∷ xs) h l s k = absurd (omega (arith, l))
  seen_span t m at q (suc n) (x ∷ xs) h l s k =
      let z : stretch b q (suc n) ≡ x ∷ xs = rw (← l) (stretch-spelt b q (x ∷ xs) s) in
      record { looks = rw (h, z); within = rw (h, le-leb (q + suc n) e k) }

  seen_all : {A : Type 0} (P : A → Type 0) (enc : A → List ℕ) (rc : ℕ → A → ℕ → List Rec) (h : ℕ → A → List Item) (vs : List A) (i at : ℕ)
      → ((i : ℕ) (a : A) (q : ℕ) → P a → Spells b q (enc a) → q + length (enc a) ≤ e → See (rc i a q) (h i a))
      → All P vs → Spells b at (joined enc vs) → at + length (joined enc vs) ≤ e → See (tell_all enc rc i vs at) (show_all h i vs)
  unfolding joined tell_all show_all
  seen_all P enc rc h [] i at ih g s l = seen_nil
  seen_all P enc rc h (a ∷ vs) i at ih g s l =
      let w = length-append (enc a) (joined enc vs) in
      seen_join (ih i a at g.0 (spells_fst b at (enc a) (joined enc vs) s) (omega arith))
      (seen_all P enc rc h vs (suc i) (at + length (enc a)) ih g.1 (spells_snd b at (enc a) (joined enc vs) s) (omega arith))

  -- an optional part, whose absence is told by Z and shown by Y
  seen_any : {A : Type 0} (P : A → Type 0) (enc : A → List ℕ) (rc : A → List Rec) (h : A → List Item) (Z : List Rec) (Y : List Item) (o : Option A) (at : ℕ) → See Z Y
      → ((a : A) → P a → Spells b at (enc a) → at + length (enc a) ≤ e → See (rc a) (h a)) → IfAny P o → Spells b at (if_any enc o) → at + length (if_any enc o) ≤ e → See (tell_any rc Z o) (show_any h Y o)
  unfolding if_any tell_any show_any
  seen_any P enc rc h Z Y none at z ih g s l = z
  seen_any P enc rc h Z Y (some a) at z ih g s l = ih a g s l

  -- behind the presence bits
  members_there : (fs : Flds) (vs : Values (members_of fs)) (at : ℕ) → Spells b at (preamble (members_of fs) vs ++ encode_members (members_of fs) vs)
      → at + length (preamble (members_of fs) vs ++ encode_members (members_of fs) vs) ≤ e
      → Spells b (at + flags fs) (encode_members (members_of fs) vs) × (at + flags fs + length (encode_members (members_of fs) vs) ≤ e)
  members_there fs vs at s l =
      let p : List ℕ = preamble (members_of fs) vs in
      let r : List ℕ = encode_members (members_of fs) vs in
      let n = length-preamble fs vs in
      (rw n at (spells_snd b at p r s), omega (arith, length-append p r))

  mutual
    unfolding tell encode shown clear Spells pack spelt if_any

    pub seen : (f : Fmt) (v : Value (type_of f)) (x : Ctx) (G : List ℕ) (at : ℕ) → clear sp f G ≡ true → InRange (type_of f) v → Spells b at (encode (type_of f) v) → at + length (encode (type_of f) v) ≤ e
        → See (tell f v x at) (shown f v x)
    seen (num t lo hi) v x G at c g s l = seen_one t x.0 (word (lo + v)) 0 at (both (not (sp t)) (leb lo 18446744073709551616) c).0 seen_nil
    seen (listed t hi xs) v x G at c g s l = seen_one t x.0 v 0 at c seen_nil
    seen (name t hi) v x G at c g s l = seen_one t x.0 v 0 at c seen_nil
    seen (text t n k lo hi) v x G at c g s l =
        let d = both (not (sp t)) (leb 1 lo && clear_letters sp n k) c in
        seen_letters t n x.0 at k v d.0 (both (leb 1 lo) (clear_letters sp n k) d.1).1 g.2
    seen (span t w lo hi) v x G at c g s l =
        let z : List ℕ = size_bits lo hi (length v) in
        let r : List ℕ = unit_bits (2 ^ w) v in
        let i = length-size b e lo hi (length v) in
        seen_span t x.0 at (at + width (hi - lo)) (length v * w) r (both (sp t) (leb 1 lo && leb 1 w) c).0 (length-span w v) (rw i at (spells_snd b at z r s)) (omega (arith, length-append z r, length-span w v))
    seen (any_span t w) v x G at c g s l =
        let z : List ℕ = length_bits (length v) in
        let r : List ℕ = unit_bits (2 ^ w) v in
        seen_span t x.0 at (at + length z) (length v * w) r (both (sp t) (leb 1 w && not (member t G)) c).0 (length-span w v) (spells_snd b at z r s) (omega (arith, length-append z r, length-span w v))
    seen (skipped m) v x G at c g s l = absurd v
    seen (small m t) v x G at c g s l = absurd v
    seen null v x G at c g s l = seen_nil
    seen (noted t y r f) v x G at c g s l = let d = both (not (sp t)) (clear sp f G) c in seen_one t x.0 y r at d.0 (seen f v x G at d.1 g s l)
    seen (placed t f) v x G at c g s l = let d = both (not (sp t)) (clear sp f G) c in seen_one t x.0 x.1 0 at d.0 (seen f v x G at d.1 g s l)
    seen (marked m) v x G at c g s l = absurd v
    seen (refuse w m) v x G at c g s l = absurd v
    seen (element f) v x G at c g s l = seen f v (x.1, x.1) G at c g s l
    seen (ext f h) v x G at c g s l = seen f v x G (at + 1) c g (rw add-one s.1) (omega arith)
    seen (seq fs) v x G at c g s l = let m = members_there fs v at s l in seen_fields fs v x G (at + flags fs) c g m.0 m.1
    seen (loose fs) v x G at c g s l = let m = members_there fs v at s l in seen_fields fs v x G (at + flags fs) c g m.0 m.1
    seen (choice t fs) v x G at c g s l =
        let d = both (not (sp t)) (clear_alts sp fs G) c in
        let w : ℕ = width (highest (alternatives_of fs)) in
        let i : List ℕ = bits_of w (index (alternatives_of fs) v) in
        let n = length-bits_of w (index (alternatives_of fs) v) in
        seen_one t x.0 (index (alternatives_of fs) v) 0 at d.0
        (seen_pick fs v x G (at + w) d.1 g (rw n at (spells_snd b at i (encode_pick (alternatives_of fs) v) s)) (omega (arith, length-append i (encode_pick (alternatives_of fs) v))))
    seen (many lo hi f) v x G at c g s l =
        let d = both (solid f) (apart (firsts f) G && clear sp f (firsts f ++ G)) c in
        let k = both (apart (firsts f) G) (clear sp f (firsts f ++ G)) d.1 in
        let z : List ℕ = size_bits lo hi (length v) in
        let r : List ℕ = joined (λ a. encode (type_of f) a) v in
        let i = length-size b e lo hi (length v) in
        seen_all (λ a. InRange (type_of f) a) (λ a. encode (type_of f) a) (λ i a q. tell f a (x.0, i) q) (λ i a. shown f a (x.0, i)) v 1 (at + width (hi - lo))
        (λ i a q y u w. seen f a (x.0, i) (firsts f ++ G) q k.1 y u w) g.2 (rw i at (spells_snd b at z r s)) (omega (arith, length-append z r))
    seen (inner f) v x G at c g s l =
        let z : List ℕ = length_bits (length (encode (type_of f) v)) in
        seen f v x G (at + length z) c g.1 (spells_snd b at z (encode (type_of f) v) s) (omega (arith, length-append z (encode (type_of f) v)))
    seen (soft m r f) v x G at c g s l = seen f v x G at c g s l
    seen (lax m j f) v x G at c g s l = seen f v x G at c g s l

    pub seen_fields : (fs : Flds) (vs : Values (members_of fs)) (x : Ctx) (G : List ℕ) (at : ℕ) → clear_fields sp fs G ≡ true → AllInRange (members_of fs) vs → Spells b at (encode_members (members_of fs) vs)
        → at + length (encode_members (members_of fs) vs) ≤ e → See (tell_fields fs vs x at) (shown_fields fs vs x)
    seen_fields end vs x G at c g s l = seen_nil
    seen_fields (f ⨾ fs) vs x G at c g s l =
        let H = ahead (firsts_fields fs) (solid_fields fs) G in
        let d = both (clear sp f H) (clear_fields sp fs G) c in
        let z : List ℕ = encode (type_of f) vs.0 in
        let r : List ℕ = encode_members (members_of fs) vs.1 in
        seen_join (seen f vs.0 x H at d.0 g.0 (spells_fst b at z r s) (omega (arith, length-append z r)))
        (seen_fields fs vs.1 x G (at + length z) d.1 g.1 (spells_snd b at z r s) (omega (arith, length-append z r)))
    seen_fields (f ⨾? fs) vs x G at c g s l =
        let H = ahead (firsts_fields fs) (solid_fields fs) G in
        let d = both (apart (firsts f) H && clear sp f H) (clear_fields sp fs G) c in
        let k = both (apart (firsts f) H) (clear sp f H) d.0 in
        let z : List ℕ = if_any (λ a. encode (type_of f) a) vs.0 in
        let r : List ℕ = encode_members (members_of fs) vs.1 in
        seen_join
        (seen_any (λ a. InRange (type_of f) a) (λ a. encode (type_of f) a) (λ a. tell f a x at) (λ a. shown f a x) [] [] vs.0 at seen_nil (λ a y u w. seen f a x H at k.1 y u w) g.0 (spells_fst b at z r s) (omega (arith, length-append z r)))
        (seen_fields fs vs.1 x G (at + length z) d.1 g.1 (spells_snd b at z r s) (omega (arith, length-append z r)))
    seen_fields (or_note t y n f fs) vs x G at c g s l =
        let H = ahead (firsts_fields fs) (solid_fields fs) G in
        let d = both ((not (sp t) && solid f) && clear sp f H) (clear_fields sp fs G) c in
        let k = both (not (sp t) && solid f) (clear sp f H) d.0 in
        let o = both (not (sp t)) (solid f) k.0 in
        let z : List ℕ = if_any (λ a. encode (type_of f) a) vs.0 in
        let r : List ℕ = encode_members (members_of fs) vs.1 in
        seen_join
        (seen_any (λ a. InRange (type_of f) a) (λ a. encode (type_of f) a) (λ a. tell f a x at) (λ a. shown f a x) (rec t x.0 y n at ∷ []) (plain t x.0 y n ∷ []) vs.0 at (seen_one t x.0 y n at o.0 seen_nil) (λ a y u w. seen f a x H at k.1 y u w) g.0 (spells_fst b at z r s) (omega (arith, length-append z r)))
        (seen_fields fs vs.1 x G (at + length z) d.1 g.1 (spells_snd b at z r s) (omega (arith, length-append z r)))
    seen_fields (unread t fs) (none, vs) x G at c g s l = seen_fields fs vs x G at c g.1 s l
    seen_fields (unread t fs) (some v, vs) x G at c g s l = absurd v

    pub seen_pick : (fs : Alts) (v : Pick (alternatives_of fs)) (x : Ctx) (G : List ℕ) (at : ℕ) → clear_alts sp fs G ≡ true → PickInRange (alternatives_of fs) v → Spells b at (encode_pick (alternatives_of fs) v)
        → at + length (encode_pick (alternatives_of fs) v) ≤ e → See (tell_pick fs v x at) (shown_pick fs v x)
    seen_pick none_left v x G at c g s l = absurd v
    seen_pick (f ∥ fs) (inl v) x G at c g s l = seen f v x G at (both (clear sp f G) (clear_alts sp fs G) c).0 g s l
    seen_pick (f ∥ fs) (inr v) x G at c g s l = seen_pick fs v x G at (both (clear sp f G) (clear_alts sp fs G) c).1 g s l
