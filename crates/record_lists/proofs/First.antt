-- What a value shows begins with one of its format's first tags.
use mathlib.Core.Path.{◌≡◌, refl, sym, ◌∙◌}
use mathlib.Core.Bool.{Bool, true, false, cond, not, ◌&&◌, ◌||◌, false≢true}
use mathlib.Core.Option.{none, some}
use mathlib.Core.List.{List, [], ◌∷◌, ◌++◌}
use Prim.Native.Nat.{ℕ, zero, suc, ◌+◌, ◌-◌, ◌*◌, ◌/◌, ◌^◌, ◌≤◌, ◌<◌}
use native.Mathlib.Omega.{arith}
use native.Mathlib.Nat.{mul-pos}
use lib.ListN.{length}
use lib.Dec.{leb, eqb}
use borrow.Author.Tests.{leb-true, eqb-true, not-true, lt-leb, eq-eqb}
use Rattle.x691.specs.Types.{Value, Values}
use Rattle.x691.specs.Encoding.{unit_bits}
use Rattle.x691.specs.Range.{member, All, InRange, AllInRange}
use Rattle.x691.proofs.Widths.{width-pow}
use Rattle.atn.specs.Format.{Fmt, num, listed, name, text, span, any_span, skipped, small, null, noted, placed, marked, refuse, element, ext, seq, loose, choice, many, inner, soft, lax}
use Rattle.atn.specs.Format.{Flds, end, ◌⨾◌, ◌⨾?◌, or_note, unread, type_of, members_of, Letters, first, numeric}
use Rattle.atn.specs.Reading.{Ctx, coded, spaced}
use Rattle.atn.proofs.Inverse.{both}
use Rattle.atn.proofs.Steps.{length-units}
use Rattle.atn.proofs.Texts.{length-coded}
use Rattle.record_lists.specs.Items.{Item, plain, tag_of}
use Rattle.record_lists.specs.Shown.{packed, spelt, in_letters, spanned, show_any, show_all, shown, shown_fields}
use Rattle.record_lists.specs.Clear.{apart, solid, solid_fields, firsts, firsts_fields, ahead}
use Rattle.record_lists.specs.Parse.{opens}
use Rattle.record_lists.specs.Plain.{Says}

-- a list that begins with one of F, or is empty where it need not show anything
abbrev pub Lead : List ℕ → Bool → List Item → Type 0
Lead F s [] = s ≡ false
Lead F s (i ∷ R) = member (tag_of i) F ≡ true

-- what stands behind: nothing, or one of G
abbrev pub Follows : List ℕ → List Item → Type 0
Follows G [] = Unit {0}
Follows G (i ∷ R) = member (tag_of i) G ≡ true

---------------------------------------------------------------- truths, and members

pub and_no : (a : Bool) → a && false ≡ false
and_no true = refl
and_no false = refl

or_right : (a b : Bool) → b ≡ true → a || b ≡ true
or_right true b h = refl
or_right false b h = h

member-left : (t : ℕ) (F G : List ℕ) → member t F ≡ true → member t (F ++ G) ≡ true
unfolding member
member-left t [] G h = absurd (false≢true h)
member-left t (u ∷ F) G h = go (eqb t u) h (λ q. member-left t F G q)
  where
    go : (a : Bool) → a || member t F ≡ true → (member t F ≡ true → member t (F ++ G) ≡ true) → a || member t (F ++ G) ≡ true
    go true q i = refl
    go false q i = i q

member_right : (t : ℕ) (F G : List ℕ) → member t G ≡ true → member t (F ++ G) ≡ true
unfolding member
member_right t [] G h = h
member_right t (u ∷ F) G h = or_right (eqb t u) (member t (F ++ G)) (member_right t F G h)

pub member_own : (t : ℕ) → member t (t ∷ []) ≡ true
unfolding member
member_own t = rw (eq-eqb t t refl)

---------------------------------------------------------------- fronts of lists

lead_right : (F G : List ℕ) (u : Bool) (m : List Item) → Lead G u m → Lead (F ++ G) u m
lead_right F G u [] h = h
lead_right F G u (i ∷ R) h = member_right (tag_of i) F G h

lead-join : (F G : List ℕ) (s u : Bool) (l m : List Item) → Lead F s l → Lead G u m → Lead (F ++ cond s [] G) (s || u) (l ++ m)
lead-join F G s u [] m h k = rw h (lead_right F G u m k)
lead-join F G s u (i ∷ R) m h k = member-left (tag_of i) F (cond s [] G) h

lead-some : (F G : List ℕ) (s u : Bool) (l m : List Item) → Lead F s l → Lead G u m → Lead (F ++ G) u (l ++ m)
lead-some F G s u [] m h k = lead_right F G u m k
lead-some F G s u (i ∷ R) m h k = member-left (tag_of i) F G h

-- one tag more
lead-more : (t : ℕ) (F : List ℕ) (s : Bool) (l : List Item) → Lead F s l → Lead (t ∷ F) s l
lead-more t F s l h = lead_right (t ∷ []) F s l h

pub lead_follow : (F G : List ℕ) (s : Bool) (l R : List Item) → Lead F s l → Follows G R → Follows (ahead F s G) (l ++ R)
unfolding ahead
lead_follow F G s [] [] h k = tt
lead_follow F G s [] (i ∷ R) h k = rw h (member_right (tag_of i) F G k)
lead_follow F G s (i ∷ l) R h k = member-left (tag_of i) F (cond s [] G) h

---------------------------------------------------------------- strings and lists

lead-packed : (t m lo n : ℕ) (cs : List ℕ) (k : ℕ) → (n + 7) / 8 ≡ k → lo ≤ n → Lead (t ∷ []) (leb 1 lo) (packed t m n k cs)
unfolding packed tag_of
lead-packed t m lo n cs zero q h = lt-leb 1 lo (omega arith)
lead-packed t m lo n cs (suc k) q h = member_own t

lead-letters : (t m lo : ℕ) (c : Letters) (cs : List ℕ) → lo ≤ length cs → Lead (t ∷ []) (leb 1 lo) (in_letters t c m cs)
unfolding spelt packed coded spaced tag_of
lead-letters t m lo (first c) cs h = lead-packed t m lo (length (coded c cs)) (coded c cs) ((length (coded c cs) + 7) / 8) refl (omega (arith, length-coded c cs))
lead-letters t m lo (numeric v) [] h = lt-leb 1 lo (omega arith)
lead-letters t m lo (numeric v) (c ∷ cs) h = let e : (suc (length (coded 48 cs)) + 7) / 8 ≡ suc (length (coded 48 cs) / 8) = omega arith in rw e (member_own t)

pub length-span : (w : ℕ) (cs : List ℕ) → length (unit_bits (2 ^ w) cs) ≡ length cs * w
length-span w cs = length-units (λ _. 0) 0 (2 ^ w) cs ∙ rw (width-pow w)

lead-spanned : (t m : ℕ) (s : Bool) (xs : List ℕ) → (s ≡ true → 1 ≤ length xs) → Lead (t ∷ []) s (spanned t m xs)
unfolding spanned tag_of
lead-spanned t m true [] h = absurd (omega (arith, h refl))
lead-spanned t m false [] h = refl
lead-spanned t m s (x ∷ xs) h = member_own t

module _ {A : Type 0} (P : A → Type 0) (h : ℕ → A → List Item) (F : List ℕ) (s : Bool) (ih : (i : ℕ) (a : A) → P a → Lead F s (h i a)) where
  pub lead-all : (lo i : ℕ) (vs : List A) → lo ≤ length vs → All P vs → Lead F (leb 1 lo && s) (show_all h i vs)
  unfolding show_all
  lead-all lo i [] l g = rw (lt-leb 1 lo (omega arith))
  lead-all lo i (a ∷ vs) l g = go (h i a) (show_all h (suc i) vs) (ih i a g.0) (lead-all 0 (suc i) vs (omega arith) g.1)
    where
      go : (x y : List Item) → Lead F s x → Lead F false y → Lead F (leb 1 lo && s) (x ++ y)
      go [] y p q = rw (p, and_no (leb 1 lo)) q
      go (j ∷ x) y p q = p

---------------------------------------------------------------- formats

pub span-some : (w lo : ℕ) (cs : List ℕ) → lo ≤ length cs → leb 1 lo && leb 1 w ≡ true → 1 ≤ length (unit_bits (2 ^ w) cs)
span-some w lo cs l q =
    let c = both (leb 1 lo) (leb 1 w) q in
    let k : 0 < length cs = omega (arith, leb-true 1 lo c.0) in
    let u : 0 < w = omega (arith, leb-true 1 w c.1) in
    let m : 0 < length cs * w = mul-pos k u in
    omega (arith, m, length-span w cs)

mutual
  unfolding shown firsts solid show_any spelt tag_of

  pub lead : (f : Fmt) (v : Value (type_of f)) (x : Ctx) → InRange (type_of f) v → Lead (firsts f) (solid f) (shown f v x)
  lead (num t lo hi) v x g = member_own t
  lead (listed t hi xs) v x g = member_own t
  lead (name t hi) v x g = member_own t
  lead (text t n c lo hi) v x g = lead-letters t x.0 lo c v g.0
  lead (span t w lo hi) v x g = lead-spanned t x.0 (leb 1 lo && leb 1 w) (unit_bits (2 ^ w) v) (λ q. span-some w lo v g.0 q)
  lead (any_span t w) v x g = lead-spanned t x.0 false (unit_bits (2 ^ w) v) (λ q. absurd (false≢true q))
  lead (skipped m) v x g = absurd v
  lead (small m t) v x g = absurd v
  lead null v x g = refl
  lead (noted t y s f) v x g = member_own t
  lead (placed t f) v x g = member_own t
  lead (marked m) v x g = absurd v
  lead (refuse w m) v x g = absurd v
  lead (element f) v x g = lead f v (x.1, x.1) g
  lead (ext f h) v x g = lead f v x g
  lead (seq fs) v x g = lead_fields fs v x g
  lead (loose fs) v x g = lead_fields fs v x g
  lead (choice t fs) v x g = member_own t
  lead (many lo hi f) v x g = lead-all (λ a. InRange (type_of f) a) (λ i a. shown f a (x.0, i)) (firsts f) (solid f) (λ i a y. lead f a (x.0, i) y) lo 1 v g.0 g.2
  lead (inner f) v x g = lead f v x g.1
  lead (soft m r f) v x g = lead f v x g
  lead (lax m j f) v x g = lead f v x g

  pub lead_fields : (fs : Flds) (vs : Values (members_of fs)) (x : Ctx) → AllInRange (members_of fs) vs → Lead (firsts_fields fs) (solid_fields fs) (shown_fields fs vs x)
  lead_fields end vs x g = refl
  lead_fields (f ⨾ fs) vs x g = lead-join (firsts f) (firsts_fields fs) (solid f) (solid_fields fs) (shown f vs.0 x) (shown_fields fs vs.1 x) (lead f vs.0 x g.0) (lead_fields fs vs.1 x g.1)
  lead_fields (f ⨾? fs) (none, vs) x g = lead_right (firsts f) (firsts_fields fs) (solid_fields fs) (shown_fields fs vs x) (lead_fields fs vs x g.1)
  lead_fields (f ⨾? fs) (some v, vs) x g = lead-some (firsts f) (firsts_fields fs) (solid f) (solid_fields fs) (shown f v x) (shown_fields fs vs x) (lead f v x g.0) (lead_fields fs vs x g.1)
  lead_fields (or_note t y s f fs) (none, vs) x g =
      lead-join (t ∷ firsts f) (firsts_fields fs) (solid f) (solid_fields fs) (plain t x.0 y s ∷ []) (shown_fields fs vs x) (member-left t (t ∷ []) (firsts f) (member_own t)) (lead_fields fs vs x g.1)
  lead_fields (or_note t y s f fs) (some v, vs) x g =
      lead-join (t ∷ firsts f) (firsts_fields fs) (solid f) (solid_fields fs) (shown f v x) (shown_fields fs vs x) (lead-more t (firsts f) (solid f) (shown f v x) (lead f v x g.0)) (lead_fields fs vs x g.1)
  lead_fields (unread t fs) vs x g = lead_fields fs vs.1 x g.1

---------------------------------------------------------------- what opens a part

pub opens-yes : (F : List ℕ) (s : Bool) (l R : List Item) → Says l → Lead F s l → opens F (l ++ R) ≡ true
unfolding opens
opens-yes F s [] R q h = absurd q
opens-yes F s (i ∷ l) R q h = h

pub solid_says : (F : List ℕ) (s : Bool) (l : List Item) → s ≡ true → Lead F s l → Says l
solid_says F s [] q h = absurd (false≢true (sym h ∙ q))
solid_says F s (i ∷ l) q h = tt

apart_inv : (t : ℕ) (F G : List ℕ) → apart F G ≡ true → member t G ≡ true → member t F ≡ false
unfolding apart member
apart_inv t [] G h k = refl
apart_inv t (u ∷ F) G h k = go (eqb t u) refl (apart_inv t F G (both (not (member u G)) (apart F G) h).1 k)
  where
    go : (a : Bool) → eqb t u ≡ a → member t F ≡ false → a || member t F ≡ false
    go true q i =
        let e : t ≡ u = eqb-true t u q in
        let n = not-true (member u G) (both (not (member u G)) (apart F G) h).0 in
        absurd (false≢true (sym n ∙ rw (← e) k))
    go false q i = i

pub opens_no : (F G : List ℕ) (R : List Item) → apart F G ≡ true → Follows G R → opens F R ≡ false
unfolding opens
opens_no F G [] h k = refl
opens_no F G (i ∷ R) h k = apart_inv (tag_of i) F G h k
