-- From what a plain value in range shows, the value is got back, where the format is clear.
use mathlib.Core.Path.{◌≡◌, refl, sym, ap, ◌∙◌}
use mathlib.Core.Bool.{Bool, true, false, not, ◌&&◌, ◌||◌, false≢true}
use mathlib.Core.Option.{none, some}
use mathlib.Core.Logic.{inl, inr}
use mathlib.Core.List.{List, [], ◌∷◌, ◌++◌, append_assoc}
use Prim.Native.Nat.{ℕ, zero, suc, ◌+◌, ◌-◌, ◌*◌, ◌/◌, ◌%◌, ◌^◌, ◌≤◌, ◌<◌}
use native.Mathlib.Omega.{arith}
use native.Mathlib.Nat.{mod-lt, mod-eq_of_lt, div-eq_of_lt, mul-add-div_right, mul-add-mod_self_right, mul-div_cancel, add-zero, zero-add}
use lib.ListN.{length, drop, take, get_or, length-take, length-drop, take-append-drop}
use lib.Dec.{leb, ltb, eqb}
use borrow.Author.Tests.{leb-true, eqb-true, lt-ltb, le-leb, eq-eqb, ne_eqb}
use Rattle.x691.specs.Bits.{Spells}
use Rattle.x691.specs.Types.{Value, Values, Pick, extent}
use Rattle.x691.specs.Encoding.{unit_bits, encode, index}
use Rattle.x691.specs.Range.{member, All, InRange, AllInRange, PickInRange}
use Rattle.x691.proofs.Widths.{width-pow}
use Rattle.atn.specs.Format.{Fmt, num, listed, name, text, span, any_span, skipped, small, null, noted, placed, marked, refuse, element, ext, seq, loose, choice, many, inner, soft, lax}
use Rattle.atn.specs.Format.{Flds, end, ◌⨾◌, ◌⨾?◌, or_note, unread, Alts, none_left, ◌∥◌, type_of, members_of, alternatives_of, Letters, first, numeric}
use Rattle.atn.specs.Reading.{Ctx, word, octets, coded, spaced}
use Rattle.atn.proofs.Inverse.{both}
use Rattle.atn.proofs.Steps.{units_back}
use Rattle.atn.proofs.Texts.{length-coded, octets_pos, octets-lt}
use Rattle.record_lists.specs.Items.{Item, plain, bits, tag_of}
use Rattle.record_lists.specs.Shown.{packed, spelt, in_letters, spanned, show_any, show_all, shown, shown_fields, shown_pick}
use Rattle.record_lists.specs.Clear.{apart, solid, solid_fields, firsts, firsts_fields, single, unlike, ahead, clear, clear_letters, clear_fields, clear_alts}
use Rattle.record_lists.specs.Parse.{opens, value_in, value_of, second_in, second_of, bits_in, bits_at, same_numbers, same, begins, above, characters, spelled, uncoded, code_of, text_of, units_of, all_below, good_size, Got, got, peel, leaf, keep, feed, turn, several, perhaps, parse, parse_fields, parse_pick}
use Rattle.record_lists.specs.Plain.{Says, Unless, AllFrom, Plain, PlainFields, PlainPick}
use Rattle.record_lists.proofs.First.{Lead, Follows, lead_follow, length-span, span-some, lead-all, lead, lead_fields, opens-yes, solid_says, opens_no}

---------------------------------------------------------------- items

pub same-numbers : (xs : List ℕ) → same_numbers xs xs ≡ true
unfolding same_numbers
same-numbers [] = refl
same-numbers (x ∷ xs) = rw (eq-eqb x x refl) (same-numbers xs)

same_self : (i : Item) → same i i ≡ true
unfolding same
same_self (plain t m v s) = rw (eq-eqb t t refl, eq-eqb m m refl, eq-eqb v v refl, eq-eqb s s refl)
same_self (bits t m xs) = rw (eq-eqb t t refl, eq-eqb m m refl) (same-numbers xs)

---------------------------------------------------------------- steps

module _ {A : Type 0} where
  pub peel_go : (P : List Item) (a : A) (R : List Item) → peel P a (P ++ R) ≡ got a R
  unfolding peel
  peel_go [] a R = refl
  peel_go (i ∷ P) a R = rw (same_self i) (peel_go P a R)

  leaf_go : (h : A → List Item) (g : A → Bool) (c a : A) (R : List Item) → c ≡ a → g a ≡ true → leaf h g c (h a ++ R) ≡ got a R
  unfolding leaf
  leaf_go h g c a R e q = rw (e, q) (peel_go (h a) a R)

  keep_go : (g : A → Bool) {x : Got A} {a : A} {R : List Item} → x ≡ got a R → g a ≡ true → keep g x ≡ got a R
  unfolding keep
  keep_go g e q = rw (e, q)

module _ {A B : Type 0} where
  feed_go : (k : A → List Item → Got B) {x : Got A} {a : A} {R : List Item} → x ≡ got a R → feed x k ≡ k a R
  unfolding feed
  feed_go k e = rw e

  turn_go : (g : A → B) {x : Got A} {a : A} {R : List Item} → x ≡ got a R → turn g x ≡ got (g a) R
  unfolding turn
  turn_go g e = rw e

-- a property of each, and another of each with its place
module _ {A : Type 0} (P : A → Type 0) (Q : ℕ → A → Type 0) (h : ℕ → A → List Item) (p : ℕ → List Item → Got A) (F G : List ℕ) (off : apart F G ≡ true) (first : (i : ℕ) (a : A) → P a → Lead F true (h i a)) where
  several_go : ((i : ℕ) (a : A) (R : List Item) → P a → Q i a → Follows (F ++ G) R → p i (h i a ++ R) ≡ got a R)
      → (i n : ℕ) (vs : List A) (R : List Item) → length vs ≤ n → All P vs → AllFrom Q i vs → Follows G R → several p (λ S. opens F S) i n (show_all h i vs ++ R) ≡ got vs R
  unfolding several show_all ahead
  several_go ih i zero [] R l g j w = refl
  several_go ih i zero (a ∷ vs) R l g j w = absurd (omega arith)
  several_go ih i (suc n) [] R l g j w = rw (opens_no F G R off w)
  several_go ih i (suc n) (a ∷ vs) R l g j w =
      rw (append_assoc (h i a) (show_all h (suc i) vs) R, opens-yes F true (h i a) (show_all h (suc i) vs ++ R) (solid_says F true (h i a) refl (first i a g.0)) (first i a g.0))
      (feed_go _ (ih i a (show_all h (suc i) vs ++ R) g.0 j.0 (lead_follow F G false (show_all h (suc i) vs) R (lead-all P h F true first 0 (suc i) vs (omega arith) g.1) w))
      ∙ turn_go _ (several_go ih (suc i) n vs R (omega arith) g.1 j.1 w))

---------------------------------------------------------------- numbers

above_back : (lo v hi : ℕ) → lo ≤ 18446744073709551616 → v ≤ extent lo hi → above lo (word (lo + v)) ≡ v
unfolding above word extent
above_back lo v hi l g = go v l (omega (arith, g, mod-lt (hi + (18446744073709551616 - lo)) {m = 18446744073709551616} (omega arith)))
  where
    go : (v : ℕ) → lo ≤ 18446744073709551616 → v < 18446744073709551616 → ((lo + v) % 18446744073709551616 + (18446744073709551616 - lo)) % 18446744073709551616 ≡ v
    go v l h = omega arith

---------------------------------------------------------------- texts

coded-all : (c n : ℕ) (cs : List ℕ) → c + n ≤ 256 → All (λ u. u < n) cs → All (λ u. u < 256) (coded c cs)
unfolding coded
coded-all c n [] l g = tt
coded-all c n (u ∷ cs) l g = (omega (arith, g.0), coded-all c n cs l g.1)

uncoded_back : (c : ℕ) (cs : List ℕ) → uncoded c (coded c cs) ≡ cs
unfolding uncoded coded
uncoded_back c [] = refl
uncoded_back c (u ∷ cs) = let e : c + u - c ≡ u = omega arith in rw (e, uncoded_back c cs)

all_drop : (k : ℕ) (cs : List ℕ) → All (λ c. c < 256) cs → All (λ c. c < 256) (drop k cs)
all_drop zero cs g = g
all_drop (suc k) [] g = g
all_drop (suc k) (c ∷ cs) g = all_drop k cs g.1

characters_back : (k : ℕ) (cs : List ℕ) → All (λ c. c < 256) cs → characters (length (take k cs)) k (octets k cs) ≡ take k cs
unfolding characters octets
characters_back zero cs g = refl
characters_back (suc k) [] g = refl
characters_back (suc k) (c ∷ cs) g =
    let l = octets-lt k cs g.1 in
    let q : (c * 256 ^ k + octets k cs) / 256 ^ k ≡ c = mul-add-div_right (octets_pos k) c (octets k cs) ∙ rw (div-eq_of_lt l) (add-zero c) in
    let r : (c * 256 ^ k + octets k cs) % 256 ^ k ≡ octets k cs = mul-add-mod_self_right c (256 ^ k) (octets k cs) ∙ mod-eq_of_lt l in
    rw (q, r) (ap (λ (z : List ℕ). c ∷ z) (characters_back k cs g.1))

spelled_back : (t m n k : ℕ) (cs : List ℕ) (R : List Item) → All (λ c. c < 256) cs → length cs ≤ k * 8 → spelled (length cs) k (packed t m n k cs ++ R) ≡ cs
unfolding spelled packed value_in
spelled_back t m n zero [] R g h = refl
spelled_back t m n zero (c ∷ cs) R g h = absurd (omega arith)
spelled_back t m n (suc k) cs R g h =
    rw (← (length-take 8 cs), characters_back 8 cs g, ← (length-drop 8 cs), spelled_back t m n k (drop 8 cs) R (all_drop 8 cs g) (omega (arith, length-drop 8 cs))) (take-append-drop 8 cs)

spelt_in_back : (t m : ℕ) (cs : List ℕ) (R : List Item) (k : ℕ) → (length cs + 7) / 8 ≡ k → 1 ≤ length cs → All (λ c. c < 256) cs
    → spelled (second_of (packed t m (length cs) k cs ++ R)) ((second_of (packed t m (length cs) k cs ++ R) + 7) / 8) (packed t m (length cs) k cs ++ R) ≡ cs
unfolding packed second_of second_in
spelt_in_back t m cs R zero q l a = absurd (omega arith)
spelt_in_back t m cs R (suc k) q l a = rw q (spelled_back t m (length cs) (suc k) cs R a (omega arith))

text_back : (t m n c lo : ℕ) (cs : List ℕ) (R : List Item) → 1 ≤ lo → c + n ≤ 256 → lo ≤ length cs → All (λ u. u < n) cs → text_of c (spelt t m (coded c cs) ++ R) ≡ cs
unfolding text_of spelt
text_back t m n c lo cs R l k h a =
    ap (λ (z : List ℕ). uncoded c z) (spelt_in_back t m (coded c cs) R ((length (coded c cs) + 7) / 8) refl (omega (arith, length-coded c cs)) (coded-all c n cs k a))
    ∙ uncoded_back c cs

-- from the text that stands first
letters_back : (sp : ℕ → Bool) (t m n lo : ℕ) (c : Letters) (cs : List ℕ) (R : List Item) → 1 ≤ lo → clear_letters sp n c ≡ true → lo ≤ length cs → All (λ u. u < n) cs
    → text_of (code_of c) (in_letters t c m cs ++ R) ≡ cs
letters_back sp t m n lo (first c) cs R l k h a = text_back t m n c lo cs R l (leb-true (c + n) 256 k) h a
letters_back sp t m n lo (numeric v) cs R l k h a =
    let d : n ≤ 11 = leb-true n 11 (both (not (sp v)) (leb n 11) k).1 in
    rw (append_assoc (spelt t m (coded 48 cs)) (spelt v m (spaced cs)) R) (text_back t m n 48 lo cs (spelt v m (spaced cs) ++ R) l (omega arith) h a)

---------------------------------------------------------------- spans

pub spells_own : (b : ℕ → ℕ) (at : ℕ) (xs : List ℕ) → ((i : ℕ) → b (at + i) ≡ get_or xs i 0) → Spells b at xs
unfolding Spells
spells_own b at [] h = tt
spells_own b at (x ∷ xs) h = (ap b (sym (add-zero at)) ∙ h 0, spells_own b (suc at) xs (λ i. ap b (let e : suc at + i ≡ at + suc i = omega arith in e) ∙ h (suc i)))

units_again : (w : ℕ) (cs : List ℕ) → 1 ≤ w → All (λ c. c < 2 ^ w) cs → units_of w (unit_bits (2 ^ w) cs) ≡ cs
unfolding units_of
units_again w cs l a =
    let xs : List ℕ = unit_bits (2 ^ w) cs in
    let b : ℕ → ℕ = λ i. get_or xs i 0 in
    let k : length xs / w ≡ length cs = ap (λ (n : ℕ). n / w) (length-span w cs) ∙ mul-div_cancel (length cs) (omega arith) in
    let u = units_back b (2 ^ w) cs 0 a (spells_own b 0 xs (λ i. ap b (zero-add i))) in
    rw k (rw (width-pow w) at u)

eqb-not : (t u : ℕ) → member t (u ∷ []) ≡ false → eqb t u ≡ false
unfolding member
eqb-not t u h = go (eqb t u) h
  where
    go : (a : Bool) → a || false ≡ false → a ≡ false
    go true q = absurd (false≢true (sym q))
    go false q = refl

none_at : (t : ℕ) (R : List Item) → opens (t ∷ []) R ≡ false → bits_at t R ≡ []
unfolding bits_at opens
none_at t [] h = refl
none_at t (i ∷ R) h = rw (eqb-not (tag_of i) t h)

span_back : (t m w : ℕ) (cs : List ℕ) (R : List Item) → 1 ≤ w → All (λ c. c < 2 ^ w) cs → (unit_bits (2 ^ w) cs ≡ [] → opens (t ∷ []) R ≡ false) → units_of w (bits_at t (spanned t m (unit_bits (2 ^ w) cs) ++ R)) ≡ cs
unfolding spanned bits_at bits_in tag_of
span_back t m w cs R l a h = go (unit_bits (2 ^ w) cs) refl
  where
    go : (xs : List ℕ) → unit_bits (2 ^ w) cs ≡ xs → units_of w (bits_at t (spanned t m xs ++ R)) ≡ cs
    go [] q = rw (none_at t R (h q), ← q) (units_again w cs l a)
    go (x ∷ xs) q = rw (eq-eqb t t refl, ← q) (units_again w cs l a)

below_go : (n : ℕ) (cs : List ℕ) → All (λ c. c < n) cs → all_below n cs ≡ true
unfolding all_below
below_go n [] g = refl
below_go n (c ∷ cs) g = rw (lt-ltb c n g.0) (below_go n cs g.1)

string_go : (n lo hi : ℕ) (cs : List ℕ) → (lo ≤ length cs) × (length cs ≤ hi) × All (λ c. c < n) cs → good_size lo hi (length cs) && all_below n cs ≡ true
unfolding good_size
string_go n lo hi cs g = rw (le-leb lo (length cs) g.0, le-leb (length cs) hi g.1, below_go n cs g.2)

apart-one : (t : ℕ) (G : List ℕ) → not (member t G) ≡ true → apart (t ∷ []) G ≡ true
unfolding apart
apart-one t G h = rw h

no_span : (w lo : ℕ) (cs : List ℕ) → lo ≤ length cs → leb 1 lo && leb 1 w ≡ true → unit_bits (2 ^ w) cs ≡ [] → ⊥
no_span w lo cs l q e = omega (arith, span-some w lo cs l q, ap (λ (z : List ℕ). length z) e)

---------------------------------------------------------------- notes

note_there : (t m y s : ℕ) (R : List Item) → begins (plain t m y s) (plain t m y s ∷ R) ≡ true
unfolding begins
note_there t m y s R = same_self (plain t m y s)

-- the second number of the first item
abbrev First0 : List Item → Type 0
First0 [] = Unit {0}
First0 (plain t m v s ∷ R) = s ≡ 0
First0 (bits t m xs ∷ R) = Unit {0}

single-zero : (f : Fmt) (v : Value (type_of f)) (x : Ctx) → single f ≡ true → First0 (shown f v x)
unfolding single shown
single-zero (num t lo hi) v x h = refl
single-zero (listed t hi xs) v x h = refl
single-zero (name t hi) v x h = refl
single-zero (text t n c lo hi) v x h = absurd (false≢true h)
single-zero (span t w lo hi) v x h = absurd (false≢true h)
single-zero (any_span t w) v x h = absurd (false≢true h)
single-zero (skipped m) v x h = absurd v
single-zero (small m t) v x h = absurd v
single-zero null v x h = absurd (false≢true h)
single-zero (noted t y s f) v x h = omega (arith, leb-true s 0 h)
single-zero (placed t f) v x h = refl
single-zero (marked m) v x h = absurd v
single-zero (refuse w m) v x h = absurd v
single-zero (element f) v x h = single-zero f v (x.1, x.1) h
single-zero (ext f g) v x h = single-zero f v x h
single-zero (seq fs) v x h = absurd (false≢true h)
single-zero (loose fs) v x h = absurd (false≢true h)
single-zero (choice t fs) v x h = refl
single-zero (many lo hi f) v x h = absurd (false≢true h)
single-zero (inner f) v x h = single-zero f v x h
single-zero (soft m r f) v x h = single-zero f v x h
single-zero (lax m j f) v x h = single-zero f v x h

other_second : (t m y s : ℕ) (l : List Item) → 1 ≤ s → First0 l → begins (plain t m y s) l ≡ false
unfolding begins same
other_second t m y s [] h z = refl
other_second t m y s (plain u n v r ∷ l) h z = go (eqb t u && eqb m n) (eqb y v) (ne_eqb s r (λ e. omega (arith, e, z)))
  where
    go : (a b : Bool) {c : Bool} → c ≡ false → a && (b && c) ≡ false
    go true true q = q
    go true false q = refl
    go false b q = refl
other_second t m y s (bits u n xs ∷ l) h z = refl

other_tag : (t m y s : ℕ) (F : List ℕ) (b : Bool) (l : List Item) → member t F ≡ false → Lead F b l → begins (plain t m y s) l ≡ false
unfolding begins same tag_of
other_tag t m y s F b [] h k = refl
other_tag t m y s F b (plain u n v r ∷ l) h k = go (eqb t u) refl
  where
    go : (a : Bool) → eqb t u ≡ a → (a && eqb m n) && (eqb y v && eqb s r) ≡ false
    go true q = absurd (false≢true (sym h ∙ rw (eqb-true t u q) k))
    go false q = refl
other_tag t m y s F b (bits u n xs ∷ l) h k = refl

unlike_no : (t m y s : ℕ) (f : Fmt) (v : Value (type_of f)) (x : Ctx) → InRange (type_of f) v → unlike t s f ≡ true → begins (plain t m y s) (shown f v x) ≡ false
unfolding unlike
unlike_no t m y s f v x g h = go (member t (firsts f)) refl h
  where
    go : (a : Bool) → member t (firsts f) ≡ a → not a || (leb 1 s && single f) ≡ true → begins (plain t m y s) (shown f v x) ≡ false
    go true q k = let c = both (leb 1 s) (single f) k in other_second t m y s (shown f v x) (leb-true 1 s c.0) (single-zero f v x c.1)
    go false q k = other_tag t m y s (firsts f) (solid f) (shown f v x) q (lead f v x g)

begins-more : (i : Item) (l R : List Item) → Says l → begins i l ≡ false → begins i (l ++ R) ≡ false
unfolding begins
begins-more i [] R q h = absurd q
begins-more i (j ∷ l) R q h = h

-- a part that is there begins otherwise than the note that it is not
not-note : (t m y s : ℕ) (f : Fmt) (v : Value (type_of f)) (x : Ctx) (R : List Item) → InRange (type_of f) v → solid f ≡ true → Unless (unlike t s f) (begins (plain t m y s) (shown f v x) ≡ false)
    → begins (plain t m y s) (shown f v x ++ R) ≡ false
not-note t m y s f v x R g d h = begins-more (plain t m y s) (shown f v x) R (solid_says (firsts f) (solid f) (shown f v x) d (lead f v x g)) (go (unlike t s f) refl h)
  where
    go : (a : Bool) → unlike t s f ≡ a → Unless a (begins (plain t m y s) (shown f v x) ≡ false) → begins (plain t m y s) (shown f v x) ≡ false
    go true q k = unlike_no t m y s f v x g q
    go false q k = k

-- a part that is there shows something
part_says : (f : Fmt) (v : Value (type_of f)) (x : Ctx) → InRange (type_of f) v → Unless (solid f) (Says (shown f v x)) → Says (shown f v x)
part_says f v x g h = go (solid f) refl h
  where
    go : (a : Bool) → solid f ≡ a → Unless a (Says (shown f v x)) → Says (shown f v x)
    go true q k = solid_says (firsts f) (solid f) (shown f v x) q (lead f v x g)
    go false q k = k

---------------------------------------------------------------- formats

mutual
  unfolding parse shown clear index show_any perhaps value_of value_in

  pub back : (f : Fmt) (v : Value (type_of f)) (x : Ctx) (sp : ℕ → Bool) (G : List ℕ) (R : List Item) → clear sp f G ≡ true → InRange (type_of f) v → Plain f v x → Follows G R → parse f x (shown f v x ++ R) ≡ got v R
  back (num t lo hi) v x sp G R c g j w =
      leaf_go (λ v. plain t x.0 (word (lo + v)) 0 ∷ []) _ _ v R (above_back lo v hi (leb-true lo 18446744073709551616 (both (not (sp t)) (leb lo 18446744073709551616) c).1) g) (le-leb v (extent lo hi) g)
  back (listed t hi xs) v x sp G R c g j w = leaf_go (λ v. plain t x.0 v 0 ∷ []) (λ v. leb v hi && member v xs) v v R refl (rw (le-leb v hi g.0, g.1))
  back (name t hi) v x sp G R c g j w = leaf_go (λ v. plain t x.0 v 0 ∷ []) _ v v R refl (le-leb v (extent 0 hi) g)
  back (text t n k lo hi) v x sp G R c g j w =
      let d = both (leb 1 lo) (clear_letters sp n k) (both (not (sp t)) (leb 1 lo && clear_letters sp n k) c).1 in
      leaf_go (λ cs. in_letters t k x.0 cs) (λ cs. good_size lo hi (length cs) && all_below n cs) _ v R
      (letters_back sp t x.0 n lo k v R (leb-true 1 lo d.0) d.1 g.0 g.2) (string_go n lo hi v g)
  back (span t u lo hi) v x sp G R c g j w =
      let d = both (sp t) (leb 1 lo && leb 1 u) c in
      let e = both (leb 1 lo) (leb 1 u) d.1 in
      leaf_go (λ cs. spanned t x.0 (unit_bits (2 ^ u) cs)) (λ cs. good_size lo hi (length cs) && all_below (2 ^ u) cs) _ v R
      (span_back t x.0 u v R (leb-true 1 u e.1) g.2 (λ q. absurd (no_span u lo v g.0 d.1 q))) (string_go (2 ^ u) lo hi v g)
  back (any_span t u) v x sp G R c g j w =
      let d = both (sp t) (leb 1 u && not (member t G)) c in
      let e = both (leb 1 u) (not (member t G)) d.1 in
      leaf_go (λ cs. spanned t x.0 (unit_bits (2 ^ u) cs)) (λ cs. ltb (length cs) 16384 && all_below (2 ^ u) cs) _ v R
      (span_back t x.0 u v R (leb-true 1 u e.0) g.1 (λ _. opens_no (t ∷ []) G R (apart-one t G e.1) w)) (rw (lt-ltb (length v) 16384 g.0, below_go (2 ^ u) v g.1))
  back (skipped m) v x sp G R c g j w = absurd v
  back (small m t) v x sp G R c g j w = absurd v
  back null v x sp G R c g j w = refl
  back (noted t y s f) v x sp G R c g j w = feed_go _ (peel_go (plain t x.0 y s ∷ []) zero (shown f v x ++ R)) ∙ back f v x sp G R (both (not (sp t)) (clear sp f G) c).1 g j w
  back (placed t f) v x sp G R c g j w = feed_go _ (peel_go (plain t x.0 x.1 0 ∷ []) zero (shown f v x ++ R)) ∙ back f v x sp G R (both (not (sp t)) (clear sp f G) c).1 g j w
  back (marked m) v x sp G R c g j w = absurd v
  back (refuse u m) v x sp G R c g j w = absurd v
  back (element f) v x sp G R c g j w = back f v (x.1, x.1) sp G R c g j w
  back (ext f h) v x sp G R c g j w = back f v x sp G R c g j w
  back (seq fs) v x sp G R c g j w = back_fields fs v x sp G R c g j w
  back (loose fs) v x sp G R c g j w = back_fields fs v x sp G R c g j w
  back (choice t fs) v x sp G R c g j w =
      feed_go _ (leaf_go (λ i. plain t x.0 i 0 ∷ []) (λ i. true) (index (alternatives_of fs) v) (index (alternatives_of fs) v) (shown_pick fs v x ++ R) refl refl)
      ∙ back_pick fs v x sp G R (both (not (sp t)) (clear_alts sp fs G) c).1 g j w
  back (many lo hi f) v x sp G R c g j w =
      let d = both (solid f) (apart (firsts f) G && clear sp f (firsts f ++ G)) c in
      let e = both (apart (firsts f) G) (clear sp f (firsts f ++ G)) d.1 in
      keep_go _
      (several_go (λ a. InRange (type_of f) a) (λ i a. Plain f a (x.0, i)) (λ i a. shown f a (x.0, i)) (λ i S. parse f (x.0, i) S) (firsts f) G e.0 (λ i a y. rw (← d.0) (lead f a (x.0, i) y))
      (λ i a S y z u. back f a (x.0, i) sp (firsts f ++ G) S e.1 y z u) 1 hi v R g.1 g.2 j w)
      (le-leb lo (length v) g.0)
  back (inner f) v x sp G R c g j w = keep_go _ (back f v x sp G R c g.1 j w) (lt-ltb (length (encode (type_of f) v)) 16384 g.0)
  back (soft m r f) v x sp G R c g j w = back f v x sp G R c g j w
  back (lax m h f) v x sp G R c g j w = back f v x sp G R c g j w

  pub back_fields : (fs : Flds) (vs : Values (members_of fs)) (x : Ctx) (sp : ℕ → Bool) (G : List ℕ) (R : List Item) → clear_fields sp fs G ≡ true → AllInRange (members_of fs) vs → PlainFields fs vs x → Follows G R
      → parse_fields fs x (shown_fields fs vs x ++ R) ≡ got vs R
  back_fields end vs x sp G R c g j w = refl
  back_fields (f ⨾ fs) (v, vs) x sp G R c g j w =
      let H = ahead (firsts_fields fs) (solid_fields fs) G in
      let m = lead_follow (firsts_fields fs) G (solid_fields fs) (shown_fields fs vs x) R (lead_fields fs vs x g.1) w in
      let d = both (clear sp f H) (clear_fields sp fs G) c in
      rw (append_assoc (shown f v x) (shown_fields fs vs x) R)
      (feed_go _ (back f v x sp H (shown_fields fs vs x ++ R) d.0 g.0 j.0 m)
      ∙ turn_go _ (back_fields fs vs x sp G R d.1 g.1 j.1 w))
  back_fields (f ⨾? fs) (none, vs) x sp G R c g j w =
      let H = ahead (firsts_fields fs) (solid_fields fs) G in
      let m = lead_follow (firsts_fields fs) G (solid_fields fs) (shown_fields fs vs x) R (lead_fields fs vs x g.1) w in
      let d = both (apart (firsts f) H && clear sp f H) (clear_fields sp fs G) c in
      let e = both (apart (firsts f) H) (clear sp f H) d.0 in
      rw (opens_no (firsts f) H (shown_fields fs vs x ++ R) e.0 m)
      (turn_go _ (back_fields fs vs x sp G R d.1 g.1 j.1 w))
  back_fields (f ⨾? fs) (some v, vs) x sp G R c g j w =
      let H = ahead (firsts_fields fs) (solid_fields fs) G in
      let m = lead_follow (firsts_fields fs) G (solid_fields fs) (shown_fields fs vs x) R (lead_fields fs vs x g.1) w in
      let d = both (apart (firsts f) H && clear sp f H) (clear_fields sp fs G) c in
      let e = both (apart (firsts f) H) (clear sp f H) d.0 in
      rw (append_assoc (shown f v x) (shown_fields fs vs x) R, opens-yes (firsts f) (solid f) (shown f v x) (shown_fields fs vs x ++ R) (part_says f v x g.0 j.0.0) (lead f v x g.0))
      (feed_go _ (back f v x sp H (shown_fields fs vs x ++ R) e.1 g.0 j.0.1 m)
      ∙ turn_go _ (back_fields fs vs x sp G R d.1 g.1 j.1 w))
  back_fields (or_note t y s f fs) (none, vs) x sp G R c g j w =
      let H = ahead (firsts_fields fs) (solid_fields fs) G in
      let d = both ((not (sp t) && solid f) && clear sp f H) (clear_fields sp fs G) c in
      rw (note_there t x.0 y s (shown_fields fs vs x ++ R))
      (turn_go _ (back_fields fs vs x sp G R d.1 g.1 j.1 w))
  back_fields (or_note t y s f fs) (some v, vs) x sp G R c g j w =
      let H = ahead (firsts_fields fs) (solid_fields fs) G in
      let m = lead_follow (firsts_fields fs) G (solid_fields fs) (shown_fields fs vs x) R (lead_fields fs vs x g.1) w in
      let d = both ((not (sp t) && solid f) && clear sp f H) (clear_fields sp fs G) c in
      let e = both (not (sp t) && solid f) (clear sp f H) d.0 in
      let u = both (not (sp t)) (solid f) e.0 in
      rw (append_assoc (shown f v x) (shown_fields fs vs x) R, not-note t x.0 y s f v x (shown_fields fs vs x ++ R) g.0 u.1 j.0.0)
      (feed_go _ (back f v x sp H (shown_fields fs vs x ++ R) e.1 g.0 j.0.1 m)
      ∙ turn_go _ (back_fields fs vs x sp G R d.1 g.1 j.1 w))
  back_fields (unread t fs) (none, vs) x sp G R c g j w = turn_go _ (back_fields fs vs x sp G R c g.1 j w)
  back_fields (unread t fs) (some v, vs) x sp G R c g j w = absurd v

  pub back_pick : (fs : Alts) (v : Pick (alternatives_of fs)) (x : Ctx) (sp : ℕ → Bool) (G : List ℕ) (R : List Item) → clear_alts sp fs G ≡ true → PickInRange (alternatives_of fs) v → PlainPick fs v x → Follows G R
      → parse_pick fs (index (alternatives_of fs) v) x (shown_pick fs v x ++ R) ≡ got v R
  back_pick none_left v x sp G R c g j w = absurd v
  back_pick (f ∥ fs) (inl v) x sp G R c g j w = turn_go _ (back f v x sp G R (both (clear sp f G) (clear_alts sp fs G) c).0 g j w)
  back_pick (f ∥ fs) (inr v) x sp G R c g j w = turn_go _ (back_pick fs v x sp G R (both (clear sp f G) (clear_alts sp fs G) c).1 g j w)
