-- Sound: what is read clean is the encoding of a value in range, and the records are that value's.
use mathlib.Core.Path.{◌≡◌, refl, sym, ap, ◌∙◌}
use mathlib.Core.Bool.{◌&&◌}
use mathlib.Core.Option.{none, some}
use mathlib.Core.Logic.{inl, inr}
use mathlib.Core.List.{List, [], ◌∷◌, ◌++◌}
use Prim.Native.Nat.{ℕ, zero, suc, ◌+◌, ◌-◌, ◌*◌, ◌^◌, ◌≤◌, ◌<◌}
use native.Mathlib.Nat.{add-zero}
use native.Mathlib.Numerals.{add-one}
use native.Mathlib.Omega.{arith}
use lib.ListN.{length, length-append}
use lib.Dec.{leb}
use borrow.Author.Tests.{leb-true}
use Rattle.x691.specs.Bits.{uint, bits_of, Spells}
use Rattle.x691.specs.Types.{extent, ◌&?◌}
use Rattle.x691.specs.Encoding.{width, length_bits, size_bits, unit_bits, joined, if_any, flag, preamble, highest, index, encode, encode_members, encode_pick}
use Rattle.x691.specs.Range.{member, All, InRange, AllInRange, PickInRange}
use Rattle.x691.proofs.BitLaws.{uint-one, uint-lt, uint_spells, spells_join, length-bits_of}
use Rattle.atn.specs.Format.{Fmt, num, listed, name, text, span, any_span, skipped, small, null, noted, placed, marked, refuse, element, ext, seq, loose, choice, many, inner, soft, lax}
use Rattle.atn.specs.Format.{Flds, end, ◌⨾◌, ◌⨾?◌, or_note, unread, Alts, none_left, ◌∥◌, type_of, members_of, alternatives_of, Letters}
use Rattle.atn.specs.Reading.{Rec, rec, Ctx, Ans, ok, then, times, unless, over, spanned, units, flags, unread_marks, read, read_fields, read_choice}
use Rattle.atn.specs.Told.{tell_any, tell_all, tell, tell_fields, tell_pick}
use Rattle.x691.proofs.Widths.{width-pow}
use Rattle.atn.proofs.Steps.{length-units}
use Rattle.atn.proofs.Complete.{length-preamble}
use Rattle.atn.proofs.Inverse.{both, never, never_late, never_marked, never_after, unless_inv, over_inv, Two, then_inv, then_ok, fork_inv, guard_inv, close_inv, soft_inv, lax_inv, fetch_inv, pull_inv, sized_inv, letters_inv, is_one, units-spelt, length_inv}

-- a value of A that lies encoded from `at` to p, within the window that ends at e, with records R
pub record Found {A : Type 0} (P : A → Type 0) (enc : A → List ℕ) (rc : A → ℕ → List Rec) (b : ℕ → ℕ) (e at p : ℕ) (R : List Rec) : Type 0 where
  pub val : A
  pub good : P val
  pub spelt : Spells b at (enc val)
  pub next : p ≡ at + length (enc val)
  pub recs : R ≡ rc val at
  pub fits : p ≤ e

module _ {A : Type 0} (P : A → Type 0) (enc : A → List ℕ) (rc : ℕ → A → ℕ → List Rec) (b : ℕ → ℕ) (e : ℕ) where
  abbrev Reads⁻ : (ℕ → ℕ → Ans) → Type 0
  Reads⁻ r = (i at p : ℕ) (R : List Rec) → r i at ≡ ok p R 0 → at ≤ e → Found P enc (rc i) b e at p R

  abbrev Founds : ℕ → ℕ → ℕ → ℕ → List Rec → Type 0
  Founds i n at p R = Found (λ vs. (length vs ≡ n) × All P vs) (λ vs. joined enc vs) (λ vs q. tell_all enc rc i vs q) b e at p R

  found-cons : (i : ℕ) {n at mid p : ℕ} {R₁ R₂ R : List Rec} → Found P enc (rc i) b e at mid R₁ → Founds (suc i) n mid p R₂ → R ≡ R₁ ++ R₂ → Founds i (suc n) at p R
  unfolding joined tell_all
  found-cons i {n} {at} {mid} {p} {R₁} {R₂} {R} f g r =
      record {
        val = f.val ∷ g.val;
        good = (ap suc g.good.0, (f.good, g.good.1));
        spelt = spells_join b at (enc f.val) (joined enc g.val) f.spelt (rw f.next at g.spelt);
        next = omega (arith, f.next, g.next, length-append (enc f.val) (joined enc g.val));
        recs = r ∙ rw (f.recs, g.recs, f.next);
        fits = g.fits;
      }

  times_inv : (r : ℕ → ℕ → Ans) → Reads⁻ r → (i n at p : ℕ) (R : List Rec) → times r i n at ≡ ok p R 0 → at ≤ e → Founds i n at p R
  unfolding times joined tell_all Spells
  times_inv r ih i zero at p R h l = record { val = []; good = (refl, tt); spelt = tt; next = (let z : p ≡ at = cc in omega arith); recs = cc; fits = (let z : p ≡ at = cc in omega arith) }
  times_inv r ih i (suc n) at p R h l =
      let t : Two (r i at) (λ q. times r (suc i) n q) p R = then_inv (r i at) (λ q. times r (suc i) n q) h in
      let f : Found P enc (rc i) b e at t.mid t.R₁ = ih i at t.mid t.R₁ t.first l in
      found-cons i f (times_inv r ih (suc i) n t.mid p t.R₂ t.second f.fits) t.recs

module _ (b : ℕ → ℕ) (bit : (i : ℕ) → b i < 2) where
  abbrev pub FoundF : Fmt → Ctx → ℕ → ℕ → ℕ → List Rec → Type 0
  FoundF f x e at p R = Found (λ v. InRange (type_of f) v) (λ v. encode (type_of f) v) (λ v q. tell f v x q) b e at p R

  abbrev FoundFs : Flds → Ctx → ℕ → ℕ → ℕ → ℕ → List Rec → Type 0
  FoundFs fs x e q at p R = Found (λ vs. Spells b q (preamble (members_of fs) vs) × AllInRange (members_of fs) vs) (λ vs. encode_members (members_of fs) vs) (λ vs y. tell_fields fs vs x y) b e at p R

  abbrev FoundAlt : Alts → ℕ → Ctx → ℕ → ℕ → ℕ → List Rec → Type 0
  FoundAlt fs i x e at p R = Found (λ c. (index (alternatives_of fs) c ≡ i) × PickInRange (alternatives_of fs) c) (λ c. encode_pick (alternatives_of fs) c) (λ c y. tell_pick fs c x y) b e at p R

  -- a number of w bits
  module _ {P : ℕ → Type 0} {rc : ℕ → ℕ → List Rec} (w e at : ℕ) where
    found_number : {p : ℕ} {R : List Rec} → at + w ≤ e → P (uint b at w) → p ≡ at + w → R ≡ rc (uint b at w) at → Found P (λ v. bits_of w v) rc b e at p R
    found_number l g z r = record { val = uint b at w; good = g; spelt = uint_spells b bit at w; next = omega (arith, length-bits_of w (uint b at w)); recs = r; fits = omega arith }

  -- a size and units
  found-string : {rc : List ℕ → ℕ → List Rec} (n lo hi e at : ℕ) {p : ℕ} {R : List Rec} → let v = uint b at (width (hi - lo)) in let w = width (n - 1) in let q = at + width (hi - lo) in
      lo + v ≤ hi → All (λ c. c < n) (units b w q (lo + v)) → p ≡ q + (lo + v) * w → p ≤ e → R ≡ rc (units b w q (lo + v)) at
      → Found (λ cs. (lo ≤ length cs) × (length cs ≤ hi) × All (λ c. c < n) cs) (λ cs. size_bits lo hi (length cs) ++ unit_bits n cs) rc b e at p R
  unfolding size_bits
  found-string n lo hi e at u g z f r =
      let s : ℕ = width (hi - lo) in
      let v : ℕ = uint b at s in
      let w : ℕ = width (n - 1) in
      let cs : List ℕ = units b w (at + s) (lo + v) in
      let c = units-spelt b bit n (at + s) (lo + v) in
      let i : length cs - lo ≡ v = omega (arith, c.0) in
      record {
        val = cs;
        good = (omega (arith, c.0), omega (arith, c.0), g);
        spelt = rw i (spells_join b at (bits_of s v) (unit_bits n cs) (uint_spells b bit at s) (rw (length-bits_of s v) c.1));
        next = rw i (let j = length-units b e n cs in let k : length cs * w ≡ (lo + v) * w = ap (λ (m : ℕ). m * w) c.0 in omega (arith, length-append (bits_of s v) (unit_bits n cs), length-bits_of s v));
        recs = r;
        fits = f;
      }

  found_must : (f : Fmt) (fs : Flds) (q : ℕ) (x : Ctx) {e at mid p : ℕ} {R₁ R₂ R : List Rec} → FoundF f x e at mid R₁ → FoundFs fs x e q mid p R₂ → R ≡ R₁ ++ R₂ → FoundFs (f ⨾ fs) x e q at p R
  unfolding preamble encode_members tell_fields
  found_must f fs q x {at = at} y z r =
      let a = encode (type_of f) y.val in
      let c = encode_members (members_of fs) z.val in
      record {
        val = (y.val, z.val);
        good = (z.good.0, (y.good, z.good.1));
        spelt = spells_join b at a c y.spelt (rw y.next at z.spelt);
        next = omega (arith, y.next, z.next, length-append a c);
        recs = r ∙ rw (y.recs, z.recs, y.next);
        fits = z.fits;
      }

  -- an optional part, whose absence is told by Z
  abbrev FoundAny : (ℕ → List Rec) → Fmt → Flds → Ctx → ℕ → ℕ → ℕ → ℕ → List Rec → Type 0
  FoundAny Z f fs x e q at p R =
      Found (λ vs. Spells b q (preamble (type_of f &? members_of fs) vs) × AllInRange (type_of f &? members_of fs) vs) (λ vs. encode_members (type_of f &? members_of fs) vs)
      (λ vs y. tell_any (λ v. tell f v x y) (Z y) vs.0 ++ tell_fields fs vs.1 x (y + length (if_any (λ v. encode (type_of f) v) vs.0))) b e at p R

  found_some : (Z : ℕ → List Rec) (f : Fmt) (fs : Flds) (q : ℕ) (x : Ctx) {e at mid p : ℕ} {R₁ R₂ R : List Rec} → b q ≡ 1 → FoundF f x e at mid R₁ → FoundFs fs x e (suc q) mid p R₂ → R ≡ R₁ ++ R₂ → FoundAny Z f fs x e q at p R
  unfolding preamble encode_members flag if_any tell_any Spells
  found_some Z f fs q x {at = at} one y z r =
      let a = encode (type_of f) y.val in
      let c = encode_members (members_of fs) z.val in
      record {
        val = (some y.val, z.val);
        good = ((one, z.good.0), (y.good, z.good.1));
        spelt = spells_join b at a c y.spelt (rw y.next at z.spelt);
        next = omega (arith, y.next, z.next, length-append a c);
        recs = r ∙ rw (y.recs, z.recs, y.next);
        fits = z.fits;
      }

  found_none : (Z : ℕ → List Rec) (f : Fmt) (fs : Flds) (q : ℕ) (x : Ctx) {e at p : ℕ} {R₂ R : List Rec} → b q ≡ 0 → FoundFs fs x e (suc q) at p R₂ → R ≡ Z at ++ R₂ → FoundAny Z f fs x e q at p R
  unfolding preamble encode_members flag if_any tell_any Spells
  found_none Z f fs q x {at = at} off z r =
      record { val = (none, z.val); good = ((off, z.good.0), (tt, z.good.1)); spelt = z.spelt; next = z.next; recs = r ∙ rw (z.recs, add-zero at); fits = z.fits }

  found-unread : (t : ℕ) (fs : Flds) (q : ℕ) (x : Ctx) {e at p : ℕ} {R : List Rec} → b q ≡ 0 → FoundFs fs x e (suc q) at p R → FoundFs (unread t fs) x e q at p R
  unfolding preamble encode_members tell_fields flag if_any Spells
  found-unread t fs q x off z = record { val = (none, z.val); good = ((off, z.good.0), (tt, z.good.1)); spelt = z.spelt; next = z.next; recs = z.recs; fits = z.fits }

  found_ext : (f g : Fmt) (x : Ctx) {e at p : ℕ} {R : List Rec} → b at ≡ 0 → FoundF f x e (at + 1) p R → FoundF (ext f g) x e at p R
  unfolding encode tell Spells
  found_ext f g x {at = at} off y = record { val = y.val; good = y.good; spelt = (off, rw (← (add-one at)) y.spelt); next = omega (arith, y.next); recs = y.recs; fits = y.fits }

  -- the presence bits, then the fields
  found_seq : (fs : Flds) (x : Ctx) {e at p : ℕ} {R : List Rec} → FoundFs fs x e at (at + flags fs) p R → FoundF (seq fs) x e at p R
  unfolding encode tell
  found_seq fs x {at = at} y =
      let i = length-preamble fs y.val in
      let a = preamble (members_of fs) y.val in
      let c = encode_members (members_of fs) y.val in
      record { val = y.val; good = y.good.1; spelt = spells_join b at a c y.good.0 (rw i y.spelt); next = omega (arith, y.next, length-append a c); recs = y.recs; fits = y.fits }

  found_fields : (fs : Flds) (x : Ctx) (e at p : ℕ) (R : List Rec) → then (ok (at + flags fs) [] (unread_marks fs b at)) (λ q. read_fields fs x b e at q) ≡ ok p R 0
      → ((U : List Rec) → read_fields fs x b e at (at + flags fs) ≡ ok p U 0 → FoundFs fs x e at (at + flags fs) p U) → FoundF (seq fs) x e at p R
  found_fields fs x e at p R h g =
      let y = then_ok (at + flags fs) [] (unread_marks fs b at) (λ q. read_fields fs x b e at q) h in
      rw y.3 (found_seq fs x (g y.1 y.2))

  found_choice : (t : ℕ) (fs : Alts) (x : Ctx) {e at p : ℕ} {R : List Rec} → let w = width (highest (alternatives_of fs)) in FoundAlt fs (uint b at w) x e (at + w) p R
      → FoundF (choice t fs) x e at p (rec t x.0 (uint b at w) 0 at ∷ R)
  unfolding encode tell
  found_choice t fs x {at = at} y =
      let w : ℕ = width (highest (alternatives_of fs)) in
      let i : ℕ = index (alternatives_of fs) y.val in
      let c = length-bits_of w i in
      let a = encode_pick (alternatives_of fs) y.val in
      record {
        val = y.val;
        good = y.good.1;
        spelt = spells_join b at (bits_of w i) a (rw y.good.0 (uint_spells b bit at w)) (rw c y.spelt);
        next = omega (arith, y.next, length-append (bits_of w i) a);
        recs = rw (y.good.0, y.recs);
        fits = y.fits;
      }

  found_many : (lo hi : ℕ) (f : Fmt) (x : Ctx) {e at p : ℕ} {R : List Rec} → let w = width (hi - lo) in lo + uint b at w ≤ hi
      → Founds (λ v. InRange (type_of f) v) (λ v. encode (type_of f) v) (λ i v q. tell f v (x.0, i) q) b e 1 (lo + uint b at w) (at + w) p R → FoundF (many lo hi f) x e at p R
  unfolding encode tell size_bits
  found_many lo hi f x {at = at} u y =
      let w : ℕ = width (hi - lo) in
      let v : ℕ = uint b at w in
      let l : List ℕ = joined (λ a. encode (type_of f) a) y.val in
      let i : length y.val - lo ≡ v = omega (arith, y.good.0) in
      let c = length-bits_of w v in
      record {
        val = y.val;
        good = (omega (arith, y.good.0), omega (arith, y.good.0), y.good.1);
        spelt = rw i (spells_join b at (bits_of w v) l (uint_spells b bit at w) (rw c y.spelt));
        next = rw i (omega (arith, y.next, length-append (bits_of w v) l));
        recs = y.recs;
        fits = y.fits;
      }

  found_inner : (f : Fmt) (x : Ctx) {e at q k p : ℕ} {R : List Rec} → k < 16384 → Spells b at (length_bits k) → q ≡ at + length (length_bits k) → p ≡ q + k → p ≤ e → FoundF f x (q + k) q (q + k) R → FoundF (inner f) x e at p R
  unfolding encode tell
  found_inner f x {at = at} {q = q} {k = k} s b₁ y z u w =
      let a = encode (type_of f) w.val in
      let m : length a ≡ k = omega (arith, w.next) in
      record {
        val = w.val;
        good = (omega arith, w.good);
        spelt = rw m (spells_join b at (length_bits k) a b₁ (rw y at w.spelt));
        next = rw m (omega (arith, length-append (length_bits k) a));
        recs = w.recs ∙ rw (m, y);
        fits = u;
      }

  -- units of w bits are of the alphabet
  units-all : (w at i : ℕ) → All (λ c. c < 2 ^ w) (units b w at i)
  unfolding units
  units-all w at zero = tt
  units-all w at (suc i) = (uint-lt b bit at w, units-all w (at + w) i)

  found_any_span : (t w : ℕ) (x : Ctx) {e at q k p : ℕ} {R : List Rec} → k < 16384 → Spells b at (length_bits k) → q ≡ at + length (length_bits k) → p ≡ q + k * w → p ≤ e → R ≡ spanned t x.0 at q (k * w) → FoundF (any_span t w) x e at p R
  unfolding encode tell
  found_any_span t w x {e = e} {at = at} {q = q} {k = k} s b₁ y z u r =
      let n : ℕ = 2 ^ w in
      let c = rw (width-pow w) at (units-spelt b bit n q k) in
      let v : List ℕ = units b w q k in
      record {
        val = v;
        good = (rw c.0 s, units-all w q k);
        spelt = rw c.0 (spells_join b at (length_bits k) (unit_bits n v) b₁ (rw (← y) c.1));
        next = rw c.0 (let a = length-append (length_bits k) (unit_bits n v) in let i : length (unit_bits n v) ≡ k * w = length-units b e n v ∙ rw (width-pow w, c.0) in omega arith);
        recs = r ∙ rw (c.0, y);
        fits = u;
      }

  -- a record before the part
  found-noted : (r : ℕ → Rec) (f : Fmt) (x : Ctx) {e at p : ℕ} {U R : List Rec} → FoundF f x e at p U → R ≡ r at ∷ U → Found (λ v. InRange (type_of f) v) (λ v. encode (type_of f) v) (λ v q. r q ∷ tell f v x q) b e at p R
  found-noted r f x {at = at} y z = record { val = y.val; good = y.good; spelt = y.spelt; next = y.next; recs = z ∙ ap (λ (l : List Rec). r at ∷ l) y.recs; fits = y.fits }

  abbrev pub Sound : Fmt → Type 0
  Sound f = (x : Ctx) (e at p : ℕ) (R : List Rec) → read f x b e at ≡ ok p R 0 → at ≤ e → FoundF f x e at p R

  sound-text : (t n : ℕ) (c : Letters) (lo hi : ℕ) → Sound (text t n c lo hi)
  unfolding read encode tell
  sound-text t n c lo hi x e at p R h l =
      let w : ℕ = width (n - 1) in
      let s = sized_inv b e at lo hi _ h in
      let q : ℕ = at + width (hi - lo) in
      let k : ℕ = lo + uint b at (width (hi - lo)) in
      let y = letters_inv b e w n k q _ s.2 s.0 in
      let z : p ≡ q + k * w = (let u = y.2 in cc) in
      found-string n lo hi e at s.1 y.1 z (omega (arith, y.0)) (let u = y.2 in cc)

  sound-span : (t w lo hi : ℕ) → Sound (span t w lo hi)
  unfolding read encode tell
  sound-span t w lo hi x e at p R h l =
      let n : ℕ = 2 ^ w in
      let s = sized_inv b e at lo hi _ h in
      let q : ℕ = at + width (hi - lo) in
      let k : ℕ = lo + uint b at (width (hi - lo)) in
      let y = pull_inv b e q (k * w) _ s.2 in
      let z : p ≡ q + k * w = (let u = y.1 in cc) in
      let c = rw (width-pow w) at (units-spelt b bit n q k) in
      found-string n lo hi e at s.1 (rw (width-pow w) (units-all w q k)) (rw (width-pow w) z) (omega (arith, y.0)) (rw (width-pow w, c.0) (let u = y.1 in cc))

  mutual
    unfolding read encode tell preamble index Spells

    pub sound : (f : Fmt) → Sound f
    sound (num t lo hi) x e at p R h l =
        let w : ℕ = width (extent lo hi) in
        let y = pull_inv b e at w _ h in
        let g : over (extent lo hi) (uint b at w) ≡ 0 = cc in
        found_number w e at y.0 (over_inv (extent lo hi) (uint b at w) g) (cc) (cc)
    sound (listed t hi xs) x e at p R h l =
        let w : ℕ = width hi in
        let v : ℕ = uint b at w in
        let y = pull_inv b e at w _ h in
        let g : unless (leb v hi && member v xs) 1 ≡ 0 = cc in
        let m = both (leb v hi) (member v xs) (unless_inv (leb v hi && member v xs) 1 g) in
        found_number w e at y.0 (leb-true v hi m.0, m.1) (cc) (cc)
    sound (name t hi) x e at p R h l =
        let w : ℕ = width (extent 0 hi) in
        let v : ℕ = uint b at w in
        let y = pull_inv b e at w _ h in
        let g = guard_inv (leb v (extent 0 hi)) (at + w) _ _ y.1 in
        found_number w e at y.0 (leb-true v (extent 0 hi) g.0) (let z = g.1 in cc) (let z = g.1 in cc)
    sound (text t n c lo hi) x e at p R h l = sound-text t n c lo hi x e at p R h l
    sound (span t w lo hi) x e at p R h l = sound-span t w lo hi x e at p R h l
    sound (any_span t w) x e at p R h l =
        let y = length_inv b bit e at _ h in
        let z = pull_inv b e y.behind (y.len * w) _ y.goes in
        let c = y.clean in
        let n : p ≡ y.behind + y.len * w = (let u = z.1 in cc) in
        found_any_span t w x c.0 c.1 c.2 n (omega (arith, z.0)) (let u = z.1 in cc)
    sound (skipped m) x e at p R h l = never_after m at [] _ h
    sound (small m t) x e at p R h l = never_after m at [] _ h
    sound null x e at p R h l = let z : p ≡ at = cc in record { val = tt; good = tt; spelt = tt; next = omega arith; recs = cc; fits = omega arith }
    sound (noted t v s f) x e at p R h l =
        let y = then_ok at (rec t x.0 v s at ∷ []) 0 (λ q. read f x b e q) h in
        found-noted (rec t x.0 v s) f x (sound f x e at p y.1 y.2 l) y.3
    sound (placed t f) x e at p R h l =
        let y = then_ok at (rec t x.0 x.1 0 at ∷ []) 0 (λ q. read f x b e q) h in
        found-noted (rec t x.0 x.1 0) f x (sound f x e at p y.1 y.2 l) y.3
    sound (marked m) x e at p R h l = never_marked m h
    sound (refuse w m) x e at p R h l = never h
    sound (element f) x e at p R h l =
        let z : FoundF f (x.1, x.1) e at p R = sound f (x.1, x.1) e at p R h l in
        record { val = z.val; good = z.good; spelt = z.spelt; next = z.next; recs = z.recs; fits = z.fits }
    sound (ext f g) x e at p R h l =
        let y = pull_inv b e at 1 _ h in
        elim (fork_inv (uint b at 1) _ _ y.1) [
          | inl z ↦ found_ext f g x (sym (uint-one b at) ∙ z.0) (sound f x e (at + 1) p R z.1 (omega arith))
          | inr z ↦ never_after 2 (at + 1) [] (λ q. read g x b e q) z.2
        ]
    sound (seq fs) x e at p R h l =
        let y = fetch_inv b e at (flags fs) _ _ (λ q. never q) h in
        found_fields fs x e at p R y.1 (λ U z. sound_fields fs x e at (at + flags fs) p U z (omega arith))
    sound (loose fs) x e at p R h l =
        let y = fetch_inv b e at (flags fs) _ _ (λ q. never_late 1 [] _ _ q) h in
        let z : FoundF (seq fs) x e at p R = found_fields fs x e at p R y.1 (λ U z. sound_fields fs x e at (at + flags fs) p U z (omega arith)) in
        record { val = z.val; good = z.good; spelt = z.spelt; next = z.next; recs = z.recs; fits = z.fits }
    sound (choice t fs) x e at p R h l =
        let w : ℕ = width (highest (alternatives_of fs)) in
        let i : ℕ = uint b at w in
        let y = pull_inv b e at w _ h in
        let z = then_ok (at + w) (rec t x.0 i 0 at ∷ []) 0 (λ q. read_choice fs i x b e q) y.1 in
        rw z.3 (found_choice t fs x (sound_choice fs i x e (at + w) p z.1 z.2 (omega arith)))
    sound (many lo hi f) x e at p R h l =
        let w : ℕ = width (hi - lo) in
        let y = sized_inv b e at lo hi _ h in
        found_many lo hi f x y.1
        (times_inv (λ a. InRange (type_of f) a) (λ a. encode (type_of f) a) (λ i a q. tell f a (x.0, i) q) b e (λ i q. read f (x.0, i) b e q) (λ i q p' R' h' l'. sound f (x.0, i) e q p' R' h' l') 1 (lo + uint b at w) (at + w) p R y.2 y.0)
    sound (inner f) x e at p R h l =
        let y = length_inv b bit e at _ h in
        let z = pull_inv b e y.behind y.len _ y.goes in
        let u = close_inv (y.behind + y.len) _ z.1 in
        let c = y.clean in
        found_inner f x c.0 c.1 c.2 u.1 (omega arith) (sound f x (y.behind + y.len) y.behind (y.behind + y.len) R u.0 (omega arith))
    sound (soft m r f) x e at p R h l =
        let z : FoundF f x e at p R = sound f x e at p R (soft_inv m r (read f x b e at) h) l in
        record { val = z.val; good = z.good; spelt = z.spelt; next = z.next; recs = z.recs; fits = z.fits }
    sound (lax m j f) x e at p R h l =
        let z : FoundF f x e at p R = sound f x e at p R (lax_inv m j (read f x b e at) h) l in
        record { val = z.val; good = z.good; spelt = z.spelt; next = z.next; recs = z.recs; fits = z.fits }

    sound_fields : (fs : Flds) (x : Ctx) (e q at p : ℕ) (R : List Rec) → read_fields fs x b e q at ≡ ok p R 0 → at ≤ e → FoundFs fs x e q at p R
    sound_fields end x e q at p R h l = record { val = tt; good = (tt, tt); spelt = tt; next = (let z : p ≡ at = cc in omega arith); recs = cc; fits = (let z : p ≡ at = cc in omega arith) }
    sound_fields (f ⨾ fs) x e q at p R h l =
        let t : Two (read f x b e at) (λ y. read_fields fs x b e q y) p R = then_inv (read f x b e at) (λ y. read_fields fs x b e q y) h in
        let z : FoundF f x e at t.mid t.R₁ = sound f x e at t.mid t.R₁ t.first l in
        found_must f fs q x z (sound_fields fs x e q t.mid p t.R₂ t.second z.fits) t.recs
    sound_fields (f ⨾? fs) x e q at p R h l =
        elim (fork_inv (b q) _ _ h) [
          | inl y ↦ found_none (λ _. []) f fs q x y.0 (sound_fields fs x e (suc q) at p R y.1 l) refl
          | inr y ↦
              let t : Two (read f x b e at) (λ y. read_fields fs x b e (suc q) y) p R = then_inv (read f x b e at) (λ y. read_fields fs x b e (suc q) y) y.2 in
              let z : FoundF f x e at t.mid t.R₁ = sound f x e at t.mid t.R₁ t.first l in
              found_some (λ _. []) f fs q x (is_one b bit q y.1) z (sound_fields fs x e (suc q) t.mid p t.R₂ t.second z.fits) t.recs
        ]
    sound_fields (or_note t v s f fs) x e q at p R h l =
        let n : ℕ → List Rec = λ p. rec t x.0 v s p ∷ [] in
        elim (fork_inv (b q) _ _ h) [
          | inl y ↦
              let t = then_ok at (n at) 0 (λ y. read_fields fs x b e (suc q) y) y.1 in
              found_none n f fs q x y.0 (sound_fields fs x e (suc q) at p t.1 t.2 l) t.3
          | inr y ↦
              let t : Two (read f x b e at) (λ y. read_fields fs x b e (suc q) y) p R = then_inv (read f x b e at) (λ y. read_fields fs x b e (suc q) y) y.2 in
              let z : FoundF f x e at t.mid t.R₁ = sound f x e at t.mid t.R₁ t.first l in
              found_some n f fs q x (is_one b bit q y.1) z (sound_fields fs x e (suc q) t.mid p t.R₂ t.second z.fits) t.recs
        ]
    sound_fields (unread t fs) x e q at p R h l =
        elim (fork_inv (b q) _ _ h) [
          | inl y ↦ found-unread t fs q x y.0 (sound_fields fs x e (suc q) at p R y.1 l)
          | inr y ↦ never_after 4 at (rec t x.0 1 0 at ∷ []) (λ y. read_fields fs x b e (suc q) y) y.2
        ]

    sound_choice : (fs : Alts) (i : ℕ) (x : Ctx) (e at p : ℕ) (R : List Rec) → read_choice fs i x b e at ≡ ok p R 0 → at ≤ e → FoundAlt fs i x e at p R
    sound_choice none_left i x e at p R h l = never h
    sound_choice (f ∥ fs) zero x e at p R h l =
        let z : FoundF f x e at p R = sound f x e at p R h l in
        record { val = inl z.val; good = (refl, z.good); spelt = z.spelt; next = z.next; recs = z.recs; fits = z.fits }
    sound_choice (f ∥ fs) (suc i) x e at p R h l =
        let z : FoundAlt fs i x e at p R = sound_choice fs i x e at p R h l in
        record { val = inr z.val; good = (ap suc z.good.0, z.good.1); spelt = z.spelt; next = z.next; recs = z.recs; fits = z.fits }
