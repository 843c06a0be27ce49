-- No value of a format has more records than the most that are counted for it.
use mathlib.Core.Path.{◌≡◌, refl, ap}
use mathlib.Core.Bool.{Bool, true, false, cond}
use mathlib.Core.Option.{Option, none, some}
use mathlib.Core.Logic.{inl, inr}
use mathlib.Core.List.{List, [], ◌∷◌, ◌++◌}
use Prim.Native.Nat.{ℕ, zero, suc, ◌+◌, ◌-◌, ◌*◌, ◌/◌, ◌≤◌, max}
use native.Mathlib.Omega.{arith}
use native.Mathlib.Nat.{mul-le-mul_right, suc-mul}
use lib.ListN.{length, drop, length-append}
use Rattle.x691.specs.Types.{Value, Values, Pick}
use Rattle.x691.specs.Encoding.{width, highest, if_any, encode}
use Rattle.x691.specs.Range.{All, IfAny, InRange, AllInRange, PickInRange}
use Rattle.atn.specs.Format.{Fmt, num, listed, name, text, span, any_span, skipped, small, null, noted, placed, marked, refuse, element, ext, seq, loose, choice, many, inner, soft, lax}
use Rattle.atn.specs.Format.{Flds, end, ◌⨾◌, ◌⨾?◌, or_note, unread, Alts, none_left, ◌∥◌, type_of, members_of, alternatives_of, Letters, first, numeric}
use Rattle.atn.specs.Reading.{Rec, rec, Ctx, packs, pack, coded, spaced, none_above, lettered, spanned}
use Rattle.atn.specs.Told.{tell, tell_fields, tell_pick, tell_any, tell_all}
use Rattle.atn.specs.Entries.{accept, read_frame}
use Rattle.atn.specs.Demands.{Message}
use Rattle.atn.proofs.Demands.{clean-message}
use Rattle.atn.proofs.Texts.{length-coded, length-spaced}
use Rattle.record_bounds.specs.Most.{texts, most, most_fields, most_alts}

length-packs : (t m q n k : ℕ) (cs : List ℕ) → length (packs t m q n k cs) ≡ k
unfolding packs
length-packs t m q n zero cs = refl
length-packs t m q n (suc k) cs = ap suc (length-packs t m q n k (drop 8 cs))

pack-few : (t m q hi : ℕ) (cs : List ℕ) → length cs ≤ hi → length (pack t m q cs) ≤ (hi + 7) / 8
unfolding pack
pack-few t m q hi cs h = let k = length-packs t m q (length cs) ((length cs + 7) / 8) cs in omega arith

letters-few : (t m q hi : ℕ) (c : Letters) (us : List ℕ) → length us ≤ hi → length (lettered t c m q us) ≤ texts c * ((hi + 7) / 8)
letters-few t m q hi (first c) us h = omega (arith, pack-few t m q hi (coded c us) (omega (arith, length-coded c us)))
letters-few t m q hi (numeric v) us h =
    let a = pack-few t m q hi (coded 48 us) (omega (arith, length-coded 48 us)) in
    let b = pack-few v m q hi (spaced us) (omega (arith, length-spaced us)) in
    go (none_above 10 us) a b
  where
    go : (x : Bool) → length (pack t m q (coded 48 us)) ≤ (hi + 7) / 8 → length (pack v m q (spaced us)) ≤ (hi + 7) / 8 → length (pack t m q (coded 48 us) ++ cond x (pack v m q (spaced us)) []) ≤ 2 * ((hi + 7) / 8)
    go true a b = omega (arith, length-append (pack t m q (coded 48 us)) (pack v m q (spaced us)))
    go false a b = omega (arith, length-append (pack t m q (coded 48 us)) [])

span-few : (t m at q n : ℕ) → length (spanned t m at q n) ≤ 1
unfolding spanned
span-few t m at q zero = omega arith
span-few t m at q (suc n) = omega arith

any_few : {A : Type 0} (h : A → List Rec) (P : A → Type 0) (Z : List Rec) (k : ℕ) → length Z ≤ k → ((a : A) → P a → length (h a) ≤ k) → (o : Option A) → IfAny P o → length (tell_any h Z o) ≤ k
unfolding tell_any
any_few h P Z k z ih none g = z
any_few h P Z k z ih (some a) g = ih a g

all-few : {A : Type 0} (enc : A → List ℕ) (r : ℕ → A → ℕ → List Rec) (P : A → Type 0) (k : ℕ) → ((i : ℕ) (a : A) (q : ℕ) → P a → length (r i a q) ≤ k) → (i : ℕ) (vs : List A) (q : ℕ) → All P vs → length (tell_all enc r i vs q) ≤ length vs * k
unfolding tell_all
all-few enc r P k ih i [] q g = omega arith
all-few enc r P k ih i (a ∷ vs) q g =
    let x = ih i a q g.0 in
    let y = all-few enc r P k ih (suc i) vs (q + length (enc a)) g.1 in
    let e : length (a ∷ vs) * k ≡ length vs * k + k = suc-mul (length vs) k in
    omega (arith, length-append (r i a q) (tell_all enc r (suc i) vs (q + length (enc a))))

mutual
  unfolding most tell

  pub fewer : (f : Fmt) (v : Value (type_of f)) (x : Ctx) (at : ℕ) → InRange (type_of f) v → length (tell f v x at) ≤ most f
  fewer (num t lo hi) v x at g = omega arith
  fewer (listed t hi xs) v x at g = omega arith
  fewer (name t hi) v x at g = omega arith
  fewer (text t n c lo hi) v x at g = letters-few t x.0 at hi c v g.1
  fewer (span t w lo hi) v x at g = span-few t x.0 at _ _
  fewer (any_span t w) v x at g = span-few t x.0 at _ _
  fewer (skipped m) v x at g = absurd v
  fewer (small m t) v x at g = absurd v
  fewer null v x at g = omega arith
  fewer (noted t y s f) v x at g = omega (arith, fewer f v x at g)
  fewer (placed t f) v x at g = omega (arith, fewer f v x at g)
  fewer (marked m) v x at g = absurd v
  fewer (refuse w m) v x at g = absurd v
  fewer (element f) v x at g = fewer f v (x.1, x.1) at g
  fewer (ext f h) v x at g = fewer f v x (at + 1) g
  fewer (seq fs) v x at g = fewer_fields fs v x _ g
  fewer (loose fs) v x at g = fewer_fields fs v x _ g
  fewer (choice t fs) v x at g = omega (arith, fewer_pick fs v x (at + width (highest (alternatives_of fs))) g)
  fewer (many lo hi f) v x at g =
      let y = all-few (λ a. encode (type_of f) a) (λ i a q. tell f a (x.0, i) q) (λ a. InRange (type_of f) a) (most f) (λ i a q h. fewer f a (x.0, i) q h) 1 v (at + width (hi - lo)) g.2 in
      let z : length v * most f ≤ hi * most f = mul-le-mul_right (most f) g.1 in
      omega arith
  fewer (inner f) v x at g = fewer f v x _ g.1
  fewer (soft m r f) v x at g = fewer f v x at g
  fewer (lax m j f) v x at g = fewer f v x at g

  pub fewer_fields : (fs : Flds) (vs : Values (members_of fs)) (x : Ctx) (at : ℕ) → AllInRange (members_of fs) vs → length (tell_fields fs vs x at) ≤ most_fields fs
  fewer_fields end vs x at g = omega arith
  fewer_fields (f ⨾ fs) vs x at g =
      let q : ℕ = at + length (encode (type_of f) vs.0) in
      omega (arith, length-append (tell f vs.0 x at) (tell_fields fs vs.1 x q), fewer f vs.0 x at g.0, fewer_fields fs vs.1 x q g.1)
  fewer_fields (f ⨾? fs) vs x at g =
      let q : ℕ = at + length (if_any (λ v. encode (type_of f) v) vs.0) in
      let one = any_few (λ v. tell f v x at) (λ v. InRange (type_of f) v) [] (most f) (omega arith) (λ v h. fewer f v x at h) vs.0 g.0 in
      omega (arith, length-append (tell_any (λ v. tell f v x at) [] vs.0) (tell_fields fs vs.1 x q), one, fewer_fields fs vs.1 x q g.1)
  fewer_fields (or_note t y s f fs) vs x at g =
      let q : ℕ = at + length (if_any (λ v. encode (type_of f) v) vs.0) in
      let note : List Rec = rec t x.0 y s at ∷ [] in
      let one = any_few (λ v. tell f v x at) (λ v. InRange (type_of f) v) note (max 1 (most f)) (omega arith) (λ v h. omega (arith, fewer f v x at h)) vs.0 g.0 in
      omega (arith, length-append (tell_any (λ v. tell f v x at) note vs.0) (tell_fields fs vs.1 x q), one, fewer_fields fs vs.1 x q g.1)
  fewer_fields (unread t fs) vs x at g = fewer_fields fs vs.1 x at g.1

  pub fewer_pick : (fs : Alts) (v : Pick (alternatives_of fs)) (x : Ctx) (at : ℕ) → PickInRange (alternatives_of fs) v → length (tell_pick fs v x at) ≤ most_alts fs
  fewer_pick none_left v x at g = absurd v
  fewer_pick (f ∥ fs) (inl v) x at g = omega (arith, fewer f v x at g)
  fewer_pick (f ∥ fs) (inr v) x at g = omega (arith, fewer_pick fs v x at g)

-- a clean reading has no more
pub clean-few : (f : Fmt) (s : List ℕ) {p : ℕ} {R : List Rec} → read_frame f s ≡ accept false p 0 R → length R ≤ most f
clean-few f s {p} {R} h = let m : Message f s p R = clean-message f s p R h in rw m.recs (fewer f m.val (0, 0) 0 m.in_range)
