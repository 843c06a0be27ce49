-- A list from which a value is got is what that value shows, and the rest; and the value is in range.
use mathlib.Core.Path.{◌≡◌, refl, sym, ap, ◌∙◌}
use mathlib.Core.Bool.{Bool, true, false, cond, not, ◌&&◌, false≢true}
use mathlib.Core.Option.{Option}
use mathlib.Core.List.{List, [], ◌∷◌, ◌++◌, append_assoc}
use Prim.Native.Nat.{ℕ, zero, suc, ◌+◌, ◌^◌, ◌≤◌, ◌<◌}
use native.Mathlib.Omega.{arith}
use lib.ListN.{length, drop}
use lib.Dec.{leb, ltb, eqb}
use borrow.Author.Tests.{ltb-true, leb-true, eqb-true, not-false}
use Rattle.x691.specs.Types.{Value, Values, Pick, extent}
use Rattle.x691.specs.Encoding.{encode, index}
use Rattle.x691.specs.Range.{member, All, IfAny, InRange, AllInRange, PickInRange}
use Rattle.atn.specs.Format.{Fmt, num, listed, name, text, span, any_span, skipped, small, null, noted, placed, marked, refuse, element, ext, seq, loose, choice, many, inner, soft, lax}
use Rattle.atn.specs.Format.{Flds, end, ◌⨾◌, ◌⨾?◌, or_note, unread, Alts, none_left, ◌∥◌, type_of, members_of, alternatives_of}
use Rattle.atn.specs.Reading.{Ctx}
use Rattle.atn.proofs.Inverse.{both}
use Rattle.record_lists.specs.Items.{Item, plain, bits}
use Rattle.record_lists.specs.Shown.{show_any, show_all, shown, shown_fields, shown_pick}
use Rattle.record_lists.specs.Clear.{firsts}
use Rattle.record_lists.specs.Parse.{opens, value_of, bits_at, same_numbers, same, begins, above, code_of, text_of, units_of, all_below, good_size, Got, no, got, peel, leaf, keep, feed, turn, several, perhaps, parse, parse_fields, parse_pick}

-- where no value is got
pub nothing : {A B : Type 0} {v : A} {S : List Item} → no ≡ got v S → B
nothing h = let z : ◌≡◌ {A = ℕ} 0 1 = cc in absurd (omega arith)

onward : {R T : List Item} (x y S : List Item) → R ≡ x ++ T → T ≡ y ++ S → R ≡ (x ++ y) ++ S
onward x y S p q = rw (p, q) (sym (append_assoc x y S))

-- a good value shows this front of the list, and S is the rest
abbrev pub Tells : {A : Type 0} → (A → Type 0) → (A → List Item) → List Item → A → List Item → Type 0
Tells P h R v S = P v × (R ≡ h v ++ S)

abbrev pub Keeps : {A : Type 0} → (A → Type 0) → (A → List Item) → (List Item → Got A) → Type 0
Keeps {A} P h p = (R : List Item) (v : A) (S : List Item) → p R ≡ got v S → Tells P h R v S

---------------------------------------------------------------- items

pub numbers-same : (xs ys : List ℕ) → same_numbers xs ys ≡ true → xs ≡ ys
unfolding same_numbers
numbers-same [] [] h = refl
numbers-same [] (y ∷ ys) h = absurd (false≢true h)
numbers-same (x ∷ xs) [] h = absurd (false≢true h)
numbers-same (x ∷ xs) (y ∷ ys) h =
    let c = both (eqb x y) (same_numbers xs ys) h in
    rw (eqb-true x y c.0, numbers-same xs ys c.1)

pub same_inv : (i j : Item) → same i j ≡ true → i ≡ j
unfolding same
same_inv (plain t m v s) (plain u n w r) h =
    let c = both (eqb t u && eqb m n) (eqb v w && eqb s r) h in
    let d = both (eqb t u) (eqb m n) c.0 in
    let e = both (eqb v w) (eqb s r) c.1 in
    rw (eqb-true t u d.0, eqb-true m n d.1, eqb-true v w e.0, eqb-true s r e.1)
same_inv (bits t m xs) (bits u n ys) h =
    let c = both (eqb t u && eqb m n) (same_numbers xs ys) h in
    let d = both (eqb t u) (eqb m n) c.0 in
    rw (eqb-true t u d.0, eqb-true m n d.1, numbers-same xs ys c.1)
same_inv (plain t m v s) (bits u n ys) h = absurd (false≢true h)
same_inv (bits t m xs) (plain u n w r) h = absurd (false≢true h)

begins_inv : (i : Item) (R : List Item) → begins i R ≡ true → R ≡ i ∷ drop 1 R
unfolding begins
begins_inv i [] h = absurd (false≢true h)
begins_inv i (j ∷ R) h = rw (same_inv i j h)

---------------------------------------------------------------- steps

module _ {A : Type 0} where
  pub cond_inv : (t : Bool) (x : Got A) {v : A} {S : List Item} → cond t x no ≡ got v S → (t ≡ true) × (x ≡ got v S)
  cond_inv true x h = (refl, h)
  cond_inv false x h = nothing h

  pub peel_inv : (P : List Item) (a : A) (R : List Item) {v : A} {S : List Item} → peel P a R ≡ got v S → (v ≡ a) × (R ≡ P ++ S)
  unfolding peel
  peel_inv [] a R h = (cc, cc)
  peel_inv (i ∷ P) a [] h = nothing h
  peel_inv (i ∷ P) a (j ∷ R) h =
      let c = cond_inv (same i j) (peel P a R) h in
      let k = peel_inv P a R c.1 in
      (k.0, rw (same_inv i j c.0, k.1))

  leaf_inv : (h : A → List Item) (g : A → Bool) (a : A) (R : List Item) {v : A} {S : List Item} → leaf h g a R ≡ got v S → Tells (λ x. g x ≡ true) h R v S
  unfolding leaf
  leaf_inv h g a R q =
      let c = cond_inv (g a) (peel (h a) a R) q in
      let i = peel_inv (h a) a R c.1 in
      (rw i.0 c.0, rw i.0 i.1)

  pub keep_inv : (g : A → Bool) (x : Got A) {v : A} {S : List Item} → keep g x ≡ got v S → (x ≡ got v S) × (g v ≡ true)
  unfolding keep
  keep_inv g no h = nothing h
  keep_inv g (got a R) {v} h =
      let c = cond_inv (g a) (got a R) h in
      let e = c.1 in
      let z : a ≡ v = cc in
      (c.1, rw (← z) c.0)

module _ {A B : Type 0} where
  pub feed_inv : (x : Got A) (k : A → List Item → Got B) {v : B} {S : List Item} → feed x k ≡ got v S → (a : A) × (T : List Item) × (x ≡ got a T) × (k a T ≡ got v S)
  unfolding feed
  feed_inv no k h = nothing h
  feed_inv (got a R) k h = (a, R, refl, h)

  pub turn_inv : (g : A → B) (x : Got A) {v : B} {S : List Item} → turn g x ≡ got v S → (a : A) × (x ≡ got a S) × (v ≡ g a)
  unfolding turn
  turn_inv g no h = nothing h
  turn_inv g (got a R) h = (a, cc, cc)

module _ {A : Type 0} (P : A → Type 0) (h : ℕ → A → List Item) (p : ℕ → List Item → Got A) (ih : (i : ℕ) → Keeps P (h i) (p i)) where
  several_step : (i n : ℕ) (R : List Item) (t : Bool) (k : List Item → Got (List A)) → Keeps (λ xs. (length xs ≤ n) × All P xs) (λ xs. show_all h (suc i) xs) k
      → (vs : List A) (S : List Item) → cond t (feed (p i R) λ a S. turn (λ xs. a ∷ xs) (k S)) (got [] R) ≡ got vs S → Tells (λ xs. (length xs ≤ suc n) × All P xs) (λ xs. show_all h i xs) R vs S
  unfolding show_all
  several_step i n R true k ik vs S q =
      let x = feed_inv (p i R) _ q in
      let y = turn_inv _ (k x.1) x.3 in
      let a = ih i R x.0 x.1 x.2 in
      let b = ik x.1 y.0 S y.1 in
      rw y.2 ((omega (arith, b.0.0), (a.0, b.0.1)), onward (h i x.0) (show_all h (suc i) y.0) S a.1 b.1)
  several_step i n R false k ik vs S q = let z : vs ≡ [] = cc in rw z ((omega arith, tt), cc)

  pub several_inv : (o : List Item → Bool) (i n : ℕ) (R : List Item) {vs : List A} {S : List Item} → several p o i n R ≡ got vs S
      → Tells (λ xs. (length xs ≤ n) × All P xs) (λ xs. show_all h i xs) R vs S
  unfolding several show_all
  several_inv o i zero R {vs} q = let e : vs ≡ [] = cc in rw e ((omega arith, tt), cc)
  several_inv o i (suc n) R {vs} {S} q = several_step i n R (o R) (λ R. several p o (suc i) n R) (λ R x T r. several_inv o (suc i) n R r) vs S q

module _ {A : Type 0} (P : A → Type 0) (h : A → List Item) (p : List Item → Got A) (ih : Keeps P h p) where
  -- Z are the items that stand for an absent part
  perhaps_inv : {B : Type 0} (Q : B → Type 0) (j : B → List Item) (k : List Item → Got B) → Keeps Q j k
      → (Z : List Item) (n : ℕ) (t : Bool) (R : List Item) → (t ≡ false → R ≡ Z ++ drop n R) → (v : Option A × B) (S : List Item) → perhaps p k n t R ≡ got v S
      → Tells (λ x. IfAny P x.0 × Q x.1) (λ x. show_any h Z x.0 ++ j x.1) R v S
  unfolding perhaps show_any
  perhaps_inv Q j k ik Z n true R z v S q =
      let x = feed_inv (p R) _ q in
      let y = turn_inv _ (k x.1) x.3 in
      let a = ih R x.0 x.1 x.2 in
      let b = ik x.1 y.0 S y.1 in
      rw y.2 ((a.0, b.0), onward (h x.0) (j y.0) S a.1 b.1)
  perhaps_inv Q j k ik Z n false R z v S q =
      let y = turn_inv _ (k (drop n R)) q in
      let b = ik (drop n R) y.0 S y.1 in
      rw y.2 ((tt, b.0), onward Z (j y.0) S (z refl) b.1)

---------------------------------------------------------------- strings

below_inv : (n : ℕ) (cs : List ℕ) → all_below n cs ≡ true → All (λ c. c < n) cs
unfolding all_below
below_inv n [] h = tt
below_inv n (c ∷ cs) h = let d = both (ltb c n) (all_below n cs) h in (ltb-true c n d.0, below_inv n cs d.1)

string_inv : (n lo hi : ℕ) (cs : List ℕ) → good_size lo hi (length cs) && all_below n cs ≡ true → (lo ≤ length cs) × (length cs ≤ hi) × All (λ c. c < n) cs
unfolding good_size
string_inv n lo hi cs h =
    let c = both (leb lo (length cs) && leb (length cs) hi) (all_below n cs) h in
    let d = both (leb lo (length cs)) (leb (length cs) hi) c.0 in
    (leb-true lo (length cs) d.0, leb-true (length cs) hi d.1, below_inv n cs c.1)

---------------------------------------------------------------- formats

mutual
  unfolding parse shown index

  pub forth : (f : Fmt) (x : Ctx) (R : List Item) {v : Value (type_of f)} {S : List Item} → parse f x R ≡ got v S → Tells (λ u. InRange (type_of f) u) (λ u. shown f u x) R v S
  forth (num t lo hi) x R {v} q = let y = leaf_inv _ _ (above lo (value_of R)) R q in (leb-true v (extent lo hi) y.0, y.1)
  forth (listed t hi xs) x R {v} q =
      let y = leaf_inv _ (λ u. leb u hi && member u xs) (value_of R) R q in
      let c = both (leb v hi) (member v xs) y.0 in
      ((leb-true v hi c.0, c.1), y.1)
  forth (name t hi) x R {v} q = let y = leaf_inv _ _ (value_of R) R q in (leb-true v (extent 0 hi) y.0, y.1)
  forth (text t n c lo hi) x R {v} q =
      let y = leaf_inv _ (λ cs. good_size lo hi (length cs) && all_below n cs) (text_of (code_of c) R) R q in
      (string_inv n lo hi v y.0, y.1)
  forth (span t w lo hi) x R {v} q =
      let y = leaf_inv _ (λ cs. good_size lo hi (length cs) && all_below (2 ^ w) cs) (units_of w (bits_at t R)) R q in
      (string_inv (2 ^ w) lo hi v y.0, y.1)
  forth (any_span t w) x R {v} q =
      let y = leaf_inv _ (λ cs. ltb (length cs) 16384 && all_below (2 ^ w) cs) (units_of w (bits_at t R)) R q in
      let c = both (ltb (length v) 16384) (all_below (2 ^ w) v) y.0 in
      ((ltb-true (length v) 16384 c.0, below_inv (2 ^ w) v c.1), y.1)
  forth (skipped m) x R q = nothing q
  forth (small m t) x R q = nothing q
  forth null x R q = (tt, cc)
  forth (noted t y s f) x R q =
      let a = feed_inv (peel (plain t x.0 y s ∷ []) zero R) _ q in
      let p = peel_inv (plain t x.0 y s ∷ []) zero R a.2 in
      let b = forth f x a.1 a.3 in
      (b.0, p.1 ∙ ap (λ (T : List Item). plain t x.0 y s ∷ T) b.1)
  forth (placed t f) x R q =
      let a = feed_inv (peel (plain t x.0 x.1 0 ∷ []) zero R) _ q in
      let p = peel_inv (plain t x.0 x.1 0 ∷ []) zero R a.2 in
      let b = forth f x a.1 a.3 in
      (b.0, p.1 ∙ ap (λ (T : List Item). plain t x.0 x.1 0 ∷ T) b.1)
  forth (marked m) x R q = nothing q
  forth (refuse w m) x R q = nothing q
  forth (element f) x R q = forth f (x.1, x.1) R q
  forth (ext f g) x R q = forth f x R q
  forth (seq fs) x R q = forth_fields fs x R q
  forth (loose fs) x R q = forth_fields fs x R q
  forth (choice t fs) x R q =
      let a = feed_inv (leaf (λ i. plain t x.0 i 0 ∷ []) (λ i. true) (value_of R) R) _ q in
      let y = leaf_inv (λ i. plain t x.0 i 0 ∷ []) (λ i. true) (value_of R) R a.2 in
      let z = forth_pick fs a.0 x a.1 a.3 in
      (z.1, y.1 ∙ rw z.0 (ap (λ (T : List Item). plain t x.0 a.0 0 ∷ T) z.2))
  forth (many lo hi f) x R {v} q =
      let y = keep_inv _ (several (λ i S. parse f (x.0, i) S) (λ S. opens (firsts f) S) 1 hi R) q in
      let z = several_inv (λ a. InRange (type_of f) a) (λ i a. shown f a (x.0, i)) (λ i S. parse f (x.0, i) S) (λ i T u U e. forth f (x.0, i) T e) (λ S. opens (firsts f) S) 1 hi R y.0 in
      ((leb-true lo (length v) y.1, z.0.0, z.0.1), z.1)
  forth (inner f) x R {v} q =
      let y = keep_inv _ (parse f x R) q in
      let z = forth f x R y.0 in
      ((ltb-true (length (encode (type_of f) v)) 16384 y.1, z.0), z.1)
  forth (soft m r f) x R q = forth f x R q
  forth (lax m j f) x R q = forth f x R q

  pub forth_fields : (fs : Flds) (x : Ctx) (R : List Item) {v : Values (members_of fs)} {S : List Item} → parse_fields fs x R ≡ got v S
      → Tells (λ u. AllInRange (members_of fs) u) (λ u. shown_fields fs u x) R v S
  forth_fields end x R q = (tt, cc)
  forth_fields (f ⨾ fs) x R {v} {S} q =
      let y = feed_inv (parse f x R) _ q in
      let z = turn_inv _ (parse_fields fs x y.1) y.3 in
      let a = forth f x R y.2 in
      let b = forth_fields fs x y.1 z.1 in
      rw z.2 ((a.0, b.0), onward (shown f y.0 x) (shown_fields fs z.0 x) S a.1 b.1)
  forth_fields (f ⨾? fs) x R {v} {S} q =
      perhaps_inv (λ a. InRange (type_of f) a) (λ a. shown f a x) (λ T. parse f x T) (λ T u U e. forth f x T e)
      (λ a. AllInRange (members_of fs) a) (λ a. shown_fields fs a x) (λ T. parse_fields fs x T) (λ T u U e. forth_fields fs x T e) [] 0 (opens (firsts f) R) R (λ _. refl) v S q
  forth_fields (or_note t y s f fs) x R {v} {S} q =
      perhaps_inv (λ a. InRange (type_of f) a) (λ a. shown f a x) (λ T. parse f x T) (λ T u U e. forth f x T e)
      (λ a. AllInRange (members_of fs) a) (λ a. shown_fields fs a x) (λ T. parse_fields fs x T) (λ T u U e. forth_fields fs x T e) (plain t x.0 y s ∷ []) 1 (not (begins (plain t x.0 y s) R)) R
      (λ e. begins_inv (plain t x.0 y s) R (not-false (begins (plain t x.0 y s) R) e)) v S q
  forth_fields (unread t fs) x R {v} {S} q =
      let y = turn_inv _ (parse_fields fs x R) q in
      let b = forth_fields fs x R y.1 in
      rw y.2 ((tt, b.0), b.1)

  pub forth_pick : (fs : Alts) (i : ℕ) (x : Ctx) (R : List Item) {c : Pick (alternatives_of fs)} {S : List Item} → parse_pick fs i x R ≡ got c S
      → (index (alternatives_of fs) c ≡ i) × PickInRange (alternatives_of fs) c × (R ≡ shown_pick fs c x ++ S)
  forth_pick none_left i x R q = nothing q
  forth_pick (f ∥ fs) zero x R q =
      let y = turn_inv _ (parse f x R) q in
      let a = forth f x R y.1 in
      rw y.2 (refl, a.0, a.1)
  forth_pick (f ∥ fs) (suc i) x R q =
      let y = turn_inv _ (parse_pick fs i x R) q in
      let a = forth_pick fs i x R y.1 in
      rw y.2 (ap suc a.0, a.1, a.2)
