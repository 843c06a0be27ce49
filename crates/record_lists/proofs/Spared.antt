-- A value that is got from a list is plain, where the format is clear: no default is written out, and no part is there that shows nothing.
use mathlib.Core.Path.{◌≡◌, refl, sym, ◌∙◌}
use mathlib.Core.Bool.{Bool, true, false, cond, not, ◌&&◌, false≢true}
use mathlib.Core.Option.{Option}
use mathlib.Core.List.{List, [], ◌∷◌, ◌++◌}
use Prim.Native.Nat.{ℕ, zero, suc}
use native.Mathlib.Omega.{arith}
use lib.ListN.{drop}
use borrow.Author.Tests.{not-true}
use Rattle.x691.specs.Types.{Value, Values, Pick}
use Rattle.x691.specs.Range.{IfAny, InRange}
use Rattle.atn.specs.Format.{Fmt, num, listed, name, text, span, any_span, skipped, small, null, noted, placed, marked, refuse, element, ext, seq, loose, choice, many, inner, soft, lax}
use Rattle.atn.specs.Format.{Flds, end, ◌⨾◌, ◌⨾?◌, or_note, unread, Alts, none_left, ◌∥◌, type_of, members_of, alternatives_of}
use Rattle.atn.specs.Reading.{Ctx}
use Rattle.atn.proofs.Inverse.{both}
use Rattle.record_lists.specs.Items.{Item, plain}
use Rattle.record_lists.specs.Shown.{show_all, shown, shown_fields}
use Rattle.record_lists.specs.Clear.{apart, solid, solid_fields, firsts, firsts_fields, unlike, ahead, clear, clear_fields, clear_alts}
use Rattle.record_lists.specs.Parse.{opens, value_of, begins, Got, got, peel, leaf, feed, turn, several, perhaps, parse, parse_fields, parse_pick}
use Rattle.record_lists.specs.Plain.{Says, Unless, AllFrom, Plain, PlainFields, PlainPick}
use Rattle.record_lists.proofs.First.{Lead, Follows, lead_follow, lead-all, lead, lead_fields, opens_no}
use Rattle.record_lists.proofs.Forth.{nothing, Keeps, keep_inv, feed_inv, turn_inv, several_inv, forth, forth_fields}

---------------------------------------------------------------- parts

unless : (b : Bool) {P : Type 0} → P → Unless b P
unless true p = tt
unless false p = p

-- a part that opens the list shows something, where what stands behind it cannot open it
part-shows : (F H : List ℕ) (l T : List Item) → apart F H ≡ true → Follows H T → opens F (l ++ T) ≡ true → Says l
part-shows F H [] T a w o = absurd (false≢true (sym (opens_no F H T a w) ∙ o))
part-shows F H (i ∷ l) T a w o = tt

-- a list that does not begin with the note has no front that does
front-begins : (i : Item) (l T : List Item) → begins i (l ++ T) ≡ false → begins i l ≡ false
unfolding begins
front-begins i [] T h = refl
front-begins i (j ∷ l) T h = h

module _ {A B : Type 0} (P : A → Type 0) (Q : B → Type 0) (p : List Item → Got A) (k : List Item → Got B) (n : ℕ) (R S : List Item) where
  perhaps_plain : (t : Bool) (v : Option A × B) → perhaps p k n t R ≡ got v S → ((a : A) (T : List Item) (b : B) → t ≡ true → p R ≡ got a T → k T ≡ got b S → P a)
      → ((T : List Item) (b : B) → k T ≡ got b S → Q b) → IfAny P v.0 × Q v.1
  unfolding perhaps
  perhaps_plain true v q f g =
      let x = feed_inv (p R) _ q in
      let y = turn_inv _ (k x.1) x.3 in
      rw y.2 (f x.0 x.1 y.0 refl x.2 y.1, g x.1 y.0 y.1)
  perhaps_plain false v q f g = let y = turn_inv _ (k (drop n R)) q in rw y.2 (tt, g (drop n R) y.0 y.1)

-- what the other fields are got from begins with one of their tags
rest_follows : (fs : Flds) (x : Ctx) (G : List ℕ) (R : List Item) {v : Values (members_of fs)} {S : List Item} → parse_fields fs x R ≡ got v S → Follows G S → Follows (ahead (firsts_fields fs) (solid_fields fs) G) R
rest_follows fs x G R {v} {S} q w =
    let b = forth_fields fs x R q in
    rw b.1 (lead_follow (firsts_fields fs) G (solid_fields fs) (shown_fields fs v x) S (lead_fields fs v x b.0) w)

---------------------------------------------------------------- lists

module _ {A : Type 0} (P : A → Type 0) (Q : ℕ → A → Type 0) (h : ℕ → A → List Item) (p : ℕ → List Item → Got A) (ih : (i : ℕ) → Keeps P (h i) (p i)) (F G : List ℕ) (first : (i : ℕ) (a : A) → P a → Lead F true (h i a))
    (each : (i : ℕ) (R : List Item) (a : A) (S : List Item) → p i R ≡ got a S → Follows (F ++ G) S → Q i a) where
  several_plain : (o : List Item → Bool) (i n : ℕ) (R : List Item) {vs : List A} {S : List Item} → several p o i n R ≡ got vs S → Follows G S → AllFrom Q i vs
  unfolding several ahead
  several_plain o i zero R {vs} q w = let e : vs ≡ [] = cc in rw e tt
  several_plain o i (suc n) R {vs} {S} q w = go (o R) (λ T xs r. several_plain o (suc i) n T r w) q
    where
      go : (t : Bool) → ((T : List Item) (xs : List A) → several p o (suc i) n T ≡ got xs S → AllFrom Q (suc i) xs) → cond t (feed (p i R) λ a T. turn (λ xs. a ∷ xs) (several p o (suc i) n T)) (got [] R) ≡ got vs S → AllFrom Q i vs
      go true k r =
          let x = feed_inv (p i R) _ r in
          let y = turn_inv _ (several p o (suc i) n x.1) x.3 in
          let b = several_inv P h p ih o (suc i) n x.1 y.1 in
          let f : Follows (F ++ G) x.1 = rw b.1 (lead_follow F G false (show_all h (suc i) y.0) S (lead-all P h F true first 0 (suc i) y.0 (omega arith) b.0.1) w) in
          rw y.2 (each i R x.0 x.1 x.2 f, k x.1 y.0 y.1)
      go false k r = let e : vs ≡ [] = cc in rw e tt

---------------------------------------------------------------- formats

mutual
  unfolding parse clear

  pub plain_got : (f : Fmt) (x : Ctx) (sp : ℕ → Bool) (G : List ℕ) (R : List Item) {v : Value (type_of f)} {S : List Item} → clear sp f G ≡ true → parse f x R ≡ got v S → Follows G S → Plain f v x
  plain_got (num t lo hi) x sp G R c q w = tt
  plain_got (listed t hi xs) x sp G R c q w = tt
  plain_got (name t hi) x sp G R c q w = tt
  plain_got (text t n k lo hi) x sp G R c q w = tt
  plain_got (span t u lo hi) x sp G R c q w = tt
  plain_got (any_span t u) x sp G R c q w = tt
  plain_got (skipped m) x sp G R c q w = nothing q
  plain_got (small m t) x sp G R c q w = nothing q
  plain_got null x sp G R c q w = tt
  plain_got (noted t y s f) x sp G R c q w =
      let a = feed_inv (peel (plain t x.0 y s ∷ []) zero R) _ q in
      plain_got f x sp G a.1 (both (not (sp t)) (clear sp f G) c).1 a.3 w
  plain_got (placed t f) x sp G R c q w =
      let a = feed_inv (peel (plain t x.0 x.1 0 ∷ []) zero R) _ q in
      plain_got f x sp G a.1 (both (not (sp t)) (clear sp f G) c).1 a.3 w
  plain_got (marked m) x sp G R c q w = nothing q
  plain_got (refuse u m) x sp G R c q w = nothing q
  plain_got (element f) x sp G R c q w = plain_got f (x.1, x.1) sp G R c q w
  plain_got (ext f g) x sp G R c q w = plain_got f x sp G R c q w
  plain_got (seq fs) x sp G R c q w = plain_fields_got fs x sp G R c q w
  plain_got (loose fs) x sp G R c q w = plain_fields_got fs x sp G R c q w
  plain_got (choice t fs) x sp G R c q w =
      let a = feed_inv (leaf (λ i. plain t x.0 i 0 ∷ []) (λ i. true) (value_of R) R) _ q in
      plain_pick_got fs a.0 x sp G a.1 (both (not (sp t)) (clear_alts sp fs G) c).1 a.3 w
  plain_got (many lo hi f) x sp G R c q w =
      let d = both (solid f) (apart (firsts f) G && clear sp f (firsts f ++ G)) c in
      let e = both (apart (firsts f) G) (clear sp f (firsts f ++ G)) d.1 in
      let y = keep_inv _ (several (λ i S. parse f (x.0, i) S) (λ S. opens (firsts f) S) 1 hi R) q in
      several_plain (λ a. InRange (type_of f) a) (λ i a. Plain f a (x.0, i)) (λ i a. shown f a (x.0, i)) (λ i S. parse f (x.0, i) S) (λ i T u U r. forth f (x.0, i) T r) (firsts f) G
      (λ i a g. rw (← d.0) (lead f a (x.0, i) g)) (λ i T a U r k. plain_got f (x.0, i) sp (firsts f ++ G) T e.1 r k) (λ S. opens (firsts f) S) 1 hi R y.0 w
  plain_got (inner f) x sp G R c q w = plain_got f x sp G R c (keep_inv _ (parse f x R) q).0 w
  plain_got (soft m r f) x sp G R c q w = plain_got f x sp G R c q w
  plain_got (lax m j f) x sp G R c q w = plain_got f x sp G R c q w

  pub plain_fields_got : (fs : Flds) (x : Ctx) (sp : ℕ → Bool) (G : List ℕ) (R : List Item) {v : Values (members_of fs)} {S : List Item} → clear_fields sp fs G ≡ true → parse_fields fs x R ≡ got v S → Follows G S → PlainFields fs v x
  plain_fields_got end x sp G R c q w = tt
  plain_fields_got (f ⨾ fs) x sp G R c q w =
      let H = ahead (firsts_fields fs) (solid_fields fs) G in
      let d = both (clear sp f H) (clear_fields sp fs G) c in
      let y = feed_inv (parse f x R) _ q in
      let z = turn_inv _ (parse_fields fs x y.1) y.3 in
      rw z.2 (plain_got f x sp H R d.0 y.2 (rest_follows fs x G y.1 z.1 w), plain_fields_got fs x sp G y.1 d.1 z.1 w)
  plain_fields_got (f ⨾? fs) x sp G R {v} {S} c q w =
      let H = ahead (firsts_fields fs) (solid_fields fs) G in
      let d = both (apart (firsts f) H && clear sp f H) (clear_fields sp fs G) c in
      let e = both (apart (firsts f) H) (clear sp f H) d.0 in
      perhaps_plain (λ a. Unless (solid f) (Says (shown f a x)) × Plain f a x) (λ u. PlainFields fs u x) (λ T. parse f x T) (λ T. parse_fields fs x T) 0 R S (opens (firsts f) R) v q
      (λ a T b o r k.
      let m = rest_follows fs x G T k w in
      (unless (solid f) (part-shows (firsts f) H (shown f a x) T e.0 m (rw (forth f x R r).1 at o)), plain_got f x sp H R e.1 r m))
      (λ T b k. plain_fields_got fs x sp G T d.1 k w)
  plain_fields_got (or_note t y s f fs) x sp G R {v} {S} c q w =
      let H = ahead (firsts_fields fs) (solid_fields fs) G in
      let d = both ((not (sp t) && solid f) && clear sp f H) (clear_fields sp fs G) c in
      let e = both (not (sp t) && solid f) (clear sp f H) d.0 in
      let N = plain t x.0 y s in
      perhaps_plain (λ a. Unless (unlike t s f) (begins N (shown f a x) ≡ false) × Plain f a x) (λ u. PlainFields fs u x) (λ T. parse f x T) (λ T. parse_fields fs x T) 1 R S (not (begins N R)) v q
      (λ a T b o r k.
      (unless (unlike t s f) (front-begins N (shown f a x) T (rw (forth f x R r).1 at (not-true (begins N R) o))), plain_got f x sp H R e.1 r (rest_follows fs x G T k w)))
      (λ T b k. plain_fields_got fs x sp G T d.1 k w)
  plain_fields_got (unread t fs) x sp G R c q w =
      let y = turn_inv _ (parse_fields fs x R) q in
      rw y.2 (plain_fields_got fs x sp G R c y.1 w)

  pub plain_pick_got : (fs : Alts) (i : ℕ) (x : Ctx) (sp : ℕ → Bool) (G : List ℕ) (R : List Item) {v : Pick (alternatives_of fs)} {S : List Item} → clear_alts sp fs G ≡ true → parse_pick fs i x R ≡ got v S → Follows G S → PlainPick fs v x
  plain_pick_got none_left i x sp G R c q w = nothing q
  plain_pick_got (f ∥ fs) zero x sp G R c q w =
      let y = turn_inv _ (parse f x R) q in
      rw y.2 (plain_got f x sp G R (both (clear sp f G) (clear_alts sp fs G) c).0 y.1 w)
  plain_pick_got (f ∥ fs) (suc i) x sp G R c q w =
      let y = turn_inv _ (parse_pick fs i x R) q in
      rw y.2 (plain_pick_got fs i x sp G R (both (clear sp f G) (clear_alts sp fs G) c).1 y.1 w)
