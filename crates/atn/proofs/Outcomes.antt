-- From an entry's outcome back to its tests and its reading, and forth.
use mathlib.Core.Path.{◌≡◌, refl, sym, ap, ◌∙◌}
use mathlib.Core.Bool.{Bool, true, false, ◌&&◌}
use mathlib.Core.Logic.{◌⊎◌, inl, inr}
use mathlib.Core.List.{List, [], ◌∷◌, ◌++◌}
use Prim.Native.Nat.{ℕ, ◌+◌, ◌≤◌, ◌<◌}
use native.Mathlib.Omega.{arith}
use lib.ListN.{length, drop, length-append, length-drop}
use lib.Dec.{leb}
use borrow.Author.Tests.{leb-true, le-leb, lt-leb}
use Rattle.atn.specs.Reading.{Rec, rec}
use Rattle.atn.specs.Entries.{Reply, accept, ran_out, badly, unsupplied, accepted, refused, Outcome, flat, need, settle, Test, test, decide}
use Rattle.atn.specs.Demands.{passes, NoRoom}
use Rattle.atn.proofs.Inverse.{both}
use Rattle.atn.proofs.Reach.{split}
use Rattle.atn.proofs.Readings.{reply_reach}

-- the tests refuse with document 01's first three numbers
unfoldable pub early : List Test → Bool
early [] = true
early (test t n ∷ ts) = leb n 3 && early ts

-- an accepted reading and its records in the words
pub record Settled (r : Reply) (w : List ℕ) (c : Bool) (p m k : ℕ) (w' : List ℕ) : Type 0 where
  pub recs : List Rec
  pub replied : r ≡ accept c p m recs
  pub counted : k ≡ length recs
  pub fits : need recs ≤ length w
  pub words : w' ≡ flat recs ++ drop (need recs) w

pub answers_differ : {A : Type 0} {c : Bool} {p m k n q l j : ℕ} {w v : List ℕ} → ◌≡◌ {A = Outcome} (accepted c p m k, w) (refused n q l j, v) → A
answers_differ h = let x = ap (λ (o : Outcome). o.0) h in let z : ◌≡◌ {A = ℕ} 0 1 = cc in absurd (omega arith)

---------------------------------------------------------------- the settlement

pub settle-fits : (c : Bool) (p m : ℕ) (R : List Rec) (w : List ℕ) → need R ≤ length w → settle (accept c p m R) w ≡ (accepted c p m (length R), flat R ++ drop (need R) w)
unfolding settle
settle-fits c p m R w h = rw (le-leb (need R) (length w) h)

pub settle_full : (c : Bool) (p m : ℕ) (R : List Rec) (w : List ℕ) → length w < need R → settle (accept c p m R) w ≡ (refused 7 p (need R) 0, w)
unfolding settle
settle_full c p m R w h = rw (lt-leb (need R) (length w) h)

-- the words of records are as many as they need, so the lent words keep their number
pub flat-need : (R : List Rec) → length (flat R) ≡ need R
unfolding flat need
flat-need [] = refl
flat-need (rec t m v s q ∷ R) = omega (arith, flat-need R)

settle-kept : (r : Reply) (w : List ℕ) → length (settle r w).1 ≡ length w
unfolding settle
settle-kept (accept c p m R) w =
    split (need R) (length w)
    (λ l. ap (λ (o : Outcome). length o.1) (settle-fits c p m R w l) ∙ length-append (flat R) (drop (need R) w) ∙ omega (arith, flat-need R, length-drop (need R) w))
    (λ l. ap (λ (o : Outcome). length o.1) (settle_full c p m R w l))
settle-kept (ran_out p l) w = refl
settle-kept (badly p) w = refl
settle-kept (unsupplied p) w = refl

settle-accepted : (r : Reply) (w : List ℕ) {c : Bool} {p m k : ℕ} {w' : List ℕ} → settle r w ≡ (accepted c p m k, w') → Settled r w c p m k w'
unfolding settle
settle-accepted (accept c p m R) w h =
    split (need R) (length w)
    (λ l.
    let e = sym (settle-fits c p m R w l) ∙ h in
    let x = ap (λ (o : Outcome). o.0) e in
    record { recs = R; replied = cc; counted = cc; fits = l; words = sym (ap (λ (o : Outcome). o.1) e) })
    (λ l. answers_differ (sym h ∙ settle_full c p m R w l))
settle-accepted (ran_out p' l) w h = answers_differ (sym h)
settle-accepted (badly p') w h = answers_differ (sym h)
settle-accepted (unsupplied p') w h = answers_differ (sym h)

-- a refusal of the reading, or no room
pub settle-refused : (r : Reply) (w : List ℕ) {n p k l : ℕ} {w' : List ℕ} → settle r w ≡ (refused n p k l, w')
    → (w' ≡ w) × (reply_reach r ≡ p) × (n ≡ 7 → NoRoom r w p k w') × (n ≡ 5 → (r ≡ badly p) × (k ≡ 0) × (l ≡ 0)) × (n ≡ 4 → r ≡ ran_out p l) × ((n ≡ 4 → ⊥) → l ≡ 0)
unfolding settle reply_reach
settle-refused (accept c q m R) w {n} h =
    split (need R) (length w) (λ l. answers_differ (sym (settle-fits c q m R w l) ∙ h))
    (λ l.
    let e = sym (settle_full c q m R w l) ∙ h in
    let x = ap (λ (o : Outcome). o.0) e in
    let y = sym (ap (λ (o : Outcome). o.1) e) in
    let z : 7 ≡ n = cc in
    (y, (cc), (λ _. record { cut = c; marks = m; recs = R; replied = cc; needs = cc; full = l; words = y }), (λ f. absurd (omega arith)), (λ f. absurd (omega arith)), (λ _. cc)))
settle-refused (ran_out p' l') w {n} {p} {k} {l} {w'} h = let x = ap (λ (o : Outcome). o.0) h in let z : 4 ≡ n = cc in (sym (ap (λ (o : Outcome). o.1) h), (cc), (λ f. absurd (omega arith)), (λ f. absurd (omega arith)), (λ _. cc), (λ f. absurd (f (sym z))))
settle-refused (badly p') w {n} {p} {k} {l} {w'} h = let x = ap (λ (o : Outcome). o.0) h in let z : 5 ≡ n = cc in (sym (ap (λ (o : Outcome). o.1) h), (cc), (λ f. absurd (omega arith)), (λ f. (cc, cc, cc)), (λ f. absurd (omega arith)), (λ _. cc))
settle-refused (unsupplied p') w {n} {p} {k} {l} {w'} h = let x = ap (λ (o : Outcome). o.0) h in let z : 6 ≡ n = cc in (sym (ap (λ (o : Outcome). o.1) h), (cc), (λ f. absurd (omega arith)), (λ f. absurd (omega arith)), (λ f. absurd (omega arith)), (λ _. cc))

---------------------------------------------------------------- the tests

pub decide_go : (ts : List Test) (r : Reply) (w : List ℕ) → passes ts ≡ true → decide ts r w ≡ settle r w
unfolding decide passes
decide_go [] r w h = refl
decide_go (test true n ∷ ts) r w h = decide_go ts r w h
decide_go (test false n ∷ ts) r w h = let z : ◌≡◌ {A = ℕ} 0 1 = cc in absurd (omega arith)

pub decide-accepted : (ts : List Test) (r : Reply) (w : List ℕ) {c : Bool} {p m k : ℕ} {w' : List ℕ} → decide ts r w ≡ (accepted c p m k, w') → (passes ts ≡ true) × Settled r w c p m k w'
unfolding decide passes
decide-accepted [] r w h = (refl, settle-accepted r w h)
decide-accepted (test true n ∷ ts) r w h = decide-accepted ts r w h
decide-accepted (test false n ∷ ts) r w h = answers_differ (sym h)

pub decide-kept : (ts : List Test) (r : Reply) (w : List ℕ) → length (decide ts r w).1 ≡ length w
unfolding decide
decide-kept [] r w = settle-kept r w
decide-kept (test true n ∷ ts) r w = decide-kept ts r w
decide-kept (test false n ∷ ts) r w = refl

-- refused by a test, or by the reading
pub record Refused (ts : List Test) (r : Reply) (w : List ℕ) (n p k l : ℕ) (w' : List ℕ) : Type 0 where
  pub left : w' ≡ w
  pub reached : (p ≡ 0) ⊎ (reply_reach r ≡ p)
  pub idle : (n ≡ 4 → ⊥) → l ≡ 0
  pub late : early ts ≡ true → 3 < n → (passes ts ≡ true) × (settle r w ≡ (refused n p k l, w'))

pub decide-refused : (ts : List Test) (r : Reply) (w : List ℕ) {n p k l : ℕ} {w' : List ℕ} → decide ts r w ≡ (refused n p k l, w') → Refused ts r w n p k l w'
unfolding decide passes early
decide-refused [] r w h = record { left = (settle-refused r w h).0; reached = inr (settle-refused r w h).1; idle = (settle-refused r w h).5; late = λ _ _. (refl, h) }
decide-refused (test true n ∷ ts) r w h =
    let x = decide-refused ts r w h in
    record { left = x.left; reached = x.reached; idle = x.idle; late = λ e l. x.late (both (leb n 3) (early ts) e).1 l }
decide-refused (test false n' ∷ ts) r w {n} {p} {k} {l} {w'} h =
    let x = ap (λ (o : Outcome). o.0) h in
    let z : n' ≡ n = cc in
    record { left = sym (ap (λ (o : Outcome). o.1) h); reached = inl (cc); idle = λ _. cc; late = λ e l. absurd (omega (arith, leb-true n' 3 (both (leb n' 3) (early ts) e).0)) }
