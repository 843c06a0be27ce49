-- "At shift's end the captures offered equal the bound, the repeated and the turned away, each counted from the calls made."
use Rattle.std.proofs.Common.{◌≡◌, ℕ, suc, ◌+◌, ◌^◌, ◌<◌, Bool, true, false, cond, eqb, List, [], ◌∷◌, length, refl, ap, ◌∙◌, arith, eqb-true}
use Rattle.station.specs.declared.Offered.{Offered}
use Rattle.station.specs.declared.Offered.TheVariants.{Bound, Repeated, Refused}
use Rattle.station.specs.declared.Shift.{Shift}
use Rattle.station.specs.Offers.{Call, offer}
use Rattle.station.specs.Shifts.{none_yet, next, is_bound, is_repeated, is_refused, counted, offer_counted, Turn, Day, begun, after, worked, run, calls_of, answers_of, counting, times, Balanced}

-- the shift of each station has counted the answers to its own calls, whosever calls stood between them
pub counts_own : (p : ℕ) (d : Day) (ts : List Turn) → (worked d ts).shift p ≡ counting (d.shift p) (answers_of p d.book ts)
unfolding worked after offer_counted answers_of counting
counts_own p d [] = refl
counts_own p d (t ∷ ts) = counts_own p (after d t) ts ∙ go (eqb t.station p) refl
  where
    a : Offered
    a = (offer t.made d.book).0

    A : List Offered
    A = answers_of p (offer t.made d.book).1 ts

    go : (b : Bool) → eqb t.station p ≡ b → counting (cond b (counted (d.shift t.station) a) (d.shift p)) A ≡ counting (d.shift p) (cond b (a ∷ A) A)
    go true e = rw (eqb-true t.station p e)
    go false e = refl

-- and the book is what the calls leave
pub same_book : (d : Day) (ts : List Turn) → (worked d ts).book ≡ run d.book ts
unfolding worked after offer_counted run
same_book d [] = refl
same_book d (t ∷ ts) = same_book (after d t) ts

-- every call has one answer, and every answer is of one kind
one_answer : (p : ℕ) (w : List ℕ) (ts : List Turn) → length (answers_of p w ts) ≡ length (calls_of p ts)
unfolding answers_of calls_of
one_answer p w [] = refl
one_answer p w (t ∷ ts) = go (eqb t.station p) (offer t.made w).0 t.made (answers_of p (offer t.made w).1 ts) (calls_of p ts) (one_answer p (offer t.made w).1 ts)
  where
    go : (b : Bool) (a : Offered) (c : Call) (A : List Offered) (C : List Call) → length A ≡ length C → length (cond b (a ∷ A) A) ≡ length (cond b (c ∷ C) C)
    go true a c A C e = ap suc e
    go false a c A C e = e

pub one_kind : (A : List Offered) → times is_bound A + times is_repeated A + times is_refused A ≡ length A
unfolding times
one_kind [] = refl
one_kind (Bound ∷ A) = omega (arith, one_kind A)
one_kind (Repeated k ∷ A) = omega (arith, one_kind A)
one_kind (Refused n p k ∷ A) = omega (arith, one_kind A)

-- what is counted from n on: in 64 bits
counts : (fits : Offered → Bool) → ℕ → List Offered → ℕ
counts fits n [] = n
counts fits n (a ∷ A) = counts fits (cond (fits a) (next n) n) A

counts-times : (fits : Offered → Bool) (n : ℕ) (A : List Offered) → n + times fits A < 2 ^ 64 → counts fits n A ≡ n + times fits A
unfolding counts times
counts-times fits n [] h = omega arith
counts-times fits n (a ∷ A) h = go (fits a) h (λ m. counts-times fits m A)
  where
    go : (b : Bool) → n + (cond b 1 0 + times fits A) < 2 ^ 64 → ((m : ℕ) → m + times fits A < 2 ^ 64 → counts fits m A ≡ m + times fits A) → counts fits (cond b (next n) n) A ≡ n + (cond b 1 0 + times fits A)
    go true l i = let e : next n ≡ n + 1 = omega arith in rw e (i (n + 1) (omega arith) ∙ omega arith)
    go false l i = i n (omega arith) ∙ omega arith

each : (s : Shift) (A : List Offered) → counting s A ≡ record { offered = counts (λ a. true) s.offered A; bound = counts is_bound s.bound A; repeated = counts is_repeated s.repeated A; refused = counts is_refused s.refused A }
unfolding counting counts
each s [] = refl
each s (a ∷ A) = each (counted s a) A

all-times : (A : List Offered) → times (λ a. true) A ≡ length A
unfolding times
all-times [] = refl
all-times (a ∷ A) = omega (arith, all-times A)

-- for any calls of any stations from any book; 2^64 calls of one shift are not made
pub shift_end : (p : ℕ) (w : List ℕ) (ts : List Turn) → length (calls_of p ts) < 2 ^ 64 → Balanced ((worked (begun w) ts).shift p) (calls_of p ts) (answers_of p w ts)
shift_end p w ts h =
    let A = answers_of p w ts in
    let o = one_answer p w ts in
    let k = one_kind A in
    let a = counts-times (λ a. true) 0 A (omega (arith, all-times A)) in
    let b = counts-times is_bound 0 A (omega arith) in
    let r = counts-times is_repeated 0 A (omega arith) in
    let f = counts-times is_refused 0 A (omega arith) in
    rw (counts_own p (begun w) ts, each none_yet A) (record { offered = omega (arith, all-times A); bound = omega arith; repeated = omega arith; refused = omega arith; sum = omega (arith, all-times A) })
