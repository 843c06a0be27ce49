-- Readings put together: one after another, behind a number, on one side of a fork.
use Rattle.std.proofs.Common.{◌≡◌, ℕ, zero, suc, ◌+◌, ◌-◌, ◌/◌, ◌%◌, ◌^◌, cond, eqb, List, [], ◌++◌, sym, refl, ap, ◌∙◌, arith, eq-eqb, ne_eqb}
use Rattle.x691.specs.Bits.{bit_of, uint}
use Rattle.x691.proofs.BitLaws.{uint-one}
use Rattle.per.proofs.Laws.{uint-within}
use Rattle.atn.specs.Format.{Why, out}
use Rattle.atn.specs.Reading.{Rec, Ans, ok, stop, glue, then, or, pull}
use Rattle.atn.proofs.Marks.{or_assoc, or_nil}
use Rattle.atn.proofs.Steps.{pull_go, pull_no}
use Rattle.cursor.specs.declared.place.Cursor.{Cursor}
use Rattle.cursor.specs.declared.place.Got.{Got}
use Rattle.cursor.specs.Place.{number, put, stopped, marked, Inside, Pulled, stuck, short, got, Pulls, Led, stayed, went, failed, Reads}

-- what was read, from its value and the cursor behind it
pub got_is : {A : Type 0} {x : A} {c : Cursor} {r : Got A} → r.v ≡ x → r.c ≡ c → r ≡ record { v = x; c = c }
got_is h q = rw (← h, ← q) refl

-- the window stays
pub led_inside : (k : ℕ → ℕ → Ans) (s : List ℕ) (c d : Cursor) {R : List Rec} → Led k c d R → Inside s c → Inside s d
led_inside k s c d (stayed h q) i = rw q i
led_inside k s c d (went p m z a l q) i = rw q (l, i.1)
led_inside k s c d (failed w p m S n z a l q) i = rw q (l, i.1)

-- the same reading
pub reads_same : {s : List ℕ} {c d : Cursor} {R : List Rec} (k l : ℕ → ℕ → Ans) → k c.end c.at ≡ l c.end c.at → Reads k s c d R → Reads l s c d R
reads_same {s} {c} {d} {R} k l q r = record { led = λ i. go (r.led i) }
  where
    go : Led k c d R → Led l c d R
    go (stayed h e) = stayed h e
    go (went p m z a h e) = went p m z (sym q ∙ a) h e
    go (failed w p m S n z a h e) = failed w p m S n z (sym q ∙ a) h e

-- behind a failure the cursor stays
pub led_stays : (k : ℕ → ℕ → Ans) (c d : Cursor) {R : List Rec} → (c.why ≡ 0 → ⊥) → Led k c d R → d ≡ c
led_stays k c d h (stayed g q) = q
led_stays k c d h (went p m z a l q) = absurd (h z)
led_stays k c d h (failed w p m S n z a l q) = absurd (h z)

-- a reading that begins at another place of the window
pub led_from : {c e d : Cursor} {p : ℕ} {R : List Rec} (k l : ℕ → ℕ → Ans) → c.why ≡ 0 → e ≡ put c p 0 c.marks → k c.end p ≡ l c.end c.at → Led k e d R → Led l c d R
led_from k l z q y (stayed h x) = absurd (h (rw q refl))
led_from {c} {e} {d} {p} {R} k l z q y (went p' m w a b x) =
    let a' : k c.end p ≡ ok p' R m = rw q at a in
    went p' m z (sym y ∙ a') (rw q at b) (x ∙ rw q)
led_from {c} {e} {d} {p} k l z q y (failed v p' m S n w a b x) =
    let a' : k c.end p ≡ stop v p' S m = rw q at a in
    failed v p' m S n z (sym y ∙ a') (rw q at b) (x ∙ rw q)

---------------------------------------------------------------- one after another

module _ (k l : ℕ → ℕ → Ans) {c d e : Cursor} {R S : List Rec} where
  led_then : Led k c d R → Led l d e S → Led (λ u p. then (k u p) (λ q. l u q)) c e (R ++ S)
  unfolding then glue
  led_then (stayed h q) (stayed g y) = stayed h (y ∙ q)
  led_then (stayed h q) (went p m z a b y) = absurd (h (rw q at z))
  led_then (stayed h q) (failed w p m T n z a b y) = absurd (h (rw q at z))
  led_then (went p m z a b q) (stayed g y) = absurd (g (rw q refl))
  led_then (went p m z a b q) (went p' m' z' a' b' q') =
      let x : l c.end p ≡ ok p' S m' = rw q at a' in
      went p' (or m m') z (rw (a, x)) (rw q at b') (q' ∙ rw (q, or_assoc c.marks m m'))
  led_then (went p m z a b q) (failed w p' m' T n z' a' b' q') =
      let x : l c.end p ≡ stop w p' T m' = rw q at a' in
      failed w p' (or m m') (R ++ T) n z (rw (a, x)) (rw q at b') (q' ∙ rw (q, or_assoc c.marks m m'))
  led_then (failed w p m T n z a b q) (stayed g y) = failed w p m T n z (rw a) b (y ∙ q)
  led_then (failed w p m T n z a b q) (went p' m' z' a' b' q') = absurd (n (rw q at z'))
  led_then (failed w p m T n z a b q) (failed w' p' m' T' n' z' a' b' q') = absurd (n (rw q at z'))

pub reads_then : {s : List ℕ} {c d e : Cursor} {R S : List Rec} (k l : ℕ → ℕ → Ans) → Reads k s c d R → Reads l s d e S → Reads (λ u p. then (k u p) (λ q. l u q)) s c e (R ++ S)
reads_then {s} {c} {d} k l x y = record { led = λ i. led_then k l (x.led i) (y.led (led_inside k s c d (x.led i) i)) }

---------------------------------------------------------------- leaves

-- nothing more is read: records, marks
pub reads_ok : {s : List ℕ} {c d : Cursor} (R : List Rec) (m : ℕ) → d ≡ marked c m → Reads (λ u p. ok p R m) s c d R
unfolding marked stopped
reads_ok {s} {c} {d} R m q = record { led = λ i. go i c.why refl }
  where
    go : Inside s c → (w : ℕ) → c.why ≡ w → Led (λ u p. ok p R m) c d R
    go i zero z = went c.at m z refl i.0 (q ∙ rw (eq-eqb c.why 0 z))
    go i (suc w) z = let n : c.why ≡ 0 → ⊥ = (λ y. omega arith) in stayed n (q ∙ rw (ne_eqb c.why 0 n))

-- records that have the place where the reading stands
pub reads_here : {s : List ℕ} {c d : Cursor} (R : ℕ → List Rec) (m : ℕ) → d ≡ marked c m → Reads (λ u p. ok p (R p) m) s c d (R c.at)
reads_here {c = c} R m q = reads_same (λ u p. ok p (R c.at) m) (λ u p. ok p (R p) m) refl (reads_ok (R c.at) m q)

-- the reading stops, whatever was told before
pub reads_stop_with : {s : List ℕ} {c d : Cursor} {R : List Rec} (S : List Rec) (w : Why) (m : ℕ) → (number w ≡ 0 → ⊥) → d ≡ stopped c (number w) m → Reads (λ u p. stop w p S m) s c d R
unfolding stopped
reads_stop_with {s} {c} {d} {R} S w m n q = record { led = λ i. go i c.why refl }
  where
    go : Inside s c → (v : ℕ) → c.why ≡ v → Led (λ u p. stop w p S m) c d R
    go i zero z = failed w c.at m S n z refl i.0 (q ∙ rw (eq-eqb c.why 0 z))
    go i (suc v) z = let y : c.why ≡ 0 → ⊥ = (λ y. omega arith) in stayed y (q ∙ rw (ne_eqb c.why 0 y))

pub reads_stop : {s : List ℕ} {c d : Cursor} {R : List Rec} (w : Why) (m : ℕ) → (number w ≡ 0 → ⊥) → d ≡ stopped c (number w) m → Reads (λ u p. stop w p [] m) s c d R
reads_stop w m n q = reads_stop_with [] w m n q

---------------------------------------------------------------- behind a number

abbrev pub Behind : List ℕ → ℕ → (ℕ → ℕ → ℕ → Ans) → ℕ → ℕ → Ans
Behind s n k u p = pull (bit_of s) u p n (λ v. k v u (p + n))

pub pulled_inside : (s : List ℕ) (c : Cursor) (n : ℕ) (g : Got ℕ) → Inside s c → Pulled s c n g → Inside s g.c
pulled_inside s c n g i (stuck h q) = rw q i
pulled_inside s c n g i (short z l q) = rw q i
pulled_inside s c n g i (got z l v q) = rw q (l, i.1)

module _ {s : List ℕ} {c d : Cursor} {R : List Rec} (n : ℕ) (g : Got ℕ) (k : ℕ → ℕ → ℕ → Ans) where
  pulled_then : Inside s c → Pulled s c n g → Led (λ u p. k g.v u p) g.c d R → Led (Behind s n k) c d R
  pulled_then i (stuck h q) r = stayed h (led_stays _ g.c d (rw q h) r ∙ q)
  pulled_then i (short z l q) r =
      failed (out (c.at + n - c.end)) c.at 0 [] (λ x. omega arith) z (pull_no (bit_of s) c.end c.at n _ l) i.0 (led_stays _ g.c d (rw q (λ x. omega arith)) r ∙ q ∙ rw (or_nil c.marks))
  pulled_then i (got z l v q) r = led_from (λ u p. k g.v u p) (Behind s n k) z q (sym (pull_go (bit_of s) c.end c.at n _ l ∙ rw (← v))) r

  -- n bits, and what follows them
  pub pull-then : Pulls s c n g → Reads (λ u p. k g.v u p) s g.c d R → Reads (Behind s n k) s c d R
  pull-then x y = record { led = λ i. pulled_then i (x.gave i) (y.led (pulled_inside s c n g i (x.gave i))) }

-- the same where what follows also knows the place at which the bits started
pub pull-from : {s : List ℕ} {c d : Cursor} {R : List Rec} (n : ℕ) (g : Got ℕ) (k : ℕ → ℕ → ℕ → ℕ → Ans) → Pulls s c n g → Reads (λ u q. k c.at g.v u q) s g.c d R
    → Reads (λ u p. pull (bit_of s) u p n (λ v. k p v u (p + n))) s c d R
pull-from {s} {c} n g k x y = reads_same (Behind s n (k c.at)) (λ u p. pull (bit_of s) u p n (λ v. k p v u (p + n))) refl (pull-then n g (k c.at) x y)

---------------------------------------------------------------- what marks and stops leave

pub marked-nil : (c : Cursor) → c ≡ marked c 0
unfolding marked stopped
marked-nil c = go c.why refl
  where
    go : (w : ℕ) → c.why ≡ w → c ≡ cond (eqb c.why 0) (put c c.at 0 (or c.marks 0)) c
    go zero z = rw (eq-eqb c.why 0 z, or_nil c.marks) (ap (λ (w : ℕ). put c c.at w c.marks) z)
    go (suc w) z = rw (ne_eqb c.why 0 (λ y. omega arith))

-- behind a stop nothing goes on
pub stopped_stops : (c : Cursor) {d : Cursor} (w m : ℕ) → (w ≡ 0 → ⊥) → d ≡ stopped c w m → d.why ≡ 0 → ⊥
unfolding stopped
stopped_stops c {d} w m h q z = by c.why refl
  where
    by : (v : ℕ) → c.why ≡ v → ⊥
    by zero y = h (rw (q, eq-eqb c.why 0 y) at z)
    by (suc v) y = let n : c.why ≡ 0 → ⊥ = (λ k. omega arith) in n (rw (q, ne_eqb c.why 0 n) at z)

---------------------------------------------------------------- one bit of a number

pub bit-of : (s : List ℕ) (at j r n : ℕ) → j + 1 + r ≡ n → uint (bit_of s) at n / 2 ^ r % 2 ≡ bit_of s (at + j)
bit-of s at j r n h = rw (← h) (sym (uint-within s at j 1 r) ∙ uint-one (bit_of s) (at + j))
