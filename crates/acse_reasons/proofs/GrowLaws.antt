-- How readings go together: one after another, behind a number; and what the leaves leave.
use Rattle.std.proofs.Common.{◌≡◌, ℕ, zero, suc, ◌+◌, ◌-◌, ◌/◌, Bool, true, false, cond, eqb, List, [], ◌++◌, sym, refl, ◌∙◌, append_assoc, append-nil, arith, eq-eqb, ne_eqb}
use Rattle.x691.specs.Bits.{bit_of}
use Rattle.atn.specs.Format.{out}
use Rattle.atn.specs.Reading.{Rec, Ans, ok, stop, glue, then, or, pull}
use Rattle.atn.proofs.Marks.{or_nil}
use Rattle.atn.proofs.Steps.{pull_go, pull_no}
use Rattle.atn.proofs.Then.{glue-then}
use Rattle.cursor.specs.declared.place.Cursor.{Cursor}
use Rattle.cursor.specs.declared.place.Got.{Got}
use Rattle.cursor.specs.Place.{number, put, stopped, marked, Inside, Pulled, stuck, short, got, Pulls}
use Rattle.cursor.proofs.Laws.{Behind}
use Rattle.acse_reasons.specs.SoFar.{so_far, Grows}

---------------------------------------------------------------- the answer so far

pub so_far_on : (c : Cursor) (R : List Rec) → c.why ≡ 0 → so_far c R ≡ ok c.at R c.marks
unfolding so_far
so_far_on c R z = rw (eq-eqb c.why 0 z)

pub so_far_off : (c : Cursor) (R : List Rec) → (c.why ≡ 0 → ⊥) → so_far c R ≡ stop (out (c.why / 16)) c.at R c.marks
unfolding so_far
so_far_off c R n = rw (ne_eqb c.why 0 n)

-- a reading goes on, or it has stopped
pub by_why : {A : Type 0} (c : Cursor) → (c.why ≡ 0 → A) → ((c.why ≡ 0 → ⊥) → A) → A
by_why {A} c f g = go c.why refl
  where
    go : (w : ℕ) → c.why ≡ w → A
    go zero z = f z
    go (suc w) z = g (λ y. omega arith)

-- only what follows from the cursor's place counts
pub so_far_same : (c : Cursor) (Q : List Rec) (k l : ℕ → Ans) → (c.why ≡ 0 → k c.at ≡ l c.at) → then (so_far c Q) k ≡ then (so_far c Q) l
unfolding then
so_far_same c Q k l h = by_why c (λ z. rw (so_far_on c Q z, h z)) (λ n. rw (so_far_off c Q n))

---------------------------------------------------------------- one after another

so_far_then : (c : Cursor) (Q : List Rec) (k l : ℕ → Ans) → then (so_far c Q) (λ p. then (k p) l) ≡ then (then (so_far c Q) k) l
unfolding then
so_far_then c Q k l = by_why c (λ z. rw (so_far_on c Q z) (sym (glue-then Q c.marks (k c.at) l))) (λ n. rw (so_far_off c Q n))

pub grows_then : {s : List ℕ} {c d e : Cursor} {R S : List Rec} (k l : ℕ → ℕ → Ans) → Grows k s c d R → Grows l s d e S → Grows (λ u p. then (k u p) (λ q. l u q)) s c e (R ++ S)
grows_then {s} {c} {d} {e} {R} {S} k l x y =
    record {
      grew = λ i.
          let f = x.grew i in
          let g = y.grew f.inside in
          record {
            inside = g.inside;
            window = g.window ∙ f.window;
            gives = λ Q. so_far_then c Q (λ p. k c.end p) (λ p. l c.end p) ∙ rw (f.gives Q, ← f.window) (g.gives (Q ++ R) ∙ rw append_assoc);
          };
    }

---------------------------------------------------------------- leaves

-- the same reading
pub grows_same : {s : List ℕ} {c d : Cursor} {R : List Rec} (k l : ℕ → ℕ → Ans) → (Inside s c → c.why ≡ 0 → k c.end c.at ≡ l c.end c.at) → Grows k s c d R → Grows l s c d R
grows_same {c = c} k l h x =
    record {
      grew = λ i.
          let f = x.grew i in
          record { inside = f.inside; window = f.window; gives = λ Q. so_far_same c Q (λ p. l c.end p) (λ p. k c.end p) (λ z. sym (h i z)) ∙ f.gives Q };
    }

-- nothing more is read: marks, and records where the reading goes on
pub grows_ok : {s : List ℕ} {c d : Cursor} (R : List Rec) (m : ℕ) → d ≡ marked c m → Grows (λ u p. ok p R m) s c d (cond (eqb d.why 0) R [])
unfolding marked stopped so_far then glue
grows_ok {s} {c} {d} R m q = by_why c
    (λ z.
    let y : d ≡ put c c.at 0 (or c.marks m) = q ∙ rw (eq-eqb c.why 0 z) in
    rw y record { grew = λ i. record { inside = i; window = refl; gives = λ Q. rw (eq-eqb c.why 0 z) } })
    (λ n.
    let y : d ≡ c = q ∙ rw (ne_eqb c.why 0 n) in
    rw (y, ne_eqb c.why 0 n) record { grew = λ i. record { inside = i; window = refl; gives = λ Q. rw (ne_eqb c.why 0 n, append-nil Q) } })

-- records that have the place where the reading stands
pub grows_here : {s : List ℕ} {c d : Cursor} (R : ℕ → List Rec) (m : ℕ) → d ≡ marked c m → Grows (λ u p. ok p (R p) m) s c d (cond (eqb d.why 0) (R c.at) [])
grows_here {c = c} R m q = grows_same (λ u p. ok p (R c.at) m) (λ u p. ok p (R p) m) (λ i z. refl) (grows_ok (R c.at) m q)

pub grows_mark : {s : List ℕ} {c d : Cursor} (m : ℕ) → d ≡ marked c m → Grows (λ u p. ok p [] m) s c d []
grows_mark {s} {c} {d} m q = go (eqb d.why 0) (grows_ok [] m q)
  where
    go : (b : Bool) → Grows (λ u p. ok p [] m) s c d (cond b [] []) → Grows (λ u p. ok p [] m) s c d []
    go true r = r
    go false r = r

---------------------------------------------------------------- behind a number

module _ {s : List ℕ} {c : Cursor} (n : ℕ) (g : Got ℕ) (k : ℕ → ℕ → ℕ → Ans) where
  pub pulled_step : (Q : List Rec) → Pulled s c n g → then (so_far c Q) (λ p. Behind s n k c.end p) ≡ then (so_far g.c Q) (λ p. k g.v g.c.end p)
  unfolding so_far then glue
  pulled_step Q (stuck h q) = rw (q, ne_eqb c.why 0 h)
  pulled_step Q (short z l q) =
      let o : ℕ = c.at + n - c.end in
      let u : eqb (number (out o)) 0 ≡ false = ne_eqb (number (out o)) 0 (λ x. omega arith) in
      let v : number (out o) / 16 ≡ o = omega arith in
      rw (q, eq-eqb c.why 0 z, pull_no (bit_of s) c.end c.at n (λ v. k v c.end (c.at + n)) l, append-nil Q, or_nil c.marks, u, v)
  pulled_step Q (got z l v q) = rw (q, eq-eqb c.why 0 z, pull_go (bit_of s) c.end c.at n (λ v. k v c.end (c.at + n)) l, v)

  pub pulled_inside : Inside s c → Pulled s c n g → Inside s g.c × (g.c.end ≡ c.end)
  pulled_inside i (stuck h q) = rw q (i, refl)
  pulled_inside i (short z l q) = rw q (i, refl)
  pulled_inside i (got z l v q) = rw q ((l, i.1), refl)

  pub grows_pull : {d : Cursor} {R : List Rec} → Pulls s c n g → Grows (λ u p. k g.v u p) s g.c d R → Grows (Behind s n k) s c d R
  grows_pull x y =
      record {
        grew = λ i.
            let o = pulled_inside i (x.gave i) in
            let f = y.grew o.0 in
            record { inside = f.inside; window = f.window ∙ o.1; gives = λ Q. pulled_step Q (x.gave i) ∙ f.gives Q };
      }

-- the same where what follows also knows the place at which the bits started
pub grows_from : {s : List ℕ} {c d : Cursor} {R : List Rec} (n : ℕ) (g : Got ℕ) (k : ℕ → ℕ → ℕ → ℕ → Ans) → Pulls s c n g → Grows (λ u q. k c.at g.v u q) s g.c d R
    → Grows (λ u p. pull (bit_of s) u p n (λ v. k p v u (p + n))) s c d R
grows_from {s} {c} n g k x y = grows_same (Behind s n (k c.at)) (λ u p. pull (bit_of s) u p n (λ v. k p v u (p + n))) (λ i z. refl) (grows_pull n g (k c.at) x y)
