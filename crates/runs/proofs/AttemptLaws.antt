-- A part that may be dropped with what it told.
use mathlib.Core.Path.{◌≡◌, refl, ap, ◌∙◌}
use mathlib.Core.Bool.{Bool, true, false}
use mathlib.Core.List.{List, []}
use Prim.Native.Nat.{ℕ, ◌%◌, ◌≤◌}
use native.Mathlib.Omega.{arith}
use Rattle.atn.specs.Format.{Why, out, bad, lack, quit}
use Rattle.atn.specs.Reading.{Rec, Ans, ok, past, stop, or, mark, laxly, give_up}
use Rattle.atn.proofs.Marks.{or_assoc, or_commutes}
use Rattle.cursor.specs.declared.place.Cursor.{Cursor}
use Rattle.cursor.specs.Place.{number, put}
use Rattle.records.proofs.Telling.{told_dropped}
use Rattle.runs.specs.declared.At.{At}
use Rattle.runs.specs.Runs.{given, Ran, stayed, went, passed, gave_up, failed, Runs}
use Rattle.runs.proofs.RunLaws.{dropped}

---------------------------------------------------------------- the cursor behind a reading is the answer's

abbrev reason : Why → ℕ
reason (out lacked) = number (out lacked)
reason bad = 5
reason lack = 6
reason (quit o j t) = given j

abbrev more : Why → ℕ → ℕ
more (out lacked) m = m
more bad m = m
more lack m = m
more (quit o j t) m = or (mark t) m

abbrev after : Cursor → Ans → Cursor
after c (ok p R m) = put c p 0 (or c.marks m)
after c (past lacked p R m) = put c p 7 (or c.marks m)
after c (stop w p R m) = put c p (reason w) (or c.marks (more w m))

ran_after : {k : ℕ → ℕ → Ans} {c d : Cursor} {R : List Rec} → c.why ≡ 0 → Ran k c d R → d ≡ after c (k c.end c.at)
ran_after y (stayed h q r) = absurd (h y)
ran_after y (went p m z a l q) = rw a q
ran_after y (passed o p m z a l q) = rw a q
ran_after y (gave_up o j t p m z a l q) = rw a q
ran_after y (failed (out lacked) p m S n z a l q) = rw a q
ran_after y (failed bad p m S n z a l q) = rw a q
ran_after y (failed lack p m S n z a l q) = rw a q
ran_after y (failed (quit o j t) p m S n z a l q) = absurd (n refl)

---------------------------------------------------------------- a part whose failure gives it up

module _ {k : ℕ → ℕ → Ans} {c d : Cursor} {R : List Rec} (t : ℕ) (j : Bool) where
  -- neither ran out nor badly formed: it stays what it is
  pub lax_kept : Ran k c d R → (d.why % 16 ≡ 4 → ⊥) → (d.why ≡ 5 → ⊥) → Ran (λ e p. laxly t j (k e p)) c d R
  unfolding laxly give_up
  lax_kept (stayed h q r) n₄ n₅ = stayed h q r
  lax_kept (went p m z a l q) n₄ n₅ = went p m z (rw a) l q
  lax_kept (passed o p m z a l q) n₄ n₅ = passed o p m z (rw a) l q
  lax_kept (gave_up o i v p m z a l q) n₄ n₅ = gave_up o i v p m z (rw a) l q
  lax_kept (failed (out lacked) p m S n z a l q) n₄ n₅ = absurd (n₄ (rw q (omega arith)))
  lax_kept (failed bad p m S n z a l q) n₄ n₅ = absurd (n₅ (rw q refl))
  lax_kept (failed lack p m S n z a l q) n₄ n₅ = failed lack p m S n z (rw a) l q
  lax_kept (failed (quit o i v) p m S n z a l q) n₄ n₅ = absurd (n refl)

  -- either of them: it is given up, and nothing is told
  pub lax_dropped : c.why ≡ 0 → Ran k c d R → 4 ≤ d.why % 16 → d.why % 16 ≤ 5 → Ran (λ e p. laxly t j (k e p)) c (dropped d j t) []
  unfolding laxly give_up
  lax_dropped y (stayed h q r) b₄ b₅ = absurd (h y)
  lax_dropped y (went p m z a l q) b₄ b₅ = absurd (let x : 4 ≤ 0 = rw q at b₄ in omega arith)
  lax_dropped y (passed o p m z a l q) b₄ b₅ = absurd (let x : 7 ≤ 5 = rw q at b₅ in omega arith)
  lax_dropped y (gave_up o true v p m z a l q) b₄ b₅ = absurd (let x : 9 ≤ 5 = rw q at b₅ in omega arith)
  lax_dropped y (gave_up o false v p m z a l q) b₄ b₅ = absurd (let x : 8 ≤ 5 = rw q at b₅ in omega arith)
  lax_dropped y (failed (out lacked) p m S n z a l q) b₄ b₅ = gave_up true j t p m z (rw a) l (rw q (ap (put c p (given j)) (or_assoc c.marks m (mark t) ∙ ap (or c.marks) (or_commutes m (mark t)))))
  lax_dropped y (failed bad p m S n z a l q) b₄ b₅ = gave_up false j t p m z (rw a) l (rw q (ap (put c p (given j)) (or_assoc c.marks m (mark t) ∙ ap (or c.marks) (or_commutes m (mark t)))))
  lax_dropped y (failed lack p m S n z a l q) b₄ b₅ = absurd (let x : 6 ≤ 5 = rw q at b₅ in omega arith)
  lax_dropped y (failed (quit o i v) p m S n z a l q) b₄ b₅ = absurd (n refl)

given-high : (j : Bool) → given j % 16 ≤ 5 → ⊥
given-high true h = omega arith
given-high false h = omega arith

-- it never ends as ran out or badly formed
lax_never : (t : ℕ) (j : Bool) (c d : Cursor) (a : Ans) → d ≡ after c (laxly t j a) → 4 ≤ d.why % 16 → d.why % 16 ≤ 5 → ⊥
unfolding laxly give_up
lax_never t j c d (ok p S m) q l u = let x : 4 ≤ 0 = rw q at l in omega arith
lax_never t j c d (past lacked p S m) q l u = let x : 7 ≤ 5 = rw q at u in omega arith
lax_never t j c d (stop (out lacked) p S m) q l u = given-high j (rw q at u)
lax_never t j c d (stop bad p S m) q l u = given-high j (rw q at u)
lax_never t j c d (stop lack p S m) q l u = let x : 6 ≤ 5 = rw q at u in omega arith
lax_never t j c d (stop (quit o i v) p S m) q l u = given-high i (rw q at u)

pub lax_ends : (k : ℕ → ℕ → Ans) {c d : Cursor} {R : List Rec} (t : ℕ) (j : Bool) → c.why ≡ 0 → Ran (λ e p. laxly t j (k e p)) c d R → (d.why % 16 ≡ 4 → ⊥) × (d.why ≡ 5 → ⊥)
lax_ends k {c} {d} t j z r =
    let q = ran_after z r in
    (λ e. lax_never t j c d (k c.end c.at) q (omega arith) (omega arith), λ e. lax_never t j c d (k c.end c.at) q (omega arith) (omega arith))

---------------------------------------------------------------- on the words

module _ {b : ℕ} {k : ℕ → ℕ → Ans} {s : List ℕ} {c : Cursor} {n : ℕ} {w w' : List ℕ} {r : At} (t : ℕ) (j : Bool) (x : Runs b k s c n w w' r) where
  -- it failed: what it told is dropped
  pub tried_dropped : c.why ≡ 0 → 4 ≤ r.c.why % 16 → r.c.why % 16 ≤ 5 → Runs 0 (λ u p. laxly t j (k u p)) s c n w w' (record { n = n; c = dropped r.c j t })
  tried_dropped z l h = record { recs = []; ran = λ i. lax_dropped t j z (x.ran i) l h; told = told_dropped x.told }

  -- it did not: it stays as it is
  pub tried_kept : (4 ≤ r.c.why % 16 → r.c.why % 16 ≤ 5 → ⊥) → Runs b (λ u p. laxly t j (k u p)) s c n w w' r
  tried_kept h = record { recs = x.recs; ran = λ i. lax_kept t j (x.ran i) (λ y. h (omega arith) (omega arith)) (λ y. h (omega arith) (omega arith)); told = x.told }
