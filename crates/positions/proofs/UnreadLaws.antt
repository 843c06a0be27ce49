-- A sequence whose last two parts are known from their presence bits alone: the bits are taken one after another, and a set one is marked
-- before anything else is read, and again with its record.
use mathlib.Core.Path.{◌≡◌, refl, sym, ap, ◌∙◌}
use mathlib.Core.Bool.{cond}
use mathlib.Core.List.{List, [], ◌∷◌, ◌++◌}
use Prim.Native.Nat.{ℕ, zero, suc, ◌+◌, ◌-◌, ◌≤◌, ◌<◌}
use native.Mathlib.Numerals.{add-one}
use native.Mathlib.Omega.{arith}
use lib.Dec.{eqb}
use borrow.Author.Tests.{lt-ltb, le-ltb, eq-eqb, ne_eqb}
use Rattle.x691.specs.Bits.{bit_of}
use Rattle.x691.proofs.BitLaws.{uint-one}
use Rattle.atn.specs.Format.{Fmt, out, seq, Flds, end, ◌⨾◌, unread}
use Rattle.atn.specs.Reading.{Rec, rec, Ctx, Ans, ok, glue, then, fork, mark, or, flags, unread_mark, unread_marks, within, read, read_fields}
use Rattle.atn.proofs.Marks.{or_assoc, or_commutes, or_nil}
use Rattle.atn.proofs.Steps.{fetch_go, fetch_no}
use Rattle.cursor.specs.declared.place.Cursor.{Cursor}
use Rattle.cursor.specs.declared.place.Got.{Got}
use Rattle.cursor.specs.Place.{number, put, stopped, marked, Inside, Pulled, stuck, short, got, Pulls, Led, stayed, went, failed, Reads, Takes}
use Rattle.cursor.specs.Formats.{Fields}
use Rattle.cursor.proofs.Laws.{led_stays, led_from, reads_then, reads_ok, reads_here, marked-nil}
use Rattle.cursor.proofs.FormatLaws.{reads_going, fields_must, takes_back}
use Rattle.frequencies.proofs.Indices.{pulls_last}
use Rattle.positions.specs.Positions.{Flagged, shut_already, ran_short, flagged, Flags, note_recs}

---------------------------------------------------------------- one presence bit

module _ {s : List ℕ} {c : Cursor} (g : Got ℕ) (p : Pulls s c 1 g) where
  pub flag_clear : g.v ≡ 0 → Flags s c g
  unfolding unread_mark
  flag_clear z = record { gave = λ i. go i (p.gave i) }
    where
      go : Inside s c → Pulled s c 1 g → Flagged s c g
      go i (stuck h q) = shut_already h q
      go i (short h l q) = let one : c.at + 1 - c.end ≡ 1 = omega (arith, i.0) in ran_short h l (q ∙ rw one)
      go i (got h l v q) = flagged h l (v ∙ uint-one (bit_of s) c.at) (q ∙ rw (z, or_nil c.marks))

  pub flag_set : {d : Cursor} → (g.v ≡ 0 → ⊥) → d ≡ marked g.c 8 → Flags s c (record { v = 1; c = d })
  unfolding unread_mark mark marked stopped
  flag_set {d} n e = record { gave = λ i. go i ((pulls_last 1 1 g refl p (omega arith)).gave i) }
    where
      go : Inside s c → Pulled s c 1 (record { v = 1; c = g.c }) → Flagged s c (record { v = 1; c = d })
      go i (stuck h q) = shut_already h (e ∙ rw (q, ne_eqb c.why 0 h))
      go i (short h l q) = let one : c.at + 1 - c.end ≡ 1 = omega (arith, i.0) in ran_short h l (e ∙ rw (q, one))
      go i (got h l v q) = flagged h l (v ∙ uint-one (bit_of s) c.at) (e ∙ rw q)

---------------------------------------------------------------- a cursor that has a mark keeps it

abbrev Has : ℕ → Cursor → Type 0
Has m c = c.why ≡ 0 → or c.marks m ≡ c.marks

led_has : (m : ℕ) (k : ℕ → ℕ → Ans) {c d : Cursor} {R : List Rec} → Led k c d R → Has m c → Has m d
led_has m k (stayed h q) x = rw q x
led_has m k {c} (went p n z a l q) x = rw q λ _. or_assoc c.marks n m ∙ ap (or c.marks) (or_commutes n m) ∙ sym (or_assoc c.marks m n) ∙ ap (λ (j : ℕ). or j n) (x z)
led_has m k (failed w p n S y z a l q) x = rw q λ e. absurd (y e)

-- and the marks of the two bits are among them
unread-twice : (v : ℕ) → or (unread_mark v) (unread_mark v) ≡ unread_mark v
unfolding or unread_mark mark
unread-twice zero = refl
unread-twice (suc v) = refl

marked_again : (m : ℕ) (c : Cursor) → Has m c → c ≡ marked c m
unfolding marked stopped
marked_again m c h = go c.why refl
  where
    go : (w : ℕ) → c.why ≡ w → c ≡ cond (eqb c.why 0) (put c c.at 0 (or c.marks m)) c
    go zero z = rw (eq-eqb c.why 0 z, h z) (ap (λ (w : ℕ). put c c.at w c.marks) z)
    go (suc w) z = rw (ne_eqb c.why 0 (λ y. omega arith))

---------------------------------------------------------------- the parts' records

pub note_absent : (t has at n : ℕ) → has ≡ 0 → note_recs t has at n ≡ []
note_absent t zero at n h = refl
note_absent t (suc h) at n z = absurd (omega arith)

pub note_there : (t has at n : ℕ) → (has ≡ 0 → ⊥) → note_recs t has at n ≡ rec t n 1 0 at ∷ []
note_there t zero at n h = absurd (h refl)
note_there t (suc h) at n z = refl

abbrev note : ℕ → ℕ → ℕ → ℕ → Ans
note t n v p = fork v (ok p [] 0) (ok p (rec t n 1 0 p ∷ []) (mark 4))

notes_same : (t u v w : ℕ) (x : Ctx) (b : ℕ → ℕ) (e q p : ℕ) → v ≡ b q → w ≡ b (suc q) → then (note t x.0 v p) (λ r. note u x.0 w r) ≡ read_fields (unread t (unread u end)) x b e q p
unfolding read_fields fork then glue or mark
notes_same t u zero zero x b e q p y z = rw (← y, ← z)
notes_same t u zero (suc w) x b e q p y z = rw (← y, ← z)
notes_same t u (suc v) zero x b e q p y z = rw (← y, ← z)
notes_same t u (suc v) (suc w) x b e q p y z = rw (← y, ← z)

module _ {s : List ℕ} {c : Cursor} where
  reads_note : (t n v : ℕ) → Has (unread_mark v) c → Reads (λ u p. note t n v p) s c c (note_recs t v c.at n)
  unfolding fork unread_mark
  reads_note t n zero h = reads_ok [] 0 (marked-nil c)
  reads_note t n (suc v) h = reads_here (λ p. rec t n 1 0 p ∷ []) (mark 4) (marked_again (mark 4) c h)

  fields_notes : (t u v w q : ℕ) → Has (unread_mark v) c → Has (unread_mark w) c → (c.why ≡ 0 → v ≡ bit_of s q) → (c.why ≡ 0 → w ≡ bit_of s (suc q)) → Fields (unread t (unread u end)) s c c q (λ n. note_recs t v c.at n ++ note_recs u w c.at n)
  fields_notes t u v w q h i y z =
      record {
        took = λ x.
            reads_going (λ e p. then (note t x.0 v p) (λ r. note u x.0 w r)) (λ e p. read_fields (unread t (unread u end)) x (bit_of s) e q p)
            (λ g. notes_same t u v w x (bit_of s) c.end q c.at (y g) (z g))
            (reads_then (λ e p. note t x.0 v p) (λ e p. note u x.0 w p) (reads_note t x.0 v h) (reads_note u x.0 w i));
      }

---------------------------------------------------------------- the two bits

abbrev two_marks : (ℕ → ℕ) → ℕ → ℕ
two_marks b q = or (unread_mark (b q)) (or (unread_mark (b (suc q))) 0)

-- in a window that has none of the bits, or only the first
none_within : (b : ℕ → ℕ) (e at : ℕ) → e ≤ at → two_marks (within b e) at ≡ 0
unfolding within or unread_mark
none_within b e at h = rw (le-ltb at e h, le-ltb (suc at) e (omega arith))

one-within : (b : ℕ → ℕ) (e at : ℕ) → e ≡ at + 1 → two_marks (within b e) at ≡ unread_mark (b at)
unfolding within unread_mark
one-within b e at h = rw (lt-ltb at e (omega arith), le-ltb (suc at) e (omega arith)) (ap (or (unread_mark (b at))) (or_nil 0) ∙ or_nil (unread_mark (b at)))

absorbed : (m x y : ℕ) → or x x ≡ x → or (or m (or x y)) x ≡ or m (or x y)
absorbed m x y h = or_assoc m (or x y) x ∙ ap (or m) (or_commutes (or x y) x ∙ sym (or_assoc x x y) ∙ ap (λ (j : ℕ). or j y) h)

-- what two bits gave
data Both (s : List ℕ) (c : Cursor) (a b : Got ℕ) : Type 0 where
  stopped-before : (c.why ≡ 0 → ⊥) → b.c ≡ c → Both s c a b
  none_there : c.why ≡ 0 → c.end ≡ c.at → b.c ≡ put c c.at (number (out 1)) c.marks → Both s c a b
  one_there : c.why ≡ 0 → c.end ≡ c.at + 1 → b.c ≡ put c c.end (number (out 1)) (or c.marks (unread_mark (bit_of s c.at))) → Both s c a b
  both_there : c.why ≡ 0 → c.at + 2 ≤ c.end → a.v ≡ bit_of s c.at → b.v ≡ bit_of s (suc c.at) → b.c ≡ put c (c.at + 2) 0 (or c.marks (two_marks (bit_of s) c.at)) → Both s c a b

flag_inside : {s : List ℕ} {c : Cursor} {a : Got ℕ} → Inside s c → Flagged s c a → Inside s a.c
flag_inside i (shut_already h q) = rw q i
flag_inside i (ran_short h l q) = rw q i
flag_inside i (flagged h l v q) = rw q (l, i.1)

module _ {s : List ℕ} {c : Cursor} {a b : Got ℕ} where
  both : Inside s c → Flagged s c a → Flagged s a.c b → Both s c a b
  both i (shut_already h q) (shut_already k r) = stopped-before h (r ∙ q)
  both i (shut_already h q) (ran_short k l r) = absurd (h (rw q at k))
  both i (shut_already h q) (flagged k l v r) = absurd (h (rw q at k))
  both i (ran_short h l q) (shut_already k r) = none_there h (omega (arith, i.0)) (r ∙ q)
  both i (ran_short h l q) (ran_short k m r) = absurd (let y = rw q at k in omega arith)
  both i (ran_short h l q) (flagged k m v r) = absurd (let y = rw q at k in omega arith)
  both i (flagged h l v q) (shut_already k r) = absurd (k (rw q))
  both i (flagged h l v q) (ran_short k m r) =
      let e : c.end < c.at + 1 + 1 = rw q at m in
      let f : c.at + 1 ≡ c.end = omega arith in
      one_there h (sym f) (r ∙ rw (q, v, f))
  both i (flagged h l v q) (flagged k m w r) =
      let e : c.at + 1 + 1 ≤ c.end = rw q at m in
      let f : c.at + 1 + 1 ≡ c.at + 2 = omega arith in
      let y : b.v ≡ bit_of s (c.at + 1) = rw q at w in
      both_there h (omega arith) v (y ∙ ap (bit_of s) (add-one c.at))
      (r ∙ rw (q, f, y, v, add-one c.at, or_nil (unread_mark (bit_of s (suc c.at))), or_assoc c.marks (unread_mark (bit_of s c.at)) (unread_mark (bit_of s (suc c.at)))))

  module _ (i : Inside s c) where
    both_inside : Both s c a b → Inside s b.c
    both_inside (stopped-before h q) = rw q i
    both_inside (none_there h e q) = rw q i
    both_inside (one_there h e q) = rw q (omega arith, i.1)
    both_inside (both_there h l v w q) = rw q (l, i.1)

    first_bit : Both s c a b → b.c.why ≡ 0 → a.v ≡ bit_of s c.at
    first_bit (stopped-before h q) z = absurd (h (rw q at z))
    first_bit (none_there h e q) z = absurd (let y = rw q at z in omega arith)
    first_bit (one_there h e q) z = absurd (let y = rw q at z in omega arith)
    first_bit (both_there h l v w q) z = v

    second-bit : Both s c a b → b.c.why ≡ 0 → b.v ≡ bit_of s (suc c.at)
    second-bit (stopped-before h q) z = absurd (h (rw q at z))
    second-bit (none_there h e q) z = absurd (let y = rw q at z in omega arith)
    second-bit (one_there h e q) z = absurd (let y = rw q at z in omega arith)
    second-bit (both_there h l v w q) z = w

    has_first : Both s c a b → Has (unread_mark a.v) b.c
    has_first (stopped-before h q) z = absurd (h (rw q at z))
    has_first (none_there h e q) z = absurd (let y = rw q at z in omega arith)
    has_first (one_there h e q) z = absurd (let y = rw q at z in omega arith)
    has_first (both_there h l v w q) z = rw (q, v) (absorbed c.marks (unread_mark (bit_of s c.at)) _ (unread-twice (bit_of s c.at)))

    has-second : Both s c a b → Has (unread_mark b.v) b.c
    has-second (stopped-before h q) z = absurd (h (rw q at z))
    has-second (none_there h e q) z = absurd (let y = rw q at z in omega arith)
    has-second (one_there h e q) z = absurd (let y = rw q at z in omega arith)
    has-second (both_there h l v w q) z =
        let x : ℕ = unread_mark (bit_of s c.at) in
        let y : ℕ = unread_mark (bit_of s (suc c.at)) in
        rw (q, w, or_nil y, or_commutes x y) (absorbed c.marks y x (unread-twice (bit_of s (suc c.at))))

  -- a sequence with two presence bits, both of parts that are not read
  takes_flagged : {fs : Flds} {d : Cursor} {T : ℕ → List Rec} → flags fs ≡ 2 → ((f : ℕ → ℕ) (q : ℕ) → unread_marks fs f q ≡ two_marks f q) → Flags s c a → Flags s a.c b
      → (Inside s c → Both s c a b → Fields fs s b.c d c.at T) → Takes (seq fs) s c d T
  unfolding read marked stopped
  takes_flagged {fs} {d} {T} n m p r h =
      record { took = λ x. record { led = λ i. let y = both i (p.gave i) (r.gave (flag_inside i (p.gave i))) in go x i y ((h i y).took x) (((h i y).took x).led (both_inside i y)) } }
    where
      go : (x : Ctx) → Inside s c → Both s c a b → Reads (λ u q. read_fields fs x (bit_of s) u c.at q) s b.c d (T x.0) → Led (λ u q. read_fields fs x (bit_of s) u c.at q) b.c d (T x.0)
          → Led (λ u q. read (seq fs) x (bit_of s) u q) c d (T x.0)
      go x i (stopped-before z q) k l = stayed z (led_stays _ b.c d (rw q z) l ∙ q)
      go x i (none_there z e q) k l =
          let f : c.at + (c.end - c.at) ≡ c.at = omega arith in
          failed (out 1) c.at 0 [] (λ y. omega arith) z (fetch_no (bit_of s) c.end c.at (flags fs) _ _ (omega arith) ∙ rw (f, m, none_within (bit_of s) c.end c.at (omega arith))) i.0
          (led_stays _ b.c d (rw q (λ y. omega arith)) l ∙ q ∙ rw (or_nil c.marks))
      go x i (one_there z e q) k l =
          let f : c.at + (c.end - c.at) ≡ c.end = omega arith in
          failed (out 1) c.end (unread_mark (bit_of s c.at)) [] (λ y. omega arith) z
          (fetch_no (bit_of s) c.end c.at (flags fs) _ _ (omega arith) ∙ rw (f, m, one-within (bit_of s) c.end c.at e)) (omega arith)
          (led_stays _ b.c d (rw q (λ y. omega arith)) l ∙ q)
      go x i (both_there z l v w q) k _ =
          let behind : Cursor = put c (c.at + 2) 0 c.marks in
          let marks : ℕ = two_marks (bit_of s) c.at in
          led_from (λ u p. then (ok p [] marks) (λ r. read_fields fs x (bit_of s) u c.at r)) (λ u p. read (seq fs) x (bit_of s) u p) z refl
          (sym (fetch_go (bit_of s) c.end c.at (flags fs) _ _ (omega arith) ∙ rw (m, n)))
          ((reads_then {c = behind} (λ u p. ok p [] marks) (λ u p. read_fields fs x (bit_of s) u c.at p) (reads_ok {c = behind} [] marks q) k).led (l, i.1))

module _ {f h : Fmt} (t u : ℕ) {s : List ℕ} {c d e : Cursor} {a b : Got ℕ} {T U : ℕ → List Rec} where
  pub takes_unread : Flags s c a → Flags s a.c b → Takes f s b.c d T → Takes h s d e U
      → Takes (seq (f ⨾ h ⨾ unread t (unread u end))) s c e (λ n. T n ++ (U n ++ (note_recs t a.v e.at n ++ note_recs u b.v e.at n)))
  unfolding flags unread_marks
  takes_unread p r x y =
      takes_flagged refl (λ _ q. refl) p r λ i z.
      let j = both_inside i z in
      let k = takes_back x j in
      let l = takes_back y k.0 in
      let on : (m : ℕ) → Has m b.c → Has m e = (λ m w. led_has m _ ((y.took (0, 0)).led k.0) (led_has m _ ((x.took (0, 0)).led j) w)) in
      fields_must x (fields_must y (fields_notes t u a.v b.v c.at (on _ (has_first i z)) (on _ (has-second i z)) (λ g. first_bit i z (k.1 (l.1 g))) (λ g. second-bit i z (k.1 (l.1 g)))))
