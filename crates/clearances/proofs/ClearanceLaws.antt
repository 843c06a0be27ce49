-- A clearance from its presence bits and its parts.
use mathlib.Core.Path.{◌≡◌, refl, sym, ap, ◌∙◌}
use mathlib.Core.Bool.{true, false}
use mathlib.Core.List.{List, [], ◌∷◌, ◌++◌}
use Prim.Native.Nat.{ℕ, zero, suc, ◌+◌, ◌-◌, ◌*◌, ◌/◌, ◌%◌, ◌^◌, ◌≤◌, ◌<◌}
use native.Mathlib.Nat.{add-zero}
use native.Mathlib.Omega.{arith}
use borrow.Author.Tests.{eq-eqb}
use Rattle.x691.specs.Bits.{bit_of, uint}
use Rattle.x691.proofs.BitLaws.{bit_of-lt}
use Rattle.x691.specs.Types.{extent}
use Rattle.x691.specs.Encoding.{width, width_in}
use Rattle.atn.specs.Format.{out, bad, lack, quit, num, seq, many, loose, Flds, end, ◌⨾◌}
use Rattle.atn.specs.Reading.{Rec, rec, Ctx, Ans, ok, past, stop, glue, then, or, over, unless, mark, sized, letters, flags, unread_marks, unread_mark, laxly, give_up, read, read_fields}
use Rattle.atn.specs.Messages as message
use Rattle.atn.specs.Messages.{route_clearance}
use Rattle.atn.proofs.Tame.{keeps_stop, tame}
use Rattle.atn.proofs.Firm.{is_past, firm_read}
use Rattle.atn.proofs.Reach.{split}
use Rattle.atn.proofs.Marks.{or_nil}
use Rattle.atn.proofs.Steps.{then-nil, fetch_go, fetch_no, pull_go, pull_no}
use Rattle.atn.proofs.Then.{then_same}
use Rattle.cursor.specs.declared.place.Cursor.{Cursor}
use Rattle.cursor.specs.declared.place.Got.{Got}
use Rattle.cursor.specs.Place.{number, put, marked, stopped, Inside, Pulled, stuck, short, got, Pulls, Reads}
use Rattle.cursor.proofs.Laws.{reads_here, reads_same, reads_then, pull-then, marked-nil, bit-of, Behind}
use Rattle.length_determinants.proofs.LengthLaws.{reads_mark}
use Rattle.records.specs.Told.{Told}
use Rattle.records.proofs.Telling.{told_none, told-then, told-within}
use Rattle.runs.specs.declared.At.{At}
use Rattle.runs.specs.Runs.{passed, failed, Runs}
use Rattle.optional_parts.specs.Parts.{Part, Optional, Fields, chosen}
use Rattle.route_ends.specs.Ends.{departure_fields, arrival_fields}
use Rattle.clearances.specs.Clearance.{route_fields, clearance_fields, Rest}
use Rattle.clearances.specs.Attempts.{attempt}
use Rattle.optional_parts.proofs.FieldLaws.{joined, Shows, chosen_fields, chosen-joined}
use Rattle.optional_parts.proofs.PartLaws.{part_runs, part_none, part-still, part-told, part-set, part-clear, part-within, part_same, part_then}
use Rattle.clearances.proofs.LateLaws.{Wants, enough, unreads, wants, loose_none, loose_some}

---------------------------------------------------------------- where no bit is left, each part runs out

module _ (b : ℕ → ℕ) (e : ℕ) (x : Ctx) where
  airport_out : (t : ℕ) → read (message.ia5 t 4 4) x b e e ≡ stop (out (e + 7 - e)) e [] 0
  unfolding read sized letters width width_in over unless uint
  airport_out t = pull_go b e e 0 _ (omega arith) ∙ rw (add-zero e) (then-nil e _ ∙ pull_no b e e 7 _ (omega arith))

  direction_out : (t : ℕ) (fs : Flds) (q : ℕ) → read_fields (num t 1 36 ⨾ fs) x b e q e ≡ stop (out (e + 6 - e)) e [] 0
  unfolding read read_fields width width_in extent then
  direction_out t fs q = rw (pull_no b e e 6 _ (omega arith))

  runway_out : (t u : ℕ) → read (message.runway t u) x b e e ≡ stop (out (e + 6 - e)) e [] 0
  unfolding read flags unread_marks
  runway_out t u = fetch_go b e e 0 _ _ (omega arith) ∙ rw (add-zero e) (then-nil e (λ p. read_fields (num t 1 36 ⨾ num u 0 3 ⨾ end) x b e e p) ∙ direction_out t (num u 0 3 ⨾ end) e)

  procedure_out : (t u v : ℕ) → read (message.procedure t u v) x b e e ≡ stop (out 1) e [] 0
  unfolding read flags unread_marks
  procedure_out t u v = fetch_no b e e 1 _ _ (omega arith) ∙ ap (λ (p : ℕ). stop (out 1) p [] 0) (omega arith)

  legs_out : read (many 1 128 message.leg) x b e e ≡ stop (out (e + 7 - e)) e [] 0
  unfolding read sized width width_in
  legs_out = pull_no b e e 7 _ (omega arith)

  pub clearance_wants : Wants b e x 8 clearance_fields
  clearance_wants =
      wants (airport_out 81) (wants (airport_out 82) (wants (runway_out 83 84) (wants (procedure_out 85 86 87)
      (wants (runway_out 88 89) (wants (procedure_out 90 91 92) (wants (procedure_out 93 94 95) (wants legs_out (unreads enough))))))))

nothing_left : (b : ℕ → ℕ) (e : ℕ) → uint b e (e - e) ≡ 0
unfolding uint
nothing_left b e = let q : e - e ≡ 0 = omega arith in rw q

-- the record of its place, and then the parts
clearance_loose : (i : ℕ) (b : ℕ → ℕ) (e at : ℕ) → read route_clearance (0, i) b e at ≡ glue (rec 80 0 i 0 at ∷ []) 0 (read (loose clearance_fields) (0, i) b e at)
unfolding read then
clearance_loose i b e at = refl

---------------------------------------------------------------- the bits that are left

module _ {s : List ℕ} {c : Cursor} where
  pub rest-bits : (g : Got ℕ) → Pulls s c (c.end - c.at) g → Rest s c g.v
  rest-bits g x = record { bits = λ i z l. go i z (x.gave i) }
    where
      go : Inside s c → c.why ≡ 0 → Pulled s c (c.end - c.at) g → g.v ≡ uint (bit_of s) c.at (c.end - c.at)
      go i z (stuck h q) = absurd (h z)
      go i z (short h l q) = absurd (omega (arith, i.0))
      go i z (got h l v q) = v

  pub rest-none : {v : ℕ} → (Inside s c → c.end < c.at + 9 → ⊥) → Rest s c v
  rest-none h = record { bits = λ i z l. absurd (h i l) }

---------------------------------------------------------------- the window ends before the ninth presence bit

module _ {s : List ℕ} {c : Cursor} {v : ℕ} (i : ℕ) (z : c.why ≡ 0) (h : Inside s c → c.end < c.at + 9) (x : Rest s c v) where
  abbrev first : Rec
  first = rec 80 0 i 0 c.at

  left : Inside s c → v ≡ uint (bit_of s) c.at (c.end - c.at)
  left k = x.bits k z (h k)

  none_there : v ≡ 0 → (k : Inside s c) → read route_clearance (0, i) (bit_of s) c.end c.at ≡ past 1 c.end (first ∷ []) 0
  unfolding flags glue
  none_there y k =
      clearance_loose i (bit_of s) c.end c.at
      ∙ rw (loose_none (bit_of s) c.end (0, i) c.at (clearance_wants _ _ _) k.0 (h k) (omega (arith, h k)) (sym (left k) ∙ y)) (ap (past 1 c.end (first ∷ [])) (or_nil 0))

  some_there : (v ≡ 0 → ⊥) → (k : Inside s c) → read route_clearance (0, i) (bit_of s) c.end c.at ≡ stop (out 1) c.end (first ∷ []) 0
  unfolding flags glue
  some_there y k =
      clearance_loose i (bit_of s) c.end c.at
      ∙ rw (loose_some (bit_of s) c.end (0, i) c.at (clearance_wants _ _ _) k.0 (h k) (omega (arith, h k)) (λ u. y (left k ∙ u))) (ap (stop (out 1) c.end (first ∷ [])) (or_nil 0))

  -- no part is there
  pub clipped_none : {n m : ℕ} {w w' : List ℕ} {d : Cursor} → v ≡ 0 → d ≡ put c c.end 7 c.marks → Told 1 w w' n m (first ∷ []) → Runs 1 (λ e p. read route_clearance (0, i) (bit_of s) e p) s c n w w' (record { n = m; c = d })
  clipped_none y q t = record { recs = first ∷ []; ran = λ k. passed 1 c.end 0 z (none_there y k) (omega arith) (q ∙ rw (or_nil c.marks)); told = t }

  -- a part is there, and runs out
  pub clipped_some : {n : ℕ} {w : List ℕ} {d : Cursor} → (v ≡ 0 → ⊥) → d ≡ put c c.end (number (out 1)) c.marks → Runs 1 (λ e p. read route_clearance (0, i) (bit_of s) e p) s c n w w (record { n = n; c = d })
  clipped_some y q =
      record { recs = []; ran = λ k. failed (out 1) c.end 0 (first ∷ []) (λ o. omega arith) z (some_there y k) (omega arith) (q ∙ rw (or_nil c.marks)); told = told-within 1 (omega arith) told_none }

-- where it passes the window's end it stands there
abbrev place_of : Ans → ℕ
place_of (ok p R m) = p
place_of (past lacked p R m) = p
place_of (stop w p R m) = p

module _ (i : ℕ) (b : ℕ → ℕ) (e at : ℕ) where
  abbrev loosely : Ans
  loosely = read (loose clearance_fields) (0, i) b e at

  never_past : {A : Type 0} → is_past loosely ≡ false → is_past loosely ≡ true → A
  never_past p q = let z : ◌≡◌ {A = ℕ} 0 1 = cc in absurd (omega arith)

  -- with all nine bits there it is a sequence as any other
  loose_seq : at + 9 ≤ e → loosely ≡ read (seq clearance_fields) (0, i) b e at
  unfolding read flags
  loose_seq y = fetch_go b e at 9 _ _ y ∙ sym (fetch_go b e at 9 _ _ y)

  loose_end : at ≤ e → is_past loosely ≡ true → place_of loosely ≡ e
  unfolding flags tame keeps_stop
  loose_end l h =
      split (at + 9) e
      (λ y. never_past (ap is_past (loose_seq y) ∙ firm_read b (seq clearance_fields) (0, i) e at refl) h)
      (λ y. by y (uint b at (e - at)) refl)
    where
      by : e < at + 9 → (v : ℕ) → uint b at (e - at) ≡ v → place_of loosely ≡ e
      by y zero u = ap place_of (loose_none b e (0, i) at (clearance_wants _ _ _) l y (omega arith) u)
      by y (suc v) u = ap place_of (loose_some b e (0, i) at (clearance_wants _ _ _) l y (omega arith) (λ z. omega arith))

told-end : {e l p m : ℕ} {R : List Rec} (S : List Rec) (a : Ans) → (is_past a ≡ true → place_of a ≡ e) → laxly 7 true (glue S 0 a) ≡ past l p R m → p ≡ e
unfolding laxly give_up glue is_past
told-end S (ok q T n) h y = let z : ◌≡◌ {A = ℕ} 0 1 = cc in absurd (omega arith)
told-end {e} {l} {p} S (past lacked q T n) h y = let x : q ≡ p = cc in sym x ∙ h refl
told-end S (stop (out lacked) q T n) h y = let z : ◌≡◌ {A = ℕ} 0 1 = cc in absurd (omega arith)
told-end S (stop bad q T n) h y = let z : ◌≡◌ {A = ℕ} 0 1 = cc in absurd (omega arith)
told-end S (stop lack q T n) h y = let z : ◌≡◌ {A = ℕ} 0 1 = cc in absurd (omega arith)
told-end S (stop (quit o j t) q T n) h y = let z : ◌≡◌ {A = ℕ} 0 1 = cc in absurd (omega arith)

pub attempt-end : (i : ℕ) (b : ℕ → ℕ) (e at : ℕ) {k p m : ℕ} {R : List Rec} → at ≤ e → attempt b i e at ≡ past k p R m → p ≡ e
attempt-end i b e at {k} {p} {m} {R} l q = told-end (rec 80 0 i 0 at ∷ []) (loosely i b e at) (loose_end i b e at l) (sym (ap (laxly 7 true) (clearance_loose i b e at)) ∙ q)

-- wholly beyond the window
pub clearance_beyond : (i : ℕ) (b : ℕ → ℕ) (e : ℕ) → read route_clearance (0, i) b e e ≡ past 1 e (rec 80 0 i 0 e ∷ []) 0
unfolding flags glue
clearance_beyond i b e =
    clearance_loose i b e e
    ∙ rw (loose_none b e (0, i) e (clearance_wants _ _ _) (omega arith) (omega arith) (omega arith) (nothing_left b e)) (ap (past 1 e (rec 80 0 i 0 e ∷ [])) (or_nil 0))

---------------------------------------------------------------- all nine are there

unread_last : (b : ℕ → ℕ) (at : ℕ) → unread_marks clearance_fields b at ≡ or (unread_mark (b (at + 8))) 0
unfolding unread_marks
unread_last b at = ap (λ (q : ℕ). or (unread_mark (b q)) 0) (omega arith)

unread-times : (v : ℕ) → v < 2 → unread_mark v ≡ v * 8
unfolding unread_mark mark
unread-times zero h = refl
unread-times (suc zero) h = refl
unread-times (suc (suc v)) h = absurd (omega arith)

module _ (s : List ℕ) (i : ℕ) where
  abbrev fields_behind : ℕ → ℕ → ℕ → Ans
  fields_behind v e p = then (ok p [] (v % 2 * 8)) (λ q. chosen clearance_fields 0 v (0, i) (bit_of s) e q)

  shown : (at : ℕ) → Shows 9 (uint (bit_of s) at 9) (bit_of s) at
  shown at = record { bit = λ j r h. bit-of s at j r 9 h }

  last_mark : (at : ℕ) → uint (bit_of s) at 9 % 2 * 8 ≡ unread_marks clearance_fields (bit_of s) at
  last_mark at =
      let v : ℕ = uint (bit_of s) at 9 in
      let e : v / 2 ^ 0 ≡ v = omega arith in
      let y : v % 2 ≡ bit_of s (at + 8) = ap (λ (u : ℕ). u % 2) (sym e) ∙ bit-of s at 8 0 9 refl in
      rw y (sym (unread_last (bit_of s) at ∙ or_nil _ ∙ unread-times _ (bit_of-lt s (at + 8))))

  nine : (e at : ℕ) → at + 9 ≤ e → Behind s 9 fields_behind e at ≡ read (loose clearance_fields) (0, i) (bit_of s) e at
  unfolding read flags
  nine e at h =
      pull_go (bit_of s) e at 9 _ h
      ∙ rw (last_mark at) (then_same _ _ _ (λ p. chosen_fields clearance_fields _ (0, i) (bit_of s) e at p (shown at)))
      ∙ sym (fetch_go (bit_of s) e at 9 _ _ h)

module _ {s : List ℕ} {c : Cursor} (g : Got ℕ) (x : Pulls s c 9 g) (z : g.c.why ≡ 0) where
  room : Inside s c → c.at + 9 ≤ c.end
  room k = go (x.gave k)
    where
      go : Pulled s c 9 g → c.at + 9 ≤ c.end
      go (stuck h q) = absurd (h (rw q at z))
      go (short h l q) = absurd (let y = rw q at z in omega arith)
      go (got h l v q) = l

  going : Inside s c → c.why ≡ 0
  going k = go (x.gave k)
    where
      go : Pulled s c 9 g → c.why ≡ 0
      go (stuck h q) = absurd (h (rw q at z))
      go (short h l q) = h
      go (got h l v q) = h

  pub clearance-whole : {b : ℕ} {d : Cursor} {n m : ℕ} {w w₁ w₂ : List ℕ} {r : At} (i : ℕ) → Told 1 w w₁ n m (rec 80 0 i 0 c.at ∷ []) → d ≡ marked g.c (g.v % 2 * 8) → Fields b clearance_fields 0 g.v s d m w₁ w₂ r → Runs (1 + b) (λ e p. read route_clearance (0, i) (bit_of s) e p) s c n w w₂ r
  unfolding read
  clearance-whole {r = r} i t q y =
      let f = y.run i in
      let behind : Reads (Behind s 9 (fields_behind s i)) s c r.c f.recs = pull-then 9 g (fields_behind s i) x (reads_mark (g.v % 2 * 8) (λ e p. chosen clearance_fields 0 g.v (0, i) (bit_of s) e p) q f.reads) in
      let loosely : Reads (λ e p. read (loose clearance_fields) (0, i) (bit_of s) e p) s c r.c f.recs =
      record { led = λ k. (reads_same (Behind s 9 (fields_behind s i)) (λ e p. read (loose clearance_fields) (0, i) (bit_of s) e p) (nine s i c.end c.at (room k)) behind).led k } in
      part_runs (record {
        recs = (rec 80 0 i 0 c.at ∷ []) ++ f.recs;
        reads = reads_then (λ e p. ok p (rec 80 0 i 0 p ∷ []) 0) (λ e p. read (loose clearance_fields) (0, i) (bit_of s) e p) (reads_here (λ p. rec 80 0 i 0 p ∷ []) 0 (marked-nil c)) loosely;
        quiet = λ k h. absurd (h (going k));
        told = told-then t f.told;
      })

-- the window is too short for them
pub clearance-short : {s : List ℕ} {c : Cursor} (g : Got ℕ) → Pulls s c 9 g → (g.c.why ≡ 0 → ⊥) → c.why ≡ 0 → Inside s c → c.end < c.at + 9
clearance-short {s} {c} g x n z k = go (x.gave k)
  where
    go : Pulled s c 9 g → c.end < c.at + 9
    go (stuck h q) = absurd (h z)
    go (short h l q) = l
    go (got h l v q) = absurd (n (rw q refl))

grouped : (s : List ℕ) (v i e at : ℕ) → then (chosen departure_fields 5 v (0, i) (bit_of s) e at) (λ p. then (chosen arrival_fields 2 v (0, i) (bit_of s) e p) (λ q. chosen route_fields 0 v (0, i) (bit_of s) e q)) ≡ chosen clearance_fields 0 v (0, i) (bit_of s) e at
unfolding flags
grouped s v i e at =
    sym (chosen-joined (joined arrival_fields route_fields) 0 v (0, i) (bit_of s) e departure_fields at
    ∙ then_same (chosen departure_fields 5 v (0, i) (bit_of s) e at) _ _ (λ p. chosen-joined route_fields 0 v (0, i) (bit_of s) e arrival_fields p))

marked_goes : (c : Cursor) {d : Cursor} (m : ℕ) → d ≡ marked c m → c.why ≡ 0 → d.why ≡ 0
unfolding marked stopped
marked_goes c m q z = rw (q, eq-eqb c.why 0 z)

---------------------------------------------------------------- the legs, and the part that is not read

pub legs_there : {b has : ℕ} {s : List ℕ} {c : Cursor} {n : ℕ} {w w' : List ℕ} {r : At} → (has ≡ 0 → ⊥) → Part b (λ e p. read (many 1 128 message.leg) (0, 0) (bit_of s) e p) s c n w w' r → Optional b has (many 1 128 message.leg) s c n w w' r
unfolding read
legs_there {has = has} h x = record { run = λ i. part-set x has h }

module _ {b v : ℕ} {s : List ℕ} {c : Cursor} {n : ℕ} {w w₁ : List ℕ} {r : At} (x : Optional b (v / 2 % 2) (many 1 128 message.leg) s c n w w₁ r) where
  -- no more is there
  pub route_alone : v % 2 ≡ 0 → Fields (b + 1) route_fields 0 v s c n w w₁ r
  unfolding chosen flags
  route_alone z = record { run = λ i. part_then (x.run i) (part-within (part_then (part-clear (λ e p. ok p (rec 102 0 1 0 p ∷ []) (mark 4)) (v / 2 ^ 0 % 2) (omega arith)) part_none) 1 (omega arith)) }

  pub route_stopped : (r.c.why ≡ 0 → ⊥) → Fields (b + 1) route_fields 0 v s c n w w₁ r
  unfolding chosen flags
  route_stopped h = record { run = λ i. part_then (x.run i) (part-within (part-still h) 1 (omega arith)) }

  pub route_additional : {d : Cursor} {m : ℕ} {w₂ : List ℕ} → (v % 2 ≡ 0 → ⊥) → r.c.why ≡ 0 → d ≡ marked r.c 8 → Told 1 w₁ w₂ r.n m (rec 102 0 1 0 r.c.at ∷ []) → Fields (b + 1) route_fields 0 v s c n w w₂ (record { n = m; c = d })
  unfolding chosen flags mark
  route_additional n z q t =
      record { run = λ i. part_then (x.run i) (part_then (part-set (part-told {k = λ e p. ok p (rec 102 0 1 0 p ∷ []) 8} (reads_here (λ p. rec 102 0 1 0 p ∷ []) 8 q) (marked_goes r.c 8 q z) t) (v / 2 ^ 0 % 2) (λ h. n (omega arith))) part_none) }

-- the three groups in a row
pub fields_all : {a b o v : ℕ} {s : List ℕ} {c : Cursor} {n : ℕ} {w w₁ w₂ w₃ : List ℕ} {r t u : At} → Fields a departure_fields 5 v s c n w w₁ r → Fields b arrival_fields 2 v s r.c r.n w₁ w₂ t → Fields o route_fields 0 v s t.c t.n w₂ w₃ u
    → Fields (a + (b + o)) clearance_fields 0 v s c n w w₃ u
unfolding flags
fields_all {v = v} {s} {c} x y z = record { run = λ i. part_same (part_then (x.run i) (part_then (y.run i) (z.run i))) _ (λ _. grouped s v i c.end c.at) }
