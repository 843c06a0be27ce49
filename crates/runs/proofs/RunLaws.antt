-- Readings that tell, put together.
use mathlib.Core.Path.{◌≡◌, refl, sym, ap, ◌∙◌}
use mathlib.Core.Bool.{Bool, true, false}
use mathlib.Core.List.{List, [], ◌∷◌, ◌++◌, append-nil}
use Prim.Native.Nat.{ℕ, zero, suc, ◌+◌, ◌-◌, ◌≤◌}
use native.Mathlib.Omega.{arith}
use Rattle.x691.specs.Bits.{bit_of}
use Rattle.atn.specs.Format.{Fmt, out, bad, lack, quit, seq, Flds, end, ◌⨾◌, ◌⨾?◌, or_note}
use Rattle.atn.specs.Reading.{Rec, rec, Ctx, Ans, ok, past, stop, glue, then, fork, or, mark, pull, flags, within, laxly, give_up, read, read_fields}
use Rattle.atn.proofs.Steps.{then-nil, fetch_go, fetch_no, pull_go, pull_no}
use Rattle.atn.proofs.Firm.{is_past, firm, firm_fork, firm_read}
use Rattle.atn.proofs.Marks.{or_assoc, or_nil, or_commutes, or_swap}
use Rattle.atn.proofs.Then.{then-end}
use Rattle.cursor.specs.declared.place.Cursor.{Cursor}
use Rattle.cursor.specs.declared.place.Got.{Got}
use Rattle.cursor.specs.Place.{put, Inside, Pulled, stuck, short, got, Pulls, Opened, shut_already, ran_short, opened, Led, Reads}
use Rattle.cursor.proofs.Laws.{Behind, pulled_inside}
use Rattle.cursor.proofs.FormatLaws.{all_read, read_unmarked}
use Rattle.cursor.specs.Place as place
use Rattle.records.specs.Told.{Told}
use Rattle.records.proofs.Telling.{told_none, told-then, told-within}
use Rattle.runs.specs.declared.At.{At}
use Rattle.runs.specs.Runs.{given, Ran, stayed, went, passed, gave_up, failed, Runs}

-- the window stays
pub ran_inside : (k : ℕ → ℕ → Ans) (s : List ℕ) (c d : Cursor) {R : List Rec} → Ran k c d R → Inside s c → Inside s d
ran_inside k s c d (stayed h q r) i = rw q i
ran_inside k s c d (went p m z a l q) i = rw q (l, i.1)
ran_inside k s c d (passed lacked p m z a l q) i = rw q (l, i.1)
ran_inside k s c d (gave_up o j t p m z a l q) i = rw q (l, i.1)
ran_inside k s c d (failed w p m S n z a l q) i = rw q (l, i.1)

given-some : (j : Bool) → given j ≡ 0 → ⊥
given-some true h = omega arith
given-some false h = omega arith

-- behind a stop the cursor stays, and nothing is told
pub ran_stays : (k : ℕ → ℕ → Ans) (c d : Cursor) {R : List Rec} → (c.why ≡ 0 → ⊥) → Ran k c d R → (d ≡ c) × (R ≡ [])
ran_stays k c d h (stayed g q r) = (q, r)
ran_stays k c d h (went p m z a l q) = absurd (h z)
ran_stays k c d h (passed lacked p m z a l q) = absurd (h z)
ran_stays k c d h (gave_up o j t p m z a l q) = absurd (h z)
ran_stays k c d h (failed w p m S n z a l q) = absurd (h z)

-- a value that was read, and whose records are told if the reading goes on
pub ran_led : (k : ℕ → ℕ → Ans) {c d : Cursor} {R S : List Rec} → Led k c d R → (d.why ≡ 0 → S ≡ R) → ((d.why ≡ 0 → ⊥) → S ≡ []) → Ran k c d S
ran_led k (place.Led.stayed h q) y n = stayed h q (n (rw q h))
ran_led k {c} {d} {R} {S} (place.Led.went p m z a l q) y n = let e : S ≡ R = y (rw q refl) in went p m z (rw e a) l q
ran_led k (place.Led.failed w p m T h z a l q) y n = failed w p m T h z a l q

---------------------------------------------------------------- one after another

module _ (k l : ℕ → ℕ → Ans) {c d e : Cursor} {R S : List Rec} where
  -- the first does not carry on past the end
  pub ran_then : is_past (k c.end c.at) ≡ false → Ran k c d R → Ran l d e S → Ran (λ u p. then (k u p) (λ q. l u q)) c e (R ++ S)
  unfolding then glue is_past
  ran_then n (stayed h q r) x = let y = ran_stays l d e (rw q h) x in stayed h (y.0 ∙ q) (rw (r, y.1))
  ran_then n (passed lacked p m z a b q) x = let y : true ≡ false = rw a at n in let z : ◌≡◌ {A = ℕ} 0 1 = cc in absurd (omega arith)
  ran_then n (gave_up o j t p m z a b q) x =
      let y = ran_stays l d e (rw q (given-some j)) x in
      gave_up o j t p m z (rw (a, y.1, append-nil R)) b (y.0 ∙ q)
  ran_then n (failed w p m T h z a b q) x = let y = ran_stays l d e (rw q h) x in failed w p m T h z (rw a) b (y.0 ∙ q)
  ran_then n (went p m z a b q) x = go x
    where
      go : Ran l d e S → Ran (λ u p. then (k u p) (λ q. l u q)) c e (R ++ S)
      go (stayed g y r) = absurd (g (rw q refl))
      go (went p' m' z' a' b' q') = let y : l c.end p ≡ ok p' S m' = rw q at a' in went p' (or m m') z (rw (a, y)) (rw q at b') (q' ∙ rw (q, or_assoc c.marks m m'))
      go (passed lacked p' m' z' a' b' q') = let y : l c.end p ≡ past lacked p' S m' = rw q at a' in passed lacked p' (or m m') z (rw (a, y)) (rw q at b') (q' ∙ rw (q, or_assoc c.marks m m'))
      go (gave_up o j t p' m' z' a' b' q') =
          let y : l c.end p ≡ stop (quit o j t) p' S m' = rw q at a' in
          gave_up o j t p' (or m m') z (rw (a, y)) (rw q at b') (q' ∙ rw q (ap (put c p' (given j)) (or_assoc c.marks m (or (mark t) m') ∙ ap (or c.marks) (or_swap m (mark t) m'))))
      go (failed w p' m' T g z' a' b' q') = let y : l c.end p ≡ stop w p' T m' = rw q at a' in failed w p' (or m m') (R ++ T) g z (rw (a, y)) (rw q at b') (q' ∙ rw (q, or_assoc c.marks m m'))

pub runs_then : {b a : ℕ} (k l : ℕ → ℕ → Ans) {s : List ℕ} {c : Cursor} {n : ℕ} {w w₁ w₂ : List ℕ} {r t : At} → ((u p : ℕ) → is_past (k u p) ≡ false) → Runs b k s c n w w₁ r → Runs a l s r.c r.n w₁ w₂ t
    → Runs (b + a) (λ u p. then (k u p) (λ q. l u q)) s c n w w₂ t
runs_then k l {s} {c} {r = r} h x y =
    record { recs = x.recs ++ y.recs; ran = λ i. ran_then k l (h c.end c.at) (x.ran i) (y.ran (ran_inside k s c r.c (x.ran i) i)); told = told-then x.told y.told }

-- the same reading
pub ran_same : (k l : ℕ → ℕ → Ans) {c d : Cursor} {R : List Rec} → (c.why ≡ 0 → k c.end c.at ≡ l c.end c.at) → Ran k c d R → Ran l c d R
ran_same k l q (stayed h e y) = stayed h e y
ran_same k l q (went p m z a h e) = went p m z (sym (q z) ∙ a) h e
ran_same k l q (passed lacked p m z a h e) = passed lacked p m z (sym (q z) ∙ a) h e
ran_same k l q (gave_up o j t p m z a h e) = gave_up o j t p m z (sym (q z) ∙ a) h e
ran_same k l q (failed w p m S n z a h e) = failed w p m S n z (sym (q z) ∙ a) h e

pub runs_same : {b : ℕ} (k l : ℕ → ℕ → Ans) {s : List ℕ} {c : Cursor} {n : ℕ} {w w' : List ℕ} {r : At} → (Inside s c → c.why ≡ 0 → k c.end c.at ≡ l c.end c.at) → Runs b k s c n w w' r → Runs b l s c n w w' r
runs_same k l q x = record { recs = x.recs; ran = λ i. ran_same k l (q i) (x.ran i); told = x.told }

---------------------------------------------------------------- values that were read, told or not

-- the reading goes on, and the value's records are told
pub runs_told : {b : ℕ} (k : ℕ → ℕ → Ans) {s : List ℕ} {c d : Cursor} {n m : ℕ} {w w' : List ℕ} {R : List Rec} → Reads k s c d R → d.why ≡ 0 → Told b w w' n m R → Runs b k s c n w w' (record { n = m; c = d })
runs_told k {R = R} h z t = record { recs = R; ran = λ i. ran_led k (h.led i) (λ _. refl) (λ y. absurd (y z)); told = t }

-- it has stopped, and nothing is told
pub runs_untold : (k : ℕ → ℕ → Ans) {s : List ℕ} {c d : Cursor} {n : ℕ} {w : List ℕ} {R : List Rec} → Reads k s c d R → (d.why ≡ 0 → ⊥) → Runs 0 k s c n w w (record { n = n; c = d })
runs_untold k h z = record { recs = []; ran = λ i. ran_led k (h.led i) (λ y. absurd (z y)) (λ _. refl); told = told_none }

-- behind a stop nothing happens
pub runs_stayed : (k : ℕ → ℕ → Ans) {s : List ℕ} {c : Cursor} {n : ℕ} {w : List ℕ} → (c.why ≡ 0 → ⊥) → Runs 0 k s c n w w (record { n = n; c = c })
runs_stayed k h = record { recs = []; ran = λ i. stayed h refl refl; told = told_none }

-- a reading that tells nothing
pub runs_silent : (k : ℕ → ℕ → Ans) {s : List ℕ} {c d : Cursor} {n : ℕ} {w : List ℕ} → Reads k s c d [] → Runs 0 k s c n w w (record { n = n; c = d })
runs_silent k h = record { recs = []; ran = λ i. ran_led k (h.led i) (λ _. refl) (λ _. refl); told = told_none }

pub runs_within : {j : ℕ} (b : ℕ) (k : ℕ → ℕ → Ans) {s : List ℕ} {c : Cursor} {n : ℕ} {w w' : List ℕ} {r : At} → j ≤ b → Runs j k s c n w w' r → Runs b k s c n w w' r
runs_within b k l x = record { recs = x.recs; ran = x.ran; told = told-within b l x.told }

-- a bit that chooses between two readings
module _ {b : ℕ} (k l : ℕ → ℕ → Ans) {s : List ℕ} {c : Cursor} {n : ℕ} {w w' : List ℕ} {r : At} (v : ℕ) where
  pub runs_clear : v ≡ 0 → Runs b k s c n w w' r → Runs b (λ u p. fork v (k u p) (l u p)) s c n w w' r
  unfolding fork
  runs_clear z x = rw z x

  pub runs_set : (v ≡ 0 → ⊥) → Runs b l s c n w w' r → Runs b (λ u p. fork v (k u p) (l u p)) s c n w w' r
  unfolding fork
  runs_set = go v
    where
      go : (v : ℕ) → (v ≡ 0 → ⊥) → Runs b l s c n w w' r → Runs b (λ u p. fork v (k u p) (l u p)) s c n w w' r
      go zero h x = absurd (h refl)
      go (suc v) h x = x

---------------------------------------------------------------- parts that are given up

-- what the mark of a given up part leaves
abbrev pub dropped : Cursor → Bool → ℕ → Cursor
dropped d j t = put d d.at (given j) (or d.marks (mark t))

-- the part did not fail
pub led_lax : (t : ℕ) (j : Bool) (k : ℕ → ℕ → Ans) {c d : Cursor} {R : List Rec} → Led k c d R → d.why ≡ 0 → Led (λ u p. laxly t j (k u p)) c d R
unfolding laxly
led_lax t j k (place.Led.stayed h q) z = place.Led.stayed h q
led_lax t j k (place.Led.went p m y a l q) z = place.Led.went p m y (rw a) l q
led_lax t j k (place.Led.failed w p m S n y a l q) z = absurd (n (rw q at z))

-- it failed: ran out or badly formed, and the cursor before it was going
pub ran_lax : (t : ℕ) (j : Bool) (k : ℕ → ℕ → Ans) {c d : Cursor} {R : List Rec} → c.why ≡ 0 → Led k c d R → (d.why ≡ 0 → ⊥) → (d.why ≡ 6 → ⊥) → Ran (λ u p. laxly t j (k u p)) c (dropped d j t) []
unfolding laxly give_up
ran_lax t j k y (place.Led.stayed h q) n₀ n₆ = absurd (h y)
ran_lax t j k y (place.Led.went p m z a l q) n₀ n₆ = absurd (n₀ (rw q refl))
ran_lax t j k {c} y (place.Led.failed (out lacked) p m S n z a l q) n₀ n₆ = gave_up true j t p m z (rw a) l (rw q (ap (put c p (given j)) (or_assoc c.marks m (mark t) ∙ ap (or c.marks) (or_commutes m (mark t)))))
ran_lax t j k {c} y (place.Led.failed bad p m S n z a l q) n₀ n₆ = gave_up false j t p m z (rw a) l (rw q (ap (put c p (given j)) (or_assoc c.marks m (mark t) ∙ ap (or c.marks) (or_commutes m (mark t)))))
ran_lax t j k y (place.Led.failed lack p m S n z a l q) n₀ n₆ = absurd (n₆ (rw q refl))
ran_lax t j k y (place.Led.failed (quit o i v) p m S n z a l q) n₀ n₆ = absurd (n refl)

-- an unsupplied item is said all the same
pub led_lax_lack : (t : ℕ) (j : Bool) (k : ℕ → ℕ → Ans) {c d : Cursor} {R : List Rec} → Led k c d R → d.why ≡ 6 → Led (λ u p. laxly t j (k u p)) c d R
unfolding laxly give_up
led_lax_lack t j k (place.Led.stayed h q) z = place.Led.stayed h q
led_lax_lack t j k (place.Led.went p m y a l q) z = absurd (let x : 0 ≡ 6 = rw q at z in omega arith)
led_lax_lack t j k (place.Led.failed (out lacked) p m S n y a l q) z = absurd (let x = rw q at z in omega arith)
led_lax_lack t j k (place.Led.failed bad p m S n y a l q) z = absurd (let x : 5 ≡ 6 = rw q at z in omega arith)
led_lax_lack t j k (place.Led.failed lack p m S n y a l q) z = place.Led.failed lack p m S n y (rw a) l q
led_lax_lack t j k (place.Led.failed (quit o i v) p m S n y a l q) z = absurd (n refl)

---------------------------------------------------------------- optional fields and presence bits

fork-then : (v p : ℕ) (a : Ans) (k : ℕ → Ans) (R : List Rec) → then (fork v (ok p R 0) a) k ≡ fork v (then (ok p R 0) k) (then a k)
unfolding fork
fork-then zero p a k R = refl
fork-then (suc v) p a k R = refl

-- a cursor that goes on went on before
pub ran_back : (k : ℕ → ℕ → Ans) {c d : Cursor} {R : List Rec} → Ran k c d R → d.why ≡ 0 → c.why ≡ 0
ran_back k (stayed h q r) z = rw q at z
ran_back k (went p m y a l q) z = y
ran_back k (passed lacked p m y a l q) z = y
ran_back k (gave_up o j t p m y a l q) z = y
ran_back k (failed w p m S n y a l q) z = y

module _ (x : Ctx) (s : List ℕ) {c d : Cursor} {R : List Rec} where
  -- a field, then the others
  pub ran_must : {e : Cursor} {S : List Rec} (f : Fmt) (fs : Flds) (q : ℕ) → firm f ≡ true → Ran (λ u p. read f x (bit_of s) u p) c d R → Ran (λ u p. read_fields fs x (bit_of s) u q p) d e S
      → Ran (λ u p. read_fields (f ⨾ fs) x (bit_of s) u q p) c e (R ++ S)
  unfolding read_fields
  ran_must f fs q hard y g = ran_then (λ u p. read f x (bit_of s) u p) (λ u p. read_fields fs x (bit_of s) u q p) (firm_read (bit_of s) f x c.end c.at hard) y g

  -- the last field, which may carry on past the end
  pub ran_last : (f : Fmt) (q : ℕ) → Ran (λ u p. read f x (bit_of s) u p) c d R → Ran (λ u p. read_fields (f ⨾ end) x (bit_of s) u q p) c d R
  unfolding read_fields
  ran_last f q y = ran_same (λ u p. read f x (bit_of s) u p) (λ u p. read_fields (f ⨾ end) x (bit_of s) u q p) (λ z. sym (then-end (read f x (bit_of s) c.end c.at))) y

  -- a field that stands there unless its presence bit is clear, then the others
  pub ran_may : {e : Cursor} {S : List Rec} (f : Fmt) (fs : Flds) (q has : ℕ) → firm f ≡ true → (c.why ≡ 0 → has ≡ bit_of s q) → Ran (λ u p. fork has (ok p [] 0) (read f x (bit_of s) u p)) c d R
      → Ran (λ u p. read_fields fs x (bit_of s) u (suc q) p) d e S → Ran (λ u p. read_fields (f ⨾? fs) x (bit_of s) u q p) c e (R ++ S)
  unfolding read_fields is_past
  ran_may f fs q has hard bit y g =
      ran_same (λ u p. then (fork has (ok p [] 0) (read f x (bit_of s) u p)) (λ r. read_fields fs x (bit_of s) u (suc q) r)) (λ u p. read_fields (f ⨾? fs) x (bit_of s) u q p)
      (λ z. fork-then has c.at _ _ [] ∙ rw (then-nil c.at (λ r. read_fields fs x (bit_of s) c.end (suc q) r), bit z))
      (ran_then (λ u p. fork has (ok p [] 0) (read f x (bit_of s) u p)) (λ u p. read_fields fs x (bit_of s) u (suc q) p) (firm_fork has _ _ refl (firm_read (bit_of s) f x c.end c.at hard)) y g)

  pub ran_last_may : (f : Fmt) (q has : ℕ) → (c.why ≡ 0 → has ≡ bit_of s q) → Ran (λ u p. fork has (ok p [] 0) (read f x (bit_of s) u p)) c d R → Ran (λ u p. read_fields (f ⨾? end) x (bit_of s) u q p) c d R
  unfolding read_fields
  ran_last_may f q has bit y =
      ran_same (λ u p. fork has (ok p [] 0) (read f x (bit_of s) u p)) (λ u p. read_fields (f ⨾? end) x (bit_of s) u q p)
      (λ z. rw (← (bit z)) (ap (fork has (ok c.at [] 0)) (sym (then-end (read f x (bit_of s) c.end c.at))))) y

  -- the same where its absence has a record
  pub ran_note : {e : Cursor} {S : List Rec} (t v y : ℕ) (f : Fmt) (fs : Flds) (q has : ℕ) → firm f ≡ true → (c.why ≡ 0 → has ≡ bit_of s q)
      → Ran (λ u p. fork has (ok p (rec t x.0 v y p ∷ []) 0) (read f x (bit_of s) u p)) c d R → Ran (λ u p. read_fields fs x (bit_of s) u (suc q) p) d e S → Ran (λ u p. read_fields (or_note t v y f fs) x (bit_of s) u q p) c e (R ++ S)
  unfolding read_fields is_past
  ran_note t v y f fs q has hard bit z g =
      ran_same (λ u p. then (fork has (ok p (rec t x.0 v y p ∷ []) 0) (read f x (bit_of s) u p)) (λ r. read_fields fs x (bit_of s) u (suc q) r)) (λ u p. read_fields (or_note t v y f fs) x (bit_of s) u q p)
      (λ k. fork-then has c.at _ _ (rec t x.0 v y c.at ∷ []) ∙ rw (bit k))
      (ran_then (λ u p. fork has (ok p (rec t x.0 v y p ∷ []) 0) (read f x (bit_of s) u p)) (λ u p. read_fields fs x (bit_of s) u (suc q) p) (firm_fork has _ _ refl (firm_read (bit_of s) f x c.end c.at hard)) z g)

-- a reading that begins at another place of the window
ran_from : {c e d : Cursor} {p : ℕ} {R : List Rec} (k l : ℕ → ℕ → Ans) → c.why ≡ 0 → e ≡ put c p 0 c.marks → k c.end p ≡ l c.end c.at → Ran k e d R → Ran l c d R
ran_from k l z q y (stayed h x r) = absurd (h (rw q refl))
ran_from {c} {e} {d} {p} {R} k l z q y (went p' m w a b x) = let a' : k c.end p ≡ ok p' R m = rw q at a in went p' m z (sym y ∙ a') (rw q at b) (x ∙ rw q)
ran_from {c} {e} {d} {p} {R} k l z q y (passed lacked p' m w a b x) = let a' : k c.end p ≡ past lacked p' R m = rw q at a in passed lacked p' m z (sym y ∙ a') (rw q at b) (x ∙ rw q)
ran_from {c} {e} {d} {p} {R} k l z q y (gave_up o j t p' m w a b x) = let a' : k c.end p ≡ stop (quit o j t) p' R m = rw q at a in gave_up o j t p' m z (sym y ∙ a') (rw q at b) (x ∙ rw q)
ran_from {c} {e} {d} {p} {R} k l z q y (failed v p' m S n w a b x) = let a' : k c.end p ≡ stop v p' S m = rw q at a in failed v p' m S n z (sym y ∙ a') (rw q at b) (x ∙ rw q)

-- presence bits, then the fields
pub ran_opened : {s : List ℕ} {c d : Cursor} {R : List Rec} (fs : Flds) (x : Ctx) (n : ℕ) (g : Got ℕ) → flags fs ≡ n → all_read fs ≡ true → Inside s c → Opened s c n g
    → Ran (λ u p. read_fields fs x (bit_of s) u c.at p) g.c d R → Ran (λ u p. read (seq fs) x (bit_of s) u p) c d R
unfolding read
ran_opened {s} {c} {d} fs x n g f a i (shut_already z q) h = let e = ran_stays _ g.c d (rw q z) h in stayed z (e.0 ∙ q) e.1
ran_opened {s} {c} {d} fs x n g f a i (ran_short z l q) h =
    let e : c.at + (c.end - c.at) ≡ c.end = omega (arith, i.0) in
    let k = read_unmarked fs (within (bit_of s) c.end) c.at a in
    let t = ran_stays _ g.c d (rw q (λ y. omega arith)) h in
    failed (out 1) c.end 0 [] (λ y. omega arith) z (fetch_no (bit_of s) c.end c.at (flags fs) _ _ (omega arith) ∙ rw (e, k)) (omega arith) (t.0 ∙ q ∙ rw (or_nil c.marks))
ran_opened {s} {c} fs x n g f a i (opened z l v q) h =
    ran_from (λ u p. read_fields fs x (bit_of s) u c.at p) (λ u p. read (seq fs) x (bit_of s) u p) z q
    (sym (fetch_go (bit_of s) c.end c.at (flags fs) _ _ (omega arith) ∙ rw (read_unmarked fs (bit_of s) c.at a, f) (then-nil (c.at + n) (λ p. read_fields fs x (bit_of s) c.end c.at p)))) h

-- n bits, and what follows them
pub runs_pull : {b : ℕ} {s : List ℕ} {c : Cursor} {m : ℕ} {w w' : List ℕ} {r : At} (n : ℕ) (g : Got ℕ) (k : ℕ → ℕ → ℕ → Ans) → Pulls s c n g → Runs b (λ u p. k g.v u p) s g.c m w w' r → Runs b (Behind s n k) s c m w w' r
runs_pull {s = s} {c} {r = r} n g k o y = record { recs = y.recs; ran = λ i. go i (o.gave i) (y.ran (pulled_inside s c n g i (o.gave i))); told = y.told }
  where
    go : Inside s c → Pulled s c n g → Ran (λ u p. k g.v u p) g.c r.c y.recs → Ran (Behind s n k) c r.c y.recs
    go i (stuck h q) x = let e = ran_stays _ g.c r.c (rw q h) x in stayed h (e.0 ∙ q) e.1
    go i (short z l q) x =
        let t = ran_stays _ g.c r.c (rw q (λ y. omega arith)) x in
        failed (out (c.at + n - c.end)) c.at 0 [] (λ y. omega arith) z (pull_no (bit_of s) c.end c.at n _ l) i.0 (t.0 ∙ q ∙ rw (or_nil c.marks))
    go i (got z l v q) x = ran_from (λ u p. k g.v u p) (Behind s n k) z q (sym (pull_go (bit_of s) c.end c.at n _ l ∙ rw (← v))) x

-- the same where what follows also knows the place at which the bits started
pub runs_from : {b : ℕ} {s : List ℕ} {c : Cursor} {m : ℕ} {w w' : List ℕ} {r : At} (n : ℕ) (g : Got ℕ) (k : ℕ → ℕ → ℕ → ℕ → Ans) → Pulls s c n g → Runs b (λ u p. k c.at g.v u p) s g.c m w w' r
    → Runs b (λ u p. pull (bit_of s) u p n (λ v. k p v u (p + n))) s c m w w' r
runs_from {s = s} {c} n g k x y = runs_same (Behind s n (k c.at)) (λ u p. pull (bit_of s) u p n (λ v. k p v u (p + n))) (λ _ _. refl) (runs_pull n g (k c.at) x y)
