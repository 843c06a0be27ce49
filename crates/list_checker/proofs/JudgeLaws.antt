-- From an entry's answer to what is said of the list.
use mathlib.Core.Path.{◌≡◌, refl, sym, ap, ◌∙◌}
use mathlib.Core.Bool.{Bool, true, false}
use mathlib.Core.List.{List, [], ◌∷◌}
use Prim.Native.Nat.{ℕ, zero, suc, ◌+◌, ◌*◌, ◌≤◌, ◌<◌}
use native.Mathlib.Omega.{arith}
use lib.Dec.{eqb}
use lib.ListN.{length, take, drop, length-append}
use lib.Seq.{take-append-le, take_all}
use borrow.Author.Tests.{eqb-true, eq-eqb}
use Rattle.answers.specs.declared.Answer.{Answer}
use Rattle.answers.specs.declared.Answer.TheVariants as answer
use Rattle.answers.specs.Says.{Says}
use Rattle.atn.specs.Reading.{Rec}
use Rattle.atn.specs.Entries.{Reply, accept, ran_out, badly, unsupplied, Outcome, accepted, refused, flat, need, settle, Test, test, decide}
use Rattle.atn.specs.Demands.{passes, NoRoom}
use Rattle.atn.proofs.Reach.{split}
use Rattle.atn.proofs.Outcomes.{Settled, settle-fits, settle_full, settle-refused, answers_differ, decide-accepted, decide-refused, flat-need}
use Rattle.list_comparison.specs.declared.Checked.{Checked}
use Rattle.list_comparison.specs.declared.Checked.TheVariants.{Refused}
use Rattle.list_comparison.specs.Compared.{compared}
use Rattle.list_checker.specs.declared.entries.Entry.{Entry}
use Rattle.list_checker.specs.Entered.{entered, reading_of}
use Rattle.list_checker.specs.Checks.{held, checked, all_tests, check_list}
use Rattle.list_checker.specs.Judged.{is_full, Fits, Judges}
use Rattle.list_checker.proofs.EntryLaws.{tests_and_reading, tests_early, reading_few}

---------------------------------------------------------------- of any tests and any reading

pub checked_go : (ts : List Test) (r : Reply) (l : List ℕ) → passes ts ≡ true → checked ts r l ≡ held r l
unfolding checked passes
checked_go [] r l h = refl
checked_go (test true n ∷ ts) r l h = checked_go ts r l h
checked_go (test false n ∷ ts) r l h = absurd (let z : ◌≡◌ {A = ℕ} 0 1 = cc in omega arith)

not-clean : (r : Reply) (l : List ℕ) → ((p : ℕ) (R : List Rec) → r ≡ accept false p 0 R → ⊥) → held r l ≡ Refused 19
unfolding held
not-clean (accept false p zero R) l n = absurd (n p R refl)
not-clean (accept false p (suc m) R) l n = refl
not-clean (accept true p m R) l n = refl
not-clean (ran_out p lacked) l n = refl
not-clean (badly p) l n = refl
not-clean (unsupplied p) l n = refl

module _ {n p k j : ℕ} {w' : List ℕ} where
  -- a reading refuses with 4 or more, and for want of room with 7
  refused-late : (r : Reply) (w : List ℕ) → settle r w ≡ (refused n p k j, w') → (3 < n) × ((l : List ℕ) → (n ≡ 7 → (q : ℕ) (R : List Rec) → r ≡ accept false q 0 R → ⊥) → held r l ≡ Refused 19)
  unfolding settle held
  refused-late (accept c q m R) w h =
      split (need R) (length w) (λ i. answers_differ (sym (settle-fits c q m R w i) ∙ h))
      (λ i.
      let x = ap (λ (o : Outcome). o.0) (sym (settle_full c q m R w i) ∙ h) in
      let z : 7 ≡ n = cc in
      (omega arith, λ l unclean. not-clean (accept c q m R) l (unclean (sym z))))
  refused-late (ran_out q lacked) w h = let x = ap (λ (o : Outcome). o.0) h in let z : 4 ≡ n = cc in (omega arith, λ l unclean. refl)
  refused-late (badly q) w h = let x = ap (λ (o : Outcome). o.0) h in let z : 5 ≡ n = cc in (omega arith, λ l unclean. refl)
  refused-late (unsupplied q) w h = let x = ap (λ (o : Outcome). o.0) h in let z : 6 ≡ n = cc in (omega arith, λ l unclean. refl)

  -- a test refused
  checked_early : (ts : List Test) (r : Reply) (w l : List ℕ) → decide ts r w ≡ (refused n p k j, w') → n ≤ 3 → Refused n ≡ checked ts r l
  unfolding checked decide
  checked_early [] r w l h i = absurd (let z = (refused-late r w h).0 in omega arith)
  checked_early (test true m ∷ ts) r w l h i = checked_early ts r w l h i
  checked_early (test false m ∷ ts) r w l h i = let x = ap (λ (o : Outcome). o.0) h in let z : n ≡ m = cc in rw z

---------------------------------------------------------------- of an entry

module _ (s : List ℕ) (e : Entry) (down up lent : List ℕ) where
  abbrev reply : Reply
  reply = reading_of e down up s

  abbrev tests : List Test
  tests = all_tests s e down up

  of_accepted : {c : Bool} {p m k : ℕ} {w : List ℕ} → ◌≡◌ {A = Outcome} (accepted c p m k, w) (entered e down up s lent) → (passes tests ≡ true) × Settled reply lent c p m k w
  of_accepted h = decide-accepted tests reply lent (sym (h ∙ tests_and_reading s e down up lent))

  of_refused : {n p k j : ℕ} {w : List ℕ} → ◌≡◌ {A = Outcome} (refused n p k j, w) (entered e down up s lent) → 3 < n → (passes tests ≡ true) × (settle reply lent ≡ (refused n p k j, w))
  of_refused h i = (decide-refused tests reply lent (sym (h ∙ tests_and_reading s e down up lent))).late (tests_early s e down up) i

  -- the records of an accepted answer are in the words
  pub fits : (a : Answer) {w : List ℕ} → Says a w (entered e down up s lent) → Fits a w
  unfolding need
  fits (answer.Accepted c p m k) {w} x =
      let y = (of_accepted x.is).1 in
      let n : length w ≡ length (flat y.recs) + length (drop (need y.recs) lent) = ap (λ (l : List ℕ). length l) y.words ∙ length-append (flat y.recs) (drop (need y.recs) lent) in
      omega (arith, y.counted, flat-need y.recs)
  fits (answer.Refused n p k j) x = tt

  -- no clean reading needs more words than these
  pub enough : length lent ≡ 41620 → (a : Answer) {w : List ℕ} → Says a w (entered e down up s lent) → is_full a ≡ true → (p : ℕ) (R : List Rec) → reply ≡ accept false p 0 R → ⊥
  unfolding need
  enough l (answer.Accepted c q m k) x f p R h = let z : ◌≡◌ {A = ℕ} 0 1 = cc in omega arith
  enough l (answer.Refused n q k j) {w} x f p R h =
      let z = eqb-true n 7 f in
      let full : NoRoom reply lent q k w = (settle-refused reply lent (of_refused x.is (omega arith)).1).2 z in
      let y : accept full.cut q full.marks full.recs ≡ accept false p 0 R = sym full.replied ∙ h in
      let same : full.recs ≡ R = cc in
      let few = reading_few s e down up p R h in
      let long : 41620 < length R * 5 = rw (l, same) at full.full in
      omega arith

  module _ (l : List ℕ) where
    pub said-cut : {p m k : ℕ} {w : List ℕ} → ◌≡◌ {A = Outcome} (accepted true p m k, w) (entered e down up s lent) → Refused 19 ≡ check_list s e down up l
    unfolding check_list
    said-cut h =
        let x = of_accepted h in
        sym (checked_go tests reply l x.0 ∙ not-clean reply l (λ q R y. let z = sym x.1.replied ∙ y in let b : true ≡ false = cc in let o : ◌≡◌ {A = ℕ} 0 1 = cc in omega arith))

    pub said-marked : {p m k : ℕ} {w : List ℕ} → (m ≡ 0 → ⊥) → ◌≡◌ {A = Outcome} (accepted false p m k, w) (entered e down up s lent) → Refused 19 ≡ check_list s e down up l
    unfolding check_list
    said-marked n h =
        let x = of_accepted h in
        sym (checked_go tests reply l x.0 ∙ not-clean reply l (λ q R y. let z = sym x.1.replied ∙ y in n (cc)))

    pub said-clean : {p m k : ℕ} {w : List ℕ} {x : Checked} → m ≡ 0 → ◌≡◌ {A = Outcome} (accepted false p m k, w) (entered e down up s lent) → ((R : List Rec) → take (k * 5) w ≡ flat R → x ≡ compared 1 R l) → x ≡ check_list s e down up l
    unfolding check_list held need
    said-clean {p} {m} {k} {w} z h f =
        let x = of_accepted h in
        let R = x.1.recs in
        let n : k * 5 ≡ length (flat R) = ap (λ (j : ℕ). j * 5) x.1.counted ∙ sym (flat-need R) in
        let t : take (k * 5) w ≡ flat R = ap (λ (v : List ℕ). take (k * 5) v) x.1.words ∙ rw n (take-append-le (length (flat R)) (flat R) (drop (need R) lent) (omega arith) ∙ take_all (length (flat R)) (flat R) (omega arith)) in
        let q : reply ≡ accept false p 0 R = x.1.replied ∙ ap (λ (j : ℕ). accept false p j R) z in
        f R t ∙ sym (checked_go tests reply l x.0 ∙ rw q)

    pub said_early : {n p k j : ℕ} {w : List ℕ} → n ≤ 3 → ◌≡◌ {A = Outcome} (refused n p k j, w) (entered e down up s lent) → Refused n ≡ check_list s e down up l
    unfolding check_list
    said_early i h = checked_early tests reply lent l (sym (h ∙ tests_and_reading s e down up lent)) i

    pub said-late : {n p k j : ℕ} {w : List ℕ} → 3 < n → (eqb n 7 ≡ true → (q : ℕ) (R : List Rec) → reply ≡ accept false q 0 R → ⊥) → ◌≡◌ {A = Outcome} (refused n p k j, w) (entered e down up s lent) → Refused 19 ≡ check_list s e down up l
    unfolding check_list
    said-late {n} i unclean h =
        let x = of_refused h i in
        sym (checked_go tests reply l x.0 ∙ (refused-late reply lent x.1).1 l (λ z. unclean (eq-eqb n 7 z)))

---------------------------------------------------------------- of an answer

accepted_with : {a : Answer} {w : List ℕ} {b c : Bool} {p m k : ℕ} {o : Outcome} → a ≡ answer.Accepted c p m k → c ≡ b → Says a w o → ◌≡◌ {A = Outcome} (accepted b p m k, w) o
accepted_with {a} {b = b} {p = p} {m = m} {k = k} q z x = let y : a ≡ answer.Accepted b p m k = q ∙ rw z in rw y at x.is

module _ {a : Answer} {w l : List ℕ} where
  module _ {c : Bool} {p m k : ℕ} (accepts : a ≡ answer.Accepted c p m k) where
    pub judged_cut : c ≡ true → Judges a w l (Refused 19)
    judged_cut z = record { judges = λ s e down up lent says full. said-cut s e down up lent l (accepted_with accepts z says) }

    pub judged_marked : c ≡ false → (m ≡ 0 → ⊥) → Judges a w l (Refused 19)
    judged_marked z n = record { judges = λ s e down up lent says full. said-marked s e down up lent l n (accepted_with accepts z says) }

    pub judged_clean : {x : Checked} → c ≡ false → m ≡ 0 → ((R : List Rec) → take (k * 5) w ≡ flat R → x ≡ compared 1 R l) → Judges a w l x
    judged_clean z y f = record { judges = λ s e down up lent says full. said-clean s e down up lent l y (accepted_with accepts z says) f }

  module _ {n p k j : ℕ} (refuses : a ≡ answer.Refused n p k j) where
    pub judged_early : n ≤ 3 → Judges a w l (Refused n)
    judged_early i = record { judges = λ s e down up lent says full. said_early s e down up lent l i (rw refuses at says.is) }

    pub judged_late : 3 < n → Judges a w l (Refused 19)
    judged_late i = record { judges = λ s e down up lent says full. said-late s e down up lent l i (λ y. full (rw refuses y)) (rw refuses at says.is) }

pub not_full : {A : Type 0} {t b : Bool} → t ≡ b → t ≡ false → b ≡ true → A
not_full q f y = absurd (let z : true ≡ false = sym y ∙ sym q ∙ f in let o : ◌≡◌ {A = ℕ} 0 1 = cc in omega arith)
