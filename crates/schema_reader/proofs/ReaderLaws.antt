-- From where the reading of a frame came to what the entry says.
use mathlib.Core.Path.{◌≡◌, refl, sym, ap, ◌∙◌}
use mathlib.Core.Bool.{Bool, true, false, cond}
use mathlib.Core.List.{List, [], ◌++◌}
use Prim.Native.Nat.{ℕ, ◌*◌, ◌/◌, ◌%◌, ◌^◌, ◌≤◌, ◌<◌, min}
use native.Mathlib.Omega.{arith}
use lib.ListN.{length, drop}
use Rattle.x691.specs.Bits.{bit_of}
use Rattle.atn.specs.Format.{out, bad, lack, quit}
use Rattle.atn.specs.Reading.{Ans, ok, stop, or, read}
use Rattle.atn.specs.Entries.{Reply, reply, stopped, read_frame, Outcome, accepted, refused, flat, need, settle, decide, enter}
use Rattle.atn.proofs.Marks.{or_nil, or_commutes}
use Rattle.atn.proofs.Outcomes.{settle-fits, settle_full, decide-kept}
use Rattle.answers.specs.declared.Answer.{Answer}
use Rattle.answers.specs.Says.{Says}
use Rattle.answers.proofs.Entering.{enter-long, enter_tests}
use Rattle.schema_tables.specs.Entry.{top, capped_answer, capped, table_tests, parse_by_table}
use Rattle.schema_tables.specs.Nodes.{format_at, meaning}
use Rattle.schema_tables.specs.Tests.{kinds_fit, links_fit, depth_fits}
use Rattle.schema_tables.proofs.Capped.{cap_same, cap_need, cap_words}
use Rattle.schema_nodes.specs.declared.refusal.Refusal.{Refusal}
use Rattle.schema_nodes.specs.declared.refusal.Refusal.TheVariants.{UnfitKinds, UnfitLinks, UnfitDepth}
use Rattle.schema_nodes.specs.Refusal.{refusal_of, number}
use Rattle.capped_records.specs.Place.{counted, place}
use Rattle.capped_records.proofs.PlaceLaws.{place-front}
use Rattle.schema_leaves.specs.declared.Step.{Step}
use Rattle.schema_leaves.specs.Came.{Open, Came, went, failed}
use Rattle.schema_leaves.proofs.CameLaws.{says_why}
use Rattle.schema_walk.specs.Ready.{Ready}

abbrev pub start : List ℕ → Step
start s = record { c = record { at = 0; end = length s * 8; why = 0; marks = 0 }; n = 0 }

pub at_start : (s : List ℕ) → length s ≤ 65536 → Open s (start s)
at_start s h = record { goes = refl; inside = (omega arith, omega arith); short = omega arith; few = omega arith }

---------------------------------------------------------------- the reading of a frame

module _ (N s : List ℕ) where
  abbrev Whole : ℕ → Ans
  Whole e = read (format_at 16 N 0) (0, 0) (bit_of s) e 0

  by_answer : {x : Ans} → Whole (length s * 8) ≡ x → read_frame (meaning N) s ≡ reply x
  unfolding read_frame meaning
  by_answer e = ap reply e

  abbrev Frame : List ℕ → Step → List ℕ → Type 0
  Frame v z v' = Came (Whole (length s * 8)) (start s) v z v'

  pub frame_stops : {v v' : List ℕ} {z : Step} (w : List ℕ) → Frame v z v' → (z.c.why ≡ 0 → ⊥) → ◌≡◌ {A = Outcome} (refused (z.c.why % 16) z.c.at 0 z.n, w) (capped (settle (read_frame (meaning N) s) w))
  unfolding reply stopped settle capped capped_answer
  frame_stops w (went p m R e l c n q) h = absurd (h (rw c refl))
  frame_stops w (failed (out k) p m S n e l c j q i) h = rw (by_answer e, c, j, q)
  frame_stops w (failed bad p m S n e l c j q i) h = rw (by_answer e, c, j, q)
  frame_stops w (failed lack p m S n e l c j q i) h = rw (by_answer e, c, j, q)
  frame_stops w (failed (quit a b d) p m S n e l c j q i) h = absurd (n refl)

  pub frame_full : {v v' : List ℕ} {z : Step} {k : ℕ} (w : List ℕ) → Frame v z v' → z.c.why ≡ 0 → length w / 5 < z.n → k ≡ min (z.n * 5) top → ◌≡◌ {A = Outcome} (refused 7 z.c.at k 0, w) (capped (settle (read_frame (meaning N) s) w))
  unfolding reply need counted
  frame_full {z = z} {k = k} w (went p m R e l c n q) h f g =
      let a : z.c.at ≡ p = rw c in
      let b : length w < need R = omega arith in
      let d : k ≡ min (need R) top = omega arith in
      rw (by_answer e, a, d) (sym (ap capped (settle_full false p (m) R w b) ∙ cap_need 7 p (need R) 0 w))
  frame_full w (failed y p m S n e l c j q i) h f g = absurd (says_why y n c h)

  pub frame-fits-all : {v v' w w' : List ℕ} {z z' : Step} → length w < 2 ^ 64 → Frame v z v' → Frame w z' w' → z.c.why ≡ 0 → z.n ≤ length w / 5 → ◌≡◌ {A = Outcome} (accepted false z.c.at z.c.marks z.n, w') (capped (settle (read_frame (meaning N) s) w))
  unfolding reply need counted
  frame-fits-all {w = w} {w'} {z} {z'} t (went p m R e l c n q) (went p' m' R' e' l' c' n' q') h f =
      let r : R' ≡ R = (let y : ok p' R' m' ≡ ok p R m = sym e' ∙ e in cc) in
      let a : z.c.at ≡ p = rw c in
      let b : z.c.marks ≡ m = (let y : z.c.marks ≡ or 0 m = rw c in y ∙ or_commutes 0 m ∙ or_nil m) in
      let d : z.n ≡ length R = omega arith in
      let i : need R ≤ length w = omega arith in
      let j : w' ≡ flat R ++ drop (need R) w = q' ∙ ap (λ S. place w 0 S) r ∙ place-front w R i in
      rw (by_answer e, a, b, d, j) (sym (ap capped (settle-fits false p m R w i) ∙ cap_same false p m (length R) (flat R ++ drop (need R) w)))
  frame-fits-all t (went p m R e l c n q) (failed y p' m' S n' e' l' c' j' q' i) h f = absurd (let y : ok p R m ≡ stop y p' S m' = sym e ∙ e' in let u : ◌≡◌ {A = ℕ} 0 1 = cc in omega arith)
  frame-fits-all t (failed y p m S n e l c j q i) x h f = absurd (says_why y n c h)

---------------------------------------------------------------- the tests before it

pub some_number : (r : Refusal) → number r ≡ 0 → ⊥
some_number UnfitKinds e = omega (arith, e)
some_number UnfitLinks e = omega (arith, e)
some_number UnfitDepth e = omega (arith, e)

module _ (s N w : List ℕ) where
  pub frame-long : 65536 < length s → ◌≡◌ {A = Outcome} (refused 1 0 0 0, w) (parse_by_table s N w)
  unfolding parse_by_table
  frame-long h = sym (cap_need 1 0 0 0 w) ∙ ap capped (enter-long (table_tests N) _ s w h)

  -- the first refusal of the table
  pub table-refused : {k : ℕ} → length s ≤ 65536 → k ≡ refusal_of N → (k ≡ 0 → ⊥) → ◌≡◌ {A = Outcome} (refused k 0 0 0, w) (parse_by_table s N w)
  unfolding parse_by_table decide refusal_of
  table-refused {k} h e n = go (kinds_fit N) (links_fit N) (depth_fits N) refl refl refl
    where
      back : (a b d : Bool) → kinds_fit N ≡ a → links_fit N ≡ b → depth_fits N ≡ d → k ≡ cond a (cond b (cond d 0 16) 15) 17
      back a b d p q r = e ∙ rw (p, q, r)

      say : (j : ℕ) → k ≡ j → ◌≡◌ {A = Outcome} (refused j 0 0 0, w) (decide (table_tests N) (read_frame (meaning N) s) w) → ◌≡◌ {A = Outcome} (refused k 0 0 0, w) (capped (enter (table_tests N) (λ f. read_frame (meaning N) f) s w))
      say j f g = rw f (sym (cap_need j 0 0 0 w) ∙ ap capped (enter_tests (table_tests N) _ s w h g))

      go : (a b d : Bool) → kinds_fit N ≡ a → links_fit N ≡ b → depth_fits N ≡ d → ◌≡◌ {A = Outcome} (refused k 0 0 0, w) (capped (enter (table_tests N) (λ f. read_frame (meaning N) f) s w))
      go false b d p q r = say 17 (back false b d p q r) (rw p refl)
      go true false d p q r = say 15 (back true false d p q r) (rw (p, q) refl)
      go true true false p q r = say 16 (back true true false p q r) (rw (p, q, r) refl)
      go true true true p q r = absurd (n (back true true true p q r))

  pub table_ready : {k : ℕ} → k ≡ refusal_of N → k ≡ 0 → Ready N
  unfolding refusal_of
  table_ready {k} e z = go (kinds_fit N) (links_fit N) (depth_fits N) refl refl refl
    where
      none : (j : ℕ) → k ≡ j → 1 ≤ j → Ready N
      none j f l = absurd (omega arith)

      back : (a b d : Bool) → kinds_fit N ≡ a → links_fit N ≡ b → depth_fits N ≡ d → k ≡ cond a (cond b (cond d 0 16) 15) 17
      back a b d p q r = e ∙ rw (p, q, r)

      go : (a b d : Bool) → kinds_fit N ≡ a → links_fit N ≡ b → depth_fits N ≡ d → Ready N
      go false b d p q r = none 17 (back false b d p q r) (omega arith)
      go true false d p q r = none 15 (back true false d p q r) (omega arith)
      go true true d p q r = record { kinds = p; links = q }

  pub table_reads : {k : ℕ} {o : Outcome} → length s ≤ 65536 → k ≡ refusal_of N → k ≡ 0 → o ≡ capped (settle (read_frame (meaning N) s) w) → o ≡ parse_by_table s N w
  unfolding parse_by_table decide refusal_of
  table_reads {k} {o} h e z x = go (kinds_fit N) (links_fit N) (depth_fits N) refl refl refl
    where
      back : (a b d : Bool) → kinds_fit N ≡ a → links_fit N ≡ b → depth_fits N ≡ d → k ≡ cond a (cond b (cond d 0 16) 15) 17
      back a b d p q r = e ∙ rw (p, q, r)

      none : (j : ℕ) → k ≡ j → 1 ≤ j → o ≡ capped (enter (table_tests N) (λ f. read_frame (meaning N) f) s w)
      none j f l = absurd (omega arith)

      go : (a b d : Bool) → kinds_fit N ≡ a → links_fit N ≡ b → depth_fits N ≡ d → o ≡ capped (enter (table_tests N) (λ f. read_frame (meaning N) f) s w)
      go false b d p q r = none 17 (back false b d p q r) (omega arith)
      go true false d p q r = none 15 (back true false d p q r) (omega arith)
      go true true false p q r = none 16 (back true true false p q r) (omega arith)
      go true true true p q r = x ∙ ap capped (enter_tests (table_tests N) (λ f. read_frame (meaning N) f) s w h (rw (p, q, r) refl))

-- the words keep their number
pub said-length : (r : Reply) (w : List ℕ) {a : Answer} {w' : List ℕ} → Says a w' (capped (settle r w)) → length w' ≡ length w
unfolding decide
said-length r w x = ap (λ (o : Outcome). length o.1) x.is ∙ ap (λ l. length l) (cap_words (settle r w)) ∙ decide-kept [] r w
