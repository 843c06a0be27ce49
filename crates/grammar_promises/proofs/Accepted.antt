-- Every list of records that an entry gives is one that the rows take.
use mathlib.Core.Path.{◌≡◌, refl, ◌∙◌}
use mathlib.Core.Bool.{Bool, true, false, ◌&&◌}
use mathlib.Core.List.{List, [], ◌∷◌}
use mathlib.Core.Logic.{inl, inr}
use Prim.Native.Nat.{ℕ, zero, suc, ◌*◌, ◌%◌, ◌≤◌}
use native.Mathlib.Omega.{arith}
use lib.Dec.{leb, eqb}
use lib.ListN.{length, get_or}
use borrow.Author.Tests.{leb-true, eqb-true, eq-eqb}
use Rattle.x691.specs.Bits.{bit_of}
use Rattle.x691.proofs.BitLaws.{bit_of-lt}
use Rattle.atn.specs.Format.{Fmt, null, out, bad, lack, quit}
use Rattle.atn.specs.Reading.{Rec, rec, Ctx, Ans, ok, past, stop, read, read_choice}
use Rattle.atn.specs.Messages.{date_time_group, constrained_data, arguments, argument, no_reader, argument_of, elements, message_data, atc_message, protected_message, aircraft_pdus, ground_pdus, cm_aircraft, cm_ground, acse}
use Rattle.atn.specs.Entries.{Reply, stopped, reply, read_frame, or_else, flat, need, frame_fits, table_fits, Test, decide, enter, pdus, parse_pdus, parse_apdu, cm_of, parse_cm, parse_acse_apdu}
use Rattle.atn.proofs.Inverse.{both}
use Rattle.records.specs.Space.{size}
use Rattle.record_views.specs.View.{whole, records_from, fetched}
use Rattle.fixture_promises.proofs.Words.{flat-length, records-flat}
use Rattle.record_grammar.specs.declared.Walk.{Walk}
use Rattle.record_grammar.specs.Rows.{stepped}
use Rattle.record_grammar.specs.Heard.{start, walked, heard, formed}
use Rattle.record_grammar.specs.Table.{table}
use Rattle.grammar_promises.specs.Accepted.{Fits, Short, AllHeard, Formed}
use Rattle.grammar_promises.proofs.States.{nil, State, lost, stands, Covers, Covered, left_of}
use Rattle.grammar_promises.proofs.Verdicts.{Scope, Known, value}
use Rattle.grammar_promises.proofs.Steps.{step, step_covers}
use Rattle.grammar_promises.proofs.Goes.{Exits, all_lost, either, leaf, goes}
use Rattle.grammar_promises.proofs.Answers.{Ends, ends_bad}
use Rattle.grammar_promises.proofs.Lists.{EndsIn, ends_lost}
use Rattle.grammar_promises.proofs.Lent.{Lent, free, lent-free}
use Rattle.grammar_promises.proofs.Follows.{Bits, fails, in_left, in_right, follows}
use Rattle.grammar_promises.proofs.Reached.{outside, at_end, all_end, arguments_go, element_go, reached, ends, ends_well, ends-well, acse_ends, cm_aircraft_ends, cm_ground_ends, aircraft_ends, ground_ends}
use Rattle.grammar_promises.proofs.Replies.{Good, good_else, Passed, decide-good}

---------------------------------------------------------------- the elements of any lent table

unfoldable all_free : List Fmt → Bool
all_free [] = true
all_free (f ∷ fs) = free f && all_free fs

module _ (track : Bool) where
  -- a part that holds no element
  part : (b : ℕ → ℕ) → Bits b → (f : Fmt) → free f ≡ true → (ρ : ℕ → ℕ) (Γ : Scope) (x : Ctx) → Known ρ Γ x → (e at : ℕ) → e ≤ 524288 → (A : List State) (s : Walk) → Covered ρ A s → EndsIn ρ (goes track (λ _ _. all_lost) f Γ A) s (read f x b e at)
  part b h f u = follows track (λ _ _. all_lost) (λ T b h i ρ Γ x k e at l A s g. ends_lost ρ s _) b h f (lent-free f u)

  module _ (b : ℕ → ℕ) (h : Bits b) (ρ : ℕ → ℕ) (Γ : Scope) (x : Ctx) (k : Known ρ Γ x) (e : ℕ) (l : e ≤ 524288) (A : List State) (s : Walk) (g : Covered ρ A s) where
    abbrev go : Fmt → Exits
    go f = goes track (λ _ _. all_lost) f Γ A

    arguments_follow : (fs : List Fmt) → all_free fs ≡ true → (n at : ℕ) → EndsIn ρ (arguments_go (λ f. go f) fs) s (read (argument (get_or fs n no_reader)) x b e at)
    unfolding arguments_go all_free free
    arguments_follow [] u n at = part b h (argument no_reader) refl ρ Γ x k e at l A s g
    arguments_follow (f ∷ fs) u zero at = in_left ρ s (go (argument f)) (arguments_go (λ f. go f) fs) _ (part b h (argument f) (both (free f) (all_free fs) u).0 ρ Γ x k e at l A s g)
    arguments_follow (f ∷ fs) u (suc n) at = in_right ρ s (go (argument f)) (arguments_go (λ f. go f) fs) _ (arguments_follow fs (both (free f) (all_free fs) u).1 n at)

    element_follows : (n at : ℕ) → EndsIn ρ (element_go track Γ A) s (read (argument_of n) x b e at)
    unfolding element_go argument_of all_free free
    element_follows zero at = in_left ρ s (go null) (arguments_go (λ f. go f) arguments) _ (part b h null refl ρ Γ x k e at l A s g)
    element_follows (suc n) at = in_right ρ s (go null) (arguments_go (λ f. go f) arguments) _ (arguments_follow arguments refl n at)

    elements_follow : (T : List ℕ) (i at : ℕ) → EndsIn ρ (element_go track Γ A) s (read_choice (elements T) i x b e at)
    unfolding elements read_choice element_go either
    elements_follow [] i at = ends_bad _ _ _ s at [] _ (unfold walked in left_of ρ s (go null).failed _ (unfold goes leaf in fails track (λ _ _. all_lost) ρ s A g))
    elements_follow (n ∷ T) zero at = element_follows n at
    elements_follow (n ∷ T) (suc i) at = elements_follow T i at

---------------------------------------------------------------- the tables of a message

module _ (T : List ℕ) (short : Short T) where
  data_lent : Lent (message_data T)
  unfolding free
  data_lent = (record { lent = T; same = refl; short = short }, (lent-free constrained_data refl, tt))

  message-lent : Lent (atc_message T)
  unfolding free
  message-lent = (tt, (tt, (lent-free date_time_group refl, (tt, (data_lent, tt)))))

  protected-lent : Lent (protected_message T)
  protected-lent = ((tt, (message-lent, (tt, tt))), tt)

  aircraft_lent : Lent (aircraft_pdus T)
  aircraft_lent = (((tt, tt), ((tt, tt), ((tt, (protected-lent, tt)), (protected-lent, tt)))), tt)

ground_lent : (down up : List ℕ) → Short down → Short up → Lent (ground_pdus down up)
unfolding free
ground_lent down up d u =
    (((tt, tt), ((tt, tt), (protected-lent up u, (protected-lent up u, (((lent-free date_time_group refl, (tt, (tt, tt))), ((data_lent up u, (data_lent down d, tt)), tt)), ((tt, tt), tt)))))), tt)

---------------------------------------------------------------- accepted frames

abbrev Heard : Reply → Type 0
Heard r = Good (λ R. heard table R ≡ true) r

-- before the first record nothing is counted
abbrev uncounted : ℕ → ℕ
uncounted i = 0

known : Known uncounted outside (0, 0)
known = (refl, refl, refl, omega arith)

at_three : (τ : State) (w : Walk) → at_end τ ≡ true → Covers uncounted τ w → eqb w.at 3 ≡ true
unfolding at_end
at_three lost w p q = let z : ◌≡◌ {A = ℕ} 0 1 = cc in absurd (omega arith)
at_three (stands a b l e c n) w p q = eq-eqb w.at 3 (q.0 ∙ eqb-true a 3 p)

-- where the end is heard
end-heard : (A : List State) → all_end A ≡ true → (s : Walk) → Covered uncounted A s → eqb (stepped table s (fetched (rec 0 0 0 0 0))).at 3 ≡ true
unfolding all_end
end-heard [] h s g = absurd g
end-heard (σ ∷ A) h s (inl g) = at_three (step outside 0 (value 0 1 0) σ) (stepped table s (fetched (rec 0 0 0 0 0))) (both (at_end (step outside 0 (value 0 1 0) σ)) (all_end A) h).0 (step_covers uncounted outside (0, 0) known (fetched (rec 0 0 0 0 0)) (value 0 1 0) refl (omega arith, omega arith, refl) 0 refl s σ g)
end-heard (σ ∷ A) h s (inr g) = end-heard A (both (at_end (step outside 0 (value 0 1 0) σ)) (all_end A) h).1 s g

good-reply : (X : Exits) → ends X ≡ true → (a : Ans) → EndsIn uncounted X start a → Heard (reply a)
unfolding Good ends reply stopped heard Ends
good-reply X h (ok p R m) g = end-heard X.next (both (all_end X.next) (all_end X.given) h).0 (walked table start R) g
good-reply X h (past k p R m) g = end-heard X.next (both (all_end X.next) (all_end X.given) h).0 (walked table start R) g
good-reply X h (stop (out k) p R m) g = tt
good-reply X h (stop bad p R m) g = tt
good-reply X h (stop lack p R m) g = tt
good-reply X h (stop (quit o j k) p R m) g = end-heard X.given (both (all_end X.next) (all_end X.given) h).1 (walked table start R) g

good-frame : (track : Bool) (f : Fmt) → Lent f → ends_well track f ≡ true → (s : List ℕ) → Fits s → Heard (read_frame f s)
unfolding read_frame reached start
good-frame track f u h s l =
    good-reply (reached track f) (ends-well track f h) _
    (follows track (λ Γ A. element_go track Γ A) (λ T b y i ρ Γ x k e at z A w g. elements_follow track b y ρ Γ x k e z A w g T i at) (bit_of s) (bit_of-lt s) f u uncounted outside (0, 0) known (length s * 8) 0 (omega arith) (stands 4 0 0 nil nil nil ∷ []) start
    (inl (refl, refl, refl, refl, refl, refl, refl)))

all-heard : (r : List ℕ → Reply) → ((s : List ℕ) → Fits s → Heard (r s)) → AllHeard r
unfolding Good
all-heard r f s c p m R l h = rw h at (f s l)

---------------------------------------------------------------- each way to read a frame

good-pdus : (d : ℕ) (down up : List ℕ) → Short down → Short up → (s : List ℕ) → Fits s → Heard (read_frame (pdus d down up) s)
unfolding pdus
good-pdus zero down up h g = good-frame false (aircraft_pdus down) (aircraft_lent down h) (aircraft_ends down)
good-pdus (suc d) down up h g = good-frame false (ground_pdus down up) (ground_lent down up h g) (ground_ends down up)

good-apdu : (down up : List ℕ) → Short down → Short up → (s : List ℕ) → Fits s → Heard (or_else (read_frame (aircraft_pdus down) s) (read_frame (ground_pdus down up) s))
unfolding pdus
good-apdu down up h g s l = good_else _ _ _ (good-pdus 0 down up h g s l) (good-pdus 1 down up h g s l)

good-cm : (d : ℕ) (s : List ℕ) → Fits s → Heard (read_frame (cm_of d) s)
unfolding cm_of free
good-cm zero = good-frame false cm_aircraft (lent-free cm_aircraft refl) cm_aircraft_ends
good-cm (suc d) = good-frame false cm_ground (lent-free cm_ground refl) cm_ground_ends

good-acse : (s : List ℕ) → Fits s → Heard (read_frame acse s)
unfolding free
good-acse = good-frame true acse (lent-free acse refl) acse_ends

-- CPDLC in either direction, by any two tables
pub pdus-heard : (d : ℕ) (down up : List ℕ) → Short down → Short up → AllHeard (λ f. read_frame (pdus d down up) f)
pdus-heard d down up h g = all-heard _ (good-pdus d down up h g)

pub apdu-heard : (down up : List ℕ) → Short down → Short up → AllHeard (λ f. or_else (read_frame (aircraft_pdus down) f) (read_frame (ground_pdus down up) f))
apdu-heard down up h g = all-heard _ (good-apdu down up h g)

-- Context Management in either direction, and association control
pub cm-heard : (d : ℕ) → AllHeard (λ f. read_frame (cm_of d) f)
cm-heard d = all-heard _ (good-cm d)

pub acse-heard : AllHeard (λ f. read_frame acse f)
acse-heard = all-heard _ good-acse

---------------------------------------------------------------- the words that an entry leaves

formed-flat : (R : List Rec) → heard table R ≡ true → formed (flat R) ≡ true
unfolding formed whole size need records_from
formed-flat R h = rw (records-flat R, h, eq-eqb (length (flat R) % 5) 0 (omega (arith, flat-length R))) refl

decide-formed : (ts : List Test) (r : Reply) (w : List ℕ) → (Passed ts → Heard r) → Formed (decide ts r w)
decide-formed ts r w f = decide-good _ (λ x. formed x ≡ true) (λ R h. formed-flat R h) ts r w f

frame-short : (s : List ℕ) → frame_fits s ≡ true → Fits s
unfolding frame_fits
frame-short s h = let l = leb-true (length s) 65536 h in omega arith

table-short : (T : List ℕ) → table_fits T ≡ true → Short T
unfolding table_fits
table-short T h = let l = leb-true (length T) 256 (both (leb 1 (length T)) (leb (length T) 256) h).1 in omega arith

-- whatever the frame, the direction, the tables and the lent words
pub parse-pdus-formed : (s : List ℕ) (d : ℕ) (down up w : List ℕ) → Formed (parse_pdus s d down up w)
unfolding parse_pdus enter
parse-pdus-formed s d down up w = decide-formed _ _ w λ p. let t = both (table_fits down) (table_fits up) p.1.0 in good-pdus d down up (table-short down t.0) (table-short up t.1) s (frame-short s p.0)

pub parse-apdu-formed : (s down up w : List ℕ) → Formed (parse_apdu s down up w)
unfolding parse_apdu enter
parse-apdu-formed s down up w = decide-formed _ _ w λ p. let t = both (table_fits down) (table_fits up) p.1.0 in good-apdu down up (table-short down t.0) (table-short up t.1) s (frame-short s p.0)

pub parse-cm-formed : (s : List ℕ) (d : ℕ) (w : List ℕ) → Formed (parse_cm s d w)
unfolding parse_cm enter
parse-cm-formed s d w = decide-formed _ _ w λ p. good-cm d s (frame-short s p.0)

pub parse-acse-apdu-formed : (s w : List ℕ) → Formed (parse_acse_apdu s w)
unfolding parse_acse_apdu enter
parse-acse-apdu-formed s w = decide-formed _ _ w λ p. good-acse s (frame-short s p.0)
