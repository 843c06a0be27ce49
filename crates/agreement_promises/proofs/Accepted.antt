-- In every list of records that an entry gives, an element index has one type of argument, or none at the end.
use mathlib.Core.Path.{◌≡◌}
use mathlib.Core.Bool.{true}
use mathlib.Core.List.{List, [], append-nil}
use mathlib.Core.Logic.{inl, inr}
use Prim.Native.Nat.{ℕ, zero, suc, ◌*◌}
use lib.ListN.{length}
use Rattle.x691.specs.Bits.{bit_of}
use Rattle.atn.specs.Format.{Fmt, out, bad, lack, quit}
use Rattle.atn.specs.Reading.{Rec, Ans, ok, past, stop}
use Rattle.atn.specs.Messages.{aircraft_pdus, ground_pdus, cm_aircraft, cm_ground, acse}
use Rattle.atn.specs.Entries.{Reply, stopped, reply, read_frame, or_else, flat, Test, decide, enter, pdus, parse_pdus, parse_apdu, cm_of, parse_cm, parse_acse_apdu}
use Rattle.record_views.specs.View.{records_from}
use Rattle.element_kinds.specs.Agreed.{agreed}
use Rattle.fixture_promises.proofs.Words.{records-flat}
use Rattle.grammar_promises.proofs.Replies.{Good, good-map, good_else, decide-good}
use Rattle.agreement_promises.specs.Accepted.{All, AllAgreed, ByOne, Agreed}
use Rattle.agreement_promises.specs.Kept.{table_kind, keeps}
use Rattle.agreement_promises.proofs.Keeps.{keeps-agreed}
use Rattle.agreement_promises.proofs.States.{State, nothing, nothing_left, all_known, known-keeps}
use Rattle.agreement_promises.proofs.Answers.{Leads, Front}
use Rattle.agreement_promises.proofs.Back.{back_element, all_kept}
use Rattle.agreement_promises.proofs.Over.{over, aircraft_over, ground_over, cm_aircraft_over, cm_ground_over, acse-over}
use Rattle.agreement_promises.proofs.Fronts.{fronts}
use Rattle.agreement_promises.proofs.Elements.{element-front}
use Rattle.agreement_promises.proofs.Computed.{kept_well, kept-well, acse-kept, cm_aircraft_kept, cm_ground_kept, aircraft_kept, ground_kept}
use Rattle.agreement_promises.proofs.Tables.{One, one_ground}

---------------------------------------------------------------- accepted frames

good-all : (P : List Rec → Type 0) (r : List ℕ → Reply) → ((s : List ℕ) → Good P (r s)) → All P r
unfolding Good
good-all P r f s c p m R h = rw h at (f s)

abbrev Keeping : List ℕ → List Rec → Type 0
Keeping T R = keeps (table_kind T) R ≡ true

good-reply : (T : List ℕ) (A : List State) → all_known A ≡ true → (a : Ans) → Front (table_kind T) nothing nothing [] A a → Good (λ R. Keeping T R) (reply a)
unfolding Good reply stopped Front
good-reply T A h a g = go a g
  where
    list : (R : List Rec) → Leads (table_kind T) nothing A R → Keeping T R
    list R l = known-keeps (table_kind T) R A h (rw append-nil at (l [] (nothing_left (table_kind T))))

    go : (a : Ans) → Front (table_kind T) nothing nothing [] A a → Good (λ R. Keeping T R) (reply a)
    go (ok p R m) g = list R g
    go (past k p R m) g = list R g
    go (stop (out k) p R m) g = tt
    go (stop bad p R m) g = tt
    go (stop lack p R m) g = tt
    go (stop (quit o j k) p R m) g = list R g

-- by the elements of one table
good-frame : (T : List ℕ) (f : Fmt) → over T f ≡ f → kept_well f ≡ true → (s : List ℕ) → Good (λ R. Keeping T R) (read_frame f s)
unfolding read_frame all_kept
good-frame T f u h s = good-reply T _ (kept-well f h) _ (rw u at (fronts (table_kind T) T (λ N G F. back_element N G F) (element-front T) f nothing nothing [] (0, 0) (bit_of s) (length s * 8) 0))

---------------------------------------------------------------- each way to read a frame, by the lent tables

module _ (down up : List ℕ) where
  abbrev Tabled : Reply → Type 0
  Tabled r = Good (λ R. ByOne down up R) r

  by_down : (r : Reply) → Good (λ R. Keeping down R) r → Tabled r
  by_down r h = good-map _ _ (λ R q. inl q) r h

  by-up : (r : Reply) → Good (λ R. Keeping up R) r → Tabled r
  by-up r h = good-map _ _ (λ R q. inr q) r h

  aircraft_good : (s : List ℕ) → Tabled (read_frame (aircraft_pdus down) s)
  aircraft_good s = by_down _ (good-frame down (aircraft_pdus down) (aircraft_over down) (aircraft_kept down) s)

  one-good : (a y z : Ans) → One a y z → Tabled (reply y) → Tabled (reply z) → Tabled (reply a)
  one-good a y z (inl q) g h = rw q g
  one-good a y z (inr q) g h = rw q h

  single : (T s : List ℕ) → Good (λ R. Keeping T R) (read_frame (ground_pdus T T) s)
  single T = good-frame T (ground_pdus T T) (ground_over T) (ground_kept T T)

  ground_good : (s : List ℕ) → Tabled (read_frame (ground_pdus down up) s)
  unfolding read_frame
  ground_good s = one-good _ _ _ (one_ground (0, 0) (bit_of s) (length s * 8) down up 0) (by-up _ (single up s)) (by_down _ (single down s))

  pdus-good : (d : ℕ) (s : List ℕ) → Tabled (read_frame (pdus d down up) s)
  unfolding pdus
  pdus-good zero = aircraft_good
  pdus-good (suc d) = ground_good

  apdu-good : (s : List ℕ) → Tabled (or_else (read_frame (aircraft_pdus down) s) (read_frame (ground_pdus down up) s))
  apdu-good s = good_else _ _ _ (aircraft_good s) (ground_good s)

  -- CPDLC in either direction
  pub pdus-kept : (d : ℕ) → All (λ R. ByOne down up R) (λ f. read_frame (pdus d down up) f)
  pdus-kept d = good-all _ _ (pdus-good d)

  pub apdu-kept : All (λ R. ByOne down up R) (λ f. or_else (read_frame (aircraft_pdus down) f) (read_frame (ground_pdus down up) f))
  apdu-kept = good-all _ _ apdu-good

---------------------------------------------------------------- each way to read a frame, by the list alone

abbrev Agreeing : Reply → Type 0
Agreeing r = Good (λ R. agreed R ≡ true) r

one-agrees : (T : List ℕ) (r : Reply) → Good (λ R. Keeping T R) r → Agreeing r
one-agrees T r h = good-map _ _ (λ R q. keeps-agreed (table_kind T) R q) r h

either_agrees : (down up : List ℕ) (r : Reply) → Tabled down up r → Agreeing r
either_agrees down up r h = good-map _ _ go r h
  where
    go : (R : List Rec) → ByOne down up R → agreed R ≡ true
    go R (inl q) = keeps-agreed (table_kind down) R q
    go R (inr q) = keeps-agreed (table_kind up) R q

cm_agrees : (d : ℕ) (s : List ℕ) → Agreeing (read_frame (cm_of d) s)
unfolding cm_of
cm_agrees zero s = one-agrees [] _ (good-frame [] cm_aircraft (cm_aircraft_over []) cm_aircraft_kept s)
cm_agrees (suc d) s = one-agrees [] _ (good-frame [] cm_ground (cm_ground_over []) cm_ground_kept s)

acse_agrees : (s : List ℕ) → Agreeing (read_frame acse s)
acse_agrees s = one-agrees [] _ (good-frame [] acse (acse-over []) acse-kept s)

-- CPDLC in either direction, by any two tables
pub pdus-agreed : (d : ℕ) (down up : List ℕ) → AllAgreed (λ f. read_frame (pdus d down up) f)
pdus-agreed d down up = good-all _ _ (λ s. either_agrees down up _ (pdus-good down up d s))

pub apdu-agreed : (down up : List ℕ) → AllAgreed (λ f. or_else (read_frame (aircraft_pdus down) f) (read_frame (ground_pdus down up) f))
apdu-agreed down up = good-all _ _ (λ s. either_agrees down up _ (apdu-good down up s))

-- Context Management in either direction, and association control
pub cm-agreed : (d : ℕ) → AllAgreed (λ f. read_frame (cm_of d) f)
cm-agreed d = good-all _ _ (cm_agrees d)

pub acse-agreed : AllAgreed (λ f. read_frame acse f)
acse-agreed = good-all _ _ acse_agrees

---------------------------------------------------------------- the words that an entry leaves

agreed-flat : (R : List Rec) → agreed R ≡ true → agreed (records_from 0 (flat R)) ≡ true
unfolding records_from
agreed-flat R h = rw (records-flat R) h

decide-agreed : (ts : List Test) (r : Reply) (w : List ℕ) → Agreeing r → Agreed (decide ts r w)
decide-agreed ts r w h = decide-good _ (λ (x : List ℕ). agreed (records_from 0 x) ≡ true) agreed-flat ts r w (λ _. h)

-- whatever the frame, the direction, the tables and the lent words
pub parse-pdus-agreed : (s : List ℕ) (d : ℕ) (down up w : List ℕ) → Agreed (parse_pdus s d down up w)
unfolding parse_pdus enter
parse-pdus-agreed s d down up w = decide-agreed _ _ w (either_agrees down up _ (pdus-good down up d s))

pub parse-apdu-agreed : (s down up w : List ℕ) → Agreed (parse_apdu s down up w)
unfolding parse_apdu enter
parse-apdu-agreed s down up w = decide-agreed _ _ w (either_agrees down up _ (apdu-good down up s))

pub parse-cm-agreed : (s : List ℕ) (d : ℕ) (w : List ℕ) → Agreed (parse_cm s d w)
unfolding parse_cm enter
parse-cm-agreed s d w = decide-agreed _ _ w (cm_agrees d s)

pub parse-acse-apdu-agreed : (s w : List ℕ) → Agreed (parse_acse_apdu s w)
unfolding parse_acse_apdu enter
parse-acse-apdu-agreed s w = decide-agreed _ _ w (acse_agrees s)
