-- In every list of records that an entry gives no field begins earlier than the one before it, no span earlier than its field, and all begin within the longest frame.
use mathlib.Core.Path.{◌≡◌, refl}
use mathlib.Core.Bool.{Bool, true}
use mathlib.Core.List.{List, [], ◌∷◌}
use Prim.Native.Nat.{ℕ, ◌*◌, ◌≤◌}
use native.Mathlib.Omega.{arith}
use lib.ListN.{length}
use borrow.Author.Tests.{leb-true, le-leb}
use Rattle.atn.specs.Reading.{Rec, rec}
use Rattle.atn.specs.Places.{Rising}
use Rattle.atn.proofs.Inverse.{both}
use Rattle.atn.proofs.Places.{rising_to, frame_rising, apdu_rising}
use Rattle.atn.specs.Messages.{aircraft_pdus, ground_pdus, acse}
use Rattle.atn.specs.Entries.{Reply, accept, ran_out, badly, unsupplied, flat, frame_fits, Test, test, decide, enter, pdus, parse_pdus, parse_apdu, cm_of, parse_cm, parse_acse_apdu}
use Rattle.record_views.specs.View.{records_from}
use Rattle.fixture_promises.proofs.Words.{records-flat}
use Rattle.screen.specs.Placed.{begins, placed}
use Rattle.grammar_promises.proofs.Replies.{Good, decide-good}
use Rattle.agreement_promises.specs.Accepted.{Placed}
use Rattle.agreement_promises.proofs.Begun.{begun}
use Rattle.agreement_promises.proofs.Spans.{pdus-begun, apdu-begun, cm-begun, acse-begun}

rising_placed : (lo : ℕ) (R : List Rec) → Rising lo R 524288 → begun R ≡ true → placed lo R ≡ true
unfolding Rising placed begun
rising_placed lo [] h g = le-leb lo 524288 h
rising_placed lo (rec t m v s q ∷ R) h g = let k = both (begins (rec t m v s q)) (begun R) g in rw (le-leb lo q h.0, k.0) (rising_placed q R h.1 k.1)

---------------------------------------------------------------- each way to read a frame

-- from where it begins to its reach
abbrev Climbs : List ℕ → Reply → Type 0
Climbs s r = (cut : Bool) (p m : ℕ) (R : List Rec) → r ≡ accept cut p m R → Rising 0 R p × (p ≤ length s * 8)

climbs_placed : (s : List ℕ) (r : Reply) → Climbs s r → Good (λ R. begun R ≡ true) r → frame_fits s ≡ true → Good (λ R. placed 0 R ≡ true) r
unfolding Good frame_fits
climbs_placed s (accept cut p m R) h g f = let x = h cut p m R refl in let l = leb-true (length s) 65536 f in rising_placed 0 R (rising_to 0 p 524288 R (omega (arith, x.1)) x.0) g
climbs_placed s (ran_out p k) h g f = tt
climbs_placed s (badly p) h g f = tt
climbs_placed s (unsupplied p) h g f = tt

---------------------------------------------------------------- the words that an entry leaves

placed-flat : (R : List Rec) → placed 0 R ≡ true → placed 0 (records_from 0 (flat R)) ≡ true
unfolding records_from
placed-flat R h = rw (records-flat R) h

-- the frame is the first that is tested
enter-placed : (s : List ℕ) (n : ℕ) (ts : List Test) (r : Reply) (w : List ℕ) → Climbs s r → Good (λ R. begun R ≡ true) r → Placed (decide (test (frame_fits s) n ∷ ts) r w)
enter-placed s n ts r w h g = decide-good _ (λ (x : List ℕ). placed 0 (records_from 0 x) ≡ true) placed-flat (test (frame_fits s) n ∷ ts) r w (λ p. climbs_placed s r h g p.0)

-- whatever the frame, the direction, the tables and the lent words
pub parse-pdus-placed : (s : List ℕ) (d : ℕ) (down up w : List ℕ) → Placed (parse_pdus s d down up w)
unfolding parse_pdus enter
parse-pdus-placed s d down up w = enter-placed s _ _ _ w (λ cut p m R h. frame_rising s (pdus d down up) h) (pdus-begun d down up s)

pub parse-apdu-placed : (s down up w : List ℕ) → Placed (parse_apdu s down up w)
unfolding parse_apdu enter
parse-apdu-placed s down up w = enter-placed s _ _ _ w (λ cut p m R h. apdu_rising s (aircraft_pdus down) (ground_pdus down up) h) (apdu-begun down up s)

pub parse-cm-placed : (s : List ℕ) (d : ℕ) (w : List ℕ) → Placed (parse_cm s d w)
unfolding parse_cm enter
parse-cm-placed s d w = enter-placed s _ _ _ w (λ cut p m R h. frame_rising s (cm_of d) h) (cm-begun d s)

pub parse-acse-apdu-placed : (s w : List ℕ) → Placed (parse_acse_apdu s w)
unfolding parse_acse_apdu enter
parse-acse-apdu-placed s w = enter-placed s _ _ _ w (λ cut p m R h. frame_rising s acse h) (acse-begun s)
