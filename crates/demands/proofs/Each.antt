-- The four entries. The contract of each is `Says` of the outcome named here.
use mathlib.Core.Path.{◌≡◌, refl, sym, ap, ◌∙◌}
use mathlib.Core.Bool.{Bool, true, false, ◌&&◌}
use mathlib.Core.List.{List, [], ◌∷◌}
use Prim.Native.Nat.{ℕ}
use native.Mathlib.Omega.{arith}
use lib.ListN.{length}
use lib.Dec.{leb}
use borrow.Author.Tests.{leb-true}
use Rattle.atn.specs.Reading.{Rec}
use Rattle.atn.specs.Places.{Rising}
use Rattle.atn.specs.Messages.{aircraft_pdus, ground_pdus, acse}
use Rattle.atn.specs.Entries.{Reply, accept, ran_out, badly, unsupplied, Outcome, Test, test, frame_fits, refused, need, settle, decide, enter, read_frame, or_else, pdus, pdus_tests, apdu_tests, cm_of, cm_tests, parse_pdus, parse_apdu, parse_cm, parse_acse_apdu}
use Rattle.atn.proofs.Each.{parse-pdus_owes, parse-apdu_owes, parse-cm_owes, parse-acse-apdu_owes}
use Rattle.atn.proofs.Outcomes.{answers_differ, settle-fits, settle_full, decide-accepted}
use Rattle.atn.proofs.Inverse.{both}
use Rattle.atn.proofs.Reach.{split}
use Rattle.atn.proofs.Places.{frame_rising, apdu_rising}
use Rattle.demands.specs.Promises.{Promises}
use Rattle.demands.proofs.Kept.{Numbered, Climbs, promises}

-- a reading refuses with 4 to 7
settle-numbered : (r : Reply) (w : List ℕ) {n p k l : ℕ} {w' : List ℕ} → settle r w ≡ (refused n p k l, w') → Numbered n k
unfolding settle
settle-numbered (accept c q m R) w {n} h =
    split (need R) (length w) (λ l. answers_differ (sym (settle-fits c q m R w l) ∙ h))
    (λ l.
    let x = ap (λ (o : Outcome). o.0) (sym (settle_full c q m R w l) ∙ h) in
    let z : 7 ≡ n = cc in
    record { least = omega arith; most = omega arith; wordless = λ f. absurd (f (sym z)) })
settle-numbered (ran_out q i) w {n} {p} {k} h = let x = ap (λ (o : Outcome). o.0) h in let z : 4 ≡ n = cc in record { least = omega arith; most = omega arith; wordless = λ _. cc }
settle-numbered (badly q) w {n} {p} {k} h = let x = ap (λ (o : Outcome). o.0) h in let z : 5 ≡ n = cc in record { least = omega arith; most = omega arith; wordless = λ _. cc }
settle-numbered (unsupplied q) w {n} {p} {k} h = let x = ap (λ (o : Outcome). o.0) h in let z : 6 ≡ n = cc in record { least = omega arith; most = omega arith; wordless = λ _. cc }

-- tests refuse with 1 to 3
unfoldable of_three : List Test → Bool
of_three [] = true
of_three (test t n ∷ ts) = (leb 1 n && leb n 3) && of_three ts

decide-numbered : (ts : List Test) (r : Reply) (w : List ℕ) {n p k l : ℕ} {w' : List ℕ} → of_three ts ≡ true → decide ts r w ≡ (refused n p k l, w') → Numbered n k
unfolding decide of_three
decide-numbered [] r w e h = settle-numbered r w h
decide-numbered (test true i ∷ ts) r w e h = decide-numbered ts r w (both (leb 1 i && leb i 3) (of_three ts) e).1 h
decide-numbered (test false i ∷ ts) r w {n} {p} {k} e h =
    let x = ap (λ (o : Outcome). o.0) h in
    let z : i ≡ n = cc in
    let b = both (leb 1 i) (leb i 3) (both (leb 1 i && leb i 3) (of_three ts) e).0 in
    record { least = omega (arith, leb-true 1 i b.0); most = omega (arith, leb-true i 3 b.1); wordless = λ _. cc }

climbs : (ts : List Test) (F : List ℕ → Reply) → of_three ts ≡ true → ((s : List ℕ) (c : Bool) (p m : ℕ) (R : List Rec) → F s ≡ accept c p m R → Rising 0 R p) → Climbs F (λ s w. enter ts F s w)
unfolding enter of_three
climbs ts F e r =
    record {
      told = λ s w h. (decide-accepted (test (frame_fits s) 1 ∷ ts) (F s) w h).1;
      numbers = λ s w h. decide-numbered (test (frame_fits s) 1 ∷ ts) (F s) w e h;
      rises = λ s {c} {p} {m} {R} h. r s c p m R h;
    }

pub of_parse-pdus : (d : ℕ) (down up : List ℕ) → Promises (pdus_tests d down up) (λ s. read_frame (pdus d down up) s) (λ s w. parse_pdus s d down up w)
unfolding parse_pdus of_three
of_parse-pdus d down up =
    promises (λ s. read_frame (pdus d down up) s) (λ s w. parse_pdus s d down up w) (parse-pdus_owes d down up)
    (climbs (pdus_tests d down up) (λ s. read_frame (pdus d down up) s) refl (λ s c p m R h. (frame_rising s (pdus d down up) h).0))

pub of_parse-apdu : (down up : List ℕ) → Promises (apdu_tests down up) (λ s. or_else (read_frame (aircraft_pdus down) s) (read_frame (ground_pdus down up) s)) (λ s w. parse_apdu s down up w)
unfolding parse_apdu of_three
of_parse-apdu down up =
    promises (λ s. or_else (read_frame (aircraft_pdus down) s) (read_frame (ground_pdus down up) s)) (λ s w. parse_apdu s down up w) (parse-apdu_owes down up)
    (climbs (apdu_tests down up) (λ s. or_else (read_frame (aircraft_pdus down) s) (read_frame (ground_pdus down up) s)) refl (λ s c p m R h. (apdu_rising s (aircraft_pdus down) (ground_pdus down up) h).0))

pub of_parse-cm : (d : ℕ) → Promises (cm_tests d) (λ s. read_frame (cm_of d) s) (λ s w. parse_cm s d w)
unfolding parse_cm of_three
of_parse-cm d = promises (λ s. read_frame (cm_of d) s) (λ s w. parse_cm s d w) (parse-cm_owes d) (climbs (cm_tests d) (λ s. read_frame (cm_of d) s) refl (λ s c p m R h. (frame_rising s (cm_of d) h).0))

pub of_parse-acse-apdu : Promises [] (λ s. read_frame acse s) (λ s w. parse_acse_apdu s w)
unfolding parse_acse_apdu of_three
of_parse-acse-apdu = promises (λ s. read_frame acse s) (λ s w. parse_acse_apdu s w) parse-acse-apdu_owes (climbs [] (λ s. read_frame acse s) refl (λ s c p m R h. (frame_rising s acse h).0))
