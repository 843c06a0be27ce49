-- Every entry is its tests and its reading, and a clean reading has at most 8,324 records.
use mathlib.Core.Path.{◌≡◌, refl}
use mathlib.Core.Bool.{Bool, true, false}
use mathlib.Core.List.{List}
use Prim.Native.Nat.{ℕ, zero, suc, ◌≤◌}
use native.Mathlib.Omega.{arith}
use lib.ListN.{length}
use Rattle.atn.specs.Reading.{Rec}
use Rattle.atn.specs.Messages.{aircraft_pdus, ground_pdus, cm_ground, cm_aircraft, acse}
use Rattle.atn.specs.Entries.{Reply, accept, ran_out, badly, unsupplied, or_else, after_out, after_bad, read_frame, decide, enter, pdus, cm_of, parse_pdus, parse_apdu, parse_cm, parse_acse_apdu}
use Rattle.atn.proofs.Outcomes.{early}
use Rattle.record_bounds.proofs.Fewer.{clean-few}
use Rattle.record_bounds.proofs.Messages.{pdus-most, cm_ground_most, cm_aircraft_most, acse-most}
use Rattle.list_checker.specs.declared.entries.Entry.{Entry}
use Rattle.list_checker.specs.declared.entries.Entry.TheVariants.{Apdu, Pdus, Cm, Acse}
use Rattle.list_checker.specs.Entered.{entered, tests_of, reading_of}
use Rattle.list_checker.specs.Checks.{all_tests}

pub tests_and_reading : (s : List ℕ) (e : Entry) (down up w : List ℕ) → entered e down up s w ≡ decide (all_tests s e down up) (reading_of e down up s) w
unfolding entered tests_of reading_of parse_apdu parse_pdus parse_cm parse_acse_apdu enter
tests_and_reading s Apdu down up w = refl
tests_and_reading s (Pdus d) down up w = refl
tests_and_reading s (Cm d) down up w = refl
tests_and_reading s Acse down up w = refl

pub tests_early : (s : List ℕ) (e : Entry) (down up : List ℕ) → early (all_tests s e down up) ≡ true
unfolding tests_of early
tests_early s Apdu down up = refl
tests_early s (Pdus d) down up = refl
tests_early s (Cm d) down up = refl
tests_early s Acse down up = refl

---------------------------------------------------------------- how many records

accepts_alike : {b c : Bool} {p q m n : ℕ} {R S : List Rec} → accept b p m R ≡ accept c q n S → (b ≡ c) × (m ≡ n) × (R ≡ S)
accepts_alike h = (cc, cc, cc)

-- a clean reading of either direction is a clean one of the downlink or of the uplink
either : {A : Type 0} (d u : Reply) {p : ℕ} {R : List Rec} → or_else d u ≡ accept false p 0 R → ((q : ℕ) → d ≡ accept false q 0 R → A) → ((q : ℕ) → u ≡ accept false q 0 R → A) → A
unfolding or_else after_bad after_out
either (accept b q m S) u {p} h f g = f p h
either (unsupplied q) u h f g = absurd (let z : ◌≡◌ {A = ℕ} 0 1 = cc in omega arith)
either (badly q) (accept b o m S) {R = R} h f g = let z = accepts_alike h in g o (rw (z.0, z.1, z.2))
either (badly q) (ran_out o lacked) h f g = absurd (let z : ◌≡◌ {A = ℕ} 0 1 = cc in omega arith)
either (badly q) (badly o) h f g = absurd (let z : ◌≡◌ {A = ℕ} 0 1 = cc in omega arith)
either (badly q) (unsupplied o) h f g = absurd (let z : ◌≡◌ {A = ℕ} 0 1 = cc in omega arith)
either (ran_out q lacked) (accept b o m S) h f g = absurd (let y = (accepts_alike h).0 in let z : ◌≡◌ {A = ℕ} 0 1 = cc in omega arith)
either (ran_out q lacked) (ran_out o also) h f g = absurd (let z : ◌≡◌ {A = ℕ} 0 1 = cc in omega arith)
either (ran_out q lacked) (badly o) h f g = absurd (let z : ◌≡◌ {A = ℕ} 0 1 = cc in omega arith)
either (ran_out q lacked) (unsupplied o) h f g = absurd (let z : ◌≡◌ {A = ℕ} 0 1 = cc in omega arith)

pub reading_few : (s : List ℕ) (e : Entry) (down up : List ℕ) (p : ℕ) (R : List Rec) → reading_of e down up s ≡ accept false p 0 R → length R ≤ 8324
unfolding reading_of pdus cm_of
reading_few s Apdu down up p R h =
    either (read_frame (aircraft_pdus down) s) (read_frame (ground_pdus down up) s) h (λ q y. omega (arith, clean-few (aircraft_pdus down) s y, pdus-most 0 down up)) (λ q y. omega (arith, clean-few (ground_pdus down up) s y, pdus-most 1 down up))
reading_few s (Pdus d) down up p R h = omega (arith, clean-few (pdus d down up) s h, pdus-most d down up)
reading_few s (Cm d) down up p R h = go d h
  where
    go : (d : ℕ) → read_frame (cm_of d) s ≡ accept false p 0 R → length R ≤ 8324
    go zero y = omega (arith, clean-few cm_aircraft s y, cm_aircraft_most)
    go (suc d) y = omega (arith, clean-few cm_ground s y, cm_ground_most)
reading_few s Acse down up p R h = omega (arith, clean-few acse s h, acse-most)
