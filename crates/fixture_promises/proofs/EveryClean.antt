-- The records of a clean reading are few, so that nothing is asked of them: they are written again whatever the frame.
use mathlib.Core.Path.{◌≡◌, refl}
use mathlib.Core.Bool.{true, false, ◌&&◌}
use mathlib.Core.Option.{some}
use mathlib.Core.List.{List, ◌++◌}
use Prim.Native.Nat.{ℕ, zero, suc, ◌+◌, ◌/◌, ◌%◌, ◌≤◌, ◌<◌}
use native.Mathlib.Omega.{arith}
use lib.ListN.{length, drop}
use borrow.Author.Tests.{leb-true, lt-ltb, eq-eqb}
use Rattle.x691.specs.Bits.{bit_of, Spells}
use Rattle.atn.specs.Format.{Fmt}
use Rattle.atn.specs.Messages.{aircraft_pdus, ground_pdus}
use Rattle.atn.specs.Reading.{Rec}
use Rattle.atn.specs.Entries.{accept, read_frame, flat, pdus, cm_of, frame_fits, table_fits, direction_fits}
use Rattle.atn.proofs.Demands.{clean-message}
use Rattle.record_bounds.specs.Most.{most}
use Rattle.record_bounds.proofs.Fewer.{clean-few}
use Rattle.record_bounds.proofs.Messages.{pdus-most, cm_aircraft_most, cm_ground_most, acse-most}
use Rattle.record_lists.specs.Kinds.{kind_of}
use Rattle.record_lists.specs.Plain.{Plain}
use Rattle.record_lists.specs.Exceptions.{aircraft_spares, ground_spares}
use Rattle.record_lists.proofs.Exceptions.{aircraft_pdus-plain, ground_pdus-plain}
use Rattle.record_lists.specs.Message.{bytes_needed, bytes_of, written, list_fits, write_message}
use Rattle.record_lists.proofs.Messages.{some_is}
use Rattle.fixture_promises.proofs.Words.{flat-length}
use Rattle.fixture_promises.proofs.Rewritten.{read_again}

cm-most : (d : ℕ) → most (cm_of d) ≤ 8324
unfolding cm_of
cm-most zero = cm_aircraft_most
cm-most (suc d) = cm_ground_most

kind_most : (k d : ℕ) (down up : List ℕ) {f : Fmt} → kind_of k d down up ≡ some f → most f ≤ 8324
unfolding kind_of
kind_most zero d down up h = rw (← some_is h) (pdus-most d down up)
kind_most (suc zero) d down up h = rw (← some_is h) (cm-most d)
kind_most (suc (suc zero)) d down up h = rw (← some_is h) acse-most
kind_most (suc (suc (suc k))) d down up h = let z : ◌≡◌ {A = ℕ} 0 1 = cc in absurd (omega arith)

few_fit : (R : List Rec) (s : List ℕ) → length R ≤ 8324 → frame_fits s ≡ true → list_fits (flat R) s ≡ true
unfolding list_fits frame_fits
few_fit R s h f =
    let l : length s ≤ 65536 = leb-true (length s) 65536 f in
    let a : length (flat R) % 5 ≡ 0 = omega (arith, flat-length R) in
    let b : length (flat R) / 5 < 4294967296 = omega (arith, flat-length R) in
    rw (eq-eqb (length (flat R) % 5) 0 a, lt-ltb (length (flat R) / 5) 4294967296 b, lt-ltb (length s) 72057594037927936 (omega arith))

-- "Every clean record list that such an entry got from a frame .. is accepted, and gives that frame's bits up to the reach"
pub clean_again : (k d : ℕ) (down up s out : List ℕ) (f : Fmt) (p : ℕ) (R : List Rec) → kind_of k d down up ≡ some f → table_fits down && table_fits up ≡ true → direction_fits d ≡ true → frame_fits s ≡ true
    → (h : read_frame f s ≡ accept false p 0 R) → Plain f (clean-message f s p R h).val (0, 0) → (p + 7) / 8 ≤ length out
    → (B : List ℕ) × (write_message k d down up (flat R) s out ≡ (written p, bytes_of B ++ drop (bytes_needed B) out)) × Spells (bit_of s) 0 B × (p ≡ length B)
clean_again k d down up s out f p R i t g l h j n =
    read_again k d down up s out f p R i t g h j (few_fit R s (omega (arith, clean-few f s h, kind_most k d down up i)) l) n

-- the same of CPDLC's messages, with 02's two exceptions in the place of `Plain`
module _ (down up s out : List ℕ) (p : ℕ) (R : List Rec) (t : table_fits down && table_fits up ≡ true) (l : frame_fits s ≡ true) (n : (p + 7) / 8 ≤ length out) where
  abbrev Again : ℕ → Type 0
  Again d = (B : List ℕ) × (write_message 0 d down up (flat R) s out ≡ (written p, bytes_of B ++ drop (bytes_needed B) out)) × Spells (bit_of s) 0 B × (p ≡ length B)

  pub aircraft_again : (h : read_frame (aircraft_pdus down) s ≡ accept false p 0 R) → aircraft_spares down (clean-message (aircraft_pdus down) s p R h).val → Again 0
  unfolding kind_of pdus direction_fits
  aircraft_again h e = clean_again 0 0 down up s out (aircraft_pdus down) p R refl t refl l h (aircraft_pdus-plain down (clean-message (aircraft_pdus down) s p R h).val e) n

  pub ground_again : (h : read_frame (ground_pdus down up) s ≡ accept false p 0 R) → ground_spares down up (clean-message (ground_pdus down up) s p R h).val → Again 1
  unfolding kind_of pdus direction_fits
  ground_again h e = clean_again 0 1 down up s out (ground_pdus down up) p R refl t refl l h (ground_pdus-plain down up (clean-message (ground_pdus down up) s p R h).val e) n
