-- What the code writes comes back through the entry of its kind, whatever list it was written from.
use mathlib.Core.Path.{refl, sym}
use mathlib.Core.List.{List}
use Prim.Native.Nat.{ℕ, ◌≤◌}
use lib.ListN.{length}
use Rattle.atn.specs.Entries.{Outcome, need, parse_pdus, parse_cm, parse_acse_apdu}
use Rattle.record_lists.specs.Message.{bytes_of, write_message}
use Rattle.message_nodes.proofs.Bounds.{few_bits}
use Rattle.fixture_promises.proofs.RoundTrip.{ReadBack, written_read}
use Rattle.fixture_promises.proofs.Entered.{Returned, pdus_returned, cm_returned, acse_returned}
use Rattle.std.specs.Prelude.{Ok}
use Rattle.fixture_writer.specs.Says.{answer_of, Says}
use Rattle.fixture_writer.specs.GivenBack.{filled, GivenBack}

module _ {k d : ℕ} {down up W s out : List ℕ} {n : ℕ} {out' : List ℕ} (x : ReadBack k d down up W s out n out') where
  back : (entry : List ℕ → List ℕ → Outcome) → ((w : List ℕ) (room : need x.recs ≤ length w) → Returned x (few_bits k d down up x.kind) w room (entry (bytes_of x.bits) w))
      → GivenBack W s (filled n out') n (entry (filled n out'))
  back entry h = rw x.front (record { recs = x.recs; given = h; same = x.same; within = x.within })

module _ (d : ℕ) (down up W s out : List ℕ) {n : ℕ} {out' : List ℕ} where
  -- a CPDLC message, in its direction and with its tables
  pub pdus_back : Says (Ok n) out' (write_message 0 d down up W s out) → GivenBack W s (filled n out') n (λ w. parse_pdus (filled n out') d down up w)
  unfolding answer_of
  pdus_back h =
      let x = written_read 0 d down up W s out (sym h) in
      back x (λ t w. parse_pdus t d down up w) (λ w r. pdus_returned x (few_bits 0 d down up x.kind) w r refl)

  -- a Context Management message, in its direction
  pub cm_back : Says (Ok n) out' (write_message 1 d down up W s out) → GivenBack W s (filled n out') n (λ w. parse_cm (filled n out') d w)
  unfolding answer_of
  cm_back h =
      let x = written_read 1 d down up W s out (sym h) in
      back x (λ t w. parse_cm t d w) (λ w r. cm_returned x (few_bits 1 d down up x.kind) w r refl)

  -- an association control message, whatever the direction
  pub acse_back : Says (Ok n) out' (write_message 2 d down up W s out) → GivenBack W s (filled n out') n (λ w. parse_acse_apdu (filled n out') w)
  unfolding answer_of
  acse_back h =
      let x = written_read 2 d down up W s out (sym h) in
      back x (λ t w. parse_acse_apdu t w) (λ w r. acse_returned x (few_bits 2 d down up x.kind) w r refl)
