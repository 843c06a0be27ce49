-- "It leaves out a default acknowledgment": what is written is the encoding of a value in range that is none of the exceptions.
use mathlib.Core.Path.{◌≡◌, refl, sym, ap, ◌∙◌}
use mathlib.Core.Option.{some}
use mathlib.Core.List.{List}
use Prim.Native.Nat.{ℕ, ◌*◌}
use lib.ListN.{length}
use Rattle.x691.specs.Bits.{bit_of}
use Rattle.atn.specs.Format.{Fmt}
use Rattle.atn.specs.Messages.{aircraft_pdus, ground_pdus}
use Rattle.atn.specs.Entries.{pdus}
use Rattle.record_lists.specs.Kinds.{span_tag, kind_of}
use Rattle.record_lists.specs.Plain.{Plain}
use Rattle.record_lists.specs.Exceptions.{aircraft_spares, ground_spares}
use Rattle.record_lists.specs.Message.{records_of, bytes_of, write_message}
use Rattle.record_lists.specs.Message as message
use Rattle.record_lists.proofs.Exceptions.{aircraft_pdus_spare, ground_pdus_spare}
use Rattle.record_lists.proofs.Messages.{some_is, clear_kind}
use Rattle.record_lists.proofs.Written.{write-plain}
use Rattle.fixture_promises.specs.Encodes.{Encodes}
use Rattle.fixture_promises.proofs.Accepted.{Accepted, accepted}
use Rattle.fixture_promises.proofs.RoundTrip.{front_bytes}

module _ (k d : ℕ) (down up W s out : List ℕ) {n : ℕ} {out' : List ℕ} where
  by_format : (a : Accepted k d down up W s out n out') → (x : Encodes a.format n out') × Plain a.format x.val (0, 0)
  by_format a =
      let p = write-plain span_tag a.format (bit_of s) (length s * 8) (records_of W) (clear_kind k d down up a.kind) a.lists in
      let c = p.0.coded in
      (record { val = p.0.val; in_range = p.0.in_range; count = a.count ∙ ap (λ (z : List ℕ). length z) c; front = front_bytes a ∙ ap (λ (z : List ℕ). bytes_of z) c }, p.1)

  -- whatever is written encodes a plain value
  pub plainly : write_message k d down up W s out ≡ (message.written n, out') → (f : Fmt) → kind_of k d down up ≡ some f → (x : Encodes f n out') × Plain f x.val (0, 0)
  plainly h f i =
      let a = accepted k d down up W s out h in
      let e : a.format ≡ f = some_is (sym a.kind ∙ i) in
      rw e at (by_format a)

-- of CPDLC's messages: no default acknowledgment is written out, and no empty constrained data
module _ (down up W s out : List ℕ) {n : ℕ} {out' : List ℕ} where
  pub aircraft_leaves_out : write_message 0 0 down up W s out ≡ (message.written n, out') → (x : Encodes (aircraft_pdus down) n out') × aircraft_spares down x.val
  unfolding kind_of pdus
  aircraft_leaves_out h = let x = plainly 0 0 down up W s out h (aircraft_pdus down) refl in (x.0, aircraft_pdus_spare down x.0.val x.0.in_range x.1)

  pub ground_leaves_out : write_message 0 1 down up W s out ≡ (message.written n, out') → (x : Encodes (ground_pdus down up) n out') × ground_spares down up x.val
  unfolding kind_of pdus
  ground_leaves_out h = let x = plainly 0 1 down up W s out h (ground_pdus down up) refl in (x.0, ground_pdus_spare down up x.0.val x.0.in_range x.1)
