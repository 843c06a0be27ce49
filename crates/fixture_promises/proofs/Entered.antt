-- What is written, given to the entry that reads it: the records come back in the lent words.
use mathlib.Core.Path.{◌≡◌, refl, sym, ◌∙◌}
use mathlib.Core.Bool.{true, false}
use mathlib.Core.Option.{some}
use mathlib.Core.List.{List, [], ◌∷◌, ◌++◌}
use Prim.Native.Nat.{ℕ, ◌≤◌}
use lib.ListN.{length, drop}
use Rattle.atn.specs.Format.{Fmt}
use Rattle.atn.specs.Reading.{Rec}
use Rattle.atn.specs.Messages.{acse}
use Rattle.atn.specs.Entries.{Reply, accept, read_frame, accepted, Outcome, flat, need, Test, test, enter, frame_fits, pdus, pdus_tests, cm_of, cm_tests, parse_pdus, parse_cm, parse_acse_apdu}
use Rattle.atn.specs.Demands.{passes}
use Rattle.atn.proofs.Outcomes.{settle-fits, decide_go}
use Rattle.record_lists.specs.Kinds.{kind_of}
use Rattle.record_lists.specs.Message.{bytes_of}
use Rattle.record_lists.specs.Most.{most}
use Rattle.record_lists.proofs.Messages.{some_is}
use Rattle.fixture_promises.proofs.RoundTrip.{ReadBack}

-- an entry whose tests hold, over a frame that is read clean, with room for the records
pub clean-entered : (ts : List Test) (F : List ℕ → Reply) (s w : List ℕ) (p : ℕ) (R : List Rec) → frame_fits s ≡ true → passes ts ≡ true → F s ≡ accept false p 0 R → need R ≤ length w
    → enter ts F s w ≡ (accepted false p 0 (length R), flat R ++ drop (need R) w)
unfolding enter passes
clean-entered ts F s w p R l t r n = decide_go (test (frame_fits s) 1 ∷ ts) (F s) w (rw (l, t)) ∙ rw r (settle-fits false p 0 R w n)

module _ {k d : ℕ} {down up W s out : List ℕ} {n : ℕ} {out' : List ℕ} (x : ReadBack k d down up W s out n out') (few : most x.format ≤ 65536) (w : List ℕ) (room : need x.recs ≤ length w) where
  -- the records that are read, in the lent words w
  abbrev pub Returned : Outcome → Type 0
  Returned o = o ≡ (accepted false n 0 (length x.recs), flat x.recs ++ drop (need x.recs) w)

  -- by an entry of the message's format
  by_format : (ts : List Test) (f : Fmt) → passes ts ≡ true → kind_of k d down up ≡ some f → Returned (enter ts (λ t. read_frame f t) (bytes_of x.bits) w)
  by_format ts f t h =
      let e : f ≡ x.format = some_is (sym h ∙ x.kind) in
      clean-entered ts (λ t. read_frame f t) (bytes_of x.bits) w n x.recs (x.limit few) t (rw e x.clean) room

  -- a CPDLC message, in its direction and with its tables
  pub pdus_returned : k ≡ 0 → Returned (parse_pdus (bytes_of x.bits) d down up w)
  unfolding parse_pdus passes kind_of
  pdus_returned e = by_format (pdus_tests d down up) (pdus d down up) (rw (x.tables, x.direction)) (rw e)

  -- a Context Management message, in its direction
  pub cm_returned : k ≡ 1 → Returned (parse_cm (bytes_of x.bits) d w)
  unfolding parse_cm passes kind_of
  cm_returned e = by_format (cm_tests d) (cm_of d) (rw x.direction) (rw e)

  -- an association control message, whatever the direction
  pub acse_returned : k ≡ 2 → Returned (parse_acse_apdu (bytes_of x.bits) w)
  unfolding parse_acse_apdu passes kind_of
  acse_returned e = by_format [] acse refl (rw e)
