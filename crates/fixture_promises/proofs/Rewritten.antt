-- What is read clean is written again: the records of a plain message give the frame's bits up to the reach.
use mathlib.Core.Path.{◌≡◌, sym, ap, ◌∙◌}
use mathlib.Core.Bool.{true, false, ◌&&◌}
use mathlib.Core.Option.{some}
use mathlib.Core.List.{List, ◌++◌}
use Prim.Native.Nat.{ℕ, ◌+◌, ◌*◌, ◌/◌, ◌≤◌}
use native.Mathlib.Omega.{arith}
use lib.ListN.{length, drop}
use lib.Dec.{leb}
use borrow.Author.Tests.{le-leb}
use Rattle.x691.specs.Bits.{bit_of, Spells}
use Rattle.atn.specs.Format.{Fmt}
use Rattle.atn.specs.Reading.{Rec}
use Rattle.atn.specs.Entries.{accept, read_frame, flat, table_fits, direction_fits}
use Rattle.atn.proofs.Demands.{clean-message}
use Rattle.record_lists.specs.Kinds.{span_tag, kind_of}
use Rattle.record_lists.specs.Plain.{Plain}
use Rattle.record_lists.specs.Write.{write}
use Rattle.record_lists.specs.Message.{records_of, bytes_needed, bytes_of, written, list_fits, bits_of_message, settled, write_message}
use Rattle.record_lists.proofs.Written.{rewritten}
use Rattle.record_lists.proofs.Messages.{clear_kind}
use Rattle.fixture_promises.proofs.Words.{records-flat}

-- a list that is accepted, behind the tests
pub message_go : (k d : ℕ) (down up W s out : List ℕ) (f : Fmt) (B : List ℕ) → kind_of k d down up ≡ some f → table_fits down && table_fits up ≡ true → direction_fits d ≡ true → list_fits W s ≡ true
    → write span_tag f (bit_of s) (length s * 8) (records_of W) ≡ some B → write_message k d down up W s out ≡ settled (some B) out
unfolding write_message bits_of_message
message_go k d down up W s out f B h t g l w = rw (t, g, h, bits_of_message, l, w)

-- the records R of a clean answer, lent as the words W: the frame's first p bits are written
pub read-written : (k d : ℕ) (down up W s out : List ℕ) (f : Fmt) (p : ℕ) (R : List Rec) → kind_of k d down up ≡ some f → table_fits down && table_fits up ≡ true → direction_fits d ≡ true
    → (h : read_frame f s ≡ accept false p 0 R) → Plain f (clean-message f s p R h).val (0, 0) → records_of W ≡ R → list_fits W s ≡ true
    → (B : List ℕ) × (write_message k d down up W s out ≡ settled (some B) out) × Spells (bit_of s) 0 B × (p ≡ length B)
read-written k d down up W s out f p R i t g h j e l =
    let x = rewritten span_tag f s p R (clear_kind k d down up i) (clean-message f s p R h) j in
    (x.0, message_go k d down up W s out f x.0 i t g l (rw e x.1), x.2, x.3)

-- the words as the reading left them, with room for the bytes: the answer is the reach
pub read_again : (k d : ℕ) (down up s out : List ℕ) (f : Fmt) (p : ℕ) (R : List Rec) → kind_of k d down up ≡ some f → table_fits down && table_fits up ≡ true → direction_fits d ≡ true
    → (h : read_frame f s ≡ accept false p 0 R) → Plain f (clean-message f s p R h).val (0, 0) → list_fits (flat R) s ≡ true → (p + 7) / 8 ≤ length out
    → (B : List ℕ) × (write_message k d down up (flat R) s out ≡ (written p, bytes_of B ++ drop (bytes_needed B) out)) × Spells (bit_of s) 0 B × (p ≡ length B)
unfolding settled bytes_needed
read_again k d down up s out f p R i t g h j l n =
    let x = read-written k d down up (flat R) s out f p R i t g h j (records-flat R) l in
    let B : List ℕ = x.0 in
    let e : p ≡ length B = x.3 in
    let m : leb (bytes_needed B) (length out) ≡ true = le-leb (bytes_needed B) (length out) (omega (arith, e)) in
    let o : settled (some B) out ≡ (written p, bytes_of B ++ drop (bytes_needed B) out) = rw m (ap (λ (z : ℕ). (written z, bytes_of B ++ drop (bytes_needed B) out)) (sym e)) in
    (B, x.1 ∙ o, x.2, e)
