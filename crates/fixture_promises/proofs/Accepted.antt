-- From the answer that a message was written back to what was tested, and to the list that was accepted.
use mathlib.Core.Path.{◌≡◌, refl, sym, ap}
use mathlib.Core.Bool.{Bool, true, false, cond, ◌&&◌}
use mathlib.Core.Option.{Option, none, some}
use mathlib.Core.List.{List, ◌++◌}
use Prim.Native.Nat.{ℕ, ◌*◌, ◌≤◌}
use native.Mathlib.Omega.{arith}
use lib.ListN.{length, drop}
use lib.Dec.{leb}
use borrow.Author.Tests.{leb-true}
use Rattle.x691.specs.Bits.{bit_of}
use Rattle.atn.specs.Format.{Fmt}
use Rattle.atn.specs.Entries.{table_fits, direction_fits}
use Rattle.record_lists.specs.Kinds.{span_tag, kind_of}
use Rattle.record_lists.specs.Write.{write}
use Rattle.record_lists.specs.Message.{records_of, bytes_needed, bytes_of, Written, written, refused, list_fits, bits_of_message, settled, write_message}
use Rattle.record_lists.proofs.Messages.{nothing}

-- what holds where n bits are written and the lent bytes are out' afterwards
pub record Accepted (k d : ℕ) (down up W s out : List ℕ) (n : ℕ) (out' : List ℕ) : Type 0 where
  -- the message's format
  pub format : Fmt
  pub kind : kind_of k d down up ≡ some format
  -- the tests before the list is looked at
  pub tables : table_fits down && table_fits up ≡ true
  pub direction : direction_fits d ≡ true
  pub list : list_fits W s ≡ true
  -- the message's bits
  pub bits : List ℕ
  pub lists : write span_tag format (bit_of s) (length s * 8) (records_of W) ≡ some bits
  pub count : n ≡ length bits
  -- there is room for them, and they fill the front of the lent bytes; those behind stay
  pub room : bytes_needed bits ≤ length out
  pub filled : out' ≡ bytes_of bits ++ drop (bytes_needed bits) out

refused-written : {A : Type 0} {e m n : ℕ} {w v : List ℕ} → ◌≡◌ {A = Written × List ℕ} (refused e m, w) (written n, v) → A
refused-written h = let x = ap (λ (o : Written × List ℕ). o.0) h in let z : ◌≡◌ {A = ℕ} 0 1 = cc in absurd (omega arith)

-- from the settlement to the bits and the room for them
settled_inv : (o : Option (List ℕ)) (out : List ℕ) {n : ℕ} {out' : List ℕ} → settled o out ≡ (written n, out')
    → (B : List ℕ) × (o ≡ some B) × (n ≡ length B) × (bytes_needed B ≤ length out) × (out' ≡ bytes_of B ++ drop (bytes_needed B) out)
unfolding settled
settled_inv none out h = refused-written h
settled_inv (some B) out {n} {out'} h = go (leb (bytes_needed B) (length out)) refl h
  where
    go : (t : Bool) → leb (bytes_needed B) (length out) ≡ t
        → ◌≡◌ {A = Written × List ℕ} (cond t (written (length B), bytes_of B ++ drop (bytes_needed B) out) (refused 9 (bytes_needed B), out)) (written n, out')
        → (C : List ℕ) × (some B ≡ some C) × (n ≡ length C) × (bytes_needed C ≤ length out) × (out' ≡ bytes_of C ++ drop (bytes_needed C) out)
    go true e q =
        let x = ap (λ (o : Written × List ℕ). o.0) q in
        let z : n ≡ length B = cc in
        (B, refl, z, leb-true (bytes_needed B) (length out) e, sym (ap (λ (o : Written × List ℕ). o.1) q))
    go false e q = refused-written q

-- from the bits to the format and the list
bits_inv : (o : Option Fmt) (W s : List ℕ) {B : List ℕ} → bits_of_message o W s ≡ some B
    → (f : Fmt) × (o ≡ some f) × (list_fits W s ≡ true) × (write span_tag f (bit_of s) (length s * 8) (records_of W) ≡ some B)
unfolding bits_of_message
bits_inv none W s h = nothing h
bits_inv (some f) W s {B} h = go (list_fits W s) refl h
  where
    go : (t : Bool) → list_fits W s ≡ t → cond t (write span_tag f (bit_of s) (length s * 8) (records_of W)) none ≡ some B
        → (g : Fmt) × (some f ≡ some g) × (list_fits W s ≡ true) × (write span_tag g (bit_of s) (length s * 8) (records_of W) ≡ some B)
    go true e q = (f, refl, e, q)
    go false e q = nothing q

-- from the answer to all of it
pub accepted : (k d : ℕ) (down up W s out : List ℕ) {n : ℕ} {out' : List ℕ} → write_message k d down up W s out ≡ (written n, out') → Accepted k d down up W s out n out'
unfolding write_message
accepted k d down up W s out {n} {out'} h = go (table_fits down && table_fits up) (direction_fits d) refl refl h
  where
    go : (t u : Bool) → table_fits down && table_fits up ≡ t → direction_fits d ≡ u
        → ◌≡◌ {A = Written × List ℕ} (cond t (cond u (settled (bits_of_message (kind_of k d down up) W s) out) (refused 3 0, out)) (refused 2 0, out)) (written n, out')
        → Accepted k d down up W s out n out'
    go true true e g q =
        let x = settled_inv (bits_of_message (kind_of k d down up) W s) out q in
        let y = bits_inv (kind_of k d down up) W s x.1 in
        record { format = y.0; kind = y.1; tables = e; direction = g; list = y.2; bits = x.0; lists = y.3; count = x.2; room = x.3; filled = x.4 }
    go true false e g q = refused-written q
    go false true e g q = refused-written q
    go false false e g q = refused-written q
