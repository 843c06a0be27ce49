-- The messages of the two sides, from their index and their extension bit.
use mathlib.Core.Path.{◌≡◌, refl}
use mathlib.Core.Bool.{Bool, true, false}
use mathlib.Core.List.{List, []}
use Prim.Native.Nat.{ℕ, zero, suc, ◌<◌}
use native.Mathlib.Omega.{arith}
use Rattle.x691.specs.Bits.{bit_of}
use Rattle.atn.specs.Format.{bad}
use Rattle.atn.specs.Reading.{Ctx, stop, mark, read, read_choice}
use Rattle.atn.specs.Messages.{cm_logon_response}
use Rattle.cursor.specs.declared.place.Cursor.{Cursor}
use Rattle.cursor.specs.declared.place.Got.{Got}
use Rattle.cursor.specs.Place.{stopped, marked, Pulls, Takes}
use Rattle.runs.specs.declared.At.{At}
use Rattle.told_fields.specs.Does.{Does}
use Rattle.told_fields.proofs.DoesLaws.{does_within, does_refused}
use Rattle.told_fields.proofs.ChoiceLaws.{does_extended}
use Rattle.cm_pdus.specs.Pdus.{ground_pdus, aircraft_pdus, pdu_of}

---------------------------------------------------------------- the message that an index names

module _ (s : List ℕ) (x : Ctx) (u q : ℕ) where
  pub ground_response : (i : ℕ) → i < 2 → read_choice ground_pdus i x (bit_of s) u q ≡ read cm_logon_response x (bit_of s) u q
  unfolding read_choice
  ground_response zero h = refl
  ground_response (suc zero) h = refl
  ground_response (suc (suc i)) h = absurd (omega arith)

  pub ground_unlisted : (i : ℕ) → 5 < i → read_choice ground_pdus i x (bit_of s) u q ≡ stop bad q [] 1
  unfolding read_choice mark
  ground_unlisted zero h = absurd (omega arith)
  ground_unlisted (suc zero) h = absurd (omega arith)
  ground_unlisted (suc (suc zero)) h = absurd (omega arith)
  ground_unlisted (suc (suc (suc zero))) h = absurd (omega arith)
  ground_unlisted (suc (suc (suc (suc zero)))) h = absurd (omega arith)
  ground_unlisted (suc (suc (suc (suc (suc zero))))) h = absurd (omega arith)
  ground_unlisted (suc (suc (suc (suc (suc (suc i)))))) h = refl

  pub aircraft_unlisted : (i : ℕ) → 2 < i → read_choice aircraft_pdus i x (bit_of s) u q ≡ stop bad q [] 1
  unfolding read_choice mark
  aircraft_unlisted zero h = absurd (omega arith)
  aircraft_unlisted (suc zero) h = absurd (omega arith)
  aircraft_unlisted (suc (suc zero)) h = absurd (omega arith)
  aircraft_unlisted (suc (suc (suc i))) h = refl

---------------------------------------------------------------- the extension bit

-- a set one has no reader
pub pdu-extended : {s : List ℕ} {a z : At} {w : List ℕ} {d : Cursor} (g : Got ℕ) → Pulls s a.c 1 g → (k : ℕ) (ground : Bool) → (g.v ≡ 0 → ⊥) → d ≡ marked g.c 2 → z ≡ record { n = a.n; c = stopped d 5 0 }
    → Does k 0 (Takes (pdu_of ground) s) a z w w
pdu-extended g p k true n e q = does_within k (omega arith) (does_extended g p n e (does_refused bad 0 (λ y. omega arith) q))
pdu-extended g p k false n e q = does_within k (omega arith) (does_extended g p n e (does_refused bad 0 (λ y. omega arith) q))
