-- Demand 2 at the entries: "With the direction fixed and room enough, a whole answer without marks is given exactly when the bits up to its reach encode a message of 01's schema under X.691".
use Rattle.std.specs.Prelude.{◌≡◌, true, false, List, ◌++◌, ℕ, ◌≤◌, length, drop}
use Rattle.atn.specs.Format.{Fmt}
use Rattle.atn.specs.Reading.{Rec}
use Rattle.atn.specs.Entries.{Outcome, flat, need, Test, frame_fits}
use Rattle.atn.specs.Demands.{passes, Message}
use Rattle.answers.specs.declared.Answer.{Answer}
use Rattle.answers.specs.declared.Answer.TheVariants.{Accepted}
use Rattle.answers.specs.Says.{Says}

-- an entry whose outcome is P, which reads by the format f where the tests hold
pub record Cleanly (ts : List Test) (f : Fmt) (P : List ℕ → List ℕ → Outcome) : Type 0 where
  -- only then, and the records are the message's
  pub sound : (s w : List ℕ) {p k : ℕ} {w₁ : List ℕ} → Says (Accepted false p 0 k) w₁ (P s w) → (R : List Rec) × Message f s p R × (k ≡ length R) × (w₁ ≡ flat R ++ drop (need R) w)
  -- always then
  pub complete : (s w : List ℕ) (p : ℕ) (R : List Rec) {r : Answer} {w₁ : List ℕ} → frame_fits s ≡ true → passes ts ≡ true → Message f s p R → need R ≤ length w → Says r w₁ (P s w)
      → (r ≡ Accepted false p 0 (length R)) × (w₁ ≡ flat R ++ drop (need R) w)
