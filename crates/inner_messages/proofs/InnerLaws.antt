-- A message in its inner string.
use mathlib.Core.Path.{◌≡◌}
use mathlib.Core.List.{List}
use Prim.Native.Nat.{ℕ, ◌-◌, ◌*◌, ◌≤◌}
use native.Mathlib.Omega.{arith}
use lib.ListN.{length}
use Rattle.atn.specs.Messages.{atc_message}
use Rattle.atn.proofs.Elements.{message_placeless}
use Rattle.cursor.specs.declared.place.Cursor.{Cursor}
use Rattle.message.specs.Data.{message_at}
use Rattle.records.specs.Space.{space}
use Rattle.records.specs.Moves.{raised_places}
use Rattle.runs.specs.declared.At.{At}
use Rattle.runs.specs.Runs.{Runs}
use Rattle.runs.specs.Windows.{closed}
use Rattle.runs.proofs.FrameLaws.{runs_tells}
use Rattle.runs.proofs.RunLaws.{runs_within}
use Rattle.inner_messages.specs.Parts.{inner_at}
use Rattle.inner_strings.specs.Strings.{Lacks, Has}
use Rattle.inner_strings.proofs.StringLaws.{bytes, tells_lost, tells_read}

module _ (table : List ℕ) {b : ℕ} {s : List ℕ} {c d : Cursor} {n : ℕ} {w : List ℕ} (goes : c.why ≡ 0) where
  pub string_lost : Lacks s c d → Runs b (inner_at table s) s c n w w (record { n = n; c = d })
  unfolding inner_at
  string_lost x = runs_within b (inner_at table s) (omega arith) (runs_tells (inner_at table s) goes (tells_lost (atc_message table) (message_placeless table) x))

  pub string-read : {from to by : ℕ} {window e : Cursor} {w₁ w₂ : List ℕ} {r : At} → length s ≤ 65536 → Has s c from to window d → Runs b (message_at table (bytes s from to)) (bytes s from to) window n w w₁ r → by ≡ from * 8 → w₂ ≡ raised_places by (r.n - n) (space n) w₁ → e ≡ closed d r.c
      → Runs b (inner_at table s) s c n w w₂ (record { n = r.n; c = e })
  unfolding inner_at message_at
  string-read {from} {by = by} few h x m y q = let k : by ≡ 8 * from = omega (arith, m) in rw (q, y, k) (runs_tells (inner_at table s) goes (tells_read (atc_message table) (message_placeless table) few h x))
