-- Bits and room that are left behind what was read and told.
use mathlib.Core.List.{List}
use Prim.Native.Nat.{ℕ, ◌+◌, ◌≤◌, ◌<◌}
use native.Mathlib.Omega.{arith}
use lib.ListN.{length}
use Rattle.atn.specs.Reading.{Rec}
use Rattle.records.specs.Space.{space}
use Rattle.records.specs.Told.{Told}
use Rattle.records.proofs.Sizes.{space_grows}

-- n records are told, fewer than N, with room for c more; the reading stands at a place below M, with l bits from there to the end
abbrev pub Fits : (N c M l room end n at : ℕ) → Type 0
Fits N c M l room end n at = (n < N) × (space (n + c) ≤ room) × (at < M) × (at + l ≤ end)

-- behind a records and d bits
pub fits_on : {c l N N' M M' end n at a m p : ℕ} {w w' : List ℕ} {R : List Rec} (b d k : ℕ) → Fits N c M l (length w) end n at → Told a w w' n m R → p ≤ at + d → N + a ≤ N' → a + b ≤ c → M + d ≤ M' → d + k ≤ l → Fits N' b M' k (length w') end m p
fits_on {c} {n = n} {m = m} b d k f t q i j u v =
    let h : m + b ≤ n + c = omega (arith, t.few) in
    (omega (arith, f.0, t.few), omega (arith, f.1, t.room, space_grows h), omega (arith, f.2), omega (arith, f.3))
