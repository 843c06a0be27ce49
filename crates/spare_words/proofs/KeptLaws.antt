-- Records that a first reading put into spare words, and what `settle` says once they are copied.
use mathlib.Core.Path.{◌≡◌, sym, ap, ◌∙◌}
use mathlib.Core.Bool.{Bool}
use mathlib.Core.List.{List, ◌++◌}
use Prim.Native.Nat.{ℕ, ◌+◌, ◌≤◌}
use native.Mathlib.Omega.{arith}
use lib.ListN.{length, take, drop, length-append, length-drop}
use borrow.Author.Tests.{le-leb}
use Rattle.atn.specs.Reading.{Rec}
use Rattle.atn.specs.Entries.{Reply, accept, accepted, Outcome, flat, need, settle}
use Rattle.atn.proofs.Outcomes.{flat-need}
use Rattle.records.specs.Space.{space}
use Rattle.records.specs.Told.{Told}
use Rattle.records.proofs.Sizes.{need-space}
use Rattle.records.proofs.Telling.{told-first, told-length}
use Rattle.records.proofs.Passes.{counted}

-- records that fit stand at the front
pub told-kept : {b : ℕ} {w k : List ℕ} {m : ℕ} {R : List Rec} → Told b w k 0 m R → need R ≤ length k → take (need R) k ≡ flat R
told-kept {k = k} {m = m} {R = R} told h =
    let e : space m ≡ need R = ap space (counted told) ∙ sym (need-space R) in
    rw e at (told-first told (omega (arith, told-length told)))

-- what was copied is as long as it was
pub copied_length : (f w : List ℕ) {w' : List ℕ} → w' ≡ f ++ drop (length f) w → length f ≤ length w → length w' ≡ length w
copied_length f w e h = ap (λ (l : List ℕ). length l) e ∙ length-append f (drop (length f) w) ∙ ap (λ (n : ℕ). length f + n) (length-drop (length f) w) ∙ omega arith

-- m records that need d words are accepted, and were kept in k
module _ {r : Reply} {c : Bool} {p marks : ℕ} {R : List Rec} {m d : ℕ} (reads : r ≡ accept c p marks R) (counts : m ≡ length R) (needs : d ≡ space m) where
  pub settle-kept : (w k : List ℕ) {w' : List ℕ} → d ≤ length w → d ≤ length k → (need R ≤ length k → take (need R) k ≡ flat R) → w' ≡ take d k ++ drop (length (take d k)) w → ◌≡◌ {A = Outcome} (accepted c p marks m, w') (settle r w)
  unfolding settle
  settle-kept w k {w'} l f h q =
      let n : d ≡ need R = needs ∙ ap space counts ∙ sym (need-space R) in
      let y : take d k ≡ flat R = rw n (h (rw n at f)) in
      let z : w' ≡ flat R ++ drop (need R) w = q ∙ rw (y, flat-need R) in
      rw (reads, z, le-leb (need R) (length w) (rw n at l), counts)
