-- What is answered of the lines that were counted, and then put.
use mathlib.Core.Bool.{Bool, true, false, ◌&&◌}
use mathlib.Core.List.{List, [], ◌++◌}
use mathlib.Core.Path.{◌≡◌, refl, ap, ◌∙◌}
use Prim.Native.Nat.{ℕ, ◌+◌, ◌^◌, ◌≤◌, ◌<◌}
use native.Mathlib.Omega.{arith}
use borrow.Author.Tests.{ltb-true, le-leb, lt-leb}
use lib.Dec.{ltb}
use lib.ListN.{length, drop}
use Rattle.std.specs.Prelude.{Ok, Err}
use Rattle.record_views.specs.View.{records_from}
use Rattle.record_grammar.specs.Heard.{formed}
use Rattle.element_kinds.specs.Agreed.{agreed}
use Rattle.screen_bytes.specs.Put.{Put}
use Rattle.screen_bytes.proofs.Putting.{puts_nowhere, puts-fits}
use Rattle.screen_text.specs.Text.{phrased}
use Rattle.screen.specs.Placed.{placed}
use Rattle.screen.specs.declared.Refusal.TheVariants.{NotGiven, TooFewBytes}
use Rattle.screen.specs.Screen.{small, given, text, Outcome, settled, screen_lines}

-- lent no bytes, nothing is written
module _ {k m : ℕ} {t x : List ℕ} (first : Put k [] x 0 m t) (out : List ℕ) where
  same : x ++ out ≡ out
  same = rw (first.bytes, puts_nowhere 0 t)

  counted : m ≡ length t
  counted = omega (arith, first.count)

  pub full : length (x ++ out) < m → ◌≡◌ {A = Outcome} (Err (TooFewBytes m), x ++ out) (settled t out)
  unfolding settled
  full l = let h : length out < m = rw same at l in rw (same, counted, lt-leb (length t) (length out) (rw counted at h))

  pub shown : {j n : ℕ} {out' : List ℕ} → Put j (x ++ out) out' 0 n t → m ≤ length (x ++ out) → ◌≡◌ {A = Outcome} (Ok m, out') (settled t out)
  unfolding settled
  shown {out' = out'} second l =
      let h : length t ≤ length out = rw (same, counted) at l in
      let z : 0 + length t ≡ length t = omega arith in
      let e : out' ≡ t ++ drop (length t) out = second.bytes ∙ rw same (puts-fits 0 t out (rw z h) ∙ ap (λ (i : ℕ). t ++ drop i out) z) in
      rw (counted, e, le-leb (length t) (length out) h)

module _ (w down up out : List ℕ) where
  pub not-given : given w down up ≡ false → ◌≡◌ {A = Outcome} (Err NotGiven, out) (screen_lines w down up out)
  unfolding screen_lines
  not-given h = rw h

  pub are-given : {o : Outcome} → given w down up ≡ true → o ≡ settled (text w down up) out → o ≡ screen_lines w down up out
  unfolding screen_lines
  are-given h e = rw h e

left : (a b : Bool) → (a && b) ≡ true → a ≡ true
left true b e = refl
left false b e = e

right : (a b : Bool) → (a && b) ≡ true → b ≡ true
right true b e = e
right false b e = cc

-- the lengths of what is given
pub lengths : (w down up : List ℕ) → given w down up ≡ true → (length w < 2 ^ 40) × (length down < 2 ^ 44) × (length up < 2 ^ 44)
unfolding given small
lengths w down up h =
    let s = left (small w down up) (formed w && (placed 0 (records_from 0 w) && (agreed (records_from 0 w) && phrased down up 0 (records_from 0 w)))) h in
    let a = ltb (length w) (2 ^ 40) in
    let b = ltb (length down) (2 ^ 44) in
    let c = ltb (length up) (2 ^ 44) in
    let r = right a (b && c) s in
    (ltb-true _ _ (left a (b && c) s), ltb-true _ _ (left b c r), ltb-true _ _ (right b c r))
