-- The reading of the constrained data by the number of its clearances.
use mathlib.Core.Path.{◌≡◌, refl, sym, ap, ◌∙◌}
use mathlib.Core.Bool.{Bool, true, false}
use mathlib.Core.List.{[]}
use Prim.Native.Nat.{ℕ, ◌+◌, ◌-◌, ◌≤◌, ◌<◌}
use native.Mathlib.Omega.{arith}
use lib.Dec.{leb}
use borrow.Author.Tests.{leb-true, leb-false}
use Rattle.x691.specs.Bits.{uint}
use Rattle.x691.proofs.BitLaws.{uint-one}
use Rattle.atn.specs.Format.{Fmt, out, ext, seq, many, null, lax, end, ◌⨾?◌}
use Rattle.atn.specs.Reading.{Ans, stop, fork, times, pull, sized, flags, unread_marks, read, read_fields}
use Rattle.atn.specs.Messages.{route_clearance}
use Rattle.atn.proofs.Steps.{then-nil, fetch_go, fetch_no, pull_go, pull_no}
use Rattle.atn.proofs.Then.{then-end}
use Rattle.clearance_count.specs.Counts.{count_then}
use Rattle.clearances.specs.Attempts.{attempts}

pull-same : (b : ℕ → ℕ) (e at n : ℕ) (k l : ℕ → Ans) → (at + n ≤ e → k (uint b at n) ≡ l (uint b at n)) → pull b e at n k ≡ pull b e at n l
pull-same b e at n k l q = by (leb (at + n) e) refl
  where
    by : (t : Bool) → leb (at + n) e ≡ t → pull b e at n k ≡ pull b e at n l
    by true h = let y : at + n ≤ e = leb-true _ e h in pull_go b e at n k y ∙ q y ∙ sym (pull_go b e at n l y)
    by false h = pull_no b e at n k (leb-false _ e h) ∙ sym (pull_no b e at n l (leb-false _ e h))

-- the constrained data, but for its being given up
abbrev pub frame : Fmt
frame = ext (seq (many 1 2 (lax 7 true route_clearance) ⨾? end)) null

module _ (b : ℕ → ℕ) (e : ℕ) where
  root_there : (at : ℕ) → read_fields (many 1 2 (lax 7 true route_clearance) ⨾? end) (0, 0) b e at (at + 1) ≡ fork (uint b at 1) (attempts b 0 e (at + 1)) (sized b e (at + 1) 1 2 (λ n q. attempts b n e q))
  unfolding read read_fields times
  root_there at = rw (uint-one b at, then-end (sized b e (at + 1) 1 2 (λ n q. attempts b n e q)))

  root-count : (at : ℕ) → at ≤ e → read (seq (many 1 2 (lax 7 true route_clearance) ⨾? end)) (0, 0) b e at ≡ pull b e at 1 (λ h. fork h (attempts b 0 e (at + 1)) (sized b e (at + 1) 1 2 (λ n q. attempts b n e q)))
  unfolding read read_fields flags unread_marks times
  root-count at l = by (leb (at + 1) e) refl
    where
      by : (t : Bool) → leb (at + 1) e ≡ t → read (seq (many 1 2 (lax 7 true route_clearance) ⨾? end)) (0, 0) b e at ≡ pull b e at 1 (λ h. fork h (attempts b 0 e (at + 1)) (sized b e (at + 1) 1 2 (λ n q. attempts b n e q)))
      by true h =
          let y : at + 1 ≤ e = leb-true _ e h in
          fetch_go b e at 1 _ _ y ∙ then-nil (at + 1) (λ p. read_fields (many 1 2 (lax 7 true route_clearance) ⨾? end) (0, 0) b e at p)
          ∙ root_there at ∙ sym (pull_go b e at 1 _ y)
      by false h = let y : e < at + 1 = leb-false _ e h in let one : at + 1 - e ≡ 1 = omega arith in fetch_no b e at 1 _ _ y ∙ ap (λ (k : ℕ). stop (out k) (at + (e - at)) [] 0) (sym one) ∙ ap (λ (p : ℕ). stop (out (at + 1 - e)) p [] 0) (omega arith) ∙ sym (pull_no b e at 1 _ y)

  pub frame-count : (at : ℕ) → read frame (0, 0) b e at ≡ count_then b e at (λ n q. attempts b n e q)
  unfolding read count_then times
  frame-count at = pull-same b e at 1 _ _ (λ l. rw (root-count (at + 1) l))
