-- Grows of the two sequences that have one presence bit.
use mathlib.Core.Path.{◌≡◌, refl, sym, ap, ◌∙◌}
use mathlib.Core.Bool.{Bool, true, false, cond}
use mathlib.Core.List.{List, [], ◌∷◌, ◌++◌}
use Prim.Native.Nat.{ℕ, ◌+◌, ◌-◌, ◌≤◌, ◌<◌}
use native.Mathlib.Omega.{arith}
use lib.Dec.{leb, eqb}
use borrow.Author.Tests.{leb-true, leb-false}
use Rattle.x691.specs.Bits.{bit_of}
use Rattle.x691.proofs.BitLaws.{uint-one}
use Rattle.atn.specs.Format.{Fmt, out, seq, Flds, or_note, end, ◌⨾◌, ◌⨾?◌}
use Rattle.atn.specs.Reading.{Rec, rec, Ans, ok, stop, glue, then, fork, or, fetch, pull, flags, unread_marks, within, read, read_fields}
use Rattle.atn.proofs.Steps.{then-nil, fetch_go, fetch_no, pull_go, pull_no}
use Rattle.atn.proofs.Then.{then-end}
use Rattle.cursor.specs.declared.place.Cursor.{Cursor}
use Rattle.cursor.specs.declared.place.Got.{Got}
use Rattle.cursor.specs.Place.{Pulls}
use Rattle.cursor.proofs.Laws.{Behind, marked-nil}
use Rattle.acse_reasons.specs.SoFar.{Grows, Keeps}
use Rattle.acse_reasons.proofs.GrowLaws.{grows_then, grows_same, grows_here, grows_pull}
use Rattle.acse_reasons.proofs.FormatLaws.{Read, fork-set}

-- the presence bit is pulled like any other: where it is not there, the window ends at its place
module _ (fs : Flds) (b : ℕ → ℕ) (e at : ℕ) (one : flags fs ≡ 1) (plain : (c : ℕ → ℕ) → unread_marks fs c at ≡ 0) (i : at ≤ e) (K : ℕ → Ans) where
  seq_pull : read_fields fs (0, 0) b e at (at + 1) ≡ K (b at) → read (seq fs) (0, 0) b e at ≡ pull b e at 1 K
  unfolding read
  seq_pull h = rw (one, plain b, plain (within b e)) (go (leb (at + 1) e) refl)
    where
      go : (t : Bool) → leb (at + 1) e ≡ t → fetch b e at 1 (λ _. then (ok (at + 1) [] 0) λ p. read_fields fs (0, 0) b e at p) (stop (out 1) (at + (e - at)) [] 0) ≡ pull b e at 1 K
      go true y =
          let l : at + 1 ≤ e = leb-true (at + 1) e y in
          fetch_go b e at 1 _ _ l ∙ then-nil (at + 1) (λ p. read_fields fs (0, 0) b e at p) ∙ h ∙ ap K (sym (uint-one b at)) ∙ sym (pull_go b e at 1 K l)
      go false y =
          let l : e < at + 1 = leb-false (at + 1) e y in
          let z : at + (e - at) ≡ at = omega arith in
          let one_bit : at + 1 - e ≡ 1 = omega arith in
          fetch_no b e at 1 _ _ l ∙ ap (λ (k : ℕ). stop (out k) (at + (e - at)) [] 0) (sym one_bit) ∙ rw z (sym (pull_no b e at 1 K l))

---------------------------------------------------------------- a part whose absence is told

abbrev Or : ℕ → ℕ → ℕ → Fmt → List ℕ → ℕ → ℕ → ℕ → Ans
Or t v y f s w u q = fork w (ok q (rec t 0 v y q ∷ []) 0) (Read f s u q)

module _ (t v y : ℕ) {f : Fmt} {s : List ℕ} {c d : Cursor} {R : List Rec} {g : Got ℕ} (p : Pulls s c 1 g) where
  or-note : Grows (Or t v y f s g.v) s g.c d R → Keeps (seq (or_note t v y f end)) s c d R
  unfolding read_fields flags unread_marks then glue or
  or-note h =
      record {
        grows = grows_same (Behind s 1 (Or t v y f s)) (Read (seq (or_note t v y f end)) s)
            (λ i z. sym (seq_pull (or_note t v y f end) (bit_of s) c.end c.at refl (λ b. refl) i.0 (λ w. Or t v y f s w c.end (c.at + 1)) (rw (then-end (Read f s c.end (c.at + 1))))))
            (grows_pull 1 g (Or t v y f s) p h);
      }

  pub keeps_given : (g.v ≡ 0 → ⊥) → Keeps f s g.c d R → Keeps (seq (or_note t v y f end)) s c d R
  keeps_given n h = or-note (grows_same (Read f s) (Or t v y f s g.v) (λ i z. sym (fork-set g.v _ _ n)) h.grows)

pub keeps-absent : (t v y : ℕ) {f : Fmt} {s : List ℕ} {c : Cursor} {g : Got ℕ} → Pulls s c 1 g → g.v ≡ 0 → Keeps (seq (or_note t v y f end)) s c g.c (cond (eqb g.c.why 0) (rec t 0 v y g.c.at ∷ []) [])
unfolding fork
keeps-absent t v y {g = g} p z = or-note t v y p (rw z (grows_here (λ q. rec t 0 v y q ∷ []) 0 (marked-nil g.c)))

---------------------------------------------------------------- a part, and one that may follow it

abbrev And : Fmt → Fmt → List ℕ → ℕ → ℕ → ℕ → Ans
And f k s w u q = then (Read f s u q) (λ r. fork w (ok r [] 0) (Read k s u r))

module _ {f k : Fmt} {s : List ℕ} {c : Cursor} {g : Got ℕ} (p : Pulls s c 1 g) where
  and_may : {d : Cursor} {R : List Rec} → Grows (And f k s g.v) s g.c d R → Keeps (seq (f ⨾ k ⨾? end)) s c d R
  unfolding read_fields flags unread_marks
  and_may h =
      record {
        grows = grows_same (Behind s 1 (And f k s)) (Read (seq (f ⨾ k ⨾? end)) s)
            (λ i z. sym (seq_pull (f ⨾ k ⨾? end) (bit_of s) c.end c.at refl (λ b. refl) i.0 (λ w. And f k s w c.end (c.at + 1)) (simp then-end)))
            (grows_pull 1 g (And f k s) p h);
      }

  pub keeps-first : {d : Cursor} {R : List Rec} → g.v ≡ 0 → Keeps f s g.c d R → Keeps (seq (f ⨾ k ⨾? end)) s c d R
  unfolding fork
  keeps-first z h = and_may (grows_same (Read f s) (And f k s g.v) (λ i _. rw z (sym (then-end _))) h.grows)

  pub keeps_both : {d e : Cursor} {R S : List Rec} → (g.v ≡ 0 → ⊥) → Keeps f s g.c d R → Keeps k s d e S → Keeps (seq (f ⨾ k ⨾? end)) s c e (R ++ S)
  keeps_both n x y =
      let set : (a b : Ans) → fork g.v a b ≡ b = λ a b. fork-set g.v a b n in
      and_may (grows_same (λ u q. then (Read f s u q) (λ r. Read k s u r)) (And f k s g.v) (λ i z. simp set) (grows_then (Read f s) (Read k s) x.grows y.grows))
