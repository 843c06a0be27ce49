-- One reading after another: grouped otherwise, with nothing behind it, and with one turn more at the end of a list.
use mathlib.Core.Path.{◌≡◌, refl, sym, ◌∙◌}
use mathlib.Core.List.{List, [], ◌++◌, append_assoc, append-nil}
use Prim.Native.Nat.{ℕ, zero, suc, ◌+◌}
use native.Mathlib.Nat.{add-zero, add-suc, suc-add}
use Rattle.atn.specs.Format.{Why, out, bad, lack, quit}
use Rattle.atn.specs.Reading.{Rec, Ans, ok, past, stop, glue, late, tardy, then, times, or}
use Rattle.atn.proofs.Marks.{or_assoc, or_nil}
use Rattle.atn.proofs.Steps.{then-nil}

-- the first read that passed decides
tardy-twice : (i j : ℕ) (w : Why) → tardy i (tardy j w) ≡ tardy i w
unfolding tardy
tardy-twice i j (out lacked) = refl
tardy-twice i j bad = refl
tardy-twice i j lack = refl
tardy-twice i j (quit o l m) = refl

module _ (R S : List Rec) (m n : ℕ) where
  pub glue-glue : (a : Ans) → glue (R ++ S) (or m n) a ≡ glue R m (glue S n a)
  unfolding glue
  glue-glue (ok p T o) = rw (or_assoc m n o, append_assoc)
  glue-glue (past lacked p T o) = rw (or_assoc m n o, append_assoc)
  glue-glue (stop w p T o) = rw (or_assoc m n o, append_assoc)

  glue-late : (i : ℕ) (a : Ans) → late i (R ++ S) (or m n) a ≡ glue R m (late i S n a)
  unfolding glue late
  glue-late i (ok p T o) = rw (or_assoc m n o, append_assoc)
  glue-late i (past lacked p T o) = rw (or_assoc m n o, append_assoc)
  glue-late i (stop w p T o) = rw (or_assoc m n o, append_assoc)

  late-glue : (i : ℕ) (a : Ans) → late i (R ++ S) (or m n) a ≡ late i R m (glue S n a)
  unfolding glue late
  late-glue i (ok p T o) = rw (or_assoc m n o, append_assoc)
  late-glue i (past lacked p T o) = rw (or_assoc m n o, append_assoc)
  late-glue i (stop w p T o) = rw (or_assoc m n o, append_assoc)

  late-late : (i j : ℕ) (a : Ans) → late i (R ++ S) (or m n) a ≡ late i R m (late j S n a)
  unfolding late
  late-late i j (ok p T o) = rw (or_assoc m n o, append_assoc)
  late-late i j (past lacked p T o) = rw (or_assoc m n o, append_assoc)
  late-late i j (stop w p T o) = rw (or_assoc m n o, append_assoc, tardy-twice i j w)

pub glue-then : (R : List Rec) (m : ℕ) (a : Ans) (k : ℕ → Ans) → then (glue R m a) k ≡ glue R m (then a k)
unfolding then glue
glue-then R m (ok p S n) k = glue-glue R S m n (k p)
glue-then R m (past lacked p S n) k = glue-late R S m n lacked (k p)
glue-then R m (stop w p S n) k = refl

late-then : (i : ℕ) (R : List Rec) (m : ℕ) (a : Ans) (k : ℕ → Ans) → then (late i R m a) k ≡ late i R m (then a k)
unfolding then late
late-then i R m (ok p S n) k = late-glue R S m n i (k p)
late-then i R m (past lacked p S n) k = late-late R S m n i lacked (k p)
late-then i R m (stop w p S n) k = refl

pub then-then : (a : Ans) (k l : ℕ → Ans) → then (then a k) l ≡ then a (λ p. then (k p) l)
unfolding then
then-then (ok p R m) k l = glue-then R m (k p) l
then-then (past lacked p R m) k l = late-then lacked R m (k p) l
then-then (stop w p R m) k l = refl

pub then-end : (a : Ans) → then a (λ p. ok p [] 0) ≡ a
unfolding then glue late
then-end (ok p R m) = rw (append-nil R, or_nil m)
then-end (past lacked p R m) = rw (append-nil R, or_nil m)
then-end (stop w p R m) = refl

pub then_same : (a : Ans) (k l : ℕ → Ans) → ((p : ℕ) → k p ≡ l p) → then a k ≡ then a l
unfolding then
then_same (ok p R m) k l q = rw (q p)
then_same (past lacked p R m) k l q = rw (q p)
then_same (stop w p R m) k l q = refl

-- one turn more, at the end
pub times-end : (r : ℕ → ℕ → Ans) (i n at : ℕ) → times r i (suc n) at ≡ then (times r i n at) (λ p. r (i + n) p)
unfolding times
times-end r i zero at = then-end (r i at) ∙ sym (then-nil at (λ p. r (i + 0) p) ∙ rw (add-zero i))
times-end r i (suc n) at =
    then_same (r i at) _ _ (λ p. times-end r (suc i) n p ∙ rw (suc-add i n, ← (add-suc i n)))
    ∙ sym (then-then (r i at) (λ p. times r (suc i) n p) (λ p. r (i + suc n) p))
