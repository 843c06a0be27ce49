-- A text is its first line and the others.
use mathlib.Core.Path.{◌≡◌, refl, ap, ◌∙◌}
use mathlib.Core.Bool.{Bool, true, false, cond, not}
use mathlib.Core.List.{List, [], ◌∷◌, ◌++◌, append_assoc, append-nil}
use mathlib.Core.Option.{Option, none, some}
use Prim.Native.Nat.{ℕ, suc, ◌+◌, ◌-◌, ◌≤◌, ◌<◌}
use native.Mathlib.Nat.{le_refl}
use native.Mathlib.Omega.{arith}
use lib.Dec.{eqb, ltb}
use lib.ListN.{length, take, drop, length-drop, length-append}
use lib.Seq.{take_all}
use borrow.Author.Tests.{ltb-true, ltb-false, eqb-false, ne_eqb}
use Rattle.std.specs.Prelude.{Some, None}
use Rattle.std.specs.List.{position, position_or_len}
use Rattle.book_entries.specs.declared.Entry.{Entry}
use Rattle.book_lines.specs.Lines.{entry, also, lines}
use Rattle.book_text.specs.Cuts.{cut, collected}

-- the entries of the lines are those of the text
pub lines-cut : (l t : List ℕ) → lines l t ≡ collected (cut l t)
unfolding lines cut collected also
lines-cut l [] = go (eqb (length l) 0)
  where
    go : (b : Bool) → cond b (some []) none ≡ collected (cond b [] (none ∷ []))
    go true = refl
    go false = refl
lines-cut l (c ∷ t) = go (eqb c 10) (lines-cut [] t) (lines-cut (l ++ c ∷ []) t)
  where
    go : (b : Bool) → lines [] t ≡ collected (cut [] t) → lines (l ++ c ∷ []) t ≡ collected (cut (l ++ c ∷ []) t) → cond b (also (entry l) (lines [] t)) (lines (l ++ c ∷ []) t) ≡ collected (cond b (entry l ∷ cut [] t) (cut (l ++ c ∷ []) t))
    go true f g = ap (λ (o : Option (List Entry)). also (entry l) o) f
    go false f g = g

-- no more lines than characters
pub few_lines : (l t : List ℕ) → length (cut l t) ≤ length l + length t
unfolding cut
few_lines l [] = go (eqb (length l) 0) refl
  where
    go : (b : Bool) → eqb (length l) 0 ≡ b → length {A = Option Entry} (cond b [] (none ∷ [])) ≤ length l + 0
    go true e = omega arith
    go false e = let n : length l ≡ 0 → ⊥ = eqb-false (length l) 0 e in omega arith
few_lines l (c ∷ t) = go (eqb c 10) (few_lines [] t) (few_lines (l ++ c ∷ []) t)
  where
    go : (b : Bool) → length (cut [] t) ≤ 0 + length t → length (cut (l ++ c ∷ []) t) ≤ length (l ++ c ∷ []) + length t → length (cond b (entry l ∷ cut [] t) (cut (l ++ c ∷ []) t)) ≤ length l + suc (length t)
    go true f g = omega arith
    go false f g = omega (arith, length-append l (c ∷ []))

abbrev feed : ℕ → Bool
feed c = eqb c 10

abbrev end : List ℕ → ℕ
end = position_or_len feed

-- a line that does not end
module _ (t : List ℕ) where
  pub unfed : None ≡ position feed t → length t ≤ end t
  unfed e = go (ltb (end t) (length t)) refl e
    where
      go : (b : Bool) → ltb (end t) (length t) ≡ b → None ≡ cond b (Some (end t)) None → length t ≤ end t
      go true h f = absurd (let z : ◌≡◌ {A = ℕ} 0 1 = cc in omega arith)
      go false h f = ltb-false (end t) (length t) h

  pub fed : {i : ℕ} → Some i ≡ position feed t → (i ≡ end t) × (i < length t)
  fed {i} e = go (ltb (end t) (length t)) refl e
    where
      go : (b : Bool) → ltb (end t) (length t) ≡ b → Some i ≡ cond b (Some (end t)) None → (i ≡ end t) × (i < length t)
      go true h f = let is : i ≡ end t = cc in (is, omega (arith, is, ltb-true (end t) (length t) h))
      go false h f = absurd (let z : ◌≡◌ {A = ℕ} 0 1 = cc in omega arith)

-- the line that begins with l and goes on with t does not end
unended : (l t : List ℕ) → 0 < length l + length t → length t ≤ end t → cut l t ≡ none ∷ []
unfolding cut
unended l [] p q = rw (ne_eqb (length l) 0 (λ z. let y : length l ≡ 0 = z in omega arith))
unended l (c ∷ t) p q = go (eqb c 10) q (λ h. unended (l ++ c ∷ []) t (omega (arith, length-append l (c ∷ []))) h)
  where
    go : (b : Bool) → suc (length t) ≤ cond (not b) (1 + end t) 0 → (length t ≤ end t → cut (l ++ c ∷ []) t ≡ none ∷ []) → cond b (entry l ∷ cut [] t) (cut (l ++ c ∷ []) t) ≡ none ∷ []
    go true h f = absurd (omega arith)
    go false h f = f (omega arith)

-- it ends at its first line feed
ended : (l t : List ℕ) → end t < length t → cut l t ≡ entry (l ++ take (end t) t) ∷ cut [] (drop (end t + 1) t)
unfolding cut
ended l [] p = absurd (omega arith)
ended l (c ∷ t) p = go (eqb c 10) p (λ h. ended (l ++ c ∷ []) t h)
  where
    go : (b : Bool) → cond (not b) (1 + end t) 0 < suc (length t) → (end t < length t → cut (l ++ c ∷ []) t ≡ entry ((l ++ c ∷ []) ++ take (end t) t) ∷ cut [] (drop (end t + 1) t)) → cond b (entry l ∷ cut [] t) (cut (l ++ c ∷ []) t) ≡ entry (l ++ take (cond (not b) (1 + end t) 0) (c ∷ t)) ∷ cut [] (drop (cond (not b) (1 + end t) 0 + 1) (c ∷ t))
    go true h f = rw append-nil
    go false h f =
        let x : 1 + end t + 1 ≡ suc (end t + 1) = omega arith in
        let y : 1 + end t ≡ suc (end t) = omega arith in
        rw (x, y) (f (omega arith) ∙ ap (λ (v : List ℕ). entry v ∷ cut [] (drop (end t + 1) t)) (append_assoc l (c ∷ []) (take (end t) t)))

-- the whole text
pub no_line : (t : List ℕ) → length t ≡ 0 → cut [] t ≡ []
unfolding cut
no_line [] p = refl
no_line (c ∷ t) p = absurd (omega arith)

pub open_line : (t : List ℕ) → 0 < length t → None ≡ position feed t → cut [] t ≡ none ∷ []
open_line t p e = unended [] t (omega arith) (unfed t e)

pub first_line : (t : List ℕ) {i : ℕ} {o : Option Entry} → Some i ≡ position feed t → entry (take i t) ≡ o → cut [] t ≡ o ∷ cut [] (take (length t - (i + 1)) (drop (i + 1) t))
first_line t {i} e f =
    let p = fed t e in
    let q : i < length t = p.1 in
    let r : end t < length t = omega (arith, p.0) in
    let z : take (length t - (i + 1)) (drop (i + 1) t) ≡ drop (i + 1) t = take_all (length t - (i + 1)) (drop (i + 1) t) (simp length-drop (le_refl _)) in
    rw (z, ← f, p.0) (ended [] t r)
