-- "four-digit lines still load as the same names": a length of four digits is that of five with a zero in front.
use mathlib.Core.Path.{◌≡◌, refl, sym, ◌∙◌}
use mathlib.Core.List.{List, ◌∷◌, ◌++◌}
use mathlib.Core.Option.{Option, none, some}
use Prim.Native.Nat.{ℕ, ◌+◌, ◌*◌, ◌≤◌}
use native.Mathlib.Omega.{arith}
use lib.ListN.{length, take, drop}
use Rattle.book_entries.specs.declared.Entry.{Entry}
use Rattle.book_lines.specs.Lines.{onward, entry_of, checked, parts, entry}
use Rattle.book_lines.proofs.Parts.{cut, first, second, third}

-- a line by its three numbers
unfoldable pub joined : ℕ → Option ℕ → Option ℕ → Option ℕ → Option Entry
joined s o p q = elim o [ none ↦ none | some x ↦ elim p [ none ↦ none | some k ↦ elim q [ none ↦ none | some b ↦ checked (entry_of s x k b) ] ] ]

parts-joined : (s : ℕ) (l : List ℕ) → parts s l ≡ joined s (onward 0 (take (s * 2) l)) (onward 0 (take 8 (drop (s * 2) l))) (onward 0 (drop (s * 2 + 8) l))
unfolding parts joined
parts-joined s l = refl

zero-first : (c : List ℕ) → onward 0 (48 ∷ c) ≡ onward 0 c
unfolding onward
zero-first c = refl

-- a name of s characters, eight digits, and four or five
module _ (s : ℕ) (a b : List ℕ) (p : 2 ≤ s) (q : s ≤ 8) (la : length a ≡ s * 2) (lb : length b ≡ 8) where
  pub as_joined : (c : List ℕ) → 4 ≤ length c → length c ≤ 5 → entry (a ++ b ++ c) ≡ joined s (onward 0 a) (onward 0 b) (onward 0 c)
  as_joined c four five = cut s a b c p q la lb four five ∙ parts-joined s (a ++ b ++ c) ∙ rw (first s a b c p q la lb four five, second s a b c p q la lb four five, third s a b c p q la lb four five)

  pub same-entry : (c : List ℕ) → length c ≡ 4 → entry (a ++ b ++ c) ≡ entry (a ++ b ++ 48 ∷ c)
  same-entry c lc = as_joined c (omega arith) (omega arith) ∙ sym (as_joined (48 ∷ c) (omega arith) (omega arith) ∙ rw (zero-first c))
