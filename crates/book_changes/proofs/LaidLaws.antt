-- The words that a change leaves are the picture of the changed entries.
use mathlib.Core.Path.{◌≡◌, refl, ap, ◌∙◌}
use mathlib.Core.Bool.{Bool, true, false, cond}
use mathlib.Core.List.{List, [], ◌∷◌, ◌++◌, append_assoc}
use Prim.Native.Nat.{ℕ, zero, suc, ◌+◌, ◌*◌, ◌-◌, ◌<◌}
use native.Mathlib.Omega.{arith}
use lib.Dec.{eqb}
use lib.ListN.{length, take, drop, replicate, length-drop, replicate-append-replicate}
use lib.Seq.{drop-drop}
use Rattle.book_entries.specs.declared.Entry.{Entry}
use Rattle.book_entries.specs.Entries.{words}
use Rattle.book_entries.specs.Book.{place, numbered, picture, laid, entries}
use Rattle.book_entries.proofs.Places.{from, places}
use Rattle.book_entries.proofs.Listed.{Listing, clear_zeros}
use Rattle.book_changes.specs.Changes.{insert, without, vacant}
use Rattle.book_changes.proofs.Orderly.{insert-length, without-length}

pub drop_zeros : (k n : ℕ) → drop k (replicate n 0) ≡ replicate {A = ℕ} (n - k) 0
drop_zeros zero n = let e : n - 0 ≡ n = omega arith in rw e
drop_zeros (suc k) zero = let e : 0 - suc k ≡ 0 = omega arith in rw e
drop_zeros (suc k) (suc n) = let e : suc n - suc k ≡ n - k = omega arith in rw e (drop_zeros k n)

-- the words without those of the entry with number k
without_words : (k : ℕ) (w : List ℕ) → place (numbered k) (entries w) < length (entries w) → take (place (numbered k) (entries w) * 4) w ++ picture (from w (place (numbered k) (entries w) + 1)) ≡ picture (without k (entries w))
unfolding entries place without picture
without_words k [] p = absurd (omega arith)
without_words k (a ∷ []) p = absurd (omega arith)
without_words k (a ∷ b ∷ []) p = absurd (omega arith)
without_words k (a ∷ b ∷ m ∷ []) p = absurd (omega arith)
without_words k (a ∷ b ∷ m ∷ s ∷ w) p = used (eqb s 0) p (without_words k w)
  where
    e : Entry
    e = record { high = a; low = b; number = m; shape = s }

    P : ℕ
    P = place (numbered k) (entries w)

    Goes : Type 0
    Goes = P < length (entries w) → take (P * 4) w ++ picture (from w (P + 1)) ≡ picture (without k (entries w))

    met : (t : Bool) → cond t 0 (suc P) < suc (length (entries w)) → Goes → take (cond t 0 (suc P) * 4) (a ∷ b ∷ m ∷ s ∷ w) ++ picture (from (a ∷ b ∷ m ∷ s ∷ w) (cond t 0 (suc P) + 1)) ≡ picture (cond t (entries w) (e ∷ without k (entries w)))
    met true q h = refl
    met false q h =
        let x : suc P * 4 ≡ suc (suc (suc (suc (P * 4)))) = omega arith in
        let y : (suc P + 1) * 4 ≡ suc (suc (suc (suc ((P + 1) * 4)))) = omega arith in
        rw (x, y) (ap (λ (l : List ℕ). a ∷ b ∷ m ∷ s ∷ l) (h (omega arith)))

    E : Bool → List Entry
    E t = cond t [] (e ∷ entries w)

    used : (t : Bool) → place (numbered k) (E t) < length (E t) → Goes → take (place (numbered k) (E t) * 4) (a ∷ b ∷ m ∷ s ∷ w) ++ picture (from (a ∷ b ∷ m ∷ s ∷ w) (place (numbered k) (E t) + 1)) ≡ picture (without k (E t))
    used true q h = absurd (omega arith)
    used false q h = met (numbered k e) q h

module _ {w : List ℕ} {E : List Entry} (h : Listing w E) where
  -- behind the entries
  rest : drop (length E * 4) w ≡ replicate (length w - length E * 4) 0
  rest = clear_zeros (drop (length E * 4) w) h.clear ∙ ap (λ (k : ℕ). replicate k 0) (length-drop (length E * 4) w)

  pub laid-insert : (e : Entry) {v : List ℕ} → v ≡ picture (insert e (entries w)) ++ drop ((length E + 1) * 4) w → v ≡ laid (length w) (insert e E)
  unfolding laid
  laid-insert e x =
      let a : (length E + 1) * 4 ≡ length E * 4 + 4 = omega arith in
      let b : length w - length E * 4 - 4 ≡ length w - length (insert e E) * 4 = omega (arith, insert-length e E) in
      rw (x, h.is, a, ← drop-drop 4 (length E * 4) w, rest, drop_zeros 4 (length w - length E * 4), b)

  pub laid-without : (k : ℕ) {v : List ℕ} → place (numbered k) (entries w) < length (entries w) → v ≡ take (place (numbered k) (entries w) * 4) w ++ picture (from w (place (numbered k) (entries w) + 1)) ++ words vacant ++ drop (length E * 4) w → v ≡ laid (length w) (without k E)
  unfolding laid
  laid-without k p x =
      let a : 4 + (length w - length E * 4) ≡ length w - length (without k E) * 4 = omega (arith, without-length k E (rw h.is at p), places w, ap length h.is) in
      rw (x, without_words k w p, h.is, rest, append_assoc, replicate-append-replicate {A = ℕ} 4 (length w - length E * 4) 0, a)
