-- The elements of a lent table: behind an index stands an argument of the kind that its byte has, or none.
use mathlib.Core.Path.{◌≡◌, refl}
use mathlib.Core.Bool.{Bool, true, false, cond, ◌&&◌}
use mathlib.Core.List.{List, [], ◌∷◌}
use Prim.Native.Nat.{ℕ, zero, suc, ◌+◌}
use native.Mathlib.Omega.{arith}
use lib.Dec.{leb}
use lib.ListN.{get_or}
use borrow.Author.Tests.{leb-true, lt-leb}
use Rattle.atn.specs.Format.{Fmt, null}
use Rattle.atn.specs.Reading.{rec, Ctx, Ans, ok, then, read, read_choice}
use Rattle.atn.specs.Messages.{arguments, argument, no_reader, argument_of, elements}
use Rattle.atn.specs.Tags as tags
use Rattle.atn.proofs.Inverse.{both}
use Rattle.agreement_promises.specs.Kept.{byte_kind, table_kind}
use Rattle.agreement_promises.proofs.States.{State, anything, all_fit, indexed, index_covered}
use Rattle.agreement_promises.proofs.Answers.{Front, front_lost, front-bad, front-behind}
use Rattle.agreement_promises.proofs.Back.{back, back_plain, arguments_fit, elements_fit, back_element}
use Rattle.agreement_promises.proofs.Over.{over, over_list, arguments-over}
use Rattle.agreement_promises.proofs.Fronts.{fronts}

-- a byte above the last has no kind
no_kind : (k n : ℕ) → leb 17 k ≡ true → byte_kind (k + n) ≡ 0
unfolding byte_kind
no_kind k n h = let l = leb-true 17 k h in rw (lt-leb (k + n) 16 (omega arith)) refl

module _ (T : List ℕ) (N G F : List State) where
  -- what is known behind an index, if its kind is k
  abbrev Behind : ℕ → Ans → Type 0
  Behind k a = (A : List State) × (all_fit k A ≡ true) × Front (table_kind T) N G F A a

  abbrev known : Fmt → List State
  known f = back_plain f N G F

  module _ (x : Ctx) (b : ℕ → ℕ) (e at : ℕ) where
    plain : (f : Fmt) → Front (table_kind T) N G F (known f) (read (over T f) x b e at)
    plain f = fronts (table_kind T) T (λ _ _ _. anything) (λ N G F i m p at x b e. front_lost (table_kind T) N G F _) f N G F x b e at

    -- from byte k on
    arguments-behind : (k : ℕ) (fs : List Fmt) → arguments_fit (λ f. known f) k fs ≡ true → (n : ℕ) → Behind (byte_kind (k + n)) (read (argument (get_or (over_list T fs) n no_reader)) x b e at)
    unfolding arguments_fit over over_list
    arguments-behind k [] h n =
        let z = both (leb 17 k) (all_fit 0 (known (argument no_reader))) h in
        rw (no_kind k n z.0) (known (argument no_reader), z.1, plain (argument no_reader))
    arguments-behind k (f ∷ fs) h zero =
        let e : k + 0 ≡ k = omega arith in
        rw e (known (argument f), (both (all_fit (byte_kind k) (known (argument f))) (arguments_fit (λ f. known f) (suc k) fs) h).0, plain (argument f))
    arguments-behind k (f ∷ fs) h (suc n) =
        let e : k + suc n ≡ suc k + n = omega arith in
        rw e (arguments-behind (suc k) fs (both (all_fit (byte_kind k) (known (argument f))) (arguments_fit (λ f. known f) (suc k) fs) h).1 n)

    module _ (h : elements_fit N G F ≡ true) where
      tests : (all_fit 0 N && all_fit 0 F ≡ true) × (arguments_fit (λ f. known f) 1 arguments ≡ true)
      unfolding elements_fit
      tests = both (all_fit 0 N && all_fit 0 F) (arguments_fit (λ f. known f) 1 arguments) h

      byte_behind : (n : ℕ) → Behind (byte_kind n) (read (argument_of n) x b e at)
      unfolding argument_of
      byte_behind zero = (N, unfold byte_kind in (both (all_fit 0 N) (all_fit 0 F) tests.0).0, unfold back over in plain null)
      byte_behind (suc n) =
          let e : suc n ≡ 1 + n = omega arith in
          rw e (rw (arguments-over T) at (arguments-behind 1 arguments tests.1 n))

      -- by the index, in the rest L of a table
      elements-behind : (L : List ℕ) (i : ℕ) → Behind (table_kind L i) (read_choice (elements L) i x b e at)
      unfolding elements read_choice table_kind
      elements-behind [] i = (F, unfold byte_kind in (both (all_fit 0 N) (all_fit 0 F) tests.0).1, front-bad (table_kind T) _ _ _ _ _ _ _ (λ S c. c))
      elements-behind (n ∷ L) zero = byte_behind n
      elements-behind (n ∷ L) (suc i) = elements-behind L i

-- with the index
pub element-front : (T : List ℕ) (N G F : List State) (i m p at : ℕ) (x : Ctx) (b : ℕ → ℕ) (e : ℕ) → Front (table_kind T) N G F (back_element N G F) (then (ok p (rec tags.element_index m i 0 at ∷ []) 0) λ q. read_choice (elements T) i x b e q)
unfolding back_element
element-front T N G F i m p at x b e = go (elements_fit N G F) refl
  where
    go : (t : Bool) → elements_fit N G F ≡ t → Front (table_kind T) N G F (cond t indexed anything) (then (ok p (rec tags.element_index m i 0 at ∷ []) 0) λ q. read_choice (elements T) i x b e q)
    go true h = let z = elements-behind T N G F x b e p h T i in front-behind (table_kind T) _ _ _ _ _ _ _ _ _ (λ S c. index_covered (table_kind T) m i 0 at S z.0 z.1 c) z.2
    go false h = front_lost (table_kind T) N G F _
