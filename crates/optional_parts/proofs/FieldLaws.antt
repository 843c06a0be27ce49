-- The fields of a sequence: in two parts, and by the number of the presence bits.
use mathlib.Core.Path.{◌≡◌, refl, sym, ◌∙◌}
use mathlib.Core.List.{[]}
use Prim.Native.Nat.{ℕ, zero, suc, ◌+◌, ◌/◌, ◌%◌, ◌^◌}
use native.Mathlib.Nat.{add-zero, add-suc, suc-add}
use native.Mathlib.Omega.{arith}
use Rattle.atn.specs.Format.{Flds, end, ◌⨾◌, ◌⨾?◌, or_note, unread}
use Rattle.atn.specs.Reading.{Ctx, Ans, ok, then, fork, flags, read, read_fields}
use Rattle.atn.proofs.Steps.{then-nil}
use Rattle.atn.proofs.Then.{then-then, then_same}
use Rattle.optional_parts.specs.Parts.{chosen}

-- the fields of one sequence, and then those of another
abbrev pub joined : Flds → Flds → Flds
joined end gs = gs
joined (f ⨾ fs) gs = f ⨾ joined fs gs
joined (f ⨾? fs) gs = f ⨾? joined fs gs
joined (or_note t y z f fs) gs = or_note t y z f (joined fs gs)
joined (unread t fs) gs = unread t (joined fs gs)

flags_joined : (fs gs : Flds) → flags (joined fs gs) ≡ flags fs + flags gs
unfolding flags
flags_joined end gs = omega arith
flags_joined (f ⨾ fs) gs = flags_joined fs gs
flags_joined (f ⨾? fs) gs = omega (arith, flags_joined fs gs)
flags_joined (or_note t y z f fs) gs = omega (arith, flags_joined fs gs)
flags_joined (unread t fs) gs = omega (arith, flags_joined fs gs)

-- a step, where the rest is in two
then-joined : (a : Ans) (k l m : ℕ → Ans) → ((p : ℕ) → k p ≡ then (l p) m) → then a k ≡ then (then a l) m
then-joined a k l m q = then_same a k (λ p. then (l p) m) q ∙ sym (then-then a l m)

module _ (gs : Flds) (r v : ℕ) (x : Ctx) (b : ℕ → ℕ) (e : ℕ) where
  behind : (fs : Flds) → flags (joined fs gs) + r ≡ flags fs + (flags gs + r)
  behind fs = omega (arith, flags_joined fs gs)

  -- the first ones have the presence bits of the others behind them
  pub chosen-joined : (fs : Flds) (at : ℕ) → chosen (joined fs gs) r v x b e at ≡ then (chosen fs (flags gs + r) v x b e at) (λ p. chosen gs r v x b e p)
  unfolding chosen
  chosen-joined end at = sym (then-nil at (λ p. chosen gs r v x b e p))
  chosen-joined (f ⨾ fs) at = then-joined _ _ _ _ (λ p. chosen-joined fs p)
  chosen-joined (f ⨾? fs) at = rw (behind fs) (then-joined _ _ _ _ (λ p. chosen-joined fs p))
  chosen-joined (or_note t y z f fs) at = rw (behind fs) (then-joined _ _ _ _ (λ p. chosen-joined fs p))
  chosen-joined (unread t fs) at = rw (behind fs) (then-joined _ _ _ _ (λ p. chosen-joined fs p))

fork-then : (v : ℕ) (a c : Ans) (k : ℕ → Ans) → then (fork v a c) k ≡ fork v (then a k) (then c k)
unfolding fork
fork-then zero a c k = refl
fork-then (suc v) a c k = refl

-- v has the n bits of b from q on
pub record Shows (n v : ℕ) (b : ℕ → ℕ) (q : ℕ) : Type 0 where
  pub bit : (j r : ℕ) → j + 1 + r ≡ n → v / 2 ^ r % 2 ≡ b (q + j)

shows_first : {v : ℕ} {b : ℕ → ℕ} (n q : ℕ) → Shows (suc n) v b q → v / 2 ^ (n + 0) % 2 ≡ b q
shows_first n q h = rw (add-zero n) (h.bit 0 n (omega arith) ∙ rw (add-zero q))

shows-others : {v : ℕ} {b : ℕ → ℕ} (n q : ℕ) → Shows (suc n) v b q → Shows n v b (suc q)
shows-others n q h = record { bit = λ j r l. rw (suc-add q j, ← (add-suc q j)) (h.bit (suc j) r (omega arith)) }

-- an optional field, by the number and by the bit
by_bit : {v has : ℕ} (a c : Ans) (k l : ℕ → Ans) → v ≡ has → ((p : ℕ) → k p ≡ l p) → then (fork v a c) k ≡ fork has (then a l) (then c l)
by_bit {v} a c k l q h = fork-then v a c k ∙ rw (q, then_same a k l h, then_same c k l h)

by-bit-none : {v has : ℕ} (at : ℕ) (c : Ans) (k l : ℕ → Ans) → v ≡ has → ((p : ℕ) → k p ≡ l p) → then (fork v (ok at [] 0) c) k ≡ fork has (l at) (then c l)
by-bit-none at c k l q h = by_bit (ok at [] 0) c k l q h ∙ rw (then-nil at l)

pub chosen_fields : (fs : Flds) (v : ℕ) (x : Ctx) (b : ℕ → ℕ) (e q at : ℕ) → Shows (flags fs) v b q → chosen fs 0 v x b e at ≡ read_fields fs x b e q at
unfolding chosen read_fields flags
chosen_fields end v x b e q at h = refl
chosen_fields (f ⨾ fs) v x b e q at h = then_same (read f x b e at) _ _ (λ p. chosen_fields fs v x b e q p h)
chosen_fields (f ⨾? fs) v x b e q at h = by-bit-none at _ _ _ (shows_first (flags fs) q h) (λ p. chosen_fields fs v x b e (suc q) p (shows-others (flags fs) q h))
chosen_fields (or_note t y z f fs) v x b e q at h = by_bit _ _ _ _ (shows_first (flags fs) q h) (λ p. chosen_fields fs v x b e (suc q) p (shows-others (flags fs) q h))
chosen_fields (unread t fs) v x b e q at h = by-bit-none at _ _ _ (shows_first (flags fs) q h) (λ p. chosen_fields fs v x b e (suc q) p (shows-others (flags fs) q h))
