-- The steps of a reading, going forward: from what the bits say to the step's answer.
use mathlib.Core.Path.{◌≡◌, refl, sym, ap, ◌∙◌}
use mathlib.Core.Bool.{Bool, true, false, cond}
use mathlib.Core.Option.{Option, none, some}
use mathlib.Core.List.{List, [], ◌∷◌, ◌++◌}
use Prim.Native.Nat.{ℕ, suc, ◌+◌, ◌-◌, ◌*◌, ◌^◌, ◌≤◌, ◌<◌}
use native.Mathlib.Nat.{add_assoc, add-zero, suc-mul, add_comm}
use native.Mathlib.Numerals.{add-one, add-two}
use native.Mathlib.Omega.{arith}
use lib.ListN.{length, length-append}
use lib.Dec.{ltb}
use borrow.Author.Tests.{ltb-true, ltb-false, le-leb, lt-leb, lt-ltb}
use Rattle.x691.specs.Bits.{uint, bits_of, Spells}
use Rattle.x691.specs.Encoding.{width, length_bits, size_bits, unit_bits, joined, if_any, flag}
use Rattle.x691.specs.Range.{All, IfAny}
use Rattle.x691.proofs.BitLaws.{uint_back, uint-one, spells_fst, spells_snd, length-bits_of}
use Rattle.x691.proofs.Widths.{width-holds, unit-fits}
use Rattle.atn.specs.Format.{out}
use Rattle.atn.specs.Reading.{Rec, Ans, ok, past, stop, glue, then, times, fork, or, unless, over, fetch, pull, sized, letters, units, short, long, lengths, length_then}
use Rattle.atn.specs.Told.{tell_any, tell_all}

---------------------------------------------------------------- answers

pub glue-nil : (a : Ans) → glue [] 0 a ≡ a
unfolding glue or
glue-nil (ok p R m) = refl
glue-nil (past k p R m) = refl
glue-nil (stop w p R m) = refl

-- nothing told and nothing marked
pub then-nil : (q : ℕ) (k : ℕ → Ans) → then (ok q [] 0) k ≡ k q
unfolding then
then-nil q k = glue-nil (k q)

pub then_go : {a : Ans} {q p : ℕ} {S U : List Rec} (k : ℕ → Ans) → a ≡ ok q S 0 → k q ≡ ok p U 0 → then a k ≡ ok p (S ++ U) 0
unfolding then glue or
then_go k x y = rw (x, y)

pub over_in : (d v : ℕ) → v ≤ d → over d v ≡ 0
unfolding over unless
over_in d v h = rw (le-leb v d h)

---------------------------------------------------------------- reads

module _ (b : ℕ → ℕ) (e : ℕ) where
  pub fetch_go : (at n : ℕ) (k : ℕ → Ans) (z : Ans) → at + n ≤ e → fetch b e at n k z ≡ k (uint b at n)
  unfolding fetch
  fetch_go at n k z h = rw (le-leb (at + n) e h)

  pub fetch_no : (at n : ℕ) (k : ℕ → Ans) (z : Ans) → e < at + n → fetch b e at n k z ≡ z
  unfolding fetch
  fetch_no at n k z h = rw (lt-leb (at + n) e h)

  pub pull_go : (at n : ℕ) (k : ℕ → Ans) → at + n ≤ e → pull b e at n k ≡ k (uint b at n)
  unfolding pull
  pull_go at n k h = fetch_go at n k (stop (out (at + n - e)) at [] 0) h

  pub pull_no : (at n : ℕ) (k : ℕ → Ans) → e < at + n → pull b e at n k ≡ stop (out (at + n - e)) at [] 0
  unfolding pull
  pull_no at n k h = fetch_no at n k (stop (out (at + n - e)) at [] 0) h

  pub pull-spelt : (at n v : ℕ) (k : ℕ → Ans) → v < 2 ^ n → Spells b at (bits_of n v) → at + n ≤ e → pull b e at n k ≡ k v
  pull-spelt at n v k l s h = pull_go at n k h ∙ ap k (uint_back b at n v l s)

  pub pull-bit : (at v : ℕ) (k : ℕ → Ans) → at + 1 ≤ e → b at ≡ v → pull b e at 1 k ≡ k v
  pull-bit at v k h q = pull_go at 1 k h ∙ ap k (uint-one b at ∙ q)

  pub length-size : (lo hi n : ℕ) → length (size_bits lo hi n) ≡ width (hi - lo)
  unfolding size_bits
  length-size lo hi n = length-bits_of (width (hi - lo)) (n - lo)

  pub sized_go : (at lo hi n : ℕ) (k : ℕ → ℕ → Ans) → lo ≤ n → n ≤ hi → Spells b at (size_bits lo hi n) → at + width (hi - lo) ≤ e → sized b e at lo hi k ≡ k n (at + width (hi - lo))
  unfolding sized size_bits
  sized_go at lo hi n k l u s h =
      let w : ℕ = width (hi - lo) in
      let i : lo + (n - lo) ≡ n = omega arith in
      pull-spelt at w (n - lo) _ (omega (arith, width-holds (hi - lo))) s h ∙ rw (i, over_in hi n u) (then-nil (at + w) (λ p. k n p))

  pub length-units : (n : ℕ) (cs : List ℕ) → length (unit_bits n cs) ≡ length cs * width (n - 1)
  unfolding unit_bits joined
  length-units n [] = omega arith
  length-units n (c ∷ cs) =
      let w : ℕ = width (n - 1) in
      length-append (bits_of w c) (unit_bits n cs) ∙ rw (length-bits_of w c, length-units n cs) (sym (suc-mul (length cs) w ∙ add_comm (length cs * w) w))

  pub letters_go : (n : ℕ) (cs : List ℕ) (at : ℕ) (k : ℕ → Ans) → let w = width (n - 1) in All (λ c. c < n) cs → Spells b at (unit_bits n cs) → at + length cs * w ≤ e
      → letters b e w n (length cs) at k ≡ k (at + length cs * w)
  unfolding letters unit_bits joined unless
  letters_go n [] at k g s h = ap k (omega arith)
  letters_go n (c ∷ cs) at k g s h =
      let w : ℕ = width (n - 1) in
      let f : c < 2 ^ w = unit-fits n c g.0 in
      let m : suc (length cs) * w ≡ w + length cs * w = suc-mul (length cs) w ∙ add_comm (length cs * w) w in
      pull-spelt at w c _ f (spells_fst b at (bits_of w c) (unit_bits n cs) s) (omega arith)
      ∙ rw (lt-ltb c n g.0) (then-nil (at + w) (λ p. letters b e w n (length cs) p k))
      ∙ letters_go n cs (at + w) k g.1 (rw length-bits_of at (spells_snd b at (bits_of w c) (unit_bits n cs) s)) (omega arith)
      ∙ ap k (omega arith)

pub units_back : (b : ℕ → ℕ) (n : ℕ) (cs : List ℕ) (at : ℕ) → All (λ c. c < n) cs → Spells b at (unit_bits n cs) → units b (width (n - 1)) at (length cs) ≡ cs
unfolding units unit_bits joined
units_back b n [] at g s = refl
units_back b n (c ∷ cs) at g s =
    let w : ℕ = width (n - 1) in
    rw (uint_back b at w c (unit-fits n c g.0) (spells_fst b at (bits_of w c) (unit_bits n cs) s))
    (ap (λ (l : List ℕ). c ∷ l) (units_back b n cs (at + w) g.1 (rw length-bits_of at (spells_snd b at (bits_of w c) (unit_bits n cs) s))))

---------------------------------------------------------------- the length determinant

module _ (b : ℕ → ℕ) (e at n g : ℕ) (k : ℕ → ℕ → Ans) where
  length_in : (t : Bool) → ltb n 128 ≡ t → n < 16384 → let l = cond t (0 ∷ bits_of 7 n) (1 ∷ 0 ∷ bits_of 14 n) in Spells b at l → at + length l ≤ e → lengths (suc g) b e at k ≡ k n (at + length l)
  unfolding lengths short long fork Spells unless
  length_in true q h s l =
      pull-bit b e at 0 _ (omega arith) s.0
      ∙ pull-spelt b e (at + 1) 7 n _ (ltb-true n 128 q) (rw add-one s.1) (omega (arith, length-bits_of 7 n))
      ∙ ap (k n) (omega (arith, length-bits_of 7 n))
  length_in false q h s l =
      pull-bit b e at 1 _ (omega arith) s.0
      ∙ pull-bit b e (at + 1) 0 _ (omega arith) (rw add-one s.1.0)
      ∙ pull-spelt b e (at + 2) 14 n _ h (rw add-two s.1.1) (omega (arith, length-bits_of 14 n))
      ∙ (rw (le-leb 128 n (ltb-false n 128 q)) (then-nil (at + 16) (λ p. k n p) ∙ ap (k n) (omega (arith, length-bits_of 14 n))))

pub length_go : (b : ℕ → ℕ) (e at n : ℕ) (k : ℕ → ℕ → Ans) → n < 16384 → Spells b at (length_bits n) → at + length (length_bits n) ≤ e → length_then b e at k ≡ k n (at + length (length_bits n))
unfolding length_bits length_then
length_go b e at n k h s l = length_in b e at n 65536 k (ltb n 128) refl h s l

---------------------------------------------------------------- parts

module _ {A : Type 0} (P : A → Type 0) (b : ℕ → ℕ) (e : ℕ) (enc : A → List ℕ) where
  abbrev pub Reads : (A → ℕ → List Rec) → (ℕ → Ans) → Type 0
  Reads rc r = (a : A) (at : ℕ) → P a → Spells b at (enc a) → at + length (enc a) ≤ e → r at ≡ ok (at + length (enc a)) (rc a at) 0

  pub times_go : (rc : ℕ → A → ℕ → List Rec) (r : ℕ → ℕ → Ans) → ((i : ℕ) → Reads (rc i) (r i)) → (vs : List A) (i at : ℕ) → All P vs → Spells b at (joined enc vs) → at + length (joined enc vs) ≤ e
      → times r i (length vs) at ≡ ok (at + length (joined enc vs)) (tell_all enc rc i vs at) 0
  unfolding times joined tell_all
  times_go rc r ih [] i at g s h = rw add-zero
  times_go rc r ih (v ∷ vs) i at g s h =
      rw (length-append (enc v) (joined enc vs), ← add_assoc at (length (enc v)) (length (joined enc vs)))
      (then_go (λ p. times r (suc i) (length vs) p) (ih i v at g.0 (spells_fst b at (enc v) (joined enc vs) s) (omega (arith, length-append (enc v) (joined enc vs))))
      (times_go rc r ih vs (suc i) (at + length (enc v)) g.1 (spells_snd b at (enc v) (joined enc vs) s) (omega (arith, length-append (enc v) (joined enc vs)))))

  -- an optional part, whose absence is told by Z
  pub any_go : (rc : A → ℕ → List Rec) (r : ℕ → Ans) (Z : List Rec) (y : ℕ → Ans) (k : ℕ → Ans) → Reads rc r → (o : Option A) (at : ℕ) {p : ℕ} {U : List Rec} → IfAny P o → Spells b at (if_any enc o)
      → at + length (if_any enc o) ≤ e → k (at + length (if_any enc o)) ≡ ok p U 0 → (k at ≡ ok p U 0 → y at ≡ ok p (Z ++ U) 0)
      → fork (flag o) (y at) (then (r at) k) ≡ ok p (tell_any (λ a. rc a at) Z o ++ U) 0
  unfolding if_any flag fork tell_any
  any_go rc r Z y k ih none at g s h t z = z (rw add-zero at t)
  any_go rc r Z y k ih (some a) at g s h t z = then_go k (ih a at g s h) t
