-- What a reading of frames owes where it ran out: it lacked some bits, and of a frame that begins as this one and is longer by at least so many bits it is not said that it ran out before them. Proved of each format, and of `parse_apdu`'s combination of two readings.
use mathlib.Core.Path.{◌≡◌, refl, ap}
use mathlib.Core.Bool.{Bool, true}
use mathlib.Core.Logic.{◌⊎◌, inl, inr}
use mathlib.Core.List.{List}
use Prim.Native.Nat.{ℕ, ◌+◌, ◌*◌, ◌≤◌, min}
use native.Mathlib.Omega.{arith}
use lib.ListN.{length}
use Rattle.x691.specs.Bits.{bit_of}
use Rattle.atn.specs.Format.{Fmt, out, bad, lack, quit}
use Rattle.atn.specs.Reading.{Rec, Ans, ok, past, stop, read}
use Rattle.atn.specs.Entries.{Reply, accept, ran_out, badly, unsupplied, stopped, reply, read_frame, after_out, after_bad, or_else}
use Rattle.atn.specs.Demands.{Longer}
use Rattle.atn.proofs.Reach.{split}
use Rattle.atn.proofs.Readings.{reply_reach, reply-is, out_is, bad-is}
use Rattle.atn.proofs.Lacked.{frank, Lacks, Further, longer}

-- of any reply to the longer frame: the bits that were lacked have been taken
pub record GoesFar (F : List ℕ → Reply) : Type 0 where
  pub some : (s : List ℕ) {p k : ℕ} → F s ≡ ran_out p k → 1 ≤ k
  pub far : (s t : List ℕ) {p k : ℕ} → F s ≡ ran_out p k → Longer s t k → length s * 8 + k ≤ reply_reach (F t)

-- the same, where the longer frame ran out again
pub record GoesOn (F : List ℕ → Reply) : Type 0 where
  pub some : (s : List ℕ) {p k : ℕ} → F s ≡ ran_out p k → 1 ≤ k
  pub on : (s t : List ℕ) {p k q l : ℕ} → F s ≡ ran_out p k → Longer s t k → F t ≡ ran_out q l → length s * 8 + k ≤ q

differ : {A : Type 0} {c : Bool} {p m q k : ℕ} {R : List Rec} → accept c p m R ≡ ran_out q k → A
differ h = let z : ◌≡◌ {A = ℕ} 0 1 = cc in absurd (omega arith)

---------------------------------------------------------------- a format

lacked : (P : ℕ → Type 0) (a : Ans) {p k : ℕ} → reply a ≡ ran_out p k → Lacks a P → P k
unfolding reply stopped
lacked P (ok q R m) h g = differ h
lacked P (past l q R m) h g = differ h
lacked P (stop (out l) q R m) {p} {k} h g = let z : l ≡ k = cc in (rw z at g)
lacked P (stop bad q R m) h g = let z : ◌≡◌ {A = ℕ} 0 1 = cc in absurd (omega arith)
lacked P (stop lack q R m) h g = let z : ◌≡◌ {A = ℕ} 0 1 = cc in absurd (omega arith)
lacked P (stop (quit o j l) q R m) h g = differ h

pub format_far : (f : Fmt) → frank f ≡ true → GoesFar (λ s. read_frame f s)
unfolding read_frame
format_far f h =
    record {
      some = λ s {p} {k} q.
          let e : ℕ = length s * 8 in
          let b : ℕ → ℕ = bit_of s in
          let z : Further e e (read f (0, 0) b e 0) k = lacked (Further e e (read f (0, 0) b e 0)) (read f (0, 0) b e 0) q (longer f (0, 0) b b e e 0 h (λ i _. refl) (omega arith) (omega arith)) in
          z.some;
      far = λ s t {p} {k} i g.
          let e : ℕ = length s * 8 in
          let u : ℕ = length t * 8 in
          let c : ℕ → ℕ = bit_of t in
          let z : Further e u (read f (0, 0) c u 0) k = lacked (Further e u (read f (0, 0) c u 0)) (read f (0, 0) (bit_of s) e 0) i (longer f (0, 0) (bit_of s) c e u 0 h g.bits (omega (arith, g.more)) (omega arith)) in
          omega (arith, z.there g.more, (reply-is (read f (0, 0) c u 0)).0);
    }

pub format_goes : (f : Fmt) → frank f ≡ true → GoesOn (λ s. read_frame f s)
unfolding reply_reach
format_goes f h =
    let z = format_far f h in
    record { some = λ s q. z.some s q; on = λ s t i g j. (rw j at (z.far s t i g)) }

---------------------------------------------------------------- two readings combined

-- "the number from the reading that ran out"
data Which (d u : Reply) (k : ℕ) : Type 0 where
  downlink : (p : ℕ) → d ≡ ran_out p k → Which d u k
  uplink : (p : ℕ) → u ≡ ran_out p k → Which d u k

-- .. "the smaller one if both did"
which : (d u : Reply) {p k : ℕ} → or_else d u ≡ ran_out p k → Which d u k
unfolding or_else after_out after_bad
which (accept c q m R) u h = differ h
which (unsupplied q) u h = let z : ◌≡◌ {A = ℕ} 0 1 = cc in absurd (omega arith)
which (badly q) (accept c r m R) h = differ h
which (badly q) (ran_out r l) {p} {k} h = let z : l ≡ k = cc in uplink r (rw z)
which (badly q) (badly r) h = let z : ◌≡◌ {A = ℕ} 0 1 = cc in absurd (omega arith)
which (badly q) (unsupplied r) h = let z : ◌≡◌ {A = ℕ} 0 1 = cc in absurd (omega arith)
which (ran_out q i) (accept c r m R) h = differ h
which (ran_out q i) (ran_out r l) {p} {k} h =
    let z : min i l ≡ k = cc in
    split i l (λ y. let x : i ≡ k = omega arith in downlink q (rw x)) (λ y. let x : l ≡ k = omega arith in uplink r (rw x))
which (ran_out q i) (badly r) {p} {k} h = let z : i ≡ k = cc in downlink q (rw z)
which (ran_out q i) (unsupplied r) {p} {k} h = let z : i ≡ k = cc in downlink q (rw z)

-- it is no more than that of either reading which ran out
pub smaller : (d u : Reply) {p k q l : ℕ} → or_else d u ≡ ran_out p k → (d ≡ ran_out q l) ⊎ (u ≡ ran_out q l) → k ≤ l
unfolding or_else after_out after_bad
smaller (accept c r m R) u h g = differ h
smaller (unsupplied r) u h g = let z : ◌≡◌ {A = ℕ} 0 1 = cc in absurd (omega arith)
smaller (badly r) (accept c o m R) h g = differ h
smaller (badly r) (ran_out o j) {p} {k} {q} {l} h g = let z : j ≡ k = cc in elim g [ inl x ↦ (let y : ◌≡◌ {A = ℕ} 0 1 = cc in absurd (omega arith)) | inr x ↦ (let y : j ≡ l = cc in omega arith) ]
smaller (badly r) (badly o) h g = let z : ◌≡◌ {A = ℕ} 0 1 = cc in absurd (omega arith)
smaller (badly r) (unsupplied o) h g = let z : ◌≡◌ {A = ℕ} 0 1 = cc in absurd (omega arith)
smaller (ran_out r i) (accept c o m R) h g = differ h
smaller (ran_out r i) (ran_out o j) {p} {k} {q} {l} h g = let z : min i j ≡ k = cc in elim g [ inl x ↦ (let y : i ≡ l = cc in omega arith) | inr x ↦ (let y : j ≡ l = cc in omega arith) ]
smaller (ran_out r i) (badly o) {p} {k} {q} {l} h g = let z : i ≡ k = cc in elim g [ inl x ↦ (let y : i ≡ l = cc in omega arith) | inr x ↦ (let y : ◌≡◌ {A = ℕ} 0 1 = cc in absurd (omega arith)) ]
smaller (ran_out r i) (unsupplied o) {p} {k} {q} {l} h g = let z : i ≡ k = cc in elim g [ inl x ↦ (let y : i ≡ l = cc in omega arith) | inr x ↦ (let y : ◌≡◌ {A = ℕ} 0 1 = cc in absurd (omega arith)) ]

-- and neither reading reached further
both_reach : (d u : Reply) {p k : ℕ} → or_else d u ≡ ran_out p k → (reply_reach d ≤ p) × (reply_reach u ≤ p)
unfolding or_else reply_reach
both_reach (accept c q m R) u h = differ h
both_reach (unsupplied q) u h = let z : ◌≡◌ {A = ℕ} 0 1 = cc in absurd (omega arith)
both_reach (badly q) u {p} h = let z : reply_reach (after_bad q u) ≡ p = ap reply_reach h in (omega (arith, (bad-is q u).0), omega (arith, (bad-is q u).0))
both_reach (ran_out q i) u {p} h = let z : reply_reach (after_out q i u) ≡ p = ap reply_reach h in (omega (arith, (out_is q i u).0), omega (arith, (out_is q i u).0))

module _ (D U : List ℕ → Reply) (gd : GoesFar D) (gu : GoesFar U) where
  both_some : (s : List ℕ) {k : ℕ} → Which (D s) (U s) k → 1 ≤ k
  both_some s (downlink p h) = gd.some s h
  both_some s (uplink p h) = gu.some s h

  both_on : (s t : List ℕ) {k q l : ℕ} → Which (D s) (U s) k → Longer s t k → or_else (D t) (U t) ≡ ran_out q l → length s * 8 + k ≤ q
  both_on s t (downlink p h) g j = omega (arith, gd.far s t h g, (both_reach (D t) (U t) j).0)
  both_on s t (uplink p h) g j = omega (arith, gu.far s t h g, (both_reach (D t) (U t) j).1)

  pub both_goes : GoesOn (λ s. or_else (D s) (U s))
  both_goes = record { some = λ s h. both_some s (which (D s) (U s) h); on = λ s t h g j. both_on s t (which (D s) (U s) h) g j }
