-- The steps of a reading, going back: from a clean answer to what the bits say.
use mathlib.Core.Path.{◌≡◌, refl, sym, ap, ◌∙◌}
use mathlib.Core.Bool.{Bool, true, false, cond, ◌&&◌}
use mathlib.Core.Logic.{◌⊎◌, inl, inr}
use mathlib.Core.List.{List, [], ◌++◌}
use Prim.Native.Nat.{ℕ, zero, suc, ◌+◌, ◌-◌, ◌*◌, ◌≤◌, ◌<◌}
use native.Mathlib.Nat.{suc-mul, add_comm}
use native.Mathlib.Numerals.{add-one, add-two}
use native.Mathlib.Omega.{arith}
use lib.ListN.{length}
use lib.Dec.{leb, ltb, eqb}
use lib.Bits.{or_add_and, and_le_l, and_le_r}
use lib.Pow.{pow_pos}
use borrow.Author.Tests.{ltb-true, leb-true, eqb-true, lt-ltb, le-ltb}
use Rattle.x691.specs.Bits.{uint, bits_of, Spells}
use Rattle.x691.specs.Encoding.{width, length_bits, unit_bits, joined}
use Rattle.x691.specs.Range.{All}
use Rattle.x691.proofs.BitLaws.{uint-one, uint-lt, uint_spells, spells_join, length-bits_of}
use Rattle.atn.specs.Format.{Why, out, bad, lack, quit}
use Rattle.atn.specs.Reading.{Rec, Ans, ok, past, stop, glue, late, then, fork, guard, or, mark, unless, over, fetch, pull, sized, letters, units, short, long, fragment, lengths, length_then, close, shut, softly, pass_over, laxly, give_up}

---------------------------------------------------------------- marks

nil_both : (a b : ℕ) → or a b ≡ 0 → (a ≡ 0) × (b ≡ 0)
unfolding or
nil_both a b h = (omega (arith, or_add_and a b, and_le_l a b, and_le_r a b), omega (arith, or_add_and a b, and_le_l a b, and_le_r a b))

pub nil_fst : (a b : ℕ) → or a b ≡ 0 → a ≡ 0
nil_fst a b h = (nil_both a b h).0

pub nil_snd : (a b : ℕ) → or a b ≡ 0 → b ≡ 0
nil_snd a b h = (nil_both a b h).1

pub mark_pos : {A : Type 0} (m : ℕ) → mark m ≡ 0 → A
unfolding mark
mark_pos m h = absurd (omega (arith, pow_pos (m - 1)))

pub unless_inv : (t : Bool) (m : ℕ) → unless t m ≡ 0 → t ≡ true
unfolding unless
unless_inv true m h = refl
unless_inv false m h = mark_pos m h

pub both : (s t : Bool) → s && t ≡ true → (s ≡ true) × (t ≡ true)
both true t h = (refl, h)
both false t h = let z : ◌≡◌ {A = ℕ} 0 1 = cc in absurd (omega arith)

pub over_inv : (d v : ℕ) → over d v ≡ 0 → v ≤ d
unfolding over
over_inv d v h = leb-true v d (unless_inv (leb v d) 1 h)

---------------------------------------------------------------- answers that are not clean

pub never : {A : Type 0} {w : Why} {p q : ℕ} {R S : List Rec} {m n : ℕ} → stop w q S n ≡ ok p R m → A
never h = let z : ◌≡◌ {A = ℕ} 0 1 = cc in absurd (omega arith)

pub never_past : {A : Type 0} {k p q : ℕ} {R S : List Rec} {m n : ℕ} → past k q S n ≡ ok p R m → A
never_past h = let z : ◌≡◌ {A = ℕ} 0 1 = cc in absurd (omega arith)

pub never_late : {A : Type 0} (k : ℕ) (S : List Rec) (n : ℕ) (a : Ans) {p : ℕ} {R : List Rec} {m : ℕ} → late k S n a ≡ ok p R m → A
unfolding late
never_late k S n (ok q U l) h = never_past h
never_late k S n (past j q U l) h = never_past h
never_late k S n (stop w q U l) h = never h

never_set : {A : Type 0} (m l : ℕ) {p q : ℕ} {R S : List Rec} → ok q S (or (mark m) l) ≡ ok p R 0 → A
never_set m l h = let z : or (mark m) l ≡ 0 = cc in mark_pos m (nil_fst (mark m) l z)

pub never_marked : {A : Type 0} (m : ℕ) {p q : ℕ} {R S : List Rec} → ok q S (mark m) ≡ ok p R 0 → A
never_marked m h = let z : mark m ≡ 0 = cc in mark_pos m z

---------------------------------------------------------------- one reading after another

-- a clean answer of two readings in a row
pub record Two (a : Ans) (k : ℕ → Ans) (p : ℕ) (R : List Rec) : Type 0 where
  pub mid : ℕ
  pub R₁ : List Rec
  pub R₂ : List Rec
  pub first : a ≡ ok mid R₁ 0
  pub second : k mid ≡ ok p R₂ 0
  pub recs : R ≡ R₁ ++ R₂

glue_inv : (a c : Ans) (q : ℕ) (S : List Rec) (n : ℕ) (k : ℕ → Ans) {p : ℕ} {R : List Rec} → a ≡ ok q S n → k q ≡ c → glue S n c ≡ ok p R 0 → Two a k p R
unfolding glue
glue_inv a (ok p' S' n') q S n k {p} {R} x y h =
    let j : or n n' ≡ 0 = cc in
    record { mid = q; R₁ = S; R₂ = S'; first = x ∙ ap (ok q S) (nil_fst n n' j); second = y ∙ (let j₂ = nil_snd n n' j in cc); recs = cc }
glue_inv a (past l p' S' n') q S n k x y h = never_past h
glue_inv a (stop w p' S' n') q S n k x y h = never h

pub then_inv : (a : Ans) (k : ℕ → Ans) {p : ℕ} {R : List Rec} → then a k ≡ ok p R 0 → Two a k p R
unfolding then
then_inv (ok q S n) k h = glue_inv (ok q S n) (k q) q S n k refl refl h
then_inv (past l q S n) k h = never_late l S n (k q) h
then_inv (stop w q S n) k h = never h

pub never_after : {A : Type 0} (m q : ℕ) (S : List Rec) (k : ℕ → Ans) {p : ℕ} {R : List Rec} → then (ok q S (mark m)) k ≡ ok p R 0 → A
never_after m q S k h = never_marked m (then_inv (ok q S (mark m)) k h).first

pub then_ok : (q : ℕ) (S : List Rec) (m : ℕ) (k : ℕ → Ans) {p : ℕ} {R : List Rec} → then (ok q S m) k ≡ ok p R 0 → (m ≡ 0) × (U : List Rec) × (k q ≡ ok p U 0) × (R ≡ S ++ U)
then_ok q S m k {p} {R} h =
    let t : Two (ok q S m) k p R = then_inv (ok q S m) k h in
    let z = t.first in
    let y = t.second in
    let x = t.recs in
    (cc, t.R₂, cc, cc)

pub fork_inv : (x : ℕ) (y z : Ans) {a : Ans} → fork x y z ≡ a → ((x ≡ 0) × (y ≡ a)) ⊎ ((n : ℕ) × (x ≡ suc n) × (z ≡ a))
unfolding fork
fork_inv zero y z h = inl (refl, h)
fork_inv (suc n) y z h = inr (n, refl, h)

pub guard_inv : (t : Bool) (at l : ℕ) (z : Ans) {p : ℕ} {R : List Rec} {m : ℕ} → guard t at l z ≡ ok p R m → (t ≡ true) × (z ≡ ok p R m)
unfolding guard
guard_inv true at l z h = (refl, h)
guard_inv false at l z h = never h

---------------------------------------------------------------- tolerance

-- the end of an inner string
pub close_inv : (q : ℕ) (a : Ans) {p : ℕ} {R : List Rec} → close q a ≡ ok p R 0 → (a ≡ ok q R 0) × (p ≡ q)
unfolding close shut
close_inv q (ok p' R' m') {p} {R} h =
    let c : ℕ = unless (eqb p' q) 6 in
    let j : or m' c ≡ 0 = cc in
    let m : m' ≡ 0 = nil_fst m' c j in
    let x : p' ≡ q = eqb-true p' q (unless_inv (eqb p' q) 6 (nil_snd m' c j)) in
    (cc, cc)
close_inv q (past k p' R' m') h = never_set 7 _ h
close_inv q (stop w p' R' m') h = go w h
  where
    go : {A : Type 0} {p : ℕ} {R : List Rec} (w : Why) → shut w q p' R' m' ≡ ok p R 0 → A
    go (out k) h' = never h'
    go bad h' = never h'
    go lack h' = never h'
    go (quit o false k) h' = never_set k _ h'
    go (quit o true k) h' = never_set k _ h'

pub soft_inv : (m : ℕ) (r : Bool) (a : Ans) {p : ℕ} {R : List Rec} → softly m r a ≡ ok p R 0 → a ≡ ok p R 0
unfolding softly pass_over
soft_inv m r (ok p' R' l) h = h
soft_inv m r (past k p' R' l) h = never_past h
soft_inv m r (stop w p' R' l) h = go w h
  where
    go : {A : Type 0} {p : ℕ} {R : List Rec} (w : Why) → pass_over w m r p' R' l ≡ ok p R 0 → A
    go (out k) h' = never_past h'
    go bad h' = never_set m _ h'
    go lack h' = never h'
    go (quit o i k) h' = never h'

pub lax_inv : (m : ℕ) (j : Bool) (a : Ans) {p : ℕ} {R : List Rec} → laxly m j a ≡ ok p R 0 → a ≡ ok p R 0
unfolding laxly give_up
lax_inv m j (ok p' R' l) h = h
lax_inv m j (past k p' R' l) h = never_past h
lax_inv m j (stop w p' R' l) h = go w h
  where
    go : {A : Type 0} {p : ℕ} {R : List Rec} (w : Why) → give_up w m j p' R' l ≡ ok p R 0 → A
    go (out k) h' = never h'
    go bad h' = never h'
    go lack h' = never h'
    go (quit o i k) h' = never h'

---------------------------------------------------------------- reads

module _ (b : ℕ → ℕ) (e : ℕ) where
  pub fetch_inv : (at n : ℕ) (k : ℕ → Ans) (z : Ans) {p : ℕ} {R : List Rec} {m : ℕ} → (z ≡ ok p R m → ⊥) → fetch b e at n k z ≡ ok p R m → (at + n ≤ e) × (k (uint b at n) ≡ ok p R m)
  unfolding fetch
  fetch_inv at n k z {p} {R} {m} neg h = go (leb (at + n) e) refl h
    where
      go : (t : Bool) → leb (at + n) e ≡ t → cond t (k (uint b at n)) z ≡ ok p R m → (at + n ≤ e) × (k (uint b at n) ≡ ok p R m)
      go true q h' = (leb-true (at + n) e q, h')
      go false q h' = absurd (neg h')

  pub pull_inv : (at n : ℕ) (k : ℕ → Ans) {p : ℕ} {R : List Rec} {m : ℕ} → pull b e at n k ≡ ok p R m → (at + n ≤ e) × (k (uint b at n) ≡ ok p R m)
  unfolding pull
  pull_inv at n k h = fetch_inv at n k (stop (out (at + n - e)) at [] 0) (λ q. never q) h

  -- a size within its range, and what follows it
  pub sized_inv : (at lo hi : ℕ) (k : ℕ → ℕ → Ans) {p : ℕ} {R : List Rec} → sized b e at lo hi k ≡ ok p R 0
      → let v = uint b at (width (hi - lo)) in (at + width (hi - lo) ≤ e) × (lo + v ≤ hi) × (k (lo + v) (at + width (hi - lo)) ≡ ok p R 0)
  unfolding sized
  sized_inv at lo hi k h =
      let w : ℕ = width (hi - lo) in
      let x = pull_inv at w _ h in
      let n : ℕ = lo + uint b at w in
      let y = then_ok (at + w) [] (over hi n) (λ q. k n q) x.1 in
      (x.0, over_inv hi n y.0, y.2 ∙ (let z = y.3 in cc))

  pub letters_inv : (w n i at : ℕ) (k : ℕ → Ans) {p : ℕ} {R : List Rec} → letters b e w n i at k ≡ ok p R 0 → at ≤ e → (at + i * w ≤ e) × All (λ c. c < n) (units b w at i) × (k (at + i * w) ≡ ok p R 0)
  unfolding letters units
  letters_inv w n zero at k {p} {R} h l = (omega arith, tt, (let z : at + 0 * w ≡ at = omega arith in rw z h))
  letters_inv w n (suc i) at k {p} {R} h l =
      let u : ℕ = uint b at w in
      let x = pull_inv at w _ h in
      let y = then_ok (at + w) [] (unless (ltb u n) 1) (λ q. letters b e w n i q k) x.1 in
      let g : letters b e w n i (at + w) k ≡ ok p R 0 = y.2 ∙ (let r = y.3 in cc) in
      let z = letters_inv w n i (at + w) k g x.0 in
      let m : suc i * w ≡ w + i * w = suc-mul i w ∙ add_comm (i * w) w in
      let s : at + suc i * w ≡ at + w + i * w = omega arith in
      (omega (arith, z.0), (ltb-true u n (unless_inv (ltb u n) 1 y.0), z.1), rw s z.2)

---------------------------------------------------------------- where the bits are bits

module _ (b : ℕ → ℕ) (bit : (i : ℕ) → b i < 2) where
  pub is_one : (q : ℕ) {n : ℕ} → b q ≡ suc n → b q ≡ 1
  is_one q h = omega (arith, bit q)

  pub units-spelt : (n at i : ℕ) → let w = width (n - 1) in (length (units b w at i) ≡ i) × Spells b at (unit_bits n (units b w at i))
  unfolding units unit_bits joined Spells
  units-spelt n at zero = (refl, tt)
  units-spelt n at (suc i) =
      let w : ℕ = width (n - 1) in
      let ih = units-spelt n (at + w) i in
      let c : ℕ = uint b at w in
      (ap suc ih.0, spells_join b at (bits_of w c) (unit_bits n (units b w (at + w) i)) (uint_spells b bit at w) (rw (length-bits_of w c) ih.1))

  -- a clean length determinant
  pub record Length (e at : ℕ) (k : ℕ → ℕ → Ans) (a : Ans) : Type 0 where
    pub len : ℕ
    pub behind : ℕ
    pub goes : k len behind ≡ a
    pub fits : behind ≤ e
    pub clean : (len < 16384) × Spells b at (length_bits len) × (behind ≡ at + length (length_bits len))

  is-short : (at : ℕ) → b at ≡ 0 → let n = uint b (at + 1) 7 in (n < 16384) × Spells b at (length_bits n) × (at + 8 ≡ at + length (length_bits n))
  unfolding length_bits Spells
  is-short at z =
      let n = uint b (at + 1) 7 in
      let l : n < 128 = uint-lt b bit (at + 1) 7 in
      rw (lt-ltb n 128 l) (omega arith, (z, rw (← (add-one at)) (uint_spells b bit (at + 1) 7)), omega (arith, length-bits_of 7 n))

  is-long : (at : ℕ) → b at ≡ 1 → b (at + 1) ≡ 0 → let n = uint b (at + 2) 14 in unless (leb 128 n) 5 ≡ 0 → (n < 16384) × Spells b at (length_bits n) × (at + 16 ≡ at + length (length_bits n))
  unfolding length_bits Spells
  is-long at z y m =
      let n = uint b (at + 2) 14 in
      let l : 128 ≤ n = leb-true 128 n (unless_inv (leb 128 n) 5 m) in
      rw (le-ltb n 128 l) (uint-lt b bit (at + 2) 14, (z, (rw (← (add-one at)) y, rw (← (add-two at)) (uint_spells b bit (at + 2) 14))), omega (arith, length-bits_of 14 n))

  lengths_inv : (g e at : ℕ) (k : ℕ → ℕ → Ans) {p : ℕ} {R : List Rec} → lengths g b e at k ≡ ok p R 0 → Length e at k (ok p R 0)
  unfolding lengths short long fragment
  lengths_inv zero e at k h = never h
  lengths_inv (suc g) e at k {p} {R} h =
      let h₁ = pull_inv b e at 1 _ h in
      elim (fork_inv (uint b at 1) _ _ h₁.1) [
        | inl x ↦
            let h₂ = pull_inv b e (at + 1) 7 _ x.1 in
            record { len = uint b (at + 1) 7; behind = at + 8; goes = h₂.1; fits = omega arith; clean = is-short at (sym (uint-one b at) ∙ x.0) }
        | inr x ↦
            let h₂ = pull_inv b e (at + 1) 1 _ x.2 in
            elim (fork_inv (uint b (at + 1) 1) _ _ h₂.1) [
              | inl y ↦
                  let n : ℕ = uint b (at + 2) 14 in
                  let h₃ = pull_inv b e (at + 2) 14 _ y.1 in
                  let z = then_ok (at + 16) [] (unless (leb 128 n) 5) (λ q. k n q) h₃.1 in
                  record {
                    len = n;
                    behind = at + 16;
                    goes = z.2 ∙ (let r = z.3 in cc);
                    fits = omega arith;
                    clean = is-long at (is_one at (sym (uint-one b at) ∙ x.1)) (sym (uint-one b (at + 1)) ∙ y.0) z.0;
                  }
              | inr y ↦
                  let h₃ = pull_inv b e (at + 2) 6 _ y.2 in
                  never_after 5 (at + 8) [] _ (guard_inv _ (at + 8) 0 _ (guard_inv _ (at + 8) 0 _ h₃.1).1).1
            ]
      ]

  pub length_inv : (e at : ℕ) (k : ℕ → ℕ → Ans) {p : ℕ} {R : List Rec} → length_then b e at k ≡ ok p R 0 → Length e at k (ok p R 0)
  unfolding length_then
  length_inv e at k h = lengths_inv 65537 e at k h
