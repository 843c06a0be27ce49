-- The octets of the one text give those of the other.
use mathlib.Core.Path.{◌≡◌, refl, ◌∙◌}
use mathlib.Core.Bool.{false, cond}
use mathlib.Core.List.{List, [], ◌∷◌}
use Prim.Native.Nat.{ℕ, zero, suc, ◌+◌, ◌-◌, ◌*◌, ◌/◌, ◌%◌, ◌^◌, ◌≤◌, ◌<◌}
use native.Mathlib.Nat.{one-le-pow, pow-suc, pow-succ', mul-add-div_right, mul-add-mod_self_right, div-lt_iff_lt-mul, add-mul, mul_assoc, zero-div, zero-mod, div-eq_of_lt, mod-eq_of_lt, mod-lt, add-zero}
use native.Mathlib.Omega.{arith}
use lib.Arith.{digits_lt}
use lib.Dec.{eqb}
use lib.Pow.{pow-add, pow_mono}
use borrow.Author.Tests.{ne_eqb}
use Rattle.x691.specs.Range.{All}
use Rattle.per.proofs.Laws.{one_shl}
use Rattle.atn.specs.Reading.{octets, coded, spaced}
use Rattle.numeric_strings.specs.Spacing.{spaced_octet, spaced_octets}

octets_pos : (k : ℕ) → 0 < 256 ^ k
octets_pos k = one-le-pow k 256 (omega arith)

pub pow-octets : (k : ℕ) → 2 ^ (k * 8) ≡ 256 ^ k
pow-octets zero = refl
pow-octets (suc k) = let e : suc k * 8 ≡ k * 8 + 8 = omega arith in rw (e, pow-add 2 (k * 8) 8, pow-suc 256 k, pow-octets k)

---------------------------------------------------------------- the loop

-- r has the octets that are done, rest the k others
pub record Left (v r rest k : ℕ) : Type 0 where
  pub few : k ≤ 8
  pub behind : rest < 256 ^ k
  pub before : r < 256 ^ (8 - k)
  pub all : r * 256 ^ k + spaced_octets k rest ≡ spaced_octets 8 v

pub left-all : (v : ℕ) → v < 2 ^ 64 → Left v 0 v 8
left-all v h = record { few = omega arith; behind = h; before = omega arith; all = omega arith }

pub left-none : {v r rest : ℕ} (k : ℕ) → k ≤ 0 → Left v r rest k → r ≡ spaced_octets 8 v
unfolding spaced_octets
left-none zero h x = omega (arith, x.all)
left-none (suc k) h x = absurd (omega arith)

module _ {v r rest k : ℕ} (x : Left v r rest (suc k)) where
  top : rest / 256 ^ k < 256
  top = (div-lt_iff_lt-mul (octets_pos k)).1 (rw pow-succ' at x.behind)

  left-next : {o : ℕ} → o ≡ spaced_octet (rest / 256 ^ k) → o < 256 → Left v (r * 256 + o) (rest % 256 ^ k) k
  unfolding spaced_octets
  left-next {o} e h =
      let n : 8 - k ≡ suc (8 - suc k) = omega (arith, x.few) in
      record {
        few = omega (arith, x.few);
        behind = mod-lt rest (octets_pos k);
        before = rw (n, pow-suc 256 (8 - suc k)) (omega (arith, x.before));
        all = (rw (e, add-mul, mul_assoc, ← (pow-succ' 256 k)) (omega arith)) ∙ x.all;
      }

  left-fits : {o : ℕ} → o < 256 → r * 256 + o < 2 ^ 64
  left-fits {o} h =
      let n : 8 - k ≡ suc (8 - suc k) = omega (arith, x.few) in
      let b : r * 256 + o < 256 ^ (8 - k) = rw (n, pow-suc 256 (8 - suc k)) (omega (arith, x.before)) in
      let l : (8 - k) * 8 ≤ 64 = omega arith in
      let m : 2 ^ ((8 - k) * 8) ≤ 2 ^ 64 = pow_mono {i = (8 - k) * 8} {j = 64} l in
      omega (arith, pow-octets (8 - k))

pub left-room : {v r rest : ℕ} (k : ℕ) → 0 < k → Left v r rest k → r * 256 < 2 ^ 64
left-room zero h x = absurd (omega arith)
left-room (suc k) h x = omega (arith, left-fits x {o = 0} (omega arith))

-- a turn of the loop: as the code writes the places of the octets
pub record Turn (v r rest k o : ℕ) : Type 0 where
  pub fits : r * 256 + o < 2 ^ 64
  pub next : Left v (r * 256 + o) (rest % (1 * 2 ^ ((k - 1) * 8) % 2 ^ 64)) (k - 1)

pub turn : {v r rest : ℕ} (k o : ℕ) → 0 < k → Left v r rest k → (o ≡ spaced_octet (rest / 2 ^ ((k - 1) * 8))) × (rest / 2 ^ ((k - 1) * 8) < 256 → o < 256) → Turn v r rest k o
turn zero o h x y = absurd (omega arith)
turn (suc k) o h x y =
    let e : suc k - 1 ≡ k = omega arith in
    let z = rw (e, pow-octets k) at y in
    let b : o < 256 = z.1 (top x) in
    record { fits = left-fits x b; next = rw (e, one_shl (k * 8) (omega (arith, x.few)), pow-octets k) (left-next x z.0 b) }

---------------------------------------------------------------- the texts

octet-spaced : (u : ℕ) → u < 16 → spaced_octet (48 + u) ≡ cond (eqb u 0) 32 (47 + u)
unfolding spaced_octet
octet-spaced zero h = refl
octet-spaced (suc u) h =
    let p : eqb (48 + suc u) 0 ≡ false = ne_eqb (48 + suc u) 0 (omega arith) in
    let q : eqb (48 + suc u) 48 ≡ false = ne_eqb (48 + suc u) 48 (omega arith) in
    let r : eqb (suc u) 0 ≡ false = ne_eqb (suc u) 0 (omega arith) in
    rw (p, q, r) (omega arith)

below : (k : ℕ) (us : List ℕ) → All (λ u. u < 16) us → octets k (coded 48 us) < 256 ^ k
unfolding octets coded
below zero us a = omega arith
below (suc k) [] a = octets_pos (suc k)
below (suc k) (u ∷ us) a = rw (pow-succ' 256 k) (digits_lt (omega (arith, a.0)) (below k us a.1))

none-spaced : (k : ℕ) → spaced_octets k 0 ≡ 0
unfolding spaced_octets spaced_octet
none-spaced zero = refl
none-spaced (suc k) = rw (zero-div (256 ^ k), zero-mod (256 ^ k), none-spaced k) (omega arith)

pub octets-spaced : (k : ℕ) (us : List ℕ) → All (λ u. u < 16) us → spaced_octets k (octets k (coded 48 us)) ≡ octets k (spaced us)
unfolding octets coded spaced spaced_octets
octets-spaced zero us a = refl
octets-spaced (suc k) [] a = none-spaced (suc k)
octets-spaced (suc k) (u ∷ us) a =
    let l = below k us a.1 in
    let q : ((48 + u) * 256 ^ k + octets k (coded 48 us)) / 256 ^ k ≡ 48 + u = mul-add-div_right (octets_pos k) (48 + u) (octets k (coded 48 us)) ∙ rw (div-eq_of_lt l) (add-zero (48 + u)) in
    let r : ((48 + u) * 256 ^ k + octets k (coded 48 us)) % 256 ^ k ≡ octets k (coded 48 us) = mul-add-mod_self_right (48 + u) (256 ^ k) (octets k (coded 48 us)) ∙ mod-eq_of_lt l in
    rw (q, r, octet-spaced u a.0, octets-spaced k us a.1)
