-- Characters are got from a word just where it is their octets.
use mathlib.Core.Path.{◌≡◌, refl, sym, ap, ◌∙◌}
use mathlib.Core.Bool.{◌&&◌}
use mathlib.Core.List.{List, [], ◌∷◌}
use Prim.Native.Nat.{ℕ, zero, suc, ◌+◌, ◌-◌, ◌*◌, ◌/◌, ◌%◌, ◌^◌, ◌≤◌, ◌<◌, min}
use native.Mathlib.Omega.{arith}
use native.Mathlib.Nat.{mod-eq_of_lt, div-eq_of_lt, mul-add-div_right, mul-add-mod_self_right, pow-succ', one-le-pow, add-zero, div-add-mod'}
use lib.ListN.{length, take}
use lib.Dec.{leb, ltb, eqb}
use lib.Arith.{digits_lt}
use borrow.Author.Tests.{ltb-true, leb-true, eqb-true, lt-ltb, le-leb}
use Rattle.x691.specs.Range.{All}
use Rattle.atn.specs.Reading.{octets, coded}
use Rattle.atn.proofs.Inverse.{both}
use Rattle.record_lists.specs.Items.{Item}
use Rattle.record_lists.specs.Parse.{got, feed, turn}
use Rattle.write_texts.specs.Letters.{in_octet, in_word}
use Rattle.record_lists.proofs.Forth.{nothing, cond_inv, feed_inv, turn_inv}

---------------------------------------------------------------- one octet

octet_inv : (n c x : ℕ) (R : List Item) {u : ℕ} {S : List Item} → in_octet n c x R ≡ got u S → (S ≡ R) × (x ≡ c + u) × (u < n)
unfolding in_octet
octet_inv n c x R {u} h =
    let a = cond_inv (leb c x && ltb (x - c) n) (got (x - c) R) h in
    let d = both (leb c x) (ltb (x - c) n) a.0 in
    let f = leb-true c x d.0 in
    let g = ltb-true (x - c) n d.1 in
    let q = a.1 in
    let e : x - c ≡ u = cc in
    (cc, omega arith, omega arith)

octet_go : (n c u : ℕ) (R : List Item) → u < n → in_octet n c (c + u) R ≡ got u R
unfolding in_octet
octet_go n c u R h =
    let e : c + u - c ≡ u = omega arith in
    rw (e, le-leb c (c + u) (omega arith), lt-ltb u n h)

---------------------------------------------------------------- a word

empty-octets : (k : ℕ) → octets k [] ≡ 0
unfolding octets
empty-octets zero = refl
empty-octets (suc k) = refl

abbrev Spelt : ℕ → ℕ → ℕ → ℕ → ℕ → List Item → List ℕ → List Item → Type 0
Spelt n c j k w R v S = (S ≡ R) × (length v ≡ j) × All (λ u. u < n) v × (w ≡ octets k (coded c v))

join : (w d : ℕ) {x r : ℕ} → w / d ≡ x → w % d ≡ r → w ≡ x * d + r
join w d p q = sym (div-add-mod' w d) ∙ rw (p, q)

pub word_inv : (n c j k w : ℕ) (R : List Item) {v : List ℕ} {S : List Item} → in_word n c j k w R ≡ got v S → Spelt n c j k w R v S
unfolding in_word octets coded
word_inv n c zero k w R {v} h =
    let a = cond_inv (eqb w 0) (got [] R) h in
    let q = a.1 in
    let e : v ≡ [] = cc in
    rw e (cc, refl, tt, eqb-true w 0 a.0 ∙ sym (empty-octets k))
word_inv n c (suc j) zero w R h = nothing h
word_inv n c (suc j) (suc k) w R h =
    let a = feed_inv (in_octet n c (w / 256 ^ k) R) _ h in
    let x = octet_inv n c (w / 256 ^ k) R a.2 in
    let b = turn_inv _ (in_word n c j k (w % 256 ^ k) a.1) a.3 in
    let y = word_inv n c j k (w % 256 ^ k) a.1 b.1 in
    rw b.2 (y.0 ∙ x.0, ap suc y.1, (x.2, y.2), join w (256 ^ k) x.1 y.3)

octets_pos : (k : ℕ) → 0 < 256 ^ k
octets_pos k = one-le-pow k 256 (omega arith)

octets-lt : (c n k : ℕ) (v : List ℕ) → c + n ≤ 256 → All (λ u. u < n) v → octets k (coded c v) < 256 ^ k
unfolding octets coded
octets-lt c n zero v h a = omega arith
octets-lt c n (suc k) [] h a = octets_pos (suc k)
octets-lt c n (suc k) (u ∷ v) h a = rw (pow-succ' 256 k) (digits_lt (omega (arith, h, a.0)) (octets-lt c n k v h a.1))

pub word_go : (n c j k : ℕ) (v : List ℕ) (R : List Item) → c + n ≤ 256 → All (λ u. u < n) v → j ≡ min k (length v) → in_word n c j k (octets k (coded c v)) R ≡ got (take k v) R
unfolding in_word octets coded feed turn
word_go n c zero zero v R h a e = refl
word_go n c (suc j) zero v R h a e = absurd (omega arith)
word_go n c zero (suc k) [] R h a e = refl
word_go n c zero (suc k) (u ∷ v) R h a e = absurd (omega arith)
word_go n c (suc j) (suc k) [] R h a e = absurd (omega arith)
word_go n c (suc j) (suc k) (u ∷ v) R h a e =
    let l = octets-lt c n k v h a.1 in
    let q : ((c + u) * 256 ^ k + octets k (coded c v)) / 256 ^ k ≡ c + u = mul-add-div_right (octets_pos k) (c + u) (octets k (coded c v)) ∙ rw (div-eq_of_lt l) (add-zero (c + u)) in
    let r : ((c + u) * 256 ^ k + octets k (coded c v)) % 256 ^ k ≡ octets k (coded c v) = mul-add-mod_self_right (c + u) (256 ^ k) (octets k (coded c v)) ∙ mod-eq_of_lt l in
    rw (q, r, octet_go n c u R a.0, word_go n c j k v R h a.1 (omega arith))
