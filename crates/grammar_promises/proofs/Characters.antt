-- The words in which a reading tells characters are words of characters.
use mathlib.Core.Path.{◌≡◌, refl, sym, ap, ◌∙◌}
use mathlib.Core.Bool.{Bool, true, false, ◌&&◌}
use mathlib.Core.List.{List, [], ◌∷◌}
use Prim.Native.Nat.{ℕ, zero, suc, ◌+◌, ◌-◌, ◌*◌, ◌/◌, ◌%◌, ◌^◌, ◌≤◌, ◌<◌}
use native.Mathlib.Nat.{zero-add, pow-suc, div-div-eq-div-mul, mul-add-div_right, mul_comm, div-eq_of_lt}
use native.Mathlib.Omega.{arith}
use lib.ListN.{length}
use borrow.Author.Tests.{lt-ltb, ne_eqb}
use Rattle.x691.specs.Range.{All}
use Rattle.atn.specs.Reading.{octets}
use Rattle.atn.proofs.Texts.{octets_pos, octets-lt}
use Rattle.record_grammar.specs.Octets.{octet_fits, octet_or, octets_fit, characters_fit}

---------------------------------------------------------------- the highest octet

and_assoc : (a b c : Bool) → a && (b && c) ≡ (a && b) && c
and_assoc true b c = refl
and_assoc false b c = refl

and-true : (a : Bool) → a && true ≡ a
and-true true = refl
and-true false = refl

-- the octets of a number, the highest of them apart
fit_high : (rule k spare u c r : ℕ) → c < 256 → r < 256 ^ k → octets_fit rule spare (suc k) u (c * 256 ^ k + r) ≡ octets_fit rule spare k u r && octet_or rule (spare - k) (u / 256 ^ k % 256) c
unfolding octets_fit
fit_high rule zero spare u c r h l =
    let e : (c * 1 + r) % 256 ≡ c = omega arith in
    let f : spare - 0 ≡ spare = omega arith in
    let g : u / 1 ≡ u = omega arith in
    rw (e, f, g) (and-true _)
fit_high rule (suc k) spare u c r h l =
    let p : r < 256 ^ k * 256 = rw pow-suc at l in
    let v : c * 256 ^ suc k ≡ c * 256 ^ k * 256 = rw pow-suc (omega arith) in
    let e : (c * 256 ^ suc k + r) % 256 ≡ r % 256 = rw v (omega arith) in
    let f : (c * 256 ^ suc k + r) / 256 ≡ c * 256 ^ k + r / 256 = rw v (omega arith) in
    let g : spare - 1 - k ≡ spare - suc k = omega arith in
    let d : u / 256 / 256 ^ k ≡ u / 256 ^ suc k = div-div-eq-div-mul u 256 (256 ^ k) ∙ ap (λ n. u / n) (mul_comm 256 (256 ^ k) ∙ sym (pow-suc 256 k)) in
    rw (e, f) (ap (λ t. octet_or rule spare (u % 256) (r % 256) && t) (rw (g, d) at (fit_high rule k (spare - 1) (u / 256) c (r / 256) h (omega arith))) ∙ and_assoc (octet_or rule spare (u % 256) (r % 256)) (octets_fit rule (spare - 1) k (u / 256) (r / 256)) (octet_or rule (spare - suc k) (u / 256 ^ suc k % 256) c))

---------------------------------------------------------------- words of characters

pub octets-none : (k : ℕ) → octets k [] ≡ 0
unfolding octets
octets-none zero = refl
octets-none (suc k) = refl

abbrev pub Bytes : List ℕ → Type 0
Bytes cs = All (λ c. c < 256) cs

-- octets that are all spare
fit_spare : (rule n k u : ℕ) → k ≤ n → octets_fit rule n k u 0 ≡ true
unfolding octets_fit octet_or
fit_spare rule n zero u h = refl
fit_spare rule (suc n) (suc k) u h = let e : suc n - 1 ≡ n = omega arith in rw (e, ne_eqb (suc n) 0 (λ q. absurd (omega arith))) (fit_spare rule n k (u / 256) (omega arith))
fit_spare rule zero (suc k) u h = absurd (omega arith)

-- the first k characters by the rule, each by the one at its place in the other word
unfoldable pub fit_all : ℕ → ℕ → List ℕ → List ℕ → Bool
fit_all rule zero ds cs = true
fit_all rule (suc k) ds [] = true
fit_all rule (suc k) [] (c ∷ cs) = fit_all rule k [] cs && octet_fits rule 0 c
fit_all rule (suc k) (d ∷ ds) (c ∷ cs) = fit_all rule k ds cs && octet_fits rule d c

-- the digit above k octets
digit-above : (k a d w : ℕ) → d < 256 → w < 256 ^ k → ((a * 256 + d) * 256 ^ k + w) / 256 ^ k % 256 ≡ d
digit-above k a d w h l = rw (mul-add-div_right (octets_pos k) (a * 256 + d) w, div-eq_of_lt l) (omega arith)

fit_or : (rule a c : ℕ) → octet_or rule 0 a c ≡ octet_fits rule a c
unfolding octet_or
fit_or rule a c = refl

pub fit_all_lem : (rule k a : ℕ) (ds cs : List ℕ) → Bytes ds → Bytes cs → octets_fit rule (k - length cs) k (a * 256 ^ k + octets k ds) (octets k cs) ≡ fit_all rule k ds cs
unfolding fit_all octets
fit_all_lem rule zero a ds cs hd hc = unfold octets_fit in refl
fit_all_lem rule (suc k) a ds [] hd hc = fit_spare rule (suc k - 0) (suc k) _ (omega arith)
fit_all_lem rule (suc k) a [] (c ∷ cs) hd hc =
    let v : a * 256 ^ suc k + 0 ≡ (a * 256 + 0) * 256 ^ k + octets k [] = rw (pow-suc, octets-none) (omega arith) in
    let e : suc k - suc (length cs) ≡ k - length cs = omega arith in
    let z : k - length cs - k ≡ 0 = omega arith in
    rw (v, e) (fit_high rule k (k - length cs) ((a * 256 + 0) * 256 ^ k + octets k []) c (octets k cs) hc.0 (octets-lt k cs hc.1) ∙ rw (z, digit-above k a 0 (octets k []) (omega arith) (octets-lt k [] tt), fit_or, fit_all_lem rule k (a * 256 + 0) [] cs tt hc.1) refl)
fit_all_lem rule (suc k) a (d ∷ ds) (c ∷ cs) hd hc =
    let v : a * 256 ^ suc k + (d * 256 ^ k + octets k ds) ≡ (a * 256 + d) * 256 ^ k + octets k ds = rw pow-suc (omega arith) in
    let e : suc k - suc (length cs) ≡ k - length cs = omega arith in
    let z : k - length cs - k ≡ 0 = omega arith in
    rw (v, e) (fit_high rule k (k - length cs) ((a * 256 + d) * 256 ^ k + octets k ds) c (octets k cs) hc.0 (octets-lt k cs hc.1) ∙ rw (z, digit-above k a d (octets k ds) hd.0 (octets-lt k ds hd.1), fit_or, fit_all_lem rule k (a * 256 + d) ds cs hd.1 hc.1) refl)

-- a word of characters, by another word
pub characters-fit : (rule : ℕ) (ds cs : List ℕ) → Bytes ds → Bytes cs → characters_fit rule (length cs) (octets 8 ds) (octets 8 cs) ≡ fit_all rule 8 ds cs
unfolding characters_fit
characters-fit rule ds cs hd hc = rw zero-add at (fit_all_lem rule 8 0 ds cs hd hc)

---------------------------------------------------------------- IA5

pub ascii_fit : (k : ℕ) (cs : List ℕ) → All (λ c. c < 128) cs → fit_all 0 k [] cs ≡ true
unfolding fit_all octet_fits
ascii_fit zero cs h = refl
ascii_fit (suc k) [] h = refl
ascii_fit (suc k) (c ∷ cs) h = rw (ascii_fit k cs h.1, lt-ltb c 128 h.0) refl

pub bytes_below : (n : ℕ) (cs : List ℕ) → n ≤ 256 → All (λ c. c < n) cs → Bytes cs
bytes_below n [] l h = tt
bytes_below n (c ∷ cs) l h = (omega (arith, h.0), bytes_below n cs l h.1)
