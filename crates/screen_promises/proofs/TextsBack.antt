-- The text of records is the text that was told in them: the characters of `pack`, eight to a record, come back as they were.
use mathlib.Core.Path.{◌≡◌, refl, sym, ap, ◌∙◌}
use mathlib.Core.List.{List, [], ◌∷◌, ◌++◌}
use Prim.Native.Nat.{ℕ, zero, suc, ◌+◌, ◌*◌, ◌/◌, ◌%◌, ◌-◌, ◌^◌, ◌≤◌, ◌<◌, min}
use native.Mathlib.Nat.{one-le-pow, pow-suc, mul_assoc, mul-le-mul_right, zero-div, div-eq_of_lt, mul-add-div_right}
use native.Mathlib.Omega.{arith}
use lib.Dec.{lit≤}
use lib.Pow.{pow-add}
use lib.ListN.{length, take, drop, get_or}
use lib.Seq.{get_or-drop, drop-drop, take-suc, take-length}
use Rattle.atn.specs.Reading.{Rec, rec, octets, packs, pack}
use Rattle.record_views.specs.View.{fetched}
use Rattle.screen_records.specs.Fields.{value, second, text_length, character, characters, text}

-- each is below 256, and behind the end there are zeros
abbrev pub Bytes : List ℕ → Type 0
Bytes cs = (i : ℕ) → get_or cs i 0 < 256

some-octets : (k : ℕ) → 0 < 256 ^ k
some-octets k = one-le-pow k 256 (lit≤ tt)

product : (x y p : ℕ) → x < 256 → y < p → x * p + y < p * 256
product x y p l h = let m : x ≤ 255 = omega arith in omega (arith, mul-le-mul_right p m)

octets-below : (k : ℕ) (cs : List ℕ) → Bytes cs → octets k cs < 256 ^ k
unfolding octets
octets-below zero cs b = omega arith
octets-below (suc k) [] b = some-octets (suc k)
octets-below (suc k) (c ∷ cs) b = rw (pow-suc 256 k) (product c (octets k cs) (256 ^ k) (b 0) (octets-below k cs (λ i. b (suc i))))

-- what stands higher is left out
lower : (c a p o : ℕ) → 0 < p → (c * (a * 256 * p) + o) / p % 256 ≡ o / p % 256
lower c a p o h =
    let e : c * (a * 256 * p) ≡ c * a * 256 * p = sym (mul_assoc c (a * 256) p) ∙ ap (λ (x : ℕ). x * p) (sym (mul_assoc c a 256)) in
    rw (e, mul-add-div_right h (c * a * 256) o) (omega arith)

-- octet j, from the highest on, with k behind it
octet : (k j : ℕ) (cs : List ℕ) → Bytes cs → octets (j + suc k) cs / 256 ^ k % 256 ≡ get_or cs j 0
unfolding octets
octet k zero [] b = let e : 0 + suc k ≡ suc k = omega arith in rw (e, zero-div)
octet k zero (c ∷ cs) b =
    let e : 0 + suc k ≡ suc k = omega arith in
    rw (e, mul-add-div_right (some-octets k) c (octets k cs), div-eq_of_lt (octets-below k cs (λ i. b (suc i)))) (omega (arith, b 0))
octet k (suc j) [] b = let e : suc j + suc k ≡ suc (j + suc k) = omega arith in rw (e, zero-div)
octet k (suc j) (c ∷ cs) b =
    let e : suc j + suc k ≡ suc (j + suc k) = omega arith in
    let f : j + suc k ≡ suc j + k = omega arith in
    let p : 256 ^ (j + suc k) ≡ 256 ^ j * 256 * 256 ^ k = ap (λ (x : ℕ). 256 ^ x) f ∙ pow-add 256 (suc j) k ∙ ap (λ (x : ℕ). x * 256 ^ k) (pow-suc 256 j) in
    rw (e, p) (lower c (256 ^ j) (256 ^ k) (octets (j + suc k) cs) (some-octets k) ∙ octet k j cs (λ i. b (suc i)))

-- the shift to an octet of eight
eighth : (j : ℕ) → j < 8 → (o : ℕ) → o / 2 ^ (56 - j * 8) ≡ o / 256 ^ (7 - j)
eighth zero h o = refl
eighth (suc zero) h o = refl
eighth (suc (suc zero)) h o = refl
eighth (suc (suc (suc zero))) h o = refl
eighth (suc (suc (suc (suc zero)))) h o = refl
eighth (suc (suc (suc (suc (suc zero))))) h o = refl
eighth (suc (suc (suc (suc (suc (suc zero)))))) h o = refl
eighth (suc (suc (suc (suc (suc (suc (suc zero))))))) h o = refl
eighth (suc (suc (suc (suc (suc (suc (suc (suc j)))))))) h o = absurd (omega arith)

-- record i of a text
record-at : (t m q n k i : ℕ) (cs : List ℕ) (S : List Rec) → i < k → get_or (packs t m q n k cs ++ S) i (rec 0 0 0 0 0) ≡ rec t m (octets 8 (drop (i * 8) cs)) n q
unfolding packs
record-at t m q n zero i cs S h = absurd (omega arith)
record-at t m q n (suc k) zero cs S h = refl
record-at t m q n (suc k) (suc i) cs S h =
    let e : 8 + i * 8 ≡ suc i * 8 = omega arith in
    record-at t m q n k i (drop 8 cs) S (omega arith) ∙ rw (drop-drop (i * 8) 8 cs, e)

module _ (t m q : ℕ) (cs : List ℕ) (S : List Rec) (some : 1 ≤ length cs) (few : length cs ≤ 32) (b : Bytes cs) where
  abbrev told : List Rec
  told = pack t m q cs ++ S

  its_record : (i : ℕ) → i < (length cs + 7) / 8 → get_or told i (rec 0 0 0 0 0) ≡ rec t m (octets 8 (drop (i * 8) cs)) (length cs) q
  unfolding pack
  its_record i h = record-at t m q (length cs) ((length cs + 7) / 8) i cs S h

  its_value : (i : ℕ) → i < (length cs + 7) / 8 → value told i ≡ octets 8 (drop (i * 8) cs)
  unfolding value
  its_value i h = ap (λ (r : Rec). (fetched r).value) (its_record i h)

  its_length : second told 0 ≡ length cs
  unfolding second
  its_length = ap (λ (r : Rec). (fetched r).second) (its_record 0 (omega arith))

  its_character : (j : ℕ) → j < length cs → character told j ≡ get_or cs j 0
  unfolding character
  its_character j h =
      let r : j % 8 < 8 = omega arith in
      let e : 8 ≡ j % 8 + suc (7 - j % 8) = omega arith in
      let f : j / 8 * 8 + j % 8 ≡ j = omega arith in
      let d = drop (j / 8 * 8) cs in
      rw (its_value (j / 8) (omega arith)) (ap (λ (x : ℕ). x % 256) (eighth (j % 8) r (octets 8 d))
      ∙ ap (λ (k : ℕ). octets k d / 256 ^ (7 - j % 8) % 256) e
      ∙ octet (7 - j % 8) (j % 8) d (λ i. rw get_or-drop (b (j / 8 * 8 + i)))
      ∙ rw (get_or-drop, f))

  its_characters : (k : ℕ) → k ≤ length cs → characters told k ≡ take k cs
  unfolding characters
  its_characters zero h = refl
  its_characters (suc k) h = rw (its_characters k (omega arith), its_character k (omega arith)) (sym (take-suc cs k 0 (omega arith)))

  pub text_back : text told ≡ cs
  unfolding text text_length
  text_back =
      let e : min (length cs) 32 ≡ length cs = omega arith in
      rw (its_length, e) (its_characters (length cs) (omega arith) ∙ take-length cs)
