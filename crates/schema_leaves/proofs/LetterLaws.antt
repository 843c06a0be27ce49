-- The records of a text, one after another, and eight characters as one number.
use Rattle.std.proofs.Common.{◌≡◌, ℕ, zero, suc, ◌+◌, ◌-◌, ◌*◌, ◌/◌, ◌^◌, ◌<◌, ◌≤◌, Bool, true, false, ltb, List, [], ◌∷◌, length, get_or, take, drop, sym, refl, ap, ◌∙◌, suc-mul, suc-add, zero-mul, arith, get_or-take, ltb-false, ltb-true}
use lib.Seq.{drop-nil}
use Rattle.x691.specs.Bits.{bit_of, uint}
use Rattle.atn.specs.Reading.{Rec, rec, octets, packs, pack, units}
use Rattle.atn.specs.Entries.{flat, need}
use Rattle.records.specs.Space.{size, space}
use Rattle.records.specs.Told.{Told}
use Rattle.records.proofs.Telling.{told-first}
use Rattle.character_strings.specs.Texts.{text_recs, InFrame}
use Rattle.schema_tables.specs.Entry.{top}
use Rattle.capped_records.specs.Place.{counted, place, Put}
use Rattle.capped_records.proofs.PlaceLaws.{place-capped, one-length, counted_none, counted-then}
use Rattle.schema_leaves.specs.Came.{Placed}

module _ (b : ℕ → ℕ) (w : ℕ) where
  pub units-length : (q n : ℕ) → length (units b w q n) ≡ n
  unfolding units
  units-length q zero = refl
  units-length q (suc n) = ap suc (units-length (q + w) n)

  units-drop : (k q n : ℕ) → drop k (units b w q n) ≡ units b w (q + k * w) (n - k)
  unfolding units
  units-drop zero q n = let e : q + 0 * w ≡ q = omega (arith, zero-mul w) in let f : n - 0 ≡ n = omega arith in rw (e, f)
  units-drop (suc k) q zero = let f : 0 - suc k ≡ 0 = omega arith in rw (f, drop-nil)
  units-drop (suc k) q (suc n) =
      let e : q + w + k * w ≡ q + suc k * w = omega (arith, suc-mul k w) in
      let f : suc n - suc k ≡ n - k = omega arith in
      units-drop k (q + w) n ∙ rw (e, f)

  octets-first : (j q m : ℕ) → octets j (units b w q (j + m)) ≡ octets j (units b w q j)
  unfolding octets units
  octets-first zero q m = refl
  octets-first (suc j) q m = rw (suc-add j m) (ap (λ v. uint b q w * 256 ^ j + v) (octets-first j (q + w) m))

  -- eight of them, or as many as there are
  pub octets-eight : (q n k : ℕ) → k ≤ 8 → k ≤ n → (k < 8 → k ≡ n) → octets 8 (units b w q k) ≡ octets 8 (units b w q n)
  octets-eight q n k l m h = go (ltb k 8) refl
    where
      go : (t : Bool) → ltb k 8 ≡ t → octets 8 (units b w q k) ≡ octets 8 (units b w q n)
      go true e = rw (h (ltb-true k 8 e))
      go false e =
          let i : k ≡ 8 = omega (arith, ltb-false k 8 e) in
          let f : n ≡ 8 + (n - 8) = omega arith in
          rw (i, f) (sym (octets-first 8 q (n - 8)))

---------------------------------------------------------------- the records of a text

onward : (d : List ℕ) (j : ℕ) (R : List Rec) → length d ≤ top → place d (counted j 1) R ≡ place d (suc j) R
unfolding counted
onward d j R c = let e : j + 1 ≡ suc j = omega arith in rw e (place-capped d (suc j) R c)

module _ (s : List ℕ) (t start at len : ℕ) where
  -- those of the characters from i on
  abbrev pub rest : ℕ → List Rec
  rest i = packs t 0 start len ((len - i + 7) / 8) (units (bit_of s) 7 (at + i * 7) (len - i))

  rest-next : (i : ℕ) → i < len → rest i ≡ rec t 0 (octets 8 (units (bit_of s) 7 (at + i * 7) (len - i))) len start ∷ rest (i + 8)
  unfolding packs
  rest-next i h =
      let e : (len - i + 7) / 8 ≡ suc ((len - (i + 8) + 7) / 8) = omega arith in
      let f : at + i * 7 + 8 * 7 ≡ at + (i + 8) * 7 = omega arith in
      let g : len - i - 8 ≡ len - (i + 8) = omega arith in
      rw (e, units-drop (bit_of s) 7 8 (at + i * 7) (len - i), f, g)

  rest-none : (i : ℕ) → len ≤ i → rest i ≡ []
  unfolding packs
  rest-none i h = let e : (len - i + 7) / 8 ≡ 0 = omega arith in rw e

  rest_all : rest 0 ≡ pack t 0 start (units (bit_of s) 7 at len)
  unfolding pack
  rest_all =
      let e : at + 0 * 7 ≡ at = omega arith in
      let f : len - 0 ≡ len = omega arith in
      rw (e, f, units-length (bit_of s) 7 at len)

  -- the records of the characters before i are told
  pub record Upto (w w' : List ℕ) (n m i : ℕ) : Type 0 where
    pub count : counted m (length (rest i)) ≡ counted n (length (rest 0))
    pub words : place w' m (rest i) ≡ place w n (rest 0)
    pub room : length w' ≡ length w

  pub upto_none : {w : List ℕ} {n : ℕ} → Upto w w n n 0
  upto_none = record { count = refl; words = refl; room = refl }

  pub upto_more : {w w' w'' : List ℕ} {n m l i v k : ℕ} → length w ≤ top → i < len → k ≤ 8 → k ≤ len - i → (k < 8 → k ≡ len - i) → Upto w w' n m i → v ≡ octets 8 (units (bit_of s) 7 (at + i * 7) k) → Put w' w'' m l (rec t 0 v len start) → Upto w w'' n l (i + 8)
  unfolding place
  upto_more {w} {w'} {w''} {n} {m} {l} {i} {v} {k} b h x y z u e p =
      let f : v ≡ octets 8 (units (bit_of s) 7 (at + i * 7) (len - i)) = e ∙ octets-eight (bit_of s) 7 (at + i * 7) (len - i) k x y z in
      let g : rest i ≡ rec t 0 v len start ∷ rest (i + 8) = rest-next i h ∙ rw (← f) in
      let r : length w'' ≡ length w = ap length p.words ∙ one-length w' m (rec t 0 v len start) ∙ u.room in
      record {
        count = rw p.count (counted-then m 1 (length (rest (i + 8))) ∙ (let q : counted m (length (rest i)) ≡ counted m (1 + length (rest (i + 8))) = ap (λ R. counted m (length R)) g ∙ ap (counted m) (omega arith) in sym q ∙ u.count));
        words = rw p.count (onward w'' m (rest (i + 8)) (rw r b) ∙ ap (λ d. place d (suc m) (rest (i + 8))) p.words ∙ sym (ap (λ R. place w' m R) g) ∙ u.words);
        room = r;
      }

  pub upto_all : {w w' : List ℕ} {n m i : ℕ} → m ≤ top → len ≤ i → Upto w w' n m i → Placed w w' n m (pack t 0 start (units (bit_of s) 7 at len))
  unfolding place
  upto_all {w} {w'} {n} {m} {i} b h u =
      let e = rest-none i h in
      record {
        count = sym (counted_none m b) ∙ sym (ap (λ R. counted m (length R)) e) ∙ u.count ∙ ap (λ R. counted n (length R)) rest_all;
        words = sym (ap (λ R. place w' m R) e) ∙ u.words ∙ ap (λ R. place w n R) rest_all;
      }

---------------------------------------------------------------- eight characters as one number

pub spare_frame : (s : List ℕ) (at k : ℕ) → at + k * 7 ≤ length s * 8 → at + k * 7 < 2 ^ 32 → InFrame 7 s (record { from = at; at = at; len = k })
spare_frame s at k h g = record { there = h; fits = omega arith }

-- what is told of up to eight characters is one record, whose third word they are
pub spare_eight : (s : List ℕ) (at k : ℕ) {w w' : List ℕ} {m : ℕ} → 1 ≤ k → k ≤ 8 → length w ≡ 5 → Told 64 w w' 0 m (text_recs 0 0 s (record { from = at; at = at; len = k })) → get_or w' 2 0 ≡ octets 8 (units (bit_of s) 7 at k)
unfolding text_recs pack packs flat space size need
spare_eight s at k {w} {w'} {m} l h e t =
    let us : List ℕ = units (bit_of s) 7 at k in
    let n : length us ≡ k = units-length (bit_of s) 7 at k in
    let one : (k + 7) / 8 ≡ 1 = omega arith in
    let r : pack 0 0 at us ≡ rec 0 0 (octets 8 us) k at ∷ [] = rw (n, one) in
    let c : m ≡ 1 = t.count ∙ ap (λ R. 0 + length R) r in
    let f : take (space m) w' ≡ flat (pack 0 0 at us) = told-first t (rw (c, e) (omega arith)) in
    let g : take 5 w' ≡ 0 ∷ 0 ∷ octets 8 us ∷ k ∷ at ∷ [] = (rw c at f) ∙ ap flat r in
    sym (get_or-take 5 w' 2 0 (omega arith)) ∙ ap (λ d. get_or d 2 0) g
