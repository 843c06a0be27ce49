-- Records that were told are told with their places moved.
use Rattle.std.proofs.Common.{◌≡◌, ℕ, zero, suc, ◌+◌, ◌-◌, ◌%◌, ◌^◌, ◌<◌, ◌≤◌, List, [], ◌∷◌, ◌++◌, length, get_or, take, drop, sym, refl, ap, ◌∙◌, append_assoc, arith, length-append, length-set, take-append-drop, length-take-le, take_at}
use lib.Seq.{set_out, set_at, get_or_at, take-set-le}
use Rattle.atn.specs.Reading.{Rec, rec, word}
use Rattle.atn.specs.Entries.{flat, need}
use Rattle.atn.specs.Places.{Rising}
use Rattle.atn.proofs.Places.{rising_ends}
use Rattle.atn.proofs.Shift.{displaced}
use Rattle.atn.proofs.Outcomes.{flat-need}
use Rattle.records.specs.Space.{size, space}
use Rattle.records.specs.Told.{Told}
use Rattle.records.specs.Moves.{relocated, raised, raised_places}
use Rattle.records.proofs.Sizes.{need-space}

---------------------------------------------------------------- words

pub raised-length : (a k i : ℕ) (w : List ℕ) → length (raised_places a k i w) ≡ length w
unfolding raised_places raised
raised-length a zero i w = refl
raised-length a (suc k) i w = raised-length a k (i + size) _ ∙ length-set w (i + 4) _

-- what stands before them stays
raised-before : (a k i n : ℕ) (w : List ℕ) → n ≤ i → take n (raised_places a k i w) ≡ take n w
unfolding raised_places raised
raised-before a zero i n w l = refl
raised-before a (suc k) i n w l = raised-before a k (i + size) n _ (omega arith) ∙ take-set-le n w (i + 4) _ (omega arith)

-- those of k records, then those of j more
pub raised-then : (a k j i : ℕ) (w : List ℕ) → raised_places a (k + j) i w ≡ raised_places a j (i + space k) (raised_places a k i w)
unfolding raised_places space size need
raised-then a zero j i w =
    let e : zero + j ≡ j = omega arith in
    let g : i + space zero ≡ i = omega arith in
    rw (e, g) refl
raised-then a (suc k) j i w =
    let e : suc k + j ≡ suc (k + j) = omega arith in
    let g : i + space (suc k) ≡ i + size + space k = omega arith in
    rw (e, g) (raised-then a k j (i + size) (raised a w (i + 4)))

-- none, or none with room: there is nothing to move
pub raised_out : (a k i : ℕ) (w : List ℕ) → (0 < k → length w ≤ i + 4) → raised_places a k i w ≡ w
unfolding raised_places raised
raised_out a zero i w l = refl
raised_out a (suc k) i w l =
    let o : length w ≤ i + 4 = l (omega arith) in
    rw (set_out w (i + 4) (word (a + get_or w (i + 4) 0)) o) (raised_out a k (i + size) w (λ _. omega arith))

raised-one : (a t m v s q : ℕ) (p r : List ℕ) (i : ℕ) → length p ≡ i → raised a (p ++ (t ∷ m ∷ v ∷ s ∷ q ∷ r)) (i + 4) ≡ (p ++ (t ∷ m ∷ v ∷ s ∷ word (a + q) ∷ [])) ++ r
unfolding raised
raised-one a t m v s q p r i l =
    let f : List ℕ = p ++ (t ∷ m ∷ v ∷ s ∷ []) in
    let n : length f ≡ i + 4 = length-append p (t ∷ m ∷ v ∷ s ∷ []) ∙ ap (λ (k : ℕ). k + 4) l in
    ap (λ (w : List ℕ). raised a w (i + 4)) (sym (append_assoc p (t ∷ m ∷ v ∷ s ∷ []) (q ∷ r)))
    ∙ rw (get_or_at f q r 0 (i + 4) n) (set_at f q r (word (a + q)) (i + 4) n)
    ∙ append_assoc p (t ∷ m ∷ v ∷ s ∷ []) (word (a + q) ∷ r)
    ∙ sym (append_assoc p (t ∷ m ∷ v ∷ s ∷ word (a + q) ∷ []) r)

-- the words of records become those of the records moved
raised-flat : (a : ℕ) (R : List Rec) (p r : List ℕ) (i : ℕ) → length p ≡ i → raised_places a (length R) i (p ++ (flat R ++ r)) ≡ p ++ (flat (relocated a R) ++ r)
unfolding raised_places relocated flat size need
raised-flat a [] p r i l = refl
raised-flat a (rec t m v s q ∷ R) p r i l =
    let g : List ℕ = p ++ (t ∷ m ∷ v ∷ s ∷ word (a + q) ∷ []) in
    let n : length g ≡ i + 5 = length-append p (t ∷ m ∷ v ∷ s ∷ word (a + q) ∷ []) ∙ ap (λ (k : ℕ). k + 5) l in
    ap (λ (w : List ℕ). raised_places a (length R) (i + 5) w) (raised-one a t m v s q p (flat R ++ r) i l)
    ∙ raised-flat a R g r (i + 5) n
    ∙ append_assoc p (t ∷ m ∷ v ∷ s ∷ word (a + q) ∷ []) (flat (relocated a R) ++ r)

---------------------------------------------------------------- records

relocated-length : (a : ℕ) (R : List Rec) → length (relocated a R) ≡ length R
unfolding relocated
relocated-length a [] = refl
relocated-length a (rec t m v s q ∷ R) = ap suc (relocated-length a R)

space-add : (n k : ℕ) → space (n + k) ≡ space n + space k
unfolding space size need
space-add n k = omega arith

pub told_moved : {b : ℕ} {w w₁ : List ℕ} {n m : ℕ} {R : List Rec} (a : ℕ) → Told b w w₁ n m R → Told b w (raised_places a (m - n) (space n) w₁) n m (relocated a R)
told_moved {w = w} {w₁} {n} {m} {R} a x =
    let c = x.count in
    let k : length (relocated a R) ≡ length R = relocated-length a R in
    record {
      count = omega arith;
      few = x.few;
      room = raised-length a (m - n) (space n) w₁ ∙ x.room;
      before = raised-before a (m - n) (space n) (space n) w₁ (omega arith) ∙ x.before;
      words =
          λ f.
          let s : space m ≡ space n + space (length R) = ap space c ∙ space-add n (length R) in
          let d : m - n ≡ length R = omega arith in
          let p : List ℕ = take (space n) w in
          let r : List ℕ = drop (space m) w₁ in
          let l : length p ≡ space n = length-take-le (space n) w (omega arith) in
          let e : w₁ ≡ p ++ (flat R ++ r) = sym (take-append-drop (space m) w₁) ∙ ap (λ (z : List ℕ). z ++ r) (x.words f) ∙ append_assoc p (flat R) r in
          let y : length (p ++ flat (relocated a R)) ≡ space m = length-append p (flat (relocated a R)) ∙ rw (l, flat-need (relocated a R) ∙ need-space (relocated a R), k) (sym s) in
          ap (take (space m)) (rw d (ap (raised_places a (length R) (space n)) e) ∙ raised-flat a R p r (space n) l ∙ sym (append_assoc p (flat (relocated a R)) r)) ∙ take_at (p ++ flat (relocated a R)) r (space m) y;
    }

-- places that rise to a place below 2^64 are moved as numbers
pub relocated_displaced : (a lo hi : ℕ) (R : List Rec) → Rising lo R hi → a + hi < 2 ^ 64 → relocated a R ≡ displaced a R
unfolding relocated displaced Rising word
relocated_displaced a lo hi [] h l = refl
relocated_displaced a lo hi (rec t m v s q ∷ R) h l =
    let e : (a + q) % 2 ^ 64 ≡ a + q = (let k = rising_ends q hi R h.1 in omega arith) in
    rw (relocated_displaced a q hi R h.1 l, e)
