-- How what is told goes together, over any records.
use Rattle.std.proofs.Common.{◌≡◌, ℕ, suc, ◌+◌, ◌%◌, ◌^◌, ◌<◌, ◌≤◌, List, [], ◌∷◌, ◌++◌, length, take, sym, refl, ap, ◌∙◌, append_assoc, append-nil, add-zero, arith, length-append, take-take}
use Rattle.atn.specs.Reading.{Rec}
use Rattle.atn.specs.Entries.{flat}
use Rattle.records.specs.Space.{space}
use Rattle.records.specs.Told.{Told}
use Rattle.records.proofs.Sizes.{flat_append, space_grows, space-zero}

pub told_none : {w : List ℕ} {n : ℕ} → Told 0 w w n n []
unfolding flat
told_none {w} {n} = record { count = sym (add-zero n); few = omega arith; room = refl; before = refl; words = λ _. sym (append-nil (take (space n) w)) }

-- without room for all of them nothing need be written
pub told_unwritten : {w : List ℕ} {n : ℕ} (rs : List Rec) → length w < space (n + length rs) → Told (length rs) w w n (n + length rs) rs
told_unwritten rs h = record { count = refl; few = omega arith; room = refl; before = refl; words = λ f. absurd (omega arith) }

-- words that are alike up to the space of m are alike up to that of n
shorter : (w w' : List ℕ) (n m : ℕ) → n ≤ m → take (space m) w' ≡ take (space m) w → take (space n) w' ≡ take (space n) w
shorter w w' n m h e =
    let l : space n ≤ space m = space_grows h in
    sym (take-take (space n) (space m) w' l) ∙ ap (λ (x : List ℕ). take (space n) x) e ∙ take-take (space n) (space m) w l

pub told-then : {j k : ℕ} {w w₁ w₂ : List ℕ} {n m l : ℕ} {rs ss : List Rec}
    → Told j w w₁ n m rs → Told k w₁ w₂ m l ss → Told (j + k) w w₂ n l (rs ++ ss)
told-then {w = w} {w₁ = w₁} {w₂ = w₂} {n = n} {m = m} {l = l} {rs = rs} {ss = ss} p q =
    let h : n ≤ m = omega (arith, p.count) in
    let g : space m ≤ space l = space_grows (omega (arith, q.count)) in
    record {
      count = simp length-append (omega (arith, p.count, q.count));
      few = omega (arith, p.few, q.few);
      room = q.room ∙ p.room;
      before = shorter w₁ w₂ n m h q.before ∙ p.before;
      words =
          λ f.
          q.words (omega (arith, p.room)) ∙ ap (λ (x : List ℕ). x ++ flat ss) (p.words (omega arith))
          ∙ append_assoc (take (space n) w) (flat rs) (flat ss) ∙ ap (λ (x : List ℕ). take (space n) w ++ x) (sym (flat_append rs ss));
    }

-- a wider bound
pub told-within : {j : ℕ} (k : ℕ) {w w' : List ℕ} {n m : ℕ} {rs : List Rec} → j ≤ k → Told j w w' n m rs → Told k w w' n m rs
told-within k h p = record { count = p.count; few = omega (arith, p.few); room = p.room; before = p.before; words = p.words }

pub told-length : {k : ℕ} {w w' : List ℕ} {n m : ℕ} {rs : List Rec} → Told k w w' n m rs → length w' ≡ length w
told-length p = p.room

-- what is told and then dropped is as if it had not been told
pub told_dropped : {k : ℕ} {w w' : List ℕ} {n m : ℕ} {rs : List Rec} → Told k w w' n m rs → Told 0 w w' n n []
unfolding flat
told_dropped {w = w} {n = n} p = record { count = sym (add-zero n); few = omega arith; room = p.room; before = p.before; words = λ _. p.before ∙ sym (append-nil (take (space n) w)) }

-- from the front on: where they fit, the records are the first of the words
pub told-first : {k : ℕ} {w w' : List ℕ} {m : ℕ} {rs : List Rec} → Told k w w' 0 m rs → space m ≤ length w → take (space m) w' ≡ flat rs
told-first {w = w} {rs = rs} p h = p.words h ∙ ap (λ (k : ℕ). take k w ++ flat rs) space-zero

-- room for j records more than the m that are there: what `store` asks for the next, and behind it room for the others
pub record Room (j m : ℕ) (w : List ℕ) : Type 0 where
  pub few : m + j ≤ 2 ^ 32
  pub enough : space (m + j) ≤ length w

pub room_next : {j : ℕ} (m : ℕ) {w : List ℕ} → Room (suc j) m w → (m < 2 ^ 32) × (space (m + 1) ≤ length w)
room_next {j} m r =
    let l : m + 1 ≤ m + suc j = omega arith in
    (omega (arith, r.few), omega (arith, r.enough, space_grows l))

pub room-behind : {j m m' : ℕ} {w w' : List ℕ} {r : Rec} → Room (suc j) m w → Told 1 w w' m m' (r ∷ []) → Room j m' w'
room-behind {j} {m} {m'} r t =
    let e : m' + j ≡ m + suc j = omega (arith, t.count) in
    record { few = rw e r.few; enough = rw e (omega (arith, r.enough, t.room)) }

-- a place k bits behind one that is m bits behind b: each is a word
pub place-behind : (b m k : ℕ) {p q : ℕ} → p ≡ (b + m) % 2 ^ 64 → q ≡ (p + k) % 2 ^ 64 → q ≡ (b + (m + k)) % 2 ^ 64
place-behind b m k h i = omega arith
