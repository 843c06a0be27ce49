-- One turn of a change: the words before place i are done, those from it on are as they were.
use mathlib.Core.Path.{◌≡◌, refl, sym, ap, ◌∙◌}
use mathlib.Core.List.{List, [], ◌∷◌, ◌++◌, append_assoc}
use Prim.Native.Nat.{ℕ, ◌+◌, ◌*◌, ◌-◌, ◌≤◌, ◌<◌}
use native.Mathlib.Omega.{arith}
use lib.ListN.{length, take, drop, get_or, take-append-drop, length-append, length-drop}
use lib.Seq.{get_or-drop, drop-drop, length-take-le, take_at, drop_at, paste, take-paste, drop-paste}
use borrow.Author.Tests.{lt-ltb, le-ltb}
use Rattle.book_entries.specs.declared.Entry.{Entry}
use Rattle.book_entries.specs.Entries.{words, entry_at}
use Rattle.book_entries.specs.Book.{picture, entries}
use Rattle.book_entries.proofs.Places.{from, four, next_of, last, counted, pictured, picture-length, places}
use Rattle.book_changes.specs.Changes.{lower, higher, insert, vacant}

-- the words w with e at place i
abbrev pub put : List ℕ → ℕ → Entry → List ℕ
put w i e = take (i * 4) w ++ words e ++ drop (i * 4 + 4) w

front : List ℕ → Entry
front x = record { high = get_or x 0 0; low = get_or x 1 0; number = get_or x 2 0; shape = get_or x 3 0 }

front_at : (w : List ℕ) (i : ℕ) → front (drop (i * 4) w) ≡ entry_at w i
unfolding front
front_at w i =
    let e : i * 4 + 0 ≡ i * 4 = omega arith in
    rw (get_or-drop (i * 4) w 0 0, get_or-drop (i * 4) w 1 0, get_or-drop (i * 4) w 2 0, get_or-drop (i * 4) w 3 0, e)

module _ (w v : List ℕ) (i : ℕ) (same : drop (i * 4) v ≡ drop (i * 4) w) where
  pub same-entry : entry_at v i ≡ entry_at w i
  same-entry = sym (front_at v i) ∙ ap front same ∙ front_at w i

  pub same_next : drop ((i + 1) * 4) v ≡ drop ((i + 1) * 4) w
  same_next =
      let e : (i + 1) * 4 ≡ i * 4 + 4 = omega arith in
      rw (e, ← drop-drop 4 (i * 4) v, ← drop-drop 4 (i * 4) w, same)

module _ (v : List ℕ) (i : ℕ) (f : Entry) (p : i * 4 + 3 < length v) where
  done-length : length (take (i * 4) v ++ words f) ≡ (i + 1) * 4
  done-length = length-append (take (i * 4) v) (words f) ∙ omega (arith, length-take-le (i * 4) v (omega arith))

  pub put-take : take ((i + 1) * 4) (put v i f) ≡ take (i * 4) v ++ words f
  put-take = take_at (take (i * 4) v ++ words f) (drop (i * 4 + 4) v) ((i + 1) * 4) done-length

  pub put-drop : drop ((i + 1) * 4) (put v i f) ≡ drop ((i + 1) * 4) v
  put-drop =
      let e : (i + 1) * 4 ≡ i * 4 + 4 = omega arith in
      drop_at (take (i * 4) v ++ words f) (drop (i * 4 + 4) v) ((i + 1) * 4) done-length ∙ rw e

  pub put-length : length (put v i f) ≡ length v
  put-length = length-append (take (i * 4) v ++ words f) (drop (i * 4 + 4) v) ∙ omega (arith, done-length, length-drop (i * 4 + 4) v)

-- what stands at a place, put there
pub put_same : (v : List ℕ) (i : ℕ) → i * 4 + 3 < length v → v ≡ put v i (entry_at v i)
put_same v i p =
    let e : (i + 1) * 4 ≡ i * 4 + 4 = omega arith in
    sym (rw append_assoc (rw (← e, ← four v i p) (take-append-drop (i * 4) v)))

-- so many words d, then the entries E
joined : (d : List ℕ) (e : Entry) (E : List Entry) → d ++ picture (e ∷ E) ≡ d ++ words e ++ picture E
unfolding picture
joined d e E = sym (append_assoc d (words e) (picture E))

-- f is the entry at place i of w, and v the words as they are now
module _ (w v : List ℕ) (i : ℕ) (f : Entry) (p : i < length (entries w)) (is : f ≡ entry_at w i) where
  first : from w i ≡ f ∷ from w (i + 1)
  first = next_of w i p ∙ ap (λ (g : Entry). g ∷ from w (i + 1)) (sym is)

  -- the lower of c and f is put at place i
  pub inserted : (c : Entry) {x : List ℕ} → i * 4 + 3 < length v → x ≡ take (i * 4) v ++ picture (insert c (from w i)) → x ≡ take ((i + 1) * 4) (put v i (lower c f)) ++ picture (insert (higher c f) (from w (i + 1)))
  unfolding insert
  inserted c q e = rw (e, first, put-take v i (lower c f) q) (joined (take (i * 4) v) (lower c f) (insert (higher c f) (from w (i + 1))))

-- f, which is g, has a number that is higher than e's, or is not
module _ {e f g : Entry} (is : f ≡ g) where
  pub goes_before : e.number < f.number → (f ≡ higher e g) × (e ≡ lower e g)
  goes_before h = rw (← is, lt-ltb e.number f.number h) (refl, refl)

  pub goes_on : f.number ≤ e.number → (e ≡ higher e g) × (g ≡ lower e g)
  goes_on h = rw (← is, le-ltb e.number f.number h) (refl, refl)

-- x is to be there, and c is still carried: the words before place i are done, and those from it on are as they were
pub record Inserting (w x v : List ℕ) (c : Entry) (i : ℕ) : Type 0 where
  pub within : i ≤ length (entries w)
  pub long : length v ≡ length w
  pub rest : drop (i * 4) v ≡ drop (i * 4) w
  pub done : x ≡ take (i * 4) v ++ picture (insert c (from w i))

module _ {w x v : List ℕ} {c : Entry} {i : ℕ} (so : Inserting w x v c i) where
  pub inserting : {v' : List ℕ} {c' : Entry} → i < length (entries w) → i * 4 + 3 < length v → c' ≡ higher c (entry_at v i) → v' ≡ put v i (lower c (entry_at v i)) → Inserting w x v' c' (i + 1)
  inserting p q k e =
      let f = lower c (entry_at v i) in
      rw (e, k)
      record { within = omega arith; long = put-length v i f q ∙ so.long; rest = put-drop v i f q ∙ same_next w v i so.rest; done = inserted w v i (entry_at v i) p (same-entry w v i so.rest) c q so.done }

  -- the last one carried goes behind the others
  pub inserted_last : {v' : List ℕ} → i ≡ length (entries w) → v' ≡ put v i c → v' ≡ x ++ drop ((i + 1) * 4) w
  unfolding insert picture
  inserted_last h e =
      let k : i * 4 + 4 ≡ (i + 1) * 4 = omega arith in
      let l : from w i ≡ [] = rw h (last w) in
      rw (e, so.done, l, k, same_next w v i so.rest)

-- those of n entries behind place p move up
module _ (w : List ℕ) (p : ℕ) (q : p < length (entries w)) where
  -- their words
  lifted : take (length (entries w) * 4 - (p + 1) * 4) (drop ((p + 1) * 4) w) ≡ picture (from w (p + 1))
  lifted =
      let F = from w (p + 1) in
      let k : length (picture F) ≡ length (entries w) * 4 - (p + 1) * 4 = omega (arith, picture-length F, counted w (p + 1) (omega arith)) in
      let t = drop ((p + 1) * 4) w in
      let m = length (entries w) * 4 - (p + 1) * 4 in
      ap (λ (y : List ℕ). take m y) (pictured t) ∙ take_at (picture F) (drop (length F * 4) t) m k

  pub moved_up : {n : ℕ} {v x : List ℕ} → n ≡ length (entries w) → v ≡ paste w (p * 4) (drop ((p + 1) * 4) w) (n * 4 - (p + 1) * 4) → x ≡ put v (n - 1) vacant → x ≡ take (p * 4) w ++ picture (from w (p + 1)) ++ words vacant ++ drop (length (entries w) * 4) w
  moved_up {n} {v} is e f =
      let t = drop ((p + 1) * 4) w in
      let k = n * 4 - (p + 1) * 4 in
      let l : k ≤ length t = omega (arith, length-drop ((p + 1) * 4) w, places w) in
      let a : (n - 1) * 4 ≡ p * 4 + k = omega arith in
      let b : (n - 1) * 4 + 4 ≡ n * 4 = omega arith in
      let d : p * 4 + k + 4 ≡ n * 4 = omega arith in
      let before : take (p * 4 + k) v ≡ take (p * 4) w ++ take k t = rw e (take-paste w (p * 4) t k (omega (arith, places w)) l) in
      let behind : drop (n * 4) v ≡ drop (n * 4) w = rw (← d, ← drop-drop 4 (p * 4 + k) v, ← drop-drop 4 (p * 4 + k) w) (rw e (ap (λ (y : List ℕ). drop 4 y) (drop-paste w (p * 4) t k (omega (arith, places w)) l))) in
      rw (f, a, before, d, behind, is, lifted)
