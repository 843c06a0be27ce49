-- Texts and fixed bit counts.
use Rattle.std.proofs.Common.{◌≡◌, ℕ, suc, ◌+◌, ◌-◌, ◌*◌, ◌/◌, ◌%◌, ◌^◌, ◌<◌, ◌≤◌, Bool, true, false, leb, List, [], ◌∷◌, length, sym, refl, ap, ◌∙◌, add-zero, mul-one, arith, eq-eqb, le-leb, leb-false, leb-true}
use borrow.Author.Tests.{lt-leb}
use Rattle.x691.specs.Bits.{bit_of, uint}
use Rattle.x691.specs.Encoding.{width, width_in}
use Rattle.atn.specs.Format.{text, first, span, out}
use Rattle.atn.specs.Reading.{Rec, rec, Ans, ok, or, over, then, glue, pull, sized, letters, units, coded, pack, spanned, read}
use Rattle.atn.proofs.Marks.{or_nil}
use Rattle.atn.proofs.Steps.{pull_go, pull_no, then-nil, over_in}
use Rattle.character_strings.proofs.TextLaws.{coded-nil, letters-all, letters_out}
use Rattle.cursor.specs.declared.place.Cursor.{Cursor}
use Rattle.cursor.specs.declared.place.Got.{Got}
use Rattle.cursor.specs.Place.{put, stopped, marked, Pulls}
use Rattle.capped_records.specs.Place.{Put}
use Rattle.schema_leaves.specs.declared.Step.{Step}
use Rattle.schema_leaves.specs.Came.{Open, Came, went, failed, Placed}
use Rattle.schema_leaves.proofs.CameLaws.{at, came_marked, came_told, came_stopped, came_same, came_short, There, there}
use Rattle.schema_leaves.proofs.NumberLaws.{goes_marked, goes_unmarked, over-above}

---------------------------------------------------------------- fixed bit counts

-- a size that is always the same has no bits
size_fixed : (b : ℕ → ℕ) (e at n : ℕ) (k : ℕ → ℕ → Ans) → at ≤ e → sized b e at n n k ≡ k n at
unfolding sized width width_in uint
size_fixed b e at n k l =
    let z : n - n ≡ 0 = omega arith in
    let o : at + 0 ≤ e = omega arith in
    rw z (pull_go b e at 0 _ o ∙ rw (add-zero at, add-zero n, over_in n n (omega arith)) (then-nil at (k n)))

module _ {s : List ℕ} {a : Step} (o : Open s a) (t n : ℕ) where
  bits-read : read (span t 1 n n) (0, 0) (bit_of s) a.c.end a.c.at ≡ pull (bit_of s) a.c.end a.c.at n (λ _. ok (a.c.at + n) (spanned t 0 a.c.at a.c.at n) 0)
  unfolding read
  bits-read = size_fixed (bit_of s) a.c.end a.c.at n _ o.inside.0 ∙ rw (mul-one n)

  -- no bits, and no record of them
  pub bits_none : {w : List ℕ} → n ≡ 0 → Came (read (span t 1 n n) (0, 0) (bit_of s) a.c.end a.c.at) a w a w
  unfolding spanned
  bits_none z =
      let e : a.c.at + n ≡ a.c.at = omega arith in
      came_same (bits-read ∙ pull_go (bit_of s) a.c.end a.c.at n _ (omega (arith, o.inside.0)) ∙ rw (e, z)) (came_marked {a = a} {c = a.c} 0 o.few o.inside.0 (goes_unmarked a.c o.goes))

  pub bits-short : {c : Cursor} {w : List ℕ} → a.c.end - a.c.at < n → c ≡ stopped a.c 4 0 → Came (read (span t 1 n n) (0, 0) (bit_of s) a.c.end a.c.at) a w (at c (n - (a.c.end - a.c.at))) w
  unfolding stopped
  bits-short {c} {w} l e =
      let u : c ≡ put a.c a.c.at 4 (or a.c.marks 0) = e ∙ rw (eq-eqb a.c.why 0 o.goes) in
      came_same (bits-read ∙ pull_no (bit_of s) a.c.end a.c.at n _ (omega (arith, o.inside.0))) (came_stopped (out (a.c.at + n - a.c.end)) 0 (λ f. omega arith) o.inside.0 (rw u refl) (omega (arith, o.inside.0)) (rw u refl) refl)

  pub bits_there : {c : Cursor} {k : ℕ} {w w' : List ℕ} → (n ≡ 0 → ⊥) → n ≤ a.c.end - a.c.at → c ≡ put a.c (a.c.at + n) 0 a.c.marks → Put w w' a.n k (rec t 0 a.c.at n a.c.at)
      → Came (read (span t 1 n n) (0, 0) (bit_of s) a.c.end a.c.at) a w (at c k) w'
  unfolding spanned
  bits_there l m e h =
      let x : a.c.at + n ≤ a.c.end = omega (arith, o.inside.0) in
      let f : n ≡ suc (n - 1) = omega (arith, l) in
      let g : spanned t 0 a.c.at a.c.at n ≡ rec t 0 a.c.at n a.c.at ∷ [] = ap (λ j. spanned t 0 a.c.at a.c.at j) f ∙ ap (λ j. rec t 0 a.c.at j a.c.at ∷ []) (sym f) in
      came_same (bits-read ∙ pull_go (bit_of s) a.c.end a.c.at n _ x ∙ rw g) (came_told 0 (rec t 0 a.c.at n a.c.at) x (e ∙ rw (or_nil a.c.marks)) h)

---------------------------------------------------------------- characters of seven bits

module _ {s : List ℕ} {a : Step} (o : Open s a) (t lo hi n : ℕ) (g : Got ℕ) (q : n ≡ width (hi - lo)) (p : Pulls s a.c n g) where
  abbrev told : ℕ → ℕ → List Rec
  told from len = pack t 0 a.c.at (units (bit_of s) 7 from len)

  abbrev behind : ℕ → Ans
  behind v = then (ok (a.c.at + n) [] (over hi (lo + v))) λ r. letters (bit_of s) a.c.end 7 128 (lo + v) r λ u. ok u (pack t 0 a.c.at (coded 0 (units (bit_of s) 7 r (lo + v)))) 0

  text-read : read (text t 128 (first 0) lo hi) (0, 0) (bit_of s) a.c.end a.c.at ≡ pull (bit_of s) a.c.end a.c.at n behind
  unfolding read sized width width_in
  text-read = rw q

  pub text-short : {w : List ℕ} → (g.c.why ≡ 0 → ⊥) → Came (read (text t 128 (first 0) lo hi) (0, 0) (bit_of s) a.c.end a.c.at) a w (at g.c (g.c.why / 16)) w
  text-short z = came_same text-read (came_short o n g p behind z)

  module _ (z : g.c.why ≡ 0) where
    y : There o n g p
    y = there o n g p z

    module _ {size : ℕ} (e : size ≡ lo + g.v) where
      text-then : read (text t 128 (first 0) lo hi) (0, 0) (bit_of s) a.c.end a.c.at ≡ glue [] (over hi size) (letters (bit_of s) a.c.end 7 128 size g.c.at λ u. ok u (told g.c.at size) 0)
      unfolding then
      text-then =
          let f : lo + g.v ≡ size = sym e in
          text-read ∙ pull_go (bit_of s) a.c.end a.c.at n behind y.room ∙ rw (← y.value, f, coded-nil (units (bit_of s) 7 (a.c.at + n) size), y.cursor)

      at-end : g.c.at ≤ a.c.end
      at-end = rw y.cursor y.room

      pub text_out : {z' : Step} {w : List ℕ} → (g.c.end - g.c.at) / 7 < size → z'.c.why ≡ 4 → z'.n ≡ 7 - (g.c.end - g.c.at) % 7 → z'.c.at ≡ g.c.at + 7 * ((g.c.end - g.c.at) / 7) → Came (read (text t 128 (first 0) lo hi) (0, 0) (bit_of s) a.c.end a.c.at) a w z' w
      unfolding glue
      text_out m i k j =
          let r : g.c.end ≡ a.c.end = rw y.cursor in
          let m' : (a.c.end - g.c.at) / 7 < size = rw r at m in
          let j' = rw r at j in
          let k' = rw r at k in
          failed (out (7 - (a.c.end - g.c.at) % 7)) (g.c.at + (a.c.end - g.c.at) / 7 * 7) (or (over hi size) 0) [] (λ f. omega arith) (text-then ∙ rw (letters_out s a.c.end size g.c.at (λ u. ok u (told g.c.at size) 0) at-end (omega (arith, at-end)))) (omega (arith, at-end)) (rw i refl) k' (j' ∙ omega arith) refl

      text-all : {c : Cursor} {k : ℕ} {w w' : List ℕ} → size ≤ (g.c.end - g.c.at) / 7 → c ≡ put a.c (g.c.at + size * 7) 0 (or a.c.marks (over hi size)) → Placed w w' a.n k (told g.c.at size)
          → Came (read (text t 128 (first 0) lo hi) (0, 0) (bit_of s) a.c.end a.c.at) a w (at c k) w'
      unfolding glue
      text-all m i h =
          let r : g.c.end ≡ a.c.end = rw y.cursor in
          let m' : size ≤ (a.c.end - g.c.at) / 7 = rw r at m in
          let x : g.c.at + size * 7 ≤ a.c.end = omega (arith, at-end) in
          went (g.c.at + size * 7) (over hi size) (told g.c.at size) (text-then ∙ rw (letters-all s a.c.end size g.c.at (λ u. ok u (told g.c.at size) 0) x, or_nil (over hi size))) x i h.count h.words

      cursor_at : {c : Cursor} {u : ℕ} → u ≡ g.c.at + 7 * size → c ≡ put g.c u 0 g.c.marks → c ≡ put a.c (g.c.at + size * 7) 0 a.c.marks
      cursor_at {c} {u} i j = let f : u ≡ g.c.at + size * 7 = omega arith in j ∙ rw (f, y.cursor)

      pub text_in : {c : Cursor} {k u : ℕ} {w w' : List ℕ} → size ≤ (g.c.end - g.c.at) / 7 → u ≡ g.c.at + 7 * size → c ≡ put g.c u 0 g.c.marks → size ≤ hi → Placed w w' a.n k (told g.c.at size)
          → Came (read (text t 128 (first 0) lo hi) (0, 0) (bit_of s) a.c.end a.c.at) a w (at c k) w'
      text_in m i j b h = text-all m (cursor_at i j ∙ rw (over_in hi size b, or_nil a.c.marks)) h

      pub text-over : {c d : Cursor} {k u : ℕ} {w w' : List ℕ} → size ≤ (g.c.end - g.c.at) / 7 → u ≡ g.c.at + 7 * size → c ≡ put g.c u 0 g.c.marks → hi < size → d ≡ marked c 1 → Placed w w' a.n k (told g.c.at size)
          → Came (read (text t 128 (first 0) lo hi) (0, 0) (bit_of s) a.c.end a.c.at) a w (at d k) w'
      text-over {c} {d} m i j b f h =
          let v = cursor_at i j in
          let x : c.why ≡ 0 = rw v in
          text-all m (goes_marked c 1 x f ∙ rw (v, over-above hi size b)) h

---------------------------------------------------------------- whether the room holds them

module _ (room fewest more : ℕ) where
  pub holds_not : room < fewest → false ≡ leb (fewest + more) room
  holds_not l = sym (lt-leb (fewest + more) room (omega arith))

  pub holds_more : fewest ≤ room → leb more (room - fewest) ≡ leb (fewest + more) room
  holds_more l = go (leb more (room - fewest)) refl
    where
      go : (t : Bool) → leb more (room - fewest) ≡ t → t ≡ leb (fewest + more) room
      go true e = sym (le-leb (fewest + more) room (omega (arith, leb-true more (room - fewest) e)))
      go false e = sym (lt-leb (fewest + more) room (omega (arith, leb-false more (room - fewest) e)))

  pub held : {t : Bool} → t ≡ leb (fewest + more) room → t ≡ true → fewest + more ≤ room
  held e h = leb-true (fewest + more) room (sym e ∙ h)

  pub not-held : {t : Bool} → t ≡ leb (fewest + more) room → t ≡ false → room < fewest + more
  not-held e h = leb-false (fewest + more) room (sym e ∙ h)

-- the place behind a number lies in the frame, and in 32 bits
pub text_bounds : {s : List ℕ} {a : Step} (o : Open s a) (n : ℕ) (g : Got ℕ) (p : Pulls s a.c n g) → g.c.why ≡ 0 → (g.c.at ≤ g.c.end) × (g.c.end ≤ length s * 8) × (g.c.end < 2 ^ 32)
text_bounds o n g p z = let y = there o n g p z in rw y.cursor (y.room, o.inside.1, omega (arith, o.inside.1, o.short))

-- and where the room holds the text, so do its characters
pub text-held : {s : List ℕ} {a : Step} (o : Open s a) (n : ℕ) (g : Got ℕ) (p : Pulls s a.c n g) → g.c.why ≡ 0 → (lo : ℕ) {t : Bool} → t ≡ leb (lo + g.v) ((g.c.end - g.c.at) / 7) → t ≡ true
    → (g.c.at + (lo + g.v) * 7 ≤ length s * 8) × (g.c.at + (lo + g.v) * 7 < 2 ^ 32)
text-held o n g p z lo e h =
    let y = held ((g.c.end - g.c.at) / 7) lo g.v e h in
    let b = text_bounds o n g p z in
    (omega (arith, b), omega (arith, b))
