-- Parts that are read and told, put together: behind a number, one after another.
use Rattle.std.proofs.Common.{◌≡◌, ℕ, ◌+◌, ◌-◌, ◌*◌, ◌/◌, ◌%◌, ◌≤◌, List, [], ◌∷◌, ◌++◌, length, sym, refl, ◌∙◌, arith, length-append}
use Rattle.x691.specs.Bits.{bit_of, uint}
use Rattle.atn.specs.Format.{Why, out}
use Rattle.atn.specs.Reading.{Rec, Ans, ok, stop, or, glue, then, pull}
use Rattle.atn.proofs.Marks.{or_assoc}
use Rattle.atn.proofs.Steps.{pull_go, pull_no}
use Rattle.cursor.specs.declared.place.Cursor.{Cursor}
use Rattle.cursor.specs.declared.place.Got.{Got}
use Rattle.cursor.specs.Place.{put, Pulled, stuck, short, got, Pulls}
use Rattle.schema_tables.specs.Entry.{top}
use Rattle.capped_records.specs.Place.{counted, place, Put}
use Rattle.capped_records.proofs.PlaceLaws.{place-length, place-append, place-capped, counted_none, counted-then, counted-top}
use Rattle.schema_leaves.specs.declared.Step.{Step}
use Rattle.schema_leaves.specs.Came.{Open, refusal, lacked, Came, went, failed}

abbrev pub at : Cursor → ℕ → Step
at c n = record { c = c; n = n }

---------------------------------------------------------------- what a part leaves

pub came_length : {x : Ans} {a z : Step} {w w' : List ℕ} → Came x a w z w' → length w' ≡ length w
came_length {a = a} {w = w} (went p m R e l c n q) = rw q (place-length w a.n R)
came_length (failed y p m S n e l c k q h) = h

-- a reading that stopped says why
pub says_why : (y : Why) {v : ℕ} → (refusal y ≡ 0 → ⊥) → v % 16 ≡ refusal y → v ≡ 0 → ⊥
says_why y {v} n e h = n (sym e ∙ (let z : v % 16 ≡ 0 = omega arith in z))

pub came_open : {s : List ℕ} {x : Ans} {a z : Step} {w w' : List ℕ} → Open s a → Came x a w z w' → z.c.why ≡ 0 → Open s z
came_open {a = a} o (went p m R e l c n q) h = record { goes = h; inside = rw c (l, o.inside.1); short = o.short; few = rw n (counted-top a.n (length R)) }
came_open o (failed y p m S n e l c j q k) h = absurd (says_why y n c h)

pub came_end : {x : Ans} {a z : Step} {w w' : List ℕ} → Came x a w z w' → z.c.why ≡ 0 → z.c.end ≡ a.c.end
came_end (went p m R e l c n q) h = rw c
came_end (failed y p m S n e l c j q k) h = absurd (says_why y n c h)

-- the same answer, from a step in the same window with the same marks and records
pub came_as : {x y : Ans} {a b z : Step} {w w' : List ℕ} → y ≡ x → a.c.end ≡ b.c.end → a.c.marks ≡ b.c.marks → a.n ≡ b.n → Came x a w z w' → Came y b w z w'
came_as {a = a} {b = b} e i j k (went p m R f l c n q) = went p m R (e ∙ f) (rw i at l) (c ∙ rw (i, j)) (n ∙ rw k) (q ∙ rw k)
came_as {a = a} {b = b} e i j k (failed y p m S n f l c u q h) = failed y p m S n (e ∙ f) (rw i at l) c u q h

pub came_same : {x y : Ans} {a z : Step} {w w' : List ℕ} → y ≡ x → Came x a w z w' → Came y a w z w'
came_same e h = came_as e refl refl refl h

---------------------------------------------------------------- without bits

-- marks
pub came_marked : {a : Step} {c : Cursor} {w : List ℕ} {p : ℕ} (m : ℕ) → a.n ≤ top → p ≤ a.c.end → c ≡ put a.c p 0 (or a.c.marks m) → Came (ok p [] m) a w (at c a.n) w
unfolding place
came_marked {a} m t l e = went _ m [] refl l e (sym (counted_none a.n t)) refl

-- a record
pub came_told : {a : Step} {c : Cursor} {w w' : List ℕ} {k p : ℕ} (m : ℕ) (r : Rec) → p ≤ a.c.end → c ≡ put a.c p 0 (or a.c.marks m) → Put w w' a.n k r → Came (ok p (r ∷ []) m) a w (at c k) w'
unfolding place
came_told m r l e h = went _ m (r ∷ []) refl l e h.count h.words

-- the reading stops
pub came_stopped : {a : Step} {z : Step} {w w' : List ℕ} (y : Why) (m : ℕ) {p : ℕ} {S : List Rec} → (refusal y ≡ 0 → ⊥) → p ≤ a.c.end → z.c.why % 16 ≡ refusal y → z.n ≡ lacked y → z.c.at ≡ p → length w' ≡ length w → Came (stop y p S m) a w z w'
came_stopped y m n l e k q h = failed y _ m _ n refl l e k q h

---------------------------------------------------------------- one after another

pub came_stops : {x : Ans} {a z : Step} {w w' : List ℕ} (k : ℕ → Ans) → Came x a w z w' → (z.c.why ≡ 0 → ⊥) → Came (then x k) a w z w'
unfolding then
came_stops k (went p m R e l c n q) h = absurd (h (rw c refl))
came_stops k (failed y p m S n e l c j q i) h = failed y p m S n (rw e) l c j q i

onward : (w : List ℕ) (n j : ℕ) (S : List Rec) → length w ≤ top → place w (counted n j) S ≡ place w (n + j) S
unfolding counted
onward w n j S t = place-capped w (n + j) S t

pub came_then : {x : Ans} {a b z : Step} {w w' w'' : List ℕ} (k : ℕ → Ans) → length w ≤ top → Came x a w b w' → b.c.why ≡ 0 → Came (k b.c.at) b w' z w'' → Came (then x k) a w z w''
unfolding then glue
came_then {x = x} {a = a} {b = b} {z = z} {w = w} {w' = w'} {w'' = w''} k t (went p m R e l c n q) h y = go y
  where
    o : b.c.at ≡ p
    o = rw c

    go : Came (k b.c.at) b w' z w'' → Came (then x k) a w z w''
    go (went p' m' S e' l' c' n' q') =
        let f : k p ≡ ok p' S m' = rw o at e' in
        went p' (or m m') (R ++ S) (rw (e, f)) (rw c at l') (c' ∙ rw (c, or_assoc a.c.marks m m')) (n' ∙ rw (n, length-append) (counted-then a.n (length R) (length S)))
        (q' ∙ rw (n, q) (onward (place w a.n R) a.n (length R) S (rw (place-length w a.n R) t)) ∙ sym (place-append w a.n R S))
    go (failed u p' m' S i e' l' c' d' q' j) =
        let f : k p ≡ stop u p' S m' = rw o at e' in
        failed u p' (or m m') (R ++ S) i (rw (e, f)) (rw c at l') c' d' q' (j ∙ rw q (place-length w a.n R))
came_then k t (failed y p m S n e l c j q i) h z = absurd (says_why y n c h)

---------------------------------------------------------------- behind a number

module _ {s : List ℕ} {a : Step} (o : Open s a) (n : ℕ) (g : Got ℕ) (p : Pulls s a.c n g) where
  -- the bits were there
  pub record There : Type 0 where
    pub room : a.c.at + n ≤ a.c.end
    pub value : g.v ≡ uint (bit_of s) a.c.at n
    pub cursor : g.c ≡ put a.c (a.c.at + n) 0 a.c.marks

  pub there : g.c.why ≡ 0 → There
  there z = go (p.gave o.inside)
    where
      go : Pulled s a.c n g → There
      go (stuck h q) = absurd (h o.goes)
      go (short h l q) = absurd (let y : 4 + 16 * (a.c.at + n - a.c.end) ≡ 0 = rw q at z in omega arith)
      go (got h l v q) = record { room = l; value = v; cursor = q }

  -- or the cursor says how many were lacked
  pub came_short : {w : List ℕ} (k : ℕ → Ans) → (g.c.why ≡ 0 → ⊥) → Came (pull (bit_of s) a.c.end a.c.at n k) a w (at g.c (g.c.why / 16)) w
  came_short {w} k h = go (p.gave o.inside)
    where
      go : Pulled s a.c n g → Came (pull (bit_of s) a.c.end a.c.at n k) a w (at g.c (g.c.why / 16)) w
      go (stuck i q) = absurd (i o.goes)
      go (short i l q) =
          let y : g.c.why ≡ 4 + 16 * (a.c.at + n - a.c.end) = rw q in
          failed (out (a.c.at + n - a.c.end)) a.c.at 0 [] (λ x. omega (arith, x)) (pull_no (bit_of s) a.c.end a.c.at n k l) o.inside.0 (omega arith) (omega arith) (rw q) refl
      go (got i l v q) = absurd (h (rw q refl))

  pub came_pull : {z : Step} {w w' : List ℕ} (k : ℕ → Ans) → g.c.why ≡ 0 → Came (k g.v) (at g.c a.n) w z w' → Came (pull (bit_of s) a.c.end a.c.at n k) a w z w'
  came_pull k z h =
      let t = there z in
      came_as (pull_go (bit_of s) a.c.end a.c.at n k t.room ∙ rw (← t.value)) (rw t.cursor) (rw t.cursor) refl h

  pub open-pull : g.c.why ≡ 0 → Open s (at g.c a.n)
  open-pull z = let t = there z in record { goes = z; inside = rw t.cursor (t.room, o.inside.1); short = o.short; few = o.few }
