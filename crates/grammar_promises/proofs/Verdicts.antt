-- Which row takes a record of which only a range is known: surely this row, surely not, or it is not decided.
use mathlib.Core.Path.{◌≡◌, refl, ◌∙◌}
use mathlib.Core.Bool.{Bool, true, false, cond, ◌&&◌}
use Prim.Native.Nat.{ℕ, ◌+◌, ◌-◌, ◌≤◌, ◌<◌}
use native.Mathlib.Omega.{arith}
use lib.Dec.{leb, ltb, eqb}
use borrow.Author.Tests.{leb-true, eqb-true, le-leb, lt-leb, lt-ltb, le-ltb, eq-eqb}
use Rattle.atn.specs.Reading.{Ctx}
use Rattle.atn.proofs.Inverse.{both}
use Rattle.record_views.specs.declared.Record.{Record}
use Rattle.record_grammar.specs.declared.Row.{Row}
use Rattle.record_grammar.specs.declared.Walk.{Walk}
use Rattle.record_grammar.specs.Octets.{within, characters_fit}
use Rattle.record_grammar.specs.Kinds.{number, reason, release, text, span, index, clearance, place, channel, digits, spaced, note}
use Rattle.record_grammar.specs.Rows.{numbered, unheard, length_fits, lettered, spanned, counted, noted, holds, element_kept, element_fits, fits}
use Rattle.grammar_promises.proofs.States.{Val, nil, now, prior, Means, means_cond, agree, agree_equal, agree_means}

---------------------------------------------------------------- what is known of a record

-- its value is one of n from a on, with this second number; its value is the place in the nearest list;
-- its second number is one of n from a on: the bits of a span, or the length of a text of which this is the first record
pub data Sort : Type 0 where
  value : ℕ → ℕ → ℕ → Sort
  placed : Sort
  stretch letters : ℕ → ℕ → Sort

-- a record of a sort
abbrev pub Of : Sort → Ctx → Record → Type 0
Of (value a n m) x r = (a ≤ r.value) × (r.value < a + n) × (r.second ≡ m)
Of placed x r = (r.value ≡ x.1) × (r.second ≡ 0)
Of (stretch a n) x r = (a ≤ r.second) × (r.second < a + n) × (r.value + r.second ≤ 524288)
Of (letters a n) x r = (a ≤ r.second) × (r.second < a + n) × (characters_fit 0 r.second 0 r.value ≡ true)

-- what a part inherits: what is known of the number of its element and of its place in the nearest list, and how long that list may be
pub record Scope : Type 0 where
  pub own : Val
  pub here : Val
  pub most : ℕ

-- and what is known is so
abbrev pub Known : (ℕ → ℕ) → Scope → Ctx → Type 0
Known ρ Γ x = (ρ 0 ≡ 0) × Means ρ Γ.own x.0 × Means ρ Γ.here x.1 × (x.1 ≤ Γ.most)

---------------------------------------------------------------- verdicts

pub data Verdict : Type 0 where
  yes no unsure : Verdict

-- a verdict on a test
abbrev pub Judges : Verdict → Bool → Type 0
Judges yes t = t ≡ true
Judges no t = t ≡ false
Judges unsure t = Unit {0}

-- of two tests
unfoldable pub also : Verdict → Verdict → Verdict
also yes v = v
also no v = no
also unsure yes = unsure
also unsure no = no
also unsure unsure = unsure

-- it holds, or nothing is known
unfoldable pub surely : Bool → Verdict
surely true = yes
surely false = unsure

-- n numbers from a on, and the range of a row
unfoldable pub ranged : ℕ → ℕ → Row → Verdict
ranged a n r = cond (leb r.low a && leb (a + n) (r.low + r.size)) yes (cond (leb (a + n) r.low) no (cond (leb (r.low + r.size) a) no unsure))

-- by the kinds of rows; a sort of record that the kind never takes is not decided
unfoldable pub numbers : ℕ → Row → Sort → Verdict
numbers most r (value a n m) = cond (eqb m 0) (ranged a n r) (cond (leb m most) (surely (eqb a 0 && eqb n 1)) no)
numbers most r placed = unsure
numbers most r (stretch a n) = unsure
numbers most r (letters a n) = unsure

unfoldable pub texts : Row → Sort → Verdict
texts r (value a n m) = unsure
texts r placed = unsure
texts r (stretch a n) = unsure
texts r (letters a n) = ranged a n r

unfoldable pub spans : Row → Sort → Verdict
spans r (value a n m) = unsure
spans r placed = unsure
spans r (stretch a n) = ranged a n r
spans r (letters a n) = unsure

unfoldable pub notes : Row → Sort → Verdict
notes r (value a n m) = surely (eqb a r.low && (eqb n 1 && eqb m r.size))
notes r placed = unsure
notes r (stretch a n) = unsure
notes r (letters a n) = unsure

-- the count c goes on with variable k
unfoldable pub counts : Val → ℕ → Scope → Row → Sort → Verdict
counts c k Γ r (value a n m) = unsure
counts c k Γ r placed = surely (agree c (prior k) && (agree Γ.here (now k) && leb Γ.most r.size))
counts c k Γ r (stretch a n) = unsure
counts c k Γ r (letters a n) = unsure

-- by the kind of the row, as `holds` asks
unfoldable pub kinds : Val → Val → Scope → Row → Sort → Verdict
kinds c p Γ r z =
    cond (eqb r.kind number)
    (numbers 0 r z)
    (cond (eqb r.kind reason)
    (numbers 1 r z)
    (cond (eqb r.kind release)
    (numbers 2 r z)
    (cond (eqb r.kind text)
    (texts r z)
    (cond (eqb r.kind span)
    (spans r z)
    (cond (eqb r.kind index)
    (numbers 0 r z)
    (cond (eqb r.kind clearance)
    (counts c 2 Γ r z)
    (cond (eqb r.kind place)
    (counts p 3 Γ r z)
    (cond (eqb r.kind channel)
    unsure
    (cond (eqb r.kind digits)
    unsure
    (cond (eqb r.kind spaced)
    unsure
    (cond (eqb r.kind note)
    (notes r z)
    no)))))))))))

-- the element number behind a row's record that begins no element
unfoldable pub kept_val : ℕ → Val → Val
kept_val k e = cond (eqb k span) nil (cond (eqb k clearance) nil (cond (eqb k note) nil e))

-- the record's element number is surely the one that the row asks for
unfoldable pub element_sure : Val → Scope → Row → Bool
element_sure e Γ r = cond (eqb r.kind index) (agree e (prior 1) && (agree Γ.own (now 1) && (agree Γ.here (now 1) && leb Γ.most 8))) (agree Γ.own (kept_val r.kind e))

-- on a row, for a record with tag t of this sort, with these counts before it
unfoldable pub verdict : Val → Val → Val → Scope → ℕ → Sort → Row → Verdict
verdict e c p Γ t z r = also (cond (eqb t r.tag) yes no) (also (surely (element_sure e Γ r)) (kinds c p Γ r z))

---------------------------------------------------------------- verdicts are right

judges_also : (u v : Verdict) (s t : Bool) → Judges u s → Judges v t → Judges (also u v) (s && t)
unfolding also
judges_also yes v s t h g = rw h g
judges_also no v s t h g = rw h refl
judges_also unsure yes s t h g = tt
judges_also unsure no true t h g = g
judges_also unsure no false t h g = refl
judges_also unsure unsure s t h g = tt

judges_surely : (a t : Bool) → (a ≡ true → t ≡ true) → Judges (surely a) t
unfolding surely
judges_surely true t h = h refl
judges_surely false t h = tt

judges_true : (v : Verdict) (t : Bool) → Judges v t → Judges v (t && true)
judges_true yes t g = rw g refl
judges_true no t g = rw g refl
judges_true unsure t g = tt

judges_cond : (a : Bool) (u v : Verdict) (s t : Bool) → Judges u s → Judges v t → Judges (cond a u v) (cond a s t)
judges_cond true u v s t h g = h
judges_cond false u v s t h g = g

-- by a test of the verdict alone
judges_by : (a : Bool) (u v : Verdict) (t : Bool) → (a ≡ true → Judges u t) → (a ≡ false → Judges v t) → Judges (cond a u v) t
judges_by true u v t h g = h refl
judges_by false u v t h g = g refl

judges_range : (a n v : ℕ) (r : Row) → a ≤ v → v < a + n → Judges (ranged a n r) (within r.low r.size v)
unfolding ranged within
judges_range a n v r h g =
    judges_by (leb r.low a && leb (a + n) (r.low + r.size)) yes _ _ (λ q. take (both (leb r.low a) (leb (a + n) (r.low + r.size)) q))
    (λ _. judges_by (leb (a + n) r.low) no _ _ (λ q. below (leb-true (a + n) r.low q)) (λ _. judges_by (leb (r.low + r.size) a) no unsure _ (λ q. above (leb-true (r.low + r.size) a q)) (λ _. tt)))
  where
    take : (leb r.low a ≡ true) × (leb (a + n) (r.low + r.size) ≡ true) → leb r.low v && ltb (v - r.low) r.size ≡ true
    take (x, y) =
        let l : r.low ≤ a = leb-true r.low a x in
        let u : a + n ≤ r.low + r.size = leb-true (a + n) (r.low + r.size) y in
        rw (le-leb r.low v (omega arith), lt-ltb (v - r.low) r.size (omega arith))

    below : a + n ≤ r.low → leb r.low v && ltb (v - r.low) r.size ≡ false
    below l = rw (lt-leb r.low v (omega arith))

    above : r.low + r.size ≤ a → leb r.low v && ltb (v - r.low) r.size ≡ false
    above l = rw (le-leb r.low v (omega arith), le-ltb (v - r.low) r.size (omega arith))

module _ (ρ : ℕ → ℕ) (Γ : Scope) (x : Ctx) (k : Known ρ Γ x) (r : Row) (y : Record) where
  judges_numbers : (most : ℕ) (z : Sort) → Of z x y → Judges (numbers most r z) (numbered most r y)
  unfolding numbers numbered
  judges_numbers most (value a n m) h = rw h.2 (judges_cond (eqb m 0) _ _ _ _ (judges_range a n y.value r h.0 h.1) (judges_by (leb m most) _ no _ small (λ q. rw q refl)))
    where
      small : leb m most ≡ true → Judges (surely (eqb a 0 && eqb n 1)) (leb m most && eqb y.value 0)
      small q = judges_surely _ _ λ p. let b = both (eqb a 0) (eqb n 1) p in let e = eqb-true a 0 b.0 in let f = eqb-true n 1 b.1 in rw (q, eq-eqb y.value 0 (omega (arith, h.0, h.1)))
  judges_numbers most placed h = tt
  judges_numbers most (stretch a n) h = tt
  judges_numbers most (letters a n) h = tt

  judges_texts : (s : Walk) → s.left ≡ 0 → (z : Sort) → Of z x y → Judges (texts r z) (lettered r s y)
  unfolding texts lettered length_fits unheard
  judges_texts s l (value a n m) h = tt
  judges_texts s l placed h = tt
  judges_texts s l (stretch a n) h = tt
  judges_texts s l (letters a n) h = rw (l, h.2) (judges_true (ranged a n r) _ (judges_range a n y.second r h.0 h.1))

  judges_spans : (z : Sort) → Of z x y → Judges (spans r z) (spanned r y)
  unfolding spans spanned
  judges_spans (value a n m) h = tt
  judges_spans placed h = tt
  judges_spans (stretch a n) h = rw (le-leb (y.value + y.second) 524288 h.2) (judges_true (ranged a n r) _ (judges_range a n y.second r h.0 h.1))
  judges_spans (letters a n) h = tt

  judges_notes : (z : Sort) → Of z x y → Judges (notes r z) (noted r y)
  unfolding notes noted
  judges_notes (value a n m) h = judges_surely _ _ λ p. let b = both (eqb a r.low) _ p in
      let c = both (eqb n 1) (eqb m r.size) b.1 in
      let e = eqb-true a r.low b.0 in
      let f = eqb-true n 1 c.0 in
      let g = eqb-true m r.size c.1 in
      rw (eq-eqb y.value r.low (omega (arith, h.0, h.1)), eq-eqb y.second r.size (h.2 ∙ g))
  judges_notes placed h = tt
  judges_notes (stretch a n) h = tt
  judges_notes (letters a n) h = tt

  judges_counts : (c : Val) (j n : ℕ) → Means ρ c n → (z : Sort) → Of z x y → Judges (counts c j Γ r z) (counted n r y)
  unfolding counts counted
  judges_counts c j n m (value a i u) h = tt
  judges_counts c j n m placed h = judges_surely _ _ λ p. let b = both (agree c (prior j)) _ p in
      let d = both (agree Γ.here (now j)) (leb Γ.most r.size) b.1 in
      let e : n + 1 ≡ ρ j = agree_means ρ c (prior j) n b.0 m in
      let f : x.1 + 0 ≡ ρ j = agree_means ρ Γ.here (now j) x.1 d.0 k.2 in
      let l = leb-true Γ.most r.size d.1 in
      rw (eq-eqb y.second 0 h.1, lt-ltb n r.size (omega (arith, k.3)), eq-eqb y.value (n + 1) (omega (arith, h.0)))
  judges_counts c j n m (stretch a i) h = tt
  judges_counts c j n m (letters a i) h = tt

  pub kept_means : (i : ℕ) (e : Val) (n : ℕ) → Means ρ e n → Means ρ (kept_val i e) (element_kept i n)
  unfolding kept_val element_kept
  kept_means i e n m = means_cond ρ (eqb i span) _ _ _ _ zeroed (means_cond ρ (eqb i clearance) _ _ _ _ zeroed (means_cond ρ (eqb i note) _ _ _ _ zeroed m))
    where
      zeroed : 0 + 0 ≡ ρ 0
      zeroed = omega (arith, k.0)

  module _ (s : Walk) (e c p : Val) (me : Means ρ e s.element) (mc : Means ρ c s.clearance) (mp : Means ρ p s.place) (l : s.left ≡ 0) where
    judges_kinds : (z : Sort) → Of z x y → Judges (kinds c p Γ r z) (holds r s y)
    unfolding kinds holds
    judges_kinds z h =
        judges_cond (eqb r.kind number) _ _ _ _ (judges_numbers 0 z h)
        (judges_cond (eqb r.kind reason) _ _ _ _ (judges_numbers 1 z h)
        (judges_cond (eqb r.kind release) _ _ _ _ (judges_numbers 2 z h)
        (judges_cond (eqb r.kind text) _ _ _ _ (judges_texts s l z h)
        (judges_cond (eqb r.kind span) _ _ _ _ (judges_spans z h)
        (judges_cond (eqb r.kind index) _ _ _ _ (judges_numbers 0 z h)
        (judges_cond (eqb r.kind clearance) _ _ _ _ (judges_counts c 2 _ mc z h)
        (judges_cond (eqb r.kind place) _ _ _ _ (judges_counts p 3 _ mp z h)
        (judges_cond (eqb r.kind channel) unsure _ _ _ tt
        (judges_cond (eqb r.kind digits) unsure _ _ _ tt
        (judges_cond (eqb r.kind spaced) unsure _ _ _ tt
        (judges_cond (eqb r.kind note) _ no _ false (judges_notes z h) refl)))))))))))

    -- the element number of the record is the context's
    pub element-fits : y.element ≡ x.0 → element_sure e Γ r ≡ true → element_fits r s y ≡ true
    unfolding element_sure element_fits
    element-fits f q = go (eqb r.kind index) q
      where
        go : (t : Bool) → cond t (agree e (prior 1) && (agree Γ.own (now 1) && (agree Γ.here (now 1) && leb Γ.most 8))) (agree Γ.own (kept_val r.kind e)) ≡ true →
            cond t (ltb s.element 8 && eqb y.element (s.element + 1)) (eqb y.element (element_kept r.kind s.element)) ≡ true
        go true h =
            let a = both (agree e (prior 1)) _ h in
            let b = both (agree Γ.own (now 1)) _ a.1 in
            let d = both (agree Γ.here (now 1)) (leb Γ.most 8) b.1 in
            let i : s.element + 1 ≡ ρ 1 = agree_means ρ e (prior 1) _ a.0 me in
            let j : x.0 + 0 ≡ ρ 1 = agree_means ρ Γ.own (now 1) _ b.0 k.1 in
            let n : x.1 + 0 ≡ ρ 1 = agree_means ρ Γ.here (now 1) _ d.0 k.2 in
            let u = leb-true Γ.most 8 d.1 in
            rw (lt-ltb s.element 8 (omega (arith, k.3)), eq-eqb y.element (s.element + 1) (omega arith))
        go false h = eq-eqb y.element _ (f ∙ agree_equal ρ Γ.own (kept_val r.kind e) _ _ h k.1 (kept_means r.kind e _ me))

    pub judges_row : (t : ℕ) (z : Sort) → y.tag ≡ t → y.element ≡ x.0 → Of z x y → Judges (verdict e c p Γ t z r) (fits r s y)
    unfolding verdict fits
    judges_row t z f g h = judges_also (cond (eqb t r.tag) yes no) _ (eqb y.tag r.tag) _ (rw f (judges_by (eqb t r.tag) yes no (eqb t r.tag) (λ q. q) (λ q. q))) (judges_also _ _ _ _ (judges_surely _ _ (element-fits g)) (judges_kinds z h))
