-- The records of a text: the row of the first of them takes them all.
use mathlib.Core.Path.{◌≡◌, refl, sym, ap, ◌∙◌}
use mathlib.Core.Bool.{Bool, true, false, cond, not, ◌&&◌}
use mathlib.Core.List.{List, [], ◌∷◌}
use Prim.Native.Nat.{ℕ, zero, suc, ◌+◌, ◌-◌, ◌/◌, ◌≤◌, ◌<◌}
use native.Mathlib.Omega.{arith}
use lib.Dec.{leb, eqb}
use lib.ListN.{length, drop, length-drop}
use borrow.Author.Tests.{eqb-true, eq-eqb, ne_eqb, leb-true, not-true}
use Rattle.x691.specs.Range.{All}
use Rattle.atn.specs.Reading.{rec, Ctx, octets, packs, pack}
use Rattle.atn.proofs.Inverse.{both}
use Rattle.record_views.specs.View.{fetched}
use Rattle.record_views.specs.declared.Record.{Record}
use Rattle.record_grammar.specs.declared.Row.{Row}
use Rattle.record_grammar.specs.declared.Walk.{Walk}
use Rattle.record_grammar.specs.Kinds.{text}
use Rattle.record_grammar.specs.Octets.{characters_fit}
use Rattle.record_grammar.specs.Rows.{unheard, length_fits, lettered, holds, element_kept, element_fits, fits, resolved, found, left_behind, or_kept, row_behind, element_behind, clearance_behind, place_behind, onward, stepped}
use Rattle.record_grammar.specs.Heard.{walked}
use Rattle.record_grammar.specs.Table.{table}
use Rattle.record_grammar.proofs.HearingLaws.{found_here}
use Rattle.grammar_promises.proofs.Characters.{characters-fit, ascii_fit, bytes_below, octets-none}
use Rattle.grammar_promises.proofs.States.{Val, agree, agree_equal, State, lost, stands, Covers}
use Rattle.grammar_promises.proofs.Verdicts.{letters, Of, Scope, Known, verdict, judges_row}
use Rattle.grammar_promises.proofs.Steps.{row, row_is, Taken, nowhere, by, Finds, seek, finds}

abbrev Ascii : List ℕ → Type 0
Ascii cs = All (λ c. c < 128) cs

ascii_drop : (n : ℕ) (cs : List ℕ) → Ascii cs → Ascii (drop n cs)
ascii_drop zero cs h = h
ascii_drop (suc n) [] h = tt
ascii_drop (suc n) (c ∷ cs) h = ascii_drop n cs h.1

-- eight characters of a text, or what is left of it
ascii_word : (cs : List ℕ) → Ascii cs → characters_fit 0 (length cs) 0 (octets 8 cs) ≡ true
ascii_word cs h = rw (octets-none 8) at (characters-fit 0 [] cs tt (bytes_below 128 cs (omega arith) h)) ∙ ascii_fit 8 cs h

kept-twice : (n b : ℕ) → or_kept n (or_kept n b) ≡ or_kept n b
unfolding or_kept
kept-twice n b = go (eqb n 0)
  where
    go : (t : Bool) → cond t (cond t b n) n ≡ cond t b n
    go true = refl
    go false = refl

---------------------------------------------------------------- within a text

-- row j is of texts with this tag, and stands for no other
abbrev Texts : ℕ → ℕ → Type 0
Texts j t = ((row j).kind ≡ text) × ((row j).tag ≡ t) × (eqb j 1 ≡ false) × (eqb j 2 ≡ false)

module _ (t m q n j b l c p : ℕ) (is : Texts j t) where
  -- with so many characters left
  abbrev Within : ℕ → Walk → Type 0
  Within k s =
      (s.at ≡ row_behind k j (row j).next) × (s.back ≡ or_kept (row j).back b) × (s.last ≡ or_kept (row j).last l) × (s.element ≡ m) × (s.clearance ≡ c) × (s.place ≡ p) × (s.left ≡ k) × (s.whole ≡ n)

  -- a later record
  later-fits : (s : Walk) (cs : List ℕ) → Ascii cs → 0 < length cs → Within (length cs) s → fits (row j) s (fetched (rec t m (octets 8 cs) n q)) ≡ true
  unfolding fits element_fits element_kept holds lettered length_fits unheard
  later-fits s cs h g w =
      rw (is.0, is.1, eq-eqb t t refl, eq-eqb m s.element (sym w.3), w.6, ne_eqb (length cs) 0 (λ z. omega arith), eq-eqb n s.whole (sym w.7), ascii_word cs h) refl

  -- behind any record of the text that row j took
  behind-text : (s : Walk) (v u : ℕ) → or_kept (row j).back s.back ≡ or_kept (row j).back b → or_kept (row j).last s.last ≡ or_kept (row j).last l → s.element ≡ m → s.clearance ≡ c → s.place ≡ p → unheard s (fetched (rec t m v n q)) ≡ u → Within (u - 8) (onward j (row j) s (fetched (rec t m v n q)))
  unfolding onward left_behind element_behind element_kept clearance_behind place_behind
  behind-text s v u e1 e2 e3 e4 e5 e6 = (rw (is.0, e6) refl, e1, e2, rw is.0 e3, rw is.0 e4, rw is.0 e5, rw (is.0, e6) refl, refl)

  left-unheard : (s : Walk) (v k : ℕ) → 0 < k → s.left ≡ k → unheard s (fetched (rec t m v n q)) ≡ k
  unfolding unheard
  left-unheard s v k h e = ap (λ i. cond (eqb i 0) n i) e ∙ rw (ne_eqb k 0 (λ z. omega arith)) refl

  later : (s : Walk) (cs : List ℕ) → Ascii cs → 0 < length cs → Within (length cs) s → Within (length (drop 8 cs)) (stepped table s (fetched (rec t m (octets 8 cs) n q)))
  unfolding stepped resolved row_behind
  later s cs h g w =
      let y : Record = fetched (rec t m (octets 8 cs) n q) in
      let here : s.at ≡ j = w.0 ∙ rw (ne_eqb (length cs) 0 (λ z. omega arith)) refl in
      let it : found table 64 s s.at y ≡ j = ap (λ i. found table 64 s i y) here ∙ found_here table s y {j = j} {r = row j} 64 j (omega arith) (rw (is.2, is.3) refl) (sym (row_is j)) refl (later-fits s cs h g w) in
      rw (it, row_is j, length-drop) (behind-text s (octets 8 cs) (length cs) (ap (or_kept (row j).back) w.1 ∙ kept-twice _ b) (ap (or_kept (row j).last) w.2 ∙ kept-twice _ l) w.3 w.4 w.5 (left-unheard s (octets 8 cs) (length cs) g w.6))

  -- the rest of a text
  rest : (k : ℕ) (s : Walk) (cs : List ℕ) → Ascii cs → k ≡ (length cs + 7) / 8 → Within (length cs) s → Within 0 (walked table s (packs t m q n k cs))
  unfolding walked packs
  rest zero s cs h e w = let z : length cs ≡ 0 = omega arith in rw z at w
  rest (suc k) s cs h e w =
      let i : k ≡ (length (drop 8 cs) + 7) / 8 = rw length-drop (omega arith) in
      rest k (stepped table s (fetched (rec t m (octets 8 cs) n q))) (drop 8 cs) (ascii_drop 8 cs h) i (later s cs h (omega arith) w)

---------------------------------------------------------------- a whole text

-- behind a text whose first record this row took
unfoldable pub text_behind : Scope → ℕ → ℕ → ℕ → Val → Val → Val → Taken → State
text_behind Γ t b l e c p nowhere = lost
text_behind Γ t b l e c p (by j) =
    let r : Row = row j in
    cond (eqb r.kind text && (eqb r.tag t && (not (eqb j 1) && (not (eqb j 2) && agree Γ.own e)))) (stands r.next (or_kept r.back b) (or_kept r.last l) e c p) lost

-- from a state on; a text has a character
unfoldable pub text_step : Scope → ℕ → ℕ → ℕ → State → State
text_step Γ t lo n lost = lost
text_step Γ t lo n (stands a b l e c p) = cond (leb 1 lo) (text_behind Γ t b l e c p (seek 64 b l (λ r. verdict e c p Γ t (letters lo n) r) a)) lost

module _ (ρ : ℕ → ℕ) (Γ : Scope) (x : Ctx) (k : Known ρ Γ x) (t q lo n : ℕ) (cs : List ℕ) (h : Ascii cs) (low : lo ≤ length cs) (high : length cs < lo + n) where
  abbrev first : Record
  first = fetched (rec t x.0 (octets 8 cs) (length cs) q)

  first_of : Of (letters lo n) x first
  first_of = (low, high, ascii_word cs h)

  heard-first : (s : Walk) → s.left ≡ 0 → unheard s first ≡ length cs
  unfolding unheard
  heard-first s e = ap (λ i. cond (eqb i 0) (length cs) i) e

  text-within : (s : Walk) (b l : ℕ) → s.back ≡ b → s.last ≡ l → s.left ≡ 0 → 0 < length cs → (j : ℕ) → found table 64 s s.at first ≡ j → (is : Texts j t) → s.element ≡ x.0 →
      Within t x.0 q (length cs) j b l s.clearance s.place is 0 (walked table s (pack t x.0 q cs))
  unfolding pack walked packs stepped
  text-within s b l eb el e pos j it is own =
      let more : (length cs + 7) / 8 ≡ suc ((length (drop 8 cs) + 7) / 8) = rw length-drop (omega arith) in
      rw more
      (rest t x.0 q (length cs) j b l s.clearance s.place is ((length (drop 8 cs) + 7) / 8) (stepped table s first) (drop 8 cs) (ascii_drop 8 cs h) refl
      (rw (it, row_is j, length-drop) (behind-text t x.0 q (length cs) j b l s.clearance s.place is s (octets 8 cs) (length cs) (ap (or_kept (row j).back) eb) (ap (or_kept (row j).last) el) own refl refl (heard-first s e))))

  text_covers : (s : Walk) (a b l : ℕ) (e c p : Val) → Covers ρ (stands a b l e c p) s → 0 < length cs → (w : Taken) → Finds w (found table 64 s s.at first) → Covers ρ (text_behind Γ t b l e c p w) (walked table s (pack t x.0 q cs))
  unfolding text_behind row_behind
  text_covers s a b l e c p g pos nowhere it = tt
  text_covers s a b l e c p g pos (by j) it = go _ refl
    where
      good : Texts j t → agree Γ.own e ≡ true → Covers ρ (stands (row j).next (or_kept (row j).back b) (or_kept (row j).last l) e c p) (walked table s (pack t x.0 q cs))
      good is f =
          let own : x.0 ≡ s.element = agree_equal ρ Γ.own e _ _ f k.1 g.3 in
          let w = text-within s b l g.1 g.2 g.6 pos j it is (sym own) in
          (w.0, w.1, w.2, rw (w.3, own) g.3, rw w.4 g.4, rw w.5 g.5, w.6)

      go : (u : Bool) → eqb (row j).kind text && (eqb (row j).tag t && (not (eqb j 1) && (not (eqb j 2) && agree Γ.own e))) ≡ u →
          Covers ρ (cond u (stands (row j).next (or_kept (row j).back b) (or_kept (row j).last l) e c p) lost) (walked table s (pack t x.0 q cs))
      go true f =
          let f1 = both (eqb (row j).kind text) _ f in
          let f2 = both (eqb (row j).tag t) _ f1.1 in
          let f3 = both (not (eqb j 1)) _ f2.1 in
          let f4 = both (not (eqb j 2)) _ f3.1 in
          good (eqb-true (row j).kind text f1.0, eqb-true (row j).tag t f2.0, not-true _ f3.0, not-true _ f4.0) f4.1
      go false f = tt

  pub text-step : (s : Walk) (σ : State) → Covers ρ σ s → Covers ρ (text_step Γ t lo n σ) (walked table s (pack t x.0 q cs))
  unfolding text_step
  text-step s lost g = tt
  text-step s (stands a b l e c p) g = go (leb 1 lo) refl
    where
      it : Finds (seek 64 b l (λ r. verdict e c p Γ t (letters lo n) r) a) (found table 64 s s.at first)
      it = rw (← g.0, ← g.1, ← g.2) (finds s first g.6 (λ r. verdict e c p Γ t (letters lo n) r) (λ r. judges_row ρ Γ x k r first s e c p g.3 g.4 g.5 g.6 t (letters lo n) refl refl first_of) 64 s.at)

      go : (u : Bool) → leb 1 lo ≡ u → Covers ρ (cond u (text_behind Γ t b l e c p (seek 64 b l (λ r. verdict e c p Γ t (letters lo n) r) a)) lost) (walked table s (pack t x.0 q cs))
      go true f = let f1 = leb-true 1 lo f in text_covers s a b l e c p g (omega arith) (seek 64 b l (λ r. verdict e c p Γ t (letters lo n) r) a) it
      go false f = tt
