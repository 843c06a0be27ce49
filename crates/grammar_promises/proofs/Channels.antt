-- The records of a satellite channel, rows 123 to 127: the source's characters, and X.680's where none is above 10.
use mathlib.Core.Path.{◌≡◌, refl, sym, ap, ◌∙◌}
use mathlib.Core.Bool.{Bool, true, false, cond, ◌&&◌}
use mathlib.Core.List.{List, [], ◌∷◌, ◌++◌}
use Prim.Native.Nat.{ℕ, zero, suc, ◌+◌, ◌-◌, ◌/◌, ◌%◌, ◌<◌}
use native.Mathlib.Omega.{arith}
use lib.Dec.{leb, ltb, eqb}
use lib.ListN.{length, drop, length-drop}
use borrow.Author.Tests.{eqb-true, eq-eqb, ne_eqb, lt-ltb, le-leb, leb-true, leb-false, le-ltb}
use Rattle.x691.specs.Range.{All}
use Rattle.atn.specs.Reading.{rec, Ctx, octets, packs, pack, coded, spaced, none_above}
use Rattle.atn.specs.Tags as tag
use Rattle.atn.proofs.Inverse.{both}
use Rattle.atn.proofs.Texts.{length-coded, length-spaced, drop-coded, drop-spaced}
use Rattle.record_views.specs.View.{fetched}
use Rattle.record_views.specs.declared.Record.{Record}
use Rattle.record_grammar.specs.declared.Row.{Row}
use Rattle.record_grammar.specs.declared.Walk.{Walk}
use Rattle.record_grammar.specs.Kinds as kind
use Rattle.record_grammar.specs.Octets.{within, spaced_one, octet_fits, octet_or, octets_fit, characters_fit}
use Rattle.record_grammar.specs.Rows.{row_word, row_at, channelled, all_digits, holds, element_kept, element_fits, fits, resolved, asked, left_behind, or_kept, row_behind, element_behind, clearance_behind, place_behind, onward, stepped}
use Rattle.record_grammar.specs.Heard.{walked}
use Rattle.record_grammar.specs.Table.{table}
use Rattle.record_grammar.proofs.HearingLaws.{found_here, found-later}
use Rattle.grammar_promises.proofs.Characters.{Bytes, fit_all, characters-fit, octets-none}
use Rattle.grammar_promises.proofs.States.{agree, agree_equal, State, lost, stands, Covers}
use Rattle.grammar_promises.proofs.Verdicts.{Scope, Known}
use Rattle.grammar_promises.proofs.Steps.{meant}

---------------------------------------------------------------- characters

-- a rule that looks at no other word
other_word : (rule : ℕ) → ((a c : ℕ) → octet_fits rule a c ≡ octet_fits rule 0 c) → (k spare u v : ℕ) → octets_fit rule spare k u v ≡ octets_fit rule spare k 0 v
unfolding octets_fit octet_or
other_word rule h zero spare u v = refl
other_word rule h (suc k) spare u v = rw (h (u % 256) (v % 256), other_word rule h k (spare - 1) (u / 256) (v / 256)) refl

alone : (rule : ℕ) → ((a c : ℕ) → octet_fits rule a c ≡ octet_fits rule 0 c) → (n u : ℕ) (cs : List ℕ) → Bytes cs → 8 - n ≡ 8 - length cs → characters_fit rule n u (octets 8 cs) ≡ fit_all rule 8 [] cs
unfolding characters_fit
alone rule h n u cs b e = rw e (other_word rule h 8 (8 - length cs) u (octets 8 cs) ∙ rw (octets-none 8) at (characters-fit rule [] cs tt b))

abbrev Raws : List ℕ → Type 0
Raws us = All (λ u. u < 16) us

coded-bytes : (us : List ℕ) → Raws us → Bytes (coded 48 us)
unfolding coded
coded-bytes [] h = tt
coded-bytes (u ∷ us) h = (omega (arith, h.0), coded-bytes us h.1)

spaced-bytes : (us : List ℕ) → Raws us → Bytes (spaced us)
unfolding spaced
spaced-bytes [] h = tt
spaced-bytes (u ∷ us) h = (go (eqb u 0), spaced-bytes us h.1)
  where
    go : (t : Bool) → cond t 32 (47 + u) < 256
    go true = omega arith
    go false = omega (arith, h.0)

drop_raws : (k : ℕ) (us : List ℕ) → Raws us → Raws (drop k us)
drop_raws zero us h = h
drop_raws (suc k) [] h = tt
drop_raws (suc k) (u ∷ us) h = drop_raws k us h.1

-- rule 1: every raw
raws_fit : (k : ℕ) (us : List ℕ) → Raws us → fit_all 1 k [] (coded 48 us) ≡ true
unfolding fit_all coded octet_fits within
raws_fit zero us h = refl
raws_fit (suc k) [] h = refl
raws_fit (suc k) (u ∷ us) h = rw (raws_fit k us h.1, le-leb 48 (48 + u) (omega arith), lt-ltb (48 + u - 48) 16 (omega (arith, h.0))) refl

-- rule 2: none above 10
digit_test : (u : ℕ) → octet_fits 2 0 (48 + u) ≡ leb u 10
unfolding octet_fits within
digit_test u = rw (le-leb 48 (48 + u) (omega arith)) (go (leb u 10) refl)
  where
    go : (t : Bool) → leb u 10 ≡ t → ltb (48 + u - 48) 11 ≡ t
    go true q = let l = leb-true u 10 q in lt-ltb (48 + u - 48) 11 (omega arith)
    go false q = let l = leb-false u 10 q in le-ltb (48 + u - 48) 11 (omega arith)

swap : (a f d : Bool) → a && (f && d) ≡ (f && a) && d
swap true true d = refl
swap true false d = refl
swap false true d = refl
swap false false d = refl

digits-split : (k : ℕ) (us : List ℕ) → none_above 10 us ≡ fit_all 2 k [] (coded 48 us) && none_above 10 (drop k us)
unfolding fit_all coded none_above
digits-split zero us = refl
digits-split (suc k) [] = refl
digits-split (suc k) (u ∷ us) = rw (digit_test u, digits-split k us) (swap (leb u 10) (fit_all 2 k [] (coded 48 us)) (none_above 10 (drop k us)))

and_comm : (a b : Bool) → a && b ≡ b && a
and_comm true true = refl
and_comm true false = refl
and_comm false true = refl
and_comm false false = refl

empty : {A : Type 0} (l : List A) → length l ≡ 0 → l ≡ []
empty [] h = refl
empty (a ∷ l) h = absurd (omega arith)

digits_twelve : (us : List ℕ) → length us ≡ 12 → fit_all 2 8 [] (coded 48 (drop 8 us)) && fit_all 2 8 [] (coded 48 us) ≡ none_above 10 us
unfolding none_above
digits_twelve us h =
    let e : drop 8 (drop 8 us) ≡ [] = empty (drop 8 (drop 8 us)) (length-drop 8 (drop 8 us) ∙ rw (length-drop 8 us, h) refl) in
    and_comm (fit_all 2 8 [] (coded 48 (drop 8 us))) (fit_all 2 8 [] (coded 48 us)) ∙ sym (digits-split 8 us ∙ ap (λ t. fit_all 2 8 [] (coded 48 us) && t) (digits-split 8 (drop 8 us) ∙ rw e (and_comm _ true)))

-- rule 3: X.680's for each
space_test : (u : ℕ) → octet_fits 3 (48 + u) (cond (eqb u 0) 32 (47 + u)) ≡ true
unfolding octet_fits spaced_one
space_test zero = refl
space_test (suc u) = rw (ne_eqb (suc u) 0 (λ z. absurd (omega arith)), ne_eqb (48 + suc u) 48 (λ z. absurd (omega arith))) (eq-eqb (47 + suc u) (48 + suc u - 1) (omega arith))

spaces_fit : (k : ℕ) (us : List ℕ) → fit_all 3 k (coded 48 us) (spaced us) ≡ true
unfolding fit_all coded spaced
spaces_fit zero us = refl
spaces_fit (suc k) [] = refl
spaces_fit (suc k) (u ∷ us) = rw (spaces_fit k us, space_test u) refl

---------------------------------------------------------------- the rows

-- a row of these five
abbrev channel_row : ℕ → ℕ → ℕ → ℕ → ℕ → Row
channel_row t k n next other = record { tag = t; kind = k; low = n; size = 0; next = next; otherwise = other; back = 0; last = 0 }

abbrev row1 : Row
row1 = channel_row tag.satellite_channel kind.channel 8 124 0

abbrev row2 : Row
row2 = channel_row tag.satellite_channel kind.digits 4 126 125

abbrev row3 : Row
row3 = channel_row tag.satellite_channel kind.channel 4 1 0

abbrev row4 : Row
row4 = channel_row tag.satellite_channel_x691 kind.spaced 8 127 0

abbrev row5 : Row
row5 = channel_row tag.satellite_channel_x691 kind.spaced 4 1 0

rows : (row_at table 123 ≡ row1) × (row_at table 124 ≡ row2) × (row_at table 125 ≡ row3) × (row_at table 126 ≡ row4) × (row_at table 127 ≡ row5)
unfolding row_at row_word table
rows = (refl, refl, refl, refl, refl)

-- a record that the row asked first takes
takes : (s : Walk) (y : Record) (j : ℕ) (r : Row) → row_at table j ≡ r → resolved s s.at ≡ j → fits r s y ≡ true → stepped table s y ≡ onward j r s y
unfolding stepped
takes s y j r e a f = ap (λ i. onward i (row_at table i) s y) (found_here table s y {j = j} {r = r} 64 s.at (omega arith) (sym a) (sym e) refl f) ∙ ap (λ i. onward j i s y) e

module _ (s : Walk) (m q : ℕ) (us : List ℕ) (twelve : length us ≡ 12) (raw : Raws us) (at : resolved s s.at ≡ 123) (own : s.element ≡ m) where
  abbrev y1 : Record
  y1 = fetched (rec tag.satellite_channel m (octets 8 (coded 48 us)) 12 q)

  abbrev y2 : Record
  y2 = fetched (rec tag.satellite_channel m (octets 8 (coded 48 (drop 8 us))) 12 q)

  abbrev y3 : Record
  y3 = fetched (rec tag.satellite_channel_x691 m (octets 8 (spaced us)) 12 q)

  abbrev y4 : Record
  y4 = fetched (rec tag.satellite_channel_x691 m (octets 8 (spaced (drop 8 us))) 12 q)

  abbrev s1 : Walk
  s1 = onward 123 row1 s y1

  abbrev s2 : Walk
  s2 = onward 124 row2 s1 y2

  abbrev s3 : Walk
  s3 = onward 126 row4 s2 y3

  four : length (drop 8 us) ≡ 4
  four = length-drop 8 us ∙ rw twelve refl

  step1 : stepped table s y1 ≡ s1
  unfolding fits element_fits element_kept holds channelled octet_fits
  step1 = takes s y1 123 row1 rows.0 at (rw (eq-eqb m s.element (sym own), alone 1 (λ a c. refl) 8 s.earlier (coded 48 us) (coded-bytes us raw) (rw (length-coded 48 us, twelve) refl), raws_fit 8 us raw) refl)

  digits_test : fits row2 s1 y2 ≡ none_above 10 us
  unfolding fits element_fits element_kept holds channelled all_digits octet_fits onward element_behind left_behind
  digits_test =
      rw (
        eq-eqb m s.element (sym own),
        alone 2 (λ a c. refl) 4 s.before (coded 48 (drop 8 us)) (coded-bytes (drop 8 us) (drop_raws 8 us raw)) (rw (length-coded 48 (drop 8 us), four) refl),
        alone 2 (λ a c. refl) 8 0 (coded 48 us) (coded-bytes us raw) (rw (length-coded 48 us, twelve) refl),
      )
      (digits_twelve us twelve)

  step2 : none_above 10 us ≡ true → stepped table s1 y2 ≡ s2
  unfolding onward resolved left_behind row_behind
  step2 n = takes s1 y2 124 row2 rows.1 refl (digits_test ∙ n)

  raw_test : fits row3 s1 y2 ≡ true
  unfolding fits element_fits element_kept holds channelled octet_fits onward element_behind
  raw_test =
      rw
      (eq-eqb m s.element (sym own), alone 1 (λ a c. refl) 4 s.before (coded 48 (drop 8 us)) (coded-bytes (drop 8 us) (drop_raws 8 us raw)) (rw (length-coded 48 (drop 8 us), four) refl), raws_fit 8 (drop 8 us) (drop_raws 8 us raw))
      refl

  step2_else : none_above 10 us ≡ false → stepped table s1 y2 ≡ onward 125 row3 s1 y2
  unfolding stepped onward resolved left_behind row_behind asked
  step2_else n =
      ap (λ i. onward i (row_at table i) s1 y2)
      (found-later table s1 y2 {j = 124} {r = row2} 64 124 {k' = 125} (omega arith) refl (sym rows.1) refl (digits_test ∙ n) refl ∙ found_here table s1 y2 {j = 125} {r = row3} 63 125 (omega arith) refl (sym rows.2) refl raw_test)
      ∙ ap (λ i. onward 125 i s1 y2) rows.2

  step3 : stepped table s2 y3 ≡ s3
  unfolding fits element_fits element_kept holds channelled onward element_behind resolved left_behind row_behind characters_fit
  step3 = takes s2 y3 126 row4 rows.3 refl
      (rw
      (eq-eqb m s.element (sym own), rw (length-spaced us, twelve) at (characters-fit 3 (coded 48 us) (spaced us) (coded-bytes us raw) (spaced-bytes us raw)), spaces_fit 8 us)
      refl)

  step4 : stepped table s3 y4 ≡ onward 127 row5 s3 y4
  unfolding fits element_fits element_kept holds channelled onward element_behind resolved left_behind row_behind characters_fit
  step4 = takes s3 y4 127 row5 rows.4 refl
      (rw (
        eq-eqb m s.element (sym own),
        rw (length-spaced (drop 8 us), four) at (characters-fit 3 (coded 48 (drop 8 us)) (spaced (drop 8 us)) (coded-bytes (drop 8 us) (drop_raws 8 us raw)) (spaced-bytes (drop 8 us) (drop_raws 8 us raw))),
        spaces_fit 8 (drop 8 us),
      )
      refl)

  -- behind them all, where the walk has gone on as before
  abbrev Gone : Walk → Type 0
  Gone w = (w.at ≡ 1) × (w.back ≡ s.back) × (w.last ≡ s.last) × (w.element ≡ s.element) × (w.clearance ≡ s.clearance) × (w.place ≡ s.place) × (w.left ≡ 0)

  gone_digits : Gone (onward 127 row5 s3 y4)
  unfolding onward left_behind row_behind or_kept element_behind element_kept clearance_behind place_behind
  gone_digits = (refl, refl, refl, refl, refl, refl, refl)

  gone_others : Gone (onward 125 row3 s1 y2)
  unfolding onward left_behind row_behind or_kept element_behind element_kept clearance_behind place_behind
  gone_others = (refl, refl, refl, refl, refl, refl, refl)

  channel-walk : Gone (walked table s (pack tag.satellite_channel m q (coded 48 us) ++ cond (none_above 10 us) (pack tag.satellite_channel_x691 m q (spaced us)) []))
  unfolding pack packs walked
  channel-walk = rw (length-coded 48 us, length-spaced us, twelve, drop-coded 8 48 us, drop-spaced 8 us) (go (none_above 10 us) refl)
    where
      go : (t : Bool) → none_above 10 us ≡ t → Gone (walked table (stepped table (stepped table s y1) y2) (cond t (rec tag.satellite_channel_x691 m (octets 8 (spaced us)) 12 q ∷ rec tag.satellite_channel_x691 m (octets 8 (spaced (drop 8 us))) 12 q ∷ []) []))
      go true n = rw (step1, step2 n, step3, step4) gone_digits
      go false n = rw (step1, step2_else n) gone_others

---------------------------------------------------------------- a whole channel

-- behind a channel's text with these two tags
unfoldable pub channel_step : Scope → ℕ → ℕ → State → State
channel_step Γ t v lost = lost
channel_step Γ t v (stands a b l e c p) = cond (eqb t tag.satellite_channel && (eqb v tag.satellite_channel_x691 && (eqb (meant b l a) 123 && agree Γ.own e))) (stands 1 b l e c p) lost

resolved_meant : (s : Walk) (k : ℕ) → resolved s k ≡ meant s.back s.last k
unfolding resolved meant
resolved_meant s k = refl

pub channel-step : (ρ : ℕ → ℕ) (Γ : Scope) (x : Ctx) → Known ρ Γ x → (t v q : ℕ) (us : List ℕ) → length us ≡ 12 → Raws us → (s : Walk) (σ : State) → Covers ρ σ s →
    Covers ρ (channel_step Γ t v σ) (walked table s (pack t x.0 q (coded 48 us) ++ cond (none_above 10 us) (pack v x.0 q (spaced us)) []))
unfolding channel_step
channel-step ρ Γ x k t v q us twelve raw s lost g = tt
channel-step ρ Γ x k t v q us twelve raw s (stands a b l e c p) g = go _ refl
  where
    there : eqb (meant b l a) 123 ≡ true → resolved s s.at ≡ 123
    there f = let here : meant s.back s.last s.at ≡ 123 = rw (g.0, g.1, g.2) (eqb-true (meant b l a) 123 f) in resolved_meant s s.at ∙ here

    go : (u : Bool) → eqb t tag.satellite_channel && (eqb v tag.satellite_channel_x691 && (eqb (meant b l a) 123 && agree Γ.own e)) ≡ u →
        Covers ρ (cond u (stands 1 b l e c p) lost) (walked table s (pack t x.0 q (coded 48 us) ++ cond (none_above 10 us) (pack v x.0 q (spaced us)) []))
    go true f =
        let f1 = both (eqb t tag.satellite_channel) _ f in
        let f2 = both (eqb v tag.satellite_channel_x691) _ f1.1 in
        let f3 = both (eqb (meant b l a) 123) _ f2.1 in
        let own : x.0 ≡ s.element = agree_equal ρ Γ.own e _ _ f3.1 k.1 g.3 in
        let w = channel-walk s x.0 q us twelve raw (there f3.0) (sym own) in
        rw (eqb-true t tag.satellite_channel f1.0, eqb-true v tag.satellite_channel_x691 f2.0) (w.0, w.1 ∙ g.1, w.2 ∙ g.2, rw w.3 g.3, rw w.4 g.4, rw w.5 g.5, w.6)
    go false f = tt
