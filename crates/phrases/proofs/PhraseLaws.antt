-- The first of a byte, and the lines of a table, one at a time.
use Rattle.std.specs.Prelude.{◌≡◌, Bool, true, false, cond, None, Some, List, [], ◌∷◌, ℕ, zero, suc, ◌+◌, ◌-◌, ◌≤◌, ◌<◌, length, take, drop, eqb, position, unwrap_or}
use Rattle.std.proofs.Common.{refl, sym, ◌∙◌, ap, arith, rules}
use Rattle.std.proofs.lemmas.List.Recursion.{is_position_or_len}
use native.Mathlib.Numerals.{unary_clauses}
use lib.ListN.{length-take, length-drop, drop_of_length-le}
use lib.Seq.{take_all}
use Rattle.phrases.specs.Phrases.{place, phrase_of, or_nothing, line_of, close}
use Rattle.phrases.specs.Found.{Placed, Bracketed}
use Rattle.std.specs.List.{position_or_len}

place-position : (c : ℕ) (t : List ℕ) → place c t ≡ position_or_len (λ b. eqb b c) t
unfolding place
place-position c t =
    is_position_or_len (place c) (λ b. eqb b c) refl (λ x xs. let e : suc (place c xs) ≡ 1 + place c xs = omega arith in ap (λ (k : ℕ). cond (eqb x c) 0 k) e) t

place-within : (c : ℕ) (t : List ℕ) → place c t ≤ length t
unfolding place
place-within c [] = omega arith
place-within c (x ∷ t) = let h = place-within c t in grind (arith, h)

-- where the library finds it
pub placed : (c : ℕ) (t : List ℕ) (r : ℕ) → r ≡ unwrap_or (position (λ b. eqb b c) t) (length t) → Placed c t r
placed c t r e =
    let p = place-position c t in
    let h = place-within c t in
    let n : unwrap_or (position (λ b. eqb b c) t) (length t) ≡ place c t = grind (arith, p, h) in
    record { is = e ∙ n; within = omega (arith, e, n, h) }

-- the rest of a text
pub tail : (text : List ℕ) (from : ℕ) → take (length text - from) (drop from text) ≡ drop from text
tail text from = take_all (length text - from) (drop from text) (omega (arith, length-drop from text))

no_line : (i : ℕ) → phrase_of [] i ≡ None
unfolding phrase_of place
no_line zero = refl
no_line (suc i) = no_line i

-- the lines before are passed, and `left` more are to be
pub is_here : (rest : List ℕ) (left n : ℕ) {b : Bool} → left ≡ 0 → b ≡ eqb (length rest) 0 → b ≡ false → Placed 10 rest n → Some (take n rest) ≡ phrase_of rest left
unfolding phrase_of
is_here rest left n z e h p = rw (z, ← e, h, ← p.is)

pub is_past : (rest : List ℕ) (left : ℕ) → length rest ≡ 0 → None ≡ phrase_of rest left
is_past [] left z = sym (no_line left)
is_past (x ∷ t) left z = search rules

pub passed : (rest : List ℕ) (left n : ℕ) → (left ≡ 0 → ⊥) → Placed 10 rest n → phrase_of rest left ≡ phrase_of (drop (n + 1) rest) (left - 1)
unfolding phrase_of
passed rest zero n z p = search rules
passed rest (suc k) n z p = simp unary_clauses (rw p.is refl)

-- the rest of the table is shorter, and the phrase a line nearer
pub onward : (rest : List ℕ) (left next n : ℕ) → (left ≡ 0 → ⊥) → next ≡ left - 1 → Placed 10 rest n → phrase_of rest left ≡ phrase_of (take (length rest - (n + 1)) (drop (n + 1) rest)) next
onward rest left next n z e p = rw (tail rest (n + 1), e) (passed rest left n z p)

-- the last line has no line feed
pub was_last : (rest : List ℕ) (left n : ℕ) → (left ≡ 0 → ⊥) → Placed 10 rest n → length rest ≤ n → None ≡ phrase_of rest left
was_last rest left n z p l =
    let a : length rest ≤ n + 1 = omega arith in
    sym (passed rest left n z p ∙ rw (drop_of_length-le rest a) (no_line (left - 1)))

-- a line is no longer than its table
some-within : (b : Bool) (l : List ℕ) {n : ℕ} → length l ≤ n → length (or_nothing (cond b None (Some l))) ≤ n
unfolding or_nothing
some-within true l h = omega arith
some-within false l h = h

phrase-within : (i : ℕ) (table : List ℕ) → length (or_nothing (phrase_of table i)) ≤ length table
unfolding phrase_of
phrase-within zero table = some-within (eqb (length table) 0) (take (place 10 table) table) (omega (arith, length-take (place 10 table) table))
phrase-within (suc i) table = let h = phrase-within i (drop (place 10 table + 1) table) in omega (arith, h, length-drop (place 10 table + 1) table)

pub line-within : (i : ℕ) (table : List ℕ) → length (line_of table i) ≤ length table
unfolding line_of
line-within i table = phrase-within i table

-- what is put of a line is the line
pub line-of : (table : List ℕ) (i : ℕ) (l : List ℕ) → Some l ≡ phrase_of table i → (l ≡ line_of table i) × (length l ≤ length table)
unfolding line_of or_nothing
line-of table i l e = let h = phrase-within i table in (rw (← e) refl, rw (← e) at h)

pub line-none : (table : List ℕ) (i : ℕ) → None ≡ phrase_of table i → line_of table i ≡ []
unfolding line_of or_nothing
line-none table i e = rw (← e) refl

-- the bracket that opens first, and where it closes
closes-at : (phrase : List ℕ) {i j : ℕ} → Placed 91 phrase i → Placed 93 (take (length phrase - i) (drop i phrase)) j → close phrase ≡ i + j
unfolding close
closes-at phrase {i} {j} p q = rw (← p.is) (ap (λ (k : ℕ). i + k) (sym (rw (tail phrase i) at q.is)))

pub closed : (phrase : List ℕ) {i j : ℕ} → Placed 91 phrase i → Placed 93 (take (length phrase - i) (drop i phrase)) j → i + j < length phrase → Bracketed phrase (record { opens = i; closes = Some (i + j) })
closed phrase p q h =
    let e = closes-at phrase p q in
    record { open_is = p.is; closed = record { close_is = sym e; order = omega arith; within = h }; unclosed = tt; within = p.within }

pub unclosed : (phrase : List ℕ) {i j : ℕ} → Placed 91 phrase i → Placed 93 (take (length phrase - i) (drop i phrase)) j → length phrase ≤ i + j → Bracketed phrase (record { opens = i; closes = None })
unclosed phrase {i} {j} p q h =
    let e = closes-at phrase p q in
    record { open_is = p.is; closed = tt; unclosed = omega (arith, e, p.within, q.within, length-take (length phrase - i) (drop i phrase), length-drop i phrase); within = p.within }
