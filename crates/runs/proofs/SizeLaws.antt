-- A size, and what is read and told behind it.
use mathlib.Core.Path.{◌≡◌, refl, sym, ap, ◌∙◌}
use mathlib.Core.List.{List, [], ◌∷◌}
use Prim.Native.Nat.{ℕ, ◌+◌, ◌-◌, ◌≤◌, ◌<◌}
use native.Mathlib.Omega.{arith}
use Rattle.x691.specs.Bits.{bit_of, uint}
use Rattle.x691.specs.Encoding.{width}
use Rattle.atn.specs.Format.{out}
use Rattle.atn.specs.Reading.{Rec, rec, Ans, ok, past, stop, glue, then, or, over, sized}
use Rattle.atn.proofs.Firm.{is_past}
use Rattle.atn.proofs.Marks.{or_nil}
use Rattle.atn.proofs.Reach.{split}
use Rattle.atn.proofs.Steps.{pull_go, pull_no}
use Rattle.cursor.specs.declared.place.Cursor.{Cursor}
use Rattle.cursor.specs.declared.place.Got.{Got}
use Rattle.field_ranges.specs.Ends.{lowest, highest}
use Rattle.cursor.specs.Place.{number, put, Inside, Led}
use Rattle.cursor.specs.Place as place
use Rattle.character_strings.specs.Texts.{Sized}
use Rattle.cursor.proofs.Laws.{reads_ok, marked-nil}
use Rattle.runs.specs.declared.At.{At}
use Rattle.runs.specs.Runs.{Ran, stayed, went, failed, Runs}
use Rattle.runs.proofs.RunLaws.{ran_stays, ran_then, ran_same}

-- what an answer tells of itself
unfoldable stand : Ans → ℕ
stand (ok p R m) = p
stand (past lacked p R m) = p
stand (stop w p R m) = p

unfoldable marks : Ans → ℕ
marks (ok p R m) = m
marks (past lacked p R m) = m
marks (stop w p R m) = m

unfoldable whys : Ans → ℕ
whys (ok p R m) = 0
whys (past lacked p R m) = 0
whys (stop w p R m) = number w

unfoldable first : List Rec → ℕ
first [] = 0
first (rec t n v y q ∷ R) = t

unfoldable told : Ans → ℕ
told (ok p R m) = first R
told (past lacked p R m) = first R
told (stop w p R m) = first R

unfoldable shape : Ans → ℕ
shape (ok p R m) = 0
shape (past lacked p R m) = 1
shape (stop w p R m) = 2

-- what a size gave, whatever follows it
data SizedAt (row : ℕ) (s : List ℕ) (c : Cursor) (g : Got ℕ) : Type 0 where
  stuck : (c.why ≡ 0 → ⊥) → g.c ≡ c → SizedAt row s c g
  short : (o : ℕ) → c.why ≡ 0 → ((K : ℕ → ℕ → Ans) → sized (bit_of s) c.end c.at (lowest row) (highest row) K ≡ stop (out o) c.at [] 0) → g.c ≡ put c c.at (number (out o)) c.marks → SizedAt row s c g
  got : (p m : ℕ) → c.why ≡ 0 → ((K : ℕ → ℕ → Ans) → sized (bit_of s) c.end c.at (lowest row) (highest row) K ≡ then (ok p [] m) (λ q. K g.v q)) → p ≤ c.end → g.c ≡ put c p 0 (or c.marks m)
      → SizedAt row s c g

-- a reading behind the size that tells what it was
abbrev told-size : ℕ → ℕ → Ans
told-size n q = ok q (rec n 0 0 0 0 ∷ []) 0

sized_at : (row : ℕ) {s : List ℕ} {c : Cursor} {g : Got ℕ} → Sized row s c g → Inside s c → SizedAt row s c g
unfolding sized then glue stand marks whys told first shape
sized_at row {s} {c} {g} h i = go ((h.size (λ n u q. told-size n q) (reads_ok (rec g.v 0 0 0 0 ∷ []) 0 (marked-nil g.c))).led i)
  where
    lo : ℕ
    lo = lowest row

    hi : ℕ
    hi = highest row

    w : ℕ
    w = width (hi - lo)

    v : ℕ
    v = uint (bit_of s) c.at w

    there : c.at + w ≤ c.end → (K : ℕ → ℕ → Ans) → sized (bit_of s) c.end c.at lo hi K ≡ then (ok (c.at + w) [] (over hi (lo + v))) (λ q. K (lo + v) q)
    there l K = pull_go (bit_of s) c.end c.at w _ l

    away : c.end < c.at + w → (K : ℕ → ℕ → Ans) → sized (bit_of s) c.end c.at lo hi K ≡ stop (out (c.at + w - c.end)) c.at [] 0
    away l K = pull_no (bit_of s) c.end c.at w _ l

    go : Led (λ u p. sized (bit_of s) u p lo hi (λ n q. told-size n q)) c g.c (rec g.v 0 0 0 0 ∷ []) → SizedAt row s c g
    go (place.Led.stayed n q) = stuck n q
    go (place.Led.went p m z a l q) =
        split (c.at + w) c.end
        (λ y.
        let a' : ok (c.at + w) (rec (lo + v) 0 0 0 0 ∷ []) (or (over hi (lo + v)) 0) ≡ ok p (rec g.v 0 0 0 0 ∷ []) m = sym (there y told-size) ∙ a in
        let e₁ : c.at + w ≡ p = ap stand a' in
        let e₂ : lo + v ≡ g.v = ap told a' in
        let e₃ : over hi (lo + v) ≡ m = sym (or_nil (over hi (lo + v))) ∙ ap marks a' in
        got p m z (λ K. there y K ∙ ap (λ n. then (ok (c.at + w) [] (over hi (lo + v))) (λ q. K n q)) e₂ ∙ ap (λ n. then (ok n [] (over hi (lo + v))) (λ q. K g.v q)) e₁ ∙ ap (λ n. then (ok p [] n) (λ q. K g.v q)) e₃) l q)
        (λ y. absurd (let b : 2 ≡ 0 = ap shape (sym (away y told-size) ∙ a) in omega arith))
    go (place.Led.failed x p m S n z a l q) =
        split (c.at + w) c.end
        (λ y. absurd (let b : 0 ≡ 2 = ap shape (sym (there y told-size) ∙ a) in omega arith))
        (λ y.
        let a' : stop (out (c.at + w - c.end)) c.at [] 0 ≡ stop x p S m = sym (away y told-size) ∙ a in
        let e₁ : c.at ≡ p = ap stand a' in
        let e₂ : number (out (c.at + w - c.end)) ≡ number x = ap whys a' in
        let e₃ : 0 ≡ m = ap marks a' in
        short (c.at + w - c.end) z (away y) (q ∙ rw (← e₁, ← e₂, ← e₃, or_nil c.marks)))

pub runs_sized : {b : ℕ} (row : ℕ) (K : ℕ → ℕ → ℕ → Ans) {s : List ℕ} {c : Cursor} {g : Got ℕ} {n : ℕ} {w w' : List ℕ} {r : At} → Sized row s c g → Runs b (λ u p. K g.v u p) s g.c n w w' r
    → Runs b (λ u p. sized (bit_of s) u p (lowest row) (highest row) (λ n q. K n u q)) s c n w w' r
unfolding is_past
runs_sized row K {s} {c} {g} {r = r} h y = record { recs = y.recs; ran = λ i. go i (sized_at row h i); told = y.told }
  where
    k : ℕ → ℕ → Ans
    k u p = sized (bit_of s) u p (lowest row) (highest row) (λ n q. K n u q)

    l : ℕ → ℕ → Ans
    l u p = K g.v u p

    go : Inside s c → SizedAt row s c g → Ran k c r.c y.recs
    go i (stuck n q) = let e = ran_stays l g.c r.c (rw q n) (y.ran (rw q i)) in stayed n (e.0 ∙ q) e.1
    go i (short o z a q) = let e = ran_stays l g.c r.c (rw q (λ x. omega arith)) (y.ran (rw q i)) in failed (out o) c.at 0 [] (λ x. omega arith) z (a (λ n q. K n c.end q)) i.0 (e.0 ∙ q ∙ rw (or_nil c.marks))
    go i (got p m z a x q) = ran_same (λ u _. then (ok p [] m) (λ q. l u q)) k (λ _. sym (a (λ n q. K n c.end q))) (ran_then (λ _ _. ok p [] m) l refl (went p m z refl x q) (y.ran (rw q (x, i.1))))
