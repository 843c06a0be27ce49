-- Entries that are there, and those that are still to be put among them.
use mathlib.Core.Path.{◌≡◌, refl, sym, ap, ◌∙◌}
use mathlib.Core.Bool.{Bool, true, false, cond, not, ◌&&◌}
use mathlib.Core.List.{List, [], ◌∷◌, ◌++◌}
use mathlib.Core.Option.{Option, none, some}
use Prim.Native.Nat.{ℕ, ◌+◌, ◌*◌, ◌/◌, ◌-◌, ◌≤◌}
use native.Mathlib.Omega.{arith}
use lib.Dec.{leb, eqb}
use lib.ListN.{length, take, drop, replicate}
use borrow.Author.Tests.{not-true, not-false}
use Rattle.book_entries.specs.declared.Entry.{Entry}
use Rattle.book_entries.specs.Entries.{good}
use Rattle.book_entries.specs.Book.{holds, numbered, orderly, picture, laid, entries, listed}
use Rattle.book_entries.proofs.Tests.{both, neither}
use Rattle.book_entries.proofs.Listed.{listing, listed-laid, laid-length}
use Rattle.book_changes.specs.Changes.{insert}
use Rattle.book_changes.proofs.Orderly.{alike, eqb_comm, alike_comm, holds-insert, insert-orderly, insert-length}
use Rattle.book_changes.proofs.LaidLaws.{laid-insert}
use Rattle.book_lines.specs.Lines.{onward, entry_of, checked, parts, entry, also, lines}
use Rattle.book_text.specs.Cuts.{collected}
use Rattle.loaded_books.specs.Loads.{meets, distinct, gathered, Fit}
use Rattle.loaded_books.proofs.LoadLaws.{some_is, none-some, split, bad_first, at-end}

-- every entry that a line gives is good
abbrev pub bad : Entry → Bool
bad e = not (good e)

checked-good : (f : Entry) {e : Entry} → checked f ≡ some e → good e ≡ true
unfolding checked
checked-good f {e} h = go (good f) refl h
  where
    go : (b : Bool) → good f ≡ b → cond b (some f) none ≡ some e → good e ≡ true
    go true g k = rw (← some_is k) g
    go false g k = absurd (none-some k)

bound : (F : ℕ → Option Entry) {e : Entry} (o : Option ℕ) → elim o [ none ↦ none | some x ↦ F x ] ≡ some e → (x : ℕ) × (F x ≡ some e)
bound F none h = absurd (none-some h)
bound F (some x) h = (x, h)

held_in : {A : Type 0} (t : Bool) {o : Option A} {x : A} → cond t o none ≡ some x → o ≡ some x
held_in true h = h
held_in false h = absurd (none-some h)

entry-good : (l : List ℕ) {e : Entry} → entry l ≡ some e → good e ≡ true
unfolding entry parts
entry-good l {e} h =
    let s = (length l - 12) / 2 in
    let third : ℕ → ℕ → ℕ → Option Entry = λ x k b. checked (entry_of s x k b) in
    let second : ℕ → ℕ → Option Entry = λ x k. elim (onward 0 (drop (s * 2 + 8) l)) [ none ↦ none | some b ↦ third x k b ] in
    let first : ℕ → Option Entry = λ x. elim (onward 0 (take 8 (drop (s * 2) l))) [ none ↦ none | some k ↦ second x k ] in
    let a = bound first (onward 0 (take (s * 2) l)) (held_in (leb 16 (length l) && leb (length l) 29) h) in
    let b = bound (second a.0) (onward 0 (take 8 (drop (s * 2) l))) a.1 in
    let c = bound (third a.0 b.0) (onward 0 (drop (s * 2 + 8) l)) b.1 in
    checked-good (entry_of s a.0 b.0 c.0) c.1

joined : (o : Option Entry) (p : Option (List Entry)) {L : List Entry} → ((e : Entry) → o ≡ some e → good e ≡ true) → ((N : List Entry) → p ≡ some N → holds bad N ≡ false) → also o p ≡ some L → holds bad L ≡ false
unfolding also holds
joined none p f g h = absurd (none-some h)
joined (some e) none f g h = absurd (none-some h)
joined (some e) (some N) f g h = rw (← some_is h, f e refl, g N refl) refl

pub lines-good : (t l : List ℕ) {L : List Entry} → lines l t ≡ some L → holds bad L ≡ false
unfolding lines holds
lines-good [] l h = rw (← some_is (held_in (eqb (length l) 0) h)) refl
lines-good (c ∷ t) l {L} h = go (eqb c 10) (λ N k. lines-good t [] k) (λ N k. lines-good t (l ++ c ∷ []) k) h
  where
    go : (b : Bool) → ((N : List Entry) → lines [] t ≡ some N → holds bad N ≡ false) → ((N : List Entry) → lines (l ++ c ∷ []) t ≡ some N → holds bad N ≡ false) → cond b (also (entry l) (lines [] t)) (lines (l ++ c ∷ []) t) ≡ some L → holds bad L ≡ false
    go true f g k = joined (entry l) (lines [] t) (λ e q. entry-good l q) f k
    go false f g k = g L k

meets_comm : (e f : Entry) → meets e f ≡ meets f e
meets_comm e f = rw (eqb_comm f.number e.number, alike_comm e f)

-- no entry of E has the number, and none the name
apart_both : (e : Entry) (E : List Entry) → holds (meets e) E ≡ false → (holds (numbered e.number) E ≡ false) × (holds (alike e) E ≡ false)
unfolding holds
apart_both e [] h = (refl, refl)
apart_both e (f ∷ E) h =
    let n = neither (meets e f) (holds (meets e) E) h in
    let m = neither (numbered e.number f) (alike e f) n.0 in
    let r = apart_both e E n.1 in
    (rw m.0 r.0, rw m.1 r.1)

-- those of N are good, and meet neither each other nor those of A
pub record Ready (A N : List Entry) : Type 0 where
  pub orderly : orderly A ≡ true
  pub apart : distinct N ≡ true
  pub good : holds bad N ≡ false
  pub free : holds (λ f. holds (meets f) A) N ≡ false

still-free : (e : Entry) (A N : List Entry) → holds (meets e) N ≡ false → holds (λ f. holds (meets f) A) N ≡ false → holds (λ f. holds (meets f) (insert e A)) N ≡ false
unfolding holds
still-free e A [] m f = refl
still-free e A (g ∷ N) m f =
    let a = neither (meets e g) (holds (meets e) N) m in
    let b = neither (holds (meets g) A) (holds (λ h. holds (meets h) A) N) f in
    rw (holds-insert (meets g) e A, meets_comm g e, a.0, b.0) (still-free e A N a.1 b.1)

pub ready_next : (A : List Entry) (e : Entry) (N : List Entry) → Ready A (e ∷ N) → Ready (insert e A) N
unfolding distinct holds
ready_next A e N r =
    let d = both (not (holds (meets e) N)) (distinct N) r.apart in
    let g = neither (bad e) (holds bad N) r.good in
    let f = neither (holds (meets e) A) (holds (λ h. holds (meets h) A) N) r.free in
    let m = apart_both e A f.0 in
    record { orderly = insert-orderly e A (not-false (good e) g.0) m.0 m.1 r.orderly; apart = d.1; good = g.1; free = still-free e A N (not-true (holds (meets e) N) d.0) f.1 }

no_one : (N : List Entry) → holds (λ f. holds (meets f) []) N ≡ false
unfolding holds
no_one [] = refl
no_one (e ∷ N) = no_one N

pub ready_first : (t : List ℕ) {L : List Entry} → lines [] t ≡ some L → distinct L ≡ true → Ready [] L
unfolding orderly
ready_first t {L} h d = record { orderly = refl; apart = d; good = lines-good t [] h; free = no_one L }

-- all of a good saved book, those of them that are in the words v, and the lines O that are left
pub record Putting (t w v : List ℕ) (O : List (Option Entry)) : Type 0 where
  pub all : List Entry
  pub there : List Entry
  pub left : List Entry
  pub is : lines [] t ≡ some all
  pub shows : v ≡ laid (length w) there
  pub rest : collected O ≡ some left
  pub same : gathered [] all ≡ gathered there left
  pub ready : Ready there left
  pub few : length there + length left ≤ length w / 4

module _ {t w v : List ℕ} {O : List (Option Entry)} (p : Putting t w v O) where
  pub lists_there : listed v ≡ some p.there
  lists_there = rw p.shows (listed-laid (length w) p.there p.ready.orderly (omega (arith, p.few)))

  pub as_long : length v ≡ length w
  as_long = ap length p.shows ∙ laid-length (length w) p.there (omega (arith, p.few))

  pub counted : length (entries v) ≡ length p.there
  counted = ap length (listing lists_there).is

  module _ {L : List (Option Entry)} {e : Entry} (is : O ≡ some e ∷ L) where
    pub place-left : length p.there + 1 ≤ length w / 4
    place-left = let q = split is p.rest in omega (arith, p.few, ap length q.is)

    pub put_next : {v' : List ℕ} → v' ≡ picture (insert e (entries v)) ++ drop ((length (entries v) + 1) * 4) v → Putting t w v' L
    unfolding gathered
    put_next x =
        let q = split is p.rest in
        let y = rw counted at x in
        record {
          all = p.all;
          there = insert e p.there;
          left = q.others;
          is = p.is;
          shows = rw (← as_long) (laid-insert (listing lists_there) e y);
          rest = q.rest;
          same = p.same ∙ ap (λ (N : List Entry). gathered p.there N) q.is;
          ready = ready_next p.there e q.others (rw q.is at p.ready);
          few = omega (arith, p.few, insert-length e p.there, ap length q.is);
        }

  -- all are there
  pub put_last : {L : List Entry} → O ≡ [] → lines [] t ≡ some L → v ≡ laid (length w) (gathered [] L)
  unfolding gathered
  put_last q h =
      let e = some_is (sym h ∙ p.is) in
      p.shows ∙ ap (λ (E : List Entry). laid (length w) E) (sym (rw (at-end q p.rest) at p.same) ∙ ap (λ (E : List Entry). gathered [] E) (sym e))

  pub no-bad : {A : Type 0} {L : List (Option Entry)} → O ≡ none ∷ L → A
  no-bad is = absurd (none-some (sym (bad_first is) ∙ p.rest))

-- an emptied book, and a saved one that fits
pub put_first : {t w : List ℕ} {O : List (Option Entry)} → lines [] t ≡ collected O → w ≡ replicate (length w) 0 → Fit t w → Putting t w w O
unfolding laid picture
put_first {t} {w} i z f =
    let e : length w - 0 * 4 ≡ length w = omega arith in
    record {
      all = f.entries;
      there = [];
      left = f.entries;
      is = f.is;
      shows = rw e z;
      rest = sym i ∙ f.is;
      same = refl;
      ready = ready_first t f.is f.apart;
      few = omega (arith, f.few);
    }
