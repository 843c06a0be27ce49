-- Each way through a call is one of the definition.
use mathlib.Core.Path.{◌≡◌, refl, sym, ap, ◌∙◌}
use mathlib.Core.Bool.{Bool, true, false, cond}
use mathlib.Core.List.{List, ◌++◌, append-nil}
use mathlib.Core.Option.{none, some}
use Prim.Native.Nat.{ℕ, zero, suc, ◌+◌, ◌*◌, ◌/◌, ◌-◌, ◌≤◌, ◌<◌}
use native.Mathlib.Nat.{le_refl}
use native.Mathlib.Numerals.{add-one}
use native.Mathlib.Omega.{arith}
use lib.ListN.{length, take, drop, get_or, length-append, length-drop, drop_of_length-le}
use lib.Seq.{drop-drop, get_or-drop, drop_at, length-take-le}
use borrow.Author.Tests.{lt-ltb, le-ltb}
use borrow.Rule.Slice.PartMut.{put_mid}
use Rattle.book_entries.specs.declared.Entry.{Entry}
use Rattle.book_entries.specs.Entries.{text, size, good, words, entry_at}
use Rattle.book_entries.specs.Book.{holds, named, numbered, picture, laid, entries, listed}
use Rattle.std.specs.Prelude.{Option, Some, None, Result, Ok, Err}
use Rattle.book_entries.proofs.Places.{from, next_of}
use Rattle.book_entries.proofs.Listed.{listing, laid-is}
use Rattle.book_changes.specs.Changes.{insert, vacant}
use Rattle.book_changes.proofs.LaidLaws.{laid-insert, laid-without}
use Rattle.book_search.proofs.SearchLaws.{Placed}
use Rattle.counted_books.specs.Counted.{room, shown, held, recounted}
use Rattle.counted_books.proofs.CountLaws.{lent, lent_is}
use Rattle.counted_books.specs.Holding.{Fits}
use Rattle.counted_books.proofs.Held.{holding, recounted-shown}
use Rattle.name_book.specs.declared.Added.{Added}
use Rattle.name_book.specs.declared.Added.TheVariants.{New, Repeated, NoName}
use Rattle.name_book.specs.declared.Refusal.{Refusal}
use Rattle.name_book.specs.declared.Refusal.TheVariants.{NotABook, NumberHeld, NoSuchFrame, BookFull}
use Rattle.name_book.specs.declared.Frame.{Frame}
use Rattle.name_book.specs.Calls.{opened, changed, first, offer, take_out, frame_of, find, look_up, Leaves}

-- what the test of the slice has said
module _ (w : List ℕ) {r : Bool} (e : held w ≡ cond r (some (entries (drop 2 w))) none) where
  pub unheld : r ≡ false → held w ≡ none
  unheld f = e ∙ rw f

  pub is_held : r ≡ true → held w ≡ some (entries (drop 2 w))
  is_held f = e ∙ rw f

-- the places of a book that holds E, lent to a call
module _ (w : List ℕ) {E : List Entry} (h : held w ≡ some E) where
  pub lent-long : 2 ≤ length w
  lent-long = (holding w h).long

  pub lent-entries : entries (lent w) ≡ E
  lent-entries = rw (lent_is w) (listing (holding w h).places).is

  pub lent-listed : listed (lent w) ≡ some (entries (lent w))
  lent-listed = rw (lent-entries, lent_is w) (holding w h).places

  pub lent-places : length (lent w) ≡ length w - 2
  lent-places = rw (lent_is w) (length-drop 2 w)

  -- they are put back behind the number
  pub put_back : (v : List ℕ) → put_mid 2 (length w - 2) w v ≡ take 2 w ++ v
  put_back v = let e : length (drop 2 w) ≤ length w - 2 = simp length-drop (le_refl _) in rw (drop_of_length-le (drop 2 w) e, append-nil)

  pub back_long : (v : List ℕ) → 2 ≤ length (put_mid 2 (length w - 2) w v)
  back_long v = rw (put_back v) (omega (arith, length-append (take 2 w) v, length-take-le 2 w lent-long))

from-drop : (w : List ℕ) (i : ℕ) → i ≤ length (entries w) → drop i (entries w) ≡ from w i
from-drop w zero p = refl
from-drop w (suc i) p =
    let e : i + 1 ≡ suc i = add-one i in
    rw (← e, ← drop-drop 1 i (entries w), from-drop w i (omega arith), next_of w i (omega arith))

-- the entry at a place in use
pub entry_of : (w : List ℕ) (i : ℕ) → i < length (entries w) → get_or (entries w) i vacant ≡ entry_at w i
entry_of w i p =
    let e : i + 0 ≡ i = omega arith in
    let g : get_or (drop i (entries w)) 0 vacant ≡ get_or (entries w) (i + 0) vacant = get_or-drop i (entries w) 0 vacant in
    rw e at (sym g) ∙ rw (from-drop w i (omega arith), next_of w i p)

-- the entry at the first place that fits
pub first-of : (w : List ℕ) {fits : Entry → Bool} {p : ℕ} {f : Entry} → Placed fits (entries w) p → f ≡ entry_at w p → f ≡ first fits (entries w)
first-of w {p = p} a is = is ∙ sym (entry_of w p a.within) ∙ ap (λ (i : ℕ). get_or (entries w) i vacant) a.first

module _ {A : Type 0} (refusal : A) (w : List ℕ) where
  pub opened-none : (call : List Entry → A × List Entry) → held w ≡ none → Leaves refusal w (opened w refusal call)
  unfolding opened
  opened-none call h = record { is = rw (h, opened) }

  -- a call has changed the places, and the number in front is set anew
  pub opened-changed : (call : ℕ → List Entry → A × List Entry) {E : List Entry} {r : A} {v x : List ℕ} → held w ≡ some E → Fits (room w) (call (room w) E).1 → Leaves r v (changed (lent w) call) → x ≡ recounted (put_mid 2 (length w - 2) w v) → Leaves r x (opened w refusal (call (room w)))
  unfolding opened changed
  opened-changed call {E} {r} {v} {x} h f l e =
      let y : ◌≡◌ {A = A × List ℕ} (r, v) ((call (room w) E).0, laid (length w - 2) (call (room w) E).1) = rw (lent-entries w h, lent-places w h) at l.is in
      let p : r ≡ (call (room w) E).0 = ap (λ (o : A × List ℕ). o.0) y in
      let q : v ≡ laid (length w - 2) (call (room w) E).1 = ap (λ (o : A × List ℕ). o.1) y in
      let d : drop 2 (take 2 w ++ v) ≡ v = drop_at (take 2 w) v 2 (length-take-le 2 w (lent-long w h)) in
      let s : x ≡ shown (length w) (call (room w) E).1 = e ∙ rw (put_back w h v) (recounted-shown (length w) (call (room w) E).1 (lent-long w h) f (take 2 w ++ v) (d ∙ q)) in
      record { is = rw (h, opened) (rw (p, s)) }

-- the places alone
module _ {A : Type 0} (w : List ℕ) (call : ℕ → List Entry → A × List Entry) where
  pub changed_to : {E : List Entry} {a : A} {v : List ℕ} → call (length w / 4) (entries w) ≡ (a, E) → v ≡ laid (length w) E → Leaves a v (changed w call)
  unfolding changed
  changed_to c e = record { is = rw (c, e) }

  -- nothing changed
  pub changed-not : {a : A} → listed w ≡ some (entries w) → call (length w / 4) (entries w) ≡ (a, entries w) → Leaves a w (changed w call)
  changed-not h c = changed_to c (laid-is h)

-- the entry e is offered to places that list their entries
module _ (w : List ℕ) (e : Entry) (h : listed w ≡ some (entries w)) where
  same : {a : Result Added Refusal} → offer (length w / 4) e (entries w) ≡ (a, entries w) → Leaves a w (changed w (λ n. offer n e))
  same o = changed-not w (λ n. offer n e) h o

  pub add_taken : holds (numbered e.number) (entries w) ≡ true → Leaves (Err NumberHeld) w (changed w (λ n. offer n e))
  unfolding offer
  add_taken t = same (rw t)

  module _ (t : holds (numbered e.number) (entries w) ≡ false) where
    pub add-nameless : good e ≡ false → Leaves (Ok NoName) w (changed w (λ n. offer n e))
    unfolding offer
    add-nameless g = same (rw (t, g))

    module _ (g : good e ≡ true) where
      pub add_repeated : {k : ℕ} → holds (named (text e) (size e)) (entries w) ≡ true → k ≡ (first (named (text e) (size e)) (entries w)).number → Leaves (Ok (Repeated k)) w (changed w (λ n. offer n e))
      unfolding offer
      add_repeated n k = same (rw (t, g, n, k))

      module _ (n : holds (named (text e) (size e)) (entries w) ≡ false) where
        pub add_full : length w / 4 ≤ length (entries w) → Leaves (Err BookFull) w (changed w (λ n. offer n e))
        unfolding offer
        add_full r = same (rw (t, g, n, le-ltb (length (entries w)) (length w / 4) r))

        pub add-new : {v : List ℕ} → length (entries w) < length w / 4 → v ≡ picture (insert e (entries w)) ++ drop ((length (entries w) + 1) * 4) w → Leaves (Ok New) v (changed w (λ n. offer n e))
        unfolding offer
        add-new r x = changed_to w (λ n. offer n e) (rw (t, g, n, lt-ltb (length (entries w)) (length w / 4) r)) (laid-insert (listing h) e x)

module _ (w : List ℕ) (k : ℕ) (h : listed w ≡ some (entries w)) where
  pub withdraw-absent : holds (numbered k) (entries w) ≡ false → Leaves (Err NoSuchFrame) w (changed w (λ n. take_out k))
  unfolding take_out
  withdraw-absent n = changed-not w (λ n. take_out k) h (rw n)

  -- its place is p
  pub withdraw_gone : {p : ℕ} {v : List ℕ} → Placed (numbered k) (entries w) p → v ≡ take (p * 4) w ++ picture (from w (p + 1)) ++ words vacant ++ drop (length (entries w) * 4) w → Leaves (Ok tt) v (changed w (λ n. take_out k))
  unfolding take_out
  withdraw_gone a x = changed_to w (λ n. take_out k) (rw a.there) (laid-without (listing h) k (omega (arith, a.within, a.first)) (rw a.first at x))

pub look-up_unsound : (w : List ℕ) (t s : ℕ) → held w ≡ none → Err NotABook ≡ look_up w t s
unfolding look_up
look-up_unsound w t s h = rw (h, look_up)

pub look-up-held : (w : List ℕ) (t s : ℕ) {E : List Entry} {r : Option Frame} → held w ≡ some E → r ≡ find t s (entries (lent w)) → Ok r ≡ look_up w t s
unfolding look_up
look-up-held w t s h e = rw (h, look_up) (ap (λ (f : Option Frame). Ok f) (e ∙ rw (lent-entries w h)))

module _ (w : List ℕ) (t s : ℕ) where
  pub find_nowhere : holds (named t s) (entries w) ≡ false → None ≡ find t s (entries w)
  unfolding find
  find_nowhere n = rw n

  pub find_at : {e : Entry} → holds (named t s) (entries w) ≡ true → e ≡ first (named t s) (entries w) → Some (frame_of e) ≡ find t s (entries w)
  unfolding find
  find_at n f = rw (n, f)
