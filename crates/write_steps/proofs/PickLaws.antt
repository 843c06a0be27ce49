-- The alternative that an index names.
use mathlib.Core.Path.{◌≡◌, refl, sym, ap, ◌∙◌}
use mathlib.Core.Bool.{Bool, true, false, cond}
use mathlib.Core.Logic.{inl, inr}
use mathlib.Core.List.{List, [], ◌∷◌}
use Prim.Native.Nat.{ℕ, zero, suc, ◌+◌, ◌≤◌, ◌<◌}
use native.Mathlib.Omega.{arith}
use lib.ListN.{length, get_or}
use lib.Dec.{leb, ltb}
use borrow.Author.Tests.{ltb-false}
use Rattle.x691.specs.Encoding.{count, encode, encode_pick}
use Rattle.atn.specs.Format.{Fmt, choice, Alts, none_left, ◌∥◌, type_of, alternatives_of}
use Rattle.atn.specs.Alternatives.{alternatives_from}
use Rattle.atn.specs.Messages.{no_reader, argument}
use Rattle.atn.specs.Reading.{Ctx}
use Rattle.record_lists.specs.Items.{Item, plain}
use Rattle.record_lists.specs.Parse.{Got, no, got, value_of, leaf, keep, feed, turn, parse, parse_pick}
use Rattle.node_tables.specs.Nodes.{lent_alternatives}
use Rattle.pens.specs.Stand.{Stand}
use Rattle.pens.specs.Writes.{Wrote}
use Rattle.write_leaves.specs.Index.{index_of}

pub nth : Alts → ℕ → Fmt
nth none_left i = no_reader
nth (f ∥ fs) zero = f
nth (f ∥ fs) (suc i) = nth fs i

turn_wrote : {A B : Type 0} (enc : A → List ℕ) (enc' : B → List ℕ) (h : A → B) → ((a : A) → enc' (h a) ≡ enc a) → (T : ℕ → List Item) (m : ℕ) (q : Stand) (Y : List ℕ) (r : Stand) (Z : List ℕ) (g : Got A)
    → Wrote enc T m q Y r Z g → Wrote enc' T m q Y r Z (turn h g)
unfolding turn
turn_wrote enc enc' h e T m q Y r Z no w = w
turn_wrote enc enc' h e T m q Y r Z (got v S) w = record { on = w.on; left = w.left; fits = w.fits; wrote = λ l. rw (e v) (w.wrote (rw (e v) at l)) }

-- who writes the alternative has written the pick
pub pick_wrote : (fs : Alts) (i : ℕ) (x : Ctx) (R : List Item) (T : ℕ → List Item) (m : ℕ) (q : Stand) (Y : List ℕ) (r : Stand) (Z : List ℕ) → i < count (alternatives_of fs)
    → Wrote (λ v. encode (type_of (nth fs i)) v) T m q Y r Z (parse (nth fs i) x R) → Wrote (λ c. encode_pick (alternatives_of fs) c) T m q Y r Z (parse_pick fs i x R)
unfolding nth parse_pick count encode_pick
pick_wrote none_left i x R T m q Y r Z l w = absurd (omega arith)
pick_wrote (f ∥ fs) zero x R T m q Y r Z l w = turn_wrote (λ v. encode (type_of f) v) (λ c. encode_pick (alternatives_of (f ∥ fs)) c) (λ v. inl v) (λ v. refl) T m q Y r Z (parse f x R) w
pick_wrote (f ∥ fs) (suc i) x R T m q Y r Z l w =
    turn_wrote (λ c. encode_pick (alternatives_of fs) c) (λ c. encode_pick (alternatives_of (f ∥ fs)) c) (λ c. inr c) (λ v. refl) T m q Y r Z (parse_pick fs i x R) (pick_wrote fs i x R T m q Y r Z (omega arith) w)

pick_past : (fs : Alts) (i : ℕ) (x : Ctx) (R : List Item) → count (alternatives_of fs) ≤ i → parse_pick fs i x R ≡ no
unfolding parse_pick count turn
pick_past none_left i x R h = refl
pick_past (f ∥ fs) zero x R h = absurd (omega arith)
pick_past (f ∥ fs) (suc i) x R h = rw (pick_past fs i x R (omega arith))

-- a choice, by an index below the number of its alternatives
pub choice_index : (t n : ℕ) (fs : Alts) (x : Ctx) → count (alternatives_of fs) ≡ n → (R : List Item) → parse (choice t fs) x R ≡ feed (index_of t x.0 n R) (λ i S. parse_pick fs i x S)
unfolding parse index_of feed keep
choice_index t n fs x c R = go (leaf (λ i. plain t x.0 i 0 ∷ []) (λ i. true) (value_of R) R)
  where
    step : (i : ℕ) (S : List Item) (b : Bool) → ltb i n ≡ b → parse_pick fs i x S ≡ feed (cond b (got i S) no) (λ i S. parse_pick fs i x S)
    step i S true q = sym (feed_got i S)
      where
        feed_got : (i : ℕ) (S : List Item) → feed (got i S) (λ i S. parse_pick fs i x S) ≡ parse_pick fs i x S
        feed_got i S = refl
    step i S false q = pick_past fs i x S (omega (arith, c, not-below i n q))
      where
        not-below : (i n : ℕ) → ltb i n ≡ false → n ≤ i
        not-below i n q = ltb-false i n q

    go : (g : Got ℕ) → feed g (λ i S. parse_pick fs i x S) ≡ feed (keep (λ i. ltb i n) g) (λ i S. parse_pick fs i x S)
    go no = refl
    go (got i S) = step i S (ltb i n) refl

---------------------------------------------------------------- alternatives in a table

module _ (F : ℕ → Fmt) where
  pub nth_from : (k n i : ℕ) → i < n → nth (alternatives_from F k n) i ≡ F (k + i)
  unfolding alternatives_from nth
  nth_from k zero i h = absurd (omega arith)
  nth_from k (suc n) zero h = ap F (omega arith)
  nth_from k (suc n) (suc i) h = nth_from (suc k) n i (omega arith) ∙ ap F (omega arith)

  pub count-lent : (k : ℕ) (table : List ℕ) → count (alternatives_of (lent_alternatives F k table)) ≡ length table
  unfolding lent_alternatives count
  count-lent k [] = refl
  count-lent k (i ∷ table) = ap suc (count-lent k table)

  pub nth_lent : (k : ℕ) (table : List ℕ) (i : ℕ) → i < length table → nth (lent_alternatives F k table) i ≡ cond (leb (get_or table i 0) 16) (F (k + get_or table i 0)) (argument no_reader)
  unfolding lent_alternatives nth
  nth_lent k [] i h = absurd (omega arith)
  nth_lent k (j ∷ table) zero h = refl
  nth_lent k (j ∷ table) (suc i) h = nth_lent k table i (omega arith)
