-- The lines that are left, and the entries that are there.
use mathlib.Core.Path.{◌≡◌, refl, sym, ap, ◌∙◌}
use mathlib.Core.Bool.{Bool, true, false}
use mathlib.Core.List.{List, [], ◌∷◌, ◌++◌, append-nil, append_assoc}
use mathlib.Core.Option.{Option, none, some}
use Prim.Native.Nat.{ℕ, ◌+◌, ◌/◌, ◌≤◌, ◌<◌}
use native.Mathlib.Omega.{arith}
use lib.ListN.{length, length-append}
use borrow.Author.Tests.{le-leb, lt-leb}
use Rattle.book_entries.specs.declared.Entry.{Entry}
use Rattle.book_entries.specs.Book.{holds, laid, entries, listed}
use Rattle.book_lines.specs.Lines.{also, lines}
use Rattle.std.specs.Prelude as given
use Rattle.line_reader.specs.Reads.{found}
use Rattle.book_text.specs.Cuts.{cut, collected}
use Rattle.book_text.proofs.CutLaws.{lines-cut}
use Rattle.name_book.specs.Calls.{Leaves, changed}
use Rattle.name_book.proofs.CallLaws.{changed_to, changed-not}
use Rattle.std.specs.Prelude.{Result, Ok, Err}
use Rattle.loaded_books.specs.declared.Refusal.{Refusal}
use Rattle.loaded_books.specs.declared.Refusal.TheVariants.{NotASavedBook, BookFull}
use Rattle.loaded_books.specs.Loads.{meets, distinct, gathered, replaced}

pub some_is : {A : Type 0} {x y : A} → some x ≡ some y → x ≡ y
some_is e = cc

pub none-some : {A : Type 0} {x : A} → none ≡ some x → ⊥
none-some {A} e = let z : ◌≡◌ {A = ℕ} 0 1 = ap (λ (o : Option A). elim o [ none ↦ 0 | some y ↦ 1 ]) e in omega arith

-- the first entry, and the lines behind it
pub record Split (o : Option (List Entry)) (e : Entry) (N : List Entry) : Type 0 where
  pub others : List Entry
  pub rest : o ≡ some others
  pub is : N ≡ e ∷ others

also-some : (e : Entry) (o : Option (List Entry)) {N : List Entry} → also (some e) o ≡ some N → Split o e N
unfolding also
also-some e none h = absurd (none-some h)
also-some e (some M) h = record { others = M; rest = refl; is = sym (some_is h) }

-- all lines of a text are left
pub at_first : (t : List ℕ) {O : List (Option Entry)} → O ≡ cut [] t → lines [] t ≡ collected O
at_first t is = lines-cut [] t ∙ rw is

-- what the iterator gave of the lines O
module _ {O L : List (Option Entry)} {l : given.Option Entry} (is : O ≡ found l ∷ L) where
  pub with_entry : {e : Entry} → l ≡ given.Some e → O ≡ some e ∷ L
  with_entry h = rw h at is

  pub without : l ≡ given.None → O ≡ none ∷ L
  without h = rw h at is

-- the lines O are left, the first of them with the entry e
pub split : {O L : List (Option Entry)} {e : Entry} {N : List Entry} → O ≡ some e ∷ L → collected O ≡ some N → Split (collected L) e N
unfolding collected
split {L = L} {e} is h = also-some e (collected L) (rw is at h)

-- a line that is not good is left
pub bad_first : {O L : List (Option Entry)} → O ≡ none ∷ L → collected O ≡ none
unfolding collected also
bad_first is = rw is

-- nothing is left
pub at-end : {O : List (Option Entry)} {N : List Entry} → O ≡ [] → collected O ≡ some N → N ≡ []
unfolding collected
at-end p h = sym (some_is (rw p at h))

-- D has been read
unfoldable pub behind : List Entry → Option (List Entry) → Option (List Entry)
behind D none = none
behind D (some E) = some (D ++ E)

pub behind-nothing : (o : Option (List Entry)) → o ≡ behind [] o
unfolding behind
behind-nothing none = refl
behind-nothing (some E) = refl

also-behind : (D : List Entry) (e : Entry) (o : Option (List Entry)) → behind D (also (some e) o) ≡ behind (D ++ e ∷ []) o
unfolding behind also
also-behind D e none = refl
also-behind D e (some E) = ap (λ (l : List Entry). some l) (sym (append_assoc D (e ∷ []) E))

-- so many lines have been read, and the lines O are left
pub record Counting (t : List ℕ) (count : ℕ) (O : List (Option Entry)) : Type 0 where
  pub entries : List Entry
  pub is : lines [] t ≡ behind entries (collected O)
  pub many : count ≡ length entries
  pub few : count + length O ≤ length t

module _ {t : List ℕ} {count : ℕ} {O : List (Option Entry)} (k : Counting t count O) where
  pub counting : {L : List (Option Entry)} {e : Entry} → O ≡ some e ∷ L → Counting t (count + 1) L
  unfolding collected
  counting {L} {e} is =
      record { entries = k.entries ++ e ∷ []; is = k.is ∙ rw is (also-behind k.entries e (collected L)); many = omega (arith, k.many, length-append k.entries (e ∷ [])); few = omega (arith, k.few, ap length is) }

  pub bad-line : {L : List (Option Entry)} → O ≡ none ∷ L → lines [] t ≡ none
  unfolding behind
  bad-line is = k.is ∙ rw (bad_first is)

  pub all_read_lem : O ≡ [] → lines [] t ≡ some k.entries
  unfolding behind collected
  all_read_lem is = k.is ∙ rw (is, append-nil)

-- a test of all entries M is one of those that are left
pub record Left (test : List Entry → Bool) (O : List (Option Entry)) (M : List Entry) : Type 0 where
  pub left : List Entry
  pub rest : collected O ≡ some left
  pub same : test M ≡ test left

module _ {test : List Entry → Bool} {O : List (Option Entry)} {M : List Entry} (l : Left test O M) where
  module _ {L : List (Option Entry)} {e : Entry} (is : O ≡ some e ∷ L) where
    pub here : {b : Bool} → ((N : List Entry) → collected L ≡ some N → test (e ∷ N) ≡ b) → test M ≡ b
    here k = let p = split is l.rest in l.same ∙ ap test p.is ∙ k p.others p.rest

    pub later : ((N : List Entry) → collected L ≡ some N → test (e ∷ N) ≡ test N) → Left test L M
    later k = let p = split is l.rest in record { left = p.others; rest = p.rest; same = l.same ∙ ap test p.is ∙ k p.others p.rest }

  pub none_left : O ≡ [] → test M ≡ test []
  none_left p = l.same ∙ ap test (at-end p l.rest)

  pub no_bad : {A : Type 0} {L : List (Option Entry)} → O ≡ none ∷ L → A
  no_bad is = absurd (none-some (sym (bad_first is) ∙ l.rest))

-- the first of the entries that are left
module _ (e f : Entry) (N : List Entry) where
  pub met : meets e f ≡ true → holds (meets e) (f ∷ N) ≡ true
  unfolding holds
  met m = rw m

  pub unmet : meets e f ≡ false → holds (meets e) (f ∷ N) ≡ holds (meets e) N
  unfolding holds
  unmet m = rw m

module _ (f : Entry) (N : List Entry) where
  pub again : {b : Bool} → b ≡ holds (meets f) N → b ≡ true → distinct (f ∷ N) ≡ false
  unfolding distinct
  again h g = rw (← h, g)

  pub once : {b : Bool} → b ≡ holds (meets f) N → b ≡ false → distinct (f ∷ N) ≡ distinct N
  unfolding distinct
  once h g = rw (← h, g)

module _ (w t : List ℕ) (h : listed w ≡ some (entries w)) where
  same_book : {a : Result ℕ Refusal} → replaced (length w / 4) (lines [] t) (entries w) ≡ (a, entries w) → Leaves a w (changed w (λ n. replaced n (lines [] t)))
  same_book o = changed-not w (λ n. replaced n (lines [] t)) h o

  pub load-bad : lines [] t ≡ none → Leaves (Err NotASavedBook) w (changed w (λ n. replaced n (lines [] t)))
  unfolding replaced
  load-bad n = same_book (rw n)

  module _ {L : List Entry} (l : lines [] t ≡ some L) where
    pub load-twice : distinct L ≡ false → Leaves (Err NotASavedBook) w (changed w (λ n. replaced n (lines [] t)))
    unfolding replaced
    load-twice d = same_book (rw (l, d))

    module _ (d : distinct L ≡ true) where
      pub load_full : length w / 4 < length L → Leaves (Err BookFull) w (changed w (λ n. replaced n (lines [] t)))
      unfolding replaced
      load_full r = same_book (rw (l, d, lt-leb (length L) (length w / 4) r))

      pub load-done : {n : ℕ} {v : List ℕ} → n ≡ length L → length L ≤ length w / 4 → v ≡ laid (length w) (gathered [] L) → Leaves (Ok n) v (changed w (λ n. replaced n (lines [] t)))
      unfolding replaced
      load-done e r x = rw e (changed_to w (λ n. replaced n (lines [] t)) (rw (l, d, le-leb (length L) (length w / 4) r)) x)
