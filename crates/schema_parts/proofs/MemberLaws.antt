-- The members of a sequence, one after another.
use mathlib.Core.Path.{◌≡◌, refl, sym, ap, ◌∙◌}
use mathlib.Core.List.{List, []}
use Prim.Native.Nat.{ℕ, zero, suc, ◌+◌, ◌-◌, ◌≤◌, ◌<◌}
use native.Mathlib.Nat.{add-zero}
use native.Mathlib.Omega.{arith}
use borrow.Author.Tests.{ne_eqb}
use Rattle.x691.specs.Bits.{bit_of, uint}
use Rattle.x691.proofs.BitLaws.{uint-one}
use Rattle.atn.specs.Format.{Fmt, Flds, end, ◌⨾◌, ◌⨾?◌, unread}
use Rattle.atn.specs.Reading.{Ans, ok, or, mark, then, fork, flags, unread_mark, unread_marks, read, read_fields}
use Rattle.atn.proofs.Marks.{or_nil, or_assoc, or_commutes}
use Rattle.atn.proofs.Steps.{then-nil}
use Rattle.schema_tables.specs.Nodes.{node_word, member_of, members_from}
use Rattle.schema_nodes.specs.declared.node.Leaf.TheVariants.{Number, Name, Text, Bits}
use Rattle.schema_nodes.specs.declared.node.Node.{Node}
use Rattle.schema_nodes.specs.declared.node.Node.TheVariants.{Leaf as leaf, Sequence, Choice, Optional, Unread, NoReader, Unlisted, Extension, Headed, Other, Unknown}
use Rattle.schema_nodes.specs.Row.{IsNode}
use Rattle.schema_parts.specs.Member.{flag_of, mark_of, member_read}

omega_next : (q : ℕ) → q + 1 ≡ suc q
omega_next q = omega arith

pub or-zero : (m : ℕ) → or 0 m ≡ m
or-zero m = or_commutes 0 m ∙ or_nil m

pub flag_few : (n : Node) → flag_of n ≤ 1
flag_few (leaf l) = omega arith
flag_few (Sequence first count) = omega arith
flag_few (Choice tag first count) = omega arith
flag_few (Optional node) = omega arith
flag_few (Unread tag) = omega arith
flag_few NoReader = omega arith
flag_few Unlisted = omega arith
flag_few (Extension node tag) = omega arith
flag_few (Headed tag node) = omega arith
flag_few (Other node) = omega arith
flag_few Unknown = omega arith

module _ (b : ℕ → ℕ) (q : ℕ) where
  pub mark-clear : {v : ℕ} → v ≡ b q → v ≡ 0 → 0 ≡ unread_mark (b q)
  unfolding unread_mark
  mark-clear e z = let y : b q ≡ 0 = sym e ∙ z in rw y refl

  pub mark_set : {v : ℕ} → v ≡ b q → (v ≡ 0 → ⊥) → 8 ≡ unread_mark (b q)
  unfolding unread_mark mark
  mark_set {v} e n = let y : b q ≡ suc (v - 1) = omega (arith, n) in rw y refl

---------------------------------------------------------------- the first member apart

-- a member before others
abbrev member : (ℕ → Fmt) → Flds → Node → ℕ → Flds
member F fs (Optional node) k = F node ⨾? fs
member F fs (Unread tag) k = unread tag fs
member F fs n k = F k ⨾ fs

member_is : (F : ℕ → Fmt) (fs : Flds) (N : List ℕ) (k : ℕ) (n : Node) → IsNode N k n → member_of F fs (node_word N k 0) k (node_word N k 1) ≡ member F fs n k
unfolding member_of
member_is F fs N k (leaf (Number tag lowest highest)) i = rw i.words.0
member_is F fs N k (leaf (Name tag highest)) i = rw i.words.0
member_is F fs N k (leaf (Text tag fewest most)) i = rw i.words.0
member_is F fs N k (leaf (Bits tag count)) i = rw i.words.0
member_is F fs N k (Sequence first count) i = rw i.words.0
member_is F fs N k (Choice tag first count) i = rw i.words.0
member_is F fs N k (Optional node) i = rw (i.words.0, i.words.1)
member_is F fs N k (Unread tag) i = rw (i.words.0, i.words.1)
member_is F fs N k NoReader i = rw i.words
member_is F fs N k Unlisted i = rw i.words
member_is F fs N k (Extension node tag) i = rw i.words.0
member_is F fs N k (Headed tag node) i = rw i.words.0
member_is F fs N k (Other node) i = rw i.words.0
member_is F fs N k Unknown i = rw (ne_eqb (node_word N k 0) 6 (λ e. omega (arith, e, i.words)), ne_eqb (node_word N k 0) 7 (λ e. omega (arith, e, i.words)))

-- an optional member, an unread one, any other
data Sort (F : ℕ → Fmt) (n : Node) (k : ℕ) : Type 0 where
  may : (m : ℕ) → n ≡ Optional m → Sort F n k
  left : (t : ℕ) → n ≡ Unread t → Sort F n k
  must : flag_of n ≡ 0 → ((b : ℕ → ℕ) (q : ℕ) → mark_of n b q ≡ 0) → ((fs : Flds) → member F fs n k ≡ (F k ⨾ fs)) → ((b : ℕ → ℕ) (e q at : ℕ) → member_read F n k b e q at ≡ read (F k) (0, 0) b e at) → Sort F n k

sort : (F : ℕ → Fmt) (n : Node) (k : ℕ) → Sort F n k
sort F (leaf l) k = must refl (λ b q. refl) (λ fs. refl) (λ b e q at. refl)
sort F (Sequence first count) k = must refl (λ b q. refl) (λ fs. refl) (λ b e q at. refl)
sort F (Choice tag first count) k = must refl (λ b q. refl) (λ fs. refl) (λ b e q at. refl)
sort F (Optional node) k = may node refl
sort F (Unread tag) k = left tag refl
sort F NoReader k = must refl (λ b q. refl) (λ fs. refl) (λ b e q at. refl)
sort F Unlisted k = must refl (λ b q. refl) (λ fs. refl) (λ b e q at. refl)
sort F (Extension node tag) k = must refl (λ b q. refl) (λ fs. refl) (λ b e q at. refl)
sort F (Headed tag node) k = must refl (λ b q. refl) (λ fs. refl) (λ b e q at. refl)
sort F (Other node) k = must refl (λ b q. refl) (λ fs. refl) (λ b e q at. refl)
sort F Unknown k = must refl (λ b q. refl) (λ fs. refl) (λ b e q at. refl)

pub plain_read : (F : ℕ → Fmt) (n : Node) (k : ℕ) → ((m : ℕ) → n ≡ Optional m → ⊥) → ((t : ℕ) → n ≡ Unread t → ⊥) → (b : ℕ → ℕ) (e q at : ℕ) → member_read F n k b e q at ≡ read (F k) (0, 0) b e at
plain_read F n k h g b e q at = go (sort F n k)
  where
    go : Sort F n k → member_read F n k b e q at ≡ read (F k) (0, 0) b e at
    go (may m i) = absurd (h m i)
    go (left t i) = absurd (g t i)
    go (must f m p r) = r b e q at

module _ (F : ℕ → Fmt) (fs : Flds) (n : Node) (k : ℕ) where
  member-flags : flags (member F fs n k) ≡ flag_of n + flags fs
  unfolding flags
  member-flags = go (sort F n k)
    where
      go : Sort F n k → flags (member F fs n k) ≡ flag_of n + flags fs
      go (may m e) = rw e (omega arith)
      go (left t e) = rw e (omega arith)
      go (must f m g r) = rw (g fs, f) (omega arith)

  module _ (b : ℕ → ℕ) (q : ℕ) where
    member_marks : unread_marks (member F fs n k) b q ≡ or (mark_of n b q) (unread_marks fs b (q + flag_of n))
    unfolding unread_marks
    member_marks = go (sort F n k)
      where
        go : Sort F n k → unread_marks (member F fs n k) b q ≡ or (mark_of n b q) (unread_marks fs b (q + flag_of n))
        go (may m e) = rw e (rw (omega_next q) (sym (or-zero (unread_marks fs b (suc q)))))
        go (left t e) = rw e (rw (omega_next q))
        go (must f m g r) = rw (g fs, f, m b q, add-zero q) (sym (or-zero (unread_marks fs b q)))

    member-then : (e at : ℕ) → read_fields (member F fs n k) (0, 0) b e q at ≡ then (member_read F n k b e q at) λ p. read_fields fs (0, 0) b e (q + flag_of n) p
    unfolding read fork then
    member-then e at = go (sort F n k)
      where
        rest : ℕ → ℕ → Ans
        rest r p = read_fields fs (0, 0) b e r p

        by_bit : (v : ℕ) (x : Ans) → fork v (rest (suc q) at) (then x λ p. rest (suc q) p) ≡ then (fork v (ok at [] 0) x) λ p. rest (suc q) p
        by_bit zero x = sym (then-nil at (λ p. rest (suc q) p))
        by_bit (suc v) x = refl

        go : Sort F n k → read_fields (member F fs n k) (0, 0) b e q at ≡ then (member_read F n k b e q at) λ p. read_fields fs (0, 0) b e (q + flag_of n) p
        go (may m i) = rw i (rw (omega_next q) (by_bit (b q) _))
        go (left t i) = rw i (rw (omega_next q) (by_bit (b q) _))
        go (must f m g r) = rw (g fs, f, r b e q at, add-zero q)

---------------------------------------------------------------- those from the one numbered i on

module _ (F : ℕ → Fmt) (N : List ℕ) (first count : ℕ) where
  abbrev pub from : ℕ → Flds
  from i = members_from F N (first + i) (count - i)

  pub from_all : from 0 ≡ members_from F N first count
  from_all = let e : count - 0 ≡ count = omega arith in rw (add-zero first, e)

  pub from-none : (i : ℕ) → count ≤ i → from i ≡ end
  unfolding members_from
  from-none i h = let e : count - i ≡ 0 = omega arith in rw e

  from_next : (i : ℕ) → i < count → from i ≡ member_of F (from (i + 1)) (node_word N (first + i) 0) (first + i) (node_word N (first + i) 1)
  unfolding members_from
  from_next i h =
      let e : count - i ≡ suc (count - (i + 1)) = omega arith in
      let f : first + (i + 1) ≡ suc (first + i) = omega arith in
      rw (e, f)

  module _ (i : ℕ) (h : i < count) {n : Node} (node : IsNode N (first + i) n) where
    as_node : from i ≡ member F (from (i + 1)) n (first + i)
    as_node = from_next i h ∙ member_is F (from (i + 1)) N (first + i) n node

    pub flags-next : flags (from i) ≡ flag_of n + flags (from (i + 1))
    flags-next = ap flags as_node ∙ member-flags F (from (i + 1)) n (first + i)

    pub marks_next : (b : ℕ → ℕ) (q : ℕ) → unread_marks (from i) b q ≡ or (mark_of n b q) (unread_marks (from (i + 1)) b (q + flag_of n))
    marks_next b q = ap (λ f. unread_marks f b q) as_node ∙ member_marks F (from (i + 1)) n (first + i) b q

    pub read_next : (b : ℕ → ℕ) (q e at : ℕ) → read_fields (from i) (0, 0) b e q at ≡ then (member_read F n (first + i) b e q at) λ p. read_fields (from (i + 1)) (0, 0) b e (q + flag_of n) p
    read_next b q e at = ap (λ f. read_fields f (0, 0) b e q at) as_node ∙ member-then F (from (i + 1)) n (first + i) b q e at

---------------------------------------------------------------- the loops

module _ (N : List ℕ) (first count : ℕ) where
  -- so many presence bits before the member numbered i
  pub record Counts (bits i : ℕ) : Type 0 where
    pub few : bits ≤ i
    pub all : (F : ℕ → Fmt) → bits + flags (from F N first count i) ≡ flags (members_from F N first count)

  pub counts-none : Counts 0 0
  counts-none = record { few = omega arith; all = λ F. omega (arith, ap flags (from_all F N first count)) }

  pub counts-more : {bits i f : ℕ} {n : Node} → i < count → IsNode N (first + i) n → f ≡ flag_of n → Counts bits i → Counts (bits + f) (i + 1)
  counts-more {bits} {i} {f} {n} h node e x = record { few = omega (arith, flag_few n, x.few); all = λ F. omega (arith, x.all F, flags-next F N first count i h node) }

  pub counts_all : {bits i : ℕ} → count ≤ i → Counts bits i → (F : ℕ → Fmt) → bits ≡ flags (members_from F N first count)
  unfolding flags
  counts_all {bits} {i} h x F = omega (arith, x.all F, ap flags (from-none F N first count i h))

  module _ (b : ℕ → ℕ) (at l : ℕ) where
    -- the marks of the members before the one numbered i, whose presence bit stands at q
    pub record Marked (marks q i : ℕ) : Type 0 where
      pub room : (F : ℕ → Fmt) → q + flags (from F N first count i) ≤ l
      pub all : (F : ℕ → Fmt) → or marks (unread_marks (from F N first count i) b q) ≡ unread_marks (members_from F N first count) b at

    pub marked-none : ((F : ℕ → Fmt) → at + flags (members_from F N first count) ≤ l) → Marked 0 at 0
    marked-none h = record { room = λ F. rw (from_all F N first count) (h F); all = λ F. rw (from_all F N first count) (or-zero (unread_marks (members_from F N first count) b at)) }

    pub marked-room : {marks q i : ℕ} {n : Node} → i < count → IsNode N (first + i) n → Marked marks q i → (F : ℕ → Fmt) → q + flag_of n ≤ l
    marked-room {i = i} h node x F = omega (arith, x.room F, flags-next F N first count i h node)

    pub marked_more : {marks m f q i : ℕ} {n : Node} → i < count → IsNode N (first + i) n → m ≡ mark_of n b q → f ≡ flag_of n → Marked marks q i → Marked (or marks m) (q + f) (i + 1)
    marked_more {marks} {m} {f} {q} {i} {n} h node e g x =
        record {
          room = λ F. omega (arith, x.room F, flags-next F N first count i h node);
          all = λ F. rw (e, g, or_assoc marks (mark_of n b q) (unread_marks (from F N first count (i + 1)) b (q + flag_of n)), ← marks_next F N first count i h node b q) (x.all F);
        }

    pub marked_all : {marks q i : ℕ} → count ≤ i → Marked marks q i → (F : ℕ → Fmt) → marks ≡ unread_marks (members_from F N first count) b at
    unfolding unread_marks
    marked_all {marks} {q} {i} h x F = sym (or_nil marks) ∙ (rw (from-none F N first count i h) at (x.all F))

pub bit_is : (s : List ℕ) (at : ℕ) {v : ℕ} → v ≡ uint (bit_of s) at 1 → v ≡ bit_of s at
bit_is s at e = e ∙ uint-one (bit_of s) at
