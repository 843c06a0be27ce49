-- A lent table of nodes and its meaning, a format. A node is four words: its kind, and three numbers a, b and c.
--   0 a ranged number       tag, lowest, highest (an end below zero as 2^64 less its magnitude); above it is mark 1
--   1 a name by its place   tag, highest place; above it is badly formed, and mark 1
--   2 a text                tag, fewest, most characters of seven bits
--   3 a fixed bit count     tag, number of bits
--   4 a sequence            first member, number of members: nodes one after another
--   5 a choice              tag of the index, first alternative, number of alternatives: nodes one after another
--   6 an optional member    the node that may be absent: a presence bit
--   7 an unread member      tag: a presence bit, and where it is set a record and mark 4
--   8 an alternative without a reader, which fails
--   9 an alternative outside the listed values, which fails with mark 1
--   10 an extension         the node behind a clear bit, tag: a set bit is mark 2 and the record "(extended)"
--   11 a headed part        tag, node: a record of value 0 before it
--   12 another node         node
use Rattle.std.specs.Prelude.{cond, List, [], ◌∷◌, ℕ, zero, suc, ◌+◌, ◌*◌, ◌/◌, length, get_or, ltb, eqb}
use Rattle.atn.specs.Format.{Fmt, num, name, text, span, null, noted, refuse, ext, seq, choice, bad}
use Rattle.atn.specs.Format.{Flds, end, ◌⨾◌, ◌⨾?◌, unread}
use Rattle.atn.specs.Alternatives.{alternatives_from}
use Rattle.atn.specs.Messages.{no_reader, unlisted, ia5, extended}

-- the nodes of a table
unfoldable pub nodes : List ℕ → ℕ
nodes N = length N / 4

-- word j of node k; a node that the table has not is all zeros
unfoldable pub node_word : List ℕ → ℕ → ℕ → ℕ
node_word N k j = cond (ltb k (nodes N)) (get_or N (k * 4 + j) 0) 0

-- node k as a member of a sequence, before others: "a sequence with presence bits", "a part noted by mark 4 and not read"
unfoldable pub member_of : (ℕ → Fmt) → Flds → ℕ → ℕ → ℕ → Flds
member_of F fs kind k a = cond (eqb kind 6) (F a ⨾? fs) (cond (eqb kind 7) (unread a fs) (F k ⨾ fs))

-- n members, from node k on
unfoldable pub members_from : (ℕ → Fmt) → List ℕ → ℕ → ℕ → Flds
members_from F N k zero = end
members_from F N k (suc n) = member_of F (members_from F N (suc k) n) (node_word N k 0) k (node_word N k 1)

-- node k by its kind and numbers: "a choice whose alternatives may be unread and then fail"; a member that may be absent and stands elsewhere is a sequence of itself
unfoldable pub format_of : (ℕ → Fmt) → List ℕ → ℕ → ℕ → ℕ → ℕ → ℕ → Fmt
format_of F N k kind a b c =
    get_or
    (num a b c
    ∷ name a b
    ∷ ia5 a b c
    ∷ span a 1 b b
    ∷ seq (members_from F N a b)
    ∷ choice a (alternatives_from F b c)
    ∷ seq (members_from F N k 1)
    ∷ seq (members_from F N k 1)
    ∷ no_reader
    ∷ unlisted
    ∷ ext (F a) (extended b)
    ∷ noted a 0 0 (F b)
    ∷ F a
    ∷ [])
    kind no_reader

-- node k, to the depth given: what lies deeper has no reader
unfoldable pub format_at : ℕ → List ℕ → ℕ → Fmt
format_at zero N k = no_reader
format_at (suc g) N k = format_of (λ j. format_at g N j) N k (node_word N k 0) (node_word N k 1) (node_word N k 2) (node_word N k 3)

-- "to a depth of 16"; the first node is the root
unfoldable pub meaning : List ℕ → Fmt
meaning N = format_at 16 N 0
