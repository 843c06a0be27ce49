-- A format as a table of nodes, six numbers each: a kind, and what it takes. A node that the table has not, or of an unknown kind, has no values.
use Rattle.std.specs.Prelude.{cond, List, [], ◌∷◌, ℕ, zero, suc, ◌+◌, ◌-◌, ◌*◌, get_or, leb, ltb, eqb}
use Rattle.atn.specs.Format.{Fmt, num, listed, name, text, span, any_span, skipped, small, null, noted, placed, marked, refuse, element, ext, seq, loose, choice, many, inner, soft, lax, bad, lack}
use Rattle.atn.specs.Format.{Flds, end, ◌⨾◌, ◌⨾?◌, or_note, unread, Alts, none_left, ◌∥◌, Letters, first, numeric}
use Rattle.atn.specs.Alternatives.{alternatives_from}
use Rattle.atn.specs.Messages.{no_reader, argument}

-- number j of node k
unfoldable pub node_word : List ℕ → ℕ → ℕ → ℕ
node_word N k j = get_or N (k * 6 + j) 0

-- a member of a sequence, by its kind: 0 stands always; 1 may be absent, b its first tag; 2 may be absent and has no values; 3 with a note where it is absent; 4 is not read
unfoldable pub member_of : (ℕ → Fmt) → Flds → ℕ → ℕ → ℕ → ℕ → ℕ → Flds
member_of F fs kind a b c d = get_or ((F a ⨾ fs) ∷ (F a ⨾? fs) ∷ (F a ⨾? fs) ∷ or_note a b c (F d) fs ∷ unread a fs ∷ []) kind (F a ⨾ fs)

-- n members, from node k on
unfoldable pub members_from : (ℕ → Fmt) → List ℕ → ℕ → ℕ → Flds
members_from F N k zero = end
members_from F N k (suc n) = member_of F (members_from F N (suc k) n) (node_word N k 0) (node_word N k 1) (node_word N k 2) (node_word N k 3) (node_word N k 4)

-- the alternatives that a lent table names: byte i is node k + i, up to 16
unfoldable pub lent_alternatives : (ℕ → Fmt) → ℕ → List ℕ → Alts
lent_alternatives F k [] = none_left
lent_alternatives F k (i ∷ table) = cond (leb i 16) (F (k + i)) (argument no_reader) ∥ lent_alternatives F k table

-- of the two lent tables
unfoldable pub lent_table : List ℕ → List ℕ → ℕ → List ℕ
lent_table down up zero = down
lent_table down up (suc n) = up

-- the characters of a text: below 256 the code of the first; from there on a NumericString, and the tag of its second text
unfoldable pub letters_by : ℕ → Letters
letters_by c = cond (ltb c 256) (first c) (numeric (c - 256))

-- a format by its kind
unfoldable pub format_of : (ℕ → Fmt) → List ℕ → List ℕ → List ℕ → ℕ → ℕ → ℕ → ℕ → ℕ → ℕ → Fmt
format_of F N down up kind a b c d e =
    get_or
    (no_reader
    ∷ num a b c
    ∷ name a b
    ∷ listed a 30 (0 ∷ 1 ∷ 30 ∷ [])
    ∷ text a b (letters_by c) d e
    ∷ span a b c d
    ∷ any_span a b
    ∷ null
    ∷ noted a b c (F d)
    ∷ placed a (F b)
    ∷ element (F a)
    ∷ ext (F a) (F b)
    ∷ seq (members_from F N a b)
    ∷ loose (members_from F N a b)
    ∷ choice a (alternatives_from F b c)
    ∷ choice a (lent_alternatives F b (lent_table down up c))
    ∷ many a b (F c)
    ∷ inner (F a)
    ∷ soft a (eqb b 1) (F c)
    ∷ lax a (eqb b 1) (F c)
    ∷ skipped a
    ∷ small a b
    ∷ marked a
    ∷ refuse bad a
    ∷ refuse lack a
    ∷ [])
    kind no_reader

-- node k, to the depth given: what lies deeper has no values
unfoldable pub format_at : ℕ → List ℕ → List ℕ → List ℕ → ℕ → Fmt
format_at zero N down up k = no_reader
format_at (suc g) N down up k =
    format_of (λ j. format_at g N down up j) N down up (node_word N k 0) (node_word N k 1) (node_word N k 2) (node_word N k 3) (node_word N k 4) (node_word N k 5)
