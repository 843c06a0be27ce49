-- What a table is refused for, before the frame is read: "15, a node number out of the table or not higher; 16, a depth above 16; 17, an unknown node kind or an empty range".
use Rattle.std.specs.Prelude.{Bool, true, false, cond, ◌&&◌, ◌||◌, List, [], ◌∷◌, ℕ, zero, suc, ◌+◌, ◌%◌, length, get_or, leb, ltb, eqb}
use Rattle.schema_tables.specs.Nodes.{nodes, node_word}

-- a test of every number below n, and of n numbers from k on
unfoldable pub below : (ℕ → Bool) → ℕ → Bool
below P zero = true
below P (suc n) = below P n && P n

unfoldable pub each : (ℕ → Bool) → ℕ → ℕ → Bool
each P k zero = true
each P k (suc n) = P k && each P (suc k) n

---------------------------------------------------------------- 17

-- words by their order as numbers below and above zero
unfoldable pub raised : ℕ → ℕ
raised x = (x + 9223372036854775808) % 18446744073709551616

unfoldable pub range_fits : ℕ → ℕ → Bool
range_fits lo hi = leb (raised lo) (raised hi)

-- a known kind whose range is not empty; a fixed bit count is one number, and no range
unfoldable pub kind_fits : ℕ → ℕ → ℕ → Bool
kind_fits kind b c =
    get_or
    (range_fits b c  -- a ranged number
    ∷ range_fits 0 b  -- a name
    ∷ leb b c  -- a text
    ∷ true  -- a fixed bit count
    ∷ true  -- a sequence
    ∷ leb 1 c  -- a choice
    ∷ true  -- an optional member
    ∷ true  -- an unread member
    ∷ true  -- an alternative without a reader
    ∷ true  -- an alternative outside the listed values
    ∷ true  -- an extension
    ∷ true  -- a headed part
    ∷ true  -- another node
    ∷ [])
    kind false

unfoldable pub node_fits : List ℕ → ℕ → Bool
node_fits N k = kind_fits (node_word N k 0) (node_word N k 2) (node_word N k 3)

-- every node; words that are no whole node have no kind
unfoldable pub kinds_fit : List ℕ → Bool
kinds_fit N = eqb (length N % 4) 0 && below (λ k. node_fits N k) (nodes N)

---------------------------------------------------------------- 15

-- the nodes that a node names stand one after another: the first, and how many
unfoldable pub first_of : ℕ → ℕ → ℕ → ℕ
first_of kind a b = cond (eqb kind 5) b (cond (eqb kind 11) b a)

unfoldable pub count_of : ℕ → ℕ → ℕ → ℕ
count_of kind b c = get_or (0 ∷ 0 ∷ 0 ∷ 0 ∷ b ∷ c ∷ 1 ∷ 0 ∷ 0 ∷ 0 ∷ 1 ∷ 1 ∷ 1 ∷ []) kind 0

unfoldable pub first_at : List ℕ → ℕ → ℕ
first_at N k = first_of (node_word N k 0) (node_word N k 1) (node_word N k 2)

unfoldable pub count_at : List ℕ → ℕ → ℕ
count_at N k = count_of (node_word N k 0) (node_word N k 2) (node_word N k 3)

-- "A node may name only nodes with higher numbers"
unfoldable pub link_fits : List ℕ → ℕ → Bool
link_fits N k = eqb (count_at N k) 0 || (ltb k (first_at N k) && leb (first_at N k + count_at N k) (nodes N))

-- every node, and there is a root
unfoldable pub links_fit : List ℕ → Bool
links_fit N = leb 1 (nodes N) && below (λ k. link_fits N k) (nodes N)

---------------------------------------------------------------- 16

-- a node that names none has depth 1, another one more than the deepest that it names: whether the depth of node k is at most g
unfoldable pub within : ℕ → List ℕ → ℕ → Bool
within zero N k = false
within (suc g) N k = each (λ j. within g N j) (first_at N k) (count_at N k)

unfoldable pub depth_fits : List ℕ → Bool
depth_fits N = within 16 N 0
