-- What a table must keep so that a list can be written by it: the first tags that it names are those of the parts, the counts are right, and spans alone have the tags of spans.
use Rattle.std.specs.Prelude.{Bool, true, cond, not, ◌&&◌, List, [], ◌∷◌, ℕ, zero, suc, ◌+◌, ◌-◌, get_or, leb, ltb, eqb}
use Rattle.atn.specs.Format.{Fmt}
use Rattle.atn.specs.Reading.{flags}
use Rattle.record_lists.specs.Clear.{firsts}
use Rattle.record_lists.specs.Kinds.{span_tag}
use Rattle.record_lists.specs.Parse.{same_numbers}
use Rattle.record_lists.specs.Most.{most}
use Rattle.node_tables.specs.Nodes.{node_word, members_from, format_at}

unfoldable pub sure_member : (ℕ → Fmt) → (ℕ → Bool) → ℕ → ℕ → ℕ → ℕ → ℕ → Bool
sure_member F S kind a b c d = get_or (S a ∷ (same_numbers (firsts (F a)) (b ∷ []) && S a) ∷ same_numbers (firsts (F a)) [] ∷ (not (span_tag a) && S d) ∷ true ∷ []) kind (S a)

unfoldable pub sure_members : (ℕ → Fmt) → (ℕ → Bool) → List ℕ → ℕ → ℕ → Bool
sure_members F S N k zero = true
sure_members F S N k (suc n) = sure_member F S (node_word N k 0) (node_word N k 1) (node_word N k 2) (node_word N k 3) (node_word N k 4) && sure_members F S N (suc k) n

unfoldable pub sure_each : (ℕ → Bool) → ℕ → ℕ → Bool
sure_each S k zero = true
sure_each S k (suc n) = S k && sure_each S (suc k) n

-- the numbers of a text, of the NumericString of a satellite channel, and of a span
unfoldable pub sure_text : ℕ → ℕ → ℕ → ℕ → Bool
sure_text n c lo hi = (leb 1 lo && leb 1 n) && (leb (c + n) 256 && (leb lo hi && ltb hi 256))

unfoldable pub sure_channel : ℕ → ℕ → ℕ → ℕ → Bool
sure_channel n c lo hi = (eqb n 11 && not (span_tag (c - 256))) && (eqb lo 12 && eqb hi 12)

unfoldable pub sure_letters : ℕ → ℕ → ℕ → ℕ → Bool
sure_letters n c lo hi = cond (ltb c 256) (sure_text n c lo hi) (sure_channel n c lo hi)

unfoldable pub sure_unit : ℕ → Bool
sure_unit w = leb 1 w && leb w 64

unfoldable pub sure_size : ℕ → ℕ → Bool
sure_size lo hi = leb 1 lo && (leb lo hi && ltb hi 256)

unfoldable pub sure_of : (ℕ → Fmt) → (ℕ → Bool) → List ℕ → ℕ → ℕ → ℕ → ℕ → ℕ → ℕ → Bool
sure_of F S N kind a b c d e =
    get_or
    (true
    ∷ not (span_tag a)
    ∷ not (span_tag a)
    ∷ not (span_tag a)
    ∷ (not (span_tag a) && sure_letters b c d e)
    ∷ (span_tag a && (sure_unit b && sure_size c d))
    ∷ (span_tag a && sure_unit b)
    ∷ true
    ∷ (not (span_tag a) && S d)
    ∷ (not (span_tag a) && S b)
    ∷ S a
    ∷ S a
    ∷ (((ltb a 1000000 && ltb b 1000) && eqb (flags (members_from F N a b)) c) && sure_members F S N a b)
    ∷ (((ltb a 1000000 && ltb b 1000) && eqb (flags (members_from F N a b)) c) && sure_members F S N a b)
    ∷ ((not (span_tag a) && ltb b 1000000) && ((leb 1 c && leb c 256) && sure_each S b c))
    ∷ ((not (span_tag a) && ltb b 1000000) && sure_each S b 17)
    ∷ ((leb a b && ltb b 1000) && (same_numbers (firsts (F c)) (d ∷ []) && S c))
    ∷ (leb (most (F a)) 4294967296 && S a)
    ∷ S c
    ∷ S c
    ∷ [])
    kind true

unfoldable pub sure_at : ℕ → List ℕ → List ℕ → List ℕ → ℕ → Bool
sure_at zero N down up k = true
sure_at (suc g) N down up k =
    sure_of (λ j. format_at g N down up j) (λ j. sure_at g N down up j) N (node_word N k 0) (node_word N k 1) (node_word N k 2) (node_word N k 3) (node_word N k 4) (node_word N k 5)
