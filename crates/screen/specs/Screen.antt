-- `screen_lines`: the complete answer, and what the lent bytes hold afterwards.
use Rattle.std.specs.Prelude.{Bool, cond, Result, Ok, Err, ◌&&◌, List, ◌++◌, ℕ, ◌^◌, leb, ltb, length, drop}
use Rattle.record_views.specs.View.{records_from}
use Rattle.record_grammar.specs.Heard.{formed}
use Rattle.element_kinds.specs.Agreed.{agreed}
use Rattle.screen_text.specs.Text.{phrased, lines}
use Rattle.screen.specs.Placed.{placed}
use Rattle.screen.specs.declared.Refusal.{Refusal}
use Rattle.screen.specs.declared.Refusal.TheVariants.{NotGiven, TooFewBytes}

-- the number of a refusal, by docs/REFUSALS.md
abbrev pub number : Refusal → ℕ
number NotGiven = 13
number (TooFewBytes n) = 14

-- the bytes needed, which only 14 has
abbrev pub need : Refusal → ℕ
need NotGiven = 0
need (TooFewBytes n) = n

-- no reading gives 2^40 words; no machine has 2^44 bytes of phrases, and a table that long is taken for none
unfoldable pub small : List ℕ → List ℕ → List ℕ → Bool
small w down up = ltb (length w) (2 ^ 40) && (ltb (length down) (2 ^ 44) && ltb (length up) (2 ^ 44))

-- records that a reading gives, and a phrase for each element's index
unfoldable pub given : List ℕ → List ℕ → List ℕ → Bool
given w down up = small w down up && (formed w && (placed 0 (records_from 0 w) && (agreed (records_from 0 w) && phrased down up 0 (records_from 0 w))))

-- "a line per element, ended by a line feed"
unfoldable pub text : List ℕ → List ℕ → List ℕ → List ℕ
text w down up = lines down up 8 0 (records_from 0 w)

-- the answer, and the lent bytes afterwards
abbrev pub Outcome : Type 0
Outcome = Result ℕ Refusal × List ℕ

-- "14, asked after it, text room too small, with the number needed; nothing is written"
unfoldable pub settled : List ℕ → List ℕ → Outcome
settled t out = cond (leb (length t) (length out)) (Ok (length t), t ++ drop (length t) out) (Err (TooFewBytes (length t)), out)

-- "13, records that no reading gives, or an element index without a phrase"
unfoldable pub screen_lines : List ℕ → List ℕ → List ℕ → List ℕ → Outcome
screen_lines w down up out = cond (given w down up) (settled (text w down up) out) (Err NotGiven, out)
