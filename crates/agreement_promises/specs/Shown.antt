-- What the screen asks of the words that an accepted answer wrote.
use Rattle.std.specs.Prelude.{◌&&◌, List, ◌≡◌, ℕ}
use Rattle.atn.specs.Entries.{Outcome}
use Rattle.record_views.specs.View.{records_from}
use Rattle.screen_text.specs.Text.{phrased}
use Rattle.screen.specs.Screen.{small, given}
use Rattle.grammar_promises.specs.Accepted.{Wrote}

-- the sizes, and a phrase for each element's index: for nothing else the screen refuses them with 13, whatever its two tables of phrases
abbrev pub Showable : List ℕ → Type 0
Showable w = (down up : List ℕ) → given w down up ≡ small w down up && phrased down up 0 (records_from 0 w)

abbrev pub Shown : Outcome → Type 0
Shown o = Wrote (λ w. Showable w) o.0 o.1
