-- What the records of an accepted frame are to be: a list that a reading gives, by the rows of crates/record_grammar.
use Rattle.std.specs.Prelude.{Bool, true, List, ◌≡◌, ℕ, ◌*◌, ◌≤◌, length, take}
use Rattle.atn.specs.Reading.{Rec}
use Rattle.atn.specs.Entries.{Reply, accept, Answer, accepted, refused, Outcome}
use Rattle.record_grammar.specs.Heard.{heard, formed}
use Rattle.record_grammar.specs.Table.{table}

-- a frame within the limit
abbrev pub Fits : List ℕ → Type 0
Fits s = length s ≤ 65536

-- a lent table within its limit; its bytes may be any
abbrev pub Short : List ℕ → Type 0
Short lent = length lent ≤ 256

-- of a way to read frames: the records of every frame that it accepts
abbrev pub AllHeard : (List ℕ → Reply) → Type 0
AllHeard read = (s : List ℕ) (cut : Bool) (p m : ℕ) (R : List Rec) → Fits s → read s ≡ accept cut p m R → heard table R ≡ true

-- of what an entry leaves: the words that an accepted answer wrote, five to a record
abbrev pub Wrote : (List ℕ → Type 0) → Answer → List ℕ → Type 0
Wrote P (accepted cut p m n) w = P (take (n * 5) w)
Wrote P (refused n p k l) w = Unit {0}

abbrev pub Formed : Outcome → Type 0
Formed o = Wrote (λ w. formed w ≡ true) o.0 o.1
