-- What a frame without a message comes to.
use Rattle.std.specs.Prelude.{◌≡◌, List, [], ◌∷◌, ℕ}
use Rattle.atn.specs.Format.{Why}
use Rattle.atn.specs.Reading.{Rec, rec, Ans, ok, stop}
use Rattle.atn.specs.Tags as tag
use Rattle.cursor.specs.Place.{number}
use Rattle.brief_frames.specs.declared.parts.Brief.{Brief}

-- the records of the choice, and behind it of the reason or the index
abbrev pub behind_direction : Brief → List Rec
behind_direction b = rec tag.pdu 0 b.index b.extended 1 ∷ rec b.tag 0 b.value b.second b.place ∷ []

abbrev pub brief_records : ℕ → Brief → List Rec
brief_records d b = rec tag.direction 0 d 0 0 ∷ behind_direction b

-- the reading's answer is that of b: told in the records R, or stopped for good
pub data Came (a : Ans) (R : List Rec) (b : Brief) : Type 0 where
  told : b.why ≡ 0 → a ≡ ok b.reach R b.marks → Came a R b
  failed : (w : Why) (S : List Rec) (m : ℕ) → (number w ≡ 0 → ⊥) → b.why ≡ number w → a ≡ stop w b.reach S m → Came a R b
