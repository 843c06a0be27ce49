-- Notes as records.
use Rattle.std.specs.Prelude.{ℕ, cond, List, [], ◌∷◌, ◌==◌}
use Rattle.atn.specs.Format.{Fmt, listed, ext}
use Rattle.atn.specs.Reading.{Rec, rec}
use Rattle.atn.specs.Messages.{extended}
use Rattle.cursor.specs.declared.place.Cursor.{Cursor}
use Rattle.cursor.specs.declared.place.Got.{Got}
use Rattle.acse_reasons.specs.declared.notes.Note.{Note}
use Rattle.acse_reasons.specs.declared.notes.Note.TheVariants.{Untold, Told}

abbrev pub note_recs : Note → List Rec
note_recs Untold = []
note_recs (Told t v y q) = rec t 0 v y q ∷ []

-- told unless the cursor has stopped
abbrev pub note_at : Cursor → ℕ → ℕ → ℕ → ℕ → Got Note
note_at c t v y q = record { v = cond (c.why == 0) (Told t v y q) Untold; c = c }

abbrev pub listed_reason : ℕ → Fmt
listed_reason t = ext (listed t 30 (0 ∷ 1 ∷ 30 ∷ [])) (extended t)
