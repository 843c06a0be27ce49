-- The record of a note.
use Rattle.std.proofs.Common.{◌≡◌, ℕ, Bool, true, false, cond, [], ◌∷◌, refl}
use Rattle.atn.specs.Reading.{rec}
use Rattle.acse_reasons.specs.declared.notes.Note.TheVariants.{Untold, Told}
use Rattle.acse_reasons.specs.Notes.{note_recs}

pub noted : (b : Bool) (t v y q : ℕ) → note_recs (cond b (Told t v y q) Untold) ≡ cond b (rec t 0 v y q ∷ []) []
noted true t v y q = refl
noted false t v y q = refl
