-- The bodies of the five messages, without what becomes of them at the frame's end.
use Rattle.std.specs.Prelude.{List, ◌++◌, ℕ}
use Rattle.x691.specs.Bits.{bit_of}
use Rattle.atn.specs.Format.{Fmt, ext, seq, null, marked, or_note, end, ◌⨾◌, ◌⨾?◌, Alts, none_left, ◌∥◌}
use Rattle.atn.specs.Reading.{Rec, read_choice}
use Rattle.atn.specs.Messages.{ext_reason}
use Rattle.atn.specs.Tags as tag
use Rattle.cursor.specs.declared.place.Cursor.{Cursor}
use Rattle.cursor.specs.declared.place.Got.{Got}
use Rattle.cursor.specs.Place as place
use Rattle.acse_reasons.specs.declared.notes.Note.{Note}
use Rattle.acse_bodies.specs.declared.Body.{Body}
use Rattle.acse_reasons.specs.SoFar.{Grows}
use Rattle.acse_reasons.specs.declared.notes.Note.TheVariants.{Untold}
use Rattle.acse_reasons.specs.Notes.{note_recs, listed_reason}

abbrev pub release_body : ℕ → Fmt
release_body t = ext (seq (or_note t 0 2 (listed_reason t) end)) null

abbrev pub abort_body : Fmt
abort_body = ext (seq (ext_reason tag.abort_source 1 ⨾ ext_reason tag.abort_diagnostic 5 ⨾? end)) null

abbrev pub bodies : Alts
bodies = marked 3 ∥ marked 3 ∥ release_body tag.release_request_reason ∥ release_body tag.release_response_reason ∥ abort_body ∥ none_left

abbrev pub body_recs : Body → List Rec
body_recs r = note_recs r.first ++ note_recs r.next

abbrev pub unread_body : Cursor → ℕ → Body
unread_body c m = record { first = Untold; next = Untold; c = place.marked c m }

abbrev pub alone_body : Got Note → Body
alone_body n = record { first = n.v; next = Untold; c = n.c }

-- the body of the message with the index i
pub record Chosen (s : List ℕ) (c : Cursor) (i : ℕ) (r : Body) : Type 0 where
  pub grows : Grows (λ u p. read_choice bodies i (0, 0) (bit_of s) u p) s c r.c (body_recs r)
