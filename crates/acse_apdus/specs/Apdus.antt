-- What a message says: the reading of the frame.
use Rattle.std.specs.Prelude.{◌≡◌, not, List, ◌∷◌, ◌++◌, ℕ, eqb}
use Rattle.atn.specs.Reading.{rec}
use Rattle.atn.specs.Entries.{Reply, accept, ran_out, badly, read_frame}
use Rattle.atn.specs.Messages.{acse}
use Rattle.atn.specs.Tags as tag
use Rattle.acse_bodies.specs.declared.Body.{Body}
use Rattle.acse_apdus.specs.declared.Message.{Message}
use Rattle.acse_apdus.specs.declared.Apdu.{Apdu}
use Rattle.acse_apdus.specs.declared.Apdu.TheVariants.{Heard, RanOut, Badly}
use Rattle.acse_reasons.specs.Notes.{note_recs}

abbrev pub message_reply : Message → Reply
message_reply m = accept m.cut m.reach m.marks (rec tag.acse_pdu 0 m.pdu m.second m.at ∷ note_recs m.first ++ note_recs m.next)

abbrev pub reply_of : Apdu → Reply
reply_of (Heard m) = message_reply m
reply_of (RanOut p k) = ran_out p k
reply_of (Badly p) = badly p

-- the message of a body, cut where the frame ended in it, by its index and second number and the place of these
abbrev pub heard_of : ℕ → ℕ → ℕ → Body → Apdu
heard_of i y q b = Heard (record { cut = not (eqb b.c.why 0); reach = b.c.at; marks = b.c.marks; pdu = i; second = y; at = q; first = b.first; next = b.next })

pub record Hears (s : List ℕ) (r : Apdu) : Type 0 where
  pub is : read_frame acse s ≡ reply_of r
