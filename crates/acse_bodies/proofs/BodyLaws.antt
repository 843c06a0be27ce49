-- A body of one note, and the body that the index of a message chooses.
use mathlib.Core.Path.{◌≡◌}
use mathlib.Core.Bool.{cond}
use mathlib.Core.List.{List, [], append-nil}
use Prim.Native.Nat.{ℕ, zero, suc, ◌≤◌, ◌<◌}
use native.Mathlib.Omega.{arith}
use lib.Dec.{eqb}
use Rattle.x691.specs.Bits.{bit_of}
use Rattle.atn.specs.Format.{Fmt}
use Rattle.atn.specs.Reading.{Rec, mark, read, read_choice}
use Rattle.atn.specs.Tags as tag
use Rattle.cursor.specs.declared.place.Cursor.{Cursor}
use Rattle.cursor.specs.declared.place.Got.{Got}
use Rattle.cursor.specs.Place.{marked}
use Rattle.acse_reasons.specs.declared.notes.Note.{Note}
use Rattle.acse_bodies.specs.declared.Body.{Body}
use Rattle.acse_reasons.specs.SoFar.{Grows, Keeps}
use Rattle.acse_reasons.specs.Notes.{note_recs}
use Rattle.acse_bodies.specs.Bodies.{bodies, release_body, alone_body, body_recs}
use Rattle.acse_reasons.proofs.GrowLaws.{grows_mark}

-- an association request, or its response: mark 3, which is 4 in the set
pub unread-chosen : (i : ℕ) {s : List ℕ} {c d : Cursor} → i < 2 → d ≡ marked c 4 → Grows (λ u p. read_choice bodies i (0, 0) (bit_of s) u p) s c d []
unfolding read_choice read mark
unread-chosen zero h q = grows_mark 4 q
unread-chosen (suc zero) h q = grows_mark 4 q
unread-chosen (suc (suc i)) h q = absurd (omega arith)

-- a release, by the tag of its reason
pub release-chosen : (i : ℕ) {s : List ℕ} {c d : Cursor} {R : List Rec} → 2 ≤ i → i < 4 → Keeps (release_body (cond (eqb i 2) tag.release_request_reason tag.release_response_reason)) s c d R
    → Grows (λ u p. read_choice bodies i (0, 0) (bit_of s) u p) s c d R
unfolding read_choice
release-chosen zero l h x = absurd (omega arith)
release-chosen (suc zero) l h x = absurd (omega arith)
release-chosen (suc (suc zero)) l h x = x.grows
release-chosen (suc (suc (suc zero))) l h x = x.grows
release-chosen (suc (suc (suc (suc i)))) l h x = absurd (omega arith)

pub keeps-alone : {f : Fmt} {s : List ℕ} {c : Cursor} {r : Body} (n : Got Note) → r ≡ alone_body n → Keeps f s c n.c (note_recs n.v) → Keeps f s c r.c (body_recs r)
keeps-alone n q h = rw (q, append-nil (note_recs n.v)) h
