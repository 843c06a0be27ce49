-- `list_starts`: the complete answer, and what the lent numbers hold afterwards.
use Rattle.std.specs.Prelude.{true, false, cond, ◌&&◌, List, [], ◌∷◌, ◌++◌, ℕ, zero, suc, ◌+◌, ◌-◌, ◌/◌, length, drop, leb, ltb, Result, Ok, Err}
use Rattle.std.proofs.Math.Option.{Option, none, some}
use Rattle.atn.specs.Format.{Fmt}
use Rattle.atn.specs.Messages.{acse}
use Rattle.atn.specs.Entries.{Reply, accept, ran_out, badly, unsupplied, read_frame, pdus, cm_of, frame_fits, table_fits, direction_fits}
use Rattle.message_runs.specs.declared.Kind.{Kind}
use Rattle.message_runs.specs.declared.Kind.TheVariants.{Cpdlc, Cm, Acse}
use Rattle.message_runs.specs.declared.Starts.{Starts}
use Rattle.message_runs.specs.declared.Starts.TheVariants.{All, UpTo}
use Rattle.message_runs.specs.declared.Refusal.{Refusal}
use Rattle.message_runs.specs.declared.Refusal.TheVariants.{TooLong, UnfitTables, UnknownDirection, TooFewNumbers}

-- the messages of a kind: the aircraft's in direction 0, the ground's in direction 1; association control has no direction
unfoldable pub format_of : Kind → ℕ → List ℕ → List ℕ → Fmt
format_of Cpdlc d down up = pdus d down up
format_of Cm d down up = cm_of d
format_of Acse d down up = acse

-- "Clean means whole with no marks": the reach of a clean answer
unfoldable pub clean_reach : Reply → Option ℕ
clean_reach (accept false p zero R) = some p
clean_reach (accept false p (suc m) R) = none
clean_reach (accept true p m R) = none
clean_reach (ran_out p lacked) = none
clean_reach (badly p) = none
clean_reach (unsupplied p) = none

-- "each padded to a byte": the bytes of p bits
unfoldable pub bytes_for : ℕ → ℕ
bytes_for p = (p + 7) / 8

-- where the clean messages of a run start, and the byte up to which they go
pub record Cutting : Type 0 where
  pub starts : List ℕ
  pub until : ℕ

-- at byte b stands a message with this clean reach, or none, and behind it what `after` says
unfoldable pub message : ℕ → Option ℕ → (ℕ → Cutting) → Cutting
message b none after = record { starts = []; until = b }
message b (some p) after = record { starts = b ∷ (after p).starts; until = (after p).until }

-- from byte b on; the message before goes on for n bytes
unfoldable pub cut_from : Fmt → ℕ → ℕ → List ℕ → Cutting
cut_from f n b [] = record { starts = []; until = b }
cut_from f (suc n) b (x ∷ s) = cut_from f n (suc b) s
cut_from f zero b (x ∷ s) = message b (clean_reach (read_frame f (x ∷ s))) λ p. cut_from f (bytes_for p - 1) (suc b) s

unfoldable pub cut : Fmt → List ℕ → Cutting
cut f s = cut_from f 0 0 s

-- "stops at the first message that is not clean, naming its byte"
unfoldable pub told : Cutting → List ℕ → Starts
told c s = cond (ltb c.until (length s)) (UpTo (length c.starts) c.until) (All (length c.starts))

-- the starts fill the front of the lent numbers, those after them stay; 20 where they do not fit
unfoldable pub listed : Cutting → List ℕ → List ℕ → Result Starts Refusal × List ℕ
listed c s w = cond (leb (length c.starts) (length w)) (Ok (told c s), c.starts ++ drop (length c.starts) w) (Err (TooFewNumbers (length c.starts)), w)

-- kind, direction, down table, up table, the run, the numbers lent: the refusals in their order, asked for every kind
unfoldable pub list_starts : Kind → ℕ → List ℕ → List ℕ → List ℕ → List ℕ → Result Starts Refusal × List ℕ
list_starts k d down up s w =
    cond (frame_fits s)
    (cond (table_fits down && table_fits up)
    (cond (direction_fits d) (listed (cut (format_of k d down up) s) s w) (Err UnknownDirection, w))
    (Err UnfitTables, w))
    (Err TooLong, w)
