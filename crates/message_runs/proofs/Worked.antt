-- Runs of document 01's worked frames: what the definition lists.
use mathlib.Core.Path.{◌≡◌, refl}
use mathlib.Core.List.{List, [], ◌∷◌, ◌++◌}
use Prim.Native.Nat.{ℕ}
use lib.ListN.{replicate}
use Rattle.std.specs.Prelude.{Ok, Err}
use Rattle.x691.specs.Bits.{bit_of, uint}
use Rattle.x691.specs.Types.{extent}
use Rattle.x691.specs.Encoding.{width_in, width, count, highest}
use Rattle.x691.specs.Range.{member}
use Rattle.atn.specs.Reading.{mark, or, unless, over, word, glue, tardy, late, then, times, fork, guard, fetch, pull, sized, short, long, fragment, lengths, length_then, flags, unread_mark, unread_marks, within, spanned, shut, close, kept, pass_over, softly, give_up, laxly, read}
use Rattle.atn.specs.Messages.{argument_of, elements}
use Rattle.atn.specs.Entries.{stopped, reply, read_frame, frame_fits, table_fits, direction_fits, pdus, cm_of}
use Rattle.message_runs.specs.declared.Kind.TheVariants.{Cpdlc, Cm, Acse}
use Rattle.message_runs.specs.declared.Starts.TheVariants.{All, UpTo}
use Rattle.message_runs.specs.declared.Refusal.TheVariants.{TooFewNumbers}
use Rattle.message_runs.specs.Runs.{format_of, clean_reach, bytes_for, message, cut_from, cut, told, listed, list_starts}

-- the WILCO frame, with these six bits of padding
abbrev pub wilco : ℕ → List ℕ
wilco padding = 100 ∷ 208 ∷ 48 ∷ 242 ∷ 168 ∷ 43 ∷ 66 ∷ 0 ∷ 0 ∷ padding ∷ []

-- it, twice; aborts of context management, 40, with 4A among them, which is marked; an association request, which is marked too
pub worked :
    (list_starts Cpdlc 0 (replicate 128 0) (replicate 256 0) (wilco 0 ++ wilco 63) (7 ∷ 7 ∷ 7 ∷ []) ≡ (Ok (All 2), 0 ∷ 10 ∷ 7 ∷ []))
    × (list_starts Cm 0 (0 ∷ []) (0 ∷ []) (64 ∷ 64 ∷ 74 ∷ 64 ∷ []) (7 ∷ 7 ∷ 7 ∷ []) ≡ (Ok (UpTo 2 2), 0 ∷ 1 ∷ 7 ∷ []))
    × (list_starts Cm 0 (0 ∷ []) (0 ∷ []) (64 ∷ 64 ∷ 74 ∷ 64 ∷ []) (7 ∷ []) ≡ (Err (TooFewNumbers 2), 7 ∷ []))
    × (list_starts Acse 0 (0 ∷ []) (0 ∷ []) (0 ∷ []) [] ≡ (Ok (UpTo 0 0), []))
unfolding list_starts listed told cut cut_from message bytes_for clean_reach format_of frame_fits table_fits direction_fits pdus cm_of read_frame reply stopped read then late glue tardy times fork guard fetch pull sized short long fragment lengths length_then flags unread_mark unread_marks within close shut softly kept pass_over laxly give_up mark or unless over word spanned bit_of uint member width width_in extent highest count argument_of elements
worked = (refl, refl, refl, refl)
