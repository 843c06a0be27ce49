-- The demands of each entry, by its name.
use mathlib.Core.Path.{◌≡◌, refl}
use mathlib.Core.Bool.{true}
use mathlib.Core.List.{List, []}
use Prim.Native.Nat.{ℕ, zero, suc}
use Rattle.atn.specs.Format.{Fmt}
use Rattle.atn.specs.Messages.{aircraft_pdus, ground_pdus, acse}
use Rattle.atn.specs.Entries.{Reply, read_frame, or_else, Test, enter, pdus, pdus_tests, apdu_tests, parse_pdus, parse_apdu, cm_of, cm_tests, parse_cm, parse_acse_apdu}
use Rattle.atn.specs.Demands.{Owes, ReadsClean}
use Rattle.atn.proofs.Readings.{Keeps, format_keeps, both_keep}
use Rattle.atn.proofs.Tame.{keeps_stop, tame, tame_fields, tame_choice}
use Rattle.atn.proofs.Lacked.{frank}
use Rattle.atn.proofs.Longer.{GoesOn, format_far, format_goes, both_goes}
use Rattle.atn.proofs.Outcomes.{early}
use Rattle.atn.proofs.Demands.{whole_again, bad_again, cut_to, words-kept, words_left, room-refused, refused-room, reach_inside, refused-inside, lacked-none, lacked-some, longer_on, clean-sound, clean_complete}

owes : (ts : List Test) (F : List ℕ → Reply) → Keeps F → GoesOn F → early ts ≡ true → Owes ts F (λ s w. enter ts F s w)
owes ts F k g₀ e =
    record {
      whole = λ s t w v h g. whole_again ts F k s t w v h g;
      badly_formed = λ s t w v h g. bad_again ts F k s t w v e h g;
      cut_short = λ s w v j h l g. cut_to ts F k s w v j h l g;
      kept = λ s w. words-kept ts F k s w;
      left = λ s w h. words_left ts F k s w h;
      no_room = λ s w h. room-refused ts F k s w e h;
      no_room⁻ = λ s w c p m R h g i l. refused-room ts F k s w c p m R h g i l;
      within = λ s w h. reach_inside ts F k s w h;
      within⁻ = λ s w h. refused-inside ts F k s w h;
      lacked_none = λ s w h n. lacked-none ts F k s w h n;
      lacked_some = λ s w h. lacked-some ts F k g₀ e s w h;
      longer = λ s t w v h g o. longer_on ts F k g₀ e s t w v h g o;
    }

reads_clean : (ts : List Test) (f : Fmt) → ReadsClean ts f (λ s w. enter ts (λ t. read_frame f t) s w)
reads_clean ts f = record { sound = λ s w h. clean-sound ts f s w h; complete = λ s w p R h g m l. clean_complete ts f s w p R h g m l }

---------------------------------------------------------------- the entries

pdus_frank : (d : ℕ) (down up : List ℕ) → frank (pdus d down up) ≡ true
unfolding pdus tame tame_fields tame_choice keeps_stop
pdus_frank zero down up = refl
pdus_frank (suc d) down up = refl

cm_frank : (d : ℕ) → frank (cm_of d) ≡ true
unfolding cm_of tame tame_fields tame_choice keeps_stop
cm_frank zero = refl
cm_frank (suc d) = refl

acse_frank : frank acse ≡ true
unfolding tame tame_fields tame_choice keeps_stop
acse_frank = refl

pub parse-pdus_owes : (d : ℕ) (down up : List ℕ) → Owes (pdus_tests d down up) (λ s. read_frame (pdus d down up) s) (λ s w. parse_pdus s d down up w)
unfolding parse_pdus early
parse-pdus_owes d down up = owes (pdus_tests d down up) (λ s. read_frame (pdus d down up) s) (format_keeps (pdus d down up)) (format_goes (pdus d down up) (pdus_frank d down up)) refl

pub parse-apdu_owes : (down up : List ℕ) → Owes (apdu_tests down up) (λ s. or_else (read_frame (aircraft_pdus down) s) (read_frame (ground_pdus down up) s)) (λ s w. parse_apdu s down up w)
unfolding parse_apdu early pdus
parse-apdu_owes down up =
    owes (apdu_tests down up) (λ s. or_else (read_frame (aircraft_pdus down) s) (read_frame (ground_pdus down up) s)) (both_keep (λ s. read_frame (aircraft_pdus down) s) (λ s. read_frame (ground_pdus down up) s) (format_keeps (aircraft_pdus down)) (format_keeps (ground_pdus down up)))
    (both_goes (λ s. read_frame (aircraft_pdus down) s) (λ s. read_frame (ground_pdus down up) s) (format_far (aircraft_pdus down) (pdus_frank 0 down up)) (format_far (ground_pdus down up) (pdus_frank 1 down up))) refl

pub parse-cm_owes : (d : ℕ) → Owes (cm_tests d) (λ s. read_frame (cm_of d) s) (λ s w. parse_cm s d w)
unfolding parse_cm early
parse-cm_owes d = owes (cm_tests d) (λ s. read_frame (cm_of d) s) (format_keeps (cm_of d)) (format_goes (cm_of d) (cm_frank d)) refl

pub parse-acse-apdu_owes : Owes [] (λ s. read_frame acse s) (λ s w. parse_acse_apdu s w)
unfolding parse_acse_apdu early
parse-acse-apdu_owes = owes [] (λ s. read_frame acse s) (format_keeps acse) (format_goes acse acse_frank) refl

pub parse-pdus-clean : (d : ℕ) (down up : List ℕ) → ReadsClean (pdus_tests d down up) (pdus d down up) (λ s w. parse_pdus s d down up w)
unfolding parse_pdus
parse-pdus-clean d down up = reads_clean (pdus_tests d down up) (pdus d down up)

pub parse-cm-clean : (d : ℕ) → ReadsClean (cm_tests d) (cm_of d) (λ s w. parse_cm s d w)
unfolding parse_cm
parse-cm-clean d = reads_clean (cm_tests d) (cm_of d)

pub parse-acse-apdu-clean : ReadsClean [] acse (λ s w. parse_acse_apdu s w)
unfolding parse_acse_apdu
parse-acse-apdu-clean = reads_clean [] acse
