-- Demand 2 of the entries by their names.
use mathlib.Core.Path.{sym}
use mathlib.Core.Bool.{false}
use mathlib.Core.List.{List, []}
use Prim.Native.Nat.{ℕ}
use lib.ListN.{length}
use Rattle.atn.specs.Format.{Fmt}
use Rattle.atn.specs.Messages.{acse}
use Rattle.atn.specs.Entries.{Outcome, Test, pdus, pdus_tests, cm_of, cm_tests, parse_pdus, parse_cm, parse_acse_apdu}
use Rattle.atn.specs.Demands.{ReadsClean}
use Rattle.atn.proofs.Each.{parse-pdus-clean, parse-cm-clean, parse-acse-apdu-clean}
use Rattle.answers.specs.declared.Answer.TheVariants.{Accepted}
use Rattle.demands.specs.Clean.{Cleanly}
use Rattle.demands.proofs.Kept.{says_is}

cleanly : (ts : List Test) (f : Fmt) (P : List ℕ → List ℕ → Outcome) → ReadsClean ts f P → Cleanly ts f P
cleanly ts f P c =
    record { sound = λ s w x. c.sound s w (sym x.is); complete = λ s w p R {r} h g m l x. says_is {r = r} {q = Accepted false p 0 (length R)} x (c.complete s w p R h g m l) }

pub clean-parse-pdus : (d : ℕ) (down up : List ℕ) → Cleanly (pdus_tests d down up) (pdus d down up) (λ s w. parse_pdus s d down up w)
clean-parse-pdus d down up = cleanly (pdus_tests d down up) (pdus d down up) (λ s w. parse_pdus s d down up w) (parse-pdus-clean d down up)

pub clean-parse-cm : (d : ℕ) → Cleanly (cm_tests d) (cm_of d) (λ s w. parse_cm s d w)
clean-parse-cm d = cleanly (cm_tests d) (cm_of d) (λ s w. parse_cm s d w) (parse-cm-clean d)

pub clean-parse-acse-apdu : Cleanly [] acse (λ s w. parse_acse_apdu s w)
clean-parse-acse-apdu = cleanly [] acse (λ s w. parse_acse_apdu s w) parse-acse-apdu-clean
