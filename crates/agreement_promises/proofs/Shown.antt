-- Of the words that an accepted answer wrote the screen asks for sizes and phrases alone.
use mathlib.Core.Path.{refl}
use mathlib.Core.List.{List}
use Prim.Native.Nat.{ℕ}
use Rattle.atn.specs.Entries.{Answer, accepted, refused, Outcome, parse_pdus, parse_apdu, parse_cm, parse_acse_apdu}
use Rattle.screen.specs.Screen.{given}
use Rattle.grammar_promises.specs.Accepted.{Formed}
use Rattle.grammar_promises.proofs.Accepted.{parse-pdus-formed, parse-apdu-formed, parse-cm-formed, parse-acse-apdu-formed}
use Rattle.agreement_promises.specs.Accepted.{Agreed, Placed}
use Rattle.agreement_promises.specs.Shown.{Shown}
use Rattle.agreement_promises.proofs.Accepted.{parse-pdus-agreed, parse-apdu-agreed, parse-cm-agreed, parse-acse-apdu-agreed}
use Rattle.agreement_promises.proofs.Rises.{parse-pdus-placed, parse-apdu-placed, parse-cm-placed, parse-acse-apdu-placed}

shown : (a : Answer) (w : List ℕ) → Formed (a, w) → Placed (a, w) → Agreed (a, w) → Shown (a, w)
unfolding given
shown (accepted cut q m n) w f p g = λ down up. rw (f, p, g) refl
shown (refused n q k l) w f p g = tt

outcome-shown : (o : Outcome) → Formed o → Placed o → Agreed o → Shown o
outcome-shown o f p g = shown o.0 o.1 f p g

pub parse-pdus-shown : (s : List ℕ) (d : ℕ) (down up w : List ℕ) → Shown (parse_pdus s d down up w)
parse-pdus-shown s d down up w = outcome-shown (parse_pdus s d down up w) (parse-pdus-formed s d down up w) (parse-pdus-placed s d down up w) (parse-pdus-agreed s d down up w)

pub parse-apdu-shown : (s down up w : List ℕ) → Shown (parse_apdu s down up w)
parse-apdu-shown s down up w = outcome-shown (parse_apdu s down up w) (parse-apdu-formed s down up w) (parse-apdu-placed s down up w) (parse-apdu-agreed s down up w)

pub parse-cm-shown : (s : List ℕ) (d : ℕ) (w : List ℕ) → Shown (parse_cm s d w)
parse-cm-shown s d w = outcome-shown (parse_cm s d w) (parse-cm-formed s d w) (parse-cm-placed s d w) (parse-cm-agreed s d w)

pub parse-acse-apdu-shown : (s w : List ℕ) → Shown (parse_acse_apdu s w)
parse-acse-apdu-shown s w = outcome-shown (parse_acse_apdu s w) (parse-acse-apdu-formed s w) (parse-acse-apdu-placed s w) (parse-acse-apdu-agreed s w)
