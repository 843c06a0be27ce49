-- What a case's call gives.
use Rattle.std.specs.Prelude.{List, ℕ, Option, Some, None}
use Rattle.atn.specs.Entries.{Outcome, refused, parse_pdus, parse_apdu, parse_cm, parse_acse_apdu}
use Rattle.entry_names.specs.declared.Entry.{Entry}
use Rattle.entry_names.specs.declared.Entry.TheVariants.{Apdu, Pdus, Cm, Acse}

-- entry, direction, tables, frame, words; what is no entry is not called
abbrev pub outcome : Option Entry → ℕ → List ℕ → List ℕ → List ℕ → List ℕ → Outcome
outcome (Some Apdu) d down up s w = parse_apdu s down up w
outcome (Some Pdus) d down up s w = parse_pdus s d down up w
outcome (Some Cm) d down up s w = parse_cm s d w
outcome (Some Acse) d down up s w = parse_acse_apdu s w
outcome None d down up s w = (refused 0 0 0 0, w)
