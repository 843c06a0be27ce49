-- Arguments by their bytes.
use mathlib.Core.Path.{◌≡◌}
use mathlib.Core.List.{List}
use Prim.Native.Nat.{ℕ, zero, suc, ◌≤◌}
use native.Mathlib.Omega.{arith}
use lib.ListN.{get_or-eq_default}
use Rattle.atn.specs.Format.{bad}
use Rattle.atn.specs.Messages as message
use Rattle.cursor.specs.declared.place.Cursor.{Cursor}
use Rattle.cursor.specs.declared.place.Got.{Got}
use Rattle.cursor.specs.Place.{stopped}
use Rattle.cursor.proofs.FormatLaws.{takes_null, takes_refuse}
use Rattle.argument_values.specs.declared.Argument.TheVariants.{Nothing}
use Rattle.argument_values.specs.declared.Argument.{Argument}
use Rattle.argument_values.specs.Arguments.{argument_body, argument_recs, HeldArgument, Arguments}

pub of_byte : {k j : ℕ} {s : List ℕ} {c : Cursor} {r : Got Argument} → k ≡ j → Arguments j s c r → Arguments k s c r
of_byte q h = rw q h

pub nothing : {s : List ℕ} {c : Cursor} → Arguments 0 s c (record { v = Nothing; c = c })
unfolding argument_body argument_recs HeldArgument
nothing = record { reads = takes_null; held = tt; kind = tt }

beyond : (k : ℕ) → 17 ≤ k → argument_body k ≡ message.no_reader
unfolding argument_body
beyond zero h = absurd (omega arith)
beyond (suc k) h = get_or-eq_default message.arguments message.no_reader {n = k} (omega arith)

pub no_reader_lem : {k : ℕ} {s : List ℕ} {c d : Cursor} → 17 ≤ k → d ≡ stopped c 5 0 → Arguments k s c (record { v = Nothing; c = d })
unfolding HeldArgument
no_reader_lem {k} {s} {c} {d} h q = record { reads = rw (beyond k h) (takes_refuse bad 0 (λ z. omega arith) q); held = tt; kind = tt }
