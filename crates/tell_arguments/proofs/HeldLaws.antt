-- The texts in an argument can be told.
use mathlib.Core.Path.{◌≡◌}
use mathlib.Core.List.{List}
use Prim.Native.Nat.{ℕ}
use Rattle.named_places.specs.declared.Procedure.{Procedure}
use Rattle.positions.specs.declared.Departure.{Departure}
use Rattle.named_places.specs.Names.{Held, HeldIfThere}
use Rattle.positions.specs.Positions.{HeldPosition}
use Rattle.argument_values.specs.declared.Argument.{Argument}
use Rattle.argument_values.specs.declared.Argument.TheVariants.{Procedure as TheProcedure, Departure as TheDeparture}
use Rattle.argument_values.specs.Arguments.{HeldArgument}

---------------------------------------------------------------- the texts in an argument

pub procedure-held : {s : List ℕ} {x : Argument} {v : Procedure} → x ≡ TheProcedure v → HeldArgument s x → Held s v.name × HeldIfThere s v.transition
unfolding HeldArgument
procedure-held q h = rw q at h

pub departure-held : {s : List ℕ} {x : Argument} {v : Departure} → x ≡ TheDeparture v → HeldArgument s x → Held s v.flight × HeldPosition s v.position
unfolding HeldArgument
departure-held q h = rw q at h
