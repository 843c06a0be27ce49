use mathlib.Core.Path.{refl}
use Rattle.list_checker.proofs.is_full.Goals as goal

pub returns-in-Refused : goal.returns-in-Refused
returns-in-Refused c = rw c.in-Refused.is refl
