use mathlib.Core.Path.{refl, ◌∙◌}
use Rattle.forward_names.proofs.HeaderLaws.{clean-nameless, clean-named}
use Rattle.forward_names.proofs.clean_name.Goals as goal

pub returns-then-choice-ne-FORWARD : goal.returns-then-choice-ne-FORWARD
returns-then-choice-ne-FORWARD c down up R clean = c.no_name.ensures ∙ clean-nameless down up _ clean (rw c.bits.ensures at c.bits-choice.ensures) c.if-choice-ne-FORWARD.true

pub returns : goal.returns
returns c down up R clean = clean-named down up _ clean (rw c.bits.ensures at c.bits-choice.ensures) c.if-choice-ne-FORWARD.false c.read_header-h.ensures refl c.tell_text.ensures
