use Rattle.field_ranges.specs.Ends.{lowest, highest}
use Rattle.cursor.proofs.FormatLaws.{maybe_none, maybe_some}
use Rattle.named_places.specs.Names.{procedure_recs}
use Rattle.named_places.proofs.NameLaws.{held-text, takes_two_then_maybe}
use Rattle.named_places.proofs.read_procedure.Goals as goal

pub returns-then-flags-eq0 : goal.returns-then-flags-eq0
unfolding lowest highest procedure_recs
returns-then-flags-eq0 c =
    record {
      reads = λ t u v. takes_two_then_maybe c.presence-flags.result c.presence-flags.ensures (c.named-kind.ensures.name t) (c.ia5-name.ensures.text u) (maybe_none _ c.if-flags-eq0.true);
      held_name = held-text c.ia5-name.ensures;
      held_transition = tt;
    }

pub returns : goal.returns
unfolding lowest highest procedure_recs
returns c =
    record {
      reads = λ t u v. takes_two_then_maybe c.presence-flags.result c.presence-flags.ensures (c.named-kind.ensures.name t) (c.ia5-name.ensures.text u) (maybe_some _ c.if-flags-eq0.false (c.ia5-transition.ensures.text v));
      held_name = held-text c.ia5-name.ensures;
      held_transition = held-text c.ia5-transition.ensures;
    }
