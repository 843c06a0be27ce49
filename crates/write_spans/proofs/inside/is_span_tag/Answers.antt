-- `write_spans::inside::is_span_tag` meets its contract: tag by tag.
use Rattle.write_spans.proofs.TagLaws.{tag_18, tag_20, tag_116, tag_117, tag_118}
use Rattle.write_spans.proofs.inside.is_span_tag.Goals as goal

pub returns-then-tag-eq-INTEGRITY_CHECK : goal.returns-then-tag-eq-INTEGRITY_CHECK
returns-then-tag-eq-INTEGRITY_CHECK c = tag_18 c.args.tag c.if-tag-eq-INTEGRITY_CHECK.true

pub returns-then-tag-eq-AIRCRAFT_ADDRESS : goal.returns-then-tag-eq-AIRCRAFT_ADDRESS
returns-then-tag-eq-AIRCRAFT_ADDRESS c = tag_20 c.args.tag c.if-tag-eq-AIRCRAFT_ADDRESS.true

pub returns-then-tag-eq-RDP : goal.returns-then-tag-eq-RDP
returns-then-tag-eq-RDP c = tag_116 c.args.tag c.if-tag-eq-RDP.true

pub returns-then-tag-eq-ARS : goal.returns-then-tag-eq-ARS
returns-then-tag-eq-ARS c = tag_117 c.args.tag c.if-tag-eq-ARS.true

pub returns : goal.returns
returns c = tag_118 c.args.tag c.if-tag-eq-INTEGRITY_CHECK.false c.if-tag-eq-AIRCRAFT_ADDRESS.false c.if-tag-eq-RDP.false c.if-tag-eq-ARS.false
