use mathlib.Core.Path.{refl}
use native.Mathlib.Omega.{arith}
use Rattle.atn.specs.Reading.{read_choice}
use Rattle.acse_bodies.proofs.BodyLaws.{unread-chosen, release-chosen}
use Rattle.acse_bodies.proofs.read_body.Goals as goal

pub returns-then-pdu-lt2 : goal.returns-then-pdu-lt2
returns-then-pdu-lt2 c = record { grows = rw c.unread.ensures (unread-chosen c.args.pdu (omega (arith, c.if-pdu-lt2.true)) refl) }

pub returns-then-pdu-eq4 : goal.returns-then-pdu-eq4
unfolding read_choice
returns-then-pdu-eq4 c = record { grows = rw c.if-pdu-eq4.true c.read_abort.ensures.grows }

pub returns : goal.returns
returns c = record { grows = release-chosen c.args.pdu (omega arith) (omega arith) (rw c.release_tag.ensures at c.read_release.ensures) }
