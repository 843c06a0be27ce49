use native.Mathlib.Omega.{arith}
use borrow.Author.Tests.{eq-eqb, ne_eqb}
use Rattle.screen_bytes.specs.Text.{bytes}
use Rattle.screen_bytes.proofs.Putting.{put-none, put-within, put-length}
use Rattle.screen_positions.specs.Positions.{note, unread}
use Rattle.screen_positions.proofs.put_unread.Goals as goal

pub returns-then-t-eq-FLIGHT_INFORMATION : goal.returns-then-t-eq-FLIGHT_INFORMATION
unfolding unread note bytes
returns-then-t-eq-FLIGHT_INFORMATION c = rw (eq-eqb _ 71 c.if-t-eq-FLIGHT_INFORMATION.true) (put-within 60 (omega arith) c.put_text.ensures)

pub shape_of-out-then-t-eq-FLIGHT_INFORMATION : goal.shape_of-out-then-t-eq-FLIGHT_INFORMATION
shape_of-out-then-t-eq-FLIGHT_INFORMATION c = put-length (returns-then-t-eq-FLIGHT_INFORMATION c)

pub returns-then-t-eq-FURTHER_INSTRUCTIONS : goal.returns-then-t-eq-FURTHER_INSTRUCTIONS
unfolding unread note bytes
returns-then-t-eq-FURTHER_INSTRUCTIONS c = rw (ne_eqb _ 71 c.if-t-eq-FLIGHT_INFORMATION.false, eq-eqb _ 72 c.if-t-eq-FURTHER_INSTRUCTIONS.true) (put-within 60 (omega arith) c.put_text-then-t-eq-FURTHER_INSTRUCTIONS.ensures)

pub shape_of-out-then-t-eq-FURTHER_INSTRUCTIONS : goal.shape_of-out-then-t-eq-FURTHER_INSTRUCTIONS
shape_of-out-then-t-eq-FURTHER_INSTRUCTIONS c = put-length (returns-then-t-eq-FURTHER_INSTRUCTIONS c)

pub returns : goal.returns
unfolding unread
returns c = rw (ne_eqb _ 71 c.if-t-eq-FLIGHT_INFORMATION.false, ne_eqb _ 72 c.if-t-eq-FURTHER_INSTRUCTIONS.false) (put-within 60 (omega arith) put-none)
