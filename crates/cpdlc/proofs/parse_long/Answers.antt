use native.Mathlib.Omega.{arith}
use Rattle.verdicts.proofs.VerdictLaws.{follows_same}
use Rattle.cpdlc.proofs.parse_long.Goals as goal

pub answer_frame-requires : goal.answer_frame-requires
answer_frame-requires c =
    let p = c.requires in
    (p.0, p.1, p.2, p.3, p.4, p.5, omega (arith, c.try_send-v.ensures.few))

pub returns : goal.returns
returns c =
    let tried = c.try_send-v.ensures in
    c.answer_frame.ensures tried.keeps _ tried.is (follows_same _)

pub try_send-v-requires : goal.try_send-v-requires
try_send-v-requires c = c.requires
