use mathlib.Core.Path.{refl}
use mathlib.Core.Logic.{⊎_map}
use Rattle.cpdlc_frames.proofs.SaysLaws.{says-accepted, says-refused}
use Rattle.cpdlc_frames.proofs.answer_frame.Goals as goal

pub returns-then-cut : goal.returns-then-cut
returns-then-cut c = λ k. says-accepted _ _ refl (⊎_map (λ x. x) (λ x. x.1) c.then-cut.either) (c.write_frame.ensures k)

pub returns : goal.returns
returns c = λ _ u h _. says-refused u h c.if-v-eq0.false c.if-cut.false
