use Rattle.write_leaves.proofs.LettersLaws.{sure_one, sure_two, as_one, as_two}
use Rattle.write_leaves.proofs.letters.write_letters.Goals as goal

pub write_text-requires : goal.write_text-requires
write_text-requires c =
    let s = sure_one _ _ _ _ c.if-c-lt256.true c.requires.1 in
    (c.requires.0, s.0, s.1, s.2, s.3)

pub returns-then-c-lt256 : goal.returns-then-c-lt256
returns-then-c-lt256 c = λ b y. as_one _ _ y _ _ _ _ b _ _ _ _ _ _ c.if-c-lt256.true (c.write_text.ensures b y)

pub write_channel-requires : goal.write_channel-requires
write_channel-requires c =
    (c.requires.0, (sure_two _ _ _ _ c.if-c-lt256.false c.requires.1).1)

pub returns : goal.returns
returns c =
    λ b y. as_two _ _ y _ _ _ _ b _ _ _ _ _ _ c.if-c-lt256.false c.requires.1 (c.write_channel.ensures b y)
