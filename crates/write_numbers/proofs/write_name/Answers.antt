use Rattle.write_numbers.proofs.NumberLaws.{name-written}
use Rattle.write_numbers.proofs.write_name.Goals as goal

pub returns : goal.returns
returns c =
    λ b y. name-written b _ _ _ _ y _ _ (c.args.records.words_fit _) (c.write_number.ensures b y)
