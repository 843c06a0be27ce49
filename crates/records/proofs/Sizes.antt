-- How many words records take. Only these laws and the proofs of the code look into `size` and `space`.
use Rattle.std.proofs.Common.{◌≡◌, ℕ, ◌+◌, ◌≤◌, List, [], ◌∷◌, ◌++◌, length, refl, arith}
use Rattle.atn.specs.Reading.{Rec, rec}
use Rattle.atn.specs.Entries.{flat, need}
use Rattle.records.specs.Space.{size, space}

pub space-zero : space 0 ≡ 0
unfolding space
space-zero = omega arith

pub need-space : (rs : List Rec) → need rs ≡ space (length rs)
unfolding space size need
need-space rs = omega arith

pub flat-length : (r : Rec) → length (flat (r ∷ [])) ≡ size
unfolding flat size need
flat-length (rec t m v s q) = refl

pub flat_append : (rs ss : List Rec) → flat (rs ++ ss) ≡ flat rs ++ flat ss
unfolding flat
flat_append [] ss = refl
flat_append (rec t m v s q ∷ rs) ss = rw (flat_append rs ss)

-- more records take more words
pub space_grows : {n m : ℕ} → n ≤ m → space n ≤ space m
unfolding space size need
space_grows h = omega arith

-- a record more
pub space-more : (n : ℕ) → space (n + 1) ≡ space n + size
unfolding space
space-more n = omega arith
