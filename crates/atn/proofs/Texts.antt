-- The units of a text, and their codes: how many there are, those behind some, and eight of them as one number.
use mathlib.Core.Path.{◌≡◌, refl, ap}
use mathlib.Core.List.{List, [], ◌∷◌}
use Prim.Native.Nat.{ℕ, zero, suc, ◌+◌, ◌^◌, ◌<◌}
use native.Mathlib.Nat.{pow-succ', one-le-pow}
use native.Mathlib.Omega.{arith}
use lib.ListN.{length, drop}
use lib.Arith.{digits_lt}
use Rattle.x691.specs.Range.{All}
use Rattle.atn.specs.Reading.{octets, coded, spaced, units}

pub length-units : (b : ℕ → ℕ) (w at n : ℕ) → length (units b w at n) ≡ n
unfolding units
length-units b w at zero = refl
length-units b w at (suc n) = ap suc (length-units b w (at + w) n)

pub length-coded : (c : ℕ) (us : List ℕ) → length (coded c us) ≡ length us
unfolding coded
length-coded c [] = refl
length-coded c (u ∷ us) = ap suc (length-coded c us)

pub length-spaced : (us : List ℕ) → length (spaced us) ≡ length us
unfolding spaced
length-spaced [] = refl
length-spaced (u ∷ us) = ap suc (length-spaced us)

pub drop-coded : (k c : ℕ) (us : List ℕ) → drop k (coded c us) ≡ coded c (drop k us)
unfolding coded
drop-coded zero c us = refl
drop-coded (suc k) c [] = refl
drop-coded (suc k) c (u ∷ us) = drop-coded k c us

pub drop-spaced : (k : ℕ) (us : List ℕ) → drop k (spaced us) ≡ spaced (drop k us)
unfolding spaced
drop-spaced zero us = refl
drop-spaced (suc k) [] = refl
drop-spaced (suc k) (u ∷ us) = drop-spaced k us

---------------------------------------------------------------- octets

pub octets_pos : (k : ℕ) → 0 < 256 ^ k
octets_pos k = one-le-pow k 256 (omega arith)

pub octets-lt : (k : ℕ) (cs : List ℕ) → All (λ c. c < 256) cs → octets k cs < 256 ^ k
unfolding octets
octets-lt zero cs g = omega arith
octets-lt (suc k) [] g = octets_pos (suc k)
octets-lt (suc k) (c ∷ cs) g = rw (pow-succ' 256 k) (digits_lt g.0 (octets-lt k cs g.1))
