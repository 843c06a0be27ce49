-- "17, an unknown node kind or an empty range": a known kind is refused exactly where it has a range and that is empty.
use mathlib.Core.Path.{◌≡◌, refl}
use mathlib.Core.Bool.{Bool, true, false, ◌||◌}
use Prim.Native.Nat.{ℕ, zero, suc, ◌+◌, ◌-◌, ◌≤◌, ◌<◌}
use native.Mathlib.Decide.{ℕ_discrete}
use native.Mathlib.Omega.{arith}
use lib.Dec.{eqb}
use borrow.Author.Tests.{le-leb, lt-leb, ne_eqb}
use Rattle.atn.proofs.Inverse.{both}
use Rattle.schema_tables.specs.Tests.{each, raised, range_fits, kind_fits}

-- a number, by its ends as they are below and above zero
pub number_range : (b c : ℕ) → raised b ≤ raised c → kind_fits 0 b c ≡ true
unfolding kind_fits range_fits
number_range b c l = le-leb (raised b) (raised c) l

pub number-empty : (b c : ℕ) → raised c < raised b → kind_fits 0 b c ≡ false
unfolding kind_fits range_fits
number-empty b c l = lt-leb (raised b) (raised c) l

-- a name, from place 0
pub name_range : (b c : ℕ) → raised 0 ≤ raised b → kind_fits 1 b c ≡ true
unfolding kind_fits range_fits
name_range b c l = le-leb (raised 0) (raised b) l

pub name-empty : (b c : ℕ) → raised b < raised 0 → kind_fits 1 b c ≡ false
unfolding kind_fits range_fits
name-empty b c l = lt-leb (raised 0) (raised b) l

-- a text, however many characters it may have
pub text_range : (b c : ℕ) → b ≤ c → kind_fits 2 b c ≡ true
unfolding kind_fits
text_range b c l = le-leb b c l

pub text-empty : (b c : ℕ) → c < b → kind_fits 2 b c ≡ false
unfolding kind_fits
text-empty b c l = lt-leb b c l

-- a choice
pub choice_range : (b c : ℕ) → 1 ≤ c → kind_fits 5 b c ≡ true
unfolding kind_fits
choice_range b c l = le-leb 1 c l

pub choice_empty : (b : ℕ) → kind_fits 5 b 0 ≡ false
unfolding kind_fits
choice_empty b = refl

-- each of the other kinds has no range, whatever its words are: a fixed bit count, of no bits or of many (3), and 4 and 6 to 12
each_at : (P : ℕ → Bool) (k n : ℕ) {j : ℕ} → each P k n ≡ true → k ≤ j → j < k + n → P j ≡ true
unfolding each
each_at P k zero e l m = absurd (omega arith)
each_at P k (suc n) {j} e l m = let x = both (P k) (each P (suc k) n) e in go (ℕ_discrete k j) x.0 (each_at P (suc k) n x.1)
  where
    go : Dec (k ≡ j) → P k ≡ true → (suc k ≤ j → j < suc k + n → P j ≡ true) → P j ≡ true
    go (yes q) h i = rw q at h
    go (no q) h i = i (omega arith) (omega arith)

pub rangeless : (k b c : ℕ) → 3 ≤ k → k ≤ 12 → (k ≡ 5 → ⊥) → kind_fits k b c ≡ true
unfolding each kind_fits
rangeless k b c l m n = rw (ne_eqb k 5 n) at (each_at (λ j. eqb j 5 || kind_fits j b c) 3 10 {j = k} refl l (omega arith))

pub unknown_kind : (k b c : ℕ) → 13 ≤ k → kind_fits k b c ≡ false
unfolding kind_fits
unknown_kind k b c l = let q : k ≡ suc (suc (suc (suc (suc (suc (suc (suc (suc (suc (suc (suc (suc (k - 13))))))))))))) = omega arith in rw q refl
