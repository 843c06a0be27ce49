-- How many records the messages have at most, whatever tables are lent.
use mathlib.Core.Path.{refl}
use mathlib.Core.List.{List, [], ◌∷◌}
use Prim.Native.Nat.{ℕ, zero, suc, ◌+◌, ◌*◌, ◌≤◌, max}
use native.Mathlib.Omega.{arith}
use lib.Dec.{leb}
use borrow.Author.Tests.{leb-true}
use Rattle.atn.specs.Messages.{no_reader, arguments, argument_of, elements, constrained_data, message_data, atc_message, protected_message, forward, cm_ground, cm_aircraft, acse}
use Rattle.atn.specs.Entries.{pdus}
use Rattle.atn.proofs.Elements.{every, every_get}
use Rattle.record_bounds.specs.Most.{most, most_alts}

argument-most : (k : ℕ) → most (argument_of k) ≤ 14
unfolding argument_of most every
argument-most zero = omega arith
argument-most (suc k) = leb-true _ 14 (every_get (λ f. leb (most f) 14) arguments no_reader k refl refl)

elements-most : (t : List ℕ) → most_alts (elements t) ≤ 14
unfolding elements most
elements-most [] = omega arith
elements-most (k ∷ t) = omega (arith, argument-most k, elements-most t)

constrained_most : most constrained_data ≤ 8236
unfolding most
constrained_most = leb-true _ 8236 refl

data_most : (t : List ℕ) → most (message_data t) ≤ 8311
unfolding most
data_most t = sum (most_alts (elements t)) (most constrained_data) (elements-most t) constrained_most
  where
    sum : (a c : ℕ) → a ≤ 14 → c ≤ 8236 → 5 * (1 + a) + (c + 0) ≤ 8311
    sum a c h g = omega arith

message-most : (t : List ℕ) → most (atc_message t) ≤ 8320
unfolding most
message-most t = sum (most (message_data t)) (data_most t)
  where
    -- identification, reference, date and time, acknowledgment
    sum : (m : ℕ) → m ≤ 8311 → 1 + (1 + (6 + (1 + (m + 0)))) ≤ 8320
    sum m h = omega arith

protected-most : (t : List ℕ) → most (protected_message t) ≤ 8321
unfolding most
protected-most t = sum (most (atc_message t)) (message-most t)
  where
    sum : (m : ℕ) → m ≤ 8320 → 0 + (max 1 m + (1 + 0)) ≤ 8321
    sum m h = omega arith

forward-most : (down up : List ℕ) → most (forward down up) ≤ 8320
unfolding most
forward-most down up = sum (most (message_data down)) (most (message_data up)) (data_most down) (data_most up)
  where
    -- date and time, identifier and address, carried direction
    sum : (a b : ℕ) → a ≤ 8311 → b ≤ 8311 → 8 + ((1 + max b (max a 0)) + 0) ≤ 8320
    sum a b h g = omega arith

-- no message has more than 8,324 records
pub pdus-most : (d : ℕ) (down up : List ℕ) → most (pdus d down up) ≤ 8324
unfolding most pdus
pdus-most zero down up = sum (most (protected_message down)) (protected-most down)
  where
    sum : (p : ℕ) → p ≤ 8321 → 1 + (1 + max 1 (max 1 (max (1 + (p + 0)) (max p 0)))) ≤ 8324
    sum p h = omega arith
pdus-most (suc d) down up = sum (most (protected_message up)) (most (forward down up)) (protected-most up) (forward-most down up)
  where
    sum : (p f : ℕ) → p ≤ 8321 → f ≤ 8320 → 1 + (1 + max 1 (max 1 (max p (max p (max f (max 1 0)))))) ≤ 8324
    sum p f h g = omega arith

pub cm_ground_most : most cm_ground ≤ 8324
unfolding most
cm_ground_most = leb-true _ 8324 refl

pub cm_aircraft_most : most cm_aircraft ≤ 8324
unfolding most
cm_aircraft_most = leb-true _ 8324 refl

pub acse-most : most acse ≤ 8324
unfolding most
acse-most = leb-true _ 8324 refl
