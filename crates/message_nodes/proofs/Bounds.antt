-- How many bits the messages have at most, and what their inner strings hold; how long the table is.
use mathlib.Core.Path.{◌≡◌, refl}
use mathlib.Core.Bool.{true}
use mathlib.Core.Option.{some}
use mathlib.Core.List.{List, [], ◌∷◌}
use Prim.Native.Nat.{ℕ, zero, suc, ◌+◌, ◌*◌, ◌≤◌}
use native.Mathlib.Omega.{arith}
use lib.ListN.{length}
use lib.Dec.{leb}
use borrow.Author.Tests.{leb-true}
use Rattle.x691.specs.Types.{extent}
use Rattle.x691.specs.Encoding.{width, width_in, highest, count}
use Rattle.per.proofs.Widths.{width-le}
use Rattle.atn.specs.Format.{Fmt, alternatives_of}
use Rattle.atn.specs.Reading.{flags}
use Rattle.atn.specs.Messages.{no_reader, arguments, argument_of, elements, constrained_data, message_data, atc_message, aircraft_pdus, ground_pdus, acse}
use Rattle.atn.specs.Entries.{pdus, cm_of}
use Rattle.atn.proofs.Elements.{every, every_get, elements-count}
use Rattle.record_lists.specs.Kinds.{kind_of}
use Rattle.record_lists.specs.Most.{most, most_alts}
use Rattle.record_lists.proofs.Messages.{some_is, nothing}
use Rattle.message_nodes.specs.Table.{table}

pub few-nodes : length table ≤ 6000000
unfolding table
few-nodes = leb-true (length table) 6000000 refl

arguments-within : every (λ f. leb (most f) 200) arguments ≡ true
unfolding every most width width_in extent highest count flags
arguments-within = refl

argument-most : (k : ℕ) → most (argument_of k) ≤ 200
unfolding argument_of most
argument-most zero = omega arith
argument-most (suc k) = leb-true _ 200 (every_get (λ f. leb (most f) 200) arguments no_reader k arguments-within refl)

elements-most : (t : List ℕ) → most_alts (elements t) ≤ 200
unfolding elements most
elements-most [] = omega arith
elements-most (k ∷ t) = omega (arith, argument-most k, elements-most t)

elements-width : (t : List ℕ) → length t ≤ 256 → width (highest (alternatives_of (elements t))) ≤ 8
unfolding highest
elements-width t l = width-le 8 _ (omega (arith, elements-count t))

constrained_most : most constrained_data ≤ 60000
unfolding most width width_in extent highest count flags
constrained_most = leb-true _ 60000 refl

data_sum : (w a c : ℕ) → w ≤ 8 → a ≤ 200 → c ≤ 60000 → 1 + ((3 + 5 * (w + a)) + (c + 0)) ≤ 62000
data_sum w a c i j k = omega arith

pub data_most : (t : List ℕ) → length t ≤ 256 → most (message_data t) ≤ 62000
unfolding most flags width width_in
data_most t l = data_sum (width (highest (alternatives_of (elements t)))) (most_alts (elements t)) (most constrained_data) (elements-width t l) (elements-most t) constrained_most

pub message-most : (t : List ℕ) → length t ≤ 256 → most (atc_message t) ≤ 63000
unfolding most flags width width_in extent
message-most t l = message_sum (most (message_data t)) (data_most t l)
  where
    -- identification, reference, date and time, acknowledgment
    message_sum : (m : ℕ) → m ≤ 62000 → 2 + (6 + (6 + (33 + (1 + (m + 0))))) ≤ 63000
    message_sum m h = omega arith

---------------------------------------------------------------- of the messages themselves

downlink_most : (down : List ℕ) → most (aircraft_pdus down) ≤ 65536
unfolding most width width_in extent highest count flags
downlink_most down = leb-true _ 65536 refl

uplink-most : (down up : List ℕ) → most (ground_pdus down up) ≤ 65536
unfolding most width width_in extent highest count flags
uplink-most down up = leb-true _ 65536 refl

pdus-most : (d : ℕ) (down up : List ℕ) → most (pdus d down up) ≤ 65536
unfolding pdus
pdus-most zero down up = downlink_most down
pdus-most (suc d) down up = uplink-most down up

cm-most : (d : ℕ) → most (cm_of d) ≤ 65536
unfolding cm_of most width width_in extent highest count flags
cm-most zero = leb-true _ 65536 refl
cm-most (suc d) = leb-true _ 65536 refl

acse-most : most acse ≤ 65536
unfolding most width width_in extent highest count flags
acse-most = leb-true _ 65536 refl

-- no message has more than 65,536 bits
pub few_bits : (k d : ℕ) (down up : List ℕ) {f : Fmt} → kind_of k d down up ≡ some f → most f ≤ 65536
unfolding kind_of
few_bits zero d down up h = rw (← some_is h) (pdus-most d down up)
few_bits (suc zero) d down up h = rw (← some_is h) (cm-most d)
few_bits (suc (suc zero)) d down up h = rw (← some_is h) acse-most
few_bits (suc (suc (suc k))) d down up h = nothing h
