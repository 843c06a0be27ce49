-- The elements of any lent table are as many as its bytes, tell no places, and never carry on past the end of their window.
use mathlib.Core.Path.{◌≡◌, refl, ap}
use mathlib.Core.Bool.{Bool, true, ◌&&◌}
use mathlib.Core.List.{List, [], ◌∷◌}
use Prim.Native.Nat.{ℕ, zero, suc}
use lib.ListN.{length, get_or}
use Rattle.x691.specs.Encoding.{count}
use Rattle.atn.specs.Format.{Fmt, alternatives_of}
use Rattle.atn.specs.Messages.{arguments, no_reader, argument_of, elements, message_data, atc_message}
use Rattle.atn.proofs.Inverse.{both}
use Rattle.atn.proofs.Tame.{keeps_stop, tame, tame_fields, tame_choice}
use Rattle.atn.proofs.Firm.{firm, firm_choice}
use Rattle.atn.proofs.Shift.{placeless, placeless_fields, placeless_choice}

unfoldable pub every : (Fmt → Bool) → List Fmt → Bool
every p [] = true
every p (f ∷ fs) = p f && every p fs

pub every_get : (p : Fmt → Bool) (fs : List Fmt) (d : Fmt) (k : ℕ) → every p fs ≡ true → p d ≡ true → p (get_or fs k d) ≡ true
unfolding every
every_get p [] d k h g = g
every_get p (f ∷ fs) d zero h g = (both (p f) (every p fs) h).0
every_get p (f ∷ fs) d (suc k) h g = every_get p fs d k (both (p f) (every p fs) h).1 g

argument_firm : (k : ℕ) → firm (argument_of k) ≡ true
unfolding argument_of tame tame_fields tame_choice keeps_stop every
argument_firm zero = refl
argument_firm (suc k) = every_get firm arguments no_reader k refl refl

argument_placeless : (k : ℕ) → placeless (argument_of k) ≡ true
unfolding argument_of placeless placeless_fields placeless_choice every
argument_placeless zero = refl
argument_placeless (suc k) = every_get placeless arguments no_reader k refl refl

pub elements-count : (table : List ℕ) → count (alternatives_of (elements table)) ≡ length table
unfolding elements count
elements-count [] = refl
elements-count (k ∷ table) = ap suc (elements-count table)

pub elements_firm : (table : List ℕ) → firm_choice (elements table) ≡ true
unfolding elements tame_choice
elements_firm [] = refl
elements_firm (k ∷ table) = rw (argument_firm k, elements_firm table) refl

pub elements_placeless : (table : List ℕ) → placeless_choice (elements table) ≡ true
unfolding elements placeless_choice
elements_placeless [] = refl
elements_placeless (k ∷ table) = rw (argument_placeless k, elements_placeless table) refl

pub data_placeless : (table : List ℕ) → placeless (message_data table) ≡ true
unfolding placeless placeless_fields placeless_choice
data_placeless table = rw (elements_placeless table) refl

pub message_placeless : (table : List ℕ) → placeless (atc_message table) ≡ true
unfolding placeless placeless_fields placeless_choice
message_placeless table = rw (elements_placeless table) refl
