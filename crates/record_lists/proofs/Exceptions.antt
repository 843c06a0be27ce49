-- A value of a CPDLC message is plain unless it is one of the two exceptions of request a), and then it is not.
use mathlib.Core.Path.{◌≡◌, refl}
use mathlib.Core.Bool.{true, true≢false}
use mathlib.Core.Option.{Option, none, some}
use mathlib.Core.Logic.{inl, inr}
use mathlib.Core.List.{List, [], ◌∷◌}
use Prim.Native.Nat.{ℕ, zero, suc}
use native.Mathlib.Omega.{arith}
use Rattle.x691.specs.Types.{Value, extent}
use Rattle.x691.specs.Range.{IfAny, InRange, member}
use Rattle.atn.specs.Format.{Fmt, type_of, many, element, choice, seq, span, ◌⨾◌, end}
use Rattle.atn.specs.Messages.{date_time_group, ia5, arguments, no_reader, argument_of, elements, constrained_data, message_data, atc_message, protected_message, forward, aircraft_pdus, ground_pdus}
use Rattle.atn.specs.Tags as tag
use Rattle.atn.specs.Reading.{word}
use Rattle.atn.proofs.Elements.{every, every_get}
use Rattle.record_lists.specs.Shown.{shown, show_any, show_all}
use Rattle.record_lists.specs.Clear.{solid, firsts, single, unlike}
use Rattle.record_lists.specs.Parse.{same, begins}
use Rattle.record_lists.specs.Plain.{Plain}
use Rattle.record_lists.specs.Exceptions.{data_spares, message_spares, protected_spares, forward_spares, aircraft_spares, ground_spares}
use Rattle.record_lists.proofs.Firm.{firm, firm_alts, plain-all}

---------------------------------------------------------------- the elements of any lent table

argument_firm : (k : ℕ) → firm (argument_of k) ≡ true
unfolding argument_of firm solid every
argument_firm zero = refl
argument_firm (suc k) = every_get firm arguments no_reader k refl refl

elements_firm : (table : List ℕ) → firm_alts (elements table) ≡ true
unfolding elements firm
elements_firm [] = refl
elements_firm (k ∷ table) = rw (argument_firm k, elements_firm table) refl

---------------------------------------------------------------- messages

module _ (table : List ℕ) where
  elements-plain : (vs : Value (type_of (many 1 5 (element (choice tag.element_index (elements table)))))) → Plain (many 1 5 (element (choice tag.element_index (elements table)))) vs (0, 0)
  unfolding firm
  elements-plain vs = plain-all (many 1 5 (element (choice tag.element_index (elements table)))) vs (0, 0) (elements_firm table)

  constrained_plain : (c : Value (type_of constrained_data)) → Plain constrained_data c (0, 0)
  unfolding firm solid
  constrained_plain c = plain-all constrained_data c (0, 0) refl

  data_plain : (v : Value (type_of (message_data table))) → data_spares table v → Plain (message_data table) v (0, 0)
  unfolding solid shown show_any show_all
  data_plain (vs, (none, u)) h = (elements-plain vs, (tt, tt))
  data_plain (vs, (some (none, w), u)) h = absurd h
  data_plain (vs, (some (some [], w), u)) h = absurd h
  data_plain (vs, (some (some (c ∷ cs), w), u)) h = (elements-plain vs, ((tt, constrained_plain (some (c ∷ cs), w)), tt))

  reference_plain : (r : Option ℕ) → IfAny (λ v. Unit {0} × Unit {0}) r
  reference_plain none = tt
  reference_plain (some v) = (tt, tt)

  -- 0 is not the default
  message-plain : (v : Value (type_of (atc_message table))) → message_spares table v → Plain (atc_message table) v (0, 0)
  unfolding firm solid unlike single firsts member begins shown word same
  message-plain (n, (r, (d, (none, (x, u))))) (h, g) = (tt, (reference_plain r, (plain-all date_time_group d (0, 0) refl, (tt, (data_plain x g, tt)))))
  message-plain (n, (r, (d, (some v, (x, u))))) (h, g) = (tt, (reference_plain r, (plain-all date_time_group d (0, 0) refl, ((rw h refl, tt), (data_plain x g, tt)))))

  protected-plain : (v : Value (type_of (protected_message table))) → protected_spares table v → Plain (protected_message table) v (0, 0)
  unfolding unlike single firsts member solid
  protected-plain (none, (none, (i, u))) h = (tt, (tt, (tt, tt)))
  protected-plain (none, (some m, (i, u))) h = (tt, ((tt, message-plain m h), (tt, tt)))
  protected-plain (some a, v) h = absurd a

---------------------------------------------------------------- the messages of both directions

pub aircraft_pdus-plain : (down : List ℕ) (v : Value (type_of (aircraft_pdus down))) → aircraft_spares down v → Plain (aircraft_pdus down) v (0, 0)
unfolding firm solid
aircraft_pdus-plain down (inl v) h = tt
aircraft_pdus-plain down (inr (inl v)) h = tt
aircraft_pdus-plain down (inr (inr (inl (none, (v, u))))) h = (tt, (protected-plain down v h, tt))
aircraft_pdus-plain down (inr (inr (inl (some m, (v, u))))) h = ((tt, tt), (protected-plain down v h, tt))
aircraft_pdus-plain down (inr (inr (inr (inl v)))) h = protected-plain down v h
aircraft_pdus-plain down (inr (inr (inr (inr v)))) h = absurd h

abbrev forward_header : Fmt
forward_header = seq (date_time_group ⨾ ia5 tag.aircraft_id 2 8 ⨾ span tag.aircraft_address 1 24 24 ⨾ end)

forward-plain : (down up : List ℕ) (v : Value (type_of (forward down up))) → forward_spares down up v → Plain (forward down up) v (0, 0)
unfolding firm
forward-plain down up (b, (inl v, u)) h = (plain-all forward_header b (0, 0) refl, (data_plain up v h, tt))
forward-plain down up (b, (inr (inl v), u)) h = (plain-all forward_header b (0, 0) refl, (data_plain down v h, tt))
forward-plain down up (b, (inr (inr v), u)) h = absurd h

pub ground_pdus-plain : (down up : List ℕ) (v : Value (type_of (ground_pdus down up))) → ground_spares down up v → Plain (ground_pdus down up) v (0, 0)
ground_pdus-plain down up (inl v) h = tt
ground_pdus-plain down up (inr (inl v)) h = tt
ground_pdus-plain down up (inr (inr (inl v))) h = protected-plain up v h
ground_pdus-plain down up (inr (inr (inr (inl v)))) h = protected-plain up v h
ground_pdus-plain down up (inr (inr (inr (inr (inl v))))) h = forward-plain down up v h
ground_pdus-plain down up (inr (inr (inr (inr (inr (inl v)))))) h = tt
ground_pdus-plain down up (inr (inr (inr (inr (inr (inr v)))))) h = absurd h

---------------------------------------------------------------- the other way round

module _ (table : List ℕ) where
  data-spares : (v : Value (type_of (message_data table))) → Plain (message_data table) v (0, 0) → data_spares table v
  unfolding solid shown show_any show_all
  data-spares (vs, (none, u)) h = tt
  data-spares (vs, (some (none, w), u)) h = h.1.0.0
  data-spares (vs, (some (some [], w), u)) h = h.1.0.0
  data-spares (vs, (some (some (c ∷ cs), w), u)) h = tt

  -- of an acknowledgment's two values the default begins as the note does
  message-spares : (v : Value (type_of (atc_message table))) → InRange (type_of (atc_message table)) v → Plain (atc_message table) v (0, 0) → message_spares table v
  unfolding extent solid unlike single firsts member begins shown word same
  message-spares (n, (r, (d, (none, (x, u))))) g h = (tt, data-spares x h.1.1.1.1.0)
  message-spares (n, (r, (d, (some zero, (x, u))))) g h = (refl, data-spares x h.1.1.1.1.0)
  message-spares (n, (r, (d, (some (suc zero), (x, u))))) g h = absurd (true≢false h.1.1.1.0.0)
  message-spares (n, (r, (d, (some (suc (suc v)), (x, u))))) g h = absurd (omega (arith, g.1.1.1.0))

  protected-spares : (v : Value (type_of (protected_message table))) → InRange (type_of (protected_message table)) v → Plain (protected_message table) v (0, 0) → protected_spares table v
  protected-spares (a, (none, r)) g h = tt
  protected-spares (a, (some m, r)) g h = message-spares m g.1.0.1 h.1.0.1

pub aircraft_pdus_spare : (down : List ℕ) (v : Value (type_of (aircraft_pdus down))) → InRange (type_of (aircraft_pdus down)) v → Plain (aircraft_pdus down) v (0, 0) → aircraft_spares down v
aircraft_pdus_spare down (inl v) g h = tt
aircraft_pdus_spare down (inr (inl v)) g h = tt
aircraft_pdus_spare down (inr (inr (inl v))) g h = protected-spares down v.1.0 g.1.0 h.1.0
aircraft_pdus_spare down (inr (inr (inr (inl v)))) g h = protected-spares down v g h
aircraft_pdus_spare down (inr (inr (inr (inr v)))) g h = h

forward-spares : (down up : List ℕ) (v : Value (type_of (forward down up))) → Plain (forward down up) v (0, 0) → forward_spares down up v
forward-spares down up (b, (inl v, u)) h = data-spares up v h.1.0
forward-spares down up (b, (inr (inl v), u)) h = data-spares down v h.1.0
forward-spares down up (b, (inr (inr v), u)) h = h.1.0

pub ground_pdus_spare : (down up : List ℕ) (v : Value (type_of (ground_pdus down up))) → InRange (type_of (ground_pdus down up)) v → Plain (ground_pdus down up) v (0, 0) → ground_spares down up v
ground_pdus_spare down up (inl v) g h = tt
ground_pdus_spare down up (inr (inl v)) g h = tt
ground_pdus_spare down up (inr (inr (inl v))) g h = protected-spares up v g h
ground_pdus_spare down up (inr (inr (inr (inl v)))) g h = protected-spares up v g h
ground_pdus_spare down up (inr (inr (inr (inr (inl v))))) g h = forward-spares down up v h
ground_pdus_spare down up (inr (inr (inr (inr (inr (inl v)))))) g h = tt
ground_pdus_spare down up (inr (inr (inr (inr (inr (inr v)))))) g h = h
