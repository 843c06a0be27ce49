-- The two exceptions of request a) of document 02, in the values of CPDLC's messages: "a frame with no default written out and no empty constrained data".
use Rattle.std.specs.Prelude.{◌≡◌, List, [], ◌∷◌, ℕ}
use Rattle.std.proofs.Math.Option.{Option, none, some}
use Rattle.std.proofs.Common.{inl, inr}
use Rattle.x691.specs.Types.{Value}
use Rattle.x691.specs.Range.{IfAny}
use Rattle.atn.specs.Format.{type_of}
use Rattle.atn.specs.Messages.{constrained_data, message_data, atc_message, protected_message, forward, aircraft_pdus, ground_pdus}

-- an acknowledgment that is written out is 0: 1 is the default
abbrev pub NoDefault : Option ℕ → Type 0
NoDefault none = Unit {0}
NoDefault (some v) = v ≡ 0

-- constrained data, where they are there, hold a clearance
abbrev pub Held : Option (Value (type_of constrained_data)) → Type 0
Held none = Unit {0}
Held (some (none, u)) = ⊥
Held (some (some [], u)) = ⊥
Held (some (some (c ∷ cs), u)) = Unit {0}

module _ (table : List ℕ) where
  -- elements, constrained data
  abbrev pub data_spares : Value (type_of (message_data table)) → Type 0
  data_spares v = Held v.1.0

  -- number, reference, date and time, acknowledgment, data
  abbrev pub message_spares : Value (type_of (atc_message table)) → Type 0
  message_spares v = NoDefault v.1.1.1.0 × data_spares v.1.1.1.1.0

  -- algorithm, message, integrity
  abbrev pub protected_spares : Value (type_of (protected_message table)) → Type 0
  protected_spares v = IfAny (λ m. message_spares m) v.1.0

-- the aborts, startdown with its mode, send
abbrev pub aircraft_spares : (down : List ℕ) → Value (type_of (aircraft_pdus down)) → Type 0
aircraft_spares down (inl v) = Unit {0}
aircraft_spares down (inr (inl v)) = Unit {0}
aircraft_spares down (inr (inr (inl v))) = protected_spares down v.1.0
aircraft_spares down (inr (inr (inr (inl v)))) = protected_spares down v
aircraft_spares down (inr (inr (inr (inr v)))) = ⊥

-- header, and what is carried: an uplink or a downlink
abbrev pub forward_spares : (down up : List ℕ) → Value (type_of (forward down up)) → Type 0
forward_spares down up (h, (inl v, u)) = data_spares up v
forward_spares down up (h, (inr (inl v), u)) = data_spares down v
forward_spares down up (h, (inr (inr v), u)) = ⊥

-- the aborts, startup, send, forward, its response
abbrev pub ground_spares : (down up : List ℕ) → Value (type_of (ground_pdus down up)) → Type 0
ground_spares down up (inl v) = Unit {0}
ground_spares down up (inr (inl v)) = Unit {0}
ground_spares down up (inr (inr (inl v))) = protected_spares up v
ground_spares down up (inr (inr (inr (inl v)))) = protected_spares up v
ground_spares down up (inr (inr (inr (inr (inl v))))) = forward_spares down up v
ground_spares down up (inr (inr (inr (inr (inr (inl v)))))) = Unit {0}
ground_spares down up (inr (inr (inr (inr (inr (inr v)))))) = ⊥
