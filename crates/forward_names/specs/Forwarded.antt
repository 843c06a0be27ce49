-- What a name is: the aircraft identifier of a forward message with which the frame begins, and which the uplink reading calls clean.
use Rattle.std.specs.Prelude.{◌≡◌, false, List, ℕ, length}
use Rattle.std.proofs.Common.{inl, inr}
use Rattle.x691.specs.Bits.{bit_of, Spells}
use Rattle.x691.specs.Types.{Value}
use Rattle.x691.specs.Encoding.{encode}
use Rattle.x691.specs.Range.{InRange}
use Rattle.atn.specs.Format.{type_of}
use Rattle.atn.specs.Messages.{forward, ground_pdus}
use Rattle.atn.specs.Reading.{octets}
use Rattle.atn.specs.Told.{tell}
use Rattle.atn.specs.Entries.{accept, read_frame}
use Rattle.forward_names.specs.declared.Named.{Named}

-- a forward message as one of the uplink's messages: alternative 4
abbrev pub uplink : (down up : List ℕ) → Value (type_of (forward down up)) → Value (type_of (ground_pdus down up))
uplink down up v = inr (inr (inr (inr (inl v))))

-- its aircraft identifier, the second part of its header
abbrev pub identifier_of : (down up : List ℕ) → Value (type_of (forward down up)) → List ℕ
identifier_of down up v = v.0.1.0

-- the first p bits of the frame are the encoding of the forward message v, and the uplink reading gives its records, clean
pub record Forwards (s down up : List ℕ) (p : ℕ) (v : Value (type_of (forward down up))) : Type 0 where
  pub in_range : InRange (type_of (forward down up)) v
  pub spelt : Spells (bit_of s) 0 (encode (type_of (ground_pdus down up)) (uplink down up v))
  pub long : p ≡ length (encode (type_of (ground_pdus down up)) (uplink down up v))
  pub clean : read_frame (ground_pdus down up) s ≡ accept false p 0 (tell (ground_pdus down up) (uplink down up v) (0, 0) 0)

-- the name of these characters, in a message of this reach
abbrev pub name_for : ℕ → List ℕ → Named
name_for p cs = record { number = 0; reach = p; lacked = 0; text = octets 8 cs; size = length cs }

pub record Identifies (s down up : List ℕ) (r : Named) : Type 0 where
  pub message : Value (type_of (forward down up))
  pub forwards : Forwards s down up r.reach message
  pub is : r ≡ name_for r.reach (identifier_of down up message)
