-- "to the bits of a clean .. message, padded with zero bits to a byte": what is written, as a value of the schema.
use Rattle.std.specs.Prelude.{◌≡◌, List, ℕ, ◌+◌, ◌/◌, length, take}
use Rattle.x691.specs.Types.{Value}
use Rattle.x691.specs.Encoding.{encode}
use Rattle.x691.specs.Range.{InRange}
use Rattle.atn.specs.Format.{Fmt, type_of}
use Rattle.record_lists.specs.Message.{bytes_of}

-- the n bits written into the lent bytes, now out, are the encoding of this value in range
pub record Encodes (f : Fmt) (n : ℕ) (out : List ℕ) : Type 0 where
  pub val : Value (type_of f)
  pub in_range : InRange (type_of f) val
  pub count : n ≡ length (encode (type_of f) val)
  -- the bytes that they fill are its bytes
  pub front : take ((n + 7) / 8) out ≡ bytes_of (encode (type_of f) val)
