-- The alternatives of the message choices as readings: functions of the window's end and the place.
use Rattle.std.specs.Prelude.{List, ℕ, zero, suc}
use Rattle.x691.specs.Bits.{bit_of}
use Rattle.atn.specs.Format.{Alts, num, seq, end, ◌⨾◌, ◌⨾?◌, none_left, ◌∥◌}
use Rattle.atn.specs.Messages.{ext_reason, protected_message, forward}
use Rattle.atn.specs.Reading.{Ans, read, read_choice}
use Rattle.atn.specs.Tags as tag

unfoldable pub start_at : List ℕ → List ℕ → ℕ → ℕ → Ans
start_at down s e p = read (seq (num tag.mode 0 1 ⨾? protected_message down ⨾ end)) (0, 0) (bit_of s) e p

-- the alternatives of the downlink, and those of the uplink
abbrev pub alternatives : ℕ → List ℕ → List ℕ → Alts
alternatives zero down up =
    ext_reason tag.user_abort_reason 12 ∥ ext_reason tag.provider_abort_reason 7 ∥ seq (num tag.mode 0 1 ⨾? protected_message down ⨾ end) ∥ protected_message down ∥ none_left
alternatives (suc d) down up =
    ext_reason tag.user_abort_reason 12 ∥ ext_reason tag.provider_abort_reason 7 ∥ protected_message up ∥ protected_message up ∥ forward down up ∥ ext_reason tag.forward_response 2 ∥ none_left

unfoldable pub alternative_at : ℕ → ℕ → List ℕ → List ℕ → List ℕ → ℕ → ℕ → Ans
alternative_at d v down up s e p = read_choice (alternatives d down up) v (0, 0) (bit_of s) e p
