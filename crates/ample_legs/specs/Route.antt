-- What a leg says behind its place in the clearance: `leg` of crates/atn/specs/Messages.antt without that place.
use Rattle.std.specs.Prelude.{Bool, ℕ, zero, suc}
use Rattle.atn.specs.Format.{Fmt, Alts, many, seq, choice, end, ◌⨾◌, none_left, ◌∥◌}
use Rattle.atn.specs.Messages as message
use Rattle.atn.specs.Tags as tag
use Rattle.ample_places.specs.Place.{place_of}

-- places, published or coordinates alone, with as many bearings: one without, one with its own, two with their own
unfoldable pub places_of : Bool → ℕ → Fmt
places_of published zero = place_of published
places_of published (suc zero) = seq (place_of published ⨾ message.degrees ⨾ end)
places_of published (suc (suc k)) = many 2 2 (seq (place_of published ⨾ message.degrees ⨾ end))

abbrev pub legs : Alts
legs =
    message.published
    ∥ message.latlon
    ∥ many 2 2 (seq (message.published ⨾ message.degrees ⨾ end))
    ∥ seq (message.published ⨾ message.degrees ⨾ message.unsupplied ⨾ end)
    ∥ message.ia5 tag.route_designator 2 7
    ∥ none_left

abbrev pub route_information : Fmt
route_information = choice tag.route_information legs
