-- Each way through the code is one of the definition.
use Rattle.std.proofs.Common.{◌≡◌, ℕ, ◌*◌, true, false, leb, List, length, sym, ◌∙◌}
use Rattle.station.specs.Offers.{Call, call}
use Rattle.station.proofs.OfferLaws.{too_few, unnamed, beyond, booked, enters}
use Rattle.station.proofs.bind.Goals.{Else-not-holds_bits}
use Rattle.station.proofs.bind.Goals as goal

-- the call that is made
abbrev made : Else-not-holds_bits → Call
made c = call c.args.capture.now c.args.arrived c.args.number c.args.down.now c.args.up.now

abbrev words : Else-not-holds_bits → List ℕ
words c = c.args.book.now

enough : (c : Else-not-holds_bits) → leb (made c).arrived (length (made c).capture * 8) ≡ true
enough c = sym c.holds_bits.ensures ∙ c.if-not-holds_bits.false

pub returns-then-not-holds_bits : goal.returns-then-not-holds_bits
returns-then-not-holds_bits c =
    let a = c.args in
    too_few (call a.capture.now a.arrived a.number a.down.now a.up.now) a.book.now (sym c.holds_bits.ensures ∙ c.if-not-holds_bits.true) c.refused.ensures

pub returns-then-name-ne0 : goal.returns-then-name-ne0
returns-then-name-ne0 c =
    unnamed (made (goal.at.returns-then-name-ne0 c).Else-not-holds_bits) (words (goal.at.returns-then-name-ne0 c).Else-not-holds_bits) (enough (goal.at.returns-then-name-ne0 c).Else-not-holds_bits) c.forward_name-name.ensures c.if-name-ne0.true c.refused-then-name-ne0.ensures

pub returns-then-arrived-name : goal.returns-then-arrived-name
returns-then-arrived-name c =
    beyond (made (goal.at.returns-then-arrived-name c).Else-not-holds_bits) (words (goal.at.returns-then-arrived-name c).Else-not-holds_bits) (enough (goal.at.returns-then-arrived-name c).Else-not-holds_bits) c.forward_name-name.ensures c.if-name-ne0.false c.if-arrived-name.true c.refused-then-arrived-name.ensures

pub entry_of-requires : goal.entry_of-requires
entry_of-requires c =
    enters (made (goal.at.entry_of-requires c).Else-not-holds_bits) c.forward_name-name.ensures c.if-name-ne0.false

pub returns : goal.returns
returns c =
    let e = c.entry_of.ensures in
    booked (made (goal.at.returns c).Else-not-holds_bits) (words (goal.at.returns c).Else-not-holds_bits) (enough (goal.at.returns c).Else-not-holds_bits) c.forward_name-name.ensures c.if-name-ne0.false c.if-arrived-name.false
    (rw (e, c.forward_name-name.ensures) at c.add_entry-added.ensures) c.answered.ensures
