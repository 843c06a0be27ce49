-- Places one after another: what is left of them makes, once it is read, all of them.
use mathlib.Core.Path.{◌≡◌}
use mathlib.Core.Bool.{Bool}
use mathlib.Core.List.{List}
use Prim.Native.Nat.{ℕ, ◌+◌, ◌*◌, ◌^◌, ◌≤◌, ◌<◌}
use native.Mathlib.Omega.{arith}
use Rattle.atn.specs.Format.{seq, end, ◌⨾◌}
use Rattle.atn.specs.Reading.{or}
use Rattle.atn.specs.Messages as message
use Rattle.atn.proofs.Marks.{or_nil, or_assoc, or_commutes}
use Rattle.records.specs.Space.{space}
use Rattle.records.proofs.Sizes.{space_grows}
use Rattle.ample_readings.specs.declared.Step.{Step}
use Rattle.ample_readings.specs.Ample.{Done, Ample}
use Rattle.ample_readings.proofs.SureLaws.{sure_two}
use Rattle.ample_readings.proofs.AmpleLaws.{done-within, ample_after, ample_none, ample_untold}
use Rattle.ample_angles.proofs.PairLaws.{marked}
use Rattle.ample_places.specs.Place.{place_of}
use Rattle.ample_places.proofs.RoomLaws.{Fits}
use Rattle.ample_legs.specs.Route.{places_of}

module _ (s : List ℕ) (at n : ℕ) (w : List ℕ) (published : Bool) (bearings : ℕ) where
  pub record Rest (w₁ : List ℕ) (m p marks left : ℕ) : Type 0 where
    pub makes : (b j : ℕ) (w₂ : List ℕ) (r : Step) → b + 15 * bearings ≤ 30 + 15 * left → j + 121 * bearings ≤ 242 + 121 * left → Ample b j (places_of published left) s p m w₁ w₂ r → Ample 30 242 (places_of published bearings) s at n w w₂ (marked marks r)

module _ {s : List ℕ} {at n : ℕ} {w : List ℕ} {published : Bool} {bearings : ℕ} where
  -- nothing is read yet
  pub rest_all : Rest s at n w published bearings w n at 0 bearings
  rest_all = record { makes = λ b j w₂ r h l x. record { room = x.room; before = x.before; done = λ z. rw (or_commutes 0 r.marks, or_nil r.marks) (done-within (x.done z) (omega arith) (omega arith)) } }

  module _ {w₁ w₂ : List ℕ} {m p marks left : ℕ} (y : Rest s at n w published bearings w₁ m p marks left) where
    -- given up
    pub rest-none : {r : Step} → bearings ≤ 2 → Ample 13 111 (place_of published) s p m w₁ w₂ r → r.at ≡ 0 → Ample 30 242 (places_of published bearings) s at n w w₂ r
    rest-none {r} h x z = ample_none (ample_untold (y.makes 0 0 w₂ r (omega arith) (omega arith) (ample_none (ample_untold x) z))) z

    -- one place without a bearing
    pub rest_bare : {r : Step} → bearings ≤ 2 * left → left ≡ 0 → Ample 13 111 (place_of published) s p m w₁ w₂ r → Ample 30 242 (places_of published bearings) s at n w w₂ (marked marks r)
    unfolding places_of
    rest_bare {r} h e x = y.makes 13 111 w₂ r (omega arith) (omega arith) (rw e x)

    module _ {r : Step} (d : Done 15 121 (seq (place_of published ⨾ message.degrees ⨾ end)) s p m w₁ w₂ r) where
      pub rest_last : bearings ≤ 2 → left ≡ 1 → Ample 30 242 (places_of published bearings) s at n w w₂ (marked marks r)
      unfolding places_of
      rest_last h e = y.makes 15 121 w₂ r (omega arith) (omega arith) (rw e (record { room = d.told.room; before = d.told.before; done = λ _. d }))

      -- the first of two
      pub rest-next : {left' : ℕ} → bearings ≤ 2 → left ≡ 2 → left' ≡ 1 → Rest s at n w published bearings w₂ r.n r.at (or marks r.marks) left'
      unfolding places_of
      rest-next h e f = record {
        makes = λ b j w₃ t k l x.
            rw (or_assoc marks r.marks t.marks)
            (y.makes (15 + b) (121 + j) w₃ (marked r.marks t) (omega arith) (omega arith) (rw e (ample_after d (rw f at x) (omega arith) (omega arith) (λ R S a c i. sure_two (a 1) (c 2)))));
      }

-- where the reading stands with so many bearings left: records, bits and words
abbrev pub Stands : (at n bearings m p left room room₀ : ℕ) → Type 0
Stands at n bearings m p left room room₀ = (left ≤ bearings) × (bearings ≤ 2 * left) × (m + 15 * left ≤ n + 15 * bearings) × (p + 121 * left ≤ at + 121 * bearings) × (room ≡ room₀)

module _ {end at n bearings m p left room room₀ : ℕ} {More : Type 0} (f : (n < 2 ^ 25) × (space (n + 30) ≤ room₀) × (at < 2 ^ 55) × (at + 125 ≤ end) × (at + 47 + 121 * bearings ≤ end) × (bearings ≤ 2) × More) (o : Stands at n bearings m p left room room₀) where
  pub place-fits : Fits (2 ^ 27) 13 (2 ^ 57) 125 room end m p
  place-fits =
      let e : m + 13 ≤ n + 30 = omega (arith, f.5, o.0, o.1, o.2) in
      (omega (arith, f.0, e), omega (arith, f.1, o.4, space_grows e), omega (arith, f.2, f.5, o.0, o.3), omega (arith, f.3, f.4, f.5, o.0, o.1, o.3))

  pub bearing-fits : 1 ≤ left → Fits (2 ^ 27) 15 (2 ^ 57) 168 room end m p
  bearing-fits h =
      let e : m + 15 ≤ n + 30 = omega (arith, f.5, o.2) in
      (omega (arith, f.0, e), omega (arith, f.1, o.4, space_grows e), omega (arith, f.2, f.5, o.3), omega (arith, f.4, o.3))
