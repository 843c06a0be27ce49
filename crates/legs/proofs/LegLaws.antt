-- A leg from its index and its alternative.
use mathlib.Core.Path.{◌≡◌, refl}
use mathlib.Core.List.{List, [], ◌++◌, append-nil}
use Prim.Native.Nat.{ℕ, zero, suc}
use native.Mathlib.Omega.{arith}
use Rattle.x691.specs.Bits.{bit_of}
use Rattle.x691.specs.Encoding.{width, width_in, count}
use Rattle.x691.specs.Encoding as encoding
use Rattle.atn.specs.Format.{Fmt, bad, lack, many, Alts, none_left, ◌∥◌}
use Rattle.atn.specs.Reading.{Rec, Ctx, stop, mark, flags, read_choice}
use Rattle.atn.specs.Messages as message
use Rattle.cursor.specs.declared.place.Cursor.{Cursor}
use Rattle.cursor.specs.declared.place.Got.{Got}
use Rattle.cursor.specs.Place.{stopped, Pulls, Takes}
use Rattle.character_strings.specs.Texts.{text_recs}
use Rattle.ranged_numbers.proofs.ChoiceLaws.{takes_index, takes_unlisted}
use Rattle.cursor.proofs.Laws.{stopped_stops}
use Rattle.cursor.proofs.FormatLaws.{all_read, takes_plain, takes_refuse, takes_times, fields_must, fields_last, times_none, times_more}
use Rattle.angles.specs.declared.Pair.{Pair}
use Rattle.named_places.specs.declared.Published.{Published}
use Rattle.angles.specs.Angles.{pair_recs}
use Rattle.named_places.specs.Names.{published_recs}
use Rattle.legs.specs.declared.Bearing.{Bearing}
use Rattle.legs.specs.declared.Leg.TheVariants.{Place, Coordinates, Between, Designator, Unread}
use Rattle.character_strings.specs.declared.Text.{Text}
use Rattle.legs.specs.Legs.{bearing, ranging, route_information, bearing_recs, leg_recs, Rangings}
use Rattle.optional_parts.proofs.PartLaws.{reads_any}

takes_any : {f : Fmt} {s : List ℕ} {c d : Cursor} {T : ℕ → List Rec} (U : ℕ → List Rec) → (d.why ≡ 0 → ⊥) → Takes f s c d T → Takes f s c d U
takes_any U h y = record { took = λ x. reads_any (U x.0) h (y.took x) }

-- the place and the bearing are read, and the distance is reached
pub ranging_stops : {s : List ℕ} {c d e f : Cursor} {T U : ℕ → List Rec} → Takes message.published s c d T → Takes message.degrees s d e U → f ≡ stopped e 6 0 → Rangings s c f
unfolding flags all_read
ranging_stops {e = e} x y q =
    let n = stopped_stops e 6 0 (λ h. omega arith) q in
    record { reads = λ W. takes_any W n (takes_plain refl refl (fields_must x (fields_must y (fields_last (takes_refuse {T = W} lack 0 (λ h. omega arith) q))))); stops = n }

---------------------------------------------------------------- by the index

abbrev alts : Alts
alts = message.published ∥ message.latlon ∥ many 2 2 bearing ∥ ranging ∥ message.ia5 101 2 7 ∥ none_left

module _ {s : List ℕ} {c d : Cursor} (g : Got ℕ) (p : Pulls s c 3 g) where
  pub leg-place : (v : Published) → g.v ≡ 0 → Takes message.published s g.c d (published_recs s v) → Takes route_information s c d (leg_recs s c.at (Place v))
  unfolding leg_recs read_choice width width_in encoding.highest count
  leg-place v z h = takes_index 97 alts 0 _ g p z (λ x u q. refl) h

  pub leg-coordinates : (v : Pair) → g.v ≡ 1 → Takes message.latlon s g.c d (pair_recs v) → Takes route_information s c d (leg_recs s c.at (Coordinates v))
  unfolding leg_recs read_choice width width_in encoding.highest count
  leg-coordinates v z h = takes_index 97 alts 1 _ g p z (λ x u q. refl) h

  pub leg-between : {e : Cursor} (v w : Bearing) → g.v ≡ 2 → Takes bearing s g.c e (bearing_recs s v) → Takes bearing s e d (bearing_recs s w) → Takes route_information s c d (leg_recs s c.at (Between v w))
  unfolding leg_recs read_choice width width_in encoding.highest count
  leg-between {e} v w z h y =
      takes_index 97 alts 2 (many 2 2 bearing) g p z (λ x u q. refl)
      (let t : Takes (many 2 2 bearing) s g.c d (λ n. bearing_recs s v n ++ (bearing_recs s w n ++ [])) = takes_times 2 (times_more h (times_more y times_none)) in
      record { took = λ x. rw (append-nil (bearing_recs s w x.0)) at (t.took x) })

  pub leg-ranging : g.v ≡ 3 → Rangings s g.c d → Takes route_information s c d (leg_recs s c.at Unread)
  unfolding read_choice width width_in encoding.highest count
  leg-ranging z h = takes_any (leg_recs s c.at Unread) h.stops (takes_index 97 alts 3 ranging g p z (λ x u q. refl) (h.reads (λ n. [])))

  pub leg_designator : (v : Text) → g.v ≡ 4 → Takes (message.ia5 101 2 7) s g.c d (λ n. text_recs 101 n s v) → Takes route_information s c d (leg_recs s c.at (Designator v))
  unfolding leg_recs read_choice width width_in encoding.highest count
  leg_designator v z h = takes_index 97 alts 4 _ g p z (λ x u q. refl) h

  -- any other index is not listed
  pub leg-unlisted : (g.v ≡ 0 → ⊥) → (g.v ≡ 1 → ⊥) → (g.v ≡ 2 → ⊥) → (g.v ≡ 3 → ⊥) → (g.v ≡ 4 → ⊥) → d ≡ stopped g.c 5 1 → Takes route_information s c d (leg_recs s c.at Unread)
  unfolding read_choice mark width width_in encoding.highest count
  leg-unlisted z₀ z₁ z₂ z₃ z₄ q = takes_unlisted 97 alts g p (λ x u r. go g.v x u r z₀ z₁ z₂ z₃ z₄) q
    where
      go : (v : ℕ) (x : Ctx) (u r : ℕ) → (v ≡ 0 → ⊥) → (v ≡ 1 → ⊥) → (v ≡ 2 → ⊥) → (v ≡ 3 → ⊥) → (v ≡ 4 → ⊥) → read_choice alts v x (bit_of s) u r ≡ stop bad r [] 1
      go zero x u r y₀ y₁ y₂ y₃ y₄ = absurd (y₀ refl)
      go (suc zero) x u r y₀ y₁ y₂ y₃ y₄ = absurd (y₁ refl)
      go (suc (suc zero)) x u r y₀ y₁ y₂ y₃ y₄ = absurd (y₂ refl)
      go (suc (suc (suc zero))) x u r y₀ y₁ y₂ y₃ y₄ = absurd (y₃ refl)
      go (suc (suc (suc (suc zero)))) x u r y₀ y₁ y₂ y₃ y₄ = absurd (y₄ refl)
      go (suc (suc (suc (suc (suc v))))) x u r y₀ y₁ y₂ y₃ y₄ = refl
