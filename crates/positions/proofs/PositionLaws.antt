-- A position from its index.
use mathlib.Core.Path.{◌≡◌, refl}
use mathlib.Core.List.{List, []}
use Prim.Native.Nat.{ℕ, zero, suc}
use Rattle.x691.specs.Bits.{bit_of}
use Rattle.x691.specs.Encoding.{width, width_in, count}
use Rattle.x691.specs.Encoding as encoding
use Rattle.atn.specs.Format.{Alts, bad, none_left, ◌∥◌}
use Rattle.atn.specs.Reading.{Ctx, stop, mark, read, read_choice}
use Rattle.atn.specs.Messages as message
use Rattle.cursor.specs.declared.place.Cursor.{Cursor}
use Rattle.cursor.specs.declared.place.Got.{Got}
use Rattle.character_strings.specs.declared.Text.{Text}
use Rattle.cursor.specs.Place.{stopped, Pulls}
use Rattle.field_ranges.specs.Rows as rows
use Rattle.field_ranges.specs.Ends.{lowest, highest}
use Rattle.character_strings.specs.Texts.{Texts}
use Rattle.ranged_numbers.proofs.ChoiceLaws.{takes_index, takes_unlisted}
use Rattle.angles.specs.declared.Pair.{Pair}
use Rattle.named_places.specs.declared.Named.{Named}
use Rattle.positions.specs.declared.Position.TheVariants.{Fix, Navaid, Airport, Coordinates, Unread}
use Rattle.angles.specs.Angles.{Pairs}
use Rattle.named_places.specs.Names.{NamedPlaces}
use Rattle.positions.specs.Positions.{Positions}
use Rattle.named_places.proofs.NameLaws.{held-text}

abbrev alts : Alts
alts = message.named 31 5 ∥ message.named 32 4 ∥ message.ia5 33 4 4 ∥ message.latlon ∥ message.unlisted ∥ none_left

module _ {s : List ℕ} {c : Cursor} (g : Got ℕ) (p : Pulls s c 3 g) where
  pub position-fix : g.v ≡ 0 → (r : Got Named) → NamedPlaces rows.fix_size s g.c r → Positions s c (record { v = Fix c.at r.v; c = r.c })
  unfolding read_choice width width_in encoding.highest count lowest highest
  position-fix z r h = record { reads = takes_index 30 alts 0 _ g p z (λ x u q. refl) (h.reads 31); held = h.held }

  pub position-navaid : g.v ≡ 1 → (r : Got Named) → NamedPlaces rows.navaid_size s g.c r → Positions s c (record { v = Navaid c.at r.v; c = r.c })
  unfolding read_choice width width_in encoding.highest count lowest highest
  position-navaid z r h = record { reads = takes_index 30 alts 1 _ g p z (λ x u q. refl) (h.reads 32); held = h.held }

  pub position-airport : g.v ≡ 2 → (r : Got Text) → Texts rows.airport_size s g.c r → Positions s c (record { v = Airport c.at r.v; c = r.c })
  unfolding read_choice width width_in encoding.highest count lowest highest
  position-airport z r h = record { reads = takes_index 30 alts 2 _ g p z (λ x u q. refl) (h.text 33); held = held-text h }

  pub position-coordinates : g.v ≡ 3 → (r : Got Pair) → Pairs s g.c r → Positions s c (record { v = Coordinates c.at r.v; c = r.c })
  unfolding read_choice width width_in encoding.highest count
  position-coordinates z r h = record { reads = takes_index 30 alts 3 _ g p z (λ x u q. refl) h.reads; held = tt }

  -- any other index is not supplied, or not listed
  pub position-unread : (g.v ≡ 0 → ⊥) → (g.v ≡ 1 → ⊥) → (g.v ≡ 2 → ⊥) → (g.v ≡ 3 → ⊥) → {d : Cursor} → d ≡ stopped g.c 5 1 → Positions s c (record { v = Unread; c = d })
  unfolding read read_choice mark width width_in encoding.highest count
  position-unread z₀ z₁ z₂ z₃ {d} q = record { reads = takes_unlisted 30 alts g p (λ x u r. go g.v x u r z₀ z₁ z₂ z₃) q; held = tt }
    where
      go : (v : ℕ) (x : Ctx) (u r : ℕ) → (v ≡ 0 → ⊥) → (v ≡ 1 → ⊥) → (v ≡ 2 → ⊥) → (v ≡ 3 → ⊥) → read_choice alts v x (bit_of s) u r ≡ stop bad r [] 1
      go zero x u r y₀ y₁ y₂ y₃ = absurd (y₀ refl)
      go (suc zero) x u r y₀ y₁ y₂ y₃ = absurd (y₁ refl)
      go (suc (suc zero)) x u r y₀ y₁ y₂ y₃ = absurd (y₂ refl)
      go (suc (suc (suc zero))) x u r y₀ y₁ y₂ y₃ = absurd (y₃ refl)
      go (suc (suc (suc (suc zero)))) x u r y₀ y₁ y₂ y₃ = refl
      go (suc (suc (suc (suc (suc v))))) x u r y₀ y₁ y₂ y₃ = refl
