-- An angle from its index and numbers, and a pair from its presence bits.
use mathlib.Core.Path.{◌≡◌, refl, ap, ◌∙◌}
use mathlib.Core.List.{List, [], ◌∷◌, ◌++◌}
use Prim.Native.Nat.{ℕ, zero, suc, ◌+◌, ◌/◌, ◌%◌, ◌^◌, ◌<◌}
use native.Mathlib.Numerals.{add-one}
use native.Mathlib.Nat.{add-zero}
use native.Mathlib.Omega.{arith}
use Rattle.x691.specs.Bits.{bit_of}
use Rattle.x691.specs.Encoding.{width, width_in, count}
use Rattle.x691.specs.Encoding as encoding
use Rattle.atn.specs.Format.{Fmt, Alts, bad, num, seq, end, ◌⨾◌, ◌⨾?◌, noted, none_left, ◌∥◌}
use Rattle.atn.specs.Reading.{Rec, rec, Ctx, stop, mark, flags, read_choice}
use Rattle.cursor.specs.declared.place.Cursor.{Cursor}
use Rattle.cursor.specs.declared.place.Got.{Got}
use Rattle.cursor.specs.Place.{stopped, Pulls, Opens, Takes}
use Rattle.cursor.specs.Formats.{Maybe}
use Rattle.field_ranges.specs.Rows as rows
use Rattle.field_ranges.specs.Ends.{lowest, highest}
use Rattle.ranged_numbers.specs.Numbers.{Ranged}
use Rattle.cursor.proofs.Laws.{stopped_stops}
use Rattle.ranged_numbers.proofs.ChoiceLaws.{takes_index, takes_unlisted}
use Rattle.ranged_numbers.proofs.Places.{takes_told, pull_along, number_back, number_along, along_place}
use Rattle.cursor.proofs.FormatLaws.{all_read, takes_plain, takes_opened, takes_noted, fields_must, fields_last, fields_may, fields_last_may, opened_inside, opened-bit, last_bit, maybe_back, takes_back}
use Rattle.angles.specs.declared.Form.{Form}
use Rattle.angles.specs.declared.Form.TheVariants.{Thousandths, Hundredths, Seconds}
use Rattle.angles.specs.Angles.{form, bits, form_recs, angle_recs, angle, Forms, Angles}

-- the alternatives of a form
module _ (t k j : ℕ) where
  abbrev alts : Alts
  alts =
      num (t + 1) (lowest k) (highest k)
      ∥ seq (num (t + 2) (lowest j) (highest j) ⨾ num (t + 3) (lowest rows.hundredths) (highest rows.hundredths) ⨾ end)
      ∥ seq (num (t + 2) (lowest j) (highest j) ⨾ num (t + 4) (lowest rows.minutes) (highest rows.minutes) ⨾ num (t + 5) (lowest rows.minutes) (highest rows.minutes) ⨾ end)
      ∥ none_left

-- a form by its index; where the reading went on, each number stands behind the bits of those before
module _ {k j : ℕ} {s : List ℕ} {c : Cursor} (g : Got ℕ) (p : Pulls s c 2 g) where
  module _ (fits : c.end < 2 ^ 64) where
    pub form-zero : g.v ≡ 0 → (a : Got ℕ) → Ranged k s g.c a → Forms k j s c (record { v = Thousandths a.v; c = a.c })
    unfolding read_choice width width_in encoding.highest count
    form-zero z a h =
        let index = pull_along p in
        record {
          reads = λ t. takes_told (λ n. rec t n 0 0 c.at ∷ rec (t + 1) n a.v 0 g.c.at ∷ []) _ (λ i y n. rw (along_place index fits i (number_back k index h i y)))
              (takes_index t (alts t k j) 0 _ g p z (λ x u q. refl) (h.number (t + 1)));
          ends = along_place (number_along k index h) fits;
        }

    pub form-one : g.v ≡ 1 → (a : Got ℕ) → Ranged j s g.c a → (b : Got ℕ) → Ranged rows.hundredths s a.c b → Forms k j s c (record { v = Hundredths a.v b.v; c = b.c })
    unfolding read_choice flags all_read width width_in encoding.highest count
    form-one z a h b m =
        let index = pull_along p in
        let degrees = number_along j index h in
        record {
          reads = λ t. takes_told (λ n. rec t n 1 0 c.at ∷ rec (t + 2) n a.v 0 g.c.at ∷ rec (t + 3) n b.v 0 a.c.at ∷ []) _
              (λ i y n. let y₁ = number_back 9 degrees m i y in rw (along_place index fits i (number_back j index h i y₁), along_place degrees fits i y₁))
              (takes_index t (alts t k j) 1 _ g p z (λ x u q. refl) (takes_plain refl refl (fields_must (h.number (t + 2)) (fields_last (m.number (t + 3))))));
          ends = along_place (number_along 9 degrees m) fits;
        }

    pub form_two : g.v ≡ 2 → (a : Got ℕ) → Ranged j s g.c a → (b : Got ℕ) → Ranged rows.minutes s a.c b → (e : Got ℕ) → Ranged rows.minutes s b.c e
        → Forms k j s c (record { v = Seconds a.v b.v e.v; c = e.c })
    unfolding read_choice flags all_read width width_in encoding.highest count
    form_two z a h b m e l =
        let index = pull_along p in
        let degrees = number_along j index h in
        let minutes = number_along 5 degrees m in
        record {
          reads = λ t. takes_told (λ n. rec t n 2 0 c.at ∷ rec (t + 2) n a.v 0 g.c.at ∷ rec (t + 4) n b.v 0 a.c.at ∷ rec (t + 5) n e.v 0 b.c.at ∷ []) _
              (λ i y n. let y₂ = number_back 5 minutes l i y in let y₁ = number_back 5 degrees m i y₂ in rw (along_place index fits i (number_back j index h i y₁), along_place degrees fits i y₁, along_place minutes fits i y₂))
              (takes_index t (alts t k j) 2 _ g p z (λ x u q. refl) (takes_plain refl refl (fields_must (h.number (t + 2)) (fields_must (m.number (t + 4)) (fields_last (l.number (t + 5)))))));
          ends = along_place (number_along 5 minutes l) fits;
        }

  -- any other index is not listed
  pub form-none : (g.v ≡ 0 → ⊥) → (g.v ≡ 1 → ⊥) → (g.v ≡ 2 → ⊥) → {d : Cursor} {v : Form} → d ≡ stopped g.c 5 1 → Forms k j s c (record { v = v; c = d })
  unfolding read_choice mark width width_in encoding.highest count
  form-none z₀ z₁ z₂ {d} {v} q =
      record {
        reads = λ t. takes_unlisted t (alts t k j) g p (λ x u r. go t g.v x u r z₀ z₁ z₂) q;
        ends = λ i z. absurd (stopped_stops g.c 5 1 (λ h. omega arith) q z);
      }
    where
      go : (t v : ℕ) (x : Ctx) (u r : ℕ) → (v ≡ 0 → ⊥) → (v ≡ 1 → ⊥) → (v ≡ 2 → ⊥) → read_choice (alts t k j) v x (bit_of s) u r ≡ stop bad r [] 1
      go t zero x u r y₀ y₁ y₂ = absurd (y₀ refl)
      go t (suc zero) x u r y₀ y₁ y₂ = absurd (y₁ refl)
      go t (suc (suc zero)) x u r y₀ y₁ y₂ = absurd (y₂ refl)
      go t (suc (suc (suc v))) x u r y₀ y₁ y₂ = refl

-- the form, and the side behind it
pub form-side : {k j : ℕ} {s : List ℕ} {c : Cursor} {f : Got Form} {g : Got ℕ} → Forms k j s c f → Ranged rows.side s f.c g → Angles k j s c (record { v = record { at = c.at; form = f.v; side = g.v }; c = g.c })
unfolding flags all_read angle_recs
form-side {k} {j} {s} {c} {f} {g} h r =
    record {
      reads = λ t.
          takes_told (λ n. form_recs (bits j) t c.at f.v n ++ (rec (t + 6) n g.v 0 f.c.at ∷ [])) _
          (λ i z n. rw (h.ends i ((takes_back (r.number t) (takes_back (h.reads t) i).0).1 z)))
          (takes_plain refl refl (fields_must (h.reads t) (fields_last (r.number (t + 6)))));
    }

-- two presence bits, and an angle for each
pub pair_reads : {f h : Fmt} {s : List ℕ} {c d e : Cursor} {T U : ℕ → List Rec} (g : Got ℕ) → Opens s c 2 g → Maybe (g.v / 2 % 2) f s g.c d T → Maybe (g.v % 2) h s d e U
    → Takes (noted 34 0 0 (seq (f ⨾? h ⨾? end))) s c e (λ n. rec 34 n 0 0 c.at ∷ (T n ++ U n))
unfolding flags all_read
pair_reads {f} {h} {s} {c} {d} {e} g o x y =
    takes_noted 34 0 0 (takes_opened 2 g refl refl o λ i.
    let b = maybe_back x (opened_inside i o) in
    fields_may (g.v / 2 % 2) (λ z. opened-bit 0 i o (omega arith) z ∙ ap (bit_of s) (add-zero c.at)) x
    (fields_last_may (g.v % 2) (λ z. last_bit 1 i o (b.1 z) ∙ ap (bit_of s) (add-one c.at)) y))
