-- A place or a procedure from its texts and what may follow them, and a published place from its index.
use mathlib.Core.Path.{◌≡◌, refl, ap, ◌∙◌}
use mathlib.Core.List.{List, ◌∷◌, ◌++◌}
use Prim.Native.Nat.{ℕ, ◌%◌}
use native.Mathlib.Nat.{add-zero}
use native.Mathlib.Omega.{arith}
use Rattle.x691.specs.Bits.{bit_of}
use Rattle.x691.specs.Encoding.{width, width_in, count}
use Rattle.x691.specs.Encoding as encoding
use Rattle.atn.specs.Format.{Fmt, seq, choice, end, ◌⨾◌, ◌⨾?◌, none_left, ◌∥◌}
use Rattle.atn.specs.Reading.{Rec, rec, flags, read_choice}
use Rattle.cursor.specs.declared.place.Cursor.{Cursor}
use Rattle.cursor.specs.declared.place.Got.{Got}
use Rattle.character_strings.specs.declared.Text.{Text}
use Rattle.cursor.specs.Place.{Pulls, Opens, Takes}
use Rattle.cursor.specs.Formats.{Maybe}
use Rattle.character_strings.specs.Texts.{Texts}
use Rattle.ranged_numbers.proofs.ChoiceLaws.{takes_index}
use Rattle.cursor.proofs.FormatLaws.{all_read, takes_opened, fields_must, fields_last_may, opened_inside, last_bit, takes_back}
use Rattle.frequencies.proofs.Indices.{pulls_last}
use Rattle.named_places.specs.Names.{Held}

---------------------------------------------------------------- texts

pub held-text : {k : ℕ} {s : List ℕ} {c : Cursor} {r : Got Text} → Texts k s c r → Held s r.v
held-text h = record { few = h.few; there = h.held }

pub held_none : {s : List ℕ} → Held s (record { from = 0; at = 0; len = 0 })
held_none = record { few = omega arith; there = record { there = omega arith; fits = omega arith } }

---------------------------------------------------------------- one presence bit, and what it is of last

module _ {s : List ℕ} {c d e : Cursor} {f : Fmt} {T : ℕ → List Rec} (g : Got ℕ) (o : Opens s c 1 g) (x : Takes f s g.c d T) where
  pub takes_then_maybe : {h : Fmt} {U : ℕ → List Rec} → Maybe (g.v % 2) h s d e U → Takes (seq (f ⨾ h ⨾? end)) s c e (λ n. T n ++ U n)
  unfolding flags all_read
  takes_then_maybe y =
      takes_opened 1 g refl refl o λ i.
      fields_must x (fields_last_may (g.v % 2) (λ z. last_bit 0 i o ((takes_back x (opened_inside i o)).1 z) ∙ ap (bit_of s) (add-zero c.at)) y)

  pub takes_two_then_maybe : {k h : Fmt} {a : Cursor} {S U : ℕ → List Rec} → Takes k s d a S → Maybe (g.v % 2) h s a e U → Takes (seq (f ⨾ k ⨾ h ⨾? end)) s c e (λ n. T n ++ (S n ++ U n))
  unfolding flags all_read
  takes_two_then_maybe w y =
      takes_opened 1 g refl refl o λ i.
      let b = takes_back x (opened_inside i o) in
      fields_must x (fields_must w (fields_last_may (g.v % 2) (λ z. last_bit 0 i o (b.1 ((takes_back w b.0).1 z)) ∙ ap (bit_of s) (add-zero c.at)) y))

---------------------------------------------------------------- a choice of two

module _ (t : ℕ) (f h : Fmt) {s : List ℕ} {c d : Cursor} {T : ℕ → List Rec} (g : Got ℕ) (p : Pulls s c 1 g) where
  pub takes_first : g.v ≡ 0 → Takes f s g.c d T → Takes (choice t (f ∥ h ∥ none_left)) s c d (λ n. rec t n 0 0 c.at ∷ T n)
  unfolding read_choice width width_in encoding.highest count
  takes_first z x = takes_index t (f ∥ h ∥ none_left) 0 f g p z (λ _ u q. refl) x

  pub takes_second : (g.v ≡ 0 → ⊥) → Takes h s g.c d T → Takes (choice t (f ∥ h ∥ none_left)) s c d (λ n. rec t n 1 0 c.at ∷ T n)
  unfolding read_choice width width_in encoding.highest count
  takes_second z x = takes_index t (f ∥ h ∥ none_left) 1 h (record { v = 1; c = g.c }) (pulls_last 1 1 g refl p (omega arith)) refl (λ _ u q. refl) x
