-- A format with the elements of one table.
use mathlib.Core.Bool.{cond}
use mathlib.Core.List.{List, [], ◌∷◌}
use mathlib.Core.Path.{◌≡◌, refl}
use Prim.Native.Nat.{ℕ}
use lib.Dec.{eqb}
use Rattle.atn.specs.Format.{Fmt, num, listed, name, text, span, any_span, skipped, small, null, noted, placed, marked, refuse, element, ext, seq, loose, choice, many, inner, soft, lax}
use Rattle.atn.specs.Format.{Flds, end, ◌⨾◌, ◌⨾?◌, or_note, unread, Alts, none_left, ◌∥◌}
use Rattle.atn.specs.Messages.{arguments, elements, aircraft_pdus, ground_pdus, cm_aircraft, cm_ground, acse}
use Rattle.atn.specs.Tags as tags

module _ (T : List ℕ) where
  -- each choice of an element made one of T
  unfoldable mutual
    pub over : Fmt → Fmt
    over (num t lo hi) = num t lo hi
    over (listed t hi xs) = listed t hi xs
    over (name t hi) = name t hi
    over (text t n c lo hi) = text t n c lo hi
    over (span t w lo hi) = span t w lo hi
    over (any_span t w) = any_span t w
    over (skipped m) = skipped m
    over (small m t) = small m t
    over null = null
    over (noted t v s f) = noted t v s (over f)
    over (placed t f) = placed t (over f)
    over (marked m) = marked m
    over (refuse w m) = refuse w m
    over (element f) = element (over f)
    over (ext f g) = ext (over f) (over g)
    over (seq fs) = seq (over_fields fs)
    over (loose fs) = loose (over_fields fs)
    over (choice t fs) = choice t (cond (eqb t tags.element_index) (elements T) (over_alts fs))
    over (many lo hi f) = many lo hi (over f)
    over (inner f) = inner (over f)
    over (soft m r f) = soft m r (over f)
    over (lax m j f) = lax m j (over f)

    pub over_fields : Flds → Flds
    over_fields end = end
    over_fields (f ⨾ fs) = over f ⨾ over_fields fs
    over_fields (f ⨾? fs) = over f ⨾? over_fields fs
    over_fields (or_note t v s f fs) = or_note t v s (over f) (over_fields fs)
    over_fields (unread t fs) = unread t (over_fields fs)

    pub over_alts : Alts → Alts
    over_alts none_left = none_left
    over_alts (f ∥ fs) = over f ∥ over_alts fs

  unfoldable pub over_list : List Fmt → List Fmt
  over_list [] = []
  over_list (f ∷ fs) = over f ∷ over_list fs

  ---------------------------------------------------------------- what has no other elements stays

  pub arguments-over : over_list arguments ≡ arguments
  unfolding over_list over
  arguments-over = refl

  pub aircraft_over : over (aircraft_pdus T) ≡ aircraft_pdus T
  unfolding over
  aircraft_over = refl

  pub ground_over : over (ground_pdus T T) ≡ ground_pdus T T
  unfolding over
  ground_over = refl

  pub cm_aircraft_over : over cm_aircraft ≡ cm_aircraft
  unfolding over
  cm_aircraft_over = refl

  pub cm_ground_over : over cm_ground ≡ cm_ground
  unfolding over
  cm_ground_over = refl

  pub acse-over : over acse ≡ acse
  unfolding over
  acse-over = refl
