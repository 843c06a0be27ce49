-- What a value shows: its records, as `tell` has them, with the bits of a span in place of its place.
use Rattle.std.proofs.Math.Option.{Option, none, some}
use Rattle.std.proofs.Common.{inl, inr}
use Rattle.std.specs.Prelude.{List, [], ◌∷◌, ◌++◌, ℕ, zero, suc, ◌+◌, ◌/◌, ◌^◌, length, drop}
use Rattle.x691.specs.Types.{Value, Values, Pick}
use Rattle.x691.specs.Encoding.{unit_bits, index}
use Rattle.atn.specs.Format.{Fmt, num, listed, name, text, span, any_span, skipped, small, null, noted, placed, marked, refuse, element, ext, seq, loose, choice, many, inner, soft, lax}
use Rattle.atn.specs.Format.{Flds, end, ◌⨾◌, ◌⨾?◌, or_note, unread, Alts, none_left, ◌∥◌, type_of, members_of, alternatives_of, Letters, first, numeric}
use Rattle.atn.specs.Reading.{Ctx, word, octets, coded, spaced}
use Rattle.record_lists.specs.Items.{Item, plain, bits}

-- k items of a text of n characters, eight to an item
unfoldable pub packed : ℕ → ℕ → ℕ → ℕ → List ℕ → List Item
packed t m n zero cs = []
packed t m n (suc k) cs = plain t m (octets 8 cs) n ∷ packed t m n k (drop 8 cs)

unfoldable pub spelt : ℕ → ℕ → List ℕ → List Item
spelt t m cs = packed t m (length cs) ((length cs + 7) / 8) cs

-- a text by its units
abbrev pub in_letters : ℕ → Letters → ℕ → List ℕ → List Item
in_letters t (first c) m us = spelt t m (coded c us)
in_letters t (numeric v) m us = spelt t m (coded 48 us) ++ spelt v m (spaced us)

-- a span that is not empty
unfoldable pub spanned : ℕ → ℕ → List ℕ → List Item
spanned t m [] = []
spanned t m (x ∷ xs) = bits t m (x ∷ xs) ∷ []

module _ {A : Type 0} where
  unfoldable pub show_any : (A → List Item) → List Item → Option A → List Item
  show_any h z none = z
  show_any h z (some a) = h a

  -- each with its place
  unfoldable pub show_all : (ℕ → A → List Item) → ℕ → List A → List Item
  show_all h i [] = []
  show_all h i (a ∷ xs) = h i a ++ show_all h (suc i) xs

unfoldable mutual
  pub shown : (f : Fmt) → Value (type_of f) → Ctx → List Item
  shown (num t lo hi) v x = plain t x.0 (word (lo + v)) 0 ∷ []
  shown (listed t hi xs) v x = plain t x.0 v 0 ∷ []
  shown (name t hi) v x = plain t x.0 v 0 ∷ []
  shown (text t n c lo hi) cs x = in_letters t c x.0 cs
  shown (span t w lo hi) cs x = spanned t x.0 (unit_bits (2 ^ w) cs)
  shown (any_span t w) cs x = spanned t x.0 (unit_bits (2 ^ w) cs)
  shown (skipped m) v x = absurd v
  shown (small m t) v x = absurd v
  shown null v x = []
  shown (noted t y s f) v x = plain t x.0 y s ∷ shown f v x
  shown (placed t f) v x = plain t x.0 x.1 0 ∷ shown f v x
  shown (marked m) v x = absurd v
  shown (refuse w m) v x = absurd v
  shown (element f) v x = shown f v (x.1, x.1)
  shown (ext f g) v x = shown f v x
  shown (seq fs) vs x = shown_fields fs vs x
  shown (loose fs) vs x = shown_fields fs vs x
  shown (choice t fs) c x = plain t x.0 (index (alternatives_of fs) c) 0 ∷ shown_pick fs c x
  shown (many lo hi f) vs x = show_all (λ i v. shown f v (x.0, i)) 1 vs
  shown (inner f) v x = shown f v x
  shown (soft m r f) v x = shown f v x
  shown (lax m j f) v x = shown f v x

  pub shown_fields : (fs : Flds) → Values (members_of fs) → Ctx → List Item
  shown_fields end vs x = []
  shown_fields (f ⨾ fs) vs x = shown f vs.0 x ++ shown_fields fs vs.1 x
  shown_fields (f ⨾? fs) vs x = show_any (λ v. shown f v x) [] vs.0 ++ shown_fields fs vs.1 x
  shown_fields (or_note t y s f fs) vs x = show_any (λ v. shown f v x) (plain t x.0 y s ∷ []) vs.0 ++ shown_fields fs vs.1 x
  shown_fields (unread t fs) vs x = shown_fields fs vs.1 x

  pub shown_pick : (fs : Alts) → Pick (alternatives_of fs) → Ctx → List Item
  shown_pick none_left c x = absurd c
  shown_pick (f ∥ fs) (inl v) x = shown f v x
  shown_pick (f ∥ fs) (inr c) x = shown_pick fs c x
