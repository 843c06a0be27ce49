-- The records of a message: those of a value of the format's type whose encoding starts at a place.
use Rattle.std.proofs.Math.Option.{Option, none, some}
use Rattle.std.proofs.Common.{inl, inr}
use Rattle.std.specs.Prelude.{List, [], ◌∷◌, ◌++◌, ℕ, suc, ◌+◌, ◌-◌, ◌*◌, length}
use Rattle.x691.specs.Types.{Value, Values, Pick}
use Rattle.x691.specs.Encoding.{width, highest, length_bits, encode, index, if_any}
use Rattle.atn.specs.Format.{Fmt, num, listed, name, text, span, any_span, skipped, small, null, noted, placed, marked, refuse, element, ext, seq, loose, choice, many, inner, soft, lax}
use Rattle.atn.specs.Format.{Flds, end, ◌⨾◌, ◌⨾?◌, or_note, unread, Alts, none_left, ◌∥◌, type_of, members_of, alternatives_of}
use Rattle.atn.specs.Reading.{Rec, rec, Ctx, word, lettered, spanned, flags}

module _ {A : Type 0} where
  unfoldable pub tell_any : (A → List Rec) → List Rec → Option A → List Rec
  tell_any h z none = z
  tell_any h z (some a) = h a

  unfoldable pub tell_all : (A → List ℕ) → (ℕ → A → ℕ → List Rec) → ℕ → List A → ℕ → List Rec
  tell_all h r i [] at = []
  tell_all h r i (a ∷ xs) at = r i a at ++ tell_all h r (suc i) xs (at + length (h a))

unfoldable mutual
  pub tell : (f : Fmt) → Value (type_of f) → Ctx → ℕ → List Rec
  tell (num t lo hi) v x at = rec t x.0 (word (lo + v)) 0 at ∷ []
  tell (listed t hi xs) v x at = rec t x.0 v 0 at ∷ []
  tell (name t hi) v x at = rec t x.0 v 0 at ∷ []
  tell (text t n c lo hi) cs x at = lettered t c x.0 at cs
  tell (span t w lo hi) cs x at = spanned t x.0 at (at + width (hi - lo)) (length cs * w)
  tell (any_span t w) cs x at = spanned t x.0 at (at + length (length_bits (length cs))) (length cs * w)
  tell (skipped m) v x at = absurd v
  tell (small m t) v x at = absurd v
  tell null v x at = []
  tell (noted t y s f) v x at = rec t x.0 y s at ∷ tell f v x at
  tell (placed t f) v x at = rec t x.0 x.1 0 at ∷ tell f v x at
  tell (marked m) v x at = absurd v
  tell (refuse w m) v x at = absurd v
  tell (element f) v x at = tell f v (x.1, x.1) at
  tell (ext f g) v x at = tell f v x (at + 1)
  tell (seq fs) vs x at = tell_fields fs vs x (at + flags fs)
  tell (loose fs) vs x at = tell_fields fs vs x (at + flags fs)
  tell (choice t fs) c x at = rec t x.0 (index (alternatives_of fs) c) 0 at ∷ tell_pick fs c x (at + width (highest (alternatives_of fs)))
  tell (many lo hi f) vs x at = tell_all (λ v. encode (type_of f) v) (λ i v q. tell f v (x.0, i) q) 1 vs (at + width (hi - lo))
  tell (inner f) v x at = tell f v x (at + length (length_bits (length (encode (type_of f) v))))
  tell (soft m r f) v x at = tell f v x at
  tell (lax m j f) v x at = tell f v x at

  pub tell_fields : (fs : Flds) → Values (members_of fs) → Ctx → ℕ → List Rec
  tell_fields end vs x at = []
  tell_fields (f ⨾ fs) vs x at = tell f vs.0 x at ++ tell_fields fs vs.1 x (at + length (encode (type_of f) vs.0))
  tell_fields (f ⨾? fs) vs x at = tell_any (λ v. tell f v x at) [] vs.0 ++ tell_fields fs vs.1 x (at + length (if_any (λ v. encode (type_of f) v) vs.0))
  tell_fields (or_note t y s f fs) vs x at = tell_any (λ v. tell f v x at) (rec t x.0 y s at ∷ []) vs.0 ++ tell_fields fs vs.1 x (at + length (if_any (λ v. encode (type_of f) v) vs.0))
  tell_fields (unread t fs) vs x at = tell_fields fs vs.1 x at

  pub tell_pick : (fs : Alts) → Pick (alternatives_of fs) → Ctx → ℕ → List Rec
  tell_pick none_left c x at = absurd c
  tell_pick (f ∥ fs) (inl v) x at = tell f v x at
  tell_pick (f ∥ fs) (inr c) x at = tell_pick fs c x at
