-- The values that a list gives back: those with no default written out, and no part that is there and shows nothing (empty
-- constrained data). Two values show the same where one of them has such a part: request a) of document 02 leaves these out.
use Rattle.std.specs.Prelude.{◌≡◌, Bool, true, false, List, [], ◌∷◌, ℕ, suc}
use Rattle.std.proofs.Common.{inl, inr}
use Rattle.x691.specs.Types.{Value, Values, Pick}
use Rattle.x691.specs.Range.{IfAny}
use Rattle.atn.specs.Format.{Fmt, num, listed, name, text, span, any_span, skipped, small, null, noted, placed, marked, refuse, element, ext, seq, loose, choice, many, inner, soft, lax}
use Rattle.atn.specs.Format.{Flds, end, ◌⨾◌, ◌⨾?◌, or_note, unread, Alts, none_left, ◌∥◌, type_of, members_of, alternatives_of}
use Rattle.atn.specs.Reading.{Ctx}
use Rattle.record_lists.specs.Items.{Item, plain}
use Rattle.record_lists.specs.Shown.{shown}
use Rattle.record_lists.specs.Clear.{solid, unlike}
use Rattle.record_lists.specs.Parse.{begins}

-- shows something
abbrev pub Says : List Item → Type 0
Says [] = ⊥
Says (i ∷ R) = Unit {0}

-- a condition, where the format does not see to it
abbrev pub Unless : Bool → Type 0 → Type 0
Unless true P = Unit {0}
Unless false P = P

module _ {A : Type 0} where
  -- of each, with its place
  abbrev pub AllFrom : (ℕ → A → Type 0) → ℕ → List A → Type 0
  AllFrom P i [] = Unit {0}
  AllFrom P i (a ∷ xs) = P i a × AllFrom P (suc i) xs

abbrev mutual
  pub Plain : (f : Fmt) → Value (type_of f) → Ctx → Type 0
  Plain (num t lo hi) v x = Unit {0}
  Plain (listed t hi xs) v x = Unit {0}
  Plain (name t hi) v x = Unit {0}
  Plain (text t n c lo hi) v x = Unit {0}
  Plain (span t w lo hi) v x = Unit {0}
  Plain (any_span t w) v x = Unit {0}
  Plain (skipped m) v x = ⊥
  Plain (small m t) v x = ⊥
  Plain null v x = Unit {0}
  Plain (noted t y s f) v x = Plain f v x
  Plain (placed t f) v x = Plain f v x
  Plain (marked m) v x = ⊥
  Plain (refuse w m) v x = ⊥
  Plain (element f) v x = Plain f v (x.1, x.1)
  Plain (ext f g) v x = Plain f v x
  Plain (seq fs) v x = PlainFields fs v x
  Plain (loose fs) v x = PlainFields fs v x
  Plain (choice t fs) v x = PlainPick fs v x
  Plain (many lo hi f) vs x = AllFrom (λ i v. Plain f v (x.0, i)) 1 vs
  Plain (inner f) v x = Plain f v x
  Plain (soft m r f) v x = Plain f v x
  Plain (lax m j f) v x = Plain f v x

  pub PlainFields : (fs : Flds) → Values (members_of fs) → Ctx → Type 0
  PlainFields end vs x = Unit {0}
  PlainFields (f ⨾ fs) vs x = Plain f vs.0 x × PlainFields fs vs.1 x
  PlainFields (f ⨾? fs) vs x = IfAny (λ v. Unless (solid f) (Says (shown f v x)) × Plain f v x) vs.0 × PlainFields fs vs.1 x
  PlainFields (or_note t y s f fs) vs x = IfAny (λ v. Unless (unlike t s f) (begins (plain t x.0 y s) (shown f v x) ≡ false) × Plain f v x) vs.0 × PlainFields fs vs.1 x
  PlainFields (unread t fs) vs x = PlainFields fs vs.1 x

  pub PlainPick : (fs : Alts) → Pick (alternatives_of fs) → Ctx → Type 0
  PlainPick none_left c x = ⊥
  PlainPick (f ∥ fs) (inl v) x = Plain f v x
  PlainPick (f ∥ fs) (inr c) x = PlainPick fs c x
