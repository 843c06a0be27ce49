-- Formats all of whose values are plain, by a test of the format: the messages of CM and of association control.
use mathlib.Core.Path.{◌≡◌, refl}
use mathlib.Core.Bool.{Bool, true, false, ◌&&◌, false≢true}
use mathlib.Core.Option.{none, some}
use mathlib.Core.Logic.{inl, inr}
use mathlib.Core.List.{List, [], ◌∷◌}
use Prim.Native.Nat.{ℕ, suc}
use Rattle.x691.specs.Types.{Value, Values, Pick}
use Rattle.x691.specs.Range.{member}
use Rattle.atn.specs.Format.{Fmt, num, listed, name, text, span, any_span, skipped, small, null, noted, placed, marked, refuse, element, ext, seq, loose, choice, many, inner, soft, lax}
use Rattle.atn.specs.Format.{Flds, end, ◌⨾◌, ◌⨾?◌, or_note, unread, Alts, none_left, ◌∥◌, type_of, members_of, alternatives_of}
use Rattle.atn.specs.Messages.{cm_ground, cm_aircraft, acse}
use Rattle.atn.specs.Reading.{Ctx}
use Rattle.atn.proofs.Inverse.{both}
use Rattle.record_lists.specs.Clear.{solid, firsts, single, unlike}
use Rattle.record_lists.specs.Plain.{Unless, AllFrom, Plain, PlainFields, PlainPick}

-- every optional part shows something, and what stands for an absent one is never shown by one that is there
unfoldable mutual
  pub firm : Fmt → Bool
  firm (num t lo hi) = true
  firm (listed t hi xs) = true
  firm (name t hi) = true
  firm (text t n c lo hi) = true
  firm (span t w lo hi) = true
  firm (any_span t w) = true
  firm (skipped m) = true
  firm (small m t) = true
  firm null = true
  firm (noted t y s f) = firm f
  firm (placed t f) = firm f
  firm (marked m) = true
  firm (refuse w m) = true
  firm (element f) = firm f
  firm (ext f g) = firm f
  firm (seq fs) = firm_fields fs
  firm (loose fs) = firm_fields fs
  firm (choice t fs) = firm_alts fs
  firm (many lo hi f) = firm f
  firm (inner f) = firm f
  firm (soft m r f) = firm f
  firm (lax m j f) = firm f

  pub firm_fields : Flds → Bool
  firm_fields end = true
  firm_fields (f ⨾ fs) = firm f && firm_fields fs
  firm_fields (f ⨾? fs) = (solid f && firm f) && firm_fields fs
  firm_fields (or_note t y s f fs) = (unlike t s f && firm f) && firm_fields fs
  firm_fields (unread t fs) = firm_fields fs

  pub firm_alts : Alts → Bool
  firm_alts none_left = true
  firm_alts (f ∥ fs) = firm f && firm_alts fs

seen_to : (b : Bool) (P : Type 0) → b ≡ true → Unless b P
seen_to true P h = tt
seen_to false P h = absurd (false≢true h)

all_from : {A : Type 0} (P : ℕ → A → Type 0) → ((i : ℕ) (a : A) → P i a) → (i : ℕ) (xs : List A) → AllFrom P i xs
all_from P h i [] = tt
all_from P h i (a ∷ xs) = (h i a, all_from P h (suc i) xs)

mutual
  unfolding firm

  pub plain-all : (f : Fmt) (v : Value (type_of f)) (x : Ctx) → firm f ≡ true → Plain f v x
  plain-all (num t lo hi) v x h = tt
  plain-all (listed t hi xs) v x h = tt
  plain-all (name t hi) v x h = tt
  plain-all (text t n c lo hi) v x h = tt
  plain-all (span t w lo hi) v x h = tt
  plain-all (any_span t w) v x h = tt
  plain-all (skipped m) v x h = v
  plain-all (small m t) v x h = v
  plain-all null v x h = tt
  plain-all (noted t y s f) v x h = plain-all f v x h
  plain-all (placed t f) v x h = plain-all f v x h
  plain-all (marked m) v x h = v
  plain-all (refuse w m) v x h = v
  plain-all (element f) v x h = plain-all f v (x.1, x.1) h
  plain-all (ext f g) v x h = plain-all f v x h
  plain-all (seq fs) v x h = plain_fields fs v x h
  plain-all (loose fs) v x h = plain_fields fs v x h
  plain-all (choice t fs) v x h = plain-pick fs v x h
  plain-all (many lo hi f) v x h = all_from (λ i a. Plain f a (x.0, i)) (λ i a. plain-all f a (x.0, i) h) 1 v
  plain-all (inner f) v x h = plain-all f v x h
  plain-all (soft m r f) v x h = plain-all f v x h
  plain-all (lax m j f) v x h = plain-all f v x h

  pub plain_fields : (fs : Flds) (vs : Values (members_of fs)) (x : Ctx) → firm_fields fs ≡ true → PlainFields fs vs x
  plain_fields end vs x h = tt
  plain_fields (f ⨾ fs) (v, vs) x h = let c = both (firm f) (firm_fields fs) h in (plain-all f v x c.0, plain_fields fs vs x c.1)
  plain_fields (f ⨾? fs) (none, vs) x h = (tt, plain_fields fs vs x (both (solid f && firm f) (firm_fields fs) h).1)
  plain_fields (f ⨾? fs) (some v, vs) x h =
      let c = both (solid f && firm f) (firm_fields fs) h in
      let d = both (solid f) (firm f) c.0 in
      ((seen_to (solid f) _ d.0, plain-all f v x d.1), plain_fields fs vs x c.1)
  plain_fields (or_note t y s f fs) (none, vs) x h = (tt, plain_fields fs vs x (both (unlike t s f && firm f) (firm_fields fs) h).1)
  plain_fields (or_note t y s f fs) (some v, vs) x h =
      let c = both (unlike t s f && firm f) (firm_fields fs) h in
      let d = both (unlike t s f) (firm f) c.0 in
      ((seen_to (unlike t s f) _ d.0, plain-all f v x d.1), plain_fields fs vs x c.1)
  plain_fields (unread t fs) (o, vs) x h = plain_fields fs vs x h

  pub plain-pick : (fs : Alts) (v : Pick (alternatives_of fs)) (x : Ctx) → firm_alts fs ≡ true → PlainPick fs v x
  plain-pick none_left v x h = v
  plain-pick (f ∥ fs) (inl v) x h = plain-all f v x (both (firm f) (firm_alts fs) h).0
  plain-pick (f ∥ fs) (inr v) x h = plain-pick fs v x (both (firm f) (firm_alts fs) h).1

-- every list of a clean message of CM or of association control is accepted
pub ground_plain : (v : Value (type_of cm_ground)) → Plain cm_ground v (0, 0)
unfolding firm solid unlike single firsts member
ground_plain v = plain-all cm_ground v (0, 0) refl

pub aircraft_plain : (v : Value (type_of cm_aircraft)) → Plain cm_aircraft v (0, 0)
unfolding firm solid unlike single firsts member
aircraft_plain v = plain-all cm_aircraft v (0, 0) refl

pub acse-plain : (v : Value (type_of acse)) → Plain acse v (0, 0)
unfolding firm solid unlike single firsts member
acse-plain v = plain-all acse v (0, 0) refl
