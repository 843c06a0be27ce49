-- The choices of elements in a format are those of lent tables.
use mathlib.Core.Path.{◌≡◌}
use mathlib.Core.Bool.{Bool, true, false, not, ◌&&◌}
use mathlib.Core.List.{List}
use Prim.Native.Nat.{ℕ}
use lib.Dec.{eqb}
use borrow.Author.Tests.{not-true}
use Rattle.atn.specs.Format.{Fmt, num, listed, name, text, span, any_span, skipped, small, null, noted, placed, marked, refuse, element, ext, seq, loose, choice, many, inner, soft, lax}
use Rattle.atn.specs.Format.{Flds, end, ◌⨾◌, ◌⨾?◌, or_note, unread, Alts, none_left, ◌∥◌}
use Rattle.atn.specs.Messages.{elements}
use Rattle.atn.specs.Tags as tag
use Rattle.atn.proofs.Inverse.{both}
use Rattle.grammar_promises.specs.Accepted.{Short}

-- alternatives that are the elements of a table
pub record Lends (fs : Alts) : Type 0 where
  pub lent : List ℕ
  pub same : fs ≡ elements lent
  pub short : Short lent

abbrev pub LentChoice : Bool → Type 0 → Type 0 → Type 0
LentChoice true A B = A
LentChoice false A B = B

-- each choice of an element is one of a table
abbrev mutual
  pub Lent : Fmt → Type 0
  Lent (num t lo hi) = Unit {0}
  Lent (listed t hi xs) = Unit {0}
  Lent (name t hi) = Unit {0}
  Lent (text t n c lo hi) = Unit {0}
  Lent (span t w lo hi) = Unit {0}
  Lent (any_span t w) = Unit {0}
  Lent (skipped m) = Unit {0}
  Lent (small m t) = Unit {0}
  Lent null = Unit {0}
  Lent (noted t v s f) = Lent f
  Lent (placed t f) = Lent f
  Lent (marked m) = Unit {0}
  Lent (refuse w m) = Unit {0}
  Lent (element f) = Lent f
  Lent (ext f g) = Lent f × Lent g
  Lent (seq fs) = LentFields fs
  Lent (loose fs) = LentFields fs
  Lent (choice t fs) = LentChoice (eqb t tag.element_index) (Lends fs) (LentAlts fs)
  Lent (many lo hi f) = Lent f
  Lent (inner f) = Lent f
  Lent (soft m r f) = Lent f
  Lent (lax m j f) = Lent f

  pub LentFields : Flds → Type 0
  LentFields end = Unit {0}
  LentFields (f ⨾ fs) = Lent f × LentFields fs
  LentFields (f ⨾? fs) = Lent f × LentFields fs
  LentFields (or_note t v s f fs) = Lent f × LentFields fs
  LentFields (unread t fs) = LentFields fs

  pub LentAlts : Alts → Type 0
  LentAlts none_left = Unit {0}
  LentAlts (f ∥ fs) = Lent f × LentAlts fs

-- no choice of elements at all
unfoldable mutual
  pub free : Fmt → Bool
  free (num t lo hi) = true
  free (listed t hi xs) = true
  free (name t hi) = true
  free (text t n c lo hi) = true
  free (span t w lo hi) = true
  free (any_span t w) = true
  free (skipped m) = true
  free (small m t) = true
  free null = true
  free (noted t v s f) = free f
  free (placed t f) = free f
  free (marked m) = true
  free (refuse w m) = true
  free (element f) = free f
  free (ext f g) = free f && free g
  free (seq fs) = free_fields fs
  free (loose fs) = free_fields fs
  free (choice t fs) = not (eqb t tag.element_index) && free_alts fs
  free (many lo hi f) = free f
  free (inner f) = free f
  free (soft m r f) = free f
  free (lax m j f) = free f

  pub free_fields : Flds → Bool
  free_fields end = true
  free_fields (f ⨾ fs) = free f && free_fields fs
  free_fields (f ⨾? fs) = free f && free_fields fs
  free_fields (or_note t v s f fs) = free f && free_fields fs
  free_fields (unread t fs) = free_fields fs

  pub free_alts : Alts → Bool
  free_alts none_left = true
  free_alts (f ∥ fs) = free f && free_alts fs

mutual
  unfolding free

  pub lent-free : (f : Fmt) → free f ≡ true → Lent f
  lent-free (num t lo hi) h = tt
  lent-free (listed t hi xs) h = tt
  lent-free (name t hi) h = tt
  lent-free (text t n c lo hi) h = tt
  lent-free (span t w lo hi) h = tt
  lent-free (any_span t w) h = tt
  lent-free (skipped m) h = tt
  lent-free (small m t) h = tt
  lent-free null h = tt
  lent-free (noted t v s f) h = lent-free f h
  lent-free (placed t f) h = lent-free f h
  lent-free (marked m) h = tt
  lent-free (refuse w m) h = tt
  lent-free (element f) h = lent-free f h
  lent-free (ext f g) h = let z = both (free f) (free g) h in (lent-free f z.0, lent-free g z.1)
  lent-free (seq fs) h = lent_fields fs h
  lent-free (loose fs) h = lent_fields fs h
  lent-free (choice t fs) h = let z = both (not (eqb t tag.element_index)) (free_alts fs) h in rw (not-true (eqb t tag.element_index) z.0) (lent_alts fs z.1)
  lent-free (many lo hi f) h = lent-free f h
  lent-free (inner f) h = lent-free f h
  lent-free (soft m r f) h = lent-free f h
  lent-free (lax m j f) h = lent-free f h

  lent_fields : (fs : Flds) → free_fields fs ≡ true → LentFields fs
  lent_fields end h = tt
  lent_fields (f ⨾ fs) h = let z = both (free f) (free_fields fs) h in (lent-free f z.0, lent_fields fs z.1)
  lent_fields (f ⨾? fs) h = let z = both (free f) (free_fields fs) h in (lent-free f z.0, lent_fields fs z.1)
  lent_fields (or_note t v s f fs) h = let z = both (free f) (free_fields fs) h in (lent-free f z.0, lent_fields fs z.1)
  lent_fields (unread t fs) h = lent_fields fs h

  lent_alts : (fs : Alts) → free_alts fs ≡ true → LentAlts fs
  lent_alts none_left h = tt
  lent_alts (f ∥ fs) h = let z = both (free f) (free_alts fs) h in (lent-free f z.0, lent_alts fs z.1)
