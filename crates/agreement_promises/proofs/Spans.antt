-- Every span that a reading tells has its bits behind the place of its field, or there.
use mathlib.Core.Path.{◌≡◌, refl}
use mathlib.Core.Bool.{Bool, true, not, ◌&&◌}
use mathlib.Core.List.{List, [], ◌∷◌}
use Prim.Native.Nat.{ℕ, zero, suc, ◌+◌, ◌-◌, ◌*◌}
use lib.ListN.{length}
use Rattle.x691.specs.Bits.{bit_of}
use Rattle.x691.specs.Encoding.{width}
use Rattle.x691.specs.Range.{member}
use Rattle.atn.specs.Format.{Fmt, num, listed, name, text, span, any_span, skipped, small, null, noted, placed, marked, refuse, element, ext, seq, loose, choice, many, inner, soft, lax}
use Rattle.atn.specs.Format.{Flds, end, ◌⨾◌, ◌⨾?◌, or_note, unread, Alts, none_left, ◌∥◌, out, bad, lack, quit}
use Rattle.atn.specs.Reading.{Ctx, Ans, ok, past, stop, units, length_then, flags, within, read, read_fields, read_choice}
use Rattle.atn.specs.Messages.{arguments, no_reader, argument_of, elements, aircraft_pdus, ground_pdus, cm_aircraft, cm_ground, acse}
use Rattle.atn.specs.Entries.{stopped, reply, read_frame, or_else, pdus, cm_of}
use Rattle.atn.proofs.Inverse.{both}
use Rattle.atn.proofs.Elements.{every, every_get}
use Rattle.atn.proofs.Places.{tells}
use Rattle.record_lists.specs.Kinds.{span_tag}
use Rattle.grammar_promises.proofs.Replies.{Good, good_else}
use Rattle.agreement_promises.proofs.Begun.{begun, one-begun, letters_apart, text-begun, span-begun, Begun, begun-late, begun-then, begun-behind, begun-fork, begun-guard, begun_soft, begun_lax, begun-close, begun-times, begun-fetch, begun-pull, begun_sized, begun-letters, begun-lengths}

---------------------------------------------------------------- formats in which spans alone have the tags of spans

unfoldable mutual
  spans_apart : Fmt → Bool
  spans_apart (num t lo hi) = not (span_tag t)
  spans_apart (listed t hi xs) = not (span_tag t)
  spans_apart (name t hi) = not (span_tag t)
  spans_apart (text t n c lo hi) = not (span_tag t) && letters_apart c
  spans_apart (span t w lo hi) = true
  spans_apart (any_span t w) = true
  spans_apart (skipped m) = true
  spans_apart (small m t) = not (span_tag t)
  spans_apart null = true
  spans_apart (noted t v s f) = not (span_tag t) && spans_apart f
  spans_apart (placed t f) = not (span_tag t) && spans_apart f
  spans_apart (marked m) = true
  spans_apart (refuse w m) = true
  spans_apart (element f) = spans_apart f
  spans_apart (ext f g) = spans_apart f && spans_apart g
  spans_apart (seq fs) = fields_apart fs
  spans_apart (loose fs) = fields_apart fs
  spans_apart (choice t fs) = not (span_tag t) && choice_apart fs
  spans_apart (many lo hi f) = spans_apart f
  spans_apart (inner f) = spans_apart f
  spans_apart (soft m r f) = spans_apart f
  spans_apart (lax m j f) = spans_apart f

  fields_apart : Flds → Bool
  fields_apart end = true
  fields_apart (f ⨾ fs) = spans_apart f && fields_apart fs
  fields_apart (f ⨾? fs) = spans_apart f && fields_apart fs
  fields_apart (or_note t v s f fs) = not (span_tag t) && (spans_apart f && fields_apart fs)
  fields_apart (unread t fs) = not (span_tag t) && fields_apart fs

  choice_apart : Alts → Bool
  choice_apart none_left = true
  choice_apart (f ∥ fs) = spans_apart f && choice_apart fs

mutual
  unfolding read length_then tells begun spans_apart

  reads_begun : (b : ℕ → ℕ) (f : Fmt) → spans_apart f ≡ true → (x : Ctx) (e at : ℕ) → Begun (read f x b e at)
  reads_begun b (num t lo hi) h x e at = begun-pull b e at _ _ λ v. one-begun t _ _ _ _ h
  reads_begun b (listed t hi xs) h x e at = begun-pull b e at _ _ λ v. one-begun t _ _ _ _ h
  reads_begun b (name t hi) h x e at = begun-pull b e at _ _ λ v. begun-guard _ _ _ _ (one-begun t _ _ _ _ h)
  reads_begun b (text t n c lo hi) h x e at =
      let k = both (not (span_tag t)) (letters_apart c) h in
      begun_sized b e at lo hi _ λ i q _. begun-letters b e (width (n - 1)) n i q _ λ p. text-begun t c x.0 at (units b (width (n - 1)) q i) k.0 k.1
  reads_begun b (span t w lo hi) h x e at = begun_sized b e at lo hi _ λ k q l. begun-pull b e q (k * w) _ λ _. span-begun t x.0 at q (k * w) l
  reads_begun b (any_span t w) h x e at = begun-lengths b e 65537 at _ λ k q l. begun-pull b e q (k * w) _ λ _. span-begun t x.0 at q (k * w) l
  reads_begun b (skipped m) h x e at = begun-behind at _ _ (begun-lengths b e 65537 at _ λ k q _. begun-pull b e q (k * 8) _ λ _. refl)
  reads_begun b (small m t) h x e at =
      begun-behind at _ _
      (begun-pull b e at 1 _ λ y.
      begun-fork y _ _ (begun-pull b e (at + 1) 6 _ λ v. one-begun t _ _ _ _ h) (begun-lengths b e 65537 (at + 1) _ λ k q _. begun-pull b e q (k * 8) _ λ v. one-begun t _ _ _ _ h))
  reads_begun b null h x e at = refl
  reads_begun b (noted t v s f) h x e at = let k = both (not (span_tag t)) (spans_apart f) h in begun-then _ _ (one-begun t _ _ _ _ k.0) (λ p. reads_begun b f k.1 x e p)
  reads_begun b (placed t f) h x e at = let k = both (not (span_tag t)) (spans_apart f) h in begun-then _ _ (one-begun t _ _ _ _ k.0) (λ p. reads_begun b f k.1 x e p)
  reads_begun b (marked m) h x e at = refl
  reads_begun b (refuse w m) h x e at = refl
  reads_begun b (element f) h x e at = reads_begun b f h (x.1, x.1) e at
  reads_begun b (ext f g) h x e at = let k = both (spans_apart f) (spans_apart g) h in begun-pull b e at 1 _ λ y. begun-fork y _ _ (reads_begun b f k.0 x e (at + 1)) (begun-behind (at + 1) _ _ (reads_begun b g k.1 x e (at + 1)))
  reads_begun b (seq fs) h x e at = begun-fetch b e at (flags fs) _ _ refl λ _. begun-behind (at + flags fs) _ _ (fields_begun b fs h x e at (at + flags fs))
  reads_begun b (loose fs) h x e at = begun-fetch b e at (flags fs) _ _ (begun-late 1 [] _ _ refl (fields_begun (within b e) fs h x e at (at + (e - at)))) λ _. begun-behind (at + flags fs) _ _ (fields_begun b fs h x e at (at + flags fs))
  reads_begun b (choice t fs) h x e at = let k = both (not (span_tag t)) (choice_apart fs) h in begun-pull b e at _ _ λ i. begun-then _ _ (one-begun t _ _ _ _ k.0) (λ q. choice_begun b fs k.1 i x e q)
  reads_begun b (many lo hi f) h x e at = begun_sized b e at lo hi _ λ k q _. begun-times (λ i p. read f (x.0, i) b e p) (λ i p. reads_begun b f h (x.0, i) e p) 1 k q
  reads_begun b (inner f) h x e at = begun-lengths b e 65537 at _ λ k q _. begun-pull b e q k _ λ _. begun-close (q + k) _ (reads_begun b f h x (q + k) q)
  reads_begun b (soft m r f) h x e at = begun_soft m r _ (reads_begun b f h x e at)
  reads_begun b (lax m j f) h x e at = begun_lax m j _ (reads_begun b f h x e at)

  fields_begun : (b : ℕ → ℕ) (fs : Flds) → fields_apart fs ≡ true → (x : Ctx) (e q at : ℕ) → Begun (read_fields fs x b e q at)
  fields_begun b end h x e q at = refl
  fields_begun b (f ⨾ fs) h x e q at = let k = both (spans_apart f) (fields_apart fs) h in begun-then _ _ (reads_begun b f k.0 x e at) (λ p. fields_begun b fs k.1 x e q p)
  fields_begun b (f ⨾? fs) h x e q at =
      let k = both (spans_apart f) (fields_apart fs) h in
      begun-fork (b q) _ _ (fields_begun b fs k.1 x e (suc q) at) (begun-then _ _ (reads_begun b f k.0 x e at) (λ p. fields_begun b fs k.1 x e (suc q) p))
  fields_begun b (or_note t v s f fs) h x e q at =
      let k = both (not (span_tag t)) (spans_apart f && fields_apart fs) h in
      let l = both (spans_apart f) (fields_apart fs) k.1 in
      begun-fork (b q) _ _ (begun-then _ _ (one-begun t _ _ _ _ k.0) (λ p. fields_begun b fs l.1 x e (suc q) p)) (begun-then _ _ (reads_begun b f l.0 x e at) (λ p. fields_begun b fs l.1 x e (suc q) p))
  fields_begun b (unread t fs) h x e q at =
      let k = both (not (span_tag t)) (fields_apart fs) h in
      begun-fork (b q) _ _ (fields_begun b fs k.1 x e (suc q) at) (begun-then _ _ (one-begun t _ _ _ _ k.0) (λ p. fields_begun b fs k.1 x e (suc q) p))

  choice_begun : (b : ℕ → ℕ) (fs : Alts) → choice_apart fs ≡ true → (i : ℕ) (x : Ctx) (e at : ℕ) → Begun (read_choice fs i x b e at)
  choice_begun b none_left h i x e at = refl
  choice_begun b (f ∥ fs) h zero x e at = reads_begun b f (both (spans_apart f) (choice_apart fs) h).0 x e at
  choice_begun b (f ∥ fs) h (suc i) x e at = choice_begun b fs (both (spans_apart f) (choice_apart fs) h).1 i x e at

---------------------------------------------------------------- the messages, whatever tables are lent

argument-apart : (k : ℕ) → spans_apart (argument_of k) ≡ true
unfolding argument_of spans_apart span_tag member every
argument-apart zero = refl
argument-apart (suc k) = every_get (λ f. spans_apart f) arguments no_reader k refl refl

elements-apart : (T : List ℕ) → choice_apart (elements T) ≡ true
unfolding elements spans_apart
elements-apart [] = refl
elements-apart (k ∷ T) = rw (argument-apart k, elements-apart T) refl

aircraft_apart : (T : List ℕ) → spans_apart (aircraft_pdus T) ≡ true
unfolding spans_apart span_tag member
aircraft_apart T = rw (elements-apart T) refl

ground_apart : (down up : List ℕ) → spans_apart (ground_pdus down up) ≡ true
unfolding spans_apart span_tag member
ground_apart down up = rw (elements-apart down, elements-apart up) refl

cm_aircraft_apart : spans_apart cm_aircraft ≡ true
unfolding spans_apart span_tag member
cm_aircraft_apart = refl

cm_ground_apart : spans_apart cm_ground ≡ true
unfolding spans_apart span_tag member
cm_ground_apart = refl

acse-apart : spans_apart acse ≡ true
unfolding spans_apart span_tag member
acse-apart = refl

---------------------------------------------------------------- each way to read a frame

reply-begun : (a : Ans) → Begun a → Good (λ R. begun R ≡ true) (reply a)
unfolding Good reply stopped tells
reply-begun (ok p R m) h = h
reply-begun (past k p R m) h = h
reply-begun (stop (out k) p R m) h = tt
reply-begun (stop bad p R m) h = tt
reply-begun (stop lack p R m) h = tt
reply-begun (stop (quit o j k) p R m) h = h

frame-begun : (f : Fmt) → spans_apart f ≡ true → (s : List ℕ) → Good (λ R. begun R ≡ true) (read_frame f s)
unfolding read_frame
frame-begun f h s = reply-begun _ (reads_begun (bit_of s) f h (0, 0) (length s * 8) 0)

pub pdus-begun : (d : ℕ) (down up s : List ℕ) → Good (λ R. begun R ≡ true) (read_frame (pdus d down up) s)
unfolding pdus
pdus-begun zero down up = frame-begun (aircraft_pdus down) (aircraft_apart down)
pdus-begun (suc d) down up = frame-begun (ground_pdus down up) (ground_apart down up)

pub apdu-begun : (down up s : List ℕ) → Good (λ R. begun R ≡ true) (or_else (read_frame (aircraft_pdus down) s) (read_frame (ground_pdus down up) s))
unfolding pdus
apdu-begun down up s = good_else _ _ _ (pdus-begun 0 down up s) (pdus-begun 1 down up s)

pub cm-begun : (d : ℕ) (s : List ℕ) → Good (λ R. begun R ≡ true) (read_frame (cm_of d) s)
unfolding cm_of
cm-begun zero = frame-begun cm_aircraft cm_aircraft_apart
cm-begun (suc d) = frame-begun cm_ground cm_ground_apart

pub acse-begun : (s : List ℕ) → Good (λ R. begun R ≡ true) (read_frame acse s)
acse-begun = frame-begun acse acse-apart
