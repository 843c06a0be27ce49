-- What is surely read of a format, from what is surely read of its parts: a law for each kind of format.
use Rattle.std.proofs.Common.{◌≡◌, ℕ, suc, ◌+◌, ◌-◌, ◌*◌, ◌^◌, ◌<◌, ◌≤◌, true, List, [], ◌∷◌, ◌++◌, sym, refl, ap, ◌∙◌, append-nil, add-zero, mod-eq_of_lt, arith}
use Rattle.x691.specs.Bits.{bit_of, uint}
use Rattle.x691.specs.Types.{extent}
use Rattle.x691.specs.Encoding.{width, width_in, highest}
use Rattle.atn.specs.Format.{Fmt, Flds, Alts, num, noted, placed, choice, seq, many, alternatives_of, end, ◌⨾◌, ◌⨾?◌}
use Rattle.atn.specs.Reading.{Rec, rec, Ctx, Ans, ok, then, glue, fork, times, sized, over, unless, or, word, pack, units, flags, read, read_fields, read_choice}
use Rattle.atn.specs.Messages.{ia5}
use Rattle.atn.proofs.Marks.{or_nil}
use Rattle.atn.proofs.Steps.{fetch_go, pull_go, then-nil, glue-nil}
use Rattle.atn.proofs.Then.{glue-then}
use Rattle.cursor.proofs.FormatLaws.{all_read, read_unmarked}
use Rattle.character_strings.proofs.TextLaws.{letters-all, coded-nil}
use Rattle.ample_readings.specs.Sure.{Sure, SureFields}

-- a sequence without presence bits is its fields
pub plain-read : (x : Ctx) (s : List ℕ) (fs : Flds) → flags fs ≡ 0 → all_read fs ≡ true → (e at : ℕ) → at ≤ e → read (seq fs) x (bit_of s) e at ≡ read_fields fs x (bit_of s) e at at
unfolding read
plain-read x s fs p a e at h =
    rw p (fetch_go (bit_of s) e at 0 _ _ (omega arith) ∙ rw (read_unmarked fs (bit_of s) at a) (then-nil (at + 0) (λ q. read_fields fs x (bit_of s) e at q) ∙ ap (λ (z : ℕ). read_fields fs x (bit_of s) e at z) (add-zero at)))

module _ {x : Ctx} {s : List ℕ} where
  -- v is above the lowest by what w bits say, which is above d or not
  pub sure_word : (t lo hi d w : ℕ) {at v : ℕ} → extent lo hi ≡ d → width d ≡ w → v ≡ uint (bit_of s) at w → Sure (num t lo hi) x s at (at + w) (rec t x.0 (word (lo + v)) 0 at ∷ []) (over d v)
  unfolding read
  sure_word t lo hi d w {at} {v} p q u = record { forth = omega arith; gives = λ e h. rw (p, q) (pull_go (bit_of s) e at w _ h ∙ rw (← u)) }

  -- the same where the sum is not above a word
  pub sure_num : (t lo hi d w : ℕ) {at v : ℕ} → extent lo hi ≡ d → width d ≡ w → v ≡ uint (bit_of s) at w → lo + v < 2 ^ 64 → Sure (num t lo hi) x s at (at + w) (rec t x.0 (lo + v) 0 at ∷ []) (over d v)
  unfolding word
  sure_num t lo hi d w p q u l = rw (mod-eq_of_lt l) at (sure_word t lo hi d w p q u)

  -- the index, then the alternative that it names
  pub sure_choice : (t : ℕ) (fs : Alts) (f : Fmt) (w i : ℕ) {at q m : ℕ} {R : List Rec} → width (highest (alternatives_of fs)) ≡ w → i ≡ uint (bit_of s) at w
      → ((e p : ℕ) → read_choice fs i x (bit_of s) e p ≡ read f x (bit_of s) e p) → Sure f x s (at + w) q R m → Sure (choice t fs) x s at q (rec t x.0 i 0 at ∷ R) m
  unfolding read then glue or
  sure_choice t fs f w i {at} p u c y =
      record { forth = omega (arith, y.forth); gives = λ e h. rw p (pull_go (bit_of s) e at w _ (omega (arith, y.forth)) ∙ rw (← u, c e (at + w), y.gives e h)) }

  pub sure_noted : {f : Fmt} {at q m : ℕ} {R : List Rec} (t v z : ℕ) → Sure f x s at q R m → Sure (noted t v z f) x s at q (rec t x.0 v z at ∷ R) m
  unfolding read then glue or
  sure_noted t v z y = record { forth = y.forth; gives = λ e h. rw (y.gives e h) }

  pub sure_placed : {f : Fmt} {at q m : ℕ} {R : List Rec} (t : ℕ) → Sure f x s at q R m → Sure (placed t f) x s at q (rec t x.0 x.1 0 at ∷ R) m
  unfolding read then glue or
  sure_placed t y = record { forth = y.forth; gives = λ e h. rw (y.gives e h) }

  ---------------------------------------------------------------- fields

  pub sure_end : {q at : ℕ} → SureFields end x s q at at [] 0
  unfolding read_fields
  sure_end = record { forth = omega arith; gives = λ e h. refl }

  pub sure_must : {f : Fmt} {fs : Flds} {q at p r m n : ℕ} {R S : List Rec} → Sure f x s at p R m → SureFields fs x s q p r S n → SureFields (f ⨾ fs) x s q at r (R ++ S) (or m n)
  unfolding read_fields then glue
  sure_must y z = record { forth = omega (arith, y.forth, z.forth); gives = λ e h. rw (y.gives e (omega (arith, z.forth)), z.gives e h) }

  pub sure_last : {f : Fmt} {q at p m : ℕ} {R : List Rec} → Sure f x s at p R m → SureFields (f ⨾ end) x s q at p R m
  sure_last {q = q} {m = m} {R = R} y = rw (append-nil R, or_nil m) at (sure_must {q = q} y sure_end)

  pub sure_absent : {f : Fmt} {fs : Flds} {q at r n : ℕ} {S : List Rec} → bit_of s q ≡ 0 → SureFields fs x s (suc q) at r S n → SureFields (f ⨾? fs) x s q at r S n
  unfolding read_fields fork
  sure_absent z y = record { forth = y.forth; gives = λ e h. rw z (y.gives e h) }

  pub sure_present : {f : Fmt} {fs : Flds} {q at p r m n : ℕ} {R S : List Rec} → bit_of s q ≡ 1 → Sure f x s at p R m → SureFields fs x s (suc q) p r S n → SureFields (f ⨾? fs) x s q at r (R ++ S) (or m n)
  unfolding read_fields fork then glue
  sure_present z y u = record { forth = omega (arith, y.forth, u.forth); gives = λ e h. rw (z, y.gives e (omega (arith, u.forth)), u.gives e h) }

  pub sure_last_present : {f : Fmt} {q at p m : ℕ} {R : List Rec} → bit_of s q ≡ 1 → Sure f x s at p R m → SureFields (f ⨾? end) x s q at p R m
  sure_last_present {q = q} {m = m} {R = R} z y = rw (append-nil R, or_nil m) at (sure_present {q = q} z y sure_end)

  -- the presence bits, then the fields
  pub sure_seq : {fs : Flds} {at r m : ℕ} {R : List Rec} (n : ℕ) → flags fs ≡ n → all_read fs ≡ true → SureFields fs x s at (at + n) r R m → Sure (seq fs) x s at r R m
  unfolding read
  sure_seq {fs} {at} n p a y =
      record {
        forth = omega (arith, y.forth);
        gives = λ e h. rw p (fetch_go (bit_of s) e at n _ _ (omega (arith, y.forth)) ∙ rw (read_unmarked fs (bit_of s) at a) (then-nil (at + n) (λ q. read_fields fs x (bit_of s) e at q) ∙ y.gives e h));
      }

  -- without presence bits
  pub sure_plain : {fs : Flds} {at r m : ℕ} {R : List Rec} → flags fs ≡ 0 → all_read fs ≡ true → SureFields fs x s at at r R m → Sure (seq fs) x s at r R m
  sure_plain {fs} {at} {r} {m} {R} p a y = sure_seq 0 p a (let e : at ≡ at + 0 = omega arith in record { forth = omega (arith, y.forth); gives = λ d h. ap (λ (z : ℕ). read_fields fs x (bit_of s) d at z) (add-zero at) ∙ y.gives d h })

  -- a choice at the front of two: its index, then the alternative with what follows
  pub sure_chosen : {f g : Fmt} {at q m : ℕ} {R : List Rec} (t : ℕ) (fs : Alts) (w i : ℕ) → width (highest (alternatives_of fs)) ≡ w → i ≡ uint (bit_of s) at w
      → ((e p : ℕ) → read_choice fs i x (bit_of s) e p ≡ read f x (bit_of s) e p) → Sure (seq (f ⨾ g ⨾ end)) x s (at + w) q R m → Sure (seq (choice t fs ⨾ g ⨾ end)) x s at q (rec t x.0 i 0 at ∷ R) m
  unfolding read flags all_read then glue or
  sure_chosen {f} {g} {at} {q} {m} {R} t fs w i p u c y =
      record { forth = omega (arith, y.forth); gives = λ e h. plain-read x s (choice t fs ⨾ g ⨾ end) refl refl e at (omega (arith, y.forth)) ∙ ap (λ (z : Ans). then z (rest e)) (index e h) ∙ glue-then (rec t x.0 i 0 at ∷ []) 0 (read f x (bit_of s) e (at + w)) (rest e) ∙ ap (glue (rec t x.0 i 0 at ∷ []) 0) (behind e h) }
    where
      rest : ℕ → ℕ → Ans
      rest e = λ p. then (read g x (bit_of s) e p) (λ r. ok r [] 0)

      index : (e : ℕ) → q ≤ e → read (choice t fs) x (bit_of s) e at ≡ glue (rec t x.0 i 0 at ∷ []) 0 (read f x (bit_of s) e (at + w))
      index e h = rw p (pull_go (bit_of s) e at w _ (omega (arith, y.forth)) ∙ rw (← u, c e (at + w)))

      behind : (e : ℕ) → q ≤ e → then (read f x (bit_of s) e (at + w)) (rest e) ≡ ok q R m
      behind e h = sym (plain-read x s (f ⨾ g ⨾ end) refl refl e (at + w) (omega (arith, y.forth))) ∙ y.gives e h

  ---------------------------------------------------------------- lists and texts

  -- a text of k characters
  pub sure-text : (t lo hi w : ℕ) {at k : ℕ} → width (hi - lo) ≡ w → k ≡ lo + uint (bit_of s) at w → Sure (ia5 t lo hi) x s at (at + w + k * 7) (pack t x.0 at (units (bit_of s) 7 (at + w) k)) (over hi k)
  unfolding read sized then glue width width_in
  sure-text t lo hi w {at} {k} p u =
      record {
        forth = omega arith;
        gives = λ e h. rw p (pull_go (bit_of s) e at w _ (omega arith) ∙ rw (← u, letters-all s e k (at + w) _ h, coded-nil (units (bit_of s) 7 (at + w) k), or_nil (over hi k)));
      }

-- two of a part
pub sure_two : {i : ℕ} {s : List ℕ} {f : Fmt} {at p q m n : ℕ} {R S : List Rec} → Sure f (0, 1) s at p R m → Sure f (0, 2) s p q S n → Sure (many 2 2 f) (0, i) s at q (R ++ S) (or m n)
unfolding read sized times then glue uint width width_in over unless
sure_two {s = s} {f = f} {at} {p} {q} {m} {n} {R} {S} y z =
    record {
      forth = omega (arith, y.forth, z.forth);
      gives = λ e h. pull_go (bit_of s) e at 0 _ (omega (arith, y.forth, z.forth)) ∙ ap (glue [] 0) (both e h) ∙ glue-nil (ok q (R ++ S) (or m n));
    }
  where
    both : (e : ℕ) → q ≤ e → times (λ j a. read f (0, j) (bit_of s) e a) 1 2 (at + 0) ≡ ok q (R ++ S) (or m n)
    both e h = rw (add-zero at, y.gives e (omega (arith, z.forth)), z.gives e h, append-nil S, or_nil n)
