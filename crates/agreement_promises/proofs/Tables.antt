-- A ground message is read by one table: the choice of the carried direction reads one alternative alone.
use mathlib.Core.Path.{◌≡◌, refl, ap}
use mathlib.Core.Bool.{Bool, cond}
use mathlib.Core.List.{List, [], ◌∷◌}
use mathlib.Core.Logic.{◌⊎◌, inl, inr}
use Prim.Native.Nat.{ℕ, zero, suc, ◌+◌}
use lib.Dec.{leb}
use Rattle.x691.specs.Bits.{uint}
use Rattle.x691.specs.Encoding.{width, highest, count}
use Rattle.atn.specs.Format.{Fmt, noted, ext, seq, choice, soft, end, ◌⨾◌, Alts, none_left, ◌∥◌, alternatives_of}
use Rattle.atn.specs.Reading.{rec, Ctx, mark, Ans, ok, past, stop, glue, late, then, fork, fetch, pull, softly, flags, unread_marks, read, read_choice}
use Rattle.atn.specs.Messages.{carried, forward, ground_pdus}

-- one of two
abbrev pub One : Ans → Ans → Ans → Type 0
One a y z = (a ≡ y) ⊎ (a ≡ z)

through : (h : Ans → Ans) (a y z : Ans) → One a y z → One (h a) (h y) (h z)
through h a y z (inl q) = inl (ap h q)
through h a y z (inr q) = inr (ap h q)

through_then : (a : Ans) (k y z : ℕ → Ans) → ((p : ℕ) → One (k p) (y p) (z p)) → One (then a k) (then a y) (then a z)
unfolding then
through_then (ok p R m) k y z h = through (λ a. glue R m a) (k p) (y p) (z p) (h p)
through_then (past l p R m) k y z h = through (λ a. late l R m a) (k p) (y p) (z p) (h p)
through_then (stop w p R m) k y z h = inl refl

through_fetch : (b : ℕ → ℕ) (e at n : ℕ) (k y z : ℕ → Ans) (s : Ans) → ((v : ℕ) → One (k v) (y v) (z v)) → One (fetch b e at n k s) (fetch b e at n y s) (fetch b e at n z s)
unfolding fetch
through_fetch b e at n k y z s h = let v = uint b at n in through (λ a. cond (leb (at + n) e) a s) (k v) (y v) (z v) (h v)

through_pull : (b : ℕ → ℕ) (e at n : ℕ) (k y z : ℕ → Ans) → ((v : ℕ) → One (k v) (y v) (z v)) → One (pull b e at n k) (pull b e at n y) (pull b e at n z)
unfolding pull
through_pull b e at n k y z h = through_fetch b e at n k y z _ h

module _ (x : Ctx) (b : ℕ → ℕ) (e : ℕ) where
  -- of three formats, and of three lists of alternatives: what is read by the first is read by one of the others
  abbrev OneOf : Fmt → Fmt → Fmt → Type 0
  OneOf f g h = (at : ℕ) → One (read f x b e at) (read g x b e at) (read h x b e at)

  abbrev OneOfAlts : Alts → Alts → Alts → Type 0
  OneOfAlts fs gs hs = (i at : ℕ) → One (read_choice fs i x b e at) (read_choice gs i x b e at) (read_choice hs i x b e at)

  as_second : (f h : Fmt) → OneOf f f h
  as_second f h at = inl refl

  as_third : (f g : Fmt) → OneOf f g f
  as_third f g at = inr refl

  alternative : (f g h : Fmt) (fs gs hs : Alts) → OneOf f g h → OneOfAlts fs gs hs → OneOfAlts (f ∥ fs) (g ∥ gs) (h ∥ hs)
  unfolding read_choice
  alternative f g h fs gs hs u v zero at = u at
  alternative f g h fs gs hs u v (suc i) at = v i at

  no_more : OneOfAlts none_left none_left none_left
  no_more i at = inl refl

  one_choice : (t : ℕ) (fs gs hs : Alts) → highest (alternatives_of gs) ≡ highest (alternatives_of fs) → highest (alternatives_of hs) ≡ highest (alternatives_of fs) → OneOfAlts fs gs hs → OneOf (choice t fs) (choice t gs) (choice t hs)
  unfolding read
  one_choice t fs gs hs g h u at = rw (g, h) (through_pull b e at (width (highest (alternatives_of fs))) _ _ _ λ i. through_then _ _ _ _ λ p. u i p)

  one-second : (f g h k : Fmt) → OneOf g h k → OneOf (seq (f ⨾ g ⨾ end)) (seq (f ⨾ h ⨾ end)) (seq (f ⨾ k ⨾ end))
  unfolding read flags unread_marks
  one-second f g h k u at =
      through_fetch b e at 0 _ _ _ _ λ _.
      through_then _ _ _ _ λ p. through_then _ _ _ _ λ q. through (λ a. then a λ r. ok r [] 0) (read g x b e q) (read h x b e q) (read k x b e q) (u q)

  one-noted : (t v n : ℕ) (f g h : Fmt) → OneOf f g h → OneOf (noted t v n f) (noted t v n g) (noted t v n h)
  unfolding read
  one-noted t v n f g h u at = through_then (ok at (rec t x.0 v n at ∷ []) 0) _ _ _ u

  one_ext : (f g h k : Fmt) → OneOf f g h → OneOf (ext f k) (ext g k) (ext h k)
  unfolding read
  one_ext f g h k u at = through_pull b e at 1 _ _ _ λ y. through (λ a. fork y a (then (ok (at + 1) [] (mark 2)) λ p. read k x b e p)) (read f x b e (at + 1)) (read g x b e (at + 1)) (read h x b e (at + 1)) (u (at + 1))

  one_soft : (m : ℕ) (r : Bool) (f g h : Fmt) → OneOf f g h → OneOf (soft m r f) (soft m r g) (soft m r h)
  unfolding read
  one_soft m r f g h u at = through (λ a. softly m r a) (read f x b e at) (read g x b e at) (read h x b e at) (u at)

  module _ (down up : List ℕ) where
    one-forward : OneOf (forward down up) (forward up up) (forward down down)
    unfolding highest count
    one-forward =
        one_soft _ _ _ _ _
        (one-second _ _ _ _ (one_choice _ _ _ _ refl refl (alternative _ _ _ _ _ _ (as_second (carried up) (carried down)) (alternative _ _ _ _ _ _ (as_third (carried down) (carried up)) no_more))))

    pub one_ground : OneOf (ground_pdus down up) (ground_pdus up up) (ground_pdus down down)
    unfolding highest count
    one_ground =
        one-noted _ _ _ _ _ _
        (one_ext _ _ _ _
        (one_choice _ _ _ _ refl refl
        (alternative _ _ _ _ _ _ (as_second _ _)
        (alternative _ _ _ _ _ _ (as_second _ _)
        (alternative _ _ _ _ _ _ (as_second _ _) (alternative _ _ _ _ _ _ (as_second _ _) (alternative _ _ _ _ _ _ one-forward (alternative _ _ _ _ _ _ (as_second _ _) no_more))))))))
