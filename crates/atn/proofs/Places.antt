-- The places of the records of a reading rise from where it begins to where it ends.
use mathlib.Core.Path.{◌≡◌}
use mathlib.Core.Bool.{Bool, true, false, cond}
use mathlib.Core.List.{List, [], ◌∷◌, ◌++◌}
use Prim.Native.Nat.{ℕ, zero, suc, ◌+◌, ◌-◌, ◌*◌, ◌/◌, ◌≤◌, max}
use native.Mathlib.Omega.{arith}
use lib.ListN.{length, drop}
use Rattle.x691.specs.Bits.{bit_of, uint}
use Rattle.x691.specs.Encoding.{width}
use Rattle.atn.specs.Format.{Fmt, num, listed, name, text, span, any_span, skipped, small, null, noted, placed, marked, refuse, element, ext, seq, loose, choice, many, inner, soft, lax}
use Rattle.atn.specs.Format.{Flds, end, ◌⨾◌, ◌⨾?◌, or_note, unread, Alts, none_left, ◌∥◌, Letters, first, numeric, out, bad, lack, quit}
use Rattle.atn.specs.Reading.{Rec, rec, Ctx, Ans, ok, past, stop, glue, late, then, times, fork, guard, fetch, pull, sized, letters, units, packs, pack, coded, spaced, none_above, lettered, spanned, kept, short, long, fragment, lengths, length_then, flags, within, close, shut, softly, pass_over, laxly, give_up, read, read_fields, read_choice}
use Rattle.atn.specs.Entries.{Reply, accept, ran_out, badly, unsupplied, stopped, reply, read_frame, after_out, after_bad, or_else}
use Rattle.atn.specs.Places.{Rising}
use Rattle.atn.proofs.Steps.{fetch_go, fetch_no}
use Rattle.atn.proofs.Reach.{reach, split, in_window}

---------------------------------------------------------------- records

-- from a lower place
rising_from : (lo at hi : ℕ) (R : List Rec) → lo ≤ at → Rising at R hi → Rising lo R hi
unfolding Rising
rising_from lo at hi [] l h = omega arith
rising_from lo at hi (rec t m v s q ∷ R) l h = (omega (arith, h.0), h.1)

-- to a higher one
pub rising_to : (lo at hi : ℕ) (R : List Rec) → at ≤ hi → Rising lo R at → Rising lo R hi
unfolding Rising
rising_to lo at hi [] l h = omega arith
rising_to lo at hi (rec t m v s q ∷ R) l h = (h.0, rising_to q at hi R l h.1)

pub rising_ends : (lo hi : ℕ) (R : List Rec) → Rising lo R hi → lo ≤ hi
unfolding Rising
rising_ends lo hi [] h = h
rising_ends lo hi (rec t m v s q ∷ R) h = omega (arith, h.0, rising_ends q hi R h.1)

rising_append : (lo at hi : ℕ) (R S : List Rec) → Rising lo R at → Rising at S hi → Rising lo (R ++ S) hi
unfolding Rising
rising_append lo at hi [] S h g = rising_from lo at hi S h g
rising_append lo at hi (rec t m v s q ∷ R) S h g = (h.0, rising_append q at hi R S h.1 g)

rising_packs : (at hi t m n k : ℕ) (cs : List ℕ) → at ≤ hi → Rising at (packs t m at n k cs) hi
unfolding Rising packs
rising_packs at hi t m n zero cs l = l
rising_packs at hi t m n (suc k) cs l = (omega arith, rising_packs at hi t m n k (drop 8 cs) l)

rising_pack : (at hi t m : ℕ) (cs : List ℕ) → at ≤ hi → Rising at (pack t m at cs) hi
unfolding pack
rising_pack at hi t m cs l = rising_packs at hi t m (length cs) ((length cs + 7) / 8) cs l

rising_text : (at hi t : ℕ) (c : Letters) (m : ℕ) (us : List ℕ) → at ≤ hi → Rising at (lettered t c m at us) hi
unfolding Rising
rising_text at hi t (first c) m us l = rising_pack at hi t m (coded c us) l
rising_text at hi t (numeric v) m us l = rising_append at at hi (pack t m at (coded 48 us)) _ (rising_pack at at t m (coded 48 us) (omega arith)) (go (none_above 10 us))
  where
    go : (y : Bool) → Rising at (cond y (pack v m at (spaced us)) []) hi
    go true = rising_pack at hi v m (spaced us) l
    go false = l

rising_span : (at hi t m q n : ℕ) → at ≤ hi → Rising at (spanned t m at q n) hi
unfolding Rising spanned
rising_span at hi t m q zero l = l
rising_span at hi t m q (suc n) l = (omega arith, l)

---------------------------------------------------------------- answers

-- the records of an answer
unfoldable pub tells : Ans → List Rec
tells (ok p R m) = R
tells (past k p R m) = R
tells (stop w p R m) = R

-- their places rise from lo to where the answer stands
abbrev pub Rises : ℕ → Ans → Type 0
Rises lo a = Rising lo (tells a) (reach a)

rises-from : (lo at : ℕ) (a : Ans) → lo ≤ at → Rises at a → Rises lo a
rises-from lo at a l h = rising_from lo at (reach a) (tells a) l h

rises-glue : (lo at : ℕ) (R : List Rec) (m : ℕ) (a : Ans) → Rising lo R at → Rises at a → Rises lo (glue R m a)
unfolding glue tells reach
rises-glue lo at R m (ok p S n) h g = rising_append lo at p R S h g
rises-glue lo at R m (past k p S n) h g = rising_append lo at p R S h g
rises-glue lo at R m (stop w p S n) h g = rising_append lo at p R S h g

rises-late : (lo at k : ℕ) (R : List Rec) (m : ℕ) (a : Ans) → Rising lo R at → Rises at a → Rises lo (late k R m a)
unfolding late tells reach
rises-late lo at k R m (ok p S n) h g = rising_append lo at p R S h g
rises-late lo at k R m (past l p S n) h g = rising_append lo at p R S h g
rises-late lo at k R m (stop w p S n) h g = rising_append lo at p R S h g

rises-then : (lo : ℕ) (a : Ans) (k : ℕ → Ans) → Rises lo a → ((q : ℕ) → lo ≤ q → Rises q (k q)) → Rises lo (then a k)
unfolding then tells reach
rises-then lo (ok q R m) k h g = rises-glue lo q R m (k q) h (g q (rising_ends lo q R h))
rises-then lo (past l q R m) k h g = rises-late lo q l R m (k q) h (g q (rising_ends lo q R h))
rises-then lo (stop w q R m) k h g = h

rises-fork : (lo x : ℕ) (y z : Ans) → Rises lo y → Rises lo z → Rises lo (fork x y z)
unfolding fork
rises-fork lo zero y z h g = h
rises-fork lo (suc x) y z h g = g

rises-guard : (lo : ℕ) (t : Bool) (p m : ℕ) (z : Ans) → lo ≤ p → Rises lo z → Rises lo (guard t p m z)
unfolding guard tells reach Rising
rises-guard lo true p m z h g = g
rises-guard lo false p m z h g = h

rises-kept : (lo hi : ℕ) (r : Bool) (R : List Rec) → Rising lo R hi → Rising lo (kept r R) hi
unfolding kept Rising
rises-kept lo hi true R h = h
rises-kept lo hi false R h = rising_ends lo hi R h

rises_soft : (lo k : ℕ) (r : Bool) (a : Ans) → Rises lo a → Rises lo (softly k r a)
unfolding softly pass_over tells reach
rises_soft lo k r (ok p R m) h = h
rises_soft lo k r (past l p R m) h = h
rises_soft lo k r (stop (out l) p R m) h = rises-kept lo p r R h
rises_soft lo k r (stop bad p R m) h = rises-kept lo p r R h
rises_soft lo k r (stop lack p R m) h = h
rises_soft lo k r (stop (quit o j l) p R m) h = h

rises_lax : (lo k : ℕ) (j : Bool) (a : Ans) → Rises lo a → Rises lo (laxly k j a)
unfolding laxly give_up tells reach Rising
rises_lax lo k j (ok p R m) h = h
rises_lax lo k j (past l p R m) h = h
rises_lax lo k j (stop (out l) p R m) h = rising_ends lo p R h
rises_lax lo k j (stop bad p R m) h = rising_ends lo p R h
rises_lax lo k j (stop lack p R m) h = h
rises_lax lo k j (stop (quit o i l) p R m) h = h

rises-close : (lo q : ℕ) (a : Ans) → reach a ≤ q → Rises lo a → Rises lo (close q a)
unfolding close shut tells reach
rises-close lo q (ok p R m) l h = rising_to lo p q R l h
rises-close lo q (past k p R m) l h = rising_to lo p q R l h
rises-close lo q (stop (out k) p R m) l h = rising_to lo p q R l h
rises-close lo q (stop bad p R m) l h = rising_to lo p q R l h
rises-close lo q (stop lack p R m) l h = rising_to lo p q R l h
rises-close lo q (stop (quit o false k) p R m) l h = rising_to lo p q R l h
rises-close lo q (stop (quit o true k) p R m) l h = rising_to lo p q R l h

---------------------------------------------------------------- reads

rises-times : (r : ℕ → ℕ → Ans) → ((i q : ℕ) → Rises q (r i q)) → (i n at : ℕ) → Rises at (times r i n at)
unfolding times tells reach Rising
rises-times r h i zero at = omega arith
rises-times r h i (suc n) at = rises-then at (r i at) _ (h i at) (λ q _. rises-times r h (suc i) n q)

module _ (lo : ℕ) (b : ℕ → ℕ) (e : ℕ) where
  rises-fetch : (at n : ℕ) (k : ℕ → Ans) (z : Ans) → Rises lo z → ((v : ℕ) → Rises lo (k v)) → Rises lo (fetch b e at n k z)
  rises-fetch at n k z x h = split (at + n) e (λ l. rw (fetch_go b e at n k z l) (h (uint b at n))) (λ l. rw (fetch_no b e at n k z l) x)

  rises-pull : (at n : ℕ) (k : ℕ → Ans) → lo ≤ at → ((v : ℕ) → Rises lo (k v)) → Rises lo (pull b e at n k)
  unfolding pull tells reach Rising
  rises-pull at n k l h = rises-fetch at n k _ l h

  -- what is read before, and tells nothing
  rises-behind : (at m : ℕ) (k : ℕ → Ans) → lo ≤ at → Rises lo (k at) → Rises lo (then (ok at [] m) k)
  unfolding then Rising
  rises-behind at m k l h = rises-glue lo lo [] m (k at) (omega arith) h

  rises-sized : (at n m : ℕ) (k : ℕ → ℕ → Ans) → lo ≤ at → ((i q : ℕ) → lo ≤ q → Rises lo (k i q)) → Rises lo (sized b e at n m k)
  unfolding sized
  rises-sized at n m k l h = rises-pull at _ _ l λ v. rises-behind _ _ _ (omega arith) (h (n + v) _ (omega arith))

  rises-letters : (w n i at : ℕ) (k : ℕ → Ans) → lo ≤ at → ((q : ℕ) → lo ≤ q → Rises lo (k q)) → Rises lo (letters b e w n i at k)
  unfolding letters
  rises-letters w n zero at k l h = h at l
  rises-letters w n (suc i) at k l h = rises-pull at w _ l λ u. rises-behind _ _ _ (omega arith) (rises-letters w n i (at + w) k (omega arith) h)

  rises-lengths : (g at : ℕ) (k : ℕ → ℕ → Ans) → lo ≤ at → ((n q : ℕ) → lo ≤ q → Rises lo (k n q)) → Rises lo (lengths g b e at k)
  unfolding lengths short long fragment tells reach Rising
  rises-lengths zero at k l h = l
  rises-lengths (suc g) at k l h =
      rises-pull at 1 _ l λ x.
      rises-fork lo x _ _ (rises-pull (at + 1) 7 _ (omega arith) λ n. h n (at + 8) (omega arith))
      (rises-pull (at + 1) 1 _ (omega arith) λ y.
      rises-fork lo y _ _ (rises-pull (at + 2) 14 _ (omega arith) λ n. rises-behind (at + 16) _ _ (omega arith) (h n (at + 16) (omega arith)))
      (rises-pull (at + 2) 6 _ (omega arith) λ m.
      rises-guard lo _ (at + 8) 0 _ (omega arith) (rises-guard lo _ (at + 8) 0 _ (omega arith) (rises-behind (at + 8) _ _ (omega arith) (rises-lengths g (at + 8) _ (omega arith) λ n p u. h (m * 16384 + n) p u)))))

---------------------------------------------------------------- the theorem

mutual
  unfolding read length_then tells reach Rising

  pub rises : (b : ℕ → ℕ) (f : Fmt) (x : Ctx) (e at : ℕ) → Rises at (read f x b e at)
  rises b (num t lo hi) x e at = rises-pull at b e at _ _ (omega arith) λ v. (omega arith, omega arith)
  rises b (listed t hi xs) x e at = rises-pull at b e at _ _ (omega arith) λ v. (omega arith, omega arith)
  rises b (name t hi) x e at = rises-pull at b e at _ _ (omega arith) λ v. rises-guard at _ _ _ _ (omega arith) (omega arith, omega arith)
  rises b (text t n c lo hi) x e at =
      rises-sized at b e at lo hi _ (omega arith) λ k q l. rises-letters at b e (width (n - 1)) n k q _ l λ p y. rising_text at p t c x.0 (units b (width (n - 1)) q k) y
  rises b (span t w lo hi) x e at = rises-sized at b e at lo hi _ (omega arith) λ k q l. rises-pull at b e q (k * w) _ l λ _. rising_span at (q + k * w) t x.0 q (k * w) (omega arith)
  rises b (any_span t w) x e at = rises-lengths at b e 65537 at _ (omega arith) λ k q l. rises-pull at b e q (k * w) _ l λ _. rising_span at (q + k * w) t x.0 q (k * w) (omega arith)
  rises b (skipped m) x e at = rises-behind at b e at _ _ (omega arith) (rises-lengths at b e 65537 at _ (omega arith) λ k q l. rises-pull at b e q (k * 8) _ l λ _. omega arith)
  rises b (small m t) x e at =
      rises-behind at b e at _ _ (omega arith)
      (rises-pull at b e at 1 _ (omega arith) λ y.
      rises-fork at y _ _ (rises-pull at b e (at + 1) 6 _ (omega arith) λ v. (omega arith, omega arith))
      (rises-lengths at b e 65537 (at + 1) _ (omega arith) λ k q l. rises-pull at b e q (k * 8) _ l λ _. (omega arith, omega arith)))
  rises b null x e at = omega arith
  rises b (noted t v s f) x e at = rises-then at _ _ (omega arith, omega arith) (λ p _. rises b f x e p)
  rises b (placed t f) x e at = rises-then at _ _ (omega arith, omega arith) (λ p _. rises b f x e p)
  rises b (marked m) x e at = omega arith
  rises b (refuse w m) x e at = omega arith
  rises b (element f) x e at = rises b f (x.1, x.1) e at
  rises b (ext f g) x e at =
      rises-pull at b e at 1 _ (omega arith) λ y.
      rises-fork at y _ _ (rises-from at (at + 1) (read f x b e (at + 1)) (omega arith) (rises b f x e (at + 1))) (rises-then at _ _ (omega arith) (λ p _. rises b g x e p))
  rises b (seq fs) x e at = rises-fetch at b e at (flags fs) _ _ (omega arith) λ _. rises-then at _ _ (omega arith) (λ p _. rises_fields b fs x e at p)
  rises b (loose fs) x e at =
      rises-fetch at b e at (flags fs) _ _ (rises-late at (at + (e - at)) 1 [] _ _ (omega arith) (rises_fields (within b e) fs x e at (at + (e - at)))) λ _. rises-then at _ _ (omega arith) (λ p _. rises_fields b fs x e at p)
  rises b (choice t fs) x e at = rises-pull at b e at _ _ (omega arith) λ i. rises-then at _ _ (omega arith, omega arith) (λ q _. rises_choice b fs i x e q)
  rises b (many lo hi f) x e at = rises-sized at b e at lo hi _ (omega arith) λ k q l. rises-from at q (times (λ i p. read f (x.0, i) b e p) 1 k q) l (rises-times (λ i p. read f (x.0, i) b e p) (λ i p. rises b f (x.0, i) e p) 1 k q)
  rises b (inner f) x e at =
      rises-lengths at b e 65537 at _ (omega arith) λ k q l.
      rises-pull at b e q k _ l λ _. rises-close at (q + k) _ (in_window b f x (q + k) q (omega arith)) (rises-from at q (read f x b (q + k) q) l (rises b f x (q + k) q))
  rises b (soft m r f) x e at = rises_soft at m r _ (rises b f x e at)
  rises b (lax m j f) x e at = rises_lax at m j _ (rises b f x e at)

  rises_fields : (b : ℕ → ℕ) (fs : Flds) (x : Ctx) (e q at : ℕ) → Rises at (read_fields fs x b e q at)
  rises_fields b end x e q at = omega arith
  rises_fields b (f ⨾ fs) x e q at = rises-then at _ _ (rises b f x e at) (λ p _. rises_fields b fs x e q p)
  rises_fields b (f ⨾? fs) x e q at = rises-fork at (b q) _ _ (rises_fields b fs x e (suc q) at) (rises-then at _ _ (rises b f x e at) (λ p _. rises_fields b fs x e (suc q) p))
  rises_fields b (or_note t v s f fs) x e q at =
      rises-fork at (b q) _ _ (rises-then at _ _ (omega arith, omega arith) (λ p _. rises_fields b fs x e (suc q) p)) (rises-then at _ _ (rises b f x e at) (λ p _. rises_fields b fs x e (suc q) p))
  rises_fields b (unread t fs) x e q at = rises-fork at (b q) _ _ (rises_fields b fs x e (suc q) at) (rises-then at _ _ (omega arith, omega arith) (λ p _. rises_fields b fs x e (suc q) p))

  rises_choice : (b : ℕ → ℕ) (fs : Alts) (i : ℕ) (x : Ctx) (e at : ℕ) → Rises at (read_choice fs i x b e at)
  rises_choice b none_left i x e at = omega arith
  rises_choice b (f ∥ fs) zero x e at = rises b f x e at
  rises_choice b (f ∥ fs) (suc i) x e at = rises_choice b fs i x e at

---------------------------------------------------------------- frames

-- an accepted frame's places rise from its first bit to its reach, which is within the frame
abbrev Climbs : ℕ → Reply → Type 0
Climbs e (accept c p m R) = Rising 0 R p × (p ≤ e)
Climbs e (ran_out p k) = p ≤ e
Climbs e (badly p) = p ≤ e
Climbs e (unsupplied p) = p ≤ e

climbs_reply : (e : ℕ) (a : Ans) → Rises 0 a → reach a ≤ e → Climbs e (reply a)
unfolding reply stopped tells reach
climbs_reply e (ok p R m) h l = (h, l)
climbs_reply e (past k p R m) h l = (h, l)
climbs_reply e (stop (out k) p R m) h l = l
climbs_reply e (stop bad p R m) h l = l
climbs_reply e (stop lack p R m) h l = l
climbs_reply e (stop (quit o j k) p R m) h l = (h, l)

climbs_frame : (f : Fmt) (s : List ℕ) → Climbs (length s * 8) (read_frame f s)
unfolding read_frame
climbs_frame f s = climbs_reply (length s * 8) _ (rises (bit_of s) f (0, 0) (length s * 8) 0) (in_window (bit_of s) f (0, 0) (length s * 8) 0 (omega arith))

climbs_else : (e : ℕ) (d u : Reply) → Climbs e d → Climbs e u → Climbs e (or_else d u)
unfolding or_else after_bad after_out
climbs_else e (accept c p m R) u h g = h
climbs_else e (unsupplied p) u h g = h
climbs_else e (badly p) (accept c q m R) h g = (rising_to 0 q (max p q) R (omega arith) g.0, omega (arith, g.1))
climbs_else e (badly p) (ran_out q l) h g = omega arith
climbs_else e (badly p) (badly q) h g = omega arith
climbs_else e (badly p) (unsupplied q) h g = omega arith
climbs_else e (ran_out p k) (accept c q m R) h g = (rising_to 0 q (max p q) R (omega arith) g.0, omega (arith, g.1))
climbs_else e (ran_out p k) (ran_out q l) h g = omega arith
climbs_else e (ran_out p k) (badly q) h g = omega arith
climbs_else e (ran_out p k) (unsupplied q) h g = omega arith

module _ (s : List ℕ) {cut : Bool} {p m : ℕ} {R : List Rec} where
  -- "For one frame the fifth words never fall from one record to the next": of every format, so of `parse_pdus`, `parse_cm` and `parse_acse_apdu`
  pub frame_rising : (f : Fmt) → read_frame f s ≡ accept cut p m R → Rising 0 R p × (p ≤ length s * 8)
  frame_rising f h = rw h at (climbs_frame f s)

  -- and of `parse_apdu`, whose records are those of one of its two readings
  pub apdu_rising : (down up : Fmt) → or_else (read_frame down s) (read_frame up s) ≡ accept cut p m R → Rising 0 R p × (p ≤ length s * 8)
  apdu_rising down up h = rw h at (climbs_else (length s * 8) (read_frame down s) (read_frame up s) (climbs_frame down s) (climbs_frame up s))
