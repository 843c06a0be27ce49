-- Lengths, normally small numbers, and bits passed over, from the bits that were pulled for them.
use mathlib.Core.Path.{◌≡◌, refl, sym, ap, ◌∙◌}
use mathlib.Core.Bool.{Bool, true, false, cond}
use mathlib.Core.Logic.{◌⊎◌, inl, inr}
use mathlib.Core.List.{List, [], ◌∷◌}
use Prim.Native.Nat.{ℕ, zero, suc, ◌+◌, ◌-◌, ◌*◌, ◌%◌, ◌^◌, ◌≤◌, ◌<◌}
use native.Mathlib.Nat.{zero-add, add_assoc, mod-eq_of_lt}
use native.Mathlib.Omega.{arith}
use lib.ListN.{length}
use lib.Dec.{leb, eqb}
use lib.Pow.{low, pow_pos}
use borrow.Author.Tests.{le-leb, lt-leb}
use Rattle.x691.specs.Bits.{bit_of, uint}
use Rattle.per.proofs.Laws.{uint-below, uint-below-wide, uint-split}
use Rattle.atn.specs.Format.{out, bad, any_span, skipped, small}
use Rattle.atn.specs.Reading.{Rec, rec, Ans, ok, stop, then, fork, guard, or, word, spanned, unless, mark, pull, long, fragment, lengths, length_then, read}
use Rattle.atn.specs.Reading.{short as short_form}
use Rattle.cursor.specs.declared.place.Cursor.{Cursor}
use Rattle.cursor.specs.declared.place.Got.{Got}
use Rattle.length_determinants.specs.declared.Head.{Head}
use Rattle.length_determinants.specs.declared.Head.TheVariants.{Last, Part}
use Rattle.cursor.specs.Place.{number, put, stopped, marked, Inside, Pulled, stuck, short, got, Pulls, Led, stayed, went, failed, Reads, Takes}
use Rattle.length_determinants.specs.Lengths.{Passes, Known, Ends, GoesOn, Heads, Sums, Measures, Worth, small_then, Smalls}
use Rattle.cursor.proofs.Laws.{led_inside, led_stays, reads_same, reads_then, reads_ok, reads_stop, Behind, pull-then, marked-nil, stopped_stops}
use Rattle.cursor.proofs.FormatLaws.{reads_going}

---------------------------------------------------------------- steps of a reading

module _ {s : List ℕ} {c d : Cursor} {R : List Rec} where
  -- where it is led is in the same window
  pub reads_inside : (k : ℕ → ℕ → Ans) → Reads k s c d R → Inside s c → Inside s d × (d.end ≡ c.end)
  reads_inside k r i = (led_inside k s c d (r.led i) i, go (r.led i))
    where
      go : Led k c d R → d.end ≡ c.end
      go (stayed h e) = ap (λ (x : Cursor). x.end) e
      go (went p m z a h e) = ap (λ (x : Cursor). x.end) e
      go (failed w p m S n z a h e) = ap (λ (x : Cursor). x.end) e

  -- a bit that is clear, or set
  pub reads_clear : (x : ℕ) (k l : ℕ → ℕ → Ans) → x ≡ 0 → Reads k s c d R → Reads (λ u p. fork x (k u p) (l u p)) s c d R
  unfolding fork
  reads_clear x k l z r = reads_same k (λ u p. fork x (k u p) (l u p)) (rw z) r

  pub reads_set : (x : ℕ) (k l : ℕ → ℕ → Ans) → (x ≡ 0 → ⊥) → Reads l s c d R → Reads (λ u p. fork x (k u p) (l u p)) s c d R
  unfolding fork
  reads_set zero k l z r = absurd (z refl)
  reads_set (suc x) k l z r = r

  -- a test that holds, or refuses
  pub reads_pass : (t : Bool) (m : ℕ) (k : ℕ → ℕ → Ans) → t ≡ true → Reads k s c d R → Reads (λ u p. guard t p m (k u p)) s c d R
  unfolding guard
  reads_pass t m k z r = reads_same k (λ u p. guard t p m (k u p)) (rw z) r

  pub reads_refuse : (t : Bool) (m : ℕ) (k : ℕ → ℕ → Ans) → t ≡ false → d ≡ stopped c 5 m → Reads (λ u p. guard t p m (k u p)) s c d R
  unfolding guard
  reads_refuse t m k z q = reads_same (λ u p. stop bad p [] m) (λ u p. guard t p m (k u p)) (rw z) (reads_stop bad m (λ x. omega arith) q)

  -- a mark, and what follows
  pub reads_mark : {e : Cursor} (m : ℕ) (k : ℕ → ℕ → Ans) → e ≡ marked c m → Reads k s e d R → Reads (λ u p. then (ok p [] m) (λ q. k u q)) s c d R
  reads_mark m k q r = reads_then (λ u p. ok p [] m) k (reads_ok [] m q) r

---------------------------------------------------------------- marks and stops

marked-place : (c : Cursor) (m : ℕ) → ((marked c m).at ≡ c.at) × ((marked c m).end ≡ c.end)
unfolding marked stopped
marked-place c m = go (eqb c.why 0)
  where
    go : (t : Bool) → let r : Cursor = cond t (put c c.at 0 (or c.marks m)) c in (r.at ≡ c.at) × (r.end ≡ c.end)
    go true = (refl, refl)
    go false = (refl, refl)

-- behind a stop nothing is read
reads_stays : {s : List ℕ} {c d e : Cursor} {R : List Rec} (k l : ℕ → ℕ → Ans) → (d.why ≡ 0 → ⊥) → Reads k s c d R → Reads l s d e R → Reads k s c e R
reads_stays {s} {c} {d} {e} k l h x y = record { led = λ i. rw (led_stays l d e h (y.led (led_inside k s c d (x.led i) i))) (x.led i) }

---------------------------------------------------------------- bits that were pulled

-- a reading that goes on behind n bits came through them
record Through (s : List ℕ) (c : Cursor) (n : ℕ) (g : Got ℕ) : Type 0 where
  pub goes : c.why ≡ 0
  pub place : g.c.at ≡ c.at + n
  pub window : g.c.end ≡ c.end
  pub room : c.at + n ≤ c.end
  pub worth : g.v ≡ uint (bit_of s) c.at n

module _ {s : List ℕ} {c : Cursor} {n : ℕ} {g : Got ℕ} where
  inside-behind : Inside s c → Pulled s c n g → Inside s g.c
  inside-behind i (stuck h q) = rw q i
  inside-behind i (short z l q) = rw q i
  inside-behind i (got z l v q) = rw q (l, i.1)

  through : Pulled s c n g → g.c.why ≡ 0 → Through s c n g
  through (stuck h q) z = absurd (h (rw q at z))
  through (short y l q) z = absurd (let x : number (out (c.at + n - c.end)) ≡ 0 = rw q at z in omega arith)
  through (got y l v q) z = record { goes = y; place = rw q; window = rw q; room = l; worth = v }

  -- where they are not there any number will do
  other_none : (v : ℕ) → (g.c.why ≡ 0 → ⊥) → Pulls s c n g → Pulls s c n (record { v = v; c = g.c })
  other_none v h x = record { gave = λ i. go (x.gave i) }
    where
      go : Pulled s c n g → Pulled s c n (record { v = v; c = g.c })
      go (stuck y q) = stuck y q
      go (short z l q) = short z l q
      go (got z l w q) = absurd (h (rw q refl))

  pub known-none : (g.c.why ≡ 0 → ⊥) → Pulls s c n g → Known s c n (record { v = 0; c = g.c })
  known-none h x = record { pulls = other_none 0 h x; below = λ i. pow_pos n; there = λ l. absurd (omega arith) }

  pub known_some : g.c.why ≡ 0 → Pulls s c n g → Known s c n g
  known_some z x = record { pulls = x; below = λ i. rw (through (x.gave i) z).worth (uint-below s c.at n); there = λ l. z }

---------------------------------------------------------------- bits passed over

module _ (c : Cursor) (n : ℕ) where
  pub passes_stuck : (c.why ≡ 0 → ⊥) → Passes c n c
  passes_stuck h = record { pulls = λ s. record { gave = λ i. stuck h refl }; moved = λ z. absurd (h z) }

  pub passes_over : c.why ≡ 0 → c.at ≤ c.end → n ≤ c.end - c.at → Passes c n (put c (c.at + n) 0 c.marks)
  passes_over z a l = record { pulls = λ s. record { gave = λ i. got z (omega arith) refl refl }; moved = λ _. refl }

  pub passes-short : {w : ℕ} → c.why ≡ 0 → c.at ≤ c.end → c.end - c.at < n → w ≡ number (out (n - (c.end - c.at))) → Passes c n (put c c.at w c.marks)
  passes-short z a l q =
      let e : n - (c.end - c.at) ≡ c.at + n - c.end = omega arith in
      record { pulls = λ s. record { gave = λ i. short z (omega arith) (ap (λ (x : ℕ). put c c.at x c.marks) (q ∙ rw e)) }; moved = λ y. omega arith }

  pub passes_off : c.end < c.at → Passes c n (put c c.at 4 c.marks)
  passes_off l = record { pulls = λ s. record { gave = λ i. absurd (omega (arith, i.0)) }; moved = λ z. omega arith }

module _ {s : List ℕ} {c r : Cursor} {n : ℕ} {R : List Rec} (x : Passes c n r) where
  pub passes_then : {d : Cursor} (k : ℕ → ℕ → Ans) → Reads k s r d R → Reads (λ u p. pull (bit_of s) u p n (λ _. k u (p + n))) s c d R
  passes_then k y = pull-then n (record { v = uint (bit_of s) c.at n; c = r }) (λ _ u p. k u p) (x.pulls s) y

  -- nothing more is read
  pub passes_ok : Reads (λ u p. pull (bit_of s) u p n (λ _. ok (p + n) R 0)) s c r R
  passes_ok = passes_then (λ u p. ok p R 0) (reads_ok R 0 (marked-nil r))

---------------------------------------------------------------- one length

module _ (s : List ℕ) (k : ℕ → ℕ → ℕ → Ans) where
  abbrev long_form : ℕ → ℕ → ℕ → Ans
  long_form n u p = then (ok p [] (unless (leb 128 n) 5)) (λ q. k n u q)

  abbrev fragment_form : ℕ → ℕ → ℕ → ℕ → Ans
  fragment_form g m u p = guard (leb 1 m) p 0 (guard (leb m 4) p 0 (then (ok p [] (mark 5)) (λ q. lengths g (bit_of s) u q (λ n r. k (m * 16384 + n) u r))))

  abbrev many_form : ℕ → ℕ → ℕ → ℕ → Ans
  many_form g y u p = fork y (Behind s 14 long_form u p) (Behind s 6 (fragment_form g) u p)

  abbrev any_form : ℕ → ℕ → ℕ → ℕ → Ans
  any_form g x u p = fork x (Behind s 7 k u p) (Behind s 1 (many_form g) u p)

  -- each part of a length stands behind the one before
  forms-lengths : (g u p : ℕ) → Behind s 1 (any_form g) u p ≡ lengths (suc g) (bit_of s) u p (λ n q. k n u q)
  unfolding lengths short_form long fragment
  forms-lengths g u p =
      let e₁ : p + 1 + 7 ≡ p + 8 = omega arith in
      let e₂ : p + 1 + 1 ≡ p + 2 = omega arith in
      let e₃ : p + 2 + 14 ≡ p + 16 = omega arith in
      let e₄ : p + 2 + 6 ≡ p + 8 = omega arith in
      simp (e₁, e₂, e₃, e₄)

module _ {s : List ℕ} {c : Cursor} (i : Inside s c) {form : Got ℕ} (a : Pulls s c 1 form) where
  there : Inside s form.c
  there = inside-behind i (a.gave i)

  headed : (k : ℕ → ℕ → ℕ → Ans) (g : ℕ) {e : Cursor} {R : List Rec} → Reads (λ u p. any_form s k g form.v u p) s form.c e R → Reads (λ u p. lengths (suc g) (bit_of s) u p (λ n q. k n u q)) s c e R
  headed k g r = reads_same (Behind s 1 (any_form s k g)) _ (forms-lengths s k g c.end c.at) (pull-then 1 form (any_form s k g) a r)

  pub head_short : {n : Got ℕ} → form.v ≡ 0 → Known s form.c 7 n → Ends s c n.v n.c
  head_short {n} z h =
      record {
        then = λ k g r. headed k g (reads_clear form.v (Behind s 7 k) (Behind s 1 (many_form s k g)) z (pull-then 7 n k h.pulls r));
        few = omega (arith, h.below there);
      }

  module _ (set : form.v ≡ 0 → ⊥) {more : Got ℕ} (b : Pulls s form.c 1 more) where
    beyond : Inside s more.c
    beyond = inside-behind there (b.gave there)

    headed-set : (k : ℕ → ℕ → ℕ → Ans) (g : ℕ) {e : Cursor} {R : List Rec} → Reads (λ u p. many_form s k g more.v u p) s more.c e R → Reads (λ u p. lengths (suc g) (bit_of s) u p (λ n q. k n u q)) s c e R
    headed-set k g r = headed k g (reads_set form.v (Behind s 7 k) (Behind s 1 (many_form s k g)) set (pull-then 1 more (many_form s k g) b r))

    pub head_long : {n : Got ℕ} {d : Cursor} → more.v ≡ 0 → Known s more.c 14 n → d ≡ marked n.c (unless (leb 128 n.v) 5) → Ends s c n.v d
    head_long {n} z h q =
        record {
          then = λ k g r. headed-set k g (reads_clear more.v (Behind s 14 (long_form s k)) (Behind s 6 (fragment_form s k g)) z (pull-then 14 n (long_form s k) h.pulls (reads_mark _ (k n.v) q r)));
          few = omega (arith, h.below beyond);
        }

    module _ (also : more.v ≡ 0 → ⊥) {m : Got ℕ} (h : Known s more.c 6 m) where
      multiplied : (k : ℕ → ℕ → ℕ → Ans) (g : ℕ) {e : Cursor} {R : List Rec} → Reads (λ u p. fragment_form s k g m.v u p) s m.c e R → Reads (λ u p. lengths (suc g) (bit_of s) u p (λ n q. k n u q)) s c e R
      multiplied k g r = headed-set k g (reads_set more.v (Behind s 14 (long_form s k)) (Behind s 6 (fragment_form s k g)) also (pull-then 6 m (fragment_form s k g) h.pulls r))

      pub head_part : {d : Cursor} → 1 ≤ m.v → m.v ≤ 4 → d ≡ marked m.c 16 → GoesOn s c (m.v * 16384) d
      unfolding mark
      head_part {d} l u q =
          let t₁ = through (h.pulls.gave beyond) (h.there l) in
          let t₂ = through (b.gave there) t₁.goes in
          let t₃ = through (a.gave i) t₂.goes in
          let w = marked-place m.c 16 in
          let p : d.at ≡ c.at + 1 + 1 + 6 = ap (λ (x : Cursor). x.at) q ∙ w.0 ∙ t₁.place ∙ rw (t₂.place, t₃.place) in
          let e : d.end ≡ c.end = ap (λ (x : Cursor). x.end) q ∙ w.1 ∙ t₁.window ∙ rw (t₂.window, t₃.window) in
          record {
            then = λ k g r. multiplied k g (reads_pass _ 0 _ (le-leb 1 m.v l) (reads_pass _ 0 _ (le-leb m.v 4 u) (reads_mark 16 _ q r)));
            few = omega arith;
            inside = (omega (arith, t₁.room, t₁.window, t₂.place, t₂.window, t₃.place, t₃.window), omega (arith, i.1));
            window = e;
            ahead = omega arith;
          }

      pub head_bad : {d : Cursor} → (m.v < 1) ⊎ (4 < m.v) → d ≡ stopped m.c 5 0 → Ends s c 0 d
      head_bad {d} o q = record { then = λ k g r. reads_stays _ _ (stopped_stops m.c 5 0 (λ z. omega arith) q) (multiplied k g (go o k g)) r; few = omega arith }
        where
          go : (m.v < 1) ⊎ (4 < m.v) → (k : ℕ → ℕ → ℕ → Ans) (g : ℕ) {R : List Rec} → Reads (λ u p. fragment_form s k g m.v u p) s m.c d R
          go (inl l) k g = reads_refuse _ 0 _ (lt-leb 1 m.v l) q
          go (inr l) k g = reads_pass _ 0 _ (le-leb 1 m.v (omega arith)) (reads_refuse _ 0 _ (lt-leb m.v 4 l) q)

---------------------------------------------------------------- lengths in a row

module _ {s : List ℕ} {c d : Cursor} {n : ℕ} {h : Head} where
  pub told_last : h ≡ Last n d → Heads s c h → Ends s c n d
  told_last q x = rw q at x

  pub told_part : h ≡ Part n d → Heads s c h → GoesOn s c n d
  told_part q x = rw q at x

module _ {s : List ℕ} {c d : Cursor} {n sum : ℕ} (i : Inside s c) where
  pub sums_last : length s ≤ 65536 → sum ≤ c.at * 8192 → Ends s c n d → Sums s c sum (record { v = sum + n; c = d })
  sums_last l b h = record { then = λ k g. go k g; few = omega (arith, i.0, i.1, h.few) }
    where
      go : (k : ℕ → ℕ → ℕ → Ans) (g : ℕ) {e : Cursor} {R : List Rec} → c.end < c.at + g * 8 → Reads (λ u p. k (sum + n) u p) s d e R → Reads (λ u p. lengths g (bit_of s) u p (λ m q. k (sum + m) u q)) s c e R
      go k zero f r = absurd (omega (arith, i.0))
      go k (suc g) f r = h.then (λ m u p. k (sum + m) u p) g r

  -- the fragment takes one of the lengths that the bound allows
  pub sums_part : {r : Got ℕ} → GoesOn s c n d → Sums s d (sum + n) r → Sums s c sum r
  sums_part {r} h x = record { then = λ k g. go k g; few = x.few }
    where
      go : (k : ℕ → ℕ → ℕ → Ans) (g : ℕ) {e : Cursor} {R : List Rec} → c.end < c.at + g * 8 → Reads (λ u p. k r.v u p) s r.c e R → Reads (λ u p. lengths g (bit_of s) u p (λ m q. k (sum + m) u q)) s c e R
      go k zero f y = absurd (omega (arith, i.0))
      go k (suc g) f y = h.then (λ m u p. k (sum + m) u p) g (simp add_assoc at (x.then k g (omega (arith, h.window, h.ahead)) y))

module _ {s : List ℕ} {c : Cursor} where
  pub measures_in : {r : Got ℕ} → length s ≤ 65536 → c.end ≤ length s * 8 → Sums s c 0 r → Measures s c r
  unfolding length_then
  measures_in l e x = record { then = λ k y. simp zero-add at (x.then k 65537 (omega arith) y); few = x.few }

  -- outside the window, or the frame, nothing is owed
  measures_where : {r : Got ℕ} → r.v ≤ 2 ^ 33 → (Inside s c → Measures s c r) → Measures s c r
  measures_where f h = record { then = λ k y. record { led = λ i. ((h i).then k y).led i }; few = f }

  measures_out : (Inside s c → ⊥) → Measures s c (record { v = 0; c = c })
  measures_out h = measures_where (omega arith) (λ i. absurd (h i))

  pub measures_off : c.end < c.at → Measures s c (record { v = 0; c = c })
  measures_off l = measures_out (λ i. omega (arith, i.0))

  pub measures_lost : length s * 8 < c.end → Measures s c (record { v = 0; c = c })
  measures_lost l = measures_out (λ i. omega (arith, i.1))

  -- eight bits below 128 are a bit that is clear and seven bits
  pub measures_short : {g : Got ℕ} → Pulls s c 8 g → g.c.why ≡ 0 → g.v < 128 → Measures s c (record { v = g.v; c = g.c })
  unfolding length_then
  measures_short {g} x z l = measures_where (omega arith) (λ i. go i (x.gave i))
    where
      go : Inside s c → Pulled s c 8 g → Measures s c (record { v = g.v; c = g.c })
      go i (stuck h q) = absurd (h (rw q at z))
      go i (short y o q) = absurd (let w = rw q at z in omega arith)
      go i (got y o v q) =
          let e : uint (bit_of s) c.at 8 ≡ uint (bit_of s) c.at 1 * 2 ^ 7 + uint (bit_of s) (c.at + 1) 7 = uint-split (bit_of s) c.at 1 7 in
          let form : Got ℕ = record { v = uint (bit_of s) c.at 1; c = put c (c.at + 1) 0 c.marks } in
          let a : Pulls s c 1 form = record { gave = λ _. got y (omega arith) refl refl } in
          let b : Pulls s form.c 7 g = record { gave = λ _. got refl (omega arith) (omega arith) (q ∙ ap (λ (p : ℕ). put c p 0 c.marks) (omega arith)) } in
          let h : Ends s c g.v g.c = head_short i a (omega arith) (record { pulls = b; below = λ _. omega arith; there = λ _. z }) in
          record { then = λ k r. h.then k 65536 r; few = omega arith }

  -- the cursor behind a length stands in the same window
  pub measures_inside : {r : Got ℕ} → Measures s c r → Inside s c → Inside s r.c × (r.c.end ≡ c.end)
  measures_inside {r} x i = reads_inside _ (x.then (λ n u p. ok p [] 0) (reads_ok [] 0 (marked-nil r.c))) i

---------------------------------------------------------------- the normally small number

-- of a long number only the last 64 bits count in its word
word_last : (s : List ℕ) (at n : ℕ) → 64 ≤ n → word (uint (bit_of s) at n) ≡ uint (bit_of s) (at + (n - 64)) 64
unfolding word
word_last s at n l =
    let e : n ≡ n - 64 + 64 = omega arith in
    ap (λ (m : ℕ). uint (bit_of s) at m % 2 ^ 64) e ∙ rw (uint-split (bit_of s) at (n - 64) 64) (low (uint (bit_of s) at (n - 64)) 64 (uint-below s (at + (n - 64)) 64))

module _ {s : List ℕ} {c : Cursor} {n : ℕ} where
  -- passed over, and worth so much where they are there
  worth_of : {g : Got ℕ} → Pulls s c n (record { v = uint (bit_of s) c.at n; c = g.c }) → (Inside s c → g.c.why ≡ 0 → g.v ≡ word (uint (bit_of s) c.at n)) → Worth s c n g
  worth_of {g} x h =
      record {
        then = λ k r.
            record {
              led = λ i.
                  (pull-then n (record { v = uint (bit_of s) c.at n; c = g.c }) (λ v u p. k (word v) u p) x
                  (reads_going (k g.v) (k (word (uint (bit_of s) c.at n))) (λ z. rw (h i z)) r)).led i;
            };
      }

  pub worth_few : {g : Got ℕ} → n ≤ 64 → Pulls s c n g → Worth s c n g
  unfolding word
  worth_few {g} l x = worth_of (record { gave = λ i. same (x.gave i) }) (λ i z. (through (x.gave i) z).worth ∙ sym (mod-eq_of_lt (uint-below-wide 64 s c.at n l)))
    where
      same : Pulled s c n g → Pulled s c n (record { v = uint (bit_of s) c.at n; c = g.c })
      same (stuck h q) = stuck h q
      same (short z y q) = short z y q
      same (got z y v q) = got z y refl q

  module _ {d : Cursor} (x : Passes c n d) where
    pub worth_none : (d.why ≡ 0 → ⊥) → Worth s c n (record { v = 0; c = d })
    worth_none h = worth_of (x.pulls s) (λ i z. absurd (h z))

    module _ (z : d.why ≡ 0) (m : 64 < n) where
      pub worth_lost : d.at < 64 → Worth s c n (record { v = 0; c = d })
      worth_lost l = worth_of (x.pulls s) (λ i _. absurd (let p = (through ((x.pulls s).gave i) z).place in omega arith))

      pub worth_last : {g : Got ℕ} → 64 ≤ d.at → Pulls s (put d (d.at - 64) 0 d.marks) 64 g → Worth s c n g
      worth_last {g} l y =
          worth_of (record { gave = λ i. rw (eight (inside-behind i ((x.pulls s).gave i))).0 ((x.pulls s).gave i) })
          (λ i _.
          let p : d.at ≡ c.at + n = (through ((x.pulls s).gave i) z).place in
          let e : d.at - 64 ≡ c.at + (n - 64) = omega arith in
          (eight (inside-behind i ((x.pulls s).gave i))).1 ∙ rw e (sym (word_last s c.at n (omega arith))))
        where
          home : put d (d.at - 64 + 64) 0 d.marks ≡ d
          home = let e : d.at - 64 + 64 ≡ d.at = omega arith in rw e (ap (λ (w : ℕ). put d d.at w d.marks) (sym z))

          eight : Inside s d → (g.c ≡ d) × (g.v ≡ uint (bit_of s) (d.at - 64) 64)
          eight j = go (y.gave (omega (arith, j.0), j.1))
            where
              go : Pulled s (put d (d.at - 64) 0 d.marks) 64 g → (g.c ≡ d) × (g.v ≡ uint (bit_of s) (d.at - 64) 64)
              go (stuck h q) = absurd (h refl)
              go (short _ o q) = absurd (omega (arith, j.0))
              go (got _ o v q) = (q ∙ home, v)

module _ {s : List ℕ} {c : Cursor} {form : Got ℕ} (a : Pulls s c 1 form) where
  module _ (k : ℕ → ℕ → ℕ → Ans) where
    abbrev octets_form : ℕ → ℕ → Ans
    octets_form u p = length_then (bit_of s) u p (λ n q. pull (bit_of s) u q (n * 8) (λ v. k (word v) u (q + n * 8)))

    abbrev small_form : ℕ → ℕ → ℕ → Ans
    small_form y u p = fork y (Behind s 6 k u p) (octets_form u p)

    begun : {d : Cursor} {R : List Rec} → Reads (λ u p. small_form form.v u p) s form.c d R → Reads (λ u p. small_then (bit_of s) u p (λ v q. k v u q)) s c d R
    unfolding small_then
    begun r = reads_same (Behind s 1 small_form) _ (let e : c.at + 1 + 6 ≡ c.at + 7 = omega arith in simp e) (pull-then 1 form small_form a r)

  pub smalls_six : {g : Got ℕ} → form.v ≡ 0 → Pulls s form.c 6 g → Smalls s c g
  smalls_six {g} z x = record { then = λ k r. begun k (reads_clear form.v (Behind s 6 k) (octets_form k) z (pull-then 6 g k x r)) }

  pub smalls_octets : {l : Got ℕ} {g : Got ℕ} → (form.v ≡ 0 → ⊥) → Measures s form.c l → Worth s l.c (l.v * 8) g → Smalls s c g
  smalls_octets h x w = record { then = λ k r. begun k (reads_set form.v (Behind s 6 k) (octets_form k) h (x.then (λ n u p. pull (bit_of s) u p (n * 8) (λ v. k (word v) u (p + n * 8))) (w.then k r))) }

---------------------------------------------------------------- formats

module _ {s : List ℕ} {c d : Cursor} where
  -- the caller marks, and reads the number
  pub takes_small : (m t : ℕ) {g : Got ℕ} → d ≡ marked c (mark m) → Smalls s d g → Takes (small m t) s c g.c (λ n. rec t n g.v 0 d.at ∷ [])
  unfolding read small_then
  takes_small m t {g} q x = record { took = λ y. reads_mark (mark m) _ q (reads_same (λ u p. small_then (bit_of s) u p (λ v q. ok q (rec t y.0 v 0 d.at ∷ []) 0)) _ refl (x.then (λ v u p. ok p (rec t y.0 v 0 d.at ∷ []) 0) (reads_ok _ 0 (marked-nil g.c)))) }

  -- the caller marks, measures and passes over
  pub takes_skipped : (m : ℕ) {l : Got ℕ} {r : Cursor} → d ≡ marked c (mark m) → Measures s d l → Passes l.c (l.v * 8) r → Takes (skipped m) s c r (λ n. [])
  unfolding read
  takes_skipped m q x y = record { took = λ _. reads_mark (mark m) _ q (x.then (λ n u p. pull (bit_of s) u p (n * 8) (λ _. ok (p + n * 8) [] 0)) (passes_ok y)) }

-- the caller measures and passes over, and tells the span
pub takes_any_span : {s : List ℕ} {c : Cursor} (t w : ℕ) {l : Got ℕ} {r : Cursor} → Measures s c l → Passes l.c (l.v * w) r → Takes (any_span t w) s c r (λ n. spanned t n c.at l.c.at (l.v * w))
unfolding read
takes_any_span {s} {c} t w {l} {r} x y =
    record { took = λ z. reads_same (λ u p. length_then (bit_of s) u p (λ n q. pull (bit_of s) u q (n * w) (λ _. ok (q + n * w) (spanned t z.0 c.at q (n * w)) 0))) _ refl (x.then (λ n u p. pull (bit_of s) u p (n * w) (λ _. ok (p + n * w) (spanned t z.0 c.at p (n * w)) 0)) (reads_same _ _ refl (passes_ok y))) }
