-- Texts: a size and what follows it, characters that are passed over, and digits one after another.
use mathlib.Core.Path.{◌≡◌, refl, sym, ap, ◌∙◌}
use mathlib.Core.Bool.{Bool, true, false, true≢false, false≢true}
use mathlib.Core.List.{List, [], ◌∷◌}
use Prim.Native.Nat.{ℕ, zero, suc, ◌+◌, ◌-◌, ◌*◌, ◌/◌, ◌%◌, ◌^◌, ◌≤◌, ◌<◌}
use native.Mathlib.Nat.{zero-add, zero-mul, add-zero, suc-add, mod-eq_of_lt}
use native.Mathlib.Omega.{arith}
use lib.ListN.{length}
use lib.Dec.{leb, ltb}
use borrow.Author.Tests.{leb-true, leb-false, lt-ltb, le-ltb, le-leb, lt-leb, ne_eqb}
use Rattle.x691.specs.Bits.{bit_of, uint}
use Rattle.x691.specs.Types.{extent}
use Rattle.x691.specs.Encoding.{width, width_in}
use Rattle.per.proofs.Laws.{uint-below, uint-below-wide}
use Rattle.per.proofs.Widths.{width-le}
use Rattle.atn.specs.Format.{text, first, numeric, out}
use Rattle.atn.specs.Reading.{Rec, Ctx, Ans, ok, past, stop, glue, then, mark, unless, over, sized, letters, units, coded, lettered, pack, read}
use Rattle.atn.proofs.Marks.{or_nil}
use Rattle.atn.proofs.Steps.{pull_go, pull_no, then-nil}
use Rattle.atn.proofs.Then.{glue-then}
use Rattle.cursor.specs.declared.place.Cursor.{Cursor}
use Rattle.cursor.specs.declared.place.Got.{Got}
use Rattle.field_ranges.specs.declared.table.Range.{Range}
use Rattle.character_strings.specs.declared.Text.{Text}
use Rattle.cursor.specs.Place.{number, put, stopped, marked, Inside, Pulled, stuck, short, got, Pulls, Led, stayed, went, failed, Reads}
use Rattle.field_ranges.specs.Ranges.{width_of}
use Rattle.field_ranges.specs.Ends.{lowest, highest}
use Rattle.character_strings.specs.Texts.{text_recs, channel_recs, InFrame, SizeRow, Texts, Channel, Sized, Ahead, Passed, Digits}
use Rattle.field_ranges.proofs.RowLaws.{lowest_of, highest_of}
use Rattle.cursor.proofs.Laws.{reads_then, reads_same, reads_ok, pull-then, marked-nil}

---------------------------------------------------------------- a size

-- of eight bits at most, what was read is its own remainder
clipped : {s : List ℕ} {c : Cursor} {n : ℕ} {g : Got ℕ} → n ≤ 8 → Pulls s c n g → Pulls s c n (record { v = g.v % 256; c = g.c })
clipped {s} {c} {n} {g} h p = record { gave = λ i. go (p.gave i) }
  where
    go : Pulled s c n g → Pulled s c n (record { v = g.v % 256; c = g.c })
    go (stuck x q) = stuck x q
    go (short z l q) = short z l q
    go (got z l v q) = got z l (mod-eq_of_lt (rw v (uint-below-wide 8 s c.at n h)) ∙ v) q

module _ {s : List ℕ} {c : Cursor} (g : Got ℕ) where
  sized-then : {d f : Cursor} {R : List Rec} (lo hi : ℕ) (K : ℕ → ℕ → ℕ → Ans) → Pulls s c (width (hi - lo)) g → d ≡ marked g.c (over hi (lo + g.v)) → Reads (λ e p. K (lo + g.v) e p) s d f R
      → Reads (λ e p. sized (bit_of s) e p lo hi (λ n q. K n e q)) s c f R
  unfolding sized
  sized-then lo hi K p q r = pull-then (width (hi - lo)) g (λ v e z. then (ok z [] (over hi (lo + v))) λ y. K (lo + v) e y) p (reads_then _ _ (reads_ok [] _ q) r)

module _ {r : Range} (z : SizeRow r) where
  ends : (r.lo ≡ lowest r.row) × (r.hi ≡ highest r.row)
  ends = (sym (lowest_of z.listed), sym (highest_of z.listed))

  pub size-lowest : r.lo ≤ 256
  size-lowest = omega (arith, z.ordered, z.most)

  -- none of the row's sizes is below zero
  plain : extent r.lo r.hi ≡ highest r.row - lowest r.row
  unfolding extent
  plain = rw (← ends.0, ← ends.1) (omega (arith, z.ordered, z.most))

  narrow : width_of r ≤ 8
  unfolding extent
  narrow = width-le 8 _ (omega (arith, z.some, z.ordered, z.most))

  pulled : {s : List ℕ} {c : Cursor} (g : Got ℕ) → Pulls s c (width_of r) g → Pulls s c (width (highest r.row - lowest r.row)) (record { v = g.v % 256; c = g.c })
  pulled g p = rw plain at (clipped narrow p)

  pub size_in : {s : List ℕ} {c : Cursor} {v : ℕ} (g : Got ℕ) → Pulls s c (width_of r) g → v ≡ r.lo + g.v % 256 → v ≤ r.hi → Sized r.row s c (record { v = v; c = g.c })
  unfolding over unless
  size_in {v = v} g p q l =
      let w : v ≡ lowest r.row + g.v % 256 = rw ends.0 at q in
      let n : leb (lowest r.row + g.v % 256) (highest r.row) ≡ true = rw (← w, ← ends.1) (le-leb v _ l) in
      record {
        size = λ K y. sized-then _ (lowest r.row) (highest r.row) K (pulled g p) (marked-nil g.c ∙ rw n) (rw w at y);
        least = omega (arith, w);
        few = omega (arith, z.ordered, z.most);
      }

  pub size-over : {s : List ℕ} {c d : Cursor} {v : ℕ} (g : Got ℕ) → Pulls s c (width_of r) g → v ≡ r.lo + g.v % 256 → r.hi < v → d ≡ marked g.c 1 → Sized r.row s c (record { v = v; c = d })
  unfolding over unless mark
  size-over {v = v} g p q l e =
      let w : v ≡ lowest r.row + g.v % 256 = rw ends.0 at q in
      let n : leb (lowest r.row + g.v % 256) (highest r.row) ≡ false = rw (← w, ← ends.1) (lt-leb v _ l) in
      record {
        size = λ K y. sized-then _ (lowest r.row) (highest r.row) K (pulled g p) (e ∙ rw n) (rw w at y);
        least = omega (arith, w);
        few = omega (arith, z.ordered, z.most);
      }

---------------------------------------------------------------- whether bits are ahead

module _ {s : List ℕ} {c : Cursor} {n : ℕ} where
  pub not-ahead : (Inside s c → c.why ≡ 0 → c.end < c.at + n) → Ahead s c n false
  not-ahead h = record { goes = λ q. absurd (false≢true q); room = λ q. absurd (false≢true q); held = λ q. absurd (false≢true q); short = λ _ i z. h i z }

  pub ahead-held : {t : Bool} → c.why ≡ 0 → c.at ≤ c.end → n ≤ c.end - c.at → t ≡ leb c.end (length s * 8) → Ahead s c n t
  ahead-held {t} z l r h =
      record {
        goes = λ q. z;
        room = λ q. omega arith;
        held = λ q. leb-true c.end (length s * 8) (sym h ∙ q);
        short = λ q i _. absurd (omega (arith, leb-false c.end (length s * 8) (sym h ∙ q), i.1));
      }

---------------------------------------------------------------- characters of seven bits

pub coded-nil : (us : List ℕ) → coded 0 us ≡ us
unfolding coded
coded-nil [] = refl
coded-nil (u ∷ us) = rw (zero-add u, coded-nil us)

module _ (s : List ℕ) (e : ℕ) where
  abbrev seven : ℕ → ℕ → (ℕ → Ans) → Ans
  seven n at k = letters (bit_of s) e 7 128 n at k

  -- none is outside the alphabet
  one_more : (n at : ℕ) (k : ℕ → Ans) → at + 7 ≤ e → seven (suc n) at k ≡ seven n (at + 7) k
  unfolding letters unless
  one_more n at k h = pull_go (bit_of s) e at 7 _ h ∙ rw (lt-ltb (uint (bit_of s) at 7) 128 (uint-below s at 7)) (then-nil (at + 7) (λ p. seven n p k))

  pub letters-all : (n at : ℕ) (k : ℕ → Ans) → at + n * 7 ≤ e → seven n at k ≡ k (at + n * 7)
  unfolding letters
  letters-all zero at k h = ap k (omega arith)
  letters-all (suc n) at k h = one_more n at k (omega arith) ∙ letters-all n (at + 7) k (omega arith) ∙ ap k (omega arith)

  -- the place is behind the last whole one
  pub letters_out : (n at : ℕ) (k : ℕ → Ans) → at ≤ e → e < at + n * 7 → seven n at k ≡ stop (out (7 - (e - at) % 7)) (at + (e - at) / 7 * 7) [] 0
  unfolding letters
  letters_out zero at k l h = absurd (omega arith)
  letters_out (suc n) at k l h = go (leb (at + 7) e) refl λ y. letters_out n (at + 7) k y (omega arith)
    where
      go : (t : Bool) → leb (at + 7) e ≡ t → (at + 7 ≤ e → seven n (at + 7) k ≡ stop (out (7 - (e - (at + 7)) % 7)) (at + 7 + (e - (at + 7)) / 7 * 7) [] 0) → seven (suc n) at k ≡ stop (out (7 - (e - at) % 7)) (at + (e - at) / 7 * 7) [] 0
      go true q r =
          let y : at + 7 ≤ e = leb-true (at + 7) e q in
          let l : 7 - (e - (at + 7)) % 7 ≡ 7 - (e - at) % 7 = omega arith in
          one_more n at k y ∙ r y ∙ rw l (ap (λ (p : ℕ). stop (out (7 - (e - at) % 7)) p [] 0) (omega arith))
      go false q r =
          let y : e < at + 7 = leb-false (at + 7) e q in
          let l : at + 7 - e ≡ 7 - (e - at) % 7 = omega arith in
          pull_no (bit_of s) e at 7 _ y ∙ rw l (ap (λ (p : ℕ). stop (out (7 - (e - at) % 7)) p [] 0) (omega arith))

in_frame-none : {w : ℕ} {s : List ℕ} → InFrame w s (record { from = 0; at = 0; len = 0 })
in_frame-none {w} = record { there = omega (arith, zero-mul w); fits = omega (arith, zero-mul w) }

abbrev cut : Cursor → Got Text
cut d = record { v = record { from = 0; at = 0; len = 0 }; c = d }

module _ {s : List ℕ} {c : Cursor} {n : ℕ} where
  pub passed_all : {p : ℕ} {t : Bool} → Ahead s c 0 t → t ≡ true → n ≤ (c.end - c.at) / 7 → p ≡ c.at + 7 * n → p < 2 ^ 64 → Passed n s c (record { v = record { from = c.at; at = c.at; len = n }; c = put c p 0 c.marks })
  passed_all {p} a t l q f =
      let z = a.goes t in
      let h = a.held t in
      let o = a.room t in
      let e : p ≡ c.at + n * 7 = omega arith in
      record {
        characters = λ T. record { led = λ i. went p 0 z (letters-all s c.end n c.at _ (omega arith) ∙ rw e) (omega arith) (rw (or_nil c.marks)) };
        few = omega arith;
        held = record { there = omega arith; fits = omega arith };
      }

  pub passed_out : {p w : ℕ} {t : Bool} → Ahead s c 0 t → t ≡ true → (c.end - c.at) / 7 < n → p ≡ c.at + 7 * ((c.end - c.at) / 7) → w ≡ number (out (7 - (c.end - c.at) % 7)) → Passed n s c (cut (put c p w c.marks))
  passed_out {p} a t l q v =
      let o = a.room t in
      let e : p ≡ c.at + (c.end - c.at) / 7 * 7 = omega arith in
      record {
        characters = λ T. record { led = λ i. failed (out (7 - (c.end - c.at) % 7)) p 0 [] (λ x. omega arith) (a.goes t) (letters_out s c.end n c.at _ (omega arith) (omega arith) ∙ rw e) (omega arith) (rw (v, or_nil c.marks)) };
        few = omega arith;
        held = in_frame-none;
      }

  pub passed_stuck : {d : Cursor} {t : Bool} → Ahead s c 0 t → t ≡ false → d ≡ stopped c 4 0 → Passed n s c (cut d)
  unfolding stopped
  passed_stuck a t q =
      record {
        characters = λ T. record { led = λ i. (let h : c.why ≡ 0 → ⊥ = (λ z. omega (arith, a.short t i z, i.0)) in stayed h (q ∙ rw (ne_eqb c.why 0 h))) };
        few = omega arith;
        held = in_frame-none;
      }

pub text_of : {k : ℕ} {s : List ℕ} {c : Cursor} {g : Got ℕ} {r : Got Text} → Sized k s c g → Passed g.v s g.c r → Texts k s c (record { v = record { from = c.at; at = r.v.at; len = r.v.len }; c = r.c })
unfolding read width width_in text_recs
text_of {k} {s} {c} {g} {r} z p =
    record {
      text = λ t. record {
        took = λ x.
            rw (coded-nil (units (bit_of s) 7 r.v.at r.v.len)) at
            (reads_same (λ e p. sized (bit_of s) e p (lowest k) (highest k) (λ n q. letters (bit_of s) e 7 128 n q (λ y. ok y (pack t x.0 c.at (coded 0 (units (bit_of s) 7 q n))) 0))) (λ e p. read (text t 128 (first 0) (lowest k) (highest k)) x (bit_of s) e p) refl
            (z.size (λ n e q. letters (bit_of s) e 7 128 n q (λ y. ok y (pack t x.0 c.at (coded 0 (units (bit_of s) 7 q n))) 0)) (p.characters (λ q n. pack t x.0 c.at (coded 0 (units (bit_of s) 7 q n))))));
      };
      few = omega (arith, z.few, p.few);
      held = record { there = p.held.there; fits = p.held.fits };
    }

---------------------------------------------------------------- digits, one after another

-- a reading may be shown from the cursor's being in its window
in_window : {k : ℕ → ℕ → Ans} {s : List ℕ} {c d : Cursor} {R : List Rec} → (Inside s c → Reads k s c d R) → Reads k s c d R
in_window f = record { led = λ i. (f i).led i }

abbrev good : Ans → Bool
good (ok p R m) = true
good (past l p R m) = false
good (stop w p R m) = false

good-glue : (m : ℕ) (a : Ans) → good (glue [] m a) ≡ good a
unfolding glue
good-glue m (ok p R n) = refl
good-glue m (past l p R n) = refl
good-glue m (stop w p R n) = refl

-- of a reading that does not go on it does not matter what would be told
reads_cut : {k : ℕ → ℕ → Ans} {s : List ℕ} {c d : Cursor} {R : List Rec} (S : List Rec) → (Inside s c → c.why ≡ 0 → good (k c.end c.at) ≡ false) → Reads k s c d R → Reads k s c d S
reads_cut {k} {s} {c} {d} {R} S h r = record { led = λ i. go i (r.led i) }
  where
    go : Inside s c → Led k c d R → Led k c d S
    go i (stayed x q) = stayed x q
    go i (went p m z a l q) = absurd (true≢false (sym (ap good a) ∙ h i z))
    go i (failed w p m T n z a l q) = failed w p m T n z a l q

module _ (b : ℕ → ℕ) (e w n : ℕ) where
  abbrev run : ℕ → ℕ → (ℕ → Ans) → Ans
  run i at k = letters b e w n i at k

  abbrev done : ℕ → Ans
  done q = ok q [] 0

  -- the first i and then j others
  letters-join : (i j at : ℕ) (k : ℕ → Ans) → run (i + j) at k ≡ then (run i at done) (λ q. run j q k)
  unfolding letters then
  letters-join zero j at k = rw (zero-add j) (sym (then-nil at (λ q. run j q k)))
  letters-join (suc i) j at k = rw (suc-add i j) (go (leb (at + w) e) refl (letters-join i j (at + w) k))
    where
      go : (t : Bool) → leb (at + w) e ≡ t → run (i + j) (at + w) k ≡ then (run i (at + w) done) (λ q. run j q k) → run (suc (i + j)) at k ≡ then (run (suc i) at done) (λ q. run j q k)
      go true q r =
          let y : at + w ≤ e = leb-true (at + w) e q in
          let m : ℕ = unless (ltb (uint b at w) n) 1 in
          pull_go b e at w _ y
          ∙ ap (glue [] m) r
          ∙ sym (glue-then [] m (run i (at + w) done) (λ q. run j q k))
          ∙ ap (λ (a : Ans). then a (λ q. run j q k)) (sym (pull_go b e at w _ y))
      go false q r =
          let y : e < at + w = leb-false (at + w) e q in
          pull_no b e at w _ y ∙ ap (λ (a : Ans). then a (λ q. run j q k)) (sym (pull_no b e at w _ y))

-- without room for all of them the digits do not go on
digits-short : (b : ℕ → ℕ) (e i at : ℕ) (k : ℕ → Ans) → at ≤ e → e < at + i * 4 → good (letters b e 4 11 i at k) ≡ false
unfolding letters then
digits-short b e zero at k l h = absurd (omega arith)
digits-short b e (suc i) at k l h = go (leb (at + 4) e) refl λ y. digits-short b e i (at + 4) k y (omega arith)
  where
    go : (t : Bool) → leb (at + 4) e ≡ t → (at + 4 ≤ e → good (letters b e 4 11 i (at + 4) k) ≡ false) → good (letters b e 4 11 (suc i) at k) ≡ false
    go true q r =
        let y : at + 4 ≤ e = leb-true (at + 4) e q in
        ap good (pull_go b e at 4 _ y) ∙ good-glue _ _ ∙ r y
    go false q r = ap good (pull_no b e at 4 _ (leb-false (at + 4) e q))

module _ {s : List ℕ} {c : Cursor} where
  pub digits-none : Digits 0 s c c
  unfolding letters
  digits-none = record { digits = reads_ok [] 0 (marked-nil c) }

  digit_of : {d : Cursor} (g : Got ℕ) → Pulls s c 4 g → d ≡ marked g.c (unless (ltb g.v 11) 1) → Digits 1 s c d
  unfolding letters
  digit_of {d} g p q = record { digits = pull-then 4 g (λ v e z. then (ok z [] (unless (ltb v 11) 1)) λ y. ok y [] 0) p (reads_then _ _ (reads_ok [] _ q) (reads_ok [] 0 (marked-nil d))) }

  pub digit_in : (g : Got ℕ) → Pulls s c 4 g → g.v < 11 → Digits 1 s c g.c
  unfolding unless
  digit_in g p l = digit_of g p (marked-nil g.c ∙ rw (lt-ltb g.v 11 l))

  pub digit-over : {d : Cursor} (g : Got ℕ) → Pulls s c 4 g → 11 ≤ g.v → d ≡ marked g.c 1 → Digits 1 s c d
  unfolding unless mark
  digit-over g p l q = digit_of g p (q ∙ rw (le-ltb g.v 11 l))

  pub digits_more : {i : ℕ} {d f : Cursor} → Digits i s c d → Digits 1 s d f → Digits (i + 1) s c f
  digits_more {i} x y = record { digits = reads_same _ _ (sym (letters-join (bit_of s) c.end 4 11 i 1 c.at (λ q. ok q [] 0))) (reads_then _ _ x.digits y.digits) }

  -- what is told of the digits
  digits-told : {d : Cursor} → Digits 12 s c d → (T : ℕ → List Rec) → Reads (λ e p. letters (bit_of s) e 4 11 12 p (λ q. ok q (T p) 0)) s c d (T c.at)
  unfolding letters
  digits-told {d} x T = reads_same _ _ (sym (letters-join (bit_of s) c.end 4 11 12 0 c.at (λ q. ok q (T c.at) 0))) (reads_then _ _ x.digits (reads_ok (T c.at) 0 (marked-nil d)))

-- a size that is always twelve has no bits
size_twelve : (b : ℕ → ℕ) (e at : ℕ) (k : ℕ → ℕ → Ans) → at ≤ e → sized b e at 12 12 k ≡ k 12 at
unfolding sized width width_in uint over unless
size_twelve b e at k l = pull_go b e at 0 _ (omega arith) ∙ rw (add-zero at) (then-nil at (k 12))

module _ {s : List ℕ} {c d : Cursor} (x : Digits 12 s c d) where
  abbrev told : ℕ → ℕ → ℕ → ℕ → List Rec
  told t u n p = lettered t (numeric u) n p (units (bit_of s) 4 p 12)

  channel-read : (t u : ℕ) (y : Ctx) {R : List Rec} → Reads (λ e p. letters (bit_of s) e 4 11 12 p (λ q. ok q (told t u y.0 p) 0)) s c d R → Reads (λ e p. read (text t 11 (numeric u) 12 12) y (bit_of s) e p) s c d R
  unfolding read width width_in
  channel-read t u y r = in_window λ i. reads_same _ _ (sym (size_twelve (bit_of s) c.end c.at _ i.0)) r

  pub channel-all : {t : Bool} → Ahead s c 48 t → t ≡ true → c.end < 2 ^ 64 → Channel s c (record { v = record { from = c.at; at = c.at; len = 12 }; c = d })
  unfolding channel_recs
  channel-all a q f =
      record {
        channel = λ t u. record { took = λ y. channel-read t u y (digits-told x (told t u y.0)) };
        few = omega arith;
        held = record { there = omega (arith, a.room q, a.held q); fits = omega (arith, a.room q) };
      }

  pub channel-cut : {t : Bool} → Ahead s c 48 t → t ≡ false → Channel s c (record { v = record { from = 0; at = 0; len = 0 }; c = d })
  channel-cut a q =
      record {
        channel = λ t u. record { took = λ y. channel-read t u y (reads_cut _ (λ i z. digits-short (bit_of s) c.end 12 c.at _ i.0 (a.short q i z)) (digits-told x (told t u y.0))) };
        few = omega arith;
        held = in_frame-none;
      }
