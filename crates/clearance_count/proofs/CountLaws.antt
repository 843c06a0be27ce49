-- The head of the constrained data, and what follows it.
use mathlib.Core.Path.{◌≡◌, refl, sym, ap, ◌∙◌}
use mathlib.Core.Bool.{Bool, true, false}
use mathlib.Core.List.{List, [], ◌∷◌, ◌++◌}
use Prim.Native.Nat.{ℕ, ◌+◌, ◌-◌, ◌≤◌}
use native.Mathlib.Omega.{arith}
use lib.Dec.{leb}
use borrow.Author.Tests.{leb-true, leb-false}
use Rattle.x691.specs.Bits.{bit_of, uint}
use Rattle.x691.specs.Encoding.{width, width_in}
use Rattle.x691.proofs.BitLaws.{uint-one, bit_of-lt}
use Rattle.atn.specs.Format.{Why, out, bad, lack, quit}
use Rattle.atn.specs.Reading.{Rec, rec, Ans, ok, past, stop, glue, then, fork, or, over, mark, pull, sized}
use Rattle.atn.proofs.Firm.{is_past}
use Rattle.atn.proofs.Marks.{or_nil}
use Rattle.atn.proofs.Steps.{pull_go, pull_no}
use Rattle.cursor.specs.declared.place.Cursor.{Cursor}
use Rattle.cursor.specs.declared.place.Got.{Got}
use Rattle.cursor.specs.Place.{number, marked, Inside, Pulls, Led, Reads}
use Rattle.cursor.specs.Place as place
use Rattle.field_ranges.specs.Rows as rows
use Rattle.field_ranges.specs.Ends.{lowest, highest}
use Rattle.character_strings.specs.Texts.{Sized}
use Rattle.cursor.proofs.Laws.{led_inside, pulled_inside, reads_ok, marked-nil}
use Rattle.runs.specs.declared.At.{At}
use Rattle.runs.specs.Runs.{Ran, stayed, went, passed, gave_up, failed, Runs}
use Rattle.runs.proofs.RunLaws.{ran_stays, ran_then, ran_same, runs_same, runs_clear, runs_set, runs_pull}
use Rattle.clearance_count.specs.Counts.{count_then, Counts}

---------------------------------------------------------------- what is read without a record, and what follows it

pub seven : (w : Why) → number w ≡ 7 → ⊥
seven (out lacked) h = omega arith
seven bad h = omega arith
seven lack h = omega arith
seven (quit o j m) h = omega arith

module _ (k l : ℕ → ℕ → Ans) {c d e : Cursor} {R S : List Rec} where
  -- one after another, by where the first one ended
  pub ran_next : Ran k c d R → (d.why ≡ 7 → ⊥) → Ran l d e S → Ran (λ u p. then (k u p) (λ q. l u q)) c e (R ++ S)
  unfolding is_past
  ran_next (stayed h q r) n x = let y = ran_stays l d e (rw q h) x in stayed h (y.0 ∙ q) (rw (r, y.1))
  ran_next (went p m z a b q) n x = ran_then k l (rw a) (went p m z a b q) x
  ran_next (passed lacked p m z a b q) n x = absurd (n (rw q refl))
  ran_next (gave_up o j t p m z a b q) n x = ran_then k l (rw a) (gave_up o j t p m z a b q) x
  ran_next (failed w p m T h z a b q) n x = ran_then k l {R = R} (rw a) (failed w p m T h z a b q) x

pub runs_behind : {b : ℕ} (k l : ℕ → ℕ → Ans) {s : List ℕ} {c d : Cursor} {n : ℕ} {w w' : List ℕ} {r : At} → Reads k s c d [] → Runs b l s d n w w' r → Runs b (λ e p. then (k e p) (λ q. l e q)) s c n w w' r
runs_behind k l {s} {c} {d} {r = r} x y = record { recs = y.recs; ran = λ i. go (x.led i) (y.ran (led_inside k s c d (x.led i) i)); told = y.told }
  where
    go : Led k c d [] → Ran l d r.c y.recs → Ran (λ e p. then (k e p) (λ q. l e q)) c r.c y.recs
    go (place.Led.stayed h q) z = let t = ran_stays l d r.c (rw q h) z in stayed h (t.0 ∙ q) t.1
    go (place.Led.went p m h a u q) z = ran_next k l {R = []} (went p m h a u q) (λ e. let t : 0 ≡ 7 = rw q at e in omega arith) z
    go (place.Led.failed v p m T h g a u q) z = ran_next k l {R = []} (failed v p m T h g a u q) (λ e. seven v (rw q at e)) z

runs_mark : {b : ℕ} (m : ℕ) (k : ℕ → ℕ → Ans) {s : List ℕ} {c d : Cursor} {n : ℕ} {w w' : List ℕ} {r : At} → d ≡ marked c m → Runs b k s d n w w' r → Runs b (λ e p. then (ok p [] m) (λ q. k e q)) s c n w w' r
runs_mark m k q y = runs_behind (λ e p. ok p [] m) k (reads_ok [] m q) y

---------------------------------------------------------------- a size, by what it would tell

abbrev marks_of : Ans → ℕ
marks_of (ok p R m) = m
marks_of (past lacked p R m) = m
marks_of (stop w p R m) = m

abbrev probe : ℕ → ℕ → Ans
probe n q = ok q (rec 0 0 n 0 0 ∷ []) 0

module _ (b : ℕ → ℕ) (e at lo hi : ℕ) where
  sized_there : {v p m : ℕ} → sized b e at lo hi probe ≡ ok p (rec 0 0 v 0 0 ∷ []) m → (K : ℕ → ℕ → Ans) → (sized b e at lo hi K ≡ then (ok p [] m) (K v)) × (v ≡ lo + uint b at (width (hi - lo)))
  unfolding sized then glue
  sized_there {v} {p} {m} h K = by (leb (at + width (hi - lo)) e) refl
    where
      by : (t : Bool) → leb (at + width (hi - lo)) e ≡ t → (sized b e at lo hi K ≡ then (ok p [] m) (K v)) × (v ≡ lo + uint b at (width (hi - lo)))
      by true q =
          let y : at + width (hi - lo) ≤ e = leb-true _ e q in
          let u : ℕ = lo + uint b at (width (hi - lo)) in
          let f : sized b e at lo hi probe ≡ ok (at + width (hi - lo)) (rec 0 0 u 0 0 ∷ []) (or (over hi u) 0) = pull_go b e at _ _ y in
          let r : v ≡ u = cc in
          let n : m ≡ over hi u = ap marks_of (sym h ∙ f) ∙ or_nil _ in
          let g : p ≡ at + width (hi - lo) = cc in
          (pull_go b e at _ _ y ∙ rw (r, n, g), r)
      by false q = let f = pull_no b e at (width (hi - lo)) (λ x. glue [] (over hi (lo + x)) (probe (lo + x) (at + width (hi - lo)))) (leb-false _ e q) in let z : ◌≡◌ {A = ℕ} 0 1 = cc in absurd (omega arith)

  sized_gone : {w : Why} {p m : ℕ} {S : List Rec} → sized b e at lo hi probe ≡ stop w p S m → (K : ℕ → ℕ → Ans) → sized b e at lo hi K ≡ stop w p S m
  unfolding sized then glue
  sized_gone {w} {p} {m} {S} h K = by (leb (at + width (hi - lo)) e) refl
    where
      by : (t : Bool) → leb (at + width (hi - lo)) e ≡ t → sized b e at lo hi K ≡ stop w p S m
      by true q =
          let y : at + width (hi - lo) ≤ e = leb-true _ e q in
          let u : ℕ = lo + uint b at (width (hi - lo)) in
          let f : sized b e at lo hi probe ≡ ok (at + width (hi - lo)) (rec 0 0 u 0 0 ∷ []) (or (over hi u) 0) = pull_go b e at _ _ y in
          let z : ◌≡◌ {A = ℕ} 0 1 = cc in
          absurd (omega arith)
      by false q = pull_no b e at _ _ (leb-false _ e q) ∙ sym (pull_no b e at _ _ (leb-false _ e q)) ∙ h

module _ {k : ℕ} {s : List ℕ} {c : Cursor} {g : Got ℕ} (z : Sized k s c g) where
  probed : Reads (λ e p. sized (bit_of s) e p (lowest k) (highest k) probe) s c g.c (rec 0 0 g.v 0 0 ∷ [])
  probed = z.size (λ n e q. probe n q) (reads_ok (rec 0 0 g.v 0 0 ∷ []) 0 (marked-nil g.c))

  pub sized_inside : Inside s c → Inside s g.c
  sized_inside i = led_inside _ s c g.c (probed.led i) i

  -- the size is in its row's range by its bits
  pub sized-value : Inside s c → c.why ≡ 0 → g.c.why ≡ 0 → g.v ≡ lowest k + uint (bit_of s) c.at (width (highest k - lowest k))
  sized-value i y h = go (probed.led i)
    where
      go : Led (λ e p. sized (bit_of s) e p (lowest k) (highest k) probe) c g.c (rec 0 0 g.v 0 0 ∷ []) → g.v ≡ lowest k + uint (bit_of s) c.at (width (highest k - lowest k))
      go (place.Led.stayed n q) = absurd (n y)
      go (place.Led.went p m x a u q) = (sized_there (bit_of s) c.end c.at (lowest k) (highest k) a probe).1
      go (place.Led.failed w p m S n x a u q) = absurd (n (rw q at h))

  pub runs_sized_as : {b : ℕ} (K : ℕ → ℕ → ℕ → Ans) (v : ℕ) {n : ℕ} {w w' : List ℕ} {r : At} → (Inside s c → c.why ≡ 0 → g.c.why ≡ 0 → v ≡ g.v) → Runs b (λ e p. K v e p) s g.c n w w' r
      → Runs b (λ e p. sized (bit_of s) e p (lowest k) (highest k) (λ n q. K n e q)) s c n w w' r
  runs_sized_as {b} K v {r = r} same y =
      record {
        recs = y.recs;
        ran = λ i. go i (probed.led i) (y.ran (led_inside _ s c g.c (probed.led i) i));
        told = y.told;
      }
    where
      go : Inside s c → Led (λ e p. sized (bit_of s) e p (lowest k) (highest k) probe) c g.c (rec 0 0 g.v 0 0 ∷ []) → Ran (λ e p. K v e p) g.c r.c y.recs
          → Ran (λ e p. sized (bit_of s) e p (lowest k) (highest k) (λ n q. K n e q)) c r.c y.recs
      go i (place.Led.stayed n q) x = let t = ran_stays (λ e p. K v e p) g.c r.c (rw q n) x in stayed n (t.0 ∙ q) t.1
      go i (place.Led.went p m h a u q) x =
          let e : v ≡ g.v = same i h (rw q refl) in
          ran_same (λ e o. then (ok p [] m) (λ t. K v e t)) _
          (λ _. sym ((sized_there (bit_of s) c.end c.at (lowest k) (highest k) a (λ n q. K n c.end q)).0 ∙ rw e))
          (ran_next (λ e o. ok p [] m) (λ e t. K v e t) {R = []} (went p m h refl u q) (λ f. let t : 0 ≡ 7 = rw q at f in omega arith) x)
      go i (place.Led.failed f p m S n h a u q) x =
          let t = ran_stays (λ e p. K v e p) g.c r.c (rw q n) x in
          failed f p m S n h (sized_gone (bit_of s) c.end c.at (lowest k) (highest k) a (λ n q. K n c.end q)) u (t.0 ∙ q)

---------------------------------------------------------------- the number of the clearances

marked-inside : (s : List ℕ) (c d : Cursor) (m : ℕ) → d ≡ marked c m → Inside s c → Inside s d
marked-inside s c d m q i = led_inside (λ e p. ok p [] m) s c d ((reads_ok {s = s} [] m q).led i) i

-- what follows the extension bit, and the presence bit
module _ (s : List ℕ) (K : ℕ → ℕ → ℕ → Ans) where
  abbrev count_after : ℕ → ℕ → ℕ → Ans
  count_after v e p = fork v (K 0 e p) (sized (bit_of s) e p 1 2 (λ m q. K m e q))

  abbrev root_after : ℕ → ℕ → ℕ → Ans
  root_after v e p = fork v (pull (bit_of s) e p 1 (λ h. count_after h e (p + 1))) (then (ok p [] 2) (λ q. K 0 e q))

  count_stages : (e at : ℕ) → pull (bit_of s) e at 1 (λ x. root_after x e (at + 1)) ≡ count_then (bit_of s) e at (λ m q. K m e q)
  unfolding count_then mark
  count_stages e at = refl

module _ {s : List ℕ} {c : Cursor} (g : Got ℕ) (x : Pulls s c 1 g) where
  in_window : Inside s c → Inside s g.c
  in_window i = pulled_inside s c 1 g i (x.gave i)

  staged : {b : ℕ} (K : ℕ → ℕ → ℕ → Ans) {n : ℕ} {w w' : List ℕ} {r : At} → Runs b (λ e p. root_after s K g.v e p) s g.c n w w' r → Runs b (λ e p. count_then (bit_of s) e p (λ m q. K m e q)) s c n w w' r
  staged K y = runs_same (λ e p. pull (bit_of s) e p 1 (λ v. root_after s K v e (p + 1))) _ (λ i z. count_stages s K c.end c.at) (runs_pull 1 g (root_after s K) x y)

  -- a set extension bit
  pub counts-extended : {d : Cursor} → (g.v ≡ 0 → ⊥) → d ≡ marked g.c 2 → Counts s c (record { v = 0; c = d })
  counts-extended {d} n q =
      record {
        then = λ K y. staged K (runs_set _ (λ e p. then (ok p [] 2) (λ t. K 0 e t)) g.v n (runs_mark 2 (λ e p. K 0 e p) q y));
        few = omega arith;
        inside = λ i. marked-inside s g.c d 2 q (in_window i);
      }

  module _ (h : Got ℕ) (z : g.v ≡ 0) (y : Pulls s g.c 1 h) where
    in_root : Inside s c → Inside s h.c
    in_root i = pulled_inside s g.c 1 h (in_window i) (y.gave (in_window i))

    rooted : {b : ℕ} (K : ℕ → ℕ → ℕ → Ans) {n : ℕ} {w w' : List ℕ} {r : At} → Runs b (λ e p. count_after s K h.v e p) s h.c n w w' r → Runs b (λ e p. count_then (bit_of s) e p (λ m q. K m e q)) s c n w w' r
    rooted K o = staged K (runs_clear (λ e p. pull (bit_of s) e p 1 (λ v. count_after s K v e (p + 1))) (λ e p. then (ok p [] 2) (λ q. K 0 e q)) g.v z (runs_pull 1 h (count_after s K) y o))

    -- none are there
    pub counts-absent : h.v ≡ 0 → Counts s c (record { v = 0; c = h.c })
    counts-absent n = record { then = λ K o. rooted K (runs_clear (λ e p. K 0 e p) _ h.v n o); few = omega arith; inside = in_root }

    module _ (n : h.v ≡ 0 → ⊥) {m : Got ℕ} (t : Sized rows.clearances s h.c m) where
      counted : (v : ℕ) → v ≤ 2 → (Inside s h.c → h.c.why ≡ 0 → m.c.why ≡ 0 → v ≡ m.v) → Counts s c (record { v = v; c = m.c })
      unfolding lowest highest
      counted v l q =
          record {
            then = λ K o. rooted K (runs_set (λ e p. K 0 e p) (λ e p. sized (bit_of s) e p 1 2 (λ u r. K u e r)) h.v n (runs_sized_as t K v q o));
            few = l;
            inside = λ i. sized_inside t (in_root i);
          }

      pub counts-one : m.v ≡ 1 → Counts s c (record { v = 1; c = m.c })
      counts-one o = counted 1 (omega arith) (λ i k u. sym o)

      pub counts_two : (m.v ≡ 1 → ⊥) → Counts s c (record { v = 2; c = m.c })
      unfolding lowest highest width width_in
      counts_two o = counted 2 (omega arith) (λ i k u. omega (arith, sized-value t i k u, uint-one (bit_of s) h.c.at, bit_of-lt s h.c.at))
