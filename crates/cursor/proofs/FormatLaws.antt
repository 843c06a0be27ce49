-- What was read of a format, from what was read of its parts: a law for each kind of format.
use Rattle.std.proofs.Common.{◌≡◌, ℕ, zero, suc, ◌+◌, ◌-◌, ◌/◌, ◌%◌, ◌^◌, ◌<◌, Bool, true, false, List, [], ◌∷◌, ◌++◌, sym, refl, ap, ◌∙◌, append-nil, add-zero, arith}
use Rattle.x691.specs.Bits.{bit_of, bits_of, Spells}
use Rattle.x691.specs.Encoding.{width, width_in, size_bits, highest}
use Rattle.atn.specs.Format.{Fmt, out, ext, choice, seq, many, noted, null, refuse, Flds, end, ◌⨾◌, ◌⨾?◌, or_note, unread, Alts, alternatives_of, Why}
use Rattle.atn.specs.Reading.{Rec, rec, Ctx, Ans, ok, then, fork, times, mark, flags, unread_marks, within, read, read_fields, read_choice}
use Rattle.atn.proofs.Steps.{then-nil, fetch_go, fetch_no, sized_go}
use Rattle.cursor.specs.declared.place.Cursor.{Cursor}
use Rattle.cursor.specs.declared.place.Got.{Got}
use Rattle.cursor.specs.Place.{number, stopped, marked, Inside, Pulls, Opened, shut_already, ran_short, opened, Opens, Led, stayed, went, failed, Reads, Takes}
use Rattle.cursor.specs.Formats.{Fields, Maybe, Times}
use Rattle.atn.proofs.Marks.{or_nil}
use Rattle.cursor.proofs.Laws.{reads_here, pull-from, led_inside, led_stays, led_from, bit-of, reads_same, reads_then, reads_ok, reads_stop, pull-then, marked-nil}

-- nothing, and what has no reader
pub takes_null : {s : List ℕ} {c : Cursor} → Takes null s c c (λ n. [])
unfolding read
takes_null {c = c} = record { took = λ x. reads_ok [] 0 (marked-nil c) }

pub takes_refuse : {s : List ℕ} {c d : Cursor} {T : ℕ → List Rec} (w : Why) (m : ℕ) → (number w ≡ 0 → ⊥) → d ≡ stopped c (number w) m → Takes (refuse w m) s c d T
unfolding read
takes_refuse w m n q = record { took = λ x. reads_stop w m n q }

-- a record before the part
pub takes_noted : {f : Fmt} {s : List ℕ} {c d : Cursor} {T : ℕ → List Rec} (t v y : ℕ) → Takes f s c d T → Takes (noted t v y f) s c d (λ n. rec t n v y c.at ∷ T n)
unfolding read
takes_noted {f} {s} {c} t v y h = record { took = λ x. reads_then (λ u p. ok p (rec t x.0 v y p ∷ []) 0) (λ u p. read f x (bit_of s) u p) (reads_here (λ p. rec t x.0 v y p ∷ []) 0 (marked-nil c)) (h.took x) }

---------------------------------------------------------------- extension bits

module _ {f k : Fmt} {s : List ℕ} {c d : Cursor} {T : ℕ → List Rec} (g : Got ℕ) where
  pub takes_root : Pulls s c 1 g → g.v ≡ 0 → Takes f s g.c d T → Takes (ext f k) s c d T
  unfolding read fork
  takes_root p z h =
      record { took = λ x. pull-then 1 g (λ v u q. fork v (read f x (bit_of s) u q) (then (ok q [] (mark 2)) λ r. read k x (bit_of s) u r)) p (rw z (h.took x)) }

  -- a set one: mark 2, and what follows it
  pub takes_extended : {e : Cursor} → Pulls s c 1 g → (g.v ≡ 0 → ⊥) → e ≡ marked g.c (mark 2) → Takes k s e d T → Takes (ext f k) s c d T
  unfolding read fork
  takes_extended {e} p z q h =
      record {
        took = λ x.
            pull-then 1 g (λ v u q. fork v (read f x (bit_of s) u q) (then (ok q [] (mark 2)) λ r. read k x (bit_of s) u r)) p
            (set g.v z x);
      }
    where
      set : (v : ℕ) → (v ≡ 0 → ⊥) → (x : Ctx) → Reads (λ u q. fork v (read f x (bit_of s) u q) (then (ok q [] (mark 2)) λ r. read k x (bit_of s) u r)) s g.c d (T x.0)
      set zero n x = absurd (n refl)
      set (suc v) n x = reads_then (λ u q. ok q [] (mark 2)) (λ u r. read k x (bit_of s) u r) (reads_ok [] (mark 2) q) (h.took x)

---------------------------------------------------------------- choices

-- the index, then the alternative that it names
pub takes_choice : (t : ℕ) (fs : Alts) {s : List ℕ} {c d : Cursor} {T : ℕ → List Rec} (g : Got ℕ) → Pulls s c (width (highest (alternatives_of fs))) g
    → ((x : Ctx) → Reads (λ u q. read_choice fs g.v x (bit_of s) u q) s g.c d (T x.0)) → Takes (choice t fs) s c d (λ n. rec t n g.v 0 c.at ∷ T n)
unfolding read
takes_choice t fs {s} {c} {d} {T} g p h =
    let w : ℕ = width (highest (alternatives_of fs)) in
    record {
      took = λ x.
          pull-from w g (λ a v u q. then (ok q (rec t x.0 v 0 a ∷ []) 0) λ r. read_choice fs v x (bit_of s) u r) p
          (reads_then (λ u q. ok q (rec t x.0 g.v 0 c.at ∷ []) 0) (λ u r. read_choice fs g.v x (bit_of s) u r) (reads_ok _ 0 (marked-nil g.c)) (h x));
    }

---------------------------------------------------------------- fields

-- the same reading, asked only of a cursor that goes on
pub reads_going : {s : List ℕ} {c d : Cursor} {R : List Rec} (k l : ℕ → ℕ → Ans) → (c.why ≡ 0 → k c.end c.at ≡ l c.end c.at) → Reads k s c d R → Reads l s c d R
reads_going {s} {c} {d} {R} k l q r = record { led = λ i. go (r.led i) }
  where
    go : Led k c d R → Led l c d R
    go (stayed h e) = stayed h e
    go (went p m z a h e) = went p m z (sym (q z) ∙ a) h e
    go (failed w p m S n z a h e) = failed w p m S n z (sym (q z) ∙ a) h e

pub fields_end : {s : List ℕ} {c : Cursor} {q : ℕ} → Fields end s c c q (λ n. [])
unfolding read_fields
fields_end {c = c} = record { took = λ x. reads_ok [] 0 (marked-nil c) }

pub fields_must : {f : Fmt} {fs : Flds} {s : List ℕ} {c d e : Cursor} {q : ℕ} {T U : ℕ → List Rec} → Takes f s c d T → Fields fs s d e q U → Fields (f ⨾ fs) s c e q (λ n. T n ++ U n)
unfolding read_fields
fields_must {f} {fs} {s} {q = q} h g = record { took = λ x. reads_then (λ u p. read f x (bit_of s) u p) (λ u p. read_fields fs x (bit_of s) u q p) (h.took x) (g.took x) }

-- the last field
pub fields_last : {f : Fmt} {s : List ℕ} {c d : Cursor} {q : ℕ} {T : ℕ → List Rec} → Takes f s c d T → Fields (f ⨾ end) s c d q T
fields_last {f} {s} {c} {d} {q} {T} h = let z : Fields (f ⨾ end) s c d q (λ n. T n ++ []) = fields_must h fields_end in record { took = λ x. rw (append-nil (T x.0)) at (z.took x) }

-- an optional field, by its presence bit
fork-then : (v p : ℕ) (a : Ans) (k : ℕ → Ans) → then (fork v (ok p [] 0) a) k ≡ fork v (k p) (then a k)
unfolding fork
fork-then zero p a k = then-nil p k
fork-then (suc v) p a k = refl

pub fields_may : {f : Fmt} {fs : Flds} {s : List ℕ} {c d e : Cursor} {q : ℕ} {T U : ℕ → List Rec} (has : ℕ) → (c.why ≡ 0 → has ≡ bit_of s q) → Maybe has f s c d T → Fields fs s d e (suc q) U
    → Fields (f ⨾? fs) s c e q (λ n. T n ++ U n)
unfolding read_fields
fields_may {f} {fs} {s} {c} {q = q} has bit h g =
    record {
      took = λ x.
          reads_going (λ u p. then (fork has (ok p [] 0) (read f x (bit_of s) u p)) (λ r. read_fields fs x (bit_of s) u (suc q) r)) (λ u p. read_fields (f ⨾? fs) x (bit_of s) u q p)
          (λ z. fork-then has c.at _ _ ∙ rw (bit z))
          (reads_then (λ u p. fork has (ok p [] 0) (read f x (bit_of s) u p)) (λ u r. read_fields fs x (bit_of s) u (suc q) r) (h.took x) (g.took x));
    }

pub fields_last_may : {f : Fmt} {s : List ℕ} {c d : Cursor} {q : ℕ} {T : ℕ → List Rec} (has : ℕ) → (c.why ≡ 0 → has ≡ bit_of s q) → Maybe has f s c d T → Fields (f ⨾? end) s c d q T
fields_last_may {f} {s} {c} {d} {q} {T} has bit h = let z : Fields (f ⨾? end) s c d q (λ n. T n ++ []) = fields_may has bit h fields_end in record { took = λ x. rw (append-nil (T x.0)) at (z.took x) }

pub maybe_none : {f : Fmt} {s : List ℕ} {c : Cursor} (has : ℕ) → has ≡ 0 → Maybe has f s c c (λ n. [])
unfolding fork
maybe_none {c = c} has z = record { took = λ x. rw z (reads_ok [] 0 (marked-nil c)) }

pub maybe_some : {f : Fmt} {s : List ℕ} {c d : Cursor} {T : ℕ → List Rec} (has : ℕ) → (has ≡ 0 → ⊥) → Takes f s c d T → Maybe has f s c d T
unfolding fork
maybe_some {f} {s} {c} {d} {T} has n h = record { took = λ x. set has n x }
  where
    set : (v : ℕ) → (v ≡ 0 → ⊥) → (x : Ctx) → Reads (λ u p. fork v (ok p [] 0) (read f x (bit_of s) u p)) s c d (T x.0)
    set zero y x = absurd (y refl)
    set (suc v) y x = h.took x

---------------------------------------------------------------- sequences

-- no field is known from its presence bit alone
unfoldable pub all_read : Flds → Bool
all_read end = true
all_read (f ⨾ fs) = all_read fs
all_read (f ⨾? fs) = all_read fs
all_read (or_note t v y f fs) = all_read fs
all_read (unread t fs) = false

pub read_unmarked : (fs : Flds) (b : ℕ → ℕ) (q : ℕ) → all_read fs ≡ true → unread_marks fs b q ≡ 0
unfolding all_read unread_marks
read_unmarked end b q h = refl
read_unmarked (f ⨾ fs) b q h = read_unmarked fs b q h
read_unmarked (f ⨾? fs) b q h = read_unmarked fs b (suc q) h
read_unmarked (or_note t v y f fs) b q h = read_unmarked fs b (suc q) h
read_unmarked (unread t fs) b q h = let z : ◌≡◌ {A = ℕ} 0 1 = cc in absurd (omega arith)

-- without presence bits
pub reads_plain : (fs : Flds) (x : Ctx) {s : List ℕ} {c d : Cursor} {R : List Rec} → flags fs ≡ 0 → all_read fs ≡ true → Reads (λ u p. read_fields fs x (bit_of s) u c.at p) s c d R → Reads (λ u p. read (seq fs) x (bit_of s) u p) s c d R
unfolding read
reads_plain fs x {s} {c} n a h = record { led = λ i. (reads_same (λ u p. read_fields fs x (bit_of s) u c.at p) (λ u p. read (seq fs) x (bit_of s) u p) (same i) h).led i }
  where
    same : Inside s c → read_fields fs x (bit_of s) c.end c.at c.at ≡ read (seq fs) x (bit_of s) c.end c.at
    same i =
        sym
        (fetch_go (bit_of s) c.end c.at (flags fs) _ _ (omega (arith, i.0))
        ∙ rw (read_unmarked fs (bit_of s) c.at a, n, add-zero c.at) (then-nil c.at (λ p. read_fields fs x (bit_of s) c.end c.at p)))

pub takes_plain : {fs : Flds} {s : List ℕ} {c d : Cursor} {T : ℕ → List Rec} → flags fs ≡ 0 → all_read fs ≡ true → Fields fs s c d c.at T → Takes (seq fs) s c d T
takes_plain {fs} n a h = record { took = λ x. reads_plain fs x n a (h.took x) }

-- with n of them, which were opened; that the cursor is inside its window may be used of the fields
pub takes_opened : {fs : Flds} {s : List ℕ} {c d : Cursor} {T : ℕ → List Rec} (n : ℕ) (g : Got ℕ) → flags fs ≡ n → all_read fs ≡ true → Opens s c n g → (Inside s c → Fields fs s g.c d c.at T) → Takes (seq fs) s c d T
unfolding read
takes_opened {fs} {s} {c} {d} {T} n g f a o h = record { took = λ x. record { led = λ i. go x i (o.gave i) ((h i).took x) } }
  where
    go : (x : Ctx) → Inside s c → Opened s c n g → Reads (λ u p. read_fields fs x (bit_of s) u c.at p) s g.c d (T x.0) → Led (λ u p. read (seq fs) x (bit_of s) u p) c d (T x.0)
    go x i (shut_already z q) r = stayed z (led_stays _ g.c d (rw q z) (r.led (rw q i)) ∙ q)
    go x i (ran_short z l q) r =
        let e : c.at + (c.end - c.at) ≡ c.end = omega (arith, i.0) in
        let m = read_unmarked fs (within (bit_of s) c.end) c.at a in
        failed (out 1) c.end 0 [] (λ y. omega arith) z (fetch_no (bit_of s) c.end c.at (flags fs) _ _ (omega arith) ∙ rw (e, m)) (omega arith)
        (led_stays _ g.c d (rw q (λ y. omega arith)) (r.led (rw q (omega arith, i.1))) ∙ q ∙ rw (or_nil c.marks))
    go x i (opened z l v q) r =
        led_from (λ u p. read_fields fs x (bit_of s) u c.at p) (λ u p. read (seq fs) x (bit_of s) u p) z q
        (sym (fetch_go (bit_of s) c.end c.at (flags fs) _ _ (omega arith) ∙ rw (read_unmarked fs (bit_of s) c.at a, f) (then-nil (c.at + n) (λ p. read_fields fs x (bit_of s) c.end c.at p))))
        (r.led (rw q (l, i.1)))

pub opened_inside : {s : List ℕ} {c : Cursor} {n : ℕ} {g : Got ℕ} → Inside s c → Opens s c n g → Inside s g.c
opened_inside {s} {c} {n} {g} i o = go (o.gave i)
  where
    go : Opened s c n g → Inside s g.c
    go (shut_already h q) = rw q i
    go (ran_short h l q) = rw q (omega arith, i.1)
    go (opened h l v q) = rw q (l, i.1)

-- a reading that goes on went on before
pub reads_back : {s : List ℕ} {c d : Cursor} {R : List Rec} (k : ℕ → ℕ → Ans) → Reads k s c d R → Inside s c → (Inside s d) × (d.why ≡ 0 → c.why ≡ 0)
reads_back {s} {c} {d} {R} k r i = (led_inside k s c d (r.led i) i, λ z. go z (r.led i))
  where
    go : d.why ≡ 0 → Led k c d R → c.why ≡ 0
    go z (stayed h q) = rw q at z
    go z (went p m y a l q) = y
    go z (failed w p m S n y a l q) = y

pub maybe_back : {has : ℕ} {f : Fmt} {s : List ℕ} {c d : Cursor} {T : ℕ → List Rec} → Maybe has f s c d T → Inside s c → (Inside s d) × (d.why ≡ 0 → c.why ≡ 0)
maybe_back {has} {f} {s} h i = reads_back (λ u p. fork has (ok p [] 0) (read f (0, 0) (bit_of s) u p)) (h.took (0, 0)) i

pub takes_back : {f : Fmt} {s : List ℕ} {c d : Cursor} {T : ℕ → List Rec} → Takes f s c d T → Inside s c → (Inside s d) × (d.why ≡ 0 → c.why ≡ 0)
takes_back {f} {s} h i = reads_back (λ u p. read f (0, 0) (bit_of s) u p) (h.took (0, 0)) i

-- a presence bit, out of the number of n of them
pub opened-bit : {s : List ℕ} {c : Cursor} {n : ℕ} {g : Got ℕ} (j : ℕ) → Inside s c → Opens s c n g → j < n → g.c.why ≡ 0 → g.v / 2 ^ (n - 1 - j) % 2 ≡ bit_of s (c.at + j)
opened-bit {s} {c} {n} {g} j i o l z = go (o.gave i)
  where
    go : Opened s c n g → g.v / 2 ^ (n - 1 - j) % 2 ≡ bit_of s (c.at + j)
    go (shut_already h q) = absurd (h (rw q at z))
    go (ran_short h k q) = absurd (let y : number (out 1) ≡ 0 = rw q at z in omega arith)
    go (opened h k v q) = rw v (bit-of s c.at j (n - 1 - j) n (omega arith))

-- the last of them
pub last_bit : {s : List ℕ} {c : Cursor} {g : Got ℕ} (n : ℕ) → Inside s c → Opens s c (suc n) g → g.c.why ≡ 0 → g.v % 2 ≡ bit_of s (c.at + n)
last_bit {s} {c} {g} n i o z =
    let e : suc n - 1 - n ≡ 0 = omega arith in
    let y : g.v / 2 ^ (suc n - 1 - n) % 2 ≡ bit_of s (c.at + n) = opened-bit n i o (omega arith) z in
    let x : g.v / 2 ^ 0 ≡ g.v = omega arith in
    ap (λ (v : ℕ). v % 2) (sym x) ∙ (rw e at y)

---------------------------------------------------------------- lists of a fixed size

pub times_none : {f : Fmt} {i : ℕ} {s : List ℕ} {c : Cursor} → Times f i 0 s c c (λ n. [])
unfolding times
times_none {c = c} = record { took = λ x. reads_ok [] 0 (marked-nil c) }

pub times_more : {f : Fmt} {i n : ℕ} {s : List ℕ} {c d e : Cursor} {T U : ℕ → List Rec} → Takes f s c d T → Times f (suc i) n s d e U → Times f i (suc n) s c e (λ n. T n ++ U n)
unfolding times
times_more {f} {i} {n} {s} h g = record { took = λ x. reads_then (λ u p. read f (x.0, i) (bit_of s) u p) (λ u p. times (λ j q. read f (x.0, j) (bit_of s) u q) (suc i) n p) (h.took (x.0, i)) (g.took x) }

pub takes_times : {f : Fmt} {s : List ℕ} {c d : Cursor} {T : ℕ → List Rec} (n : ℕ) → Times f 1 n s c d T → Takes (many n n f) s c d T
unfolding read width width_in size_bits bits_of Spells
takes_times {f} {s} {c} {d} {T} n h = record { took = λ x. record { led = λ i. (reads_same (λ u p. times (λ j q. read f (x.0, j) (bit_of s) u q) 1 n p) (λ u p. read (many n n f) x (bit_of s) u p) (same x i) (h.took x)).led i } }
  where
    same : (x : Ctx) → Inside s c → times (λ j q. read f (x.0, j) (bit_of s) c.end q) 1 n c.at ≡ read (many n n f) x (bit_of s) c.end c.at
    same x i =
        let e : n - n ≡ 0 = omega arith in
        let w : width (n - n) ≡ 0 = rw e in
        sym (sized_go (bit_of s) c.end c.at n n n _ (omega arith) (omega arith) (rw w tt) (omega (arith, i.0)) ∙ ap (λ (p : ℕ). times (λ j q. read f (x.0, j) (bit_of s) c.end q) 1 n p) (omega arith))
