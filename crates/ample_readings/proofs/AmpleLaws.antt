-- What is read and told with ample room: how what was told goes together.
use Rattle.std.proofs.Common.{◌≡◌, ℕ, suc, ◌+◌, ◌-◌, ◌*◌, ◌%◌, ◌^◌, ◌<◌, ◌≤◌, true, List, [], ◌++◌, length, take, sym, ◌∙◌, append-nil, arith}
use Rattle.atn.specs.Format.{Fmt, Flds, seq, end, ◌⨾◌}
use Rattle.atn.specs.Reading.{Rec, or, flags}
use Rattle.atn.specs.Entries.{flat}
use Rattle.records.specs.Space.{space}
use Rattle.records.specs.Told.{Told}
use Rattle.records.proofs.Sizes.{space_grows}
use Rattle.records.proofs.Telling.{Room, room_next, told-then, told-within}
use Rattle.cursor.proofs.FormatLaws.{all_read}
use Rattle.ample_bits.specs.Ahead.{Ahead}
use Rattle.ample_bits.proofs.AheadLaws.{ahead-next}
use Rattle.ample_readings.specs.declared.Step.{Step}
use Rattle.ample_readings.specs.Sure.{Sure, SureFields}
use Rattle.ample_readings.specs.Ample.{Done, DoneFields, Ample, Fixed}
use Rattle.ample_readings.proofs.SureLaws.{sure_plain, sure_must, sure_last}

module _ {b j : ℕ} {f : Fmt} {s : List ℕ} {at n : ℕ} {w w' : List ℕ} {r : Step} where
  pub ample_done : Done b j f s at n w w' r → Ample b j f s at n w w' r
  ample_done d = record { room = d.told.room; before = d.told.before; done = λ _. d }

  pub done_of : {R : List Rec} → ((i : ℕ) → Sure f (0, i) s at r.at R r.marks) → r.at ≤ at + j → Told b w w' n r.n R → Done b j f s at n w w' r
  done_of y l t = record { recs = _; sure = y; near = l; told = t }

  -- at most so many records and bits more
  pub done-within : {c k : ℕ} → Done b j f s at n w w' r → b ≤ c → j ≤ k → Done c k f s at n w w' r
  done-within {c = c} d h l = record { recs = d.recs; sure = d.sure; near = omega (arith, d.near); told = told-within c h d.told }

  -- given up, nothing was told
  pub ample_untold : Ample b j f s at n w w' r → Told 0 w w' n n []
  unfolding flat
  ample_untold a = record { count = omega arith; few = omega arith; room = a.room; before = a.before; words = λ _. a.before ∙ sym (append-nil (take (space n) w)) }

  -- what was told before it was given up does not count
  pub ample_none : {a m : ℕ} {R : List Rec} → Told a w w' n m R → r.at ≡ 0 → Ample b j f s at n w w' r
  ample_none t z = record { room = t.room; before = t.before; done = λ h. absurd (h z) }

-- room for j records more than the n that are there
pub room_of : (j n : ℕ) (w : List ℕ) → n < 2 ^ 31 → j ≤ 64 → space (n + j) ≤ length w → Room j n w
room_of j n w h k l = record { few = omega arith; enough = l }

pub room_fewer : {j m : ℕ} {w : List ℕ} (k : ℕ) → Room j m w → k ≤ j → space (m + k) ≤ length w
room_fewer {j} {m} k r h = let l : m + k ≤ m + j = omega arith in omega (arith, r.enough, space_grows l)

pub room_after : {a j m m' : ℕ} {w w' : List ℕ} {R : List Rec} (k : ℕ) → Room j m w → Told a w w' m m' R → a + k ≤ j → space (m' + k) ≤ length w'
room_after {a} {j} {m} {m'} k r t h = let l : m' + k ≤ m + j = omega (arith, t.few) in omega (arith, r.enough, t.room, space_grows l)

-- records that were told before, and a reading from d bits further on, with the marks of both
pub ample_marked : {a b c j k o : ℕ} (d : ℕ) {f g : Fmt} {s : List ℕ} {at p n m : ℕ} {w w₁ w₂ : List ℕ} {r : Step} {R : List Rec} → Told a w w₁ n m R → Ample b j f s p m w₁ w₂ r
    → a + b ≤ c → p ≤ at + d → d + j ≤ k → ((i : ℕ) (S : List Rec) → Sure f (0, i) s p r.at S r.marks → Sure g (0, i) s at r.at (R ++ S) o) → Ample c k g s at n w w₂ (record { at = r.at; n = r.n; marks = o })
ample_marked {c = c} d t x l o q h =
    let u = told-then t (ample_untold x) in
    record {
      room = u.room;
      before = u.before;
      done = λ z. (let y = x.done z in record { recs = _; sure = λ i. h i y.recs (y.sure i); near = omega (arith, y.near); told = told-within c l (told-then t y.told) });
    }

-- the same where what was told before has no marks
pub ample_before : {a b c j k : ℕ} (d : ℕ) {f g : Fmt} {s : List ℕ} {at p n m : ℕ} {w w₁ w₂ : List ℕ} {r : Step} {R : List Rec} → Told a w w₁ n m R → Ample b j f s p m w₁ w₂ r
    → a + b ≤ c → p ≤ at + d → d + j ≤ k → ((i : ℕ) (S : List Rec) → Sure f (0, i) s p r.at S r.marks → Sure g (0, i) s at r.at (R ++ S) r.marks) → Ample c k g s at n w w₂ r
ample_before d t x l o q h = ample_marked d t x l o q h

-- one reading after another
pub ample_after : {a b c j k l : ℕ} {f g h : Fmt} {s : List ℕ} {at n m : ℕ} {w w₁ w₂ : List ℕ} {r r₁ : Step} → Done a j f s at n w w₁ r → Ample b k g s r.at r.n w₁ w₂ r₁
    → a + b ≤ c → j + k ≤ l → ((R S : List Rec) → ((i : ℕ) → Sure f (0, i) s at r.at R r.marks) → ((i : ℕ) → Sure g (0, i) s r.at r₁.at S r₁.marks) → (i : ℕ) → Sure h (0, i) s at r₁.at (R ++ S) m)
    → Ample c l h s at n w w₂ (record { at = r₁.at; n = r₁.n; marks = m })
ample_after {c = c} d x l o h =
    let u = told-then d.told (ample_untold x) in
    record {
      room = u.room;
      before = u.before;
      done = λ z. (let y = x.done z in record { recs = _; sure = h d.recs y.recs d.sure y.sure; near = omega (arith, d.near, y.near); told = told-within c l (told-then d.told y.told) });
    }

pub done_fields : {b j : ℕ} {fs : Flds} {s : List ℕ} {at n : ℕ} {w w' : List ℕ} {r : Step} {R : List Rec} → ((i q : ℕ) → SureFields fs (0, i) s q at r.at R r.marks) → r.at ≤ at + j → Told b w w' n r.n R → DoneFields b j fs s at n w w' r
done_fields y l t = record { recs = _; sure = y; near = l; told = t }

-- the fields of a sequence without presence bits, one after another
module _ {b j : ℕ} {f : Fmt} {s : List ℕ} {at n : ℕ} {w w₁ : List ℕ} {r : Step} (d : Done b j f s at n w w₁ r) where
  pub done_last : DoneFields b j (f ⨾ end) s at n w w₁ r
  done_last = done_fields (λ i q. sure_last {q = q} (d.sure i)) d.near d.told

  pub done_must : {c k : ℕ} {fs : Flds} {w₂ : List ℕ} {r₁ : Step} → DoneFields c k fs s r.at r.n w₁ w₂ r₁ → DoneFields (b + c) (j + k) (f ⨾ fs) s at n w w₂ (record { at = r₁.at; n = r₁.n; marks = or r.marks r₁.marks })
  done_must e = done_fields (λ i q. sure_must {q = q} (d.sure i) (e.sure i q)) (omega (arith, d.near, e.near)) (told-then d.told e.told)

pub done_plain : {b j : ℕ} {fs : Flds} {s : List ℕ} {at n : ℕ} {w w' : List ℕ} {r : Step} → flags fs ≡ 0 → all_read fs ≡ true → DoneFields b j fs s at n w w' r → Done b j (seq fs) s at n w w' r
done_plain {at = at} p a d = done_of (λ i. sure_plain p a (d.sure i at)) d.near d.told

-- what is asked for a number, where there is room for one record or more
pub number-room : {j m : ℕ} {w : List ℕ} (at k : ℕ) → Room (suc j) m w → at < 2 ^ 62 → 1 ≤ k → (m < 2 ^ 32) × (space (m + 1) ≤ length w) × (at < 2 ^ 62) × (1 ≤ k)
number-room {m = m} at k r h l = let o = room_next m r in (o.0, o.1, h, l)

-- formats of a known number of bits, one behind another
module _ {b k v at n : ℕ} {f : Fmt} {w w₁ : List ℕ} {r : Step} where
  pub fixed_by : {i : ℕ} → i ≡ k → Fixed b i f v at n w w₁ r → Fixed b k f v at n w w₁ r
  fixed_by e x = rw e at x

  module _ (x : Fixed b k f v at n w w₁ r) where
    -- room for what follows
    pub fixed_room : {i : ℕ} (j : ℕ) → length w₁ ≡ length w → Room i n w → b + j ≤ i → Room j r.n w₁
    fixed_room {i} j l o h = let e : r.n + j ≤ n + i = omega (arith, x.count) in record { few = omega (arith, o.few); enough = omega (arith, o.enough, space_grows e) }

    module _ {s : List ℕ} {j : ℕ} (a : Ahead s at j v) (l : k ≤ j) where
      pub fixed_last : DoneFields b k (f ⨾ end) s at n w w₁ r
      fixed_last = done_last (x.done s j a l)

      -- the next has the bits behind it ahead
      pub fixed_then : {c d i m : ℕ} {fs : Flds} {w₂ : List ℕ} {r₁ : Step} → i ≡ k → d ≡ v * 2 ^ i % 2 ^ 64 → (Ahead s r.at (j - k) d → DoneFields c m fs s r.at r.n w₁ w₂ r₁)
          → DoneFields (b + c) (k + m) (f ⨾ fs) s at n w w₂ (record { at = r₁.at; n = r₁.n; marks = or r.marks r₁.marks })
      fixed_then e g next = done_must (x.done s j a l) (next (ahead-next k a x.to (rw e at g) l))
