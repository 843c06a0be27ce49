-- What is told as it is read, in the element en: one part after another, optional parts, sequences.
use mathlib.Core.Path.{◌≡◌, refl, ap}
use mathlib.Core.Bool.{true}
use mathlib.Core.List.{List, [], ◌++◌}
use Prim.Native.Nat.{ℕ, suc, ◌+◌, ◌-◌, ◌/◌, ◌%◌, ◌^◌, ◌≤◌, ◌<◌}
use native.Mathlib.Nat.{add-zero, add-suc}
use native.Mathlib.Omega.{arith}
use lib.ListN.{length}
use Rattle.x691.specs.Bits.{bit_of}
use Rattle.atn.specs.Format.{Fmt, Why, refuse, seq, Flds, end, ◌⨾◌, ◌⨾?◌}
use Rattle.atn.specs.Reading.{Rec, flags}
use Rattle.cursor.specs.declared.place.Cursor.{Cursor}
use Rattle.cursor.specs.declared.place.Got.{Got}
use Rattle.cursor.specs.Place.{number, stopped, Inside, Opens, Takes}
use Rattle.cursor.specs.Formats.{Fields, Maybe}
use Rattle.cursor.proofs.FormatLaws.{all_read, takes_plain, takes_opened, takes_refuse, fields_must, fields_last, fields_may, fields_last_may, maybe_none, maybe_some, maybe_back, takes_back, opened_inside, opened-bit, last_bit}
use Rattle.records.specs.Told.{Told}
use Rattle.records.proofs.Telling.{told_none, told-then, told-within, told-length}
use Rattle.runs.specs.declared.At.{At}
use Rattle.told_fields.specs.Does.{Does}

-- what is read between two cursors, and what of it is told in an element
abbrev Reading : Type 1
Reading = Cursor → Cursor → (ℕ → List Rec) → Type 0

module _ {en : ℕ} {P : Reading} {a z : At} {w w' : List ℕ} where
  pub does_length : {b : ℕ} → Does b en P a z w w' → length w' ≡ length w
  does_length x = told-length x.told

  -- a wider bound
  pub does_within : {j : ℕ} (k : ℕ) → j ≤ k → Does j en P a z w w' → Does k en P a z w w'
  does_within k h x = record { recs = x.recs; reads = x.reads; told = told-within k h x.told }

  -- the same, as another reading
  pub does_as : {j : ℕ} {Q : Reading} → ((T : ℕ → List Rec) → P a.c z.c T → Q a.c z.c T) → Does j en P a z w w' → Does j en Q a z w w'
  does_as h x = record { recs = x.recs; reads = h x.recs x.reads; told = x.told }

-- what was read of a format, told
pub does_told : {en b m : ℕ} {f : Fmt} {s : List ℕ} {a : At} {d : Cursor} {w w' : List ℕ} {T : ℕ → List Rec} → Takes f s a.c d T → Told b w w' a.n m (T en) → Does b en (Takes f s) a (record { n = m; c = d }) w w'
does_told {T = T} r t = record { recs = T; reads = r; told = t }

-- nothing is told
pub does_quiet : {en : ℕ} {P : Reading} {a z : At} {w : List ℕ} → z.n ≡ a.n → P a.c z.c (λ n. []) → Does 0 en P a z w w
does_quiet e r = record { recs = λ n. []; reads = r; told = rw e told_none }

-- the reading stops
pub does_refused : {en : ℕ} {s : List ℕ} {a z : At} {v : List ℕ} (w : Why) (m : ℕ) → (number w ≡ 0 → ⊥) → z ≡ record { n = a.n; c = stopped a.c (number w) m } → Does 0 en (Takes (refuse w m) s) a z v v
does_refused w m n e = does_quiet (ap (λ (y : At). y.n) e) (takes_refuse w m n (ap (λ (y : At). y.c) e))

-- one after another
pub does_then : {en : ℕ} {P Q R : Reading} {a m z : At} {w w₁ w₂ : List ℕ} {j k : ℕ} → ((T U : ℕ → List Rec) → P a.c m.c T → Q m.c z.c U → R a.c z.c (λ n. T n ++ U n))
    → Does j en P a m w w₁ → Does k en Q m z w₁ w₂ → Does (j + k) en R a z w w₂
does_then h x y = record { recs = λ n. x.recs n ++ y.recs n; reads = h x.recs y.recs x.reads y.reads; told = told-then x.told y.told }

---------------------------------------------------------------- optional parts

module _ {en : ℕ} {f : Fmt} {s : List ℕ} {has : ℕ} {a : At} {w : List ℕ} where
  pub does_none : (k : ℕ) → has ≡ 0 → Does k en (Maybe has f s) a a w w
  does_none k e = does_within k (omega arith) (does_quiet refl (maybe_none has e))

  pub does_some : {k : ℕ} {z : At} {w' : List ℕ} → (has ≡ 0 → ⊥) → Does k en (Takes f s) a z w w' → Does k en (Maybe has f s) a z w w'
  does_some n x = does_as (λ T h. maybe_some has n h) x

---------------------------------------------------------------- sequences without presence bits

abbrev pub FieldsAt : Flds → List ℕ → ℕ → Reading
FieldsAt fs s q c d T = Fields fs s c d q T

module _ {en : ℕ} {s : List ℕ} {a m z : At} {w w₁ w₂ : List ℕ} {j k : ℕ} where
  pub does_must : {f : Fmt} {fs : Flds} {q : ℕ} → Does j en (Takes f s) a m w w₁ → Does k en (FieldsAt fs s q) m z w₁ w₂ → Does (j + k) en (FieldsAt (f ⨾ fs) s q) a z w w₂
  does_must x y = does_then (λ T U h g. fields_must h g) x y

module _ {en : ℕ} {s : List ℕ} {a z : At} {w w' : List ℕ} {b : ℕ} where
  pub does_last : {f : Fmt} {q : ℕ} → Does b en (Takes f s) a z w w' → Does b en (FieldsAt (f ⨾ end) s q) a z w w'
  does_last x = does_as (λ T h. fields_last h) x

  pub does_plain : {fs : Flds} → flags fs ≡ 0 → all_read fs ≡ true → Does b en (FieldsAt fs s a.c.at) a z w w' → Does b en (Takes (seq fs) s) a z w w'
  does_plain f r x = does_as (λ T h. takes_plain f r h) x

---------------------------------------------------------------- sequences with presence bits

-- the fields behind the first i presence bits of a sequence that begins at o
pub record FieldsFrom (fs : Flds) (s : List ℕ) (o : Cursor) (i : ℕ) (c d : Cursor) (T : ℕ → List Rec) : Type 0 where
  pub fields : Inside s o → Fields fs s c d (o.at + i) T

-- a reading of the sequence that goes on at c went on behind its presence bits, at g
pub record Since (s : List ℕ) (o g c : Cursor) : Type 0 where
  pub inside : Inside s o → Inside s c
  pub goes : Inside s o → c.why ≡ 0 → g.why ≡ 0

-- the part's presence bit is the one numbered i
pub record Shown (has : ℕ) (s : List ℕ) (o c : Cursor) (i : ℕ) : Type 0 where
  pub bit : Inside s o → c.why ≡ 0 → has ≡ bit_of s (o.at + i)

module _ {s : List ℕ} {o : Cursor} {n : ℕ} {g : Got ℕ} (p : Opens s o n g) where
  pub since_opened : Since s o g.c g.c
  since_opened = record { inside = λ i. opened_inside i p; goes = λ i z. z }

  pub shown : {c : Cursor} (j : ℕ) → j < n → Since s o g.c c → Shown (g.v / 2 ^ (n - 1 - j) % 2) s o c j
  shown j l h = record { bit = λ i z. opened-bit j i p l (h.goes i z) }

-- the last of them
pub shown_last : {s : List ℕ} {o c : Cursor} {g : Got ℕ} (n : ℕ) → Opens s o (suc n) g → Since s o g.c c → Shown (g.v % 2) s o c n
shown_last n p h = record { bit = λ i z. last_bit n i p (h.goes i z) }

module _ {en : ℕ} {s : List ℕ} {o g : Cursor} {a z : At} {w w' : List ℕ} {b : ℕ} where
  pub since_takes : {f : Fmt} → Since s o g a.c → Does b en (Takes f s) a z w w' → Since s o g z.c
  since_takes h x = record { inside = λ i. (takes_back x.reads (h.inside i)).0; goes = λ i e. h.goes i ((takes_back x.reads (h.inside i)).1 e) }

  pub since_maybe : {f : Fmt} {has : ℕ} → Since s o g a.c → Does b en (Maybe has f s) a z w w' → Since s o g z.c
  since_maybe h x = record { inside = λ i. (maybe_back x.reads (h.inside i)).0; goes = λ i e. h.goes i ((maybe_back x.reads (h.inside i)).1 e) }

module _ {en : ℕ} {s : List ℕ} {o : Cursor} {a m z : At} {w w₁ w₂ : List ℕ} {j k i : ℕ} {f : Fmt} {fs : Flds} where
  pub from_must : Does j en (Takes f s) a m w w₁ → Does k en (FieldsFrom fs s o i) m z w₁ w₂ → Does (j + k) en (FieldsFrom (f ⨾ fs) s o i) a z w w₂
  from_must x y = does_then (λ T U h g. record { fields = λ l. fields_must h (g.fields l) }) x y

  pub from_may : {has : ℕ} → Shown has s o a.c i → Does j en (Maybe has f s) a m w w₁ → Does k en (FieldsFrom fs s o (suc i)) m z w₁ w₂ → Does (j + k) en (FieldsFrom (f ⨾? fs) s o i) a z w w₂
  from_may {has} p x y = does_then (λ T U h g. record { fields = λ l. fields_may has (p.bit l) h (rw (add-suc o.at i) at (g.fields l)) }) x y

module _ {en : ℕ} {s : List ℕ} {o : Cursor} {a z : At} {w w' : List ℕ} {b i : ℕ} {f : Fmt} where
  pub from_last : Does b en (Takes f s) a z w w' → Does b en (FieldsFrom (f ⨾ end) s o i) a z w w'
  from_last x = does_as (λ T h. record { fields = λ l. fields_last h }) x

  pub from_last_may : {has : ℕ} → Shown has s o a.c i → Does b en (Maybe has f s) a z w w' → Does b en (FieldsFrom (f ⨾? end) s o i) a z w w'
  from_last_may {has} p x = does_as (λ T h. record { fields = λ l. fields_last_may has (p.bit l) h }) x

-- the cursor behind what was read before anything of it is told
abbrev pub behind : Got ℕ → At → At
behind g a = record { n = a.n; c = g.c }

pub does_opened : {en : ℕ} {fs : Flds} {s : List ℕ} {a z : At} {w w' : List ℕ} {b : ℕ} (n : ℕ) (g : Got ℕ) → flags fs ≡ n → all_read fs ≡ true → Opens s a.c n g
    → Does b en (FieldsFrom fs s a.c 0) (behind g a) z w w' → Does b en (Takes (seq fs) s) a z w w'
does_opened {a = a} n g f r p x = record { recs = x.recs; reads = takes_opened n g f r p (λ i. rw (add-zero a.c.at) at (x.reads.fields i)); told = x.told }
