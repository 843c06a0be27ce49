-- What a function that writes a part owes: the list is refused where no value is got from it; else the value's bits are put, and the rest of the list is left.
use Rattle.std.specs.Prelude.{◌≡◌, true, false, List, ℕ, ◌+◌, ◌≤◌, length}
use Rattle.x691.specs.Bits.{bits_of}
use Rattle.x691.specs.Types.{Value}
use Rattle.x691.specs.Encoding.{joined, preamble, encode, encode_members}
use Rattle.atn.specs.Format.{Fmt, Flds, type_of, members_of}
use Rattle.atn.specs.Reading.{Ctx}
use Rattle.bit_writer.specs.Put.{set_bits}
use Rattle.record_lists.specs.Items.{Item}
use Rattle.record_lists.specs.Clear.{firsts}
use Rattle.record_lists.specs.Parse.{Got, no, got, opens, several, parse, parse_fields}
use Rattle.pens.specs.Stand.{Stand}
use Rattle.pens.specs.Rest.{items}

-- no message has as many bits: what is put and where the pen stands is promised up to here
abbrev pub limit : ℕ
limit = 4294967296

-- The pen goes from p to q, the bytes from X to Y: the value v is got, with the items S left. T are the items from a record on, of m records in all; enc are the bits of a value.
pub record Took {A : Type 0} (enc : A → List ℕ) (T : ℕ → List Item) (m : ℕ) (p : Stand) (X : List ℕ) (q : Stand) (Y : List ℕ) (v : A) (S : List Item) : Type 0 where
  pub on : q.off ≡ false
  pub left : S ≡ T q.next
  pub fits : q.next ≤ m
  pub wrote : p.at + length (enc v) ≤ limit → (q.at ≡ p.at + length (enc v)) × (Y ≡ set_bits X p.at (enc v))

abbrev pub Wrote : {A : Type 0} → (A → List ℕ) → (ℕ → List Item) → ℕ → Stand → List ℕ → Stand → List ℕ → Got A → Type 0
Wrote enc T m p X q Y no = q.off ≡ true
Wrote enc T m p X q Y (got v S) = Took enc T m p X q Y v S

-- g gets the value from the items that are left
pub record Writes {A : Type 0} (enc : A → List ℕ) (g : List Item → Got A) (T : ℕ → List Item) (m : ℕ) (p : Stand) (X : List ℕ) (q : Stand) (Y : List ℕ) : Type 0 where
  pub still : p.off ≡ true → q.off ≡ true
  pub goes : p.off ≡ false → p.next ≤ m → Wrote enc T m p X q Y (g (T p.next))

-- n bits of v, and no record
pub record Inks (p : Stand) (X : List ℕ) (n v : ℕ) (q : Stand) (Y : List ℕ) : Type 0 where
  pub next_stays : q.next ≡ p.next
  pub off_stays : q.off ≡ p.off
  pub puts : p.at ≤ limit → (q.at ≡ p.at + n) × (Y ≡ set_bits X p.at (bits_of n v))

-- n bits are left out, to be put later
pub record Skips (p : Stand) (n : ℕ) (q : Stand) : Type 0 where
  pub next_stays : q.next ≡ p.next
  pub off_stays : q.off ≡ p.off
  pub moves : p.at ≤ limit → q.at ≡ p.at + n

-- a part of the format f, in the context x, from the list in the words W, of m records, whose spans point into the bits b
abbrev pub Part : Fmt → Ctx → (ℕ → ℕ) → List ℕ → ℕ → Stand → List ℕ → Stand → List ℕ → Type 0
Part f x b W m p X q Y = Writes (λ v. encode (type_of f) v) (λ R. parse f x R) (λ i. items b W m i) m p X q Y

-- The same of the members of a sequence, whose presence bits are put from the place fl on, before the members.
pub record TookMembers {A : Type 0} (fl : ℕ) (presence enc : A → List ℕ) (T : ℕ → List Item) (m : ℕ) (p : Stand) (X : List ℕ) (q : Stand) (Y : List ℕ) (v : A) (S : List Item) : Type 0 where
  pub on : q.off ≡ false
  pub left : S ≡ T q.next
  pub fits : q.next ≤ m
  pub wrote : fl + length (presence v) ≤ p.at → p.at + length (enc v) ≤ limit → (q.at ≡ p.at + length (enc v)) × (Y ≡ set_bits (set_bits X fl (presence v)) p.at (enc v))

abbrev pub WroteMembers : {A : Type 0} → ℕ → (A → List ℕ) → (A → List ℕ) → (ℕ → List Item) → ℕ → Stand → List ℕ → Stand → List ℕ → Got A → Type 0
WroteMembers fl presence enc T m p X q Y no = q.off ≡ true
WroteMembers fl presence enc T m p X q Y (got v S) = TookMembers fl presence enc T m p X q Y v S

pub record WritesMembers {A : Type 0} (fl : ℕ) (presence enc : A → List ℕ) (g : List Item → Got A) (T : ℕ → List Item) (m : ℕ) (p : Stand) (X : List ℕ) (q : Stand) (Y : List ℕ) : Type 0 where
  pub still : p.off ≡ true → q.off ≡ true
  pub goes : p.off ≡ false → p.next ≤ m → WroteMembers fl presence enc T m p X q Y (g (T p.next))

abbrev pub Members : ℕ → Flds → Ctx → (ℕ → ℕ) → List ℕ → ℕ → Stand → List ℕ → Stand → List ℕ → Type 0
Members fl fs x b W m p X q Y =
    WritesMembers fl (λ vs. preamble (members_of fs) vs) (λ vs. encode_members (members_of fs) vs) (λ R. parse_fields fs x R) (λ i. items b W m i) m p X q Y

-- Members of a list, n at most, the first in place i: those that are there, and how many.
pub record Repeats (f : Fmt) (e i n : ℕ) (b : ℕ → ℕ) (W : List ℕ) (m : ℕ) (p : Stand) (X : List ℕ) (q : Stand) (Y : List ℕ) (count : ℕ) : Type 0 where
  pub writes : Writes (λ vs. joined (λ v. encode (type_of f) v) vs) (λ R. several (λ j S. parse f (e, j) S) (λ S. opens (firsts f) S) i n R) (λ j. items b W m j) m p X q Y
  pub counts : p.off ≡ false → p.next ≤ m → (vs : List (Value (type_of f))) (S : List Item) → several (λ j S. parse f (e, j) S) (λ S. opens (firsts f) S) i n (items b W m p.next) ≡ got vs S → length vs ≡ count
  pub few : count ≤ n
