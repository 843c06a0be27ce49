-- What stands in an inner string, read as a part of the frame and closed.
use mathlib.Core.Path.{◌≡◌, refl, sym, ◌∙◌}
use mathlib.Core.Bool.{Bool, true, false}
use mathlib.Core.List.{List}
use Prim.Native.Nat.{ℕ, ◌+◌, ◌-◌, ◌*◌, ◌/◌, ◌%◌, ◌≤◌, ◌<◌}
use native.Mathlib.Omega.{arith}
use lib.ListN.{length, take, drop, length-take, length-drop}
use lib.Dec.{leb, eqb}
use borrow.Author.Tests.{leb-true, leb-false, eqb-true, eqb-false}
use Rattle.x691.specs.Bits.{bit_of}
use Rattle.atn.specs.Format.{Fmt, inner}
use Rattle.atn.specs.Reading.{read}
use Rattle.atn.proofs.Shift.{placeless}
use Rattle.cursor.specs.declared.place.Cursor.{Cursor}
use Rattle.cursor.specs.declared.place.Got.{Got}
use Rattle.length_determinants.specs.Lengths.{Measures, Passes}
use Rattle.cursor.specs.Place.{stopped, Inside}
use Rattle.records.specs.Space.{space}
use Rattle.records.specs.Moves.{raised_places}
use Rattle.runs.specs.declared.At.{At}
use Rattle.runs.specs.Runs.{Runs}
use Rattle.runs.specs.Windows.{closed, Tells}
use Rattle.runs.proofs.InnerLaws.{inner_lost, inner_read, inner_off}
use Rattle.inner_strings.specs.declared.Inner.{Inner}
use Rattle.inner_strings.specs.declared.Inner.TheVariants.{Lost, Found}
use Rattle.inner_strings.specs.Strings.{Lacks, Has, Strings}

---------------------------------------------------------------- where it stands

pub string_stops : {s : List ℕ} {c d : Cursor} {l : Got ℕ} → Measures s c l → Passes l.c l.v d → (d.why ≡ 0 → ⊥) → Lacks s c d
string_stops {d = d} {l} measures passes h = record { length_read = l; behind = d; measures = measures; passes = passes; stops = h; same = λ _. refl; off = λ z. absurd (h z) }

string_off : {s : List ℕ} {c d e : Cursor} {l : Got ℕ} → Measures s c l → Passes l.c l.v d → d.why ≡ 0 → e ≡ stopped d 4 0 → length s * 8 < l.c.at + l.v → Lacks s c e
unfolding stopped
string_off {d = d} {l = l} measures passes goes q o =
    record { length_read = l; behind = d; measures = measures; passes = passes; stops = λ z. (let y = rw (q, goes) at z in omega arith); same = λ h. absurd (h goes); off = λ _. o }

-- a place that the frame holds is small
pub near : {t : Bool} (p n : ℕ) → n ≤ 65536 → t ≡ leb p (n * 8) → t ≡ true → p ≤ 524288
near p n h e q = let i = leb-true p (n * 8) (sym e ∙ q) in omega arith

module _ {s : List ℕ} {c d : Cursor} {l : Got ℕ} {t : Bool} (measures : Measures s c l) (passes : Passes l.c l.v d) (goes : d.why ≡ 0) (p : t ≡ leb d.at (length s * 8)) where
  pub string_ends_behind : {e : Cursor} → t ≡ false → e ≡ stopped d 4 0 → Lacks s c e
  string_ends_behind q x = string_off measures passes goes x (omega (arith, leb-false d.at (length s * 8) (sym p ∙ q), passes.moved goes))

  pub string-held : t ≡ true → Has s c (l.c.at / 8) ((d.at + 7) / 8) (record { at = l.c.at % 8; end = l.c.at % 8 + l.v; why = 0; marks = d.marks }) d
  string-held q =
      let i = leb-true d.at (length s * 8) (sym p ∙ q) in
      let e = passes.moved goes in
      record { length_read = l; measures = measures; passes = passes; goes = goes; first_byte = refl; last_byte = rw e refl; bits = refl; ordered = omega arith; held = omega arith }

module _ {s : List ℕ} {c d : Cursor} {r : Inner} where
  pub lost : r ≡ Lost d → Strings s c r → Lacks s c d
  lost q x = rw q at x

  pub found : {from to : ℕ} {window : Cursor} → r ≡ Found from to window d → Strings s c r → Has s c from to window d
  found q x = rw q at x

---------------------------------------------------------------- what is read in it

-- its bytes, and its window in them
abbrev pub bytes : List ℕ → ℕ → ℕ → List ℕ
bytes s from to = take (to - from) (drop from s)

module _ {s : List ℕ} {c d window : Cursor} {from to : ℕ} (h : Has s c from to window d) where
  pub window_goes : window.why ≡ 0
  window_goes = rw h.bits refl

  pub window_inside : Inside (bytes s from to) window
  window_inside =
      rw h.bits (omega arith, omega (arith, h.ordered, h.held, h.first_byte, h.last_byte, length-take (to - from) (drop from s), length-drop from s))

module _ (f : Fmt) {s : List ℕ} {c d : Cursor} {n : ℕ} {w : List ℕ} (z : placeless f ≡ true) where
  pub tells_lost : Lacks s c d → Tells 0 (λ u p. read (inner f) (0, 0) (bit_of s) u p) s c n w w (record { n = n; c = d })
  tells_lost x = by (eqb x.behind.why 0) refl
    where
      by : (t : Bool) → eqb x.behind.why 0 ≡ t → Tells 0 (λ u p. read (inner f) (0, 0) (bit_of s) u p) s c n w w (record { n = n; c = d })
      by true q = inner_off f z x.measures x.passes (eqb-true x.behind.why 0 q) (x.off (eqb-true x.behind.why 0 q))
      by false q = rw (x.same (eqb-false x.behind.why 0 q)) (inner_lost f z x.measures x.passes (eqb-false x.behind.why 0 q))

  -- behind the reading its records are moved by the bits in front of the string's first byte
  pub tells_read : {b from to : ℕ} {window : Cursor} {w' : List ℕ} {r : At} → length s ≤ 65536 → Has s c from to window d → Runs b (λ u p. read f (0, 0) (bit_of (bytes s from to)) u p) (bytes s from to) window n w w' r
      → Tells b (λ u p. read (inner f) (0, 0) (bit_of s) u p) s c n w (raised_places (8 * from) (r.n - n) (space n) w') (record { n = r.n; c = closed d r.c })
  tells_read few h x = rw h.first_byte (inner_read f z h.measures h.passes few h.goes (rw (h.first_byte, h.last_byte, h.bits) at x))
