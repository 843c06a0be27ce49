-- A name makes a good entry: the book never calls the frame of a clean forward message nameless.
use mathlib.Core.Path.{◌≡◌, refl, sym, ap}
use mathlib.Core.Bool.{Bool, true, false, cond, ◌&&◌}
use mathlib.Core.List.{List, [], ◌∷◌}
use Prim.Native.Nat.{ℕ, zero, suc, ◌+◌, ◌*◌, ◌/◌, ◌%◌, ◌^◌, ◌-◌, ◌∣◌, ◌≤◌, ◌<◌}
use native.Mathlib.Nat.{dvd_refl, dvd-zero, dvd-add, dvd-mul_left_of_dvd, dvd-mul_right_of_dvd, mod-eq-zero_of_dvd, pow-suc}
use native.Mathlib.Omega.{arith}
use lib.Dec.{leb}
use lib.ListN.{length, drop}
use borrow.Author.Tests.{leb-true, le-leb, lt-ltb, eq-eqb}
use Rattle.x691.specs.Range.{All}
use Rattle.atn.specs.Reading.{octets}
use Rattle.book_entries.specs.Entries.{text, size, plain, good}
use Rattle.atn.specs.Entries.{read_frame, frame_fits, table_fits}
use Rattle.atn.specs.Messages.{ground_pdus}
use Rattle.forward_names.specs.declared.Named.{Named}
use Rattle.forward_names.specs.Names.{nameless, name_of, forward_name}
use Rattle.forward_names.specs.Forwarded.{identifier_of}
use Rattle.forward_names.proofs.Identifiers.{named}
use Rattle.named_entries.specs.Made.{entry_of}

-- four characters, as one number
module _ (a b c d : ℕ) (p : a < 128) (q : b < 128) (r : c < 128) (s : d < 128) where
  plain-four : {x : ℕ} → x ≡ a * 16777216 + b * 65536 + c * 256 + d → (plain x ≡ true) × (x < 4294967296)
  unfolding plain
  plain-four {x} e = (rw (lt-ltb (x % 256) 128 (omega arith), lt-ltb (x / 256 % 256) 128 (omega arith), lt-ltb (x / 65536 % 256) 128 (omega arith), lt-ltb (x / 16777216) 128 (omega arith)), omega arith)

plain-octets : (cs : List ℕ) → All (λ c. c < 128) cs → (plain (octets 4 cs) ≡ true) × (octets 4 cs < 4294967296)
unfolding octets
plain-octets [] h = plain-four 0 0 0 0 (omega arith) (omega arith) (omega arith) (omega arith) refl
plain-octets (a ∷ []) h = plain-four a 0 0 0 h.0 (omega arith) (omega arith) (omega arith) (omega arith)
plain-octets (a ∷ b ∷ []) h = plain-four a b 0 0 h.0 h.1.0 (omega arith) (omega arith) (omega arith)
plain-octets (a ∷ b ∷ c ∷ []) h = plain-four a b c 0 h.0 h.1.0 h.1.1.0 (omega arith) (omega arith)
plain-octets (a ∷ b ∷ c ∷ d ∷ cs) h = plain-four a b c d h.0 h.1.0 h.1.1.0 h.1.1.1.0 (omega arith)

-- the first four characters, and the others
halves : (cs : List ℕ) → octets 8 cs ≡ octets 4 cs * 4294967296 + octets 4 (drop 4 cs)
unfolding octets
halves [] = refl
halves (a ∷ []) = omega arith
halves (a ∷ b ∷ []) = omega arith
halves (a ∷ b ∷ c ∷ []) = omega arith
halves (a ∷ b ∷ c ∷ d ∷ cs) = omega arith

all_drop : (k : ℕ) (cs : List ℕ) → All (λ c. c < 128) cs → All (λ c. c < 128) (drop k cs)
all_drop zero cs h = h
all_drop (suc k) [] h = h
all_drop (suc k) (c ∷ cs) h = all_drop k cs h.1

power : (j k : ℕ) → 256 ^ k ∣ 256 ^ (j + k)
power zero k = let e : 0 + k ≡ k = omega arith in rw e (dvd_refl (256 ^ k))
power (suc j) k =
    let e : suc j + k ≡ suc (j + k) = omega arith in
    rw (e, pow-suc 256 (j + k)) (dvd-mul_right_of_dvd (256 ^ k) (power j k) 256)

-- zeros behind the last character
zeros : (k : ℕ) (cs : List ℕ) → length cs ≤ k → 256 ^ (k - length cs) ∣ octets k cs
unfolding octets
zeros zero cs h = dvd-zero _
zeros (suc k) [] h = dvd-zero _
zeros (suc k) (c ∷ cs) h =
    let i : suc k - suc (length cs) ≡ k - length cs = omega arith in
    let j : length cs + (k - length cs) ≡ k = omega arith in
    rw i (dvd-add (256 ^ (k - length cs)) (dvd-mul_left_of_dvd (256 ^ (k - length cs)) (rw j at (power (length cs) (k - length cs))) c) (zeros k cs (omega arith)))

module _ (s down up : List ℕ) (h : (forward_name s down up).number ≡ 0) where
  -- a name is given only for a frame that is short enough
  pub short : length s ≤ 65536
  unfolding forward_name frame_fits
  short = go (leb (length s) 65536) refl h
    where
      go : (t : Bool) → leb (length s) 65536 ≡ t → (cond t (cond (table_fits down && table_fits up) (name_of (read_frame (ground_pdus down up) s)) (nameless 2 0)) (nameless 1 0)).number ≡ 0 → length s ≤ 65536
      go true q z = leb-true (length s) 65536 q
      go false q z = absurd (omega arith)

  pub small : (forward_name s down up).size ≤ 8
  small = let i = named s down up h in omega (arith, i.forwards.in_range.0.1.0.1, ap (λ (n : Named). n.size) i.is)

  pub named-good : (k : ℕ) → good (entry_of (forward_name s down up) k (length s)) ≡ true
  unfolding good
  named-good k =
      let i = named s down up h in
      let n = forward_name s down up in
      let e = entry_of n k (length s) in
      let cs : List ℕ = identifier_of down up i.message in
      let sized = i.forwards.in_range.0.1.0 in
      let characters : n.text ≡ octets 8 cs = ap (λ (m : Named). m.text) i.is in
      let number : n.size ≡ length cs = ap (λ (m : Named). m.size) i.is in
      let first = plain-octets cs sized.2 in
      let others = plain-octets (drop 4 cs) (all_drop 4 cs sized.2) in
      let a : n.text / 4294967296 ≡ octets 4 cs = omega (arith, characters, halves cs, others.1) in
      let b : n.text % 4294967296 ≡ octets 4 (drop 4 cs) = omega (arith, characters, halves cs, others.1) in
      let t : text e ≡ octets 8 cs = rw (a, b) (sym (halves cs)) in
      let z : size e ≡ length cs = omega (arith, number, short) in
      rw (z, t, le-leb 2 (length cs) sized.0, le-leb (length cs) 8 sized.1, a, b, first.0, others.0, eq-eqb (octets 8 cs % 256 ^ (8 - length cs)) 0 (mod-eq-zero_of_dvd (256 ^ (8 - length cs)) (zeros 8 cs sized.1)))
