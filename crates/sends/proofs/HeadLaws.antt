-- The first bits of a send, taken apart into what each reading takes of them.
use mathlib.Core.Path.{◌≡◌, refl, sym, ap, ◌∙◌}
use mathlib.Core.Logic.{inl, inr}
use mathlib.Core.List.{List}
use Prim.Native.Nat.{ℕ, zero, suc, ◌+◌, ◌-◌, ◌*◌, ◌/◌, ◌%◌, ◌^◌, ◌≤◌, ◌<◌}
use native.Mathlib.Nat.{zero-add}
use native.Mathlib.Omega.{arith}
use lib.ListN.{length}
use borrow.Author.Tests.{le-leb}
use Rattle.x691.specs.Bits.{bit_of, uint}
use Rattle.per.proofs.Laws.{uint-below, uint-split}
use Rattle.atn.specs.Reading.{unless}
use Rattle.cursor.specs.declared.place.Cursor.{Cursor}
use Rattle.cursor.specs.Place.{got, Pulls, opened, Opens}
use Rattle.cursor.proofs.Laws.{marked-nil}
use Rattle.length_determinants.specs.Lengths.{Ends, Measures}
use Rattle.length_determinants.proofs.LengthLaws.{known_some, head_long, sums_last, measures_in, measures_short}
use Rattle.pdus.specs.Pdus.{index_bits}
use Rattle.sends.specs.declared.Send.{Send}
use Rattle.sends.specs.Sends.{Protected, Shortest, one_octet, two_octets, Sends}

-- a cursor of the frame, before anything was marked
abbrev pub place : List ℕ → ℕ → Cursor
place s p = record { at = p; end = length s * 8; why = 0; marks = 0 }

module _ {s : List ℕ} {v p n q : ℕ} (worth : v ≡ uint (bit_of s) p n) (behind : q ≡ p + n) (held : q ≤ length s * 8) where
  pub pulled : Pulls s (place s p) n (record { v = v; c = place s q })
  pulled = record { gave = λ _. got refl (omega arith) worth (ap (place s) behind) }

  pub opens : Opens s (place s p) n (record { v = v; c = place s q })
  opens = record { gave = λ _. opened refl (omega arith) worth (ap (place s) behind) }

---------------------------------------------------------------- the choice, and the protected message

pub record Parts (d index : ℕ) (s : List ℕ) : Type 0 where
  pub extension : 0 ≡ uint (bit_of s) 0 1
  pub choice : index ≡ uint (bit_of s) 1 (index_bits d)
  pub inner_extension : 0 ≡ uint (bit_of s) (1 + index_bits d) 1
  pub present : 1 ≡ uint (bit_of s) (2 + index_bits d) 2

few : {d index : ℕ} → Protected d index → index ≤ 3
few (inl q) = omega arith
few (inr q) = omega (arith, q.0)

pub parts : (d index : ℕ) (s : List ℕ) → d ≤ 1 → Protected d index → uint (bit_of s) 0 (index_bits d + 4) ≡ index * 8 + 1 → Parts d index s
unfolding index_bits
parts zero index s one x h =
    let a : uint (bit_of s) 0 6 ≡ uint (bit_of s) 0 1 * 2 ^ 5 + uint (bit_of s) 1 5 = uint-split (bit_of s) 0 1 5 in
    let b : uint (bit_of s) 1 5 ≡ uint (bit_of s) 1 2 * 2 ^ 3 + uint (bit_of s) 3 3 = uint-split (bit_of s) 1 2 3 in
    let e : uint (bit_of s) 3 3 ≡ uint (bit_of s) 3 1 * 2 ^ 2 + uint (bit_of s) 4 2 = uint-split (bit_of s) 3 1 2 in
    let l₀ = few {d = zero} x in
    let l₁ = uint-below s 1 2 in
    let l₂ = uint-below s 3 1 in
    let l₃ = uint-below s 4 2 in
    record { extension = omega arith; choice = omega arith; inner_extension = omega arith; present = omega arith }
parts (suc zero) index s one x h =
    let a : uint (bit_of s) 0 7 ≡ uint (bit_of s) 0 1 * 2 ^ 6 + uint (bit_of s) 1 6 = uint-split (bit_of s) 0 1 6 in
    let b : uint (bit_of s) 1 6 ≡ uint (bit_of s) 1 3 * 2 ^ 3 + uint (bit_of s) 4 3 = uint-split (bit_of s) 1 3 3 in
    let e : uint (bit_of s) 4 3 ≡ uint (bit_of s) 4 1 * 2 ^ 2 + uint (bit_of s) 5 2 = uint-split (bit_of s) 4 1 2 in
    let l₀ = few {d = suc zero} x in
    let l₁ = uint-below s 1 3 in
    let l₂ = uint-below s 4 1 in
    let l₃ = uint-below s 5 2 in
    record { extension = omega arith; choice = omega arith; inner_extension = omega arith; present = omega arith }
parts (suc (suc d)) index s one x h = absurd (omega arith)

---------------------------------------------------------------- the length

module _ {s : List ℕ} {p : ℕ} (small : length s ≤ 65536) where
  -- a bit that is set, one that is clear, and fourteen bits
  long-form : {n q : ℕ} → 128 ≤ n → n < 16384 → uint (bit_of s) p 16 ≡ 32768 + n → q ≡ p + 16 → q ≤ length s * 8 → Ends s (place s p) n (place s q)
  unfolding unless
  long-form {n} {q} high low worth behind held =
      let a : uint (bit_of s) p 16 ≡ uint (bit_of s) p 1 * 2 ^ 15 + uint (bit_of s) (p + 1) 15 = uint-split (bit_of s) p 1 15 in
      let b : uint (bit_of s) (p + 1) 15 ≡ uint (bit_of s) (p + 1) 1 * 2 ^ 14 + uint (bit_of s) (p + 1 + 1) 14 = uint-split (bit_of s) (p + 1) 1 14 in
      let l₀ = uint-below s p 1 in
      let l₁ = uint-below s (p + 1) 1 in
      let l₂ = uint-below s (p + 1 + 1) 14 in
      let form : Pulls s (place s p) 1 (record { v = 1; c = place s (p + 1) }) = pulled (omega arith) refl (omega arith) in
      let more : Pulls s (place s (p + 1)) 1 (record { v = 0; c = place s (p + 1 + 1) }) = pulled (omega arith) refl (omega arith) in
      let bits : Pulls s (place s (p + 1 + 1)) 14 (record { v = n; c = place s q }) = pulled (omega arith) (omega arith) held in
      head_long (omega arith, omega arith) form (λ z. omega arith) more refl (known_some refl bits) (rw (le-leb 128 n high) (marked-nil (place s q)))

  pub measured : {n q : ℕ} → Shortest (bit_of s) p n q → q ≤ length s * 8 → Measures s (place s p) (record { v = n; c = place s q })
  measured (one_octet low worth behind) held = measures_short (pulled (sym worth) behind held) refl low
  measured (two_octets high low worth behind) held = measures_in small (omega arith) (simp zero-add at (sums_last {sum = 0} (omega arith, omega arith) small (omega arith) (long-form high low worth behind held)))

---------------------------------------------------------------- how they are found

pub narrow : {w : ℕ} (d : ℕ) → w ≡ index_bits d → w ≤ 3
unfolding index_bits
narrow {w} d q = rw q (go d)
  where
    go : (d : ℕ) → index_bits d ≤ 3
    go zero = omega arith
    go (suc d) = omega arith

-- of sixteen bits the first eight are a length, or all
module _ {at size : ℕ} (s : List ℕ) (worth : uint (bit_of s) at 16 ≡ size) where
  pub short-length : size < 32768 → Shortest (bit_of s) at (size / 256) (at + 8)
  short-length l =
      let a : uint (bit_of s) at 16 ≡ uint (bit_of s) at 8 * 2 ^ 8 + uint (bit_of s) (at + 8) 8 = uint-split (bit_of s) at 8 8 in
      let b = uint-below s (at + 8) 8 in
      one_octet (omega arith) (omega arith) refl

  pub long-length : 32896 ≤ size → size < 49152 → Shortest (bit_of s) at (size - 32768) (at + 16)
  long-length h l = two_octets (omega arith) (omega arith) (omega arith) refl

length-near : {b : ℕ → ℕ} {p n q : ℕ} → Shortest b p n q → q ≤ p + 16
length-near (one_octet l w h) = omega arith
length-near (two_octets a l w h) = omega arith

pub length-few : {b : ℕ → ℕ} {p n q : ℕ} → Shortest b p n q → n < 16384
length-few (one_octet l w h) = omega arith
length-few (two_octets a l w h) = l

pub found : (d : ℕ) {s : List ℕ} {w bits : ℕ} {r : Send} → w ≡ index_bits d → 4 ≤ length s → (0 + (w + 20) ≤ length s * 8 → bits ≡ uint (bit_of s) 0 (w + 20)) → bits / 65536 % 8 ≡ 1 → Protected d (bits / 65536 / 8)
    → ((s : List ℕ) → uint (bit_of s) (w + 4) 16 ≡ bits % 65536 → (r.at ≡ 0 → ⊥) → (r.index ≡ bits / 65536 / 8) × Shortest (bit_of s) (w + 4) r.count r.at) → (r.at ≡ 0 → ⊥) → Sends d s r
found d {s} {w} {bits} {r} q four worth form named behind some =
    let n = narrow d q in
    let e : w + 20 ≡ w + 4 + 16 = omega arith in
    let a : uint (bit_of s) 0 (w + 4 + 16) ≡ uint (bit_of s) 0 (w + 4) * 2 ^ 16 + uint (bit_of s) (w + 4) 16 = simp zero-add at (uint-split (bit_of s) 0 (w + 4) 16) in
    let b = uint-below s (w + 4) 16 in
    let v : bits ≡ uint (bit_of s) 0 (w + 4 + 16) = worth (omega arith) ∙ ap (uint (bit_of s) 0) e in
    let x = behind s (omega arith) some in
    let h : uint (bit_of s) 0 (w + 4) ≡ r.index * 8 + 1 = omega (arith, x.0) in
    record { named = rw x.0 named; head = rw q at h; sized = rw q at x.1; held = omega (arith, length-near x.1) }
