-- The bytes of a list of bits: how many they are, what they hold, and that bits put into lent bytes are these.
use mathlib.Core.Path.{◌≡◌, refl, sym, ap, ◌∙◌}
use mathlib.Core.Bool.{Bool, true, false}
use mathlib.Core.List.{List, [], ◌∷◌, ◌++◌}
use Prim.Native.Nat.{ℕ, zero, suc, ◌+◌, ◌-◌, ◌*◌, ◌/◌, ◌%◌, ◌^◌, ◌≤◌, ◌<◌}
use native.Mathlib.Nat.{zero-add, add-zero, add-suc, suc-add, mul_comm, mod-eq_of_lt}
use native.Mathlib.Omega.{arith}
use lib.ListN.{length, take, drop, take-append-drop, get_or, length-append, get_or-append, get_or-eq_default}
use lib.Dec.{ltb}
use borrow.Author.Tests.{ltb-true, ltb-false}
use lib.Seq.{length-take-le, get_or-take, ext_get_or}
use lib.Pow.{pow_pos, shr_lt, high}
use Rattle.x691.specs.Bits.{bit_of, uint, bits_of, Spells}
use Rattle.x691.specs.Range.{All}
use Rattle.x691.proofs.BitLaws.{uint-lt, uint-more, uint_agree, length-bits_of}
use Rattle.per.proofs.Laws.{uint-split, uint-octet}
use Rattle.record_lists.specs.Message.{bytes_from, bytes_needed, bytes_of}
use Rattle.bit_writer.specs.Put.{set_bits}
use Rattle.bit_writer.proofs.PutLaws.{set_bits-join, set_bits-length, set_bits-behind, set_bits-bit, set_bits-bytes}

---------------------------------------------------------------- how many they are, and each of them

-- n bytes from byte j on
from-length : (B : List ℕ) (j n : ℕ) → length (bytes_from B j n) ≡ n
unfolding bytes_from
from-length B j zero = refl
from-length B j (suc n) = ap suc (from-length B (suc j) n)

-- a byte is the number that its eight bits spell
from_byte : (B : List ℕ) (j n i : ℕ) → i < n → get_or (bytes_from B j n) i 0 ≡ uint (λ k. get_or B k 0) (8 * (j + i)) 8
unfolding bytes_from
from_byte B j zero i l = absurd (omega arith)
from_byte B j (suc n) zero l = rw (add-zero j, mul_comm j 8)
from_byte B j (suc n) (suc i) l = from_byte B (suc j) n i (omega arith) ∙ rw (suc-add j i, add-suc j i)

-- "padded with zero bits to a byte": so many bytes
pub bytes-length : (B : List ℕ) → length (bytes_of B) ≡ bytes_needed B
unfolding bytes_of
bytes-length B = from-length B 0 (bytes_needed B)

-- each byte
bytes_byte : (B : List ℕ) (i : ℕ) → i < bytes_needed B → get_or (bytes_of B) i 0 ≡ uint (λ k. get_or B k 0) (8 * i) 8
unfolding bytes_of
bytes_byte B i l = rw zero-add at (from_byte B 0 (bytes_needed B) i l)

---------------------------------------------------------------- what they hold

-- a bit, or the 0 behind the last
at_below : (B : List ℕ) → All (λ c. c < 2) B → (i : ℕ) → get_or B i 0 < 2
at_below [] h i = omega arith
at_below (x ∷ B) h zero = h.0
at_below (x ∷ B) h (suc i) = at_below B h.1 i

-- each is a byte
pub bytes_below : (B : List ℕ) → All (λ c. c < 2) B → (i : ℕ) → get_or (bytes_of B) i 0 < 256
bytes_below B h i = go (ltb i (bytes_needed B)) refl
  where
    go : (t : Bool) → ltb i (bytes_needed B) ≡ t → get_or (bytes_of B) i 0 < 256
    go true e = rw (bytes_byte B i (ltb-true i (bytes_needed B) e)) (uint-lt (λ k. get_or B k 0) (at_below B h) (8 * i) 8)
    go false e =
        let l : length (bytes_of B) ≤ i = omega (arith, bytes-length B, ltb-false i (bytes_needed B) e) in
        let z : get_or (bytes_of B) i 0 ≡ 0 = get_or-eq_default (bytes_of B) 0 l in
        omega arith

-- a bit of the number that eight bits spell
bit_back : (b : ℕ → ℕ) → ((i : ℕ) → b i < 2) → (at r : ℕ) → r < 8 → uint b at 8 / 2 ^ (7 - r) % 2 ≡ b (at + r)
bit_back b h at r l =
    let m : ℕ = 7 - r in
    let e : r + 1 + m ≡ 8 = omega arith in
    let z : uint b at 8 ≡ uint b at (r + 1) * 2 ^ m + uint b (at + (r + 1)) m = rw e at (uint-split b at (r + 1) m) in
    rw (z, high (uint b at (r + 1)) m (uint-lt b h (at + (r + 1)) m), uint-more b at r) (omega (arith, h (at + r)))

-- their bits are those of the list, with zeros behind, whatever bytes follow
pub bytes-bit : (B s : List ℕ) → All (λ c. c < 2) B → (j : ℕ) → j < bytes_needed B * 8 → bit_of (bytes_of B ++ s) j ≡ get_or B j 0
unfolding bit_of
bytes-bit B s h j l =
    let e : 8 * (j / 8) + j % 8 ≡ j = omega arith in
    rw (get_or-append (bytes_of B) s 0 (j / 8) (omega (arith, bytes-length B)), bytes_byte B (j / 8) (omega arith))
    (bit_back (λ k. get_or B k 0) (at_below B h) (8 * (j / 8)) (j % 8) (omega arith) ∙ rw e)

-- bits that are at their places are spelt
spell : (b : ℕ → ℕ) (at : ℕ) (xs : List ℕ) → ((j : ℕ) → j < length xs → b (at + j) ≡ get_or xs j 0) → Spells b at xs
unfolding Spells
spell b at [] h = tt
spell b at (x ∷ xs) h = (rw add-zero at (h 0 (omega arith)), spell b (suc at) xs (λ j l. rw (suc-add, ← add-suc) (h (suc j) (omega arith))))

-- so a frame that begins with them begins with the list's bits
pub bytes_spell : (B s : List ℕ) → All (λ c. c < 2) B → Spells (bit_of (bytes_of B ++ s)) 0 B
unfolding bytes_needed
bytes_spell B s h = spell (bit_of (bytes_of B ++ s)) 0 B (λ j l. rw zero-add (bytes-bit B s h j (omega arith)))

-- for which there is room in them
pub bytes-room : (B : List ℕ) → length B ≤ length (bytes_of B) * 8
unfolding bytes_needed
bytes-room B = omega (arith, bytes-length B)

---------------------------------------------------------------- as the bits are put

-- zeros are 0 wherever one looks
zeros : (k j : ℕ) → get_or (bits_of k 0) j 0 ≡ 0
unfolding bits_of
zeros zero j = refl
zeros (suc k) zero = let l : 0 / 2 ^ k < 2 ^ 0 = shr_lt 0 k (rw zero-add (pow_pos k)) in omega arith
zeros (suc k) (suc j) = let e : 0 % 2 ^ k ≡ 0 = mod-eq_of_lt (pow_pos k) in rw e (zeros k j)

-- bits with zeros behind
padded : (B : List ℕ) (k : ℕ) → All (λ c. c < 2) B → (j : ℕ) → get_or (B ++ bits_of k 0) j 0 % 2 ≡ get_or B j 0
padded [] k h j = rw (zeros k j)
padded (x ∷ B) k h zero = omega (arith, h.0)
padded (x ∷ B) k h (suc j) = padded B k h.1 j

-- the bits, and zeros up to the end of the last byte: the bytes of the list, and those behind as they were
pub bytes-put : (B s : List ℕ) (n : ℕ) → n ≡ bytes_needed B → n ≤ length s → ((i : ℕ) → get_or s i 0 < 256) → All (λ c. c < 2) B
    → set_bits (set_bits s 0 B) (length B) (bits_of (n * 8 - length B) 0) ≡ bytes_of B ++ drop n s
unfolding bytes_needed
bytes-put B s n e l bs b = joins ∙ sym (take-append-drop n X) ∙ rw (front, set_bits-behind n s 0 xs (omega (arith, size)))
  where
    k : ℕ
    k = n * 8 - length B

    xs : List ℕ
    xs = B ++ bits_of k 0

    X : List ℕ
    X = set_bits s 0 xs

    size : length xs ≡ 8 * n
    size = omega (arith, length-append B (bits_of k 0), length-bits_of k 0)

    joins : set_bits (set_bits s 0 B) (length B) (bits_of k 0) ≡ X
    joins = sym (rw zero-add at (set_bits-join s 0 B (bits_of k 0)))

    bit : (j : ℕ) → j < 8 * n → bit_of X j ≡ get_or B j 0
    bit j h = rw zero-add at (set_bits-bit s 0 xs j (omega (arith, size)) (omega (arith, size))) ∙ padded B k b j

    byte : (i : ℕ) → i < n → get_or X i 0 ≡ get_or (bytes_of B) i 0
    byte i h =
        sym (uint-octet X i (set_bits-bytes s 0 xs bs i))
        ∙ uint_agree (bit_of X) (λ j. get_or B j 0) (8 * i) 8 (λ j u v. bit j (omega arith))
        ∙ sym (bytes_byte B i (omega arith))

    front : take n X ≡ bytes_of B
    front =
        let m : length (take n X) ≡ n = length-take-le n X (omega (arith, set_bits-length s 0 xs)) in
        ext_get_or 0 (take n X) (bytes_of B) (m ∙ e ∙ sym (bytes-length B)) (λ i h. get_or-take n X i 0 (omega arith) ∙ byte i (omega arith))
