-- Bytes that are written whole are as the bits say, whatever they were.
use mathlib.Core.Path.{◌≡◌, sym, ◌∙◌}
use mathlib.Core.List.{List, ◌++◌}
use Prim.Native.Nat.{ℕ, zero, suc, ◌*◌, ◌%◌, ◌≤◌, ◌<◌}
use native.Mathlib.Nat.{zero-add}
use native.Mathlib.Omega.{arith}
use lib.ListN.{length, take, drop, take-append-drop, get_or, replicate, length-replicate}
use lib.Seq.{length-take-le, get_or-take, ext_get_or, take_all}
use Rattle.x691.specs.Bits.{bit_of}
use Rattle.x691.proofs.BitLaws.{uint_agree}
use Rattle.per.proofs.Laws.{uint-octet}
use Rattle.bit_writer.specs.Put.{set_bits}
use Rattle.bit_writer.proofs.PutLaws.{set_bits-length, set_bits-behind, set_bits-bit, set_bits-bytes}

module _ (n : ℕ) (xs : List ℕ) (size : length xs ≡ 8 * n) where
  pub set_bits-whole : (s t : List ℕ) → ((i : ℕ) → get_or s i 0 < 256) → ((i : ℕ) → get_or t i 0 < 256) → n ≤ length s → n ≤ length t → take n (set_bits s 0 xs) ≡ take n (set_bits t 0 xs)
  set_bits-whole s t bs bt ls lt =
      let x = set_bits s 0 xs in
      let y = set_bits t 0 xs in
      let lx : length (take n x) ≡ n = length-take-le n x (omega (arith, set_bits-length s 0 xs)) in
      let ly : length (take n y) ≡ n = length-take-le n y (omega (arith, set_bits-length t 0 xs)) in
      ext_get_or 0 (take n x) (take n y) (lx ∙ sym ly) (λ i h. let l : i < n = omega arith in rw (get_or-take n x i 0 l, get_or-take n y i 0 l) (byte i l))
    where
      bit : (u : List ℕ) → n ≤ length u → (j : ℕ) → j < 8 * n → bit_of (set_bits u 0 xs) j ≡ get_or xs j 0 % 2
      bit u l j h = rw zero-add at (set_bits-bit u 0 xs j (omega arith) (omega arith))

      byte : (i : ℕ) → i < n → get_or (set_bits s 0 xs) i 0 ≡ get_or (set_bits t 0 xs) i 0
      byte i l =
          sym (uint-octet (set_bits s 0 xs) i (set_bits-bytes s 0 xs bs i))
          ∙ uint_agree (bit_of (set_bits s 0 xs)) (bit_of (set_bits t 0 xs)) (8 * i) 8 (λ j h k. bit s ls j (omega arith) ∙ sym (bit t lt j (omega arith)))
          ∙ uint-octet (set_bits t 0 xs) i (set_bits-bytes t 0 xs bt i)

  -- as they would be over zeros
  pub set_bits_fresh : (s : List ℕ) → ((i : ℕ) → get_or s i 0 < 256) → n ≤ length s → take n (set_bits s 0 xs) ≡ set_bits (replicate {A = ℕ} n 0) 0 xs
  set_bits_fresh s bs ls =
      let z = replicate {A = ℕ} n 0 in
      set_bits-whole s z bs (zeros n) ls (omega (arith, length-replicate {A = ℕ} n 0)) ∙ take_all n (set_bits z 0 xs) (omega (arith, set_bits-length z 0 xs, length-replicate {A = ℕ} n 0))
    where
      zeros : (m i : ℕ) → get_or (replicate {A = ℕ} m 0) i 0 < 256
      zeros zero i = omega arith
      zeros (suc m) zero = omega arith
      zeros (suc m) (suc i) = zeros m i

  -- and so are all of them, with those behind as they were
  pub set_bits-over : (s : List ℕ) → ((i : ℕ) → get_or s i 0 < 256) → n ≤ length s → set_bits s 0 xs ≡ set_bits (replicate {A = ℕ} n 0) 0 xs ++ drop n s
  set_bits-over s bs ls = sym (take-append-drop n (set_bits s 0 xs)) ∙ rw (set_bits_fresh s bs ls, set_bits-behind n s 0 xs (omega arith))
