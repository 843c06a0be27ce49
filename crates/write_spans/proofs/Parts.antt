-- The two strings as parts of a format, and how their sizes are put.
use mathlib.Core.Path.{◌≡◌, refl, sym, ap, ◌∙◌}
use mathlib.Core.Bool.{true, false}
use mathlib.Core.List.{List}
use Prim.Native.Nat.{ℕ, ◌+◌, ◌-◌, ◌*◌, ◌/◌, ◌^◌, ◌≤◌, ◌<◌}
use native.Mathlib.Omega.{arith}
use lib.ListN.{length, get_or}
use lib.Dec.{ltb}
use borrow.Author.Tests.{le-leb, lt-leb, lt-ltb, le-ltb}
use Rattle.x691.specs.Bits.{bit_of, bits_of}
use Rattle.x691.specs.Encoding.{width, length_bits, size_bits, encode}
use Rattle.x691.proofs.BitLaws.{bit_of-lt}
use Rattle.x691.proofs.Widths.{width-holds}
use Rattle.atn.specs.Format.{span, any_span}
use Rattle.record_lists.specs.Kinds.{span_tag}
use Rattle.record_lists.specs.Parse.{bits_at, good_size, parse}
use Rattle.pens.specs.Stand.{Stand}
use Rattle.pens.specs.Rest.{items}
use Rattle.pens.specs.Writes.{Part, Inks}
use Rattle.pens.proofs.PartLaws.{short-length, long-length}
use Rattle.write_spans.specs.Spans.{Sends}
use Rattle.write_spans.proofs.SpanWrites.{string-refused, string-none, string_sent}

---------------------------------------------------------------- sizes

-- what a size exceeds the lowest by fits its bits
pub size_fits : (lo hi k n : ℕ) → k ≤ hi → n ≡ width (hi - lo) → k - lo < 2 ^ n
size_fits lo hi k n h e = rw e (omega (arith, width-holds (hi - lo)))

pub size_small : (lo hi k : ℕ) → k < lo → good_size lo hi k ≡ false
unfolding good_size
size_small lo hi k h = rw (lt-leb lo k h)

pub size_large : (lo hi k : ℕ) → lo ≤ k → hi < k → good_size lo hi k ≡ false
unfolding good_size
size_large lo hi k l h = rw (le-leb lo k l, lt-leb k hi h)

pub size-good : (lo hi k : ℕ) → lo ≤ k → k ≤ hi → good_size lo hi k ≡ true
unfolding good_size
size-good lo hi k l h = rw (le-leb lo k l, le-leb k hi h)

---------------------------------------------------------------- parts

-- r units are counted in the span in front
module _ (src W : List ℕ) (m t e w : ℕ) (unit : 1 ≤ w) (tagged : span_tag t ≡ true) (p : Stand) (X : List ℕ) (q : Stand) (Y : List ℕ) (r y : ℕ) (on : p.off ≡ false) (counted : r ≡ length (bits_at t (items (bit_of src) W m p.next)) / w) where
  module _ (lo hi : ℕ) where
    abbrev SpanPart : Type 0
    SpanPart = Part (span t w lo hi) (e, y) (bit_of src) W m p X q Y

    span-refused : good_size lo hi r ≡ false → q.off ≡ true → SpanPart
    unfolding parse encode
    span-refused f o = string-refused (bit_of src) (bit_of-lt src) W m t e w unit tagged (good_size lo hi) (size_bits lo hi) p X q Y on (ap (good_size lo hi) (sym counted) ∙ f) o

    pub span_small : r < lo → q.off ≡ true → SpanPart
    span_small h o = span-refused (size_small lo hi r h) o

    pub span_large : lo ≤ r → hi < r → q.off ≡ true → SpanPart
    span_large l h o = span-refused (size_large lo hi r l h) o

    pub span-put : {n : ℕ} → (1 ≤ r → (p.next < m) × (get_or W (p.next * 5) 0 ≡ t)) → 1 ≤ lo → lo ≤ r → r ≤ hi → n ≡ width (hi - lo) → Sends (bit_of src) W e w n (r - lo) p X q Y → SpanPart
    unfolding parse encode size_bits
    span-put {n} i z l h s x =
        let j = i (omega (arith, z, l)) in
        string_sent (bit_of src) (bit_of-lt src) W m t e w unit tagged (good_size lo hi) (size_bits lo hi) p X q Y on j.0 j.1 (omega (arith, z, l, counted)) (ap (good_size lo hi) (sym counted) ∙ size-good lo hi r l h) (rw (← counted, s)) x

  abbrev AnyPart : Type 0
  AnyPart = Part (any_span t w) (e, y) (bit_of src) W m p X q Y

  pub any_large : 16384 ≤ r → q.off ≡ true → AnyPart
  unfolding parse encode
  any_large h o = string-refused (bit_of src) (bit_of-lt src) W m t e w unit tagged (λ n. ltb n 16384) length_bits p X q Y on (rw (← counted) (le-ltb r 16384 h)) o

  pub any_empty : r ≡ 0 → Inks p X 8 0 q Y → AnyPart
  unfolding parse encode
  any_empty h x = string-none (bit_of src) (bit_of-lt src) W m t e w unit tagged (λ n. ltb n 16384) length_bits p X q Y on (sym h ∙ counted) refl (short-length 0 (omega arith)) x

  any_put : {n v : ℕ} → (1 ≤ r → (p.next < m) × (get_or W (p.next * 5) 0 ≡ t)) → 1 ≤ r → r < 16384 → length_bits r ≡ bits_of n v → Sends (bit_of src) W e w n v p X q Y → AnyPart
  unfolding parse encode
  any_put i l h s x =
      let j = i l in
      string_sent (bit_of src) (bit_of-lt src) W m t e w unit tagged (λ n. ltb n 16384) length_bits p X q Y on j.0 j.1 (omega (arith, l, counted)) (rw (← counted) (lt-ltb r 16384 h)) (ap length_bits (sym counted) ∙ s) x

  pub any_short : (1 ≤ r → (p.next < m) × (get_or W (p.next * 5) 0 ≡ t)) → 1 ≤ r → r < 128 → Sends (bit_of src) W e w 8 r p X q Y → AnyPart
  any_short i l h x = any_put i l (omega arith) (short-length r h) x

  pub any_long : (1 ≤ r → (p.next < m) × (get_or W (p.next * 5) 0 ≡ t)) → 128 ≤ r → r < 16384 → Sends (bit_of src) W e w 16 (32768 + r) p X q Y → AnyPart
  any_long i l h x = any_put i (omega arith) h (long-length r l h) x
