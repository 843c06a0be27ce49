-- A string written: its size, and the bits that its span points to.
use mathlib.Core.Path.{◌≡◌, refl, sym, ap, ◌∙◌}
use mathlib.Core.Bool.{Bool, true, false, false≢true}
use mathlib.Core.List.{List, [], ◌∷◌, ◌++◌, append-nil}
use Prim.Native.Nat.{ℕ, ◌+◌, ◌*◌, ◌/◌, ◌^◌, ◌≤◌, ◌<◌}
use native.Mathlib.Omega.{arith}
use lib.ListN.{length, get_or, length-append}
use Rattle.x691.specs.Bits.{bits_of, stretch}
use Rattle.x691.specs.Encoding.{unit_bits, joined}
use Rattle.x691.proofs.BitLaws.{length-bits_of}
use Rattle.bit_writer.specs.Put.{set_bits}
use Rattle.bit_writer.proofs.PutLaws.{set_bits-join}
use Rattle.bit_writer.proofs.Stretches.{stretch-length}
use Rattle.record_lists.specs.Items.{Item, bits}
use Rattle.record_lists.specs.Kinds.{span_tag}
use Rattle.record_lists.specs.Parse.{bits_at, units_of, no, got}
use Rattle.pens.specs.Stand.{Stand}
use Rattle.pens.specs.Rest.{items}
use Rattle.pens.specs.Writes.{limit, Writes, Inks}
use Rattle.pens.proofs.GotLaws.{writes_none}
use Rattle.pens.proofs.PenLaws.{writes_got}
use Rattle.write_spans.specs.Spans.{InksStretch, whole, first, size, Sends}
use Rattle.write_spans.proofs.UnitLaws.{counted, units-whole}
use Rattle.write_spans.proofs.StringLaws.{string_at, string_unfit, string-empty, string-whole, string_other}
use Rattle.write_spans.proofs.RecordLaws.{span_there, units_there, whole-yes, whole_no}

---------------------------------------------------------------- bits alone

pub stretch_far : (b : ℕ → ℕ) (p : Stand) (X : List ℕ) (from n : ℕ) (Y : List ℕ) → limit < p.at → InksStretch b p X from n p Y
stretch_far b p X from n Y h = record { next_stays = refl; off_stays = refl; puts = λ l. absurd (omega (arith, h, l)) }

pub stretch-near : (b : ℕ → ℕ) (p : Stand) (X : List ℕ) (from n : ℕ) (q : Stand) (Y : List ℕ) → q.next ≡ p.next → q.off ≡ p.off → q.at ≡ p.at + n → Y ≡ set_bits X p.at (stretch b from n) → InksStretch b p X from n q Y
stretch-near b p X from n q Y x y z u = record { next_stays = x; off_stays = y; puts = λ _. (z, u) }

---------------------------------------------------------------- a number, and a span

module _ (b : ℕ → ℕ) (W : List ℕ) (e w n v : ℕ) (p : Stand) (X : List ℕ) where
  pub sends_not : (q : Stand) (Y : List ℕ) → whole W p.next e w ≡ false → q.off ≡ true → Sends b W e w n v p X q Y
  sends_not q Y h o = record { refuses = λ _. o; on = λ z. absurd (false≢true (sym h ∙ z)); takes = λ z. absurd (false≢true (sym h ∙ z)); puts = λ z. absurd (false≢true (sym h ∙ z)) }

  pub sends_both : (q : Stand) (Y : List ℕ) (r : Stand) (Z : List ℕ) (s : Stand) → whole W p.next e w ≡ true → Inks p X n v q Y → InksStretch b q Y (first W p) (size W p) r Z
      → s.off ≡ false → s.next ≡ p.next + 1 → s.at ≡ r.at → Sends b W e w n v p X s Z
  sends_both q Y r Z s h x y o k a =
      record {
        refuses = λ z. absurd (false≢true (sym z ∙ h));
        on = λ _. o;
        takes = λ _. k;
        puts = λ _ l.
            let i = x.puts (omega (arith, l)) in
            let j = y.puts (omega (arith, l, i.0)) in
            (omega (arith, a, i.0, j.0), j.1 ∙ rw (i.1, i.0) (sym (set_bits-join X p.at (bits_of n v) (stretch b (first W p) (size W p)) ∙ rw (length-bits_of n v))));
      }

---------------------------------------------------------------- strings

module _ (b : ℕ → ℕ) (bit : (i : ℕ) → b i < 2) (W : List ℕ) (m t e w : ℕ) (unit : 1 ≤ w) (tagged : span_tag t ≡ true) (fits : ℕ → Bool) (size_of : ℕ → List ℕ) (p : Stand) (X : List ℕ) (q : Stand) (Y : List ℕ) where
  abbrev enc : List ℕ → List ℕ
  enc cs = size_of (length cs) ++ unit_bits (2 ^ w) cs

  abbrev T : ℕ → List Item
  T i = items b W m i

  abbrev k : ℕ
  k = length (bits_at t (T p.next)) / w

  abbrev pub StringWrites : Type 0
  StringWrites = Writes enc (λ R. string_at fits t e w R) T m p X q Y

  pub string-refused : p.off ≡ false → fits k ≡ false → q.off ≡ true → StringWrites
  string-refused h f o = writes_none enc (λ R. string_at fits t e w R) T m p X q Y (string_unfit fits t e w (T p.next) f) o

  -- an empty string takes no record
  pub string-none : {n v : ℕ} → p.off ≡ false → 0 ≡ k → fits 0 ≡ true → size_of 0 ≡ bits_of n v → Inks p X n v q Y → StringWrites
  unfolding unit_bits joined
  string-none {n} {v} h z f s x =
      record {
        still = λ o. absurd (false≢true (sym h ∙ o));
        goes = λ _ l. rw (string-empty fits t e w (T p.next) (sym z) f) (
            record {
              on = x.off_stays ∙ h;
              left = ap T (sym x.next_stays);
              fits = omega (arith, l, x.next_stays);
              wrote = λ u.
                  let g : size_of 0 ++ [] ≡ bits_of n v = append-nil (size_of 0) ∙ s in
                  let d : length (size_of 0 ++ []) ≡ n = ap (λ (c : List ℕ). length c) g ∙ length-bits_of n v in
                  let i = x.puts (omega (arith, u)) in
                  (omega (arith, i.0, d), i.1 ∙ rw g);
            });
      }

  -- else the record in front tells its bits
  pub string_sent : {n v : ℕ} → p.off ≡ false → p.next < m → get_or W (p.next * 5) 0 ≡ t → 1 ≤ k → fits k ≡ true → size_of k ≡ bits_of n v → Sends b W e w n v p X q Y → StringWrites
  string_sent {n} {v} h i g c f s x = go (whole W p.next e w) refl
    where
      from : ℕ
      from = first W p

      many : ℕ
      many = size W p

      there : T p.next ≡ bits t (get_or W (p.next * 5 + 1) 0) (stretch b from many) ∷ T (p.next + 1)
      there = span_there b W m p.next t i g tagged

      count : many / w ≡ k
      count = units_there b W m p.next t w i g tagged

      fit : fits (many / w) ≡ true
      fit = ap fits count ∙ f

      go : (a : Bool) → whole W p.next e w ≡ a → StringWrites
      go true a =
          let y = whole-yes W p.next e w a in
          let r : string_at fits t e w (T p.next) ≡ got (units_of w (stretch b from many)) (T (p.next + 1)) = rw (there, y.0) (string-whole fits t e w b bit from many (omega (arith, count, c)) (T (p.next + 1)) unit fit y.1) in
          let j : enc (units_of w (stretch b from many)) ≡ bits_of n v ++ stretch b from many = rw (counted b bit w from many, units-whole b bit w from many y.1, count, s) in
          let d : length (enc (units_of w (stretch b from many))) ≡ n + many = ap (λ (z : List ℕ). length z) j ∙ length-append (bits_of n v) (stretch b from many) ∙ rw (length-bits_of n v, stretch-length b from many) in
          writes_got enc (λ R. string_at fits t e w R) T m p X q Y h r
          (record { on = x.on a; left = ap T (sym (x.takes a)); fits = omega (arith, i, x.takes a); wrote = λ u. let z = x.puts a (omega (arith, u, d)) in (omega (arith, z.0, d), z.1 ∙ rw j) })
      go false a =
          let r : string_at fits t e w (T p.next) ≡ no = rw there (string_other fits t e w b bit from many (omega (arith, count, c)) (get_or W (p.next * 5 + 1) 0) (T (p.next + 1)) unit fit (whole_no W p.next e w a)) in
          writes_none enc (λ R. string_at fits t e w R) T m p X q Y r (x.refuses a)
