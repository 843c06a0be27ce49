-- A clean reach: it is inside the frame, hangs on the bits up to it alone, and no message has none.
use mathlib.Core.Path.{◌≡◌, refl, sym, ap, ◌∙◌}
use mathlib.Core.Bool.{true, false}
use mathlib.Core.Option.{Option, none, some}
use mathlib.Core.List.{List, [], ◌++◌}
use Prim.Native.Nat.{ℕ, zero, suc, ◌+◌, ◌*◌, ◌≤◌, ◌<◌}
use native.Mathlib.Omega.{arith}
use lib.ListN.{length, take, length-append, get_or-append}
use lib.Seq.{get_or-take, length-take-le}
use Rattle.x691.specs.Bits.{bit_of}
use Rattle.x691.specs.Encoding.{encode}
use Rattle.x691.proofs.BitLaws.{bit_of_agree}
use Rattle.atn.specs.Format.{Fmt, type_of}
use Rattle.atn.specs.Reading.{Rec}
use Rattle.atn.specs.Entries.{Reply, accept, ran_out, badly, unsupplied, read_frame, pdus, cm_of}
use Rattle.atn.specs.Demands.{Agree}
use Rattle.atn.proofs.Readings.{reply_reach, closed, format_keeps}
use Rattle.atn.proofs.Demands.{clean-message}
use Rattle.message_runs.specs.declared.Kind.{Kind}
use Rattle.message_runs.specs.declared.Kind.TheVariants.{Cpdlc, Cm, Acse}
use Rattle.message_runs.specs.Runs.{format_of, clean_reach, bytes_for}
use Rattle.message_runs.specs.Pieces.{Padded}

pub record Clean (r : Reply) (p : ℕ) : Type 0 where
  pub recs : List Rec
  pub is : r ≡ accept false p 0 recs

pub clean_is : (r : Reply) {p : ℕ} → clean_reach r ≡ some p → Clean r p
unfolding clean_reach
clean_is (accept false q zero R) h = record { recs = R; is = cc }
clean_is (accept false q (suc m) R) h = let y : ◌≡◌ {A = ℕ} 0 1 = cc in absurd (omega arith)
clean_is (accept true q m R) h = let y : ◌≡◌ {A = ℕ} 0 1 = cc in absurd (omega arith)
clean_is (ran_out q lacked) h = let y : ◌≡◌ {A = ℕ} 0 1 = cc in absurd (omega arith)
clean_is (badly q) h = let y : ◌≡◌ {A = ℕ} 0 1 = cc in absurd (omega arith)
clean_is (unsupplied q) h = let y : ◌≡◌ {A = ℕ} 0 1 = cc in absurd (omega arith)

module _ (f : Fmt) (s : List ℕ) {p : ℕ} (h : clean_reach (read_frame f s) ≡ some p) where
  pub clean-inside : p ≤ length s * 8
  unfolding reply_reach
  clean-inside = rw (clean_is (read_frame f s) h).is at ((format_keeps f).inside s)

  -- every frame with these bits is read alike
  pub clean_again : (t : List ℕ) → Agree (bit_of s) (bit_of t) p → p ≤ length t * 8 → read_frame f t ≡ read_frame f s
  unfolding reply_reach closed
  clean_again t a l =
      let i = (clean_is (read_frame f s) h).is in
      (format_keeps f).again s t (rw i) (rw i a) (rw i l)

  pub clean-fits : bytes_for p ≤ length s
  unfolding bytes_for
  clean-fits = omega (arith, clean-inside)

  -- whatever follows
  pub clean-before : (t : List ℕ) → clean_reach (read_frame f (s ++ t)) ≡ some p
  clean-before t =
      let n : length (s ++ t) ≡ length s + length t = length-append s t in
      ap clean_reach (clean_again (s ++ t) (λ i l. bit_of_agree s (s ++ t) (length s) (λ j k. sym (get_or-append s t 0 j k)) i (omega (arith, clean-inside))) (omega (arith, clean-inside))) ∙ h

  -- the bytes of its message alone
  pub clean_padded : Padded f (take (bytes_for p) s)
  unfolding bytes_for
  clean_padded =
      let n : ℕ = bytes_for p in
      let l : length (take n s) ≡ n = length-take-le n s clean-fits in
      record {
        reach = p;
        clean = ap clean_reach (clean_again (take n s) (λ i k. bit_of_agree s (take n s) n (λ j m. sym (get_or-take n s j 0 m)) i (omega arith)) (omega arith)) ∙ h;
        fills = l;
      }

---------------------------------------------------------------- no clean message is without bits

-- every message begins with its extension bit
encoded : (k : Kind) (d : ℕ) (down up : List ℕ) (v : _) → 0 < length (encode (type_of (format_of k d down up)) v)
unfolding format_of encode pdus cm_of
encoded Cpdlc zero down up v = omega arith
encoded Cpdlc (suc d) down up v = omega arith
encoded Cm zero down up v = omega arith
encoded Cm (suc d) down up v = omega arith
encoded Acse d down up v = omega arith

pub clean-some : (k : Kind) (d : ℕ) (down up s : List ℕ) {p : ℕ} → clean_reach (read_frame (format_of k d down up) s) ≡ some p → 0 < p
clean-some k d down up s {p} h =
    let i = clean_is (read_frame (format_of k d down up) s) h in
    let m = clean-message (format_of k d down up) s p i.recs i.is in
    omega (arith, encoded k d down up m.val, m.long)

-- so an empty frame is not clean
pub clean-empty : (k : Kind) (d : ℕ) (down up : List ℕ) (r : Option ℕ) → clean_reach (read_frame (format_of k d down up) []) ≡ r → r ≡ none
clean-empty k d down up none h = refl
clean-empty k d down up (some p) h = absurd (omega (arith, clean-some k d down up [] h, clean-inside (format_of k d down up) [] h))
