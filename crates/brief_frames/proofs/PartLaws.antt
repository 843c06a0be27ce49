-- The extension and the reasons: from what their bits say to what they come to.
use mathlib.Core.Path.{◌≡◌, refl, sym, ap, ◌∙◌}
use mathlib.Core.List.{List, [], ◌∷◌}
use Prim.Native.Nat.{ℕ, zero, suc, ◌+◌, ◌-◌, ◌*◌, ◌^◌, ◌≤◌, ◌<◌}
use native.Mathlib.Nat.{zero-add}
use native.Mathlib.Omega.{arith}
use lib.ListN.{length}
use Rattle.x691.specs.Bits.{bit_of, uint}
use Rattle.x691.specs.Types.{extent}
use Rattle.x691.specs.Encoding.{width}
use Rattle.per.proofs.Laws.{uint-below-wide}
use Rattle.atn.specs.Format.{Fmt, out, num, small, ext}
use Rattle.atn.specs.Reading.{rec, Ctx, Ans, ok, stop, then, glue, fork, over, or, mark, read}
use Rattle.atn.specs.Messages.{ext_reason, extended, extension_alternative}
use Rattle.atn.specs.Tags as tag
use Rattle.atn.proofs.Steps.{pull_go, pull_no}
use Rattle.cursor.specs.declared.place.Cursor.{Cursor}
use Rattle.cursor.specs.declared.place.Got.{Got}
use Rattle.cursor.specs.Place.{marked, stopped, Led, stayed, went, failed}
use Rattle.length_determinants.specs.Lengths.{Smalls}
use Rattle.length_determinants.proofs.LengthLaws.{takes_small}
use Rattle.ample_readings.proofs.SureLaws.{sure_num}
use Rattle.brief_frames.specs.declared.parts.Brief.{Brief}
use Rattle.brief_frames.specs.Briefs.{behind_direction, Came, told}
use Rattle.brief_frames.specs.Briefs as briefs

---------------------------------------------------------------- an extension bit

fork-set : (v : ℕ) (x y : Ans) → (v ≡ 0 → ⊥) → fork v x y ≡ y
unfolding fork
fork-set zero x y n = absurd (n refl)
fork-set (suc v) x y n = refl

module _ (f g : Fmt) (x : Ctx) (b : ℕ → ℕ) (e at : ℕ) (h : at + 1 ≤ e) where
  pub ext_set : (uint b at 1 ≡ 0 → ⊥) → read (ext f g) x b e at ≡ glue [] (mark 2) (read g x b e (at + 1))
  unfolding read then
  ext_set n = pull_go b e at 1 _ h ∙ fork-set (uint b at 1) _ _ n

  pub ext_clear : uint b at 1 ≡ 0 → read (ext f g) x b e at ≡ read f x b e (at + 1)
  unfolding read fork
  ext_clear z = pull_go b e at 1 _ h ∙ rw z

---------------------------------------------------------------- reasons

-- behind the record of its index
abbrev Reason : List ℕ → ℕ → ℕ → ℕ → ℕ → ℕ → Ans
Reason s e at i t hi = glue (rec tag.pdu 0 i 0 1 ∷ []) 0 (read (ext_reason t hi) (0, 0) (bit_of s) e at)

module _ (s : List ℕ) (e at i t hi : ℕ) where
  pub reason-extended : at + 1 ≤ e → (uint (bit_of s) at 1 ≡ 0 → ⊥) → Reason s e at i t hi ≡ ok (at + 1) (rec tag.pdu 0 i 0 1 ∷ rec t 0 0 1 (at + 1) ∷ []) 2
  unfolding read then glue or mark
  reason-extended h n = ap (glue (rec tag.pdu 0 i 0 1 ∷ []) 0) (ext_set (num t 0 hi) (extended t) (0, 0) (bit_of s) e at h n)

  module _ {w : ℕ} (z : uint (bit_of s) at 1 ≡ 0) (high : hi < 2 ^ 64) (wide : w ≡ width hi) where
    whole : extent 0 hi ≡ hi
    unfolding extent
    whole = omega arith

    pub reason-short : at + 1 ≤ e → e < at + 1 + w → Reason s e at i t hi ≡ stop (out (at + 1 + w - e)) (at + 1) (rec tag.pdu 0 i 0 1 ∷ []) 0
    unfolding read glue or
    reason-short h l =
        let y : read (num t 0 hi) (0, 0) (bit_of s) e (at + 1) ≡ stop (out (at + 1 + w - e)) (at + 1) [] 0 = rw (whole, ← wide) (pull_no (bit_of s) e (at + 1) w _ l) in
        ap (glue (rec tag.pdu 0 i 0 1 ∷ []) 0) (ext_clear (num t 0 hi) (extended t) (0, 0) (bit_of s) e at h z ∙ y)

    pub reason-told : {v : ℕ} → w ≤ 8 → v ≡ uint (bit_of s) (at + 1) w → at + 1 + w ≤ e → Reason s e at i t hi ≡ ok (at + 1 + w) (rec tag.pdu 0 i 0 1 ∷ rec t 0 v 0 (at + 1) ∷ []) (over hi v)
    unfolding glue or
    reason-told {v} few u l =
        let y = simp zero-add at (sure_num {x = (0, 0)} {s = s} t 0 hi hi w {at = at + 1} {v = v} whole (sym wide) u (omega (arith, uint-below-wide 8 s (at + 1) w few))) in
        ap (glue (rec tag.pdu 0 i 0 1 ∷ []) 0) (ext_clear (num t 0 hi) (extended t) (0, 0) (bit_of s) e at (omega arith) z ∙ y.gives e l)

---------------------------------------------------------------- the extension

abbrev Extension : List ℕ → ℕ → Ans
Extension s e = glue [] (mark 2) (read extension_alternative (0, 0) (bit_of s) e 1)

small-short : (m t : ℕ) (x : Ctx) (b : ℕ → ℕ) (e at v : ℕ) → at + 7 ≤ e → uint b at 1 ≡ 0 → v ≡ uint b (at + 1) 6 → read (small m t) x b e at ≡ glue [] (mark m) (ok (at + 7) (rec t x.0 v 0 at ∷ []) 0)
unfolding read then fork
small-short m t x b e at v h z u = ap (glue [] (mark m)) (pull_go b e at 1 _ (omega arith) ∙ rw z (pull_go b e (at + 1) 6 _ (omega arith) ∙ rw (← u)))

pub extension-short : (s : List ℕ) (e v : ℕ) → 8 ≤ e → uint (bit_of s) 1 1 ≡ 0 → v ≡ uint (bit_of s) 2 6 → Extension s e ≡ ok 8 (rec tag.pdu 0 0 1 1 ∷ rec tag.extension_index 0 v 0 1 ∷ []) 2
unfolding read then glue or mark
extension-short s e v h z u = ap (λ (a : Ans). glue [] 2 (glue (rec tag.pdu 0 0 1 1 ∷ []) 0 a)) (small-short 2 tag.extension_index (0, 0) (bit_of s) e 1 v h z u)

abbrev start : ℕ → Cursor
start e = record { at = 1; end = e; why = 0; marks = 2 }

abbrev brief : Got ℕ → Brief
brief g = record { why = g.c.why; index = 0; extended = 1; tag = tag.extension_index; value = g.v; second = 0; place = 1; reach = g.c.at; marks = g.c.marks }

-- in either form, by the cursor behind it
pub extension-read : (s : List ℕ) (e : ℕ) {g : Got ℕ} → 1 ≤ e → e ≡ length s * 8 → Smalls s (start e) g → Came (Extension s e) (behind_direction (brief g)) (brief g)
unfolding read then glue or mark marked stopped
extension-read s e {g} h q x = go (((takes_small {c = start e} 2 tag.extension_index refl x).took (0, 0)).led (h, omega arith))
  where
    go : Led (λ u p. read (small 2 tag.extension_index) (0, 0) (bit_of s) u p) (start e) g.c (rec tag.extension_index 0 g.v 0 1 ∷ []) → Came (Extension s e) (behind_direction (brief g)) (brief g)
    go (stayed n r) = absurd (n refl)
    go (went k m y a l r) = told (ap (λ (c : Cursor). c.why) r) (rw (a, r))
    go (failed w k m S n y a l r) = briefs.failed w (rec tag.pdu 0 0 1 1 ∷ S) (or 2 m) n (ap (λ (c : Cursor). c.why) r) (rw (a, r))
