-- The forward message: its body from the header and the carried data, and what is left of it where it fails.
use mathlib.Core.Path.{◌≡◌, refl}
use mathlib.Core.Bool.{Bool, true, false, cond}
use mathlib.Core.List.{List, [], ◌∷◌, ◌++◌, append-nil}
use Prim.Native.Nat.{ℕ, zero, suc, ◌+◌, ◌-◌, ◌*◌, ◌%◌, ◌≤◌, ◌<◌}
use native.Mathlib.Omega.{arith}
use lib.ListN.{length}
use lib.Dec.{eqb}
use borrow.Author.Tests.{eqb-true, eqb-false, ne_eqb}
use Rattle.x691.specs.Bits.{bit_of}
use Rattle.x691.specs.Encoding.{width, width_in, highest, count}
use Rattle.atn.specs.Format.{Fmt, Alts, seq, choice, lax, end, ◌⨾◌, none_left, ◌∥◌, out, bad, lack, quit}
use Rattle.atn.specs.Messages.{message_data, carried}
use Rattle.atn.specs.Reading.{Rec, rec, Ans, ok, then, mark, softly, pass_over, flags, read, read_fields, read_choice}
use Rattle.atn.specs.Tags as tag
use Rattle.atn.proofs.Elements.{data_placeless}
use Rattle.atn.proofs.Shift.{placeless}
use Rattle.cursor.specs.declared.place.Cursor.{Cursor}
use Rattle.cursor.specs.declared.place.Got.{Got}
use Rattle.cursor.specs.Place.{Inside, Pulls, Led, Reads}
use Rattle.cursor.specs.Place as place
use Rattle.cursor.proofs.Laws.{reads_then, reads_ok, marked-nil, pull-from}
use Rattle.length_determinants.proofs.LengthLaws.{known_some}
use Rattle.cursor.proofs.FormatLaws.{all_read, reads_plain, reads_going, takes_back}
use Rattle.records.specs.Told.{Told}
use Rattle.records.specs.Space.{space}
use Rattle.records.specs.Moves.{raised_places}
use Rattle.records.proofs.Telling.{told_none, told-then, told-within}
use Rattle.runs.specs.declared.At.{At}
use Rattle.runs.specs.Runs.{Ran, failed, Runs}
use Rattle.runs.specs.Windows.{closed_why, closed}
use Rattle.runs.proofs.FrameLaws.{soft_went, soft_out, soft_bad}
use Rattle.runs.proofs.AttemptLaws.{lax_ends}
use Rattle.message.specs.Data.{data_at}
use Rattle.forward_headers.specs.declared.Header.{Header}
use Rattle.inner_messages.specs.Parts.{lax_data}
use Rattle.inner_strings.specs.Strings.{Lacks, Has}
use Rattle.forward_headers.specs.Headers.{header, header_recs, Headers}
use Rattle.forward.specs.Forward.{Forgives, carried_table, forward_at}
use Rattle.inner_strings.proofs.StringLaws.{bytes, window_goes, window_inside, tells_lost, tells_read}

---------------------------------------------------------------- the table of the carried data

module _ (v : ℕ) (down up : List ℕ) {b : ℕ} {s : List ℕ} {c : Cursor} {n : ℕ} {w w' : List ℕ} {r : At} where
  pub carried-up : v ≡ 0 → Runs b (lax_data up s) s c n w w' r → Runs b (lax_data (carried_table v down up) s) s c n w w' r
  unfolding carried_table
  carried-up q x = rw q x

  pub carried-down : (v ≡ 0 → ⊥) → Runs b (lax_data down s) s c n w w' r → Runs b (lax_data (carried_table v down up) s) s c n w w' r
  unfolding carried_table
  carried-down = go v
    where
      go : (v : ℕ) → (v ≡ 0 → ⊥) → Runs b (lax_data down s) s c n w w' r → Runs b (lax_data (carried_table v down up) s) s c n w w' r
      go zero h x = absurd (h refl)
      go (suc v) h x = x

---------------------------------------------------------------- the body

module _ (down up : List ℕ) where
  abbrev directions : Alts
  directions = carried up ∥ carried down ∥ none_left

  abbrev carried_at : ℕ → List ℕ → ℕ → ℕ → Ans
  carried_at v s u p = read (carried (carried_table v down up)) (0, 0) (bit_of s) u p

  abbrev body_at : List ℕ → ℕ → ℕ → Ans
  body_at s u p = read (seq (header ⨾ choice tag.carried_direction directions ⨾ end)) (0, 0) (bit_of s) u p

  direction-read : (v : ℕ) (s : List ℕ) (u p : ℕ) → v < 2 → carried_at v s u p ≡ read_choice directions v (0, 0) (bit_of s) u p
  unfolding carried_table read_choice
  direction-read zero s u p l = refl
  direction-read (suc zero) s u p l = refl
  direction-read (suc (suc v)) s u p l = absurd (omega arith)

  module _ {s : List ℕ} {c e : Cursor} {h : Got Header} {g : Got ℕ} {R : List Rec} (x : Headers s c h) (pulls : Pulls s h.c 1 g) (y : Reads (carried_at g.v s) s g.c e R) where
    abbrev told : List Rec
    told = rec 21 0 g.v 0 h.c.at ∷ R

    direction_choice : Inside s h.c → Reads (λ u p. read (choice tag.carried_direction directions) (0, 0) (bit_of s) u p) s h.c e told
    unfolding read width width_in highest count
    direction_choice j =
        pull-from 1 g (λ a v u q. then (ok q (rec 21 0 v 0 a ∷ []) 0) λ r. read_choice directions v (0, 0) (bit_of s) u r) pulls
        (reads_then (λ u q. ok q (rec 21 0 g.v 0 h.c.at ∷ []) 0) (λ u r. read_choice directions g.v (0, 0) (bit_of s) u r) (reads_ok _ 0 (marked-nil g.c))
        (reads_going (carried_at g.v s) (λ u r. read_choice directions g.v (0, 0) (bit_of s) u r) (λ z. direction-read g.v s g.c.end g.c.at ((known_some z pulls).below j)) y))

    body_read : Reads (body_at s) s c e (header_recs s h.v 0 ++ told)
    unfolding read_fields flags all_read
    body_read =
        record {
          led = λ i.
              let last : Reads (λ u p. then (read (choice tag.carried_direction directions) (0, 0) (bit_of s) u p) (λ q. ok q [] 0)) s h.c e (told ++ []) =
              reads_then (λ u p. read (choice tag.carried_direction directions) (0, 0) (bit_of s) u p) (λ u q. ok q [] 0) (direction_choice (takes_back x.takes i).0) (reads_ok [] 0 (marked-nil e)) in
              (reads_plain (header ⨾ choice tag.carried_direction directions ⨾ end) (0, 0) refl refl
              (reads_then (λ u p. read header (0, 0) (bit_of s) u p) (λ u p. then (read (choice tag.carried_direction directions) (0, 0) (bit_of s) u p) (λ q. ok q [] 0)) (x.takes.took (0, 0)) (rw (append-nil told) at last))).led i;
        }

---------------------------------------------------------------- what is left of it

-- it stopped at what is not supplied
soft_stopped : (t : ℕ) (k : ℕ → ℕ → Ans) {c d : Cursor} {R : List Rec} → Led k c d R → c.why ≡ 0 → (d.why ≡ 0 → ⊥) → (d.why % 16 ≡ 4 → ⊥) → (d.why ≡ 5 → ⊥) → Ran (λ u p. softly t false (k u p)) c d []
unfolding softly pass_over
soft_stopped t k (place.Led.stayed n q) z n₀ n₄ n₅ = absurd (n z)
soft_stopped t k (place.Led.went p m y a l q) z n₀ n₄ n₅ = absurd (n₀ (rw q refl))
soft_stopped t k (place.Led.failed (out lacked) p m S n y a l q) z n₀ n₄ n₅ = absurd (n₄ (rw q (omega arith)))
soft_stopped t k (place.Led.failed bad p m S n y a l q) z n₀ n₄ n₅ = absurd (n₅ (rw q refl))
soft_stopped t k (place.Led.failed lack p m S n y a l q) z n₀ n₄ n₅ = failed lack p m S n y (rw a) l q
soft_stopped t k (place.Led.failed (quit o j v) p m S n y a l q) z n₀ n₄ n₅ = absurd (n refl)

soft_forgiven : (k : ℕ → ℕ → Ans) {c d e : Cursor} {R : List Rec} → Led k c d R → c.why ≡ 0 → (d.why ≡ 0 → ⊥) → Forgives d e → Ran (λ u p. softly 7 false (k u p)) c e []
unfolding mark
soft_forgiven k {c} {d} {e} led z n₀ f = by (eqb (d.why % 16) 4) refl (eqb d.why 5) refl
  where
    by : (t : Bool) → eqb (d.why % 16) 4 ≡ t → (o : Bool) → eqb d.why 5 ≡ o → Ran (λ u p. softly 7 false (k u p)) c e []
    by true q o r = let y = eqb-true (d.why % 16) 4 q in rw (f.cut y) (soft_out 7 k led z y)
    by false q true r = let y = eqb-true d.why 5 r in rw (f.over y) (soft_bad 7 k led z y)
    by false q false r = let n₄ = eqb-false (d.why % 16) 4 q in let n₅ = eqb-false d.why 5 r in rw (f.kept n₄ n₅) (soft_stopped 7 k led z n₀ n₄ n₅)

-- behind what is never badly formed nor too short the window around is neither
closed_neither : (w : ℕ) → (w % 16 ≡ 4 → ⊥) → (w ≡ 5 → ⊥) → (closed_why w % 16 ≡ 4 → ⊥) × (closed_why w ≡ 5 → ⊥)
unfolding closed_why
closed_neither w n₄ n₅ = rw (ne_eqb (w % 16) 4 n₄, ne_eqb w 5 n₅) (by (eqb w 6))
  where
    by : (t : Bool) → (◌≡◌ {A = ℕ} (cond t 6 0 % 16) 4 → ⊥) × (◌≡◌ {A = ℕ} (cond t 6 0) 5 → ⊥)
    by true = (λ z. omega arith, λ z. omega arith)
    by false = (λ z. omega arith, λ z. omega arith)

abbrev data_of : ℕ → List ℕ → List ℕ → Fmt
data_of v down up = lax 7 false (message_data (carried_table v down up))

data_of_placeless : (v : ℕ) (down up : List ℕ) → placeless (data_of v down up) ≡ true
unfolding placeless
data_of_placeless v down up = data_placeless (carried_table v down up)

given-up : (table : List ℕ) {b : ℕ} {s : List ℕ} {c : Cursor} {n : ℕ} {w w' : List ℕ} {r : At} → Runs b (lax_data table s) s c n w w' r → Runs b (λ u p. read (lax 7 false (message_data table)) (0, 0) (bit_of s) u p) s c n w w' r
unfolding lax_data data_at read
given-up table y = y

forward_soft : (down up s : List ℕ) {c d : Cursor} {R : List Rec} → Ran (λ u p. softly 7 false (body_at down up s u p)) c d R → Ran (forward_at down up s) c d R
unfolding forward_at read
forward_soft down up s y = y

module _ (down up : List ℕ) {s : List ℕ} {c : Cursor} {h : Got Header} {g : Got ℕ} {n : ℕ} {w : List ℕ} (goes : c.why ≡ 0) (x : Headers s c h) (pulls : Pulls s h.c 1 g) where
  pub forward_lost : {b : ℕ} {d e : Cursor} → Lacks s g.c d → Forgives d e → Runs b (forward_at down up s) s c n w w (record { n = n; c = e })
  forward_lost {b} lacks f =
      let tells = tells_lost (data_of g.v down up) {n = n} {w = w} (data_of_placeless g.v down up) lacks in
      record { recs = []; ran = λ i. forward_soft down up s (soft_forgiven (body_at down up s) ((body_read down up x pulls tells.reads).led i) goes lacks.stops f); told = told-within b (omega arith) told_none }

  pub forward-read : {from to by a k : ℕ} {window d e : Cursor} {w₁ w₂ w₃ w₄ : List ℕ} {r : At} → length s ≤ 65536 → Has s g.c from to window d → Told 71 w w₁ n a (header_recs s h.v 0) → Told 1 w₁ w₂ a k (rec 21 0 g.v 0 h.c.at ∷ [])
      → Runs 236050 (lax_data (carried_table g.v down up) (bytes s from to)) (bytes s from to) window k w₂ w₃ r → by ≡ from * 8 → w₄ ≡ raised_places by (r.n - k) (space k) w₃ → e ≡ closed d r.c → Runs 236122 (forward_at down up s) s c n w w₄ (record { n = r.n; c = e })
  unfolding closed lax_data
  forward-read {from} {to} {by} {d = d} {r = r} short has t₁ t₂ y m v q =
      let eight : by ≡ 8 * from = omega (arith, m) in
      let tells = tells_read (data_of g.v down up) (data_of_placeless g.v down up) short has (given-up (carried_table g.v down up) y) in
      record {
        recs = header_recs s h.v 0 ++ (rec 21 0 g.v 0 h.c.at ∷ tells.recs);
        ran = λ i.
            let ends = lax_ends (data_at (carried_table g.v down up) (bytes s from to)) 7 false (window_goes has) (y.ran (window_inside has)) in
            let neither = closed_neither r.c.why ends.0 ends.1 in
            rw q (forward_soft down up s (soft_went 7 (body_at down up s) ((body_read down up x pulls tells.reads).led i) goes neither.0 neither.1));
        told = rw (v, eight) (told-then t₁ (told-then t₂ tells.told));
      }
