-- The protected message from its parts.
use mathlib.Core.Path.{◌≡◌, refl, ap, ◌∙◌}
use mathlib.Core.Bool.{false}
use mathlib.Core.List.{List, [], ◌∷◌, ◌++◌}
use Prim.Native.Nat.{ℕ, suc, ◌+◌, ◌*◌, ◌/◌, ◌%◌}
use native.Mathlib.Nat.{add-zero}
use native.Mathlib.Omega.{arith}
use Rattle.x691.specs.Bits.{bit_of}
use Rattle.atn.specs.Format.{Fmt, bad, skipped, inner, soft, any_span, seq, Flds, end, ◌⨾◌, ◌⨾?◌, or_note}
use Rattle.atn.specs.Messages.{atc_message, no_reader}
use Rattle.atn.specs.Reading.{rec, Ans, ok, mark, flags, read}
use Rattle.atn.specs.Tags as tag
use Rattle.atn.proofs.Tame.{tame}
use Rattle.cursor.specs.declared.place.Cursor.{Cursor}
use Rattle.cursor.specs.declared.place.Got.{Got}
use Rattle.length_determinants.specs.Lengths.{Measures, Passes}
use Rattle.cursor.specs.Place.{marked, stopped, Pulls, Opens, Reads}
use Rattle.cursor.proofs.Laws.{reads_ok, reads_here, marked-nil}
use Rattle.length_determinants.proofs.LengthLaws.{reads_clear, reads_set, takes_skipped}
use Rattle.cursor.proofs.FormatLaws.{all_read, takes_refuse, opened_inside, opened-bit, last_bit}
use Rattle.records.specs.Told.{Told}
use Rattle.records.proofs.Telling.{told-then}
use Rattle.runs.specs.declared.At.{At}
use Rattle.runs.specs.Runs.{Ran, Runs}
use Rattle.runs.proofs.FrameLaws.{runs_root, runs_extended}
use Rattle.runs.proofs.RunLaws.{ran_inside, ran_led, ran_back, ran_last, ran_may, ran_note, ran_opened, runs_told, runs_silent, runs_stayed, runs_within, runs_clear, runs_set}
use Rattle.integrity.specs.Parts.{integrity}
use Rattle.inner_messages.specs.Parts.{inner_at}
use Rattle.protected.specs.Parts.{algorithm, message_part, protected}

---------------------------------------------------------------- the octets of an algorithm

abbrev skips : List ℕ → ℕ → ℕ → Ans
skips s u p = read (skipped 4) (0, 0) (bit_of s) u p

module _ (has : ℕ) {s : List ℕ} {c : Cursor} where
  pub algorithm-none : has ≡ 0 → Reads (algorithm has s) s c c []
  unfolding algorithm
  algorithm-none z = reads_clear has (λ u p. ok p [] 0) (skips s) z (reads_ok [] 0 (marked-nil c))

  pub algorithm_skipped : {k : ℕ} {d r : Cursor} {l : Got ℕ} → (has ≡ 0 → ⊥) → d ≡ marked c 8 → Measures s d l → k ≡ l.v * 8 → Passes l.c k r → Reads (algorithm has s) s c r []
  unfolding algorithm mark
  algorithm_skipped h q measures e passes = reads_set has (λ u p. ok p [] 0) (skips s) h ((takes_skipped 4 q measures (rw e at passes)).took (0, 0))

---------------------------------------------------------------- the message

abbrev absent : ℕ → ℕ → Ans
absent u p = ok p (rec 8 0 1 0 p ∷ []) 0

module _ (has : ℕ) (table : List ℕ) {b : ℕ} {s : List ℕ} {c : Cursor} {n : ℕ} {w : List ℕ} where
  pub part_stuck : has ≡ 0 → (c.why ≡ 0 → ⊥) → Runs b (message_part has table s) s c n w w (record { n = n; c = c })
  unfolding message_part
  part_stuck z h = runs_clear absent (inner_at table s) has z (runs_within b absent (omega arith) (runs_stayed absent h))

  pub part-absent : {m : ℕ} {w' : List ℕ} → has ≡ 0 → c.why ≡ 0 → Told b w w' n m (rec 8 0 1 0 c.at ∷ []) → Runs b (message_part has table s) s c n w w' (record { n = m; c = c })
  unfolding message_part
  part-absent z h x = runs_clear absent (inner_at table s) has z (runs_told absent (reads_here (λ p. rec 8 0 1 0 p ∷ []) 0 (marked-nil c)) h x)

  pub part_there : {w' : List ℕ} {r : At} → (has ≡ 0 → ⊥) → Runs b (inner_at table s) s c n w w' r → Runs b (message_part has table s) s c n w w' r
  unfolding message_part
  part_there z x = runs_set absent (inner_at table s) has z x

---------------------------------------------------------------- all of it

abbrev checked : Fmt
checked = soft 7 false (any_span tag.integrity_check 1)

abbrev behind : List ℕ → Flds
behind table = or_note tag.empty 1 0 (inner (atc_message table)) (checked ⨾ end)

abbrev body : List ℕ → Fmt
body table = seq (skipped 4 ⨾? behind table)

module _ (table : List ℕ) {s : List ℕ} {c : Cursor} {g : Got ℕ} {n : ℕ} {w : List ℕ} (pulls : Pulls s c 1 g) where
  -- "extension bit (set: 5)"
  pub protected-extended : {b : ℕ} {d e : Cursor} → (g.v ≡ 0 → ⊥) → d ≡ marked g.c 2 → e ≡ stopped d 5 0 → Runs b (protected table s) s c n w w (record { n = n; c = e })
  unfolding protected
  protected-extended {b} {d} h q x =
      runs_within b (protected table s) (omega arith) (runs_extended (0, 0) (body table) no_reader g pulls h q (runs_silent (λ u p. read no_reader (0, 0) (bit_of s) u p) ((takes_refuse {T = λ _. []} bad 0 (λ z. omega arith) x).took (0, 0))))

  pub protected-read : {b : ℕ} {o : Got ℕ} {a : Cursor} {w₁ w₂ : List ℕ} {r t : At} → g.v ≡ 0 → Opens s g.c 2 o → Reads (algorithm (o.v / 2 % 2) s) s o.c a []
      → Runs b (message_part (o.v % 2) table s) s a n w w₁ r → Runs 1 (integrity s) s r.c r.n w₁ w₂ t → Runs (b + 1) (protected table s) s c n w w₂ t
  unfolding protected algorithm message_part inner_at integrity tame flags all_read
  protected-read {o = o} {a} {r = r} z opens x₀ x₁ x₂ =
      runs_root (0, 0) (body table) no_reader g pulls z
      (record {
        recs = [] ++ (x₁.recs ++ x₂.recs);
        ran = λ i.
            let i₀ = opened_inside i opens in
            let y₀ : Ran (algorithm (o.v / 2 % 2) s) o.c a [] = ran_led (algorithm (o.v / 2 % 2) s) (x₀.led i₀) (λ _. refl) (λ _. refl) in
            let i₁ = ran_inside _ s o.c a y₀ i₀ in
            let y₁ = x₁.ran i₁ in
            let i₂ = ran_inside _ s a r.c y₁ i₁ in
            let first : o.c.why ≡ 0 → o.v / 2 % 2 ≡ bit_of s g.c.at = λ h. opened-bit 0 i opens (omega arith) h ∙ ap (bit_of s) (add-zero g.c.at) in
            let second : a.why ≡ 0 → o.v % 2 ≡ bit_of s (suc g.c.at) = λ h. last_bit 1 i opens (ran_back _ y₀ h) ∙ ap (bit_of s) (omega arith) in
            ran_opened (skipped 4 ⨾? behind table) (0, 0) 2 o refl refl i (opens.gave i)
            (ran_may (0, 0) s (skipped 4) (behind table) g.c.at (o.v / 2 % 2) refl first y₀
            (ran_note (0, 0) s tag.empty 1 0 (inner (atc_message table)) (checked ⨾ end) (suc g.c.at) (o.v % 2) refl second y₁ (ran_last (0, 0) s checked (suc (suc g.c.at)) (x₂.ran i₂))));
        told = told-then x₁.told x₂.told;
      })
