-- The tests before the reading, and the two readings of a frame of either direction.
use mathlib.Core.Path.{◌≡◌, refl, ◌∙◌}
use mathlib.Core.Bool.{true, false, ◌&&◌}
use mathlib.Core.List.{List}
use Prim.Native.Nat.{ℕ, ◌+◌, ◌*◌, ◌/◌, ◌%◌, ◌≤◌, ◌<◌}
use native.Mathlib.Omega.{arith}
use lib.ListN.{length}
use borrow.Author.Tests.{le-leb, lt-leb}
use Rattle.atn.specs.Entries.{Reply, accept, ran_out, badly, unsupplied, or_else, after_out, after_bad, read_frame, pdus, Outcome, refused, settle, table_fits, direction_fits, decide, pdus_tests, apdu_tests, parse_pdus, parse_apdu}
use Rattle.answers.proofs.Entering.{enter-long, enter_tests}
use Rattle.answers.specs.declared.Answer.{Answer}
use Rattle.answers.specs.Says.{answer_of, Says}
use Rattle.verdicts.specs.declared.Verdict.{Verdict}
use Rattle.verdicts.specs.Verdicts.{verdict_of}

---------------------------------------------------------------- the tests

module _ (s : List ℕ) (d : ℕ) (down up w : List ℕ) where
  pub pdus-long : 65536 < length s → ◌≡◌ {A = Outcome} (refused 1 0 0 0, w) (parse_pdus s d down up w)
  unfolding parse_pdus
  pdus-long h = enter-long (pdus_tests d down up) _ s w h

  pub pdus-tables : length s ≤ 65536 → (table_fits down && table_fits up) ≡ false → ◌≡◌ {A = Outcome} (refused 2 0 0 0, w) (parse_pdus s d down up w)
  unfolding parse_pdus decide
  pdus-tables h t = enter_tests (pdus_tests d down up) _ s w h (rw t)

  pub pdus-direction : length s ≤ 65536 → (table_fits down && table_fits up) ≡ true → 1 < d → ◌≡◌ {A = Outcome} (refused 3 0 0 0, w) (parse_pdus s d down up w)
  unfolding parse_pdus decide direction_fits
  pdus-direction h t l = enter_tests (pdus_tests d down up) _ s w h (rw (t, lt-leb d 1 l))

  pub pdus_reads : {o : Outcome} → length s ≤ 65536 → (table_fits down && table_fits up) ≡ true → d ≤ 1 → o ≡ settle (read_frame (pdus d down up) s) w → o ≡ parse_pdus s d down up w
  unfolding parse_pdus decide direction_fits
  pdus_reads h t l e = enter_tests (pdus_tests d down up) _ s w h (e ∙ rw (t, le-leb d 1 l))

module _ (s down up w : List ℕ) where
  pub apdu-long : 65536 < length s → ◌≡◌ {A = Outcome} (refused 1 0 0 0, w) (parse_apdu s down up w)
  unfolding parse_apdu
  apdu-long h = enter-long (apdu_tests down up) _ s w h

  pub apdu-tables : length s ≤ 65536 → (table_fits down && table_fits up) ≡ false → ◌≡◌ {A = Outcome} (refused 2 0 0 0, w) (parse_apdu s down up w)
  unfolding parse_apdu decide
  apdu-tables h t = enter_tests (apdu_tests down up) _ s w h (rw t)

  pub apdu_reads : {o : Outcome} → length s ≤ 65536 → (table_fits down && table_fits up) ≡ true → o ≡ settle (or_else (read_frame (pdus 0 down up) s) (read_frame (pdus 1 down up) s)) w → o ≡ parse_apdu s down up w
  unfolding parse_apdu decide pdus
  apdu_reads h t e = enter_tests (apdu_tests down up) _ s w h (e ∙ rw t)

---------------------------------------------------------------- the two readings

module _ {v : Verdict} (r u : Reply) (h : v ≡ verdict_of r) where
  else_out : v.why % 16 ≡ 4 → or_else r u ≡ after_out v.reach (v.why / 16) u
  unfolding verdict_of or_else
  else_out = go r h
    where
      go : (r : Reply) → v ≡ verdict_of r → v.why % 16 ≡ 4 → or_else r u ≡ after_out v.reach (v.why / 16) u
      go (accept false p m R) q z = absurd (let y : ◌≡◌ {A = ℕ} 0 4 = rw q at z in omega arith)
      go (accept true p m R) q z = absurd (let y : ◌≡◌ {A = ℕ} 7 4 = rw q at z in omega arith)
      go (ran_out p k) q z = let lacked : (4 + 16 * k) / 16 ≡ k = omega arith in rw (q, lacked)
      go (badly p) q z = absurd (let y : ◌≡◌ {A = ℕ} 5 4 = rw q at z in omega arith)
      go (unsupplied p) q z = absurd (let y : ◌≡◌ {A = ℕ} 6 4 = rw q at z in omega arith)

  else_bad : v.why ≡ 5 → or_else r u ≡ after_bad v.reach u
  unfolding verdict_of or_else
  else_bad = go r h
    where
      go : (r : Reply) → v ≡ verdict_of r → v.why ≡ 5 → or_else r u ≡ after_bad v.reach u
      go (accept false p m R) q z = absurd (let y : ◌≡◌ {A = ℕ} 0 5 = rw q at z in omega arith)
      go (accept true p m R) q z = absurd (let y : ◌≡◌ {A = ℕ} 7 5 = rw q at z in omega arith)
      go (ran_out p lacked) q z = absurd (let y = rw q at z in omega arith)
      go (badly p) q z = rw q
      go (unsupplied p) q z = absurd (let y : ◌≡◌ {A = ℕ} 6 5 = rw q at z in omega arith)

  else_first : (v.why % 16 ≡ 4 → ⊥) → (v.why ≡ 5 → ⊥) → or_else r u ≡ r
  unfolding verdict_of or_else
  else_first = go r h
    where
      go : (r : Reply) → v ≡ verdict_of r → (v.why % 16 ≡ 4 → ⊥) → (v.why ≡ 5 → ⊥) → or_else r u ≡ r
      go (accept c p m R) q n₄ n₅ = refl
      go (ran_out p k) q n₄ n₅ = absurd (n₄ (rw q (omega arith)))
      go (badly p) q n₄ n₅ = absurd (n₅ (rw q refl))
      go (unsupplied p) q n₄ n₅ = refl

-- the answer of what both say, of words that have stayed
module _ {v : Verdict} (r u : Reply) {a : Answer} {w w₁ w' : List ℕ} (h : v ≡ verdict_of r) (first : w₁ ≡ w) where
  pub says_first : (v.why % 16 ≡ 4 → ⊥) → (v.why ≡ 5 → ⊥) → Says a w' (settle r w₁) → ◌≡◌ {A = Outcome} (answer_of a, w') (settle (or_else r u) w)
  says_first n₄ n₅ x = rw (else_first r u h n₄ n₅, ← first) x.is

  module _ {w₂ : List ℕ} (second : w₂ ≡ w₁) where
    pub says_out : v.why % 16 ≡ 4 → Says a w' (settle (after_out v.reach (v.why / 16) u) w₂) → ◌≡◌ {A = Outcome} (answer_of a, w') (settle (or_else r u) w)
    says_out z x = rw (else_out r u h z, ← first, ← second) x.is

    pub says-bad : v.why ≡ 5 → Says a w' (settle (after_bad v.reach u) w₂) → ◌≡◌ {A = Outcome} (answer_of a, w') (settle (or_else r u) w)
    says-bad z x = rw (else_bad r u h z, ← first, ← second) x.is
