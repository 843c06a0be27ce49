-- The name of a clean forward message, and of every other frame none.
use mathlib.Core.Path.{◌≡◌, refl, ◌∙◌}
use mathlib.Core.Bool.{true, false, ◌&&◌}
use mathlib.Core.List.{List}
use Prim.Native.Nat.{ℕ, zero, suc, ◌+◌, ◌*◌, ◌/◌, ◌%◌, ◌≤◌, ◌<◌}
use native.Mathlib.Omega.{arith}
use lib.ListN.{length}
use borrow.Author.Tests.{le-leb, lt-leb}
use Rattle.atn.specs.Entries.{Reply, accept, ran_out, badly, unsupplied, read_frame, pdus, frame_fits, table_fits}
use Rattle.atn.specs.Messages.{ground_pdus}
use Rattle.atn.specs.Reading.{Rec}
use Rattle.verdicts.specs.declared.Verdict.{Verdict}
use Rattle.verdicts.specs.Verdicts.{verdict_of}
use Rattle.forward_names.specs.declared.Named.{Named}
use Rattle.forward_names.specs.Names.{turned, nameless, name_in, name_of, forward_name}

---------------------------------------------------------------- the tests

module _ (s down up : List ℕ) where
  pub long : 65536 < length s → nameless 1 0 ≡ forward_name s down up
  unfolding forward_name frame_fits
  long h = rw (lt-leb (length s) 65536 h)

  pub no_tables : length s ≤ 65536 → (table_fits down && table_fits up) ≡ false → nameless 2 0 ≡ forward_name s down up
  unfolding forward_name frame_fits
  no_tables h t = rw (le-leb (length s) 65536 h, t)

  pub reads : {r : Named} → length s ≤ 65536 → (table_fits down && table_fits up) ≡ true → r ≡ name_of (read_frame (ground_pdus down up) s) → r ≡ forward_name s down up
  unfolding forward_name frame_fits
  reads h t e = e ∙ rw (le-leb (length s) 65536 h, t)

---------------------------------------------------------------- the verdict

pub uplink : (s down up : List ℕ) {v : Verdict} → v ≡ verdict_of (read_frame (pdus 1 down up) s) → v ≡ verdict_of (read_frame (ground_pdus down up) s)
unfolding pdus
uplink s down up h = h

module _ {v : Verdict} where
  pub name-cut : v.why ≡ 7 → (r : Reply) → v ≡ verdict_of r → nameless 19 v.reach ≡ name_of r
  unfolding verdict_of name_of
  name-cut z (accept false p m R) h = absurd (let y : ◌≡◌ {A = ℕ} 0 7 = rw h at z in omega arith)
  name-cut z (accept true p m R) h = rw h
  name-cut z (ran_out p lacked) h = absurd (let y = rw h at z in omega arith)
  name-cut z (badly p) h = absurd (let y : ◌≡◌ {A = ℕ} 5 7 = rw h at z in omega arith)
  name-cut z (unsupplied p) h = absurd (let y : ◌≡◌ {A = ℕ} 6 7 = rw h at z in omega arith)

  pub name-refused : (v.why ≡ 7 → ⊥) → (v.why ≡ 0 → ⊥) → (r : Reply) → v ≡ verdict_of r → turned (v.why % 16) v.reach (v.why / 16) ≡ name_of r
  unfolding verdict_of name_of
  name-refused n₇ n₀ (accept false p m R) h = absurd (n₀ (rw h refl))
  name-refused n₇ n₀ (accept true p m R) h = absurd (n₇ (rw h refl))
  name-refused n₇ n₀ (ran_out p k) h = let number : (4 + 16 * k) % 16 ≡ 4 = omega arith in let lacked : (4 + 16 * k) / 16 ≡ k = omega arith in rw (h, number, lacked)
  name-refused n₇ n₀ (badly p) h = rw h
  name-refused n₇ n₀ (unsupplied p) h = rw h

  whole : {A : Type 0} (r : Reply) → v ≡ verdict_of r → v.why ≡ 0 → ((R : List Rec) → r ≡ accept false v.reach v.marks R → A) → A
  unfolding verdict_of
  whole (accept false p m R) h z k = k R (rw h)
  whole (accept true p m R) h z k = absurd (let y : ◌≡◌ {A = ℕ} 7 0 = rw h at z in omega arith)
  whole (ran_out p lacked) h z k = absurd (let y = rw h at z in omega arith)
  whole (badly p) h z k = absurd (let y : ◌≡◌ {A = ℕ} 5 0 = rw h at z in omega arith)
  whole (unsupplied p) h z k = absurd (let y : ◌≡◌ {A = ℕ} 6 0 = rw h at z in omega arith)

  pub name-marked : v.why ≡ 0 → (v.marks ≡ 0 → ⊥) → (r : Reply) → v ≡ verdict_of r → nameless 19 v.reach ≡ name_of r
  unfolding name_of
  name-marked z n r h = whole r h z λ R q. rw q (marked v.marks n v.reach R)
    where
      marked : (m : ℕ) → (m ≡ 0 → ⊥) → (p : ℕ) (R : List Rec) → nameless 19 p ≡ name_of (accept false p m R)
      marked zero n p R = absurd (n refl)
      marked (suc m) n p R = refl

  pub name-clean : {x : Named} → v.why ≡ 0 → v.marks ≡ 0 → (r : Reply) → v ≡ verdict_of r → ((R : List Rec) → r ≡ accept false v.reach 0 R → x ≡ name_in v.reach R) → x ≡ name_of r
  unfolding name_of
  name-clean {x} z n r h k = whole r h z λ R q. (let y : r ≡ accept false v.reach 0 R = rw n at q in rw y (k R y))
