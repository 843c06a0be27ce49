-- Yes exactly if the list is the clean reading of the frame.
use mathlib.Core.Path.{◌≡◌, refl, sym, ap, ◌∙◌}
use mathlib.Core.Bool.{true, false}
use mathlib.Core.List.{List, [], ◌∷◌, ◌++◌}
use Prim.Native.Nat.{ℕ, zero, suc, ◌*◌, ◌≤◌}
use native.Mathlib.Omega.{arith}
use lib.ListN.{length, take, drop}
use Rattle.atn.specs.Format.{Fmt}
use Rattle.atn.specs.Reading.{Rec}
use Rattle.atn.specs.Entries.{Reply, accept, ran_out, badly, unsupplied, read_frame, accepted, flat, need, settle, Test, test}
use Rattle.atn.specs.Demands.{passes, Message}
use Rattle.atn.proofs.Demands.{clean-message, message-clean}
use Rattle.atn.proofs.Outcomes.{settle-fits, decide_go, flat-need}
use Rattle.list_comparison.specs.declared.Checked.TheVariants.{Yes}
use Rattle.list_comparison.proofs.YesLaws.{same-yes, yes-same}
use Rattle.list_checker.specs.declared.entries.Entry.{Entry}
use Rattle.list_checker.specs.Entered.{entered, reading_of}
use Rattle.list_checker.specs.Checks.{held, checked, all_tests, check_list}
use Rattle.list_checker.specs.Clean.{Clean}
use Rattle.list_checker.proofs.EntryLaws.{tests_and_reading}
use Rattle.list_checker.proofs.JudgeLaws.{checked_go, said-clean}

held-clean : (r : Reply) (l : List ℕ) → held r l ≡ Yes → Clean r l
unfolding held
held-clean (accept false p zero R) l h = record { reach = p; recs = R; is = refl; list = yes-same 1 R l h }
held-clean (accept false p (suc m) R) l h = absurd (let z : ◌≡◌ {A = ℕ} 0 1 = cc in omega arith)
held-clean (accept true p m R) l h = absurd (let z : ◌≡◌ {A = ℕ} 0 1 = cc in omega arith)
held-clean (ran_out p lacked) l h = absurd (let z : ◌≡◌ {A = ℕ} 0 1 = cc in omega arith)
held-clean (badly p) l h = absurd (let z : ◌≡◌ {A = ℕ} 0 1 = cc in omega arith)
held-clean (unsupplied p) l h = absurd (let z : ◌≡◌ {A = ℕ} 0 1 = cc in omega arith)

checked-clean : (ts : List Test) (r : Reply) (l : List ℕ) → checked ts r l ≡ Yes → (passes ts ≡ true) × Clean r l
unfolding checked passes
checked-clean [] r l h = (refl, held-clean r l h)
checked-clean (test true n ∷ ts) r l h = checked-clean ts r l h
checked-clean (test false n ∷ ts) r l h = absurd (let z : ◌≡◌ {A = ℕ} 0 1 = cc in omega arith)

settled : (p : ℕ) (R : List Rec) (l w : List ℕ) → l ≡ flat R → length l ≤ length w → settle (accept false p 0 R) w ≡ (accepted false p 0 (length R), l ++ drop (length l) w)
settled p R l w q h = let n : length l ≡ need R = ap (λ (x : List ℕ). length x) q ∙ flat-need R in rw (n, q) (settle-fits false p 0 R w (omega arith))

module _ (s : List ℕ) (e : Entry) (down up l : List ℕ) where
  pub yes-clean : check_list s e down up l ≡ Yes → (passes (all_tests s e down up) ≡ true) × Clean (reading_of e down up s) l
  unfolding check_list
  yes-clean h = checked-clean (all_tests s e down up) (reading_of e down up s) l h

  pub clean-yes : passes (all_tests s e down up) ≡ true → Clean (reading_of e down up s) l → check_list s e down up l ≡ Yes
  unfolding check_list held
  clean-yes t c = checked_go (all_tests s e down up) (reading_of e down up s) l t ∙ rw (c.is, c.list) (same-yes 1 c.recs)

  ---------------------------------------------------------------- as the entry itself answers

  -- with room, the entry accepts the frame clean and writes this list
  pub yes-given : check_list s e down up l ≡ Yes → (p k : ℕ) × ((w : List ℕ) → length l ≤ length w → entered e down up s w ≡ (accepted false p 0 k, l ++ drop (length l) w))
  yes-given h =
      let y = yes-clean h in
      let c = y.1 in
      (c.reach, length c.recs, λ w r. tests_and_reading s e down up w ∙ decide_go (all_tests s e down up) (reading_of e down up s) w y.0 ∙ ap (λ (x : Reply). settle x w) c.is ∙ settled c.reach c.recs l w c.list r)

  pub given_yes : {p k : ℕ} (w : List ℕ) {w' : List ℕ} → entered e down up s w ≡ (accepted false p 0 k, w') → l ≡ take (k * 5) w' → check_list s e down up l ≡ Yes
  given_yes w h q = sym (said-clean s e down up w l refl (sym h) λ R t. sym (rw (q ∙ t) (same-yes 1 R)))

  ---------------------------------------------------------------- as a message, for the entries of one format

  pub yes-message : (f : Fmt) → reading_of e down up s ≡ read_frame f s → check_list s e down up l ≡ Yes → (p : ℕ) × (R : List Rec) × Message f s p R × (l ≡ flat R)
  yes-message f q h = let c = (yes-clean h).1 in (c.reach, c.recs, clean-message f s c.reach c.recs (sym q ∙ c.is), c.list)

  pub message-yes : (f : Fmt) → reading_of e down up s ≡ read_frame f s → passes (all_tests s e down up) ≡ true → (p : ℕ) (R : List Rec) → Message f s p R → l ≡ flat R → check_list s e down up l ≡ Yes
  message-yes f q t p R m z = clean-yes t (record { reach = p; recs = R; is = q ∙ message-clean f s p R m; list = z })
