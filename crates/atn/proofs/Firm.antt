-- Formats whose reading never carries on past the end of its window: only a soft part does, and presence bits that may be missing.
use mathlib.Core.Path.{◌≡◌, refl}
use mathlib.Core.Bool.{Bool, true, false, false≢true}
use mathlib.Core.List.{List}
use Prim.Native.Nat.{ℕ, zero, suc}
use native.Mathlib.Omega.{arith}
use Rattle.atn.specs.Format.{Fmt, Alts, out, bad, lack, quit}
use Rattle.atn.specs.Reading.{Rec, Ctx, Ans, ok, past, stop, glue, then, fork, close, shut, laxly, give_up, read}
use Rattle.atn.proofs.Tame.{Kind, tame, tame_choice, Keeps, tame_read}

unfoldable pub is_past : Ans → Bool
is_past (ok p R m) = false
is_past (past k p R m) = true
is_past (stop w p R m) = false

abbrev pub Firm : Ans → Type 0
Firm a = is_past a ≡ false

abbrev firmly : Kind
firmly = record { looses = false; softs = false; laxes = true; quits = true; outs = true }

abbrev pub firm : Fmt → Bool
firm f = tame firmly f

abbrev pub firm_choice : Alts → Bool
firm_choice fs = tame_choice firmly fs

---------------------------------------------------------------- how readings are put together

firm_glue : (R : List Rec) (m : ℕ) (a : Ans) → Firm a → Firm (glue R m a)
unfolding is_past glue
firm_glue R m (ok p S n) h = refl
firm_glue R m (past k p S n) h = h
firm_glue R m (stop w p S n) h = refl

firm_then : (a : Ans) (k : ℕ → Ans) → Firm a → ((q : ℕ) → Firm (k q)) → Firm (then a k)
unfolding is_past then
firm_then (ok p R m) k h g = firm_glue R m (k p) (g p)
firm_then (past l p R m) k h g = let z : ◌≡◌ {A = ℕ} 0 1 = cc in absurd (omega arith)
firm_then (stop w p R m) k h g = refl

firm_close : (q : ℕ) (a : Ans) → Firm (close q a)
unfolding is_past close shut
firm_close q (ok p R m) = refl
firm_close q (past k p R m) = refl
firm_close q (stop (out l) p R m) = refl
firm_close q (stop bad p R m) = refl
firm_close q (stop lack p R m) = refl
firm_close q (stop (quit o true k) p R m) = refl
firm_close q (stop (quit o false k) p R m) = refl

firm_lax : (k : ℕ) (j : Bool) (a : Ans) → Firm a → Firm (laxly k j a)
unfolding is_past laxly give_up
firm_lax k j (ok p R m) h = refl
firm_lax k j (past l p R m) h = h
firm_lax k j (stop (out l) p R m) h = refl
firm_lax k j (stop bad p R m) h = refl
firm_lax k j (stop lack p R m) h = refl
firm_lax k j (stop (quit o i l) p R m) h = refl

keeps_firm : Keeps firmly Firm
unfolding is_past
keeps_firm =
    record {
      keeps_ok = λ p R m. refl;
      keeps-stop = λ w p R m h. refl;
      keeps_out = λ n p R m. refl;
      keeps_then = firm_then;
      keeps-close = firm_close;
      keeps-late = λ h. absurd (false≢true h);
      keeps_soft = λ h. absurd (false≢true h);
      keeps_lax = λ h. firm_lax;
    }

pub firm_fork : (x : ℕ) (y z : Ans) → Firm y → Firm z → Firm (fork x y z)
unfolding fork
firm_fork zero y z h g = h
firm_fork (suc x) y z h g = g

---------------------------------------------------------------- formats

pub firm_read : (b : ℕ → ℕ) (f : Fmt) (x : Ctx) (e at : ℕ) → firm f ≡ true → is_past (read f x b e at) ≡ false
firm_read b f x e at h = tame_read firmly Firm keeps_firm b f x e at h
