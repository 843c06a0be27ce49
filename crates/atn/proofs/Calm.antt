-- Formats whose reading never gives up a part with all that follows it: a lax part does, and what an inner string holds of them is shut in.
use mathlib.Core.Path.{◌≡◌, refl}
use mathlib.Core.Bool.{Bool, true, false, false≢true}
use mathlib.Core.List.{List}
use Prim.Native.Nat.{ℕ}
use Rattle.atn.specs.Format.{Fmt, Why, out, bad, lack, quit}
use Rattle.atn.specs.Reading.{Rec, Ctx, Ans, ok, past, stop, glue, tardy, late, then, close, shut, softly, pass_over, read}
use Rattle.atn.proofs.Tame.{Kind, keeps_stop, tame, Keeps, tame_read}

unfoldable pub is_quit : Why → Bool
is_quit (out k) = false
is_quit bad = false
is_quit lack = false
is_quit (quit o j m) = true

unfoldable pub gives_up : Ans → Bool
gives_up (ok p R m) = false
gives_up (past k p R m) = false
gives_up (stop w p R m) = is_quit w

abbrev Calm : Ans → Type 0
Calm a = gives_up a ≡ false

abbrev calmly : Kind
calmly = record { looses = true; softs = true; laxes = false; quits = false; outs = true }

abbrev pub calm : Fmt → Bool
calm f = tame calmly f

---------------------------------------------------------------- how readings are put together

calm_stop : (w : Why) → keeps_stop calmly w ≡ true → is_quit w ≡ false
unfolding keeps_stop is_quit
calm_stop (out k) h = refl
calm_stop bad h = refl
calm_stop lack h = refl
calm_stop (quit o j m) h = absurd (false≢true h)

calm_glue : (R : List Rec) (m : ℕ) (a : Ans) → Calm a → Calm (glue R m a)
unfolding gives_up glue
calm_glue R m (ok p S n) h = refl
calm_glue R m (past k p S n) h = refl
calm_glue R m (stop w p S n) h = h

calm_tardy : (k : ℕ) (w : Why) → is_quit w ≡ false → is_quit (tardy k w) ≡ false
unfolding is_quit tardy
calm_tardy k (out l) h = refl
calm_tardy k bad h = refl
calm_tardy k lack h = refl
calm_tardy k (quit o j m) h = h

calm_late : (k : ℕ) (R : List Rec) (m : ℕ) (a : Ans) → Calm a → Calm (late k R m a)
unfolding gives_up late
calm_late k R m (ok p S n) h = refl
calm_late k R m (past l p S n) h = refl
calm_late k R m (stop w p S n) h = calm_tardy k w h

calm_then : (a : Ans) (k : ℕ → Ans) → Calm a → ((q : ℕ) → Calm (k q)) → Calm (then a k)
unfolding gives_up then
calm_then (ok p R m) k h g = calm_glue R m (k p) (g p)
calm_then (past l p R m) k h g = calm_late l R m (k p) (g p)
calm_then (stop w p R m) k h g = h

calm_close : (q : ℕ) (a : Ans) → Calm (close q a)
unfolding gives_up is_quit close shut
calm_close q (ok p R m) = refl
calm_close q (past k p R m) = refl
calm_close q (stop (out l) p R m) = refl
calm_close q (stop bad p R m) = refl
calm_close q (stop lack p R m) = refl
calm_close q (stop (quit o true k) p R m) = refl
calm_close q (stop (quit o false k) p R m) = refl

calm_soft : (k : ℕ) (r : Bool) (a : Ans) → Calm a → Calm (softly k r a)
unfolding gives_up is_quit softly pass_over
calm_soft k r (ok p R m) h = refl
calm_soft k r (past l p R m) h = refl
calm_soft k r (stop (out l) p R m) h = refl
calm_soft k r (stop bad p R m) h = refl
calm_soft k r (stop lack p R m) h = refl
calm_soft k r (stop (quit o i l) p R m) h = h

keeps_calm : Keeps calmly Calm
unfolding gives_up is_quit
keeps_calm =
    record {
      keeps_ok = λ p R m. refl;
      keeps-stop = λ w p R m h. calm_stop w h;
      keeps_out = λ n p R m. refl;
      keeps_then = calm_then;
      keeps-close = calm_close;
      keeps-late = λ h. calm_late 1;
      keeps_soft = λ h. calm_soft;
      keeps_lax = λ h. absurd (false≢true h);
    }

---------------------------------------------------------------- formats

pub calm_read : (b : ℕ → ℕ) (f : Fmt) (x : Ctx) (e at : ℕ) → calm f ≡ true → gives_up (read f x b e at) ≡ false
calm_read b f x e at h = tame_read calmly Calm keeps_calm b f x e at h
