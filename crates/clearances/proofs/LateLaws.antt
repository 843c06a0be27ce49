-- Presence bits past the window's end: what is read of the fields of a sequence where nothing is left for them.
use mathlib.Core.Path.{◌≡◌, refl, sym, ap, ◌∙◌}
use mathlib.Core.List.{[]}
use Prim.Native.Nat.{ℕ, zero, suc, ◌+◌, ◌-◌, ◌*◌, ◌^◌, ◌≤◌, ◌<◌}
use native.Mathlib.Omega.{arith}
use lib.Pow.{pow_pos}
use borrow.Author.Tests.{lt-ltb, le-ltb}
use Rattle.x691.specs.Bits.{uint}
use Rattle.atn.specs.Format.{Fmt, out, loose, Flds, end, ◌⨾◌, ◌⨾?◌, unread}
use Rattle.atn.specs.Reading.{Ctx, Ans, ok, past, stop, late, tardy, then, fork, flags, unread_mark, unread_marks, within, read, read_fields}
use Rattle.atn.proofs.Marks.{or_nil}
use Rattle.atn.proofs.Steps.{fetch_no}

within_in : (b : ℕ → ℕ) (e i : ℕ) → i < e → within b e i ≡ b i
unfolding within
within_in b e i h = rw (lt-ltb i e h)

within_out : (b : ℕ → ℕ) (e i : ℕ) → e ≤ i → within b e i ≡ 0
unfolding within
within_out b e i h = rw (le-ltb i e h)

fork-clear : (v : ℕ) (a c : Ans) → v ≡ 0 → fork v a c ≡ a
unfolding fork
fork-clear v a c z = rw z

-- the reading ran out at e, whatever it lacked
abbrev Out : ℕ → Ans → Type 0
Out e a = (k : ℕ) × (a ≡ stop (out k) e [] 0)

either-set : {w : ℕ} (v e : ℕ) (a c : Ans) → v ≡ w → (w ≡ 0 → Out e a) → Out e c → Out e (fork v a c)
unfolding fork
either-set zero e a c q l r = l (sym q)
either-set (suc v) e a c q l r = r

both_zero : (v p r : ℕ) → 0 < p → v * p + r ≡ 0 → (v ≡ 0) × (r ≡ 0)
both_zero zero p r h q = (refl, omega arith)
both_zero (suc v) p r h q = absurd (omega arith)

-- m fields that run out where nothing is left, and behind them parts that are known from their presence bits alone
pub data Wants (b : ℕ → ℕ) (e : ℕ) (x : Ctx) : ℕ → Flds → Type 0 where
  enough : Wants b e x 0 end
  unreads : {t : ℕ} {fs : Flds} → Wants b e x 0 fs → Wants b e x 0 (unread t fs)
  wants : {m k : ℕ} {f : Fmt} {fs : Flds} → read f x b e e ≡ stop (out k) e [] 0 → Wants b e x m fs → Wants b e x (suc m) (f ⨾? fs)

module _ (b : ℕ → ℕ) (e : ℕ) (x : Ctx) where
  abbrev seen : ℕ → ℕ
  seen = within b e

  -- behind the end all are absent
  absent : {m : ℕ} {fs : Flds} (q : ℕ) → Wants seen e x m fs → e ≤ q → read_fields fs x seen e q e ≡ ok e [] 0
  unfolding read_fields fork
  absent q enough h = refl
  absent q (unreads y) h = rw (within_out b e q h) (absent (suc q) y (omega arith))
  absent q (wants z y) h = rw (within_out b e q h) (absent (suc q) y (omega arith))

  unmarked_beyond : {m : ℕ} {fs : Flds} (q : ℕ) → Wants seen e x m fs → e ≤ q → unread_marks fs seen q ≡ 0
  unfolding unread_marks unread_mark
  unmarked_beyond q enough h = refl
  unmarked_beyond q (unreads y) h = rw (within_out b e q h, unmarked_beyond (suc q) y (omega arith)) (or_nil 0)
  unmarked_beyond q (wants z y) h = unmarked_beyond (suc q) y (omega arith)

  unmarked : {m : ℕ} {fs : Flds} (q k : ℕ) → Wants seen e x m fs → k ≤ m → q + k ≡ e → unread_marks fs seen q ≡ 0
  unfolding unread_marks
  unmarked q zero y h l = unmarked_beyond q y (omega arith)
  unmarked q (suc k) enough h l = refl
  unmarked q (suc k) (unreads y) h l = absurd (omega arith)
  unmarked q (suc k) (wants z y) h l = unmarked (suc q) k y (omega arith) (omega arith)

  -- none of the k bits that are there is set
  late-none : {m : ℕ} {fs : Flds} (q k : ℕ) → Wants seen e x m fs → k ≤ m → q + k ≡ e → uint b q k ≡ 0 → read_fields fs x seen e q e ≡ ok e [] 0
  unfolding read_fields uint
  late-none q zero y h l u = absent q y (omega arith)
  late-none q (suc k) enough h l u = refl
  late-none q (suc k) (unreads y) h l u = absurd (omega arith)
  late-none q (suc k) (wants z y) h l u =
      let d = both_zero (b q) (2 ^ k) (uint b (suc q) k) (pow_pos k) u in
      fork-clear (seen q) _ _ (within_in b e q (omega arith) ∙ d.0) ∙ late-none (suc q) k y (omega arith) (omega arith) d.1

  -- one of them is: that field runs out
  late-some : {m : ℕ} {fs : Flds} (q k : ℕ) → Wants seen e x m fs → k ≤ m → q + k ≡ e → (uint b q k ≡ 0 → ⊥) → Out e (read_fields fs x seen e q e)
  unfolding read_fields uint then
  late-some q zero y h l u = absurd (u refl)
  late-some q (suc k) enough h l u = absurd (omega arith)
  late-some q (suc k) (unreads y) h l u = absurd (omega arith)
  late-some q (suc k) (wants {k = i} z y) h l u =
      either-set (seen q) e _ _ (within_in b e q (omega arith)) (λ c. late-some (suc q) k y (omega arith) (omega arith) (λ r. u (rw (c, r) (omega arith)))) (i, rw z)

---------------------------------------------------------------- a sequence whose presence bits past the window's end count as clear

module _ {m : ℕ} {fs : Flds} (b : ℕ → ℕ) (e : ℕ) (x : Ctx) (at : ℕ) (y : Wants (within b e) e x m fs) (i : at ≤ e) (l : e < at + flags fs) (h : e ≤ at + m) where
  abbrev rest : Ans
  rest = late 1 [] (unread_marks fs (within b e) at) (read_fields fs x (within b e) e at (at + (e - at)))

  loose_late : read (loose fs) x b e at ≡ late 1 [] 0 (read_fields fs x (within b e) e at e)
  unfolding read
  loose_late =
      let q : at + (e - at) ≡ e = omega arith in
      fetch_no b e at (flags fs) _ _ l ∙ rw (unmarked b e x at (e - at) y (omega arith) q, q)

  -- nothing is there: the reading has passed the end, and carries on
  pub loose_none : uint b at (e - at) ≡ 0 → read (loose fs) x b e at ≡ past 1 e [] 0
  unfolding late
  loose_none u = loose_late ∙ rw (late-none b e x at (e - at) y (omega arith) (omega arith) u) (ap (past 1 e []) (or_nil 0))

  -- a part is there, and has no bit left
  pub loose_some : (uint b at (e - at) ≡ 0 → ⊥) → read (loose fs) x b e at ≡ stop (out 1) e [] 0
  unfolding late tardy
  loose_some u = let z = late-some b e x at (e - at) y (omega arith) (omega arith) u in loose_late ∙ rw z.1 (ap (stop (out 1) e []) (or_nil 0))
