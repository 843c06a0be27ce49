-- The nodes of the arguments, and the alternatives of the lent tables by them.
use mathlib.Core.Path.{◌≡◌, refl, sym, ap, ◌∙◌}
use mathlib.Core.Bool.{Bool, true, false, cond}
use mathlib.Core.List.{List, [], ◌∷◌}
use Prim.Native.Nat.{ℕ, zero, suc, ◌+◌, ◌≤◌, ◌<◌}
use native.Mathlib.Nat.{zero-add}
use native.Mathlib.Omega.{arith}
use lib.ListN.{length, get_or-eq_default}
use lib.Dec.{leb}
use borrow.Author.Tests.{leb-true, leb-false}
use Rattle.atn.specs.Format.{Fmt, Alts, none_left, ◌∥◌}
use Rattle.atn.specs.Alternatives.{alternatives_from}
use Rattle.atn.specs.Reading.{mark}
use Rattle.atn.specs.Messages.{no_reader, argument, arguments, argument_of, elements}
use Rattle.node_tables.specs.Nodes.{node_word, member_of, members_from, lent_alternatives, letters_by, format_of, format_at}
use Rattle.message_nodes.specs.Table.{table, arguments_root}

-- n arguments, from byte j on
unfoldable arguments_from : ℕ → ℕ → Alts
arguments_from j zero = none_left
arguments_from j (suc n) = argument_of j ∥ arguments_from (suc j) n

head : {f g : Fmt} {fs gs : Alts} → f ∥ fs ≡ g ∥ gs → f ≡ g
head h = cc

tail : {f g : Fmt} {fs gs : Alts} → f ∥ fs ≡ g ∥ gs → fs ≡ gs
tail h = cc

add_none : (k : ℕ) → k + 0 ≡ k
add_none k = omega arith

add-next : (k i : ℕ) → k + suc i ≡ suc k + i
add-next k i = omega arith

one_of : (F : ℕ → Fmt) (k j n : ℕ) → alternatives_from F k n ≡ arguments_from j n → (i : ℕ) → i < n → F (k + i) ≡ argument_of (j + i)
unfolding alternatives_from arguments_from
one_of F k j zero h i l = absurd (omega arith)
one_of F k j (suc n) h zero l = rw (add_none k, add_none j) (head h)
one_of F k j (suc n) h (suc i) l = rw (add-next k i, add-next j i) (one_of F (suc k) (suc j) n (tail h) i (omega arith))

-- from ten nodes deep on, the arguments are whole
abbrev pub Deep : ℕ → ℕ
Deep g = suc (suc (suc (suc (suc (suc (suc (suc (suc (suc g)))))))))

whole : (g : ℕ) (down up : List ℕ) → alternatives_from (λ j. format_at (Deep g) table down up j) arguments_root 17 ≡ arguments_from 0 17
unfolding letters_by format_at format_of member_of members_from alternatives_from lent_alternatives node_word table arguments_from argument_of mark
whole g down up = refl

none_there : (i : ℕ) → 16 < i → argument no_reader ≡ argument_of i
unfolding argument_of
none_there zero l = absurd (omega arith)
none_there (suc i) l = let m : length arguments ≤ i = omega arith in ap (λ f. argument f) (sym (get_or-eq_default arguments no_reader m))

-- a byte's argument
by_byte : (F : ℕ → Fmt) (k i : ℕ) → ((j : ℕ) → j ≤ 16 → F (k + j) ≡ argument_of j) → cond (leb i 16) (F (k + i)) (argument no_reader) ≡ argument_of i
by_byte F k i h = go (leb i 16) refl
  where
    go : (b : Bool) → leb i 16 ≡ b → cond b (F (k + i)) (argument no_reader) ≡ argument_of i
    go true e = h i (leb-true i 16 e)
    go false e = none_there i (leb-false i 16 e)

lent : (F : ℕ → Fmt) (k : ℕ) → ((j : ℕ) → j ≤ 16 → F (k + j) ≡ argument_of j) → (t : List ℕ) → lent_alternatives F k t ≡ elements t
unfolding lent_alternatives elements
lent F k h [] = refl
lent F k h (i ∷ t) = rw (by_byte F k i h, lent F k h t)

argument-at : (g : ℕ) (down up : List ℕ) (i : ℕ) → i ≤ 16 → format_at (Deep g) table down up (arguments_root + i) ≡ argument_of i
argument-at g down up i l = one_of (λ j. format_at (Deep g) table down up j) arguments_root 0 17 (whole g down up) i (omega arith) ∙ ap argument_of (zero-add i)

pub lent-elements : (g : ℕ) (down up t : List ℕ) → lent_alternatives (λ j. format_at (Deep g) table down up j) arguments_root t ≡ elements t
lent-elements g down up t = lent (λ j. format_at (Deep g) table down up j) arguments_root (argument-at g down up) t
