-- A table's meaning has no part that is tolerant, and none that is refused as if it had run out.
use mathlib.Core.Path.{◌≡◌, refl}
use mathlib.Core.Bool.{Bool, true, false, cond}
use mathlib.Core.List.{List}
use Prim.Native.Nat.{ℕ, zero, suc}
use lib.Dec.{eqb}
use Rattle.atn.specs.Format.{Fmt, Flds, ◌⨾◌, ◌⨾?◌, unread}
use Rattle.atn.specs.Alternatives.{alternatives_from}
use Rattle.atn.proofs.Tame.{Kind, keeps_stop, tame, tame_fields, tame_choice}
use Rattle.atn.proofs.Lacked.{frank}
use Rattle.schema_tables.specs.Nodes.{node_word, member_of, members_from, format_of, format_at, meaning}

module _ (K : Kind) (N : List ℕ) where
  module _ (F : ℕ → Fmt) (h : (j : ℕ) → tame K (F j) ≡ true) where
    member_tame : (fs : Flds) (kind k a : ℕ) → tame_fields K fs ≡ true → tame_fields K (member_of F fs kind k a) ≡ true
    unfolding member_of tame_fields
    member_tame fs kind k a e = go (eqb kind 6) (eqb kind 7)
      where
        go : (t u : Bool) → tame_fields K (cond t (F a ⨾? fs) (cond u (unread a fs) (F k ⨾ fs))) ≡ true
        go true u = rw (h a, e)
        go false true = e
        go false false = rw (h k, e)

    members_tame : (k n : ℕ) → tame_fields K (members_from F N k n) ≡ true
    unfolding members_from tame_fields
    members_tame k zero = refl
    members_tame k (suc n) = member_tame (members_from F N (suc k) n) (node_word N k 0) k (node_word N k 1) (members_tame (suc k) n)

    alternatives_tame : (k n : ℕ) → tame_choice K (alternatives_from F k n) ≡ true
    unfolding alternatives_from tame_choice
    alternatives_tame k zero = refl
    alternatives_tame k (suc n) = rw (h k, alternatives_tame (suc k) n)

    format_tame : (k kind a b c : ℕ) → tame K (format_of F N k kind a b c) ≡ true
    unfolding format_of tame keeps_stop
    format_tame k zero a b c = refl
    format_tame k (suc zero) a b c = refl
    format_tame k (suc (suc zero)) a b c = refl
    format_tame k (suc (suc (suc zero))) a b c = refl
    format_tame k (suc (suc (suc (suc zero)))) a b c = members_tame a b
    format_tame k (suc (suc (suc (suc (suc zero))))) a b c = alternatives_tame b c
    format_tame k (suc (suc (suc (suc (suc (suc zero)))))) a b c = members_tame k 1
    format_tame k (suc (suc (suc (suc (suc (suc (suc zero))))))) a b c = members_tame k 1
    format_tame k (suc (suc (suc (suc (suc (suc (suc (suc zero)))))))) a b c = refl
    format_tame k (suc (suc (suc (suc (suc (suc (suc (suc (suc zero))))))))) a b c = refl
    format_tame k (suc (suc (suc (suc (suc (suc (suc (suc (suc (suc zero)))))))))) a b c = rw (h a)
    format_tame k (suc (suc (suc (suc (suc (suc (suc (suc (suc (suc (suc zero))))))))))) a b c = h b
    format_tame k (suc (suc (suc (suc (suc (suc (suc (suc (suc (suc (suc (suc zero)))))))))))) a b c = h a
    format_tame k (suc (suc (suc (suc (suc (suc (suc (suc (suc (suc (suc (suc (suc j))))))))))))) a b c = refl

  -- to every depth
  at_tame : (g k : ℕ) → tame K (format_at g N k) ≡ true
  unfolding format_at tame keeps_stop
  at_tame zero k = refl
  at_tame (suc g) k = format_tame (λ j. format_at g N j) (λ j. at_tame g j) k (node_word N k 0) (node_word N k 1) (node_word N k 2) (node_word N k 3)

-- only a read says that it lacked bits
pub table_frank : (N : List ℕ) → frank (meaning N) ≡ true
unfolding meaning
table_frank N = at_tame _ N 16 0
