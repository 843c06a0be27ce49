-- A sequence: its presence bits, and its members one after another.
use mathlib.Core.Path.{◌≡◌, refl, sym, ap, ◌∙◌}
use mathlib.Core.List.{List, [], ◌∷◌}
use Prim.Native.Nat.{ℕ, suc, ◌+◌, ◌-◌, ◌*◌, ◌≤◌, ◌<◌}
use native.Mathlib.Omega.{arith}
use lib.ListN.{length}
use Rattle.x691.specs.Bits.{bit_of}
use Rattle.atn.specs.Format.{Fmt, Flds, seq, out}
use Rattle.atn.specs.Reading.{Ans, rec, ok, or, mark, fork, flags, unread_marks, within, read, read_fields}
use Rattle.atn.proofs.Marks.{or_nil}
use Rattle.atn.proofs.Steps.{fetch_go, fetch_no}
use Rattle.cursor.specs.declared.place.Cursor.{Cursor}
use Rattle.cursor.specs.Place.{put}
use Rattle.schema_tables.specs.Entry.{top}
use Rattle.schema_tables.specs.Nodes.{members_from}
use Rattle.schema_nodes.specs.declared.node.Node.{Node}
use Rattle.schema_nodes.specs.declared.node.Node.TheVariants.{Optional, Unread as unread}
use Rattle.schema_nodes.specs.Row.{IsNode}
use Rattle.schema_leaves.specs.declared.Step.{Step}
use Rattle.schema_leaves.specs.Came.{Open, Came, failed}
use Rattle.schema_leaves.proofs.CameLaws.{at, came_length, came_open, came_end, came_same, came_marked, came_stops, came_then}
use Rattle.schema_parts.specs.Member.{flag_of, member_read}
use Rattle.schema_parts.specs.Owed.{Presence, Ahead, Unread}
use Rattle.schema_parts.proofs.MemberLaws.{from, from_all, from-none, flags-next, read_next, plain_read}

---------------------------------------------------------------- one member, by its kind and its presence bit

module _ (F : ℕ → Fmt) (n : Node) (k : ℕ) (s : List ℕ) (q : ℕ) {x : Step} (o : Open s x) where
  abbrev Member : List ℕ → Step → List ℕ → Type 0
  Member w z w' = Came (member_read F n k (bit_of s) x.c.end q x.c.at) x w z w'

  stays : {w : List ℕ} → Came (ok x.c.at [] 0) x w x w
  stays = came_marked {a = x} {c = x.c} 0 o.few o.inside.0 (rw (or_nil x.c.marks) (rw (← o.goes) refl))

  pub absent : {v m : ℕ} {w : List ℕ} → n ≡ Optional m → v ≡ bit_of s q → v ≡ 0 → Member w x w
  unfolding fork
  absent e p z = let y : bit_of s q ≡ 0 = sym p ∙ z in rw (e, y) stays

  pub present : {v m : ℕ} {z : Step} {w w' : List ℕ} → n ≡ Optional m → v ≡ bit_of s q → (v ≡ 0 → ⊥) → Came (read (F m) (0, 0) (bit_of s) x.c.end x.c.at) x w z w' → Member w z w'
  unfolding fork
  present {v} e p g h = let y : bit_of s q ≡ suc (v - 1) = omega (arith, g) in rw (e, y) h

  pub not_there : {v t : ℕ} {w : List ℕ} → n ≡ unread t → v ≡ bit_of s q → v ≡ 0 → Member w x w
  unfolding fork
  not_there e p z = let y : bit_of s q ≡ 0 = sym p ∙ z in rw (e, y) stays

  pub not-read : {v t : ℕ} {z : Step} {w w' : List ℕ} → n ≡ unread t → v ≡ bit_of s q → (v ≡ 0 → ⊥) → Came (ok x.c.at (rec t 0 1 0 x.c.at ∷ []) (mark 4)) x w z w' → Member w z w'
  unfolding fork
  not-read {v} e p g h = let y : bit_of s q ≡ suc (v - 1) = omega (arith, g) in rw (e, y) h

  pub required : {z : Step} {w w' : List ℕ} → ((m : ℕ) → n ≡ Optional m → ⊥) → ((t : ℕ) → n ≡ unread t → ⊥) → Came (read (F k) (0, 0) (bit_of s) x.c.end x.c.at) x w z w' → Member w z w'
  required g h y = rw (plain_read F n k g h (bit_of s) x.c.end q x.c.at) y

---------------------------------------------------------------- one after another

module _ (F : ℕ → Fmt) (N : List ℕ) (first count : ℕ) (s : List ℕ) (flag : ℕ) (a : Step) (w : List ℕ) where
  abbrev Members : Step → List ℕ → Type 0
  Members z w' = Came (read_fields (members_from F N first count) (0, 0) (bit_of s) a.c.end flag a.c.at) a w z w'

  -- the members before the one numbered i are read, and its presence bit stands at q: what follows completes the sequence
  pub record Upto (b : Step) (w' : List ℕ) (q i : ℕ) : Type 0 where
    pub going : Open s b
    pub end : b.c.end ≡ a.c.end
    pub room : length w' ≡ length w
    pub ahead : q + flags (from F N first count i) ≤ length s * 8
    pub onward : (z : Step) (w'' : List ℕ) → Came (read_fields (from F N first count i) (0, 0) (bit_of s) a.c.end q b.c.at) b w' z w'' → Members z w''

  pub upto_none : Open s a → Ahead N first count flag (length s * 8) → Upto a w flag 0
  upto_none o h = record { going = o; end = refl; room = refl; ahead = rw (from_all F N first count) (h.room F); onward = λ z w'' x. rw (from_all F N first count) at x }

  module _ {b : Step} {w' : List ℕ} {q i : ℕ} (u : Upto b w' q i) where
    pub upto_flag : {n : Node} → i < count → IsNode N (first + i) n → q + flag_of n ≤ length s * 8
    upto_flag h node = omega (arith, u.ahead, flags-next F N first count i h node)

    module _ (l : length w ≤ top) (h : i < count) {n : Node} (node : IsNode N (first + i) n) {z : Step} {w'' : List ℕ} (x : Came (member_read F n (first + i) (bit_of s) b.c.end q b.c.at) b w' z w'') where
      abbrev after : ℕ → Ans
      after p = read_fields (from F N first count (i + 1)) (0, 0) (bit_of s) a.c.end (q + flag_of n) p

      y : Came (member_read F n (first + i) (bit_of s) a.c.end q b.c.at) b w' z w''
      y = came_same (ap (λ v. member_read F n (first + i) (bit_of s) v q b.c.at) (sym u.end)) x

      pub upto_stops : (z.c.why ≡ 0 → ⊥) → Members z w''
      upto_stops e = u.onward z w'' (came_same (read_next F N first count i h node (bit_of s) q a.c.end b.c.at) (came_stops after y e))

      pub upto_more : {f : ℕ} → z.c.why ≡ 0 → f ≡ flag_of n → Upto z w'' (q + f) (i + 1)
      upto_more {f} e g =
          record {
            going = came_open u.going x e;
            end = came_end x e ∙ u.end;
            room = came_length x ∙ u.room;
            ahead = omega (arith, u.ahead, flags-next F N first count i h node);
            onward = λ v w''' k. u.onward v w'''
                (came_same (read_next F N first count i h node (bit_of s) q a.c.end b.c.at) (came_then after (rw u.room l) y e (rw g at k)));
          }

    pub upto_all : count ≤ i → Members b w'
    unfolding read
    upto_all h =
        u.onward b w'
        (rw (from-none F N first count i h) (came_marked {a = b} {c = b.c} 0 u.going.few u.going.inside.0 (rw (or_nil b.c.marks) (rw (← u.going.goes) refl))))

---------------------------------------------------------------- the presence bits before them

module _ (F : ℕ → Fmt) (N : List ℕ) (first count : ℕ) (s : List ℕ) {a : Step} (o : Open s a) {bits : ℕ} (p : Presence N first count bits) where
  abbrev fs : Flds
  fs = members_from F N first count

  abbrev Sequence : List ℕ → Step → List ℕ → Type 0
  Sequence w z w' = Came (read (seq fs) (0, 0) (bit_of s) a.c.end a.c.at) a w z w'

  pub bits-short : {z : Step} {w : List ℕ} → a.c.end - a.c.at < bits → z.c.why ≡ 4 → z.n ≡ 1 → z.c.at ≡ a.c.end → Sequence w z w
  unfolding read
  bits-short l e k q =
      failed (out 1) (a.c.at + (a.c.end - a.c.at)) (unread_marks fs (within (bit_of s) a.c.end) a.c.at) [] (λ f. omega arith)
      (fetch_no (bit_of s) a.c.end a.c.at (flags fs) _ _ (omega (arith, p.bits F, o.inside.0))) (omega (arith, o.inside.0)) (rw e refl) k (q ∙ omega (arith, o.inside.0)) refl

  pub bits-ahead : bits ≤ a.c.end - a.c.at → Ahead N first count a.c.at (length s * 8)
  bits-ahead l = record { room = λ G. omega (arith, p.bits G, o.inside.0, o.inside.1) }

  module _ (l : bits ≤ a.c.end - a.c.at) (m : ℕ) {d : Cursor} (e : d ≡ put a.c (a.c.at + bits) 0 (or a.c.marks m)) where
    pub bits-open : Open s (at d a.n)
    bits-open = record { goes = rw e refl; inside = rw e (omega (arith, o.inside.0), o.inside.1); short = o.short; few = o.few }

    pub bits-then : {z : Step} {w w' : List ℕ} → length w ≤ top → Unread N first count (bit_of s) a.c.at m → Came (read_fields fs (0, 0) (bit_of s) d.end a.c.at d.at) (at d a.n) w z w' → Sequence w z w'
    unfolding read
    bits-then t h x =
        let r : a.c.at + flags fs ≤ a.c.end = omega (arith, p.bits F, o.inside.0) in
        let g : a.c.at + bits ≤ a.c.end = omega (arith, o.inside.0) in
        let i : d.end ≡ a.c.end = rw e in
        came_same (fetch_go (bit_of s) a.c.end a.c.at (flags fs) _ _ r ∙ rw (← (p.bits F), ← (h.marks F)))
        (came_then (λ q. read_fields fs (0, 0) (bit_of s) a.c.end a.c.at q) t (came_marked {a = a} m o.few g e) (rw e refl) (came_same (ap (λ v. read_fields fs (0, 0) (bit_of s) v a.c.at d.at) (sym i)) x))
