-- A member that is met, by its kind.
use mathlib.Core.Path.{◌≡◌, refl, sym, ◌∙◌}
use mathlib.Core.Bool.{Bool, true, false, not, ◌&&◌, false≢true}
use mathlib.Core.List.{List, [], ◌∷◌}
use Prim.Native.Nat.{ℕ, zero, suc, ◌+◌, ◌≤◌, ◌<◌}
use native.Mathlib.Omega.{arith}
use Rattle.x691.specs.Bits.{bits_of}
use Rattle.x691.specs.Range.{member}
use Rattle.atn.specs.Format.{Fmt, Flds, ◌⨾◌}
use Rattle.atn.proofs.Inverse.{both}
use Rattle.bit_writer.specs.Put.{set_bit, set_bits}
use Rattle.bit_writer.proofs.PutLaws.{set_bits-one}
use Rattle.record_lists.specs.Items.{Item, plain}
use Rattle.record_lists.specs.Kinds.{span_tag}
use Rattle.record_lists.specs.Clear.{firsts}
use Rattle.record_lists.specs.Parse.{opens, begins, same_numbers}
use Rattle.record_lists.proofs.Forth.{numbers-same}
use Rattle.node_tables.specs.declared.Node.{Node}
use Rattle.node_tables.specs.Nodes.{member_of}
use Rattle.node_tables.specs.Sure.{sure_member}
use Rattle.std.specs.Prelude.{Some, None}
use Rattle.pens.specs.declared.Pen.{Pen}
use Rattle.pens.specs.Stand.{Stand, before}
use Rattle.pens.specs.Rest.{items}
use Rattle.pens.specs.Writes.{limit, Part, Members}
use Rattle.pens.proofs.RestLaws.{items-drop}
use Rattle.pens.proofs.MemberLaws.{members_must, members_some, members_none, members_noted, members_unnoted, members_unread}
use Rattle.write_steps.specs.Steps.{Met, met, Meets}
use Rattle.write_steps.specs.declared.meet.Met.{Met as MetMember}

-- no item has a tag of none
opens-none : (R : List Item) → opens [] R ≡ false
unfolding opens member
opens-none [] = refl
opens-none (i ∷ R) = refl

module _ (F : ℕ → Fmt) (S : ℕ → Bool) (a b c d : ℕ) where
  sure_tagged : {kind : ℕ} → kind ≡ 1 → sure_member F S kind a b c d ≡ true → (firsts (F a) ≡ b ∷ []) × (S a ≡ true)
  unfolding sure_member
  sure_tagged k h =
      let g : same_numbers (firsts (F a)) (b ∷ []) && S a ≡ true = rw k at h in
      let e = both (same_numbers (firsts (F a)) (b ∷ [])) (S a) g in
      (numbers-same (firsts (F a)) (b ∷ []) e.0, e.1)

  sure_never : {kind : ℕ} → kind ≡ 2 → sure_member F S kind a b c d ≡ true → firsts (F a) ≡ []
  unfolding sure_member
  sure_never k h = numbers-same (firsts (F a)) [] (rw k at h)

  sure_noted : {kind : ℕ} → kind ≡ 3 → sure_member F S kind a b c d ≡ true → S d ≡ true
  unfolding sure_member
  sure_noted k h =
      let g : not (span_tag a) && S d ≡ true = rw k at h in
      (both (not (span_tag a)) (S d) g).1

  -- of a kind that is none of the four
  sure_always : (kind : ℕ) → (kind ≡ 1 → ⊥) → (kind ≡ 2 → ⊥) → (kind ≡ 3 → ⊥) → (kind ≡ 4 → ⊥) → sure_member F S kind a b c d ≡ S a
  unfolding sure_member
  sure_always zero h i j k = refl
  sure_always (suc zero) h i j k = absurd (h refl)
  sure_always (suc (suc zero)) h i j k = absurd (i refl)
  sure_always (suc (suc (suc zero))) h i j k = absurd (j refl)
  sure_always (suc (suc (suc (suc zero)))) h i j k = absurd (k refl)
  sure_always (suc (suc (suc (suc (suc n))))) h i j k = refl

  member_always : (fs : Flds) (kind : ℕ) → (kind ≡ 1 → ⊥) → (kind ≡ 2 → ⊥) → (kind ≡ 3 → ⊥) → (kind ≡ 4 → ⊥) → member_of F fs kind a b c d ≡ F a ⨾ fs
  unfolding member_of
  member_always fs zero h i j k = refl
  member_always fs (suc zero) h i j k = absurd (h refl)
  member_always fs (suc (suc zero)) h i j k = absurd (i refl)
  member_always fs (suc (suc (suc zero))) h i j k = absurd (j refl)
  member_always fs (suc (suc (suc (suc zero)))) h i j k = absurd (k refl)
  member_always fs (suc (suc (suc (suc (suc n))))) h i j k = refl

---------------------------------------------------------------- what is met

module _ (F : ℕ → Fmt) (S : ℕ → Bool) (fs : Flds) (n : Node) (x y : ℕ) (s : ℕ → ℕ) (W : List ℕ) (m flag : ℕ) (p : Stand) (X Y : List ℕ) where
  -- a presence bit
  put_one : (v : ℕ) → (flag ≤ limit → Y ≡ set_bits X flag (bits_of 1 v)) → flag ≤ limit → Y ≡ set_bit X flag v
  put_one v h l = h l ∙ set_bits-one X flag v

  there : (k fl : ℕ) → S k ≡ true → ((q r : Stand) (U Z : List ℕ) → Part (F k) (x, y) s W m p Y q U → Members fl fs (x, y) s W m q U r Z → Members flag (member_of F fs n.kind n.a n.b n.c n.d) (x, y) s W m p X r Z)
      → Meets F S fs n x y s W m flag p X (record { there = true; k = k; flag = fl; p = p }) Y
  there k fl h g = record { with = λ _. g; without = λ z. absurd (false≢true (sym z)); sure = λ _. h }

  not_there : (t : Met) (q : Stand) → t ≡ record { there = false; k = 0; flag = flag + 1; p = q } → ((r : Stand) (Z : List ℕ) → Members (flag + 1) fs (x, y) s W m q Y r Z → Members flag (member_of F fs n.kind n.a n.b n.c n.d) (x, y) s W m p X r Z)
      → Meets F S fs n x y s W m flag p X t Y
  not_there t q e g = rw e (record { with = λ z. absurd (false≢true z); without = λ _. g; sure = λ z. absurd (false≢true z) })

  -- one that may be absent
  pub meets_tagged : n.kind ≡ 1 → sure_member F S n.kind n.a n.b n.c n.d ≡ true → opens (n.b ∷ []) (items s W m p.next) ≡ true → (flag ≤ limit → Y ≡ set_bits X flag (bits_of 1 1))
      → Meets F S fs n x y s W m flag p X (record { there = true; k = n.a; flag = flag + 1; p = p }) Y
  unfolding member_of
  meets_tagged k h o b =
      let e = sure_tagged F S n.a n.b n.c n.d k h in
      there n.a (flag + 1) e.1 λ q r U Z u v. rw k (members_some s W m (x, y) flag p q r X Y U Z (F n.a) fs (rw e.0 o) (put_one 1 b) u v)

  pub meets_untagged : (t : Met) → n.kind ≡ 1 → sure_member F S n.kind n.a n.b n.c n.d ≡ true → opens (n.b ∷ []) (items s W m p.next) ≡ false → (flag ≤ limit → Y ≡ set_bits X flag (bits_of 1 0))
      → t ≡ record { there = false; k = 0; flag = flag + 1; p = p } → Meets F S fs n x y s W m flag p X t Y
  unfolding member_of
  meets_untagged t k h o b z =
      let e = sure_tagged F S n.a n.b n.c n.d k h in
      not_there t p z λ r Z v. rw k (members_none s W m (x, y) flag p p r X Y Y Z (F n.a) fs (rw e.0 o) (put_one 0 b) v)

  -- one that has no values
  pub meets_never : (t : Met) → n.kind ≡ 2 → sure_member F S n.kind n.a n.b n.c n.d ≡ true → (flag ≤ limit → Y ≡ set_bits X flag (bits_of 1 0))
      → t ≡ record { there = false; k = 0; flag = flag + 1; p = p } → Meets F S fs n x y s W m flag p X t Y
  unfolding member_of
  meets_never t k h b z =
      let e = sure_never F S n.a n.b n.c n.d k h in
      not_there t p z λ r Z v. rw k (members_none s W m (x, y) flag p p r X Y Y Z (F n.a) fs (rw e (opens-none (items s W m p.next))) (put_one 0 b) v)

  -- one with a note where it is absent
  pub meets-noted : (t : Met) → n.kind ≡ 3 → begins (plain n.a x n.b n.c) (items s W m p.next) ≡ true → p.next < m → (flag ≤ limit → Y ≡ set_bits X flag (bits_of 1 0))
      → t ≡ record { there = false; k = 0; flag = flag + 1; p = record { next = p.next + 1; at = p.at; off = p.off } } → Meets F S fs n x y s W m flag p X t Y
  unfolding member_of
  meets-noted t k o l b z =
      let q : Stand = record { next = p.next + 1; at = p.at; off = p.off } in
      not_there t q z λ r Z v. rw k (members_noted s W m (x, y) flag p q r X Y Y Z n.a n.b n.c (F n.d) fs o (put_one 0 b) refl refl (λ _ _. (omega (arith, l), items-drop s W m p.next l)) v)

  pub meets_unnoted : n.kind ≡ 3 → sure_member F S n.kind n.a n.b n.c n.d ≡ true → begins (plain n.a x n.b n.c) (items s W m p.next) ≡ false → (flag ≤ limit → Y ≡ set_bits X flag (bits_of 1 1))
      → Meets F S fs n x y s W m flag p X (record { there = true; k = n.d; flag = flag + 1; p = p }) Y
  unfolding member_of
  meets_unnoted k h o b =
      there n.d (flag + 1) (sure_noted F S n.a n.b n.c n.d k h) λ q r U Z u v. rw k (members_unnoted s W m (x, y) flag p q r X Y U Z n.a n.b n.c (F n.d) fs o (put_one 1 b) u v)

  -- one that is not read
  pub meets-unread : (t : Met) → n.kind ≡ 4 → (flag ≤ limit → Y ≡ set_bits X flag (bits_of 1 0)) → t ≡ record { there = false; k = 0; flag = flag + 1; p = p } → Meets F S fs n x y s W m flag p X t Y
  unfolding member_of
  meets-unread t k b z = not_there t p z λ r Z v. rw k (members_unread s W m (x, y) flag p p r X Y Y Z n.a fs (put_one 0 b) v)

-- one that stands always: no bit is put
pub meets_always : (F : ℕ → Fmt) (S : ℕ → Bool) (fs : Flds) (n : Node) (x y : ℕ) (s : ℕ → ℕ) (W : List ℕ) (m flag : ℕ) (p : Stand) (X : List ℕ)
    → (n.kind ≡ 1 → ⊥) → (n.kind ≡ 2 → ⊥) → (n.kind ≡ 3 → ⊥) → (n.kind ≡ 4 → ⊥) → sure_member F S n.kind n.a n.b n.c n.d ≡ true
    → Meets F S fs n x y s W m flag p X (record { there = true; k = n.a; flag = flag; p = p }) X
meets_always F S fs n x y s W m flag p X h i j k e =
    there F S fs n x y s W m flag p X X n.a flag (sym (sure_always F S n.a n.b n.c n.d n.kind h i j k) ∙ e)
    λ q r U Z u v. rw (member_always F S n.a n.b n.c n.d fs n.kind h i j k) (members_must s W m (x, y) flag p q r X X U Z (F n.a) fs u v)

-- a member that is not there, as it is answered
pub met_absent : (fl : ℕ) {t : MetMember} {q : Pen} → t ≡ record { part = None; flag = fl; pen = q } → met t ≡ record { there = false; k = 0; flag = fl; p = before q }
met_absent fl e = rw e refl

pub flag_next : (fl : ℕ) {t : MetMember} {q : Pen} → t ≡ record { part = None; flag = fl + 1; pen = q } → t.flag ≤ fl + 1
flag_next fl e = rw e (omega arith)

-- a member by whether it is there
pub met_some : {t : MetMember} {k : ℕ} → t.part ≡ Some k → met t ≡ record { there = true; k = k; flag = t.flag; p = before t.pen }
met_some e = rw e refl

pub met_none : {t : MetMember} → t.part ≡ None → met t ≡ record { there = false; k = 0; flag = t.flag; p = before t.pen }
met_none e = rw e refl
