-- What a step owes: whoever writes the part that it names has written the node.
use Rattle.std.specs.Prelude.{◌≡◌, Bool, true, false, List, ℕ, ◌+◌, ◌≤◌, Option, Some, None, Result, Ok, Err}
use Rattle.atn.specs.Format.{Fmt, Flds, choice}
use Rattle.node_tables.specs.declared.Node.{Node}
use Rattle.node_tables.specs.Nodes.{format_of, member_of, lent_alternatives}
use Rattle.pens.specs.Stand.{Stand, before, refused}
use Rattle.pens.specs.Writes.{Part, Members}
use Rattle.pens.specs.declared.Pen.{Pen}
use Rattle.pens.specs.declared.Wrote.{Wrote}
use Rattle.pens.specs.declared.Refused.{Refused}
use Rattle.write_steps.specs.declared.lead.Below.{Below}
use Rattle.write_steps.specs.declared.meet.Met.{Met as MetMember}

-- the kinds with one part below: not a sequence, a list or an inner string
pub record Above (kind : ℕ) : Type 0 where
  pub from_8 : 8 ≤ kind
  pub to_19 : kind ≤ 19
  pub not_12 : kind ≡ 12 → ⊥
  pub not_13 : kind ≡ 13 → ⊥
  pub not_16 : kind ≡ 16 → ⊥
  pub not_17 : kind ≡ 17 → ⊥

-- the node of a part, the number of the element that it stands in, and where the writer stands before it
pub record Led : Type 0 where
  pub k : ℕ
  pub x : ℕ
  pub p : Stand

-- a member that is met: whether it is there, its node, the place of the next presence bit, and where the writer stands
pub record Met : Type 0 where
  pub there : Bool
  pub k : ℕ
  pub flag : ℕ
  pub p : Stand

abbrev pub led : Wrote Below → Led
led w = record { k = w.value.node; x = w.value.element; p = before w.pen }

abbrev pub met_at : Option ℕ → ℕ → Pen → Met
met_at (Some k) fl p = record { there = true; k = k; flag = fl; p = before p }
met_at None fl p = record { there = false; k = 0; flag = fl; p = before p }

abbrev pub met : MetMember → Met
met t = met_at t.part t.flag t.pen

-- F are the formats of the nodes below, S whether each is sure
pub record Leads (F : ℕ → Fmt) (S : ℕ → Bool) (N down up : List ℕ) (n : Node) (x y : ℕ) (s : ℕ → ℕ) (W : List ℕ) (m : ℕ) (p : Stand) (X : List ℕ) (l : Led) (Y : List ℕ) : Type 0 where
  pub goes : (r : Stand) (Z : List ℕ) → Part (F l.k) (l.x, y) s W m l.p Y r Z → Part (format_of F N down up n.kind n.a n.b n.c n.d n.e) (x, y) s W m p X r Z
  pub sure : S l.k ≡ true

-- of an alternative of a lent table: its node is one of 17 from k on
pub record LeadsLent (F : ℕ → Fmt) (tag k : ℕ) (table : List ℕ) (x y : ℕ) (s : ℕ → ℕ) (W : List ℕ) (m : ℕ) (p : Stand) (X : List ℕ) (l : Led) (Y : List ℕ) : Type 0 where
  pub goes : (r : Stand) (Z : List ℕ) → Part (F l.k) (x, y) s W m l.p Y r Z → Part (choice tag (lent_alternatives F k table)) (x, y) s W m p X r Z
  pub same : l.x ≡ x
  pub from : k ≤ l.k
  pub to : l.k ≤ k + 16

-- what a step answers: the part that it names, or that the node is refused
abbrev pub LeadsTo : (ℕ → Fmt) → (ℕ → Bool) → List ℕ → List ℕ → List ℕ → Node → ℕ → ℕ → (ℕ → ℕ) → List ℕ → ℕ → Stand → List ℕ → Result (Wrote Below) Refused → List ℕ → Type 0
LeadsTo F S N down up n x y s W m p X (Ok w) Y = Leads F S N down up n x y s W m p X (led w) Y
LeadsTo F S N down up n x y s W m p X (Err _) Y = (Z : List ℕ) → Part (format_of F N down up n.kind n.a n.b n.c n.d n.e) (x, y) s W m p X refused Z

abbrev pub LentTo : (ℕ → Fmt) → ℕ → ℕ → List ℕ → ℕ → ℕ → (ℕ → ℕ) → List ℕ → ℕ → Stand → List ℕ → Result (Wrote Below) Refused → List ℕ → Type 0
LentTo F tag k table x y s W m p X (Ok w) Y = LeadsLent F tag k table x y s W m p X (led w) Y
LentTo F tag k table x y s W m p X (Err _) Y = (Z : List ℕ) → Part (choice tag (lent_alternatives F k table)) (x, y) s W m p X refused Z

pub record Meets (F : ℕ → Fmt) (S : ℕ → Bool) (fs : Flds) (n : Node) (x y : ℕ) (s : ℕ → ℕ) (W : List ℕ) (m flag : ℕ) (p : Stand) (X : List ℕ) (t : Met) (Y : List ℕ) : Type 0 where
  pub with : t.there ≡ true → (q r : Stand) (V' Z : List ℕ) → Part (F t.k) (x, y) s W m t.p Y q V' → Members t.flag fs (x, y) s W m q V' r Z → Members flag (member_of F fs n.kind n.a n.b n.c n.d) (x, y) s W m p X r Z
  pub without : t.there ≡ false → (r : Stand) (Z : List ℕ) → Members t.flag fs (x, y) s W m t.p Y r Z → Members flag (member_of F fs n.kind n.a n.b n.c n.d) (x, y) s W m p X r Z
  pub sure : t.there ≡ true → S t.k ≡ true
