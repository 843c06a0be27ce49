-- What the parts of a node owe each other, in the words of their contracts.
use mathlib.Core.Path.{◌≡◌, refl, sym, ◌∙◌}
use mathlib.Core.Bool.{Bool, true, false, not, ◌&&◌, false≢true}
use mathlib.Core.List.{List, [], ◌∷◌}
use Prim.Native.Nat.{ℕ, suc, ◌+◌, ◌-◌, ◌^◌, ◌≤◌, ◌<◌}
use native.Mathlib.Omega.{arith}
use borrow.Author.Tests.{not-true}
use Rattle.x691.specs.Bits.{bits_of}
use Rattle.x691.specs.Encoding.{width}
use Rattle.x691.proofs.Widths.{width-holds}
use Rattle.atn.specs.Format.{Fmt, Flds}
use Rattle.atn.specs.Reading.{Ctx}
use Rattle.atn.proofs.Inverse.{both}
use Rattle.bit_writer.specs.Put.{set_bits}
use Rattle.record_lists.specs.Clear.{firsts}
use Rattle.record_lists.specs.Kinds.{span_tag}
use Rattle.record_lists.specs.Parse.{same_numbers, opens}
use Rattle.record_lists.proofs.Forth.{numbers-same}
use Rattle.node_tables.specs.Nodes.{members_from}
use Rattle.node_tables.specs.Sure.{sure_member}
use Rattle.std.specs.Prelude.{Result}
use Rattle.std.specs.Result.{IsErrAnd}
use Rattle.std.proofs.lemmas.Result.{err_from_is_err_and}
use Rattle.x691.specs.Types.{Value}
use Rattle.x691.specs.Encoding.{joined, encode}
use Rattle.atn.specs.Format.{type_of}
use Rattle.record_lists.specs.Items.{Item}
use Rattle.record_lists.specs.Parse.{got, several, parse}
use Rattle.pens.specs.declared.Refused.{Refused}
use Rattle.pens.specs.declared.Wrote.{Wrote as Written}
use Rattle.pens.specs.Stand.{Stand, refused}
use Rattle.pens.proofs.PenLaws.{writes_still}
use Rattle.write_nodes.specs.Repeated.{lost, repeated}
use Rattle.pens.specs.Rest.{items}
use Rattle.pens.specs.Writes.{limit, Took, Skips, Part, Members, Repeats}
use Rattle.pens.proofs.MemberLaws.{members_end}
use Rattle.pens.proofs.ListLaws.{repeats_none, repeats_end, repeats_more}

pub skips_as : {p q : Stand} {w u : ℕ} → w ≡ u → Skips p w q → Skips p u q
skips_as e h = rw (← e) h

pub size_fits : (lo hi n : ℕ) {w : ℕ} → lo ≤ hi → n ≤ hi → w ≡ width (hi - lo) → n - lo < 2 ^ w
size_fits lo hi n l h e = rw e (omega (arith, width-holds (hi - lo), l, h))

pub put-size : (p : Stand) (at w u v : ℕ) (Y Z : List ℕ) → (p.at ≤ limit → at ≡ p.at) → at ≤ limit → w ≡ u → (at ≤ limit → Z ≡ set_bits Y at (bits_of w v)) → p.at ≤ limit → Z ≡ set_bits Y p.at (bits_of u v)
put-size p at w u v Y Z a b e h l = rw (← (a l), ← e) (h b)

pub members_as : (f g : Flds) (fl : ℕ) (x : Ctx) (s : ℕ → ℕ) (W : List ℕ) (m : ℕ) (p : Stand) (X : List ℕ) (q : Stand) (Y : List ℕ) → f ≡ g → Members fl g x s W m p X q Y → Members fl f x s W m p X q Y
members_as f g fl x s W m p X q Y e h = rw e h

pub no_members : (G : ℕ → Fmt) (N : List ℕ) (k n fl : ℕ) (x : Ctx) (s : ℕ → ℕ) (W : List ℕ) (m : ℕ) (p : Stand) (X : List ℕ) → n ≡ 0 → Members fl (members_from G N k n) x s W m p X p X
unfolding members_from
no_members G N k n fl x s W m p X h = rw h (members_end s W m x fl p p p X X X X)

pub noted-tag : (G : ℕ → Fmt) (H : ℕ → Bool) (kind a b c d : ℕ) → sure_member G H kind a b c d ≡ true → kind ≡ 3 → span_tag a ≡ false
unfolding sure_member
noted-tag G H kind a b c d h q =
    let z : not (span_tag a) && H d ≡ true = rw q at h in
    not-true (span_tag a) (both (not (span_tag a)) (H d) z).0

module _ (f : Fmt) (tag e i n : ℕ) (s : ℕ → ℕ) (W : List ℕ) (m : ℕ) (p q r : Stand) (X Y Z : List ℕ) where
  pub repeat_none : n ≡ 0 → Repeats f e i n s W m p X p X 0
  repeat_none h = rw h (repeats_none s W m f e i p p p X X X)

  pub repeat_end : (n ≡ 0 → ⊥) → same_numbers (firsts f) (tag ∷ []) ≡ true → (o : Bool) → o ≡ opens (tag ∷ []) (items s W m p.next) → o ≡ false → Repeats f e i n s W m p X p X 0
  repeat_end h t o a b =
      let c : n ≡ suc (n - 1) = omega (arith, h) in
      rw c (repeats_end s W m f e i p p p X X X (n - 1) (rw (numbers-same (firsts f) (tag ∷ []) t) (sym a ∙ b)))

  pub repeat_more : (k : ℕ) → (n ≡ 0 → ⊥) → same_numbers (firsts f) (tag ∷ []) ≡ true → (o : Bool) → o ≡ opens (tag ∷ []) (items s W m p.next) → o ≡ true
      → Part f (e, i) s W m p X q Y → Repeats f e (i + 1) (n - 1) s W m q Y r Z k → Repeats f e i n s W m p X r Z (k + 1)
  repeat_more k h t o a b x y =
      let c : n ≡ suc (n - 1) = omega (arith, h) in
      rw c (repeats_more s W m f e i p q r X Y Z (n - 1) k (rw (numbers-same (firsts f) (tag ∷ []) t) (sym a ∙ b)) x y)

  -- a list whose members are refused has none that count
  pub repeat_lost : (k : ℕ) → Repeats f e i n s W m p X r Z k → r.off ≡ true → Repeats f e i n s W m p X r Z 0
  repeat_lost k a o = record { writes = a.writes; counts = λ z l vs S j. absurd (false≢true (sym (on z l vs S j) ∙ o)); few = omega arith }
    where
      on : p.off ≡ false → p.next ≤ m → (vs : List (Value (type_of f))) (S : List Item) → several (λ j S. parse f (e, j) S) (λ S. opens (firsts f) S) i n (items s W m p.next) ≡ got vs S → r.off ≡ false
      on z l vs S j = let w : Took (λ vs. joined (λ v. encode (type_of f) v) vs) (λ j. items s W m j) m p X r Z vs S = rw j at (a.writes.goes z l) in w.on

-- behind a refusal nothing is written
pub repeats_off : (f : Fmt) (e i n : ℕ) (s : ℕ → ℕ) (W : List ℕ) (m : ℕ) (Y : List ℕ) → Repeats f e i n s W m refused Y refused Y 0
repeats_off f e i n s W m Y = record { writes = writes_still _ _ _ _ _ _ _ _ refl refl; counts = λ z. absurd (false≢true (sym z)); few = omega arith }

pub members_off : (fl : ℕ) (fs : Flds) (x : Ctx) (s : ℕ → ℕ) (W : List ℕ) (m : ℕ) (Y : List ℕ) → Members fl fs x s W m refused Y refused Y
members_off fl fs x s W m Y = record { still = λ _. refl; goes = λ z. absurd (false≢true (sym z)) }

pub repeated_off : (Q : Refused → Type 0) (r : Result (Written ℕ) Refused) → IsErrAnd r Q → repeated r ≡ lost
repeated_off Q r k = let z = err_from_is_err_and r k in rw z.1 refl
