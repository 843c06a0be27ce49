-- The characters of a text by the number that names them.
use mathlib.Core.Path.{◌≡◌}
use mathlib.Core.Bool.{true, false, not, ◌&&◌}
use mathlib.Core.List.{List}
use Prim.Native.Nat.{ℕ, ◌+◌, ◌-◌, ◌≤◌, ◌<◌}
use lib.Dec.{leb, ltb, eqb}
use borrow.Author.Tests.{leb-true, eqb-true, lt-ltb, le-ltb, not-true}
use Rattle.atn.specs.Format.{text, first, numeric}
use Rattle.atn.proofs.Inverse.{both}
use Rattle.record_lists.specs.Kinds.{span_tag}
use Rattle.node_tables.specs.Nodes.{letters_by}
use Rattle.node_tables.specs.Sure.{sure_text, sure_channel, sure_letters}
use Rattle.pens.specs.Stand.{Stand}
use Rattle.pens.specs.Writes.{Part}

module _ (n c lo hi : ℕ) where
  pub sure_one : c < 256 → sure_letters n c lo hi ≡ true → (1 ≤ lo) × (1 ≤ n) × (c + n ≤ 256) × (lo ≤ hi)
  unfolding sure_letters sure_text
  sure_one l h =
      let f : (leb 1 lo && leb 1 n) && (leb (c + n) 256 && (leb lo hi && ltb hi 256)) ≡ true = rw (lt-ltb c 256 l) at h in
      let i = both (leb 1 lo && leb 1 n) (leb (c + n) 256 && (leb lo hi && ltb hi 256)) f in
      let j = both (leb 1 lo) (leb 1 n) i.0 in
      let k = both (leb (c + n) 256) (leb lo hi && ltb hi 256) i.1 in
      let m = both (leb lo hi) (ltb hi 256) k.1 in
      (leb-true 1 lo j.0, leb-true 1 n j.1, leb-true (c + n) 256 k.0, leb-true lo hi m.0)

  pub sure_two : 256 ≤ c → sure_letters n c lo hi ≡ true → (n ≡ 11) × (span_tag (c - 256) ≡ false) × (lo ≡ 12) × (hi ≡ 12)
  unfolding sure_letters sure_channel
  sure_two l h =
      let f : (eqb n 11 && not (span_tag (c - 256))) && (eqb lo 12 && eqb hi 12) ≡ true = rw (le-ltb c 256 l) at h in
      let i = both (eqb n 11 && not (span_tag (c - 256))) (eqb lo 12 && eqb hi 12) f in
      let j = both (eqb n 11) (not (span_tag (c - 256))) i.0 in
      let k = both (eqb lo 12) (eqb hi 12) i.1 in
      (eqb-true n 11 j.0, not-true (span_tag (c - 256)) j.1, eqb-true lo 12 k.0, eqb-true hi 12 k.1)

module _ (t e y n c lo hi : ℕ) (b : ℕ → ℕ) (W : List ℕ) (m : ℕ) (p : Stand) (X : List ℕ) (q : Stand) (Y : List ℕ) where
  pub as_one : c < 256 → Part (text t n (first c) lo hi) (e, y) b W m p X q Y → Part (text t n (letters_by c) lo hi) (e, y) b W m p X q Y
  unfolding letters_by
  as_one l h = rw (lt-ltb c 256 l) h

  pub as_two : 256 ≤ c → sure_letters n c lo hi ≡ true → Part (text t 11 (numeric (c - 256)) 12 12) (e, y) b W m p X q Y → Part (text t n (letters_by c) lo hi) (e, y) b W m p X q Y
  unfolding letters_by
  as_two l s h = let z = sure_two n c lo hi l s in rw (le-ltb c 256 l, z.0, z.2, z.3) h
