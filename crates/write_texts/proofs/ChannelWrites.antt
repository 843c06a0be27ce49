-- A satellite channel written: its first text, and then the records of the other one met.
use mathlib.Core.Path.{◌≡◌, refl, sym}
use mathlib.Core.List.{List, [], ◌∷◌, ◌++◌, append-nil}
use Prim.Native.Nat.{ℕ, zero, ◌+◌, ◌*◌, ◌<◌}
use lib.ListN.{get_or}
use Rattle.x691.specs.Encoding.{encode}
use Rattle.atn.specs.Format.{text, first, numeric, type_of}
use Rattle.record_lists.specs.Items.{Item, plain}
use Rattle.record_lists.specs.Parse.{peel, parse}
use Rattle.pens.specs.Stand.{Stand}
use Rattle.pens.specs.Rest.{items}
use Rattle.pens.specs.Writes.{Writes, Part}
use Rattle.pens.proofs.PenLaws.{then_writes}
use Rattle.pens.proofs.GotLaws.{writes_as}
use Rattle.numeric_strings.specs.Spacing.{spaced_octets}
use Rattle.write_texts.proofs.ChannelLaws.{channel_steps, linked}

-- one record more
abbrev Met : (u e : ℕ) (b : ℕ → ℕ) (W : List ℕ) (m : ℕ) (Y : List ℕ) → ℕ → Stand → Stand → Type 0
Met u e b W m Y v p q = Writes (λ _. []) (λ R. peel (plain u e v 12 ∷ []) zero R) (λ i. items b W m i) m p Y q Y

abbrev enc : ℕ → List ℕ → List ℕ
enc t v = encode (type_of (text t 11 (first 48) 12 12)) v

module _ (t u e y : ℕ) (b : ℕ → ℕ) (W : List ℕ) (m : ℕ) (p q h r : Stand) (X Y : List ℕ) (w x : ℕ) {f g : ℕ} (f-is : f ≡ spaced_octets 8 w) (g-is : g ≡ spaced_octets 8 x) where
  pub channel-written : (p.next + 0 < m → w ≡ get_or W ((p.next + 0) * 5 + 2) 0) → (p.next + 1 < m → x ≡ get_or W ((p.next + 1) * 5 + 2) 0)
      → Part (text t 11 (first 48) 12 12) (e, y) b W m p X q Y → Met u e b W m Y f q h → Met u e b W m Y g h r → Part (text t 11 (numeric u) 12 12) (e, y) b W m p X r Y
  channel-written k l one front rear =
      let T : ℕ → List Item = λ i. items b W m i in
      let nil : (v : List ℕ) (_ : ℕ) → enc t v ≡ enc t v ++ [] = λ v _. sym (append-nil (enc t v)) in
      let half = then_writes (enc t) (λ _. []) (enc t) _ _ (λ v _. v) nil T m p q h X Y Y one (rw f-is at front) in
      let all = then_writes (enc t) (λ _. []) (enc t) _ _ (λ v _. v) nil T m p h r X Y Y half (rw g-is at rear) in
      writes_as (enc t) (enc t) _ (λ R. parse (text t 11 (numeric u) 12 12) (e, y) R) T m p X r Y
      (channel_steps t u e y (T p.next) (spaced_octets 8 w) (spaced_octets 8 x) (linked b W m p.next t e w x k l)) (λ v S z. refl) all
