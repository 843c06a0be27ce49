-- A clean uplink by its first records: its direction, the index of its alternative and, of a forward message, its header.
use mathlib.Core.Path.{◌≡◌, refl, sym, ap, ◌∙◌}
use mathlib.Core.Bool.{false}
use mathlib.Core.Logic.{inl, inr}
use mathlib.Core.List.{List, [], ◌∷◌, ◌++◌}
use Prim.Native.Nat.{ℕ, zero, suc, ◌+◌, ◌*◌, ◌/◌, ◌≤◌}
use native.Mathlib.Omega.{arith}
use lib.ListN.{length, get_or, take, drop}
use lib.Seq.{get_or-take}
use borrow.Author.Tests.{ne_eqb}
use Rattle.x691.specs.Bits.{bit_of, uint}
use Rattle.x691.specs.Encoding.{width, width_in, highest, count, encode}
use Rattle.x691.specs.Types.{Value}
use Rattle.x691.specs.Range.{InRange}
use Rattle.x691.proofs.BitLaws.{bit_of-lt}
use Rattle.atn.specs.Format.{Fmt, type_of}
use Rattle.atn.specs.Entries.{accept, read_frame, flat, need}
use Rattle.atn.specs.Messages.{ground_pdus, forward}
use Rattle.atn.specs.Reading.{Rec, rec, ok, octets, packs, pack, flags, unread_marks, read, read_fields, read_choice}
use Rattle.atn.specs.Told.{tell, tell_fields}
use Rattle.atn.specs.Demands.{Message}
use Rattle.atn.proofs.Demands.{clean-message}
use Rattle.atn.proofs.Complete.{complete}
use Rattle.atn.proofs.Inverse.{then_inv, then_ok, pull_inv, fetch_inv, fork_inv, soft_inv, never, never_after}
use Rattle.atn.proofs.Sound.{FoundF, sound}
use Rattle.cursor.specs.declared.place.Got.{Got}
use Rattle.cursor.specs.Place.{Pulled, stuck, short, got, Pulls, Led, stayed, went, failed}
use Rattle.character_strings.specs.Texts.{text_recs}
use Rattle.character_strings.proofs.TextLaws.{coded-nil}
use Rattle.pdu_alternatives.specs.Alternatives.{alternatives}
use Rattle.forward_headers.specs.declared.Header.{Header}
use Rattle.forward_headers.specs.Headers.{header, header_recs, Headers}
use Rattle.records.specs.Told.{Told}
use Rattle.spare_words.proofs.KeptLaws.{told-kept}
use Rattle.forward_names.specs.Names.{nameless, identifier, name_in}

---------------------------------------------------------------- a text of at most eight characters

pub one-pack : (t m q : ℕ) (cs : List ℕ) → 1 ≤ length cs → length cs ≤ 8 → pack t m q cs ≡ rec t m (octets 8 cs) (length cs) q ∷ []
unfolding pack packs
one-pack t m q cs l h = let k : (length cs + 7) / 8 ≡ 1 = omega arith in rw k

---------------------------------------------------------------- the first records

-- the records, and the reading behind the index where that is a forward message's
pub record Begins (down up s : List ℕ) (p : ℕ) (R : List Rec) : Type 0 where
  pub there : 4 ≤ length s * 8
  pub rest : List Rec
  pub recs : R ≡ rec 1 0 1 0 0 ∷ rec 2 0 (uint (bit_of s) 1 3) 0 1 ∷ rest
  pub body : uint (bit_of s) 1 3 ≡ 4 → read (forward down up) (0, 0) (bit_of s) (length s * 8) 4 ≡ ok p rest 0

clean-read : (f : Fmt) (s : List ℕ) {p : ℕ} {R : List Rec} → read_frame f s ≡ accept false p 0 R → read f (0, 0) (bit_of s) (length s * 8) 0 ≡ ok p R 0
clean-read f s {p} {R} h =
    let m : Message f s p R = clean-message f s p R h in
    let z : 0 + length (encode (type_of f) m.val) ≡ p = omega (arith, m.long) in
    complete (bit_of s) f m.val (0, 0) (length s * 8) 0 m.in_range m.spelt (omega (arith, m.long, m.inside)) ∙ (let y = m.recs in cc)

pub begins : (down up s : List ℕ) {p : ℕ} {R : List Rec} → read_frame (ground_pdus down up) s ≡ accept false p 0 R → Begins down up s p R
unfolding read read_choice width width_in highest count
begins down up s {p} {R} clean =
    let b = bit_of s in
    let e : ℕ = length s * 8 in
    let x₁ = then_ok 0 (rec 1 0 1 0 0 ∷ []) 0 _ (clean-read (ground_pdus down up) s clean) in
    let x₂ = pull_inv b e 0 1 _ x₁.2 in
    elim (fork_inv (uint b 0 1) _ _ x₂.1) [
      | inl y ↦
          let x₃ = pull_inv b e 1 3 _ y.1 in
          let x₄ = then_ok 4 (rec 2 0 (uint b 1 3) 0 1 ∷ []) 0 _ x₃.1 in
          record { there = x₃.0; rest = x₄.1; recs = x₁.3 ∙ ap (λ (S : List Rec). rec 1 0 1 0 0 ∷ S) x₄.3; body = λ q. sym (ap (λ (i : ℕ). read_choice (alternatives 1 down up) i (0, 0) b e 4) q) ∙ x₄.2 }
      | inr y ↦ never_after 2 1 [] _ y.2
    ]

---------------------------------------------------------------- the identifier

abbrev identifier_of : Value (type_of header) → List ℕ
identifier_of v = v.1.0

-- the value of the header, and the records behind it
pub record Headed (s : List ℕ) (R : List Rec) : Type 0 where
  pub next : ℕ
  pub val : Value (type_of header)
  pub in_range : InRange (type_of header) val
  pub reads : read header (0, 0) (bit_of s) (length s * 8) 4 ≡ ok next (tell header val (0, 0) 4) 0
  pub rest : List Rec
  pub recs : R ≡ tell header val (0, 0) 4 ++ rest

pub headed : (down up s : List ℕ) {p : ℕ} {R : List Rec} → 4 ≤ length s * 8 → read (forward down up) (0, 0) (bit_of s) (length s * 8) 4 ≡ ok p R 0 → Headed s R
unfolding read read_fields flags unread_marks
headed down up s {p} {R} l h =
    let b = bit_of s in
    let e : ℕ = length s * 8 in
    let x₁ = fetch_inv b e 4 0 _ _ (λ q. never q) (soft_inv 7 false _ h) in
    let x₂ = then_ok 4 [] 0 _ x₁.1 in
    let x₃ = then_inv (read header (0, 0) b e 4) _ x₂.2 in
    let f : FoundF b (bit_of-lt s) header (0, 0) e 4 x₃.mid x₃.R₁ = sound b (bit_of-lt s) header (0, 0) e 4 x₃.mid x₃.R₁ x₃.first l in
    record { next = x₃.mid; val = f.val; in_range = f.good; reads = x₃.first ∙ ap (λ (S : List Rec). ok x₃.mid S 0) f.recs; rest = x₃.R₂; recs = x₂.3 ∙ x₃.recs ∙ ap (λ (S : List Rec). S ++ x₃.R₂) f.recs }

pub identified : (p at : ℕ) (v : Value (type_of header)) (R : List Rec) → InRange (type_of header) v
    → identifier p (tell header v (0, 0) at ++ R) ≡ record { number = 0; reach = p; lacked = 0; text = octets 8 (identifier_of v); size = length (identifier_of v) }
unfolding identifier tell tell_fields
identified p at v R g = let cs : List ℕ = identifier_of v in let sized = g.1.0 in rw (coded-nil cs, one-pack 19 0 _ cs (omega (arith, sized.0)) sized.1)

---------------------------------------------------------------- the name

of_forward : (p i : ℕ) (R S : List Rec) → R ≡ rec 1 0 1 0 0 ∷ rec 2 0 i 0 1 ∷ S → i ≡ 4 → name_in p R ≡ identifier p S
unfolding name_in
of_forward p i R S e q = rw (e, q)

module _ (down up s : List ℕ) {p : ℕ} {R : List Rec} (clean : read_frame (ground_pdus down up) s ≡ accept false p 0 R) where
  pub start : Begins down up s p R
  start = begins down up s clean

  pub other_alternative : (uint (bit_of s) 1 3 ≡ 4 → ⊥) → name_in p R ≡ nameless 19 p
  unfolding name_in
  other_alternative n = rw (start.recs, ne_eqb (uint (bit_of s) 1 3) 4 n)

  module _ (forwards : uint (bit_of s) 1 3 ≡ 4) where
    pub found : Headed s start.rest
    found = headed down up s start.there (start.body forwards)

    abbrev pub characters : List ℕ
    characters = identifier_of found.val

    pub forward-message : name_in p R ≡ record { number = 0; reach = p; lacked = 0; text = octets 8 characters; size = length characters }
    forward-message = of_forward p _ R _ start.recs forwards ∙ ap (λ (S : List Rec). identifier p S) found.recs ∙ identified p 4 found.val found.rest found.in_range

---------------------------------------------------------------- the words

-- a row of characters whose records begin with this one has no other record
lone_pack : (us : List ℕ) (q y z : ℕ) {v n a : ℕ} {S : List Rec} → 1 ≤ n → n ≤ 8 → rec 19 0 v n a ∷ S ≡ pack 19 0 q us ++ (rec 20 0 y 24 z ∷ []) → pack 19 0 q us ≡ rec 19 0 v n q ∷ []
unfolding pack packs
lone_pack us q y z {v} {n} {a} {S} l h u = go ((length us + 7) / 8) refl u
  where
    go : (k : ℕ) → (length us + 7) / 8 ≡ k → rec 19 0 v n a ∷ S ≡ packs 19 0 q (length us) k us ++ (rec 20 0 y 24 z ∷ []) → packs 19 0 q (length us) ((length us + 7) / 8) us ≡ rec 19 0 v n q ∷ []
    go zero g e = absurd (let x : ◌≡◌ {A = ℕ} 19 20 = cc in omega arith)
    go (suc k) g e = let x : n ≡ length us = cc in let o : octets 8 us ≡ v = cc in let i : (length us + 7) / 8 ≡ 1 = omega arith in rw (i, o, x)

module _ (down up s : List ℕ) {p : ℕ} {R : List Rec} (clean : read_frame (ground_pdus down up) s ≡ accept false p 0 R) {g : Got ℕ} (pulls : Pulls s (record { at = 1; end = length s * 8; why = 0; marks = 0 }) 3 g) where
  pulled : (g.v ≡ uint (bit_of s) 1 3) × (g.c ≡ record { at = 4; end = length s * 8; why = 0; marks = 0 })
  pulled = let l = (begins down up s clean).there in go l (pulls.gave (omega arith, omega arith))
    where
      go : 4 ≤ length s * 8 → Pulled s (record { at = 1; end = length s * 8; why = 0; marks = 0 }) 3 g → (g.v ≡ uint (bit_of s) 1 3) × (g.c ≡ record { at = 4; end = length s * 8; why = 0; marks = 0 })
      go l (stuck n q) = absurd (n refl)
      go l (short z h q) = absurd (omega arith)
      go l (got z h v q) = (v, q)

  pub clean-nameless : (g.v ≡ 4 → ⊥) → nameless 19 p ≡ name_in p R
  clean-nameless n = sym (other_alternative down up s clean (λ q. n (pulled.0 ∙ q)))

  module _ (forwards : g.v ≡ 4) {h : Got Header} (heads : Headers s g.c h) where
    index : uint (bit_of s) 1 3 ≡ 4
    index = sym pulled.0 ∙ forwards

    head : Headed s (start down up s clean).rest
    head = found down up s clean index

    abbrev chars : List ℕ
    chars = characters down up s clean index

    same-header : tell header head.val (0, 0) 4 ≡ header_recs s h.v 0
    same-header = go (rw pulled.1 at ((heads.takes.took (0, 0)).led (rw pulled.1 ((begins down up s clean).there, omega arith))))
      where
        go : Led (λ e q. read header (0, 0) (bit_of s) e q) (record { at = 4; end = length s * 8; why = 0; marks = 0 }) h.c (header_recs s h.v 0) → tell header head.val (0, 0) 4 ≡ header_recs s h.v 0
        go (stayed n q) = absurd (n refl)
        go (went q m z a l x) = let y = head.reads in cc
        go (failed w q m S n z a l x) = never (sym a ∙ head.reads)

    name-record : text_recs 19 0 s h.v.name ≡ rec 19 0 (octets 8 chars) (length chars) h.v.name.from ∷ []
    unfolding text_recs tell tell_fields head
    name-record =
        let sized = head.in_range.1.0 in
        let x = same-header in
        lone_pack _ _ _ _ (omega (arith, sized.0)) sized.1 (ap (λ (l : List Rec). drop 6 l) (rw (coded-nil chars, one-pack 19 0 _ chars (omega (arith, sized.0)) sized.1) at x))

    pub clean-named : {j m : ℕ} {w k : List ℕ} → length w ≡ 5 → Told j w k 0 m (text_recs 19 0 s h.v.name) → record { number = 0; reach = p; lacked = 0; text = get_or k 2 0; size = get_or k 3 0 } ≡ name_in p R
    unfolding flat need
    clean-named {k = k} l told =
        let t : take 5 k ≡ 19 ∷ 0 ∷ octets 8 chars ∷ length chars ∷ h.v.name.from ∷ [] = told-kept (rw name-record at told) (omega (arith, told.room)) in
        let i : get_or k 2 0 ≡ octets 8 chars = sym (get_or-take 5 k 2 0 (omega arith)) ∙ rw t in
        let n : get_or k 3 0 ≡ length chars = sym (get_or-take 5 k 3 0 (omega arith)) ∙ rw t in
        rw (forward-message down up s clean index, i, n)
