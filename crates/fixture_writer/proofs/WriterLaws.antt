-- The answer, step by step: what is refused, and what is written.
use mathlib.Core.Path.{◌≡◌, refl, sym, ap, ◌∙◌}
use mathlib.Core.Bool.{Bool, true, false, cond, ◌&&◌, false≢true}
use mathlib.Core.Option.{none, some}
use mathlib.Core.List.{List, [], ◌++◌}
use Prim.Native.Nat.{ℕ, zero, suc, ◌+◌, ◌-◌, ◌*◌, ◌/◌, ◌%◌, ◌≤◌, ◌<◌}
use native.Mathlib.Omega.{arith}
use lib.ListN.{length, drop, get_or}
use lib.Dec.{leb, ltb, eqb}
use borrow.Author.Tests.{le-leb, lt-leb, lt-ltb, le-ltb, eq-eqb, ne_eqb, leb-true}
use Rattle.x691.specs.Bits.{bit_of, bits_of}
use Rattle.x691.specs.Types.{Value}
use Rattle.x691.specs.Encoding.{encode}
use Rattle.x691.specs.Range.{InRange}
use Rattle.atn.specs.Format.{Fmt, type_of}
use Rattle.atn.specs.Entries.{table_fits, direction_fits, pdus, cm_of}
use Rattle.atn.specs.Messages.{acse}
use Rattle.bit_writer.specs.Put.{set_bits}
use Rattle.record_lists.specs.Items.{Item, inside}
use Rattle.record_lists.specs.Kinds.{span_tag, kind_of}
use Rattle.record_lists.specs.Parse.{Got, no, got, parse}
use Rattle.record_lists.specs.Write.{encoded, write}
use Rattle.record_lists.specs.Message.{records_of, bytes_needed, bytes_of, list_fits, bits_of_message, settled, write_message}
use Rattle.record_lists.specs.Message as message
use Rattle.record_lists.proofs.Forth.{forth}
use Rattle.record_lists.proofs.Longest.{longest}
use Rattle.message_nodes.specs.Table.{table, depth}
use Rattle.message_nodes.specs.Roots.{root_of}
use Rattle.message_nodes.proofs.Meaning.{meaning}
use Rattle.message_nodes.proofs.Sure.{sure}
use Rattle.message_nodes.proofs.Bounds.{few_bits, few-nodes}
use Rattle.node_tables.specs.Nodes.{format_at}
use Rattle.node_tables.specs.Sure.{sure_at}
use Rattle.atn.proofs.Inverse.{both}
use Rattle.pens.specs.Stand.{Stand}
use Rattle.pens.specs.Rest.{rest, items}
use Rattle.pens.specs.Writes.{limit, Took, Wrote, Part}
use Rattle.pens.proofs.RestLaws.{items-end, items-cons}
use Rattle.fixture_promises.proofs.BitsBelow.{encode_below}
use Rattle.fixture_promises.proofs.Bytes.{bytes-put}
use Rattle.std.specs.Prelude.{Result, Ok, Err}
use Rattle.fixture_writer.specs.declared.Refusal.{Refusal}
use Rattle.fixture_writer.specs.declared.Refusal.TheVariants.{TablesUnfit, NoDirection, NoMessage, TooFewBytes}
use Rattle.fixture_writer.specs.Says.{front, answer_of, Says}

---------------------------------------------------------------- refusals before the list

module _ (k d : ℕ) (down up W s X : List ℕ) where
  abbrev all : message.Written × List ℕ
  all = write_message k d down up W s X

  pub says_2 : (r : Result ℕ Refusal) (t : Bool) → t ≡ (table_fits down && table_fits up) → t ≡ false → r ≡ Err TablesUnfit → Says r X all
  unfolding write_message answer_of
  says_2 r t e h q = rw (q, sym e ∙ h)

  pub says_3 : (r : Result ℕ Refusal) (t : Bool) → t ≡ (table_fits down && table_fits up) → t ≡ true → 1 < d → r ≡ Err NoDirection → Says r X all
  unfolding write_message answer_of direction_fits
  says_3 r t e h l q = rw (q, sym e ∙ h, lt-leb d 1 l)

  -- behind these tests
  past : (t : Bool) → t ≡ (table_fits down && table_fits up) → t ≡ true → d ≤ 1 → all ≡ settled (bits_of_message (kind_of k d down up) W s) X
  unfolding write_message direction_fits
  past t e h l = rw (sym e ∙ h, le-leb d 1 l)

  no_kind : 2 < k → kind_of k d down up ≡ none
  unfolding kind_of
  no_kind h = go k h
    where
      go : (k : ℕ) → 2 < k → kind_of k d down up ≡ none
      go zero h = absurd (omega arith)
      go (suc zero) h = absurd (omega arith)
      go (suc (suc zero)) h = absurd (omega arith)
      go (suc (suc (suc k))) h = refl

  pub a_kind : (j : ℕ) → j ≤ 2 → (f : Fmt) × (kind_of j d down up ≡ some f)
  unfolding kind_of
  a_kind zero h = (pdus d down up, refl)
  a_kind (suc zero) h = (cm_of d, refl)
  a_kind (suc (suc zero)) h = (acse, refl)
  a_kind (suc (suc (suc j))) h = absurd (omega arith)

  module _ (t : Bool) (te : t ≡ (table_fits down && table_fits up)) (th : t ≡ true) (dl : d ≤ 1) where
    -- no bits: refused with 8
    nothing_8 : (r : Result ℕ Refusal) → bits_of_message (kind_of k d down up) W s ≡ none → r ≡ Err NoMessage → Says r X all
    unfolding settled answer_of
    nothing_8 r h q = rw q (sym (past t te th dl ∙ rw h))

    pub says_8_kind : (r : Result ℕ Refusal) → 2 < k → r ≡ Err NoMessage → Says r X all
    unfolding bits_of_message
    says_8_kind r h q = nothing_8 r (rw (no_kind h)) q

    no_fit : k ≤ 2 → list_fits W s ≡ false → bits_of_message (kind_of k d down up) W s ≡ none
    unfolding bits_of_message
    no_fit h l = let f = a_kind k h in rw (f.1, l)

    pub says_8_fives : (r : Result ℕ Refusal) → k ≤ 2 → (length W % 5 ≡ 0 → ⊥) → r ≡ Err NoMessage → Says r X all
    unfolding list_fits
    says_8_fives r h n q = nothing_8 r (no_fit h (rw (ne_eqb (length W % 5) 0 n))) q

    pub says_8_many : (r : Result ℕ Refusal) → k ≤ 2 → 4294967296 ≤ length W / 5 → r ≡ Err NoMessage → Says r X all
    unfolding list_fits
    says_8_many r h n q = nothing_8 r (no_fit h (rw (le-ltb (length W / 5) 4294967296 n) (off (eqb (length W % 5) 0)))) q
      where
        off : (b : Bool) → (b && false) && ltb (length s) 72057594037927936 ≡ false
        off true = refl
        off false = refl

    pub says_8_bytes : (r : Result ℕ Refusal) → k ≤ 2 → 72057594037927936 ≤ length s → r ≡ Err NoMessage → Says r X all
    unfolding list_fits
    says_8_bytes r h n q = nothing_8 r (no_fit h (rw (le-ltb (length s) 72057594037927936 n) (off (eqb (length W % 5) 0 && ltb (length W / 5) 4294967296)))) q
      where
        off : (b : Bool) → b && false ≡ false
        off true = refl
        off false = refl

    module _ (kl : k ≤ 2) (m : ℕ) (me : m ≡ length W / 5) (fives : length W % 5 ≡ 0) (few : length W / 5 < 4294967296) (bytes : length s < 72057594037927936) where
      abbrev f : Fmt
      f = (a_kind k kl).0

      pub kind-of : kind_of k d down up ≡ some f
      kind-of = (a_kind k kl).1

      fits : list_fits W s ≡ true
      unfolding list_fits
      fits = rw (eq-eqb (length W % 5) 0 fives, lt-ltb (length W / 5) 4294967296 few, lt-ltb (length s) 72057594037927936 bytes)

      records : rest W m 0 ≡ records_of W
      unfolding rest records_of
      records = let e : m - 0 ≡ length W / 5 = omega (arith, me) in rw e

      abbrev list : List Item
      list = items (bit_of s) W m 0

      -- the bits of the message, by what is got from the list
      bits_are : (b : Bool) → b ≡ inside span_tag (length s * 8) (rest W m 0) → bits_of_message (kind_of k d down up) W s ≡ cond b (encoded f (parse f (0, 0) list)) none
      unfolding bits_of_message write items
      bits_are b e = rw (kind-of, fits, e, records)

      pub says_8_span : (r : Result ℕ Refusal) (b : Bool) → b ≡ inside span_tag (length s * 8) (rest W m 0) → b ≡ false → r ≡ Err NoMessage → Says r X all
      says_8_span r b e h q = nothing_8 r (bits_are b e ∙ rw h) q

      module _ (b : Bool) (be : b ≡ inside span_tag (length s * 8) (rest W m 0)) (bt : b ≡ true) (p : Stand) (V₀ V₁ : List ℕ) (run : Part f (0, 0) (bit_of s) W m front V₀ p V₁) where
        got_it : Wrote (λ v. encode (type_of f) v) (λ i. items (bit_of s) W m i) m front V₀ p V₁ (parse f (0, 0) list)
        got_it = run.goes refl (omega arith)

        pub says_8_off : (r : Result ℕ Refusal) → p.off ≡ true → r ≡ Err NoMessage → Says r X all
        unfolding encoded
        says_8_off r h q = nothing_8 r (bits_are b be ∙ rw bt (go (parse f (0, 0) list) got_it)) q
          where
            go : (g : Got (Value (type_of f))) → Wrote (λ v. encode (type_of f) v) (λ i. items (bit_of s) W m i) m front V₀ p V₁ g → encoded f g ≡ none
            go no w = refl
            go (got v S) w = absurd (false≢true (sym w.on ∙ h))

        pub says_8_left : (r : Result ℕ Refusal) → p.off ≡ false → p.next < m → r ≡ Err NoMessage → Says r X all
        unfolding encoded
        says_8_left r h l q = nothing_8 r (bits_are b be ∙ rw bt (go (parse f (0, 0) list) got_it)) q
          where
            some_left : (v : Value (type_of f)) (S : List Item) → S ≡ items (bit_of s) W m p.next → encoded f (got v S) ≡ none
            some_left v S e = rw (e ∙ items-cons (bit_of s) W m p.next l)

            go : (g : Got (Value (type_of f))) → Wrote (λ v. encode (type_of f) v) (λ i. items (bit_of s) W m i) m front V₀ p V₁ g → encoded f g ≡ none
            go no w = absurd (false≢true (sym h ∙ w))
            go (got v S) w = some_left v S w.left

        -- the whole list is taken
        record Whole : Type 0 where
          val : Value (type_of f)
          in_range : InRange (type_of f) val
          parsed : parse f (0, 0) list ≡ got val []
          bits : bits_of_message (kind_of k d down up) W s ≡ some (encode (type_of f) val)
          long : length (encode (type_of f) val) ≡ p.at
          short : length (encode (type_of f) val) ≤ 65536

        whole : p.off ≡ false → m ≤ p.next → Whole
        unfolding encoded
        whole h l = go (parse f (0, 0) list) refl got_it
          where
            go : (g : Got (Value (type_of f))) → parse f (0, 0) list ≡ g → Wrote (λ v. encode (type_of f) v) (λ i. items (bit_of s) W m i) m front V₀ p V₁ g → Whole
            go no e w = absurd (false≢true (sym h ∙ w))
            go (got v S) e w =
                let n : S ≡ [] = w.left ∙ items-end (bit_of s) W m p.next l in
                let y : parse f (0, 0) list ≡ got v [] = e ∙ ap (λ (z : List Item). got v z) n in
                let g = (forth f (0, 0) list y).0 in
                let a = longest f v g in
                let c = few_bits k d down up kind-of in
                record {
                  val = v;
                  in_range = g;
                  parsed = y;
                  bits = bits_are b be ∙ rw (bt, y);
                  long = omega (arith, (w.wrote (omega (arith, a, c))).0);
                  short = omega (arith, a, c);
                }

        pub small-run : p.off ≡ false → m ≤ p.next → p.at ≤ 65536
        small-run h l = let w = whole h l in omega (arith, w.long, w.short)

        pub says_9 : (r : Result ℕ Refusal) (n : ℕ) → p.off ≡ false → m ≤ p.next → n ≡ p.at / 8 + (p.at % 8 + 7) / 8 → length X < n → r ≡ Err (TooFewBytes n) → Says r X all
        unfolding settled answer_of bytes_needed
        says_9 r n h l e x q =
            let w = whole h l in
            let c : (length (encode (type_of f) w.val) + 7) / 8 ≡ n = omega (arith, w.long, e) in
            rw q (sym (past t te th dl ∙ rw (w.bits, c, lt-leb n (length X) x)))

        pub says_wrote : (r : Result ℕ Refusal) (n : ℕ) (q : Stand) (Y Z : List ℕ) → p.off ≡ false → m ≤ p.next → n ≡ p.at / 8 + (p.at % 8 + 7) / 8 → n ≤ length X → ((i : ℕ) → get_or X i 0 < 256)
            → Part f (0, 0) (bit_of s) W m front X q Y → (p.at ≤ limit → Z ≡ set_bits Y p.at (bits_of (n * 8 - p.at) 0)) → r ≡ Ok p.at → Says r Z all
        unfolding settled answer_of bytes_needed
        says_wrote r n q Y Z h l e x y again pad z =
            let w = whole h l in
            let B : List ℕ = encode (type_of f) w.val in
            let c : (length B + 7) / 8 ≡ n = omega (arith, w.long, e) in
            let u : Took (λ v. encode (type_of f) v) (λ i. items (bit_of s) W m i) m front X q Y w.val [] = rw w.parsed at (again.goes refl (omega arith)) in
            let v : Y ≡ set_bits X 0 B = (u.wrote (omega (arith, w.short))).1 in
            let o : Z ≡ set_bits (set_bits X 0 B) (length B) (bits_of (n * 8 - length B) 0) = pad (omega (arith, w.long, w.short)) ∙ rw (v, w.long) in
            let a : Z ≡ bytes_of B ++ drop n X = o ∙ bytes-put B X n (sym c) x y (encode_below (type_of f) w.val w.in_range) in
            rw (z, a) (sym (past t te th dl ∙ rw (w.bits, c, le-leb n (length X) x, w.long)))

---------------------------------------------------------------- the run over the table

pub table_sizes : (t : Bool) (down up : List ℕ) → t ≡ (table_fits down && table_fits up) → t ≡ true → (1 ≤ length down) × (length down ≤ 256) × (1 ≤ length up) × (length up ≤ 256)
unfolding table_fits
table_sizes t down up e h =
    let a = both (leb 1 (length down) && leb (length down) 256) (leb 1 (length up) && leb (length up) 256) (sym e ∙ h) in
    let b = both (leb 1 (length down)) (leb (length down) 256) a.0 in
    let c = both (leb 1 (length up)) (leb (length up) 256) a.1 in
    (leb-true 1 (length down) b.0, leb-true (length down) 256 b.1, leb-true 1 (length up) c.0, leb-true (length up) 256 c.1)

pub root_sure : (k d r : ℕ) (down up : List ℕ) → r ≡ root_of k d → length down ≤ 256 → length up ≤ 256 → sure_at 29 table down up r ≡ true
root_sure k d r down up e b f = ap (λ (j : ℕ). sure_at depth table down up j) e ∙ sure k d down up b f

pub nodes_few : length table ≤ 6000000
nodes_few = few-nodes

pub root-part : (k d r : ℕ) (down up : List ℕ) (f : Fmt) (s : ℕ → ℕ) (W : List ℕ) (m : ℕ) (p : Stand) (X : List ℕ) (q : Stand) (Y : List ℕ) → r ≡ root_of k d → kind_of k d down up ≡ some f → Part (format_at 29 table down up r) (0, 0) s W m p X q Y → Part f (0, 0) s W m p X q Y
root-part k d r down up f s W m p X q Y e h a =
    let z : f ≡ format_at depth table down up r = sym (ap (λ (j : ℕ). format_at depth table down up j) e ∙ meaning k d down up h) in
    rw z a
