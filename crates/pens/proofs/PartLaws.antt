-- How a part is written by its format: each law for one form of it.
use mathlib.Core.Path.{◌≡◌, refl, sym, ap, ◌∙◌}
use mathlib.Core.Bool.{true, false, false≢true}
use mathlib.Core.List.{List, [], ◌∷◌, ◌++◌}
use Prim.Native.Nat.{ℕ, zero, ◌+◌, ◌/◌, ◌%◌, ◌≤◌, ◌<◌}
use native.Mathlib.Omega.{arith}
use lib.ListN.{length, length-append}
use lib.Dec.{ltb}
use borrow.Author.Tests.{lt-ltb, le-ltb}
use Rattle.x691.specs.Bits.{bits_of}
use Rattle.x691.specs.Types.{Value}
use Rattle.x691.specs.Encoding.{width, highest, length_bits, encode, encode_pick, index}
use Rattle.x691.proofs.BitLaws.{length-bits_of}
use Rattle.atn.specs.Format.{Fmt, noted, placed, ext, choice, inner, Alts, type_of, alternatives_of}
use Rattle.atn.specs.Reading.{Ctx}
use Rattle.bit_writer.proofs.PutLaws.{set_bits-join}
use Rattle.record_lists.specs.Items.{Item, plain}
use Rattle.record_lists.specs.Parse.{Got, no, got, peel, feed, keep, parse, parse_pick}
use Rattle.record_lists.proofs.Forth.{forth, forth_pick}
use Rattle.record_lists.specs.Most.{most}
use Rattle.record_lists.proofs.Longest.{longest}
use Rattle.pens.specs.Stand.{Stand}
use Rattle.pens.specs.Rest.{items}
use Rattle.pens.specs.Writes.{limit, Took, Wrote, Writes, Inks, Part}

---------------------------------------------------------------- a part behind another, which it may depend on

module _ {A C : Type 0} (enc : A → List ℕ) (enc' enc'' : C → List ℕ) (g : List Item → Got A) (h : A → List Item → Got C) (T : ℕ → List Item) (m : ℕ) (p q r : Stand) (X Y Z : List ℕ) where
  abbrev After : Type 0
  After = p.off ≡ false → p.next ≤ m → (a : A) → g (T p.next) ≡ got a (T q.next) → q.off ≡ false → q.next ≤ m → Wrote enc' T m q Y r Z (h a (T q.next))

  abbrev Joins : Type 0
  Joins = (a : A) (c : C) (U : List Item) → h a (T q.next) ≡ got c U → enc'' c ≡ enc a ++ enc' c

  feed_writes : Writes enc g T m p X q Y → (q.off ≡ true → r.off ≡ true) → After → Joins → Writes enc'' (λ R. feed (g R) h) T m p X r Z
  unfolding feed
  feed_writes x s y j = record { still = λ z. s (x.still z); goes = λ z l. go z l (g (T p.next)) refl (x.goes z l) }
    where
      both : (a : A) (c : C) (U : List Item) → enc'' c ≡ enc a ++ enc' c → (S : List Item) → Took enc T m p X q Y a S → Took enc' T m q Y r Z c U → Took enc'' T m p X r Z c U
      both a c U e S t u =
          record {
            on = u.on;
            left = u.left;
            fits = u.fits;
            wrote = λ l.
                let n = ap (λ (z : List ℕ). length z) e ∙ length-append (enc a) (enc' c) in
                let i = t.wrote (omega (arith, l, n)) in
                let k = u.wrote (omega (arith, l, n, i.0)) in
                (omega (arith, n, i.0, k.0), k.1 ∙ rw (i.1, i.0, e) (sym (set_bits-join X p.at (enc a) (enc' c))));
          }

      more : (a : A) (S : List Item) → Took enc T m p X q Y a S → (k : Got C) → h a (T q.next) ≡ k → Wrote enc' T m q Y r Z k → Wrote enc'' T m p X r Z k
      more a S t no e w = w
      more a S t (got c U) e w = both a c U (j a c U e) S t w

      go : p.off ≡ false → p.next ≤ m → (k : Got A) → g (T p.next) ≡ k → Wrote enc T m p X q Y k → Wrote enc'' T m p X r Z (feed k h)
      go z l no e w = s w
      go z l (got a S) e w =
          let f : g (T p.next) ≡ got a (T q.next) = e ∙ ap (λ (z : List Item). got a z) w.left in
          rw w.left (more a S w (h a (T q.next)) refl (y z l a f w.on w.fits))

---------------------------------------------------------------- bits before a part

module _ {A : Type 0} (enc enc' : A → List ℕ) (g : List Item → Got A) (T : ℕ → List Item) (m n v : ℕ) (p q r : Stand) (X Y Z : List ℕ) where
  pub ink_writes : Inks p X n v q Y → Writes enc g T m q Y r Z → ((a : A) (S : List Item) → g (T p.next) ≡ got a S → enc' a ≡ bits_of n v ++ enc a) → Writes enc' g T m p X r Z
  ink_writes x y j = record { still = λ z. y.still (x.off_stays ∙ z); goes = λ z l. go (g (T p.next)) refl (rw (← x.next_stays) (y.goes (x.off_stays ∙ z) (omega (arith, x.next_stays, l)))) }
    where
      go : (k : Got A) → g (T p.next) ≡ k → Wrote enc T m q Y r Z k → Wrote enc' T m p X r Z k
      go no h w = w
      go (got a S) h w =
          record {
            on = w.on;
            left = w.left;
            fits = w.fits;
            wrote = λ l.
                let u = j a S h in
                let e = ap (λ (z : List ℕ). length z) u ∙ length-append (bits_of n v) (enc a) in
                let f = length-bits_of n v in
                let i = x.puts (omega (arith, l)) in
                let k = w.wrote (omega (arith, l, e, f, i.0)) in
                let c : q.at ≡ p.at + length (bits_of n v) = i.0 ∙ ap (λ (z : ℕ). p.at + z) (sym f) in
                (omega (arith, e, f, i.0, k.0), k.1 ∙ rw (i.1, c, u) (sym (set_bits-join X p.at (bits_of n v) (enc a))));
          }

---------------------------------------------------------------- forms

module _ (b : ℕ → ℕ) (W : List ℕ) (m : ℕ) (x : Ctx) (p q r : Stand) (X Y Z : List ℕ) where
  abbrev T : ℕ → List Item
  T i = items b W m i

  -- a record, then the part
  pub noted-part : (t y s : ℕ) (f : Fmt) → Writes (λ _. []) (λ R. peel (plain t x.0 y s ∷ []) zero R) T m p X q X → Part f x b W m q X r Z → Part (noted t y s f) x b W m p X r Z
  unfolding parse encode
  noted-part t y s f a c = feed_writes (λ _. []) (λ v. encode (type_of f) v) (λ v. encode (type_of f) v) (λ R. peel (plain t x.0 y s ∷ []) zero R) (λ _ S. parse f x S) T m p q r X X Z a c.still (λ _ _ a e o l. c.goes o l) (λ a v U e. refl)

  pub placed-part : (t : ℕ) (f : Fmt) → Writes (λ _. []) (λ R. peel (plain t x.0 x.1 0 ∷ []) zero R) T m p X q X → Part f x b W m q X r Z → Part (placed t f) x b W m p X r Z
  unfolding parse encode
  placed-part t f a c = feed_writes (λ _. []) (λ v. encode (type_of f) v) (λ v. encode (type_of f) v) (λ R. peel (plain t x.0 x.1 0 ∷ []) zero R) (λ _ S. parse f x S) T m p q r X X Z a c.still (λ _ _ a e o l. c.goes o l) (λ a v U e. refl)

  -- the extension bit, 0, then the root
  pub ext_part : (f g : Fmt) → Inks p X 1 0 q Y → Part f x b W m q Y r Z → Part (ext f g) x b W m p X r Z
  unfolding parse encode bits_of
  ext_part f g a c = ink_writes (λ v. encode (type_of f) v) (λ v. 0 ∷ encode (type_of f) v) (λ R. parse f x R) T m 1 0 p q r X Y Z a c (λ v S h. refl)

  -- an index, then its alternative
  pub choice_part : (t : ℕ) (fs : Alts) (g : List Item → Got ℕ) → ((R : List Item) → parse (choice t fs) x R ≡ feed (g R) (λ i S. parse_pick fs i x S))
      → Writes (λ i. bits_of (width (highest (alternatives_of fs))) i) g T m p X q Y
      → (q.off ≡ true → r.off ≡ true)
      → (p.off ≡ false → p.next ≤ m → (i : ℕ) → g (T p.next) ≡ got i (T q.next) → q.off ≡ false → q.next ≤ m → Wrote (λ c. encode_pick (alternatives_of fs) c) T m q Y r Z (parse_pick fs i x (T q.next)))
      → Part (choice t fs) x b W m p X r Z
  unfolding encode
  choice_part t fs g e a s c =
      let u = feed_writes (λ i. bits_of (width (highest (alternatives_of fs))) i) (λ c. encode_pick (alternatives_of fs) c) (λ c. bits_of (width (highest (alternatives_of fs))) (index (alternatives_of fs) c) ++ encode_pick (alternatives_of fs) c)
      g (λ i S. parse_pick fs i x S) T m p q r X Y Z a s c
      (λ i c U h. ap (λ (z : ℕ). bits_of (width (highest (alternatives_of fs))) z ++ encode_pick (alternatives_of fs) c) (forth_pick fs i x (T q.next) h).0) in
      record { still = u.still; goes = λ z l. rw (e (T p.next)) (u.goes z l) }

---------------------------------------------------------------- an inner string, whose length is known from a first run that puts nothing

pub short-length : (n : ℕ) → n < 128 → length_bits n ≡ bits_of 8 n
unfolding length_bits bits_of
short-length n h =
    let q : n / 128 ≡ 0 = omega arith in
    let r : n % 128 ≡ n = omega arith in
    rw (lt-ltb n 128 h, q, r)

pub long-length : (n : ℕ) → 128 ≤ n → n < 16384 → length_bits n ≡ bits_of 16 (32768 + n)
unfolding length_bits bits_of
long-length n l h =
    let q : (32768 + n) / 32768 ≡ 1 = omega arith in
    let r : (32768 + n) % 32768 ≡ n = omega arith in
    let s : n / 16384 ≡ 0 = omega arith in
    let t : n % 16384 ≡ n = omega arith in
    rw (le-ltb n 128 l, q, r, s, t)

module _ (b : ℕ → ℕ) (W : List ℕ) (m : ℕ) (x : Ctx) (f : Fmt) (p o d : Stand) (D E : List ℕ) (starts : o.next ≡ p.next) (same : o.off ≡ p.off) (first : o.at ≡ 0) (dry : Part f x b W m o D d E) (size : most f ≤ limit) where
  abbrev T' : ℕ → List Item
  T' i = items b W m i

  ran : p.off ≡ false → p.next ≤ m → Wrote (λ v. encode (type_of f) v) T' m o D d E (parse f x (T' p.next))
  ran z l = rw (← starts) (dry.goes (same ∙ z) (omega (arith, starts, l)))

  -- the length of what is got
  measured : {v : Value (type_of f)} {S : List Item} → p.off ≡ false → p.next ≤ m → parse f x (T' p.next) ≡ got v S → length (encode (type_of f) v) ≡ d.at
  measured {v} {S} z l h =
      let w : Took (λ v. encode (type_of f) v) T' m o D d E v S = rw h at (ran z l) in
      let g = (forth f x (T' p.next) h).0 in
      let k = longest f v g in
      omega (arith, (w.wrote (omega (arith, k, size, first))).0, first)

  refused-run : p.off ≡ false → p.next ≤ m → d.off ≡ true → parse f x (T' p.next) ≡ no
  refused-run z l h = go (parse f x (T' p.next)) (ran z l)
    where
      go : (k : Got (Value (type_of f))) → Wrote (λ v. encode (type_of f) v) T' m o D d E k → k ≡ no
      go no w = refl
      go (got v S) w = absurd (false≢true (sym w.on ∙ h))

  keep_no : (k : Got (Value (type_of f))) → k ≡ no → keep (λ v. ltb (length (encode (type_of f) v)) 16384) k ≡ no
  unfolding keep
  keep_no k h = rw h

  pub inner_refused : (X Z : List ℕ) (r : Stand) → (p.off ≡ false → d.off ≡ true) → r.off ≡ true → Part (inner f) x b W m p X r Z
  unfolding parse
  inner_refused X Z r h k = record { still = λ _. k; goes = λ z l. rw (keep_no (parse f x (T' p.next)) (refused-run z l (h z))) k }

  pub inner_long : (X Z : List ℕ) (r : Stand) → 16384 ≤ d.at → r.off ≡ true → Part (inner f) x b W m p X r Z
  unfolding parse keep
  inner_long X Z r h k = record { still = λ _. k; goes = λ z l. go z l (parse f x (T' p.next)) refl }
    where
      go : p.off ≡ false → p.next ≤ m → (g : Got (Value (type_of f))) → parse f x (T' p.next) ≡ g → Wrote (λ v. encode (type_of (inner f)) v) T' m p X r Z (keep (λ v. ltb (length (encode (type_of f) v)) 16384) g)
      go z l no e = k
      go z l (got v S) e = rw (le-ltb (length (encode (type_of f) v)) 16384 (omega (arith, measured z l e, h))) k

  pub inner_goes : (n u : ℕ) (q r : Stand) (X Y Z : List ℕ) → d.at < 16384 → length_bits d.at ≡ bits_of n u → Inks p X n u q Y → Part f x b W m q Y r Z → Part (inner f) x b W m p X r Z
  unfolding parse encode keep
  inner_goes n u q r X Y Z h e a c = record { still = λ z. c.still (a.off_stays ∙ z); goes = λ z l. go z l (parse f x (T' p.next)) refl (rw (← a.next_stays) (c.goes (a.off_stays ∙ z) (omega (arith, a.next_stays, l)))) }
    where
      go : p.off ≡ false → p.next ≤ m → (g : Got (Value (type_of f))) → parse f x (T' p.next) ≡ g → Wrote (λ v. encode (type_of f) v) T' m q Y r Z g
          → Wrote (λ v. length_bits (length (encode (type_of f) v)) ++ encode (type_of f) v) T' m p X r Z (keep (λ v. ltb (length (encode (type_of f) v)) 16384) g)
      go z l no k w = w
      go z l (got v S) k w =
          let i = measured z l k in
          let y : length_bits (length (encode (type_of f) v)) ≡ bits_of n u = ap length_bits i ∙ e in
          rw (lt-ltb (length (encode (type_of f) v)) 16384 (omega (arith, i, h)))
          (record {
            on = w.on;
            left = w.left;
            fits = w.fits;
            wrote = λ s.
                let k = length-append (length_bits (length (encode (type_of f) v))) (encode (type_of f) v) in
                let j = ap (λ (t : List ℕ). length t) y ∙ length-bits_of n u in
                let g = a.puts (omega (arith, s)) in
                let o = w.wrote (omega (arith, s, k, j, g.0)) in
                let t : q.at ≡ p.at + length (bits_of n u) = g.0 ∙ ap (λ (z : ℕ). p.at + z) (sym (length-bits_of n u)) in
                (omega (arith, k, j, g.0, o.0), o.1 ∙ rw (g.1, t, y) (sym (set_bits-join X p.at (bits_of n u) (encode (type_of f) v))));
          })
