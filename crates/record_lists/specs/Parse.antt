-- From a list to the value that it shows, and the rest of the list. A leaf proposes a value from the item at the front, tests it,
-- and takes it if what it would show stands there; an optional part is there if the next item has one of its first tags.
use Rattle.std.specs.Prelude.{Bool, true, false, cond, not, ◌&&◌, List, [], ◌∷◌, ◌++◌, ℕ, zero, suc, ◌+◌, ◌-◌, ◌/◌, ◌%◌, ◌^◌, min, length, drop, get_or, leb, ltb, eqb}
use Rattle.std.proofs.Math.Option.{Option, none, some}
use Rattle.std.proofs.Common.{inl, inr}
use Rattle.x691.specs.Types.{Value, Values, Pick, extent}
use Rattle.x691.specs.Encoding.{unit_bits, encode}
use Rattle.x691.specs.Range.{member}
use Rattle.atn.specs.Format.{Fmt, num, listed, name, text, span, any_span, skipped, small, null, noted, placed, marked, refuse, element, ext, seq, loose, choice, many, inner, soft, lax}
use Rattle.atn.specs.Format.{Flds, end, ◌⨾◌, ◌⨾?◌, or_note, unread, Alts, none_left, ◌∥◌, type_of, members_of, alternatives_of, Letters, first, numeric}
use Rattle.atn.specs.Reading.{Ctx, word, units}
use Rattle.record_lists.specs.Items.{Item, plain, bits, tag_of}
use Rattle.record_lists.specs.Shown.{in_letters, spanned}
use Rattle.record_lists.specs.Clear.{firsts}

---------------------------------------------------------------- the item at the front

unfoldable pub opens : List ℕ → List Item → Bool
opens F [] = false
opens F (i ∷ R) = member (tag_of i) F

unfoldable pub value_in : Item → ℕ
value_in (plain t m v s) = v
value_in (bits t m xs) = 0

unfoldable pub second_in : Item → ℕ
second_in (plain t m v s) = s
second_in (bits t m xs) = 0

unfoldable pub bits_in : Item → List ℕ
bits_in (plain t m v s) = []
bits_in (bits t m xs) = xs

unfoldable pub value_of : List Item → ℕ
value_of [] = 0
value_of (i ∷ R) = value_in i

unfoldable pub second_of : List Item → ℕ
second_of [] = 0
second_of (i ∷ R) = second_in i

-- the bits of a span with this tag
unfoldable pub bits_at : ℕ → List Item → List ℕ
bits_at t [] = []
bits_at t (i ∷ R) = cond (eqb (tag_of i) t) (bits_in i) []

unfoldable pub same_numbers : List ℕ → List ℕ → Bool
same_numbers [] [] = true
same_numbers [] (y ∷ ys) = false
same_numbers (x ∷ xs) [] = false
same_numbers (x ∷ xs) (y ∷ ys) = eqb x y && same_numbers xs ys

unfoldable pub same : Item → Item → Bool
same (plain t m v s) (plain u n w r) = (eqb t u && eqb m n) && (eqb v w && eqb s r)
same (bits t m xs) (bits u n ys) = (eqb t u && eqb m n) && same_numbers xs ys
same (plain t m v s) (bits u n ys) = false
same (bits t m xs) (plain u n w r) = false

unfoldable pub begins : Item → List Item → Bool
begins i [] = false
begins i (j ∷ R) = same i j

---------------------------------------------------------------- values that are proposed

-- what a number exceeds its lowest by, in words
unfoldable pub above : ℕ → ℕ → ℕ
above lo w = (w + (18446744073709551616 - lo)) % 18446744073709551616

-- n characters of a word with k octets
unfoldable pub characters : ℕ → ℕ → ℕ → List ℕ
characters zero k w = []
characters (suc n) zero w = []
characters (suc n) (suc k) w = w / 256 ^ k ∷ characters n k (w % 256 ^ k)

-- n characters of k items
unfoldable pub spelled : ℕ → ℕ → List Item → List ℕ
spelled n zero R = []
spelled n (suc k) [] = []
spelled n (suc k) (i ∷ R) = characters (min 8 n) 8 (value_in i) ++ spelled (n - 8) k R

unfoldable pub uncoded : ℕ → List ℕ → List ℕ
uncoded c [] = []
uncoded c (x ∷ xs) = (x - c) ∷ uncoded c xs

-- the code of the first unit, in the text that stands first
abbrev pub code_of : Letters → ℕ
code_of (first c) = c
code_of (numeric v) = 48

unfoldable pub text_of : ℕ → List Item → List ℕ
text_of c R = uncoded c (spelled (second_of R) ((second_of R + 7) / 8) R)

-- the units of w bits
unfoldable pub units_of : ℕ → List ℕ → List ℕ
units_of w xs = units (λ i. get_or xs i 0) w 0 (length xs / w)

unfoldable pub all_below : ℕ → List ℕ → Bool
all_below n [] = true
all_below n (c ∷ cs) = ltb c n && all_below n cs

unfoldable pub good_size : ℕ → ℕ → ℕ → Bool
good_size lo hi n = leb lo n && leb n hi

---------------------------------------------------------------- steps

pub data Got (A : Type 0) : Type 0 where
  no : Got A
  got : A → List Item → Got A

module _ {A : Type 0} where
  -- these items, then the rest
  unfoldable pub peel : List Item → A → List Item → Got A
  peel [] a R = got a R
  peel (i ∷ P) a [] = no
  peel (i ∷ P) a (j ∷ R) = cond (same i j) (peel P a R) no

  -- a proposed value is taken if it is good and what it shows stands there
  unfoldable pub leaf : (A → List Item) → (A → Bool) → A → List Item → Got A
  leaf h g a R = cond (g a) (peel (h a) a R) no

  unfoldable pub keep : (A → Bool) → Got A → Got A
  keep g no = no
  keep g (got a R) = cond (g a) (got a R) no

module _ {A B : Type 0} where
  unfoldable pub feed : Got A → (A → List Item → Got B) → Got B
  feed no k = no
  feed (got a R) k = k a R

  unfoldable pub turn : (A → B) → Got A → Got B
  turn g no = no
  turn g (got a R) = got (g a) R

module _ {A : Type 0} where
  -- n at most, as long as one begins, each with its place
  unfoldable pub several : (ℕ → List Item → Got A) → (List Item → Bool) → ℕ → ℕ → List Item → Got (List A)
  several p o i zero R = got [] R
  several p o i (suc n) R = cond (o R) (feed (p i R) λ a S. turn (λ xs. a ∷ xs) (several p o (suc i) n S)) (got [] R)

  -- a part, if it is there; if not, so many items stand for it
  unfoldable pub perhaps : {B : Type 0} → (List Item → Got A) → (List Item → Got B) → ℕ → Bool → List Item → Got (Option A × B)
  perhaps p k n true R = feed (p R) λ a S. turn (λ b. (some a, b)) (k S)
  perhaps p k n false R = turn (λ b. (none, b)) (k (drop n R))

---------------------------------------------------------------- formats

unfoldable mutual
  pub parse : (f : Fmt) → Ctx → List Item → Got (Value (type_of f))
  parse (num t lo hi) x R = leaf (λ v. plain t x.0 (word (lo + v)) 0 ∷ []) (λ v. leb v (extent lo hi)) (above lo (value_of R)) R
  parse (listed t hi xs) x R = leaf (λ v. plain t x.0 v 0 ∷ []) (λ v. leb v hi && member v xs) (value_of R) R
  parse (name t hi) x R = leaf (λ v. plain t x.0 v 0 ∷ []) (λ v. leb v (extent 0 hi)) (value_of R) R
  parse (text t n c lo hi) x R = leaf (λ cs. in_letters t c x.0 cs) (λ cs. good_size lo hi (length cs) && all_below n cs) (text_of (code_of c) R) R
  parse (span t w lo hi) x R = leaf (λ cs. spanned t x.0 (unit_bits (2 ^ w) cs)) (λ cs. good_size lo hi (length cs) && all_below (2 ^ w) cs) (units_of w (bits_at t R)) R
  parse (any_span t w) x R = leaf (λ cs. spanned t x.0 (unit_bits (2 ^ w) cs)) (λ cs. ltb (length cs) 16384 && all_below (2 ^ w) cs) (units_of w (bits_at t R)) R
  parse (skipped m) x R = no
  parse (small m t) x R = no
  parse null x R = got tt R
  parse (noted t y s f) x R = feed (peel (plain t x.0 y s ∷ []) zero R) λ _ S. parse f x S
  parse (placed t f) x R = feed (peel (plain t x.0 x.1 0 ∷ []) zero R) λ _ S. parse f x S
  parse (marked m) x R = no
  parse (refuse w m) x R = no
  parse (element f) x R = parse f (x.1, x.1) R
  parse (ext f g) x R = parse f x R
  parse (seq fs) x R = parse_fields fs x R
  parse (loose fs) x R = parse_fields fs x R
  parse (choice t fs) x R = feed (leaf (λ i. plain t x.0 i 0 ∷ []) (λ i. true) (value_of R) R) λ i S. parse_pick fs i x S
  parse (many lo hi f) x R = keep (λ vs. leb lo (length vs)) (several (λ i S. parse f (x.0, i) S) (λ S. opens (firsts f) S) 1 hi R)
  parse (inner f) x R = keep (λ v. ltb (length (encode (type_of f) v)) 16384) (parse f x R)
  parse (soft m r f) x R = parse f x R
  parse (lax m j f) x R = parse f x R

  pub parse_fields : (fs : Flds) → Ctx → List Item → Got (Values (members_of fs))
  parse_fields end x R = got tt R
  parse_fields (f ⨾ fs) x R = feed (parse f x R) λ v S. turn (λ vs. (v, vs)) (parse_fields fs x S)
  parse_fields (f ⨾? fs) x R = perhaps (λ S. parse f x S) (λ S. parse_fields fs x S) 0 (opens (firsts f) R) R
  parse_fields (or_note t y s f fs) x R = perhaps (λ S. parse f x S) (λ S. parse_fields fs x S) 1 (not (begins (plain t x.0 y s) R)) R
  parse_fields (unread t fs) x R = turn (λ vs. (none, vs)) (parse_fields fs x R)

  pub parse_pick : (fs : Alts) → ℕ → Ctx → List Item → Got (Pick (alternatives_of fs))
  parse_pick none_left i x R = no
  parse_pick (f ∥ fs) zero x R = turn (λ v. inl v) (parse f x R)
  parse_pick (f ∥ fs) (suc i) x R = turn (λ c. inr c) (parse_pick fs i x R)
