-- The plain reading: what the source does with each format, with reach and marks as document 01 has them.
use Rattle.std.specs.Prelude.{Bool, true, false, cond, ◌&&◌, List, [], ◌∷◌, ◌++◌, ℕ, zero, suc, ◌+◌, ◌-◌, ◌*◌, ◌/◌, ◌%◌, ◌^◌, length, drop, leb, ltb, eqb}
use Rattle.std.specs.Int.Bits.{bit_or}
use Rattle.x691.specs.Bits.{uint}
use Rattle.x691.specs.Types.{extent}
use Rattle.x691.specs.Encoding.{width, highest}
use Rattle.x691.specs.Range.{member}
use Rattle.atn.specs.Format.{Fmt, num, listed, name, text, span, any_span, skipped, small, null, noted, placed, marked, refuse, element, ext, seq, loose, choice, many, inner, soft, lax}
use Rattle.atn.specs.Format.{Flds, end, ◌⨾◌, ◌⨾?◌, or_note, unread, Alts, none_left, ◌∥◌, alternatives_of, Letters, first, numeric, Why, out, bad, lack, quit}

---------------------------------------------------------------- records and marks

-- tag, element number, value, second number, and the bit where the field starts; a field without bits of its own has the place where the reading stood
pub data Rec : Type 0 where
  rec : ℕ → ℕ → ℕ → ℕ → ℕ → Rec

-- what a part inherits: the number of the element that it stands in, 0 outside elements, and its place in the nearest list, from 1
abbrev pub Ctx : Type 0
Ctx = ℕ × ℕ

-- a set of marks is the sum of 2^(mark - 1)
unfoldable pub mark : ℕ → ℕ
mark m = 2 ^ (m - 1)

unfoldable pub or : ℕ → ℕ → ℕ
or a b = bit_or a b

-- a mark, unless the test holds
unfoldable pub unless : Bool → ℕ → ℕ
unless true m = 0
unless false m = mark m

-- mark 1 above d
unfoldable pub over : ℕ → ℕ → ℕ
over d v = unless (leb v d) 1

-- a number as a 64-bit word: below zero it is 2^64 less its magnitude
unfoldable pub word : ℕ → ℕ
word n = n % 18446744073709551616

-- k octets of a word: the characters from the highest octet on, missing ones zero
unfoldable pub octets : ℕ → List ℕ → ℕ
octets zero cs = 0
octets (suc k) [] = 0
octets (suc k) (c ∷ cs) = c * 256 ^ k + octets k cs

-- k records of a text of n characters that starts at the place q, eight to a record, the second number its whole length
unfoldable pub packs : ℕ → ℕ → ℕ → ℕ → ℕ → List ℕ → List Rec
packs t m q n zero cs = []
packs t m q n (suc k) cs = rec t m (octets 8 cs) n q ∷ packs t m q n k (drop 8 cs)

unfoldable pub pack : ℕ → ℕ → ℕ → List ℕ → List Rec
pack t m q cs = packs t m q (length cs) ((length cs + 7) / 8) cs

-- the units of an alphabet as characters, the first of them with code c
unfoldable pub coded : ℕ → List ℕ → List ℕ
coded c [] = []
coded c (u ∷ us) = (c + u) ∷ coded c us

-- the characters of a NumericString: the space, then the digits (X.680 37.2, X.691 27.5.4)
unfoldable pub spaced : List ℕ → List ℕ
spaced [] = []
spaced (u ∷ us) = cond (eqb u 0) 32 (47 + u) ∷ spaced us

-- "if no raw is above 10"
unfoldable pub none_above : ℕ → List ℕ → Bool
none_above n [] = true
none_above n (u ∷ us) = leb u n && none_above n us

-- the records of a text by its units, and the place where it starts
abbrev pub lettered : ℕ → Letters → ℕ → ℕ → List ℕ → List Rec
lettered t (first c) m q us = pack t m q (coded c us)
lettered t (numeric v) m q us = pack t m q (coded 48 us) ++ cond (none_above 10 us) (pack v m q (spaced us)) []

-- a span that is not empty: its first bit in the frame, and the number of its bits; its field starts at `at`
unfoldable pub spanned : ℕ → ℕ → ℕ → ℕ → ℕ → List Rec
spanned t m at q zero = []
spanned t m at q (suc k) = rec t m q (suc k) at ∷ []

---------------------------------------------------------------- answers of a reading

-- the next place, the records and the marks; the same where a tolerated read has passed the window's end and the reading carried on: its first number is the bits that the first such read lacked;
-- or why it stopped, the bits taken, the records so far and the marks
pub data Ans : Type 0 where
  ok : ℕ → List Rec → ℕ → Ans
  past : ℕ → ℕ → List Rec → ℕ → Ans
  stop : Why → ℕ → List Rec → ℕ → Ans

-- what was told and marked before
unfoldable pub glue : List Rec → ℕ → Ans → Ans
glue R m (ok p S n) = ok p (R ++ S) (or m n)
glue R m (past k p S n) = past k p (R ++ S) (or m n)
glue R m (stop w p S n) = stop w p (R ++ S) (or m n)

-- behind the window's end nothing is final: "a 5 or 6 met after a tolerated read has passed the frame's end is 4"; the bits lacked are those of "the first read that passed";
-- 01 has the rule for the frame, and behind the end of an inner string its messages meet no 5 and no 6
unfoldable pub tardy : ℕ → Why → Why
tardy k (out l) = out k
tardy k bad = out k
tardy k lack = out k
tardy k (quit o j m) = quit true j m

unfoldable pub late : ℕ → List Rec → ℕ → Ans → Ans
late k R m (ok p S n) = past k p (R ++ S) (or m n)
late k R m (past l p S n) = past k p (R ++ S) (or m n)
late k R m (stop w p S n) = stop (tardy k w) p (R ++ S) (or m n)

-- one reading after another
unfoldable pub then : Ans → (ℕ → Ans) → Ans
then (ok p R m) f = glue R m (f p)
then (past k p R m) f = late k R m (f p)
then (stop w p R m) f = stop w p R m

-- the part is read i times, each with its place
unfoldable pub times : (ℕ → ℕ → Ans) → ℕ → ℕ → ℕ → Ans
times r i zero at = ok at [] 0
times r i (suc n) at = then (r i at) λ p. times r (suc i) n p

-- a bit that chooses
unfoldable pub fork : ℕ → Ans → Ans → Ans
fork zero x y = x
fork (suc n) x y = y

-- a test that refuses
unfoldable pub guard : Bool → ℕ → ℕ → Ans → Ans
guard true at m z = z
guard false at m z = stop bad at [] m

---------------------------------------------------------------- reads: from the place `at` of the bits b, in a window that ends at e

-- n bits as a number, or another answer where the window is too short for them
unfoldable pub fetch : (ℕ → ℕ) → ℕ → ℕ → ℕ → (ℕ → Ans) → Ans → Ans
fetch b e at n k z = cond (leb (at + n) e) (k (uint b at n)) z

-- n bits as a number, or ran out without moving: "a bit read that passes the end should say how many bits it lacked"
unfoldable pub pull : (ℕ → ℕ) → ℕ → ℕ → ℕ → (ℕ → Ans) → Ans
pull b e at n k = fetch b e at n k (stop (out (at + n - e)) at [] 0)

-- a size within lo..hi, the highest not tested
unfoldable pub sized : (ℕ → ℕ) → ℕ → ℕ → ℕ → ℕ → (ℕ → ℕ → Ans) → Ans
sized b e at lo hi k = pull b e at (width (hi - lo)) λ v. then (ok (at + width (hi - lo)) [] (over hi (lo + v))) λ p. k (lo + v) p

-- so many units of an alphabet of n, w bits each, one after another
unfoldable pub letters : (ℕ → ℕ) → ℕ → ℕ → ℕ → ℕ → ℕ → (ℕ → Ans) → Ans
letters b e w n zero at k = k at
letters b e w n (suc i) at k = pull b e at w λ u. then (ok (at + w) [] (unless (ltb u n) 1)) λ p. letters b e w n i p k

unfoldable pub units : (ℕ → ℕ) → ℕ → ℕ → ℕ → List ℕ
units b w at zero = []
units b w at (suc i) = uint b at w ∷ units b w (at + w) i

-- the forms of a length behind its first bits: 0 and 7 bits; 10 and 14 bits, mark 5 below 128; 11 and a multiplier from 1 to 4, mark 5
unfoldable pub short : (ℕ → ℕ) → ℕ → ℕ → (ℕ → ℕ → Ans) → Ans
short b e at k = pull b e (at + 1) 7 λ n. k n (at + 8)

unfoldable pub long : (ℕ → ℕ) → ℕ → ℕ → (ℕ → ℕ → Ans) → Ans
long b e at k = pull b e (at + 2) 14 λ n. then (ok (at + 16) [] (unless (leb 128 n) 5)) λ q. k n q

unfoldable pub fragment : (ℕ → ℕ) → ℕ → ℕ → (ℕ → ℕ → Ans) → Ans
fragment b e at k = pull b e (at + 2) 6 λ m. guard (leb 1 m) (at + 8) 0 (guard (leb m 4) (at + 8) 0 (then (ok (at + 8) [] (mark 5)) λ q. k m q))

-- the length determinant, at most g lengths in a row: all lengths come first, "the total of a fragment is its size plus the total of what follows"
unfoldable pub lengths : ℕ → (ℕ → ℕ) → ℕ → ℕ → (ℕ → ℕ → Ans) → Ans
lengths zero b e at k = stop bad at [] 0
lengths (suc g) b e at k =
    pull b e at 1 λ x. fork x (short b e at k) (pull b e (at + 1) 1 λ y. fork y (long b e at k) (fragment b e at λ m q. lengths g b e q λ n p. k (m * 16384 + n) p))

-- no frame of 65,536 bytes has more lengths in a row
unfoldable pub length_then : (ℕ → ℕ) → ℕ → ℕ → (ℕ → ℕ → Ans) → Ans
length_then b e at k = lengths 65537 b e at k

---------------------------------------------------------------- sequences

-- the number of presence bits
unfoldable pub flags : Flds → ℕ
flags end = 0
flags (f ⨾ fs) = flags fs
flags (f ⨾? fs) = suc (flags fs)
flags (or_note t v s f fs) = suc (flags fs)
flags (unread t fs) = suc (flags fs)

-- the marks of the presence bits from q on: 4 for each part that is there and not read
unfoldable pub unread_mark : ℕ → ℕ
unread_mark zero = 0
unread_mark (suc n) = mark 4

unfoldable pub unread_marks : Flds → (ℕ → ℕ) → ℕ → ℕ
unread_marks end b q = 0
unread_marks (f ⨾ fs) b q = unread_marks fs b q
unread_marks (f ⨾? fs) b q = unread_marks fs b (suc q)
unread_marks (or_note t v s f fs) b q = unread_marks fs b (suc q)
unread_marks (unread t fs) b q = or (unread_mark (b q)) (unread_marks fs b (suc q))

-- the bits of a window, with nothing behind its end
unfoldable pub within : (ℕ → ℕ) → ℕ → ℕ → ℕ
within b e i = cond (ltb i e) (b i) 0

---------------------------------------------------------------- tolerance

-- what is left of the reading of an inner string that ends at q, given up at p: running past its end is never 4
unfoldable pub shut : Why → ℕ → ℕ → List Rec → ℕ → Ans
shut (out l) q p R m = stop bad q R m
shut bad q p R m = stop bad q R m
shut lack q p R m = stop lack q R m
shut (quit o false k) q p R m = ok q R (or (mark k) m)
shut (quit o true k) q p R m = ok q R (or (mark k) (or m (unless (eqb p q) 6)))

unfoldable pub close : ℕ → Ans → Ans
close q (ok p R m) = ok q R (or m (unless (eqb p q) 6))
close q (past k p R m) = ok q R (or (mark 7) (or m (unless (eqb p q) 6)))
close q (stop w p R m) = shut w q p R m

unfoldable pub kept : Bool → List Rec → List Rec
kept true R = R
kept false R = []

unfoldable pub pass_over : Why → ℕ → Bool → ℕ → List Rec → ℕ → Ans
pass_over (out l) k r p R m = past l p (kept r R) m
pass_over bad k r p R m = ok p (kept r R) (or (mark k) m)
pass_over lack k r p R m = stop lack p R m
pass_over (quit o j l) k r p R m = stop (quit o j l) p R m

unfoldable pub softly : ℕ → Bool → Ans → Ans
softly k r (ok p R m) = ok p R m
softly k r (past l p R m) = past l p R m
softly k r (stop w p R m) = pass_over w k r p R m

unfoldable pub give_up : Why → ℕ → Bool → ℕ → List Rec → ℕ → Ans
give_up (out l) k j p R m = stop (quit true j k) p [] m
give_up bad k j p R m = stop (quit false j k) p [] m
give_up lack k j p R m = stop lack p R m
give_up (quit o i l) k j p R m = stop (quit o i l) p R m

unfoldable pub laxly : ℕ → Bool → Ans → Ans
laxly k j (ok p R m) = ok p R m
laxly k j (past l p R m) = past l p R m
laxly k j (stop w p R m) = give_up w k j p R m

---------------------------------------------------------------- the reading

-- presence bits are taken one after another, so that the first that passes the end lacks 1
unfoldable mutual
  pub read : Fmt → Ctx → (ℕ → ℕ) → ℕ → ℕ → Ans
  read (num t lo hi) x b e at = let w : ℕ = width (extent lo hi) in pull b e at w λ v. ok (at + w) (rec t x.0 (word (lo + v)) 0 at ∷ []) (over (extent lo hi) v)
  read (listed t hi xs) x b e at = pull b e at (width hi) λ v. ok (at + width hi) (rec t x.0 v 0 at ∷ []) (unless (leb v hi && member v xs) 1)
  read (name t hi) x b e at =
      let w : ℕ = width (extent 0 hi) in
      pull b e at w λ v. guard (leb v (extent 0 hi)) (at + w) (mark 1) (ok (at + w) (rec t x.0 v 0 at ∷ []) 0)
  read (text t n c lo hi) x b e at =
      let w : ℕ = width (n - 1) in
      sized b e at lo hi λ k q. letters b e w n k q λ p. ok p (lettered t c x.0 at (units b w q k)) 0
  read (span t w lo hi) x b e at = sized b e at lo hi λ k q. pull b e q (k * w) λ _. ok (q + k * w) (spanned t x.0 at q (k * w)) 0
  read (any_span t w) x b e at = length_then b e at λ k q. pull b e q (k * w) λ _. ok (q + k * w) (spanned t x.0 at q (k * w)) 0
  read (skipped m) x b e at = then (ok at [] (mark m)) λ p. length_then b e p λ k q. pull b e q (k * 8) λ _. ok (q + k * 8) [] 0
  read (small m t) x b e at =
      then (ok at [] (mark m)) λ p.
      pull b e p 1 λ y.
      fork y (pull b e (p + 1) 6 λ v. ok (p + 7) (rec t x.0 v 0 p ∷ []) 0) (length_then b e (p + 1) λ k q. pull b e q (k * 8) λ v. ok (q + k * 8) (rec t x.0 (word v) 0 p ∷ []) 0)
  read null x b e at = ok at [] 0
  read (noted t v s f) x b e at = then (ok at (rec t x.0 v s at ∷ []) 0) λ p. read f x b e p
  read (placed t f) x b e at = then (ok at (rec t x.0 x.1 0 at ∷ []) 0) λ p. read f x b e p
  read (marked m) x b e at = ok at [] (mark m)
  read (refuse w m) x b e at = stop w at [] m
  read (element f) x b e at = read f (x.1, x.1) b e at
  read (ext f g) x b e at = pull b e at 1 λ y. fork y (read f x b e (at + 1)) (then (ok (at + 1) [] (mark 2)) λ p. read g x b e p)
  read (seq fs) x b e at = fetch b e at (flags fs) (λ _. then (ok (at + flags fs) [] (unread_marks fs b at)) λ p. read_fields fs x b e at p) (stop (out 1) (at + (e - at)) [] (unread_marks fs (within b e) at))
  read (loose fs) x b e at =
      fetch b e at (flags fs) (λ _. then (ok (at + flags fs) [] (unread_marks fs b at)) λ p. read_fields fs x b e at p)
      (late 1 [] (unread_marks fs (within b e) at) (read_fields fs x (within b e) e at (at + (e - at))))
  read (choice t fs) x b e at = let w : ℕ = width (highest (alternatives_of fs)) in pull b e at w λ i. then (ok (at + w) (rec t x.0 i 0 at ∷ []) 0) λ p. read_choice fs i x b e p
  read (many lo hi f) x b e at = sized b e at lo hi λ k q. times (λ i p. read f (x.0, i) b e p) 1 k q
  read (inner f) x b e at = length_then b e at λ k q. pull b e q k λ _. close (q + k) (read f x b (q + k) q)
  read (soft m r f) x b e at = softly m r (read f x b e at)
  read (lax m j f) x b e at = laxly m j (read f x b e at)

  -- q is the place of the next presence bit
  pub read_fields : Flds → Ctx → (ℕ → ℕ) → ℕ → ℕ → ℕ → Ans
  read_fields end x b e q at = ok at [] 0
  read_fields (f ⨾ fs) x b e q at = then (read f x b e at) λ p. read_fields fs x b e q p
  read_fields (f ⨾? fs) x b e q at = fork (b q) (read_fields fs x b e (suc q) at) (then (read f x b e at) λ p. read_fields fs x b e (suc q) p)
  read_fields (or_note t v s f fs) x b e q at = fork (b q) (then (ok at (rec t x.0 v s at ∷ []) 0) λ p. read_fields fs x b e (suc q) p) (then (read f x b e at) λ p. read_fields fs x b e (suc q) p)
  read_fields (unread t fs) x b e q at = fork (b q) (read_fields fs x b e (suc q) at) (then (ok at (rec t x.0 1 0 at ∷ []) (mark 4)) λ p. read_fields fs x b e (suc q) p)

  -- an index that no alternative has is outside its listed values
  pub read_choice : Alts → ℕ → Ctx → (ℕ → ℕ) → ℕ → ℕ → Ans
  read_choice none_left i x b e at = stop bad at [] (mark 1)
  read_choice (f ∥ fs) zero x b e at = read f x b e at
  read_choice (f ∥ fs) (suc i) x b e at = read_choice fs i x b e at
