-- A saved book is read as the same entries.
use mathlib.Core.Path.{◌≡◌, refl, sym, ◌∙◌}
use mathlib.Core.Bool.{true, not, ◌&&◌}
use mathlib.Core.List.{List, [], ◌∷◌, ◌++◌, append_assoc}
use mathlib.Core.Option.{some}
use Prim.Native.Nat.{ℕ, ◌+◌, ◌*◌, ◌/◌, ◌%◌, ◌-◌, ◌^◌, ◌<◌}
use native.Mathlib.Nat.{one-le-pow, div-add-mod', div-lt_iff_lt-mul}
use native.Mathlib.Omega.{arith}
use lib.Pow.{pow-add}
use lib.Dec.{lit≤}
use lib.Seq.{append_snoc}
use Rattle.book_entries.specs.declared.Entry.{Entry}
use Rattle.book_entries.specs.Entries.{text, size, bytes, good}
use Rattle.book_entries.specs.Book.{holds, named, before, fair, orderly}
use Rattle.book_entries.proofs.Tests.{both}
use Rattle.book_entries.proofs.GoodEntries.{Numbers, numbers}
use Rattle.book_lines.specs.Lines.{digits, line, saved, InWords, entry_of, checked, entry, also, lines}
use Rattle.book_lines.proofs.LineLaws.{digits-length}
use Rattle.book_lines.proofs.Parts.{read}
use Rattle.book_lines.proofs.Digits.{read-digits, lines-digits, two_digits_lem}

-- the digits of a name, moved up again
module _ (e : Entry) (n : Numbers e) where
  name_back : text e / 256 ^ (8 - size e) * 256 ^ (8 - size e) ≡ text e
  name_back = omega (arith, div-add-mod' (text e) (256 ^ (8 - size e)), n.ends)

  name-fits : text e / 256 ^ (8 - size e) < 16 ^ (size e * 2)
  name-fits =
      let i : size e + (8 - size e) ≡ 8 = omega arith in
      let f : 256 ^ size e * 256 ^ (8 - size e) ≡ 256 ^ 8 = sym (pow-add 256 (size e) (8 - size e)) ∙ rw i in
      let t : text e < 256 ^ size e * 256 ^ (8 - size e) = rw f (omega (arith, n.high, n.low)) in
      rw two_digits_lem ((div-lt_iff_lt-mul (one-le-pow (8 - size e) 256 (lit≤ tt))).1 t)

  same : entry_of (size e) (text e / 256 ^ (8 - size e)) e.number (bytes e) ≡ e
  same =
      let h : text e / 4294967296 ≡ e.high = omega (arith, n.low) in
      let l : text e % 4294967296 ≡ e.low = omega (arith, n.low) in
      let s : size e * 1048576 + bytes e ≡ e.shape = omega arith in
      rw (name_back, h, l, s)

-- the line of an entry is read as that entry
pub line_back : (e : Entry) → good e ≡ true → e.number < 4294967296 → entry (digits (size e * 2) (text e / 256 ^ (8 - size e)) ++ digits 8 e.number ++ digits 5 (bytes e)) ≡ some e
unfolding checked
line_back e g k =
    let n = numbers e g in
    let a = digits (size e * 2) (text e / 256 ^ (8 - size e)) in
    let l = digits-length 5 (bytes e) in
    read (size e) a (digits 8 e.number) (digits 5 (bytes e)) n.least n.most (digits-length (size e * 2) (text e / 256 ^ (8 - size e))) (digits-length 8 e.number) (omega arith) (omega arith)
    (read-digits (size e * 2) (text e / 256 ^ (8 - size e)) (name-fits e n)) (read-digits 8 e.number k) (read-digits 5 (bytes e) (omega arith)) ∙ rw (same e n, g)

-- a line, and what stands behind it
fed : (e : Entry) (t : List ℕ) → lines [] (line e ++ t) ≡ also (entry (digits (size e * 2) (text e / 256 ^ (8 - size e)) ++ digits 8 e.number ++ digits 5 (bytes e))) (lines [] t)
unfolding line lines
fed e t =
    let a = digits (size e * 2) (text e / 256 ^ (8 - size e)) in
    let b = digits 8 e.number in
    let c = digits 5 (bytes e) in
    rw (append_snoc (a ++ b ++ c) 10 t, append_assoc (a ++ b) c (10 ∷ t), append_assoc a b (c ++ 10 ∷ t), lines-digits (size e * 2) (text e / 256 ^ (8 - size e)) [] (b ++ (c ++ 10 ∷ t)), lines-digits 8 e.number a (c ++ 10 ∷ t), lines-digits 5 (bytes e) (a ++ b) (10 ∷ t))

-- and so are the lines of a book
pub saved_back : (E : List Entry) → orderly E ≡ true → InWords E → lines [] (saved E) ≡ some E
unfolding saved lines also orderly fair
saved_back [] o k = refl
saved_back (e ∷ E) o k =
    let p = both (fair e E) (orderly E) o in
    let g = both (good e) (before e E && not (holds (named (text e) (size e)) E)) p.0 in
    fed e (saved E) ∙ rw (line_back e g.0 k.0, saved_back E p.1 k.1)
