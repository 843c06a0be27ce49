-- What a character more makes of what was taken of a text.
use mathlib.Core.Path.{◌≡◌, refl, sym, ap, ◌∙◌}
use mathlib.Core.Bool.{Bool, true, false, cond}
use mathlib.Core.List.{List, [], ◌∷◌, ◌++◌, append-nil, append_assoc}
use Prim.Native.Nat.{ℕ, ◌+◌, ◌*◌, ◌/◌, ◌%◌, ◌≤◌, ◌<◌}
use native.Mathlib.Numerals.{add-one}
use native.Mathlib.Omega.{arith}
use lib.Dec.{eqb}
use lib.ListN.{length, take, get_or, set, length-append}
use lib.Seq.{take_all, take-suc, take-suc-set, take-set-le, get_or-set_same, append_snoc}
use borrow.Author.Tests.{eq-eqb, ne_eqb}
use Rattle.std.specs.Prelude.{Option, Some, None, Err}
use Rattle.hexadecimal.specs.declared.Refusal.{Refusal}
use Rattle.hexadecimal.specs.declared.Refusal.TheVariants.{TooLong, NotHexadecimal}
use Rattle.hexadecimal.specs.declared.stretches.Digits.{Digits}
use Rattle.hexadecimal.specs.Hex.{digit, before, pair, octets, Decodes}
use Rattle.hexadecimal.specs.Stretches.{behind, waiting, going_on, Stands, SoFar}

behind-nothing : (o : Option (List ℕ)) → o ≡ behind [] o
unfolding behind
behind-nothing None = refl
behind-nothing (Some ys) = refl

behind-before : (xs : List ℕ) (v : ℕ) (o : Option (List ℕ)) → behind xs (before v o) ≡ behind (xs ++ (v ∷ [])) o
unfolding behind before
behind-before xs v None = refl
behind-before xs v (Some ys) = rw append_snoc

-- the first character waits for the second, if it is a digit
first : (c : ℕ) (rest : List ℕ) → octets (c ∷ rest) ≡ waiting (digit c) rest
unfolding octets waiting
first c [] = refl
first c (l ∷ t) = refl

first-wrong : (rest : List ℕ) → waiting None rest ≡ None
unfolding waiting pair
first-wrong [] = refl
first-wrong (l ∷ t) = refl

-- no digit waits, or one does
even : (n : ℕ) (frame rest : List ℕ) → n % 2 ≡ 0 → going_on n frame rest ≡ behind (take (n / 2) frame) (octets rest)
unfolding going_on
even n frame rest e = rw (eq-eqb (n % 2) 0 e)

odd : (n : ℕ) (frame rest : List ℕ) → n % 2 ≡ 1 → going_on n frame rest ≡ behind (take (n / 2) frame) (waiting (Some (get_or frame (n / 2) 0 / 16)) rest)
unfolding going_on
odd n frame rest e = rw (ne_eqb (n % 2) 0 (λ z. omega arith))

-- nothing was taken
pub nothing : (frame rest : List ℕ) → octets rest ≡ going_on 0 frame rest
unfolding going_on
nothing frame rest = behind-nothing (octets rest)

module _ (n c d : ℕ) (frame : List ℕ) (l : n / 2 < length frame) (q : digit c ≡ Some d) where
  -- a digit in the higher half of its octet
  pub higher : n % 2 ≡ 0 → (rest : List ℕ) → going_on n frame (c ∷ rest) ≡ going_on (n + 1) (set frame (n / 2) (d * 16)) rest
  higher e rest =
      let f = set frame (n / 2) (d * 16) in
      let h : (n + 1) / 2 ≡ n / 2 = omega arith in
      let k : d * 16 / 16 ≡ d = omega arith in
      rw (even n frame (c ∷ rest) e, first c rest, q, odd (n + 1) f rest (omega arith), h, take-set-le (n / 2) frame (n / 2) (d * 16) (omega arith), get_or-set_same frame (n / 2) (d * 16) 0 l, k)

  -- .. and in the lower
  pub lower : n % 2 ≡ 1 → (rest : List ℕ) → going_on n frame (c ∷ rest) ≡ going_on (n + 1) (set frame (n / 2) (get_or frame (n / 2) 0 / 16 * 16 + d)) rest
  unfolding waiting pair
  lower e rest =
      let v = get_or frame (n / 2) 0 / 16 * 16 + d in
      let h : (n + 1) / 2 ≡ n / 2 + 1 = omega arith in
      rw (odd n frame (c ∷ rest) e, q, behind-before, even (n + 1) (set frame (n / 2) v) rest (omega arith), h, add-one (n / 2), take-suc-set frame (n / 2) v l)

-- no digit
no_digit : (n c : ℕ) (frame rest : List ℕ) → digit c ≡ None → going_on n frame (c ∷ rest) ≡ None
unfolding going_on behind waiting pair
no_digit n c frame rest q = rw (first c rest, q, first-wrong rest) (go (eqb (n % 2) 0))
  where
    go : (b : Bool) → behind (take (n / 2) frame) (cond b None None) ≡ None
    go true = refl
    go false = refl

module _ (text frame : List ℕ) (n c : ℕ) where
  one_longer : length (text ++ (c ∷ [])) ≡ length text + 1
  one_longer = length-append text (c ∷ [])

  then : (rest : List ℕ) → octets ((text ++ (c ∷ [])) ++ rest) ≡ octets (text ++ (c ∷ rest))
  then rest = ap octets (append_assoc text (c ∷ []) rest)

  -- a digit, which had room
  pub longer : (r : Option Refusal) (f : List ℕ) → n / 2 < length frame → ((rest : List ℕ) → going_on n frame (c ∷ rest) ≡ going_on (n + 1) f rest) → Stands text frame n r → Stands (text ++ (c ∷ [])) f (n + 1) r
  longer None f l g so = (omega (arith, one_longer, so.0), λ rest. then rest ∙ so.1 (c ∷ rest) ∙ g rest)
  longer (Some NotHexadecimal) f l g so = (omega (arith, one_longer, so.0), λ rest. then rest ∙ so.1 (c ∷ rest))
  longer (Some TooLong) f l g so = absurd (omega (arith, so.0))

  -- another character, which had room
  pub wrong : (r : Option Refusal) → n / 2 < length frame → digit c ≡ None → Stands text frame n r → Stands (text ++ (c ∷ [])) frame (n + 1) (Some NotHexadecimal)
  wrong None l q so = (omega (arith, one_longer, so.0), λ rest. then rest ∙ so.1 (c ∷ rest) ∙ no_digit n c frame rest q)
  wrong (Some NotHexadecimal) l q so = (omega (arith, one_longer, so.0), λ rest. then rest ∙ so.1 (c ∷ rest))
  wrong (Some TooLong) l q so = absurd (omega (arith, so.0))

  -- a character without room
  pub full : (r : Option Refusal) → n ≡ length frame * 2 → Stands text frame n r → Stands (text ++ (c ∷ [])) frame n (Some TooLong)
  full None e so = (e, omega (arith, one_longer, so.0))
  full (Some NotHexadecimal) e so = (e, omega (arith, one_longer, so.0))
  full (Some TooLong) e so = (e, omega (arith, one_longer, so.1))

-- the whole text was taken: it was refused, a digit still waits, or all is well
module _ (text frame : List ℕ) (n : ℕ) (l : n ≤ length frame * 2) where
  pub refused : (r : Refusal) → Stands text frame n (Some r) → Decodes text frame (Err r)
  refused NotHexadecimal so = (ap octets (sym (append-nil text)) ∙ so.1 [], omega (arith, so.0))
  refused TooLong so = so.1

  ends : Stands text frame n None → octets text ≡ going_on n frame []
  ends so = ap octets (sym (append-nil text)) ∙ so.1 []

  pub waits : n % 2 ≡ 1 → Stands text frame n None → (octets text ≡ None) × (length text ≤ length frame * 2)
  unfolding waiting behind
  waits e so = (ends so ∙ odd n frame [] e, omega (arith, so.0))

  pub right : n % 2 ≡ 0 → Stands text frame n None → (octets text ≡ Some (take (n / 2) frame)) × (n / 2 ≤ length frame)
  unfolding behind octets
  right e so = (ends so ∙ even n frame [] e ∙ rw append-nil, omega arith)

-- a stretch, character by character
module _ (text stretch : List ℕ) (i : ℕ) where
  pub taken_none : {frame : List ℕ} {s : Digits} → SoFar text frame s → SoFar (text ++ take 0 stretch) frame s
  taken_none h = rw (append-nil text) h

  pub taken_one : {f g : List ℕ} {s t : Digits} → i < length stretch → SoFar (text ++ take i stretch) f s → ((x : List ℕ) → SoFar x f s → SoFar (x ++ (get_or stretch i 0 ∷ [])) g t) → SoFar (text ++ take (i + 1) stretch) g t
  taken_one l h k = rw (add-one i, take-suc stretch i 0 l, ← append_assoc text (take i stretch) (get_or stretch i 0 ∷ [])) (k (text ++ take i stretch) h)

  pub taken_all : {frame : List ℕ} {s : Digits} → length stretch ≤ i → SoFar (text ++ take i stretch) frame s → SoFar (text ++ stretch) frame s
  taken_all l h = rw (← take_all i stretch l) h
