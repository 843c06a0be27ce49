-- No clean message begins another: for one entry other than `parse_apdu`, one direction and one table, of two clean messages with different bits neither begins the other.
use mathlib.Core.Path.{◌≡◌, refl, sym, ap, ◌∙◌}
use mathlib.Core.Bool.{false}
use mathlib.Core.List.{List, [], ◌∷◌}
use Prim.Native.Nat.{ℕ, suc, ◌*◌, ◌≤◌}
use native.Mathlib.Omega.{arith}
use lib.ListN.{length}
use Rattle.x691.specs.Bits.{bit_of, Spells}
use Rattle.x691.specs.Types.{Value}
use Rattle.x691.specs.Encoding.{encode}
use Rattle.x691.specs.Range.{InRange}
use Rattle.x691.proofs.Unique.{none-begins}
use Rattle.atn.specs.Format.{Fmt, type_of}
use Rattle.atn.specs.Messages.{acse}
use Rattle.atn.specs.Reading.{Rec}
use Rattle.atn.specs.Entries.{accept, read_frame, Test, Outcome, enter, pdus, pdus_tests, cm_of, cm_tests, parse_pdus, parse_cm, parse_acse_apdu}
use Rattle.atn.specs.Demands.{Agree}
use Rattle.atn.proofs.Demands.{clean-sound}
use Rattle.message_runs.specs.Runs.{clean_reach}
use Rattle.message_runs.specs.Begins.{CleanBits, Begins}
use Rattle.message_runs.proofs.CleanLaws.{clean_again}

-- two lists of bits, as many, at one place
spells_same : (b : ℕ → ℕ) (at : ℕ) (m n : List ℕ) → length m ≡ length n → Spells b at m → Spells b at n → m ≡ n
unfolding Spells
spells_same b at [] [] l x y = refl
spells_same b at [] (c ∷ n) l x y = absurd (omega arith)
spells_same b at (a ∷ m) [] l x y = absurd (omega arith)
spells_same b at (a ∷ m) (c ∷ n) l x y =
    let z = spells_same b (suc at) m n (omega arith) x.1 y.1 in
    let u : a ≡ c = sym x.0 ∙ y.0 in
    cc

-- each entry other than `parse_apdu` is `enter` with its tests and one format
module _ (ts : List Test) (f : Fmt) where
  abbrev entry : List ℕ → List ℕ → Outcome
  entry s w = enter ts (λ t. read_frame f t) s w

  -- the bits of a clean message are the encoding of a value in range
  record Encoded (m : List ℕ) : Type 0 where
    val : Value (type_of f)
    in_range : InRange (type_of f) val
    bits : encode (type_of f) val ≡ m

  encoded : {m : List ℕ} → CleanBits entry m → Encoded m
  encoded {m} c =
      let x = (clean-sound ts f c.frame c.words c.clean).1 in
      record { val = x.val; in_range = x.in_range; bits = spells_same (bit_of c.frame) 0 (encode (type_of f) x.val) m (sym x.long) x.spelt c.spelt }

  pub begins_itself : {m n : List ℕ} → CleanBits entry m → CleanBits entry n → Begins m n → m ≡ n
  begins_itself c d b =
      let x = encoded c in
      let y = encoded d in
      let z = none-begins (type_of f) x.val y.val b.more x.in_range y.in_range (rw (x.bits, y.bits) b.is) in
      sym x.bits ∙ ap (encode (type_of f)) z.0 ∙ y.bits

  pub neither_begins : {m n : List ℕ} → CleanBits entry m → CleanBits entry n → (m ≡ n → ⊥) → (Begins m n → ⊥) × (Begins n m → ⊥)
  neither_begins c d apart = (λ b. apart (begins_itself c d b), λ b. apart (sym (begins_itself d c b)))

-- by name
pub pdus_neither : (d : ℕ) (down up : List ℕ) {m n : List ℕ} → CleanBits (λ s w. parse_pdus s d down up w) m → CleanBits (λ s w. parse_pdus s d down up w) n → (m ≡ n → ⊥) → (Begins m n → ⊥) × (Begins n m → ⊥)
unfolding parse_pdus
pdus_neither d down up = neither_begins (pdus_tests d down up) (pdus d down up)

pub cm_neither : (d : ℕ) {m n : List ℕ} → CleanBits (λ s w. parse_cm s d w) m → CleanBits (λ s w. parse_cm s d w) n → (m ≡ n → ⊥) → (Begins m n → ⊥) × (Begins n m → ⊥)
unfolding parse_cm
cm_neither d = neither_begins (cm_tests d) (cm_of d)

pub acse_neither : {m n : List ℕ} → CleanBits (λ s w. parse_acse_apdu s w) m → CleanBits (λ s w. parse_acse_apdu s w) n → (m ≡ n → ⊥) → (Begins m n → ⊥) × (Begins n m → ⊥)
unfolding parse_acse_apdu
acse_neither = neither_begins [] acse

-- as frames: a frame that begins with the bits of a clean message is read alike, with the same reach and records
pub read_alike : (f : Fmt) (s t : List ℕ) {p q : ℕ} {R S : List Rec} → read_frame f s ≡ accept false p 0 R → read_frame f t ≡ accept false q 0 S → Agree (bit_of s) (bit_of t) p → p ≤ length t * 8 → (p ≡ q) × (R ≡ S)
unfolding clean_reach
read_alike f s t g h a l =
    let z = clean_again f s (rw g refl) t a l in
    (cc, cc)
