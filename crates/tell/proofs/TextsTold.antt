-- The two alphabets: their characters as the contracts of the readers have them.
use mathlib.Core.Path.{◌≡◌, refl, ap, ◌∙◌}
use mathlib.Core.Bool.{Bool, true, false}
use mathlib.Core.List.{List, append-nil}
use Prim.Native.Nat.{ℕ, min, ◌+◌, ◌-◌, ◌*◌, ◌/◌, ◌%◌, ◌^◌, ◌≤◌, ◌<◌}
use native.Mathlib.Nat.{zero-mul, add-zero}
use native.Mathlib.Omega.{arith}
use Rattle.x691.specs.Bits.{bit_of, uint}
use Rattle.atn.specs.Reading.{octets, pack, coded, spaced, units, none_above}
use Rattle.records.specs.Told.{Told}
use Rattle.records.proofs.Telling.{told-within, told-then}
use Rattle.character_strings.specs.declared.Text.{Text}
use Rattle.character_strings.specs.Texts.{text_recs, channel_recs, InFrame}
use Rattle.character_strings.proofs.TextLaws.{coded-nil}
use Rattle.tell.specs.declared.characters.Run.{Run}
use Rattle.tell.specs.Characters.{units_from, counted, from, Spelt, widened}
use Rattle.tell.proofs.EightLaws.{eight-packed}

module _ (s : List ℕ) (f at len w c : ℕ) where
  -- all of them
  abbrev run : Bool → Run
  run t = record { from = f; at = at; len = len; width = w; first = c; spaced = t }

  units-all : (t : Bool) → units_from s (run t) 0 ≡ units (bit_of s) w at len
  units-all t =
      let e : at + 0 * w ≡ at = omega (arith, zero-mul w) in
      let f : len - 0 ≡ len = omega arith in
      rw (e, f)

  from-coded : from s (run false) 0 ≡ coded c (units (bit_of s) w at len)
  unfolding from counted
  from-coded = ap (coded c) (units-all false)

  from-spaced : from s (run true) 0 ≡ spaced (units (bit_of s) w at len)
  unfolding from counted
  from-spaced = ap spaced (units-all true)

-- a text's characters
abbrev pub sevens_of : Text → Run
sevens_of x = record { from = x.from; at = x.at; len = x.len; width = 7; first = 0; spaced = false }

module _ (s : List ℕ) (x : Text) (i : ℕ) where
  pub sevens-counted : counted s (sevens_of x) i ≡ units (bit_of s) 7 (x.at + i * 7) (x.len - i)
  unfolding counted
  sevens-counted = coded-nil (units (bit_of s) 7 (x.at + i * 7) (x.len - i))

  pub sevens-from : from s (sevens_of x) i ≡ units (bit_of s) 7 (x.at + i * 7) (x.len - i)
  unfolding from
  sevens-from = sevens-counted

---------------------------------------------------------------- where they stand

module _ {s : List ℕ} {x : Text} where
  pub spelt-text : InFrame 7 s x → Spelt s (sevens_of x)
  spelt-text h = record { there = h.there; fits = h.fits; narrow = omega arith; octet = omega arith; numeric = λ q. absurd (let z : ◌≡◌ {A = ℕ} 0 1 = cc in omega arith) }

  pub spelt-channel : (t : Bool) → InFrame 4 s x → Spelt s (run s x.from x.at x.len 4 48 t)
  spelt-channel t h = record { there = h.there; fits = h.fits; narrow = omega arith; octet = omega arith; numeric = λ q. (refl, refl) }

-- k of them from the one numbered i on, read as one number
module _ {s : List ℕ} {x : Text} (i : ℕ) {k v y : ℕ} where
  pub sevens-told : InFrame 7 s x → i < x.len → k ≡ min 8 (x.len - i) → v ≡ uint (bit_of s) (x.at + i * 7) (k * 7) → y ≡ widened 7 8 8 v * 2 ^ (64 - 8 * k) % 2 ^ 64 → y ≡ octets 8 (units (bit_of s) 7 (x.at + i * 7) (x.len - i))
  sevens-told h l e f g = g ∙ (rw (zero-mul, add-zero, sevens-counted) at (eight-packed s (sevens_of x) i (spelt-text h) l e f refl).all)

---------------------------------------------------------------- their records

module _ (s : List ℕ) (x : Text) where
  abbrev characters : List ℕ
  characters = units (bit_of s) 4 x.at x.len

  -- as the source has them, or as X.680 has them
  abbrev Tells : Bool → ℕ → ℕ → List ℕ → List ℕ → ℕ → ℕ → Type 0
  Tells b t e w w' n m = Told ((x.len + 7) / 8) w w' n m (pack t e x.from (from s (record { from = x.from; at = x.at; len = x.len; width = 4; first = 48; spaced = b }) 0))

module _ (t e : ℕ) (s : List ℕ) (x : Text) {w w' : List ℕ} {n m : ℕ} where
  pub told_text : x.len < 512 → Told ((x.len + 7) / 8) w w' n m (pack t e x.from (from s (sevens_of x) 0)) → Told 64 w w' n m (text_recs t e s x)
  unfolding text_recs
  told_text h p = told-within 64 (omega arith) (rw (from-coded s x.from x.at x.len 7 0, coded-nil (units (bit_of s) 7 x.at x.len)) at p)

  pub told-digits : (u : ℕ) → x.len ≤ 12 → none_above 10 (characters s x) ≡ false → Tells s x false t e w w' n m → Told 4 w w' n m (channel_recs t u e s x)
  unfolding channel_recs
  told-digits u h q p = told-within {j = (x.len + 7) / 8} 4 (omega arith) (rw (q, append-nil (pack t e x.from (coded 48 (characters s x)))) (rw (from-coded s x.from x.at x.len 4 48) at p))

  pub told_both : {w'' : List ℕ} {l : ℕ} (u : ℕ) → x.len ≤ 12 → none_above 10 (characters s x) ≡ true → Tells s x false t e w w' n m → Tells s x true u e w' w'' m l → Told 4 w w'' n l (channel_recs t u e s x)
  unfolding channel_recs
  told_both u h q p r = told-within {j = (x.len + 7) / 8 + (x.len + 7) / 8} 4 (omega arith) (rw q (told-then (rw (from-coded s x.from x.at x.len 4 48) at p) (rw (from-spaced s x.from x.at x.len 4 48) at r)))
