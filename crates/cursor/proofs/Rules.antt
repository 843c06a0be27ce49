-- From what a branch of the code knows to what was read.
use Rattle.std.proofs.Common.{◌≡◌, ℕ, ◌+◌, ◌-◌, ◌*◌, ◌%◌, ◌^◌, ◌<◌, ◌≤◌, List, length, refl, ap, ◌∙◌, arith}
use Rattle.x691.specs.Bits.{bit_of, uint}
use Rattle.atn.specs.Format.{out}
use Rattle.cursor.specs.declared.place.Cursor.{Cursor}
use Rattle.cursor.specs.declared.place.Got.{Got}
use Rattle.cursor.specs.Place.{number, put, Pulled, Pulls, stuck, short, got, Opened, shut_already, ran_short, opened, Opens}

module _ (s : List ℕ) (c : Cursor) (n : ℕ) where
  pub pulls_stuck : (c.why ≡ 0 → ⊥) → Pulls s c n (record { v = 0; c = c })
  pulls_stuck h = record { gave = λ i. stuck h refl }

  -- what is left of the window, as the machine subtracts: it wraps only where the cursor is behind the end
  module _ {left : ℕ} (goes : c.why ≡ 0) (fits : left < 2 ^ 64) (wraps : (left + c.at) % 2 ^ 64 ≡ c.end) where
    pub pulls_got : {v p : ℕ} → n ≤ left → (c.at + n ≤ length s * 8 → v ≡ uint (bit_of s) c.at n) → p ≡ (c.at + n) % 2 ^ 64
        → Pulls s c n (record { v = v; c = put c p 0 c.marks })
    pulls_got l v q = record { gave = λ i. got goes (omega (arith, i.0)) (v (omega (arith, i.0, i.1))) (ap (λ (x : ℕ). put c x 0 c.marks) (omega (arith, i.0))) }

    pub pulls_short : {w : ℕ} → left < n → w ≡ number (out (n - left)) → Pulls s c n (record { v = 0; c = put c c.at w c.marks })
    pulls_short l q = record { gave = λ i. short goes (omega (arith, i.0)) (ap (λ (x : ℕ). put c c.at x c.marks) (q ∙ ap (λ (k : ℕ). number (out k)) (omega (arith, i.0)))) }

-- presence bits, from the bits that were asked for
module _ (s : List ℕ) (c : Cursor) (n : ℕ) {g : Got ℕ} (p : Pulls s c n g) where
  pub opens_stuck : (c.why ≡ 0 → ⊥) → Opens s c n g
  opens_stuck h = record { gave = λ i. go (p.gave i) }
    where
      go : Pulled s c n g → Opened s c n g
      go (stuck y q) = shut_already y q
      go (short z l q) = absurd (h z)
      go (got z l v q) = absurd (h z)

  pub opens_got : c.why ≡ 0 → g.c.why ≡ 0 → Opens s c n g
  opens_got h k = record { gave = λ i. go (p.gave i) }
    where
      go : Pulled s c n g → Opened s c n g
      go (stuck y q) = absurd (y h)
      go (short z l q) = absurd (let y : number (out (c.at + n - c.end)) ≡ 0 = rw q at k in omega arith)
      go (got z l v q) = opened z l v q

  pub opens-short : c.why ≡ 0 → (g.c.why ≡ 0 → ⊥) → Opens s c n (record { v = 0; c = put c c.end (number (out 1)) c.marks })
  opens-short h k = record { gave = λ i. go (p.gave i) }
    where
      go : Pulled s c n g → Opened s c n (record { v = 0; c = put c c.end (number (out 1)) c.marks })
      go (stuck y q) = absurd (y h)
      go (short z l q) = ran_short z l refl
      go (got z l v q) = absurd (k (rw q refl))
