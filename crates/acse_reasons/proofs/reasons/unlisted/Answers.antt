use Rattle.std.proofs.Common.{◌≡◌, ℕ, zero, suc, ◌<◌, Bool, true, false, ◌&&◌, leb, [], ◌∷◌, refl, arith, ne_eqb}
use Rattle.x691.specs.Range.{member}
use Rattle.atn.specs.Reading.{unless, mark}
use Rattle.acse_reasons.proofs.reasons.unlisted.Goals as goal

low : (v : ℕ) → v < 2 → 0 ≡ unless (leb v 30 && member v (0 ∷ 1 ∷ 30 ∷ [])) 1
unfolding unless member
low zero h = refl
low (suc zero) h = refl
low (suc (suc v)) h = absurd (omega arith)

other : (b : Bool) → 1 ≡ unless (b && false) 1
unfolding unless mark
other true = refl
other false = refl

pub returns-then-v-lt2 : goal.returns-then-v-lt2
returns-then-v-lt2 c = low _ c.if-v-lt2.true

pub returns-then-v-eq30 : goal.returns-then-v-eq30
unfolding unless member
returns-then-v-eq30 c = rw c.if-v-eq30.true

pub returns : goal.returns
unfolding unless member
returns c =
    let v = c.args.v in
    rw (ne_eqb v 0 (λ y. omega arith), ne_eqb v 1 (λ y. omega arith), ne_eqb v 30 c.if-v-eq30.false) (other (leb v 30))
