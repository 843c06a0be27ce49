-- Verdicts of two readings together.
use mathlib.Core.Path.{◌≡◌, refl}
use mathlib.Core.Bool.{Bool, true, false}
use mathlib.Core.List.{List}
use Prim.Native.Nat.{ℕ, ◌+◌, ◌*◌, ◌%◌, max, min, ◌≤◌, ◌<◌}
use native.Mathlib.Omega.{arith}
use Rattle.atn.specs.Reading.{Rec}
use Rattle.atn.specs.Entries.{Reply, accept, ran_out, badly, unsupplied, after_out, after_bad}
use Rattle.verdicts.specs.declared.Verdict.{Verdict}
use Rattle.verdicts.specs.Verdicts.{verdict_of, Follows}

pub follows_same : (r : Reply) → Follows r r
follows_same r = record { follows = λ x. x }

module _ (p : ℕ) {v : Verdict} {m : ℕ} where
  pub verdict-after-bad : m ≡ max p v.reach → (u : Reply) → v ≡ verdict_of u → record { why = v.why; reach = m; marks = v.marks; count = v.count } ≡ verdict_of (after_bad p u)
  unfolding verdict_of after_bad
  verdict-after-bad e (accept false q n R) h = rw (e, h)
  verdict-after-bad e (accept true q n R) h = rw (e, h)
  verdict-after-bad e (ran_out q lacked) h = rw (e, h)
  verdict-after-bad e (badly q) h = rw (e, h)
  verdict-after-bad e (unsupplied q) h = rw (e, h)

  module _ (k : ℕ) where
    pub verdict-after-whole : m ≡ max p v.reach → v.why ≡ 0 → (u : Reply) → v ≡ verdict_of u → record { why = 7; reach = m; marks = v.marks; count = v.count } ≡ verdict_of (after_out p k u)
    unfolding verdict_of after_out
    verdict-after-whole e z (accept false q n R) h = rw (e, h)
    verdict-after-whole e z (accept true q n R) h = rw (e, h)
    verdict-after-whole e z (ran_out q l) h = absurd (let x = rw h at z in omega arith)
    verdict-after-whole e z (badly q) h = absurd (let x : ◌≡◌ {A = ℕ} 5 0 = rw h at z in omega arith)
    verdict-after-whole e z (unsupplied q) h = absurd (let x : ◌≡◌ {A = ℕ} 6 0 = rw h at z in omega arith)

    pub verdict-after-cut : m ≡ max p v.reach → v.why ≡ 7 → (u : Reply) → v ≡ verdict_of u → record { why = 7; reach = m; marks = v.marks; count = v.count } ≡ verdict_of (after_out p k u)
    unfolding verdict_of after_out
    verdict-after-cut e z (accept false q n R) h = rw (e, h)
    verdict-after-cut e z (accept true q n R) h = rw (e, h)
    verdict-after-cut e z (ran_out q l) h = absurd (let x = rw h at z in omega arith)
    verdict-after-cut e z (badly q) h = absurd (let x : ◌≡◌ {A = ℕ} 5 7 = rw h at z in omega arith)
    verdict-after-cut e z (unsupplied q) h = absurd (let x : ◌≡◌ {A = ℕ} 6 7 = rw h at z in omega arith)

    -- both ran out, and the uplink lacked fewer bits
    pub verdict-after_fewer : {why : ℕ} → m ≡ max p v.reach → v.why % 16 ≡ 4 → v.why < why → (u : Reply) → why ≡ 4 + 16 * k → v ≡ verdict_of u → record { why = v.why; reach = m; marks = 0; count = 0 } ≡ verdict_of (after_out p k u)
    unfolding verdict_of after_out
    verdict-after_fewer e z l (accept false q n R) w h = absurd (let x : ◌≡◌ {A = ℕ} 0 4 = rw h at z in omega arith)
    verdict-after_fewer e z l (accept true q n R) w h = absurd (let x : ◌≡◌ {A = ℕ} 7 4 = rw h at z in omega arith)
    verdict-after_fewer {why} e z l (ran_out q i) w h =
        let x : 4 + 16 * i < why = rw h at l in
        let y : min k i ≡ i = omega arith in
        rw (e, h, y)
    verdict-after_fewer e z l (badly q) w h = absurd (let x : ◌≡◌ {A = ℕ} 5 4 = rw h at z in omega arith)
    verdict-after_fewer e z l (unsupplied q) w h = absurd (let x : ◌≡◌ {A = ℕ} 6 4 = rw h at z in omega arith)

    -- the uplink lacked no fewer, or did not run out
    pub verdict-after-none : {why : ℕ} → m ≡ max p v.reach → (v.why ≡ 0 → ⊥) → (v.why ≡ 7 → ⊥) → (v.why % 16 ≡ 4 → why ≤ v.why) → (u : Reply) → why ≡ 4 + 16 * k → v ≡ verdict_of u → record { why = why; reach = m; marks = 0; count = 0 } ≡ verdict_of (after_out p k u)
    unfolding verdict_of after_out
    verdict-after-none e n₀ n₇ f (accept false q n R) w h = absurd (n₀ (rw h refl))
    verdict-after-none e n₀ n₇ f (accept true q n R) w h = absurd (n₇ (rw h refl))
    verdict-after-none {why} e n₀ n₇ f (ran_out q i) w h =
        let g : (4 + 16 * i) % 16 ≡ 4 → why ≤ 4 + 16 * i = rw h at f in
        let x : why ≤ 4 + 16 * i = g (omega arith) in
        let y : min k i ≡ k = omega arith in
        rw (e, h, y, w)
    verdict-after-none e n₀ n₇ f (badly q) w h = rw (e, h, w)
    verdict-after-none e n₀ n₇ f (unsupplied q) w h = rw (e, h, w)

-- the uplink's records stand in what both say
rows : {c d : Bool} {p q m n : ℕ} {R S : List Rec} → accept c p m R ≡ accept d q n S → R ≡ S
rows e = cc

unfoldable accepts : Reply → ℕ
accepts (accept c p m R) = 1
accepts (ran_out p lacked) = 0
accepts (badly p) = 0
accepts (unsupplied p) = 0

none : {X : Type 0} {r : Reply} {c : Bool} {p m : ℕ} {R : List Rec} → accepts r ≡ 0 → r ≡ accept c p m R → X
unfolding accepts
none {X} {r} z e = absurd (let y : ◌≡◌ {A = ℕ} 1 0 = rw e at z in omega arith)

pub follows_bad : (p : ℕ) (r : Reply) → Follows (after_bad p r) r
unfolding after_bad accepts
follows_bad p (accept c q m R) = record { follows = λ {R = S} x. (let e : R ≡ S = rows x.is in record { cut = c; reach = q; marks = m; is = rw e }) }
follows_bad p (ran_out q lacked) = record { follows = λ x. none refl x.is }
follows_bad p (badly q) = record { follows = λ x. none refl x.is }
follows_bad p (unsupplied q) = record { follows = λ x. none refl x.is }

pub follows_out : (p k : ℕ) (r : Reply) → Follows (after_out p k r) r
unfolding after_out accepts
follows_out p k (accept c q m R) = record { follows = λ {R = S} x. (let e : R ≡ S = rows x.is in record { cut = c; reach = q; marks = m; is = rw e }) }
follows_out p k (ran_out q lacked) = record { follows = λ x. none refl x.is }
follows_out p k (badly q) = record { follows = λ x. none refl x.is }
follows_out p k (unsupplied q) = record { follows = λ x. none refl x.is }
