-- The contract of `write_message` determines answer and lent bytes.
use mathlib.Core.Path.{◌≡◌, refl, sym, ap, ◌∙◌}
use mathlib.Core.List.{List}
use Prim.Native.Nat.{ℕ}
use native.Mathlib.Omega.{arith}
use Rattle.record_lists.specs.Message.{write_message}
use Rattle.record_lists.specs.Message as message
use Rattle.std.specs.Prelude.{Result, Ok, Err}
use Rattle.fixture_writer.specs.declared.Refusal.{Refusal}
use Rattle.fixture_writer.specs.declared.Refusal.TheVariants.{TablesUnfit, NoDirection, NoMessage, TooFewBytes}
use Rattle.fixture_writer.specs.Says.{number_of, need_of, answer_of, Says}

-- an answer is known by its number and values
unfoldable kind : message.Written → ℕ
kind (message.written n) = 0
kind (message.refused n k) = 1

refusals_same : (d e : Refusal) → number_of d ≡ number_of e → need_of d ≡ need_of e → d ≡ e
refusals_same TablesUnfit TablesUnfit h k = refl
refusals_same TablesUnfit NoDirection h k = absurd (omega arith)
refusals_same TablesUnfit NoMessage h k = absurd (omega arith)
refusals_same TablesUnfit (TooFewBytes n) h k = absurd (omega arith)
refusals_same NoDirection TablesUnfit h k = absurd (omega arith)
refusals_same NoDirection NoDirection h k = refl
refusals_same NoDirection NoMessage h k = absurd (omega arith)
refusals_same NoDirection (TooFewBytes n) h k = absurd (omega arith)
refusals_same NoMessage TablesUnfit h k = absurd (omega arith)
refusals_same NoMessage NoDirection h k = absurd (omega arith)
refusals_same NoMessage NoMessage h k = refl
refusals_same NoMessage (TooFewBytes n) h k = absurd (omega arith)
refusals_same (TooFewBytes m) TablesUnfit h k = absurd (omega arith)
refusals_same (TooFewBytes m) NoDirection h k = absurd (omega arith)
refusals_same (TooFewBytes m) NoMessage h k = absurd (omega arith)
refusals_same (TooFewBytes m) (TooFewBytes n) h k = rw k refl

answers_same : (r q : Result ℕ Refusal) → answer_of r ≡ answer_of q → r ≡ q
unfolding kind answer_of
answers_same (Ok n) (Ok m) e = cc
answers_same (Ok n) (Err d) e = absurd (let y : ◌≡◌ {A = ℕ} 0 1 = ap kind e in omega arith)
answers_same (Err d) (Ok m) e = absurd (let y : ◌≡◌ {A = ℕ} 1 0 = ap kind e in omega arith)
answers_same (Err d) (Err b) e = ap (λ (z : Refusal). Err z) (refusals_same d b (cc) (cc))

-- any two answers that the contract allows are equal, and so are the bytes
pub written_one : (k d : ℕ) (down up W s X : List ℕ) {r q : Result ℕ Refusal} {Y Z : List ℕ} → Says r Y (write_message k d down up W s X) → Says q Z (write_message k d down up W s X) → (r ≡ q) × (Y ≡ Z)
written_one k d down up W s X {r} {q} x y =
    let e = x ∙ sym y in
    (answers_same r q (ap (λ (o : message.Written × List ℕ). o.0) e), ap (λ (o : message.Written × List ℕ). o.1) e)
