-- One lemma over the contracts' shape: what an entry's outcome owes, its answers promise.
use mathlib.Core.Path.{◌≡◌, refl, sym, ap, ◌∙◌}
use mathlib.Core.Bool.{Bool, true, false}
use mathlib.Core.List.{List}
use Prim.Native.Nat.{ℕ, ◌≤◌}
use native.Mathlib.Omega.{arith}
use Rattle.atn.specs.Reading.{Rec}
use Rattle.atn.specs.Places.{Rising}
use Rattle.atn.specs.Entries.{Reply, accept, Outcome, accepted, refused, need, Test}
use Rattle.atn.specs.Entries as entries
use Rattle.atn.specs.Demands.{CutOrOut, cut, ended, Owes}
use Rattle.atn.proofs.Outcomes.{Settled}
use Rattle.answers.specs.declared.Answer.{Answer}
use Rattle.answers.specs.declared.Answer.TheVariants.{Accepted, Refused}
use Rattle.answers.specs.Says.{answer_of, Says}
use Rattle.demands.specs.Promises.{Ended, Promises}

-- an answer is known by its number and values
unfoldable kind : entries.Answer → ℕ
kind (accepted c p m k) = 0
kind (refused n p k l) = 1

pub answers_same : (r q : Answer) → answer_of r ≡ answer_of q → r ≡ q
unfolding kind
answers_same (Accepted c p m k) (Accepted d o n l) e = cc
answers_same (Accepted c p m k) (Refused n o l i) e = absurd (let y : ◌≡◌ {A = ℕ} 0 1 = ap kind e in omega arith)
answers_same (Refused n p k i) (Accepted d o m l) e = absurd (let y : ◌≡◌ {A = ℕ} 1 0 = ap kind e in omega arith)
answers_same (Refused n p k i) (Refused m o l j) e = cc

pub says_is : {r q : Answer} {w v : List ℕ} {o : Outcome} → Says r w o → o ≡ (answer_of q, v) → (r ≡ q) × (w ≡ v)
says_is {r} {q} x e = let y = x.is ∙ e in (answers_same r q (ap (λ (o : Outcome). o.0) y), ap (λ (o : Outcome). o.1) y)

ends : {r : Answer} {w : List ℕ} {o : Outcome} → Says r w o → CutOrOut o → Ended r
ends {r} x (cut p m k w) = let e : r ≡ Accepted true p m k = (says_is x refl).0 in rw e refl
ends {r} x (ended p l w) = let e : r ≡ Refused 4 p 0 l = (says_is x refl).0 in rw e refl

-- the number of a refusal is one of document 01's, and only 7 needs words
pub record Numbered (n k : ℕ) : Type 0 where
  pub least : 1 ≤ n
  pub most : n ≤ 7
  pub wordless : (n ≡ 7 → ⊥) → k ≡ 0

-- what is accepted is told as it was read, and its places rise up to the reach; what is refused has its number
pub record Climbs (F : List ℕ → Reply) (P : List ℕ → List ℕ → Outcome) : Type 0 where
  pub told : (s w : List ℕ) {c : Bool} {p m k : ℕ} {w' : List ℕ} → P s w ≡ (accepted c p m k, w') → Settled (F s) w c p m k w'
  pub numbers : (s w : List ℕ) {n p k l : ℕ} {w' : List ℕ} → P s w ≡ (refused n p k l, w') → Numbered n k
  pub rises : (s : List ℕ) {c : Bool} {p m : ℕ} {R : List Rec} → F s ≡ accept c p m R → Rising 0 R p

pub promises : {ts : List Test} (F : List ℕ → Reply) (P : List ℕ → List ℕ → Outcome) → Owes ts F P → Climbs F P → Promises ts F P
promises F P o u =
    record {
      one = λ s w {r} {q} x y. says_is {r = r} {q = q} x (sym y.is);
      numbered = λ s w x.
          let h = u.numbers s w (sym x.is) in
          (h.least, h.most);
      need_none = λ s w x n. (u.numbers s w (sym x.is)).wordless n;
      left = λ s w x. o.left s w (sym x.is);
      whole = λ s t w v {p} {m} {k} {r} x a y.
          let h = o.whole s t w v (sym x.is) a in
          let e = says_is {r = r} {q = Accepted false p m k} y h.3 in
          (e.0, (h.0, h.1, h.2, e.1));
      badly_formed = λ s t w v {p} {k} {l} {r} x a y. says_is {r = r} {q = Refused 5 p k l} y (o.badly_formed s t w v (sym x.is) a);
      cut_short = λ s w v j x l h y. ends y (o.cut_short s w v j (sym x.is) l h);
      no_room = λ s w x.
          let h = o.no_room s w (sym x.is) in
          let n = h.2 in
          (h.0, h.1, n.cut, n.marks, n.recs, n.replied, n.needs, n.full);
      no_room⁻ = λ s w c p m R {r} l h e n x. says_is {r = r} {q = Refused 7 p (need R) 0} x (o.no_room⁻ s w c p m R l h e n);
      within = λ s w x. o.within s w (sym x.is);
      within⁻ = λ s w x. o.within⁻ s w (sym x.is);
      lacked_none = λ s w x n. o.lacked_none s w (sym x.is) n;
      lacked_some = λ s w x. o.lacked_some s w (sym x.is);
      longer = λ s t w v x a y. o.longer s t w v (sym x.is) a (sym y.is);
      rising = λ s w x.
          let y = u.told s w (sym x.is) in
          (y.recs, y.counted, y.words, u.rises s y.replied);
    }
