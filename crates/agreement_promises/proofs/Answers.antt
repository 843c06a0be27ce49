-- What is known in front of the records of an answer, from what is known behind them.
use mathlib.Core.Path.{◌≡◌, refl}
use mathlib.Core.Bool.{Bool, true, false, cond}
use mathlib.Core.List.{List, [], ◌++◌, append_assoc}
use mathlib.Core.Logic.{inl}
use Prim.Native.Nat.{ℕ, zero, suc, ◌+◌, ◌-◌, ◌*◌}
use lib.Dec.{leb}
use Rattle.x691.specs.Bits.{uint}
use Rattle.x691.specs.Encoding.{width}
use Rattle.atn.specs.Format.{out, bad, lack, quit}
use Rattle.atn.specs.Reading.{Rec, Ans, ok, past, stop, glue, tardy, late, then, fork, guard, fetch, pull, sized, letters, short, long, fragment, lengths, shut, close, kept, pass_over, softly, give_up, laxly}
use Rattle.agreement_promises.proofs.States.{State, Covered, anything, ◌∪◌, left_of, right_of}

module _ (K : ℕ → ℕ) where
  -- the records behind which B is known have A known in front
  abbrev pub Leads : List State → List State → List Rec → Type 0
  Leads B A R = (S : List Rec) → Covered K B S → Covered K A (R ++ S)

  abbrev pub Within : List State → List State → Type 0
  Within B A = Leads B A []

  -- behind an answer that goes on N is known, behind one that is given up G, and behind one that fails F
  unfoldable pub Front : List State → List State → List State → List State → Ans → Type 0
  Front N G F A (ok p R m) = Leads N A R
  Front N G F A (past k p R m) = Leads N A R
  Front N G F A (stop (out k) p R m) = Leads F A R
  Front N G F A (stop bad p R m) = Leads F A R
  Front N G F A (stop lack p R m) = Leads F A R
  Front N G F A (stop (quit o j k) p R m) = Leads G A R

  pub front-map : (N G F A N' G' F' A' : List State) → Within N' N → Within G' G → Within F' F → Within A A' → (a : Ans) → Front N G F A a → Front N' G' F' A' a
  unfolding Front
  front-map N G F A N' G' F' A' n g f w (ok p R m) h = λ S c. w (R ++ S) (h S (n S c))
  front-map N G F A N' G' F' A' n g f w (past k p R m) h = λ S c. w (R ++ S) (h S (n S c))
  front-map N G F A N' G' F' A' n g f w (stop (out k) p R m) h = λ S c. w (R ++ S) (h S (f S c))
  front-map N G F A N' G' F' A' n g f w (stop bad p R m) h = λ S c. w (R ++ S) (h S (f S c))
  front-map N G F A N' G' F' A' n g f w (stop lack p R m) h = λ S c. w (R ++ S) (h S (f S c))
  front-map N G F A N' G' F' A' n g f w (stop (quit o j k) p R m) h = λ S c. w (R ++ S) (h S (g S c))

  module _ (N G F : List State) where
    pub front-more : (A B : List State) → Within A B → (a : Ans) → Front N G F A a → Front N G F B a
    front-more A B w a h = front-map N G F A N G F B (λ S c. c) (λ S c. c) (λ S c. c) w a h

    pub front-left : (A B : List State) (a : Ans) → Front N G F A a → Front N G F (A ∪ B) a
    front-left A B a h = front-more A (A ∪ B) (λ S c. left_of K S A B c) a h

    pub front_right : (A B : List State) (a : Ans) → Front N G F B a → Front N G F (A ∪ B) a
    front_right A B a h = front-more B (A ∪ B) (λ S c. right_of K S A B c) a h

    -- nothing is claimed
    pub front_lost : (a : Ans) → Front N G F anything a
    unfolding Front
    front_lost (ok p R m) = λ S c. inl tt
    front_lost (past k p R m) = λ S c. inl tt
    front_lost (stop (out k) p R m) = λ S c. inl tt
    front_lost (stop bad p R m) = λ S c. inl tt
    front_lost (stop lack p R m) = λ S c. inl tt
    front_lost (stop (quit o j k) p R m) = λ S c. inl tt

    module _ (A : List State) where
      pub front_ok : (p m : ℕ) (R : List Rec) → Leads N A R → Front N G F A (ok p R m)
      unfolding Front
      front_ok p m R h = h

      pub front_out : (k p m : ℕ) (R : List Rec) → Leads F A R → Front N G F A (stop (out k) p R m)
      unfolding Front
      front_out k p m R h = h

      pub front-bad : (p m : ℕ) (R : List Rec) → Leads F A R → Front N G F A (stop bad p R m)
      unfolding Front
      front-bad p m R h = h

      pub front-glue : (M : List State) (R : List Rec) (m : ℕ) (a : Ans) → Leads M A R → Front N G F M a → Front N G F A (glue R m a)
      unfolding glue Front
      front-glue M R m (ok p S n) l h = λ Z c. rw (append_assoc R S Z) (l (S ++ Z) (h Z c))
      front-glue M R m (past k p S n) l h = λ Z c. rw (append_assoc R S Z) (l (S ++ Z) (h Z c))
      front-glue M R m (stop (out k) p S n) l h = λ Z c. rw (append_assoc R S Z) (l (S ++ Z) (h Z c))
      front-glue M R m (stop bad p S n) l h = λ Z c. rw (append_assoc R S Z) (l (S ++ Z) (h Z c))
      front-glue M R m (stop lack p S n) l h = λ Z c. rw (append_assoc R S Z) (l (S ++ Z) (h Z c))
      front-glue M R m (stop (quit o j k) p S n) l h = λ Z c. rw (append_assoc R S Z) (l (S ++ Z) (h Z c))

      pub front-late : (M : List State) (k : ℕ) (R : List Rec) (m : ℕ) (a : Ans) → Leads M A R → Front N G F M a → Front N G F A (late k R m a)
      unfolding late tardy Front
      front-late M k R m (ok p S n) l h = λ Z c. rw (append_assoc R S Z) (l (S ++ Z) (h Z c))
      front-late M k R m (past i p S n) l h = λ Z c. rw (append_assoc R S Z) (l (S ++ Z) (h Z c))
      front-late M k R m (stop (out i) p S n) l h = λ Z c. rw (append_assoc R S Z) (l (S ++ Z) (h Z c))
      front-late M k R m (stop bad p S n) l h = λ Z c. rw (append_assoc R S Z) (l (S ++ Z) (h Z c))
      front-late M k R m (stop lack p S n) l h = λ Z c. rw (append_assoc R S Z) (l (S ++ Z) (h Z c))
      front-late M k R m (stop (quit o j i) p S n) l h = λ Z c. rw (append_assoc R S Z) (l (S ++ Z) (h Z c))

      pub front-then : (M : List State) (a : Ans) (k : ℕ → Ans) → Front M G F A a → ((p : ℕ) → Front N G F M (k p)) → Front N G F A (then a k)
      unfolding then Front
      front-then M (ok p R m) k h g = front-glue M R m (k p) h (g p)
      front-then M (past l p R m) k h g = front-late M l R m (k p) h (g p)
      front-then M (stop (out l) p R m) k h g = h
      front-then M (stop bad p R m) k h g = h
      front-then M (stop lack p R m) k h g = h
      front-then M (stop (quit o j l) p R m) k h g = h

      -- records first, and then the rest
      pub front-behind : (M : List State) (q m : ℕ) (R : List Rec) (k : ℕ → Ans) → Leads M A R → Front N G F M (k q) → Front N G F A (then (ok q R m) k)
      unfolding then
      front-behind M q m R k l h = front-glue M R m (k q) l h

      -- marks alone
      pub front_quiet : (q m : ℕ) (k : ℕ → Ans) → Front N G F A (k q) → Front N G F A (then (ok q [] m) k)
      front_quiet q m k h = front-behind A q m [] k (λ S c. c) h

      pub front-fork : (x : ℕ) (y z : Ans) → Front N G F A y → Front N G F A z → Front N G F A (fork x y z)
      unfolding fork
      front-fork zero y z h g = h
      front-fork (suc x) y z h g = g

      -- what is passed over: its records stay or go
      pub front_soft : (H : List State) (k : ℕ) (r : Bool) (a : Ans) → Within N A → Within F H → (r ≡ true → Within N H) → Front N G H A a → Front N G F A (softly k r a)
      unfolding softly pass_over kept Front
      front_soft H k r (ok p R m) n f w h = h
      front_soft H k r (past l p R m) n f w h = h
      front_soft H k true (stop (out l) p R m) n f w h = λ S c. h S (w refl S c)
      front_soft H k false (stop (out l) p R m) n f w h = n
      front_soft H k true (stop bad p R m) n f w h = λ S c. h S (w refl S c)
      front_soft H k false (stop bad p R m) n f w h = n
      front_soft H k r (stop lack p R m) n f w h = λ S c. h S (f S c)
      front_soft H k r (stop (quit o j l) p R m) n f w h = h

      pub front_lax : (k : ℕ) (j : Bool) (a : Ans) → Within G A → Front N G F A a → Front N G F A (laxly k j a)
      unfolding laxly give_up Front
      front_lax k j (ok p R m) g h = h
      front_lax k j (past l p R m) g h = h
      front_lax k j (stop (out l) p R m) g h = g
      front_lax k j (stop bad p R m) g h = g
      front_lax k j (stop lack p R m) g h = h
      front_lax k j (stop (quit o i l) p R m) g h = h

      pub front-close : (q : ℕ) (a : Ans) → Front N N F A a → Front N G F A (close q a)
      unfolding close shut Front
      front-close q (ok p R m) h = h
      front-close q (past k p R m) h = h
      front-close q (stop (out k) p R m) h = h
      front-close q (stop bad p R m) h = h
      front-close q (stop lack p R m) h = h
      front-close q (stop (quit o false k) p R m) h = h
      front-close q (stop (quit o true k) p R m) h = h

      ---------------------------------------------------------------- reads that tell nothing

      module _ (fails : Within F A) (b : ℕ → ℕ) (e : ℕ) where
        pub front-guard : (t : Bool) (p m : ℕ) (z : Ans) → Front N G F A z → Front N G F A (guard t p m z)
        unfolding guard
        front-guard true p m z h = h
        front-guard false p m z h = front-bad p m [] fails

        pub front-fetch : (at n : ℕ) (k : ℕ → Ans) (z : Ans) → Front N G F A z → ((v : ℕ) → Front N G F A (k v)) → Front N G F A (fetch b e at n k z)
        unfolding fetch
        front-fetch at n k z x h = go (leb (at + n) e)
          where
            go : (t : Bool) → Front N G F A (cond t (k (uint b at n)) z)
            go true = h (uint b at n)
            go false = x

        pub front-pull : (at n : ℕ) (k : ℕ → Ans) → ((v : ℕ) → Front N G F A (k v)) → Front N G F A (pull b e at n k)
        unfolding pull
        front-pull at n k h = front-fetch at n k _ (front_out _ at 0 [] fails) h

        pub front-sized : (at lo hi : ℕ) (k : ℕ → ℕ → Ans) → ((v q : ℕ) → Front N G F A (k (lo + v) q)) → Front N G F A (sized b e at lo hi k)
        unfolding sized
        front-sized at lo hi k h = front-pull at (width (hi - lo)) _ λ v. front_quiet _ _ _ (h v (at + width (hi - lo)))

        pub front-letters : (w n i at : ℕ) (k : ℕ → Ans) → ((q : ℕ) → Front N G F A (k q)) → Front N G F A (letters b e w n i at k)
        unfolding letters
        front-letters w n zero at k h = h at
        front-letters w n (suc i) at k h = front-pull at w _ λ u. front_quiet _ _ _ (front-letters w n i (at + w) k h)

        pub front-lengths : (g at : ℕ) (k : ℕ → ℕ → Ans) → ((n q : ℕ) → Front N G F A (k n q)) → Front N G F A (lengths g b e at k)
        unfolding lengths short long fragment
        front-lengths zero at k h = front-bad at 0 [] fails
        front-lengths (suc g) at k h =
            front-pull at 1 _ λ x.
            front-fork x _ _ (front-pull (at + 1) 7 _ λ n. h n (at + 8))
            (front-pull (at + 1) 1 _ λ y.
            front-fork y _ _ (front-pull (at + 2) 14 _ λ n. front_quiet _ _ _ (h n (at + 16)))
            (front-pull (at + 2) 6 _ λ m. front-guard (leb 1 m) _ _ _ (front-guard (leb m 4) _ _ _ (front_quiet _ _ _ (front-lengths g (at + 8) _ λ n p. h (m * 16384 + n) p)))))
