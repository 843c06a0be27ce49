-- What holds of the records of every accepted frame holds of the words that an entry leaves.
use mathlib.Core.Path.{◌≡◌, refl}
use mathlib.Core.Bool.{Bool, true, false, cond}
use mathlib.Core.List.{List, [], ◌∷◌, ◌++◌}
use Prim.Native.Nat.{ℕ, ◌*◌}
use lib.Dec.{leb}
use lib.ListN.{length, take, drop}
use lib.Seq.{take-append_seam}
use Rattle.atn.specs.Reading.{Rec}
use Rattle.atn.specs.Entries.{Reply, accept, ran_out, badly, unsupplied, after_out, after_bad, or_else, accepted, refused, flat, need, settle, Test, test, decide, Outcome}
use Rattle.fixture_promises.proofs.Words.{flat-length}
use Rattle.grammar_promises.specs.Accepted.{Wrote}

-- the records of an accepted frame
unfoldable pub Good : (List Rec → Type 0) → Reply → Type 0
Good P (accept c p m R) = P R
Good P (ran_out p k) = Unit {0}
Good P (badly p) = Unit {0}
Good P (unsupplied p) = Unit {0}

pub good-map : (P Q : List Rec → Type 0) → ((R : List Rec) → P R → Q R) → (r : Reply) → Good P r → Good Q r
unfolding Good
good-map P Q f (accept c p m R) h = f R h
good-map P Q f (ran_out p k) h = tt
good-map P Q f (badly p) h = tt
good-map P Q f (unsupplied p) h = tt

-- the first reading, or the second where that is refused
pub good_else : (P : List Rec → Type 0) (d u : Reply) → Good P d → Good P u → Good P (or_else d u)
unfolding Good or_else after_bad after_out
good_else P (accept c p m R) u h g = h
good_else P (unsupplied p) u h g = tt
good_else P (badly p) (accept c q m R) h g = g
good_else P (badly p) (ran_out q l) h g = tt
good_else P (badly p) (badly q) h g = tt
good_else P (badly p) (unsupplied q) h g = tt
good_else P (ran_out p k) (accept c q m R) h g = g
good_else P (ran_out p k) (ran_out q l) h g = tt
good_else P (ran_out p k) (badly q) h g = tt
good_else P (ran_out p k) (unsupplied q) h g = tt

---------------------------------------------------------------- the words

front : (R : List Rec) (w : List ℕ) → take (length R * 5) (flat R ++ w) ≡ flat R
front R w = rw (← flat-length R) (take-append_seam (flat R) w)

-- what was tested holds where the reading decides
abbrev pub Passed : List Test → Type 0
Passed [] = Unit {0}
Passed (test t n ∷ ts) = (t ≡ true) × Passed ts

module _ (P : List Rec → Type 0) (Q : List ℕ → Type 0) (words : (R : List Rec) → P R → Q (flat R)) where
  abbrev Left : Outcome → Type 0
  Left o = Wrote Q o.0 o.1

  settle-good : (r : Reply) (w : List ℕ) → Good P r → Left (settle r w)
  unfolding Good settle
  settle-good (accept c p m R) w h = go (leb (need R) (length w))
    where
      go : (t : Bool) → Left (cond t (accepted c p m (length R), flat R ++ drop (need R) w) (refused 7 p (need R) 0, w))
      go true = rw (front R (drop (need R) w)) (words R h)
      go false = tt
  settle-good (ran_out p k) w h = tt
  settle-good (badly p) w h = tt
  settle-good (unsupplied p) w h = tt

  pub decide-good : (ts : List Test) (r : Reply) (w : List ℕ) → (Passed ts → Good P r) → Left (decide ts r w)
  unfolding decide
  decide-good [] r w f = settle-good r w (f tt)
  decide-good (test true n ∷ ts) r w f = decide-good ts r w (λ p. f (refl, p))
  decide-good (test false n ∷ ts) r w f = tt
