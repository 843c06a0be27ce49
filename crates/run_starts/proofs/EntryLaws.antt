-- The tests before a run is read, and what is answered of what was found.
use mathlib.Core.Path.{◌≡◌, refl, ◌∙◌}
use mathlib.Core.Bool.{true, false, ◌&&◌}
use mathlib.Core.List.{List, [], ◌∷◌, ◌++◌}
use Prim.Native.Nat.{ℕ, ◌≤◌, ◌<◌}
use lib.ListN.{length, drop}
use borrow.Author.Tests.{le-leb, lt-leb, lt-ltb, le-ltb}
use Rattle.std.specs.Prelude.{Result, Ok, Err}
use Rattle.atn.specs.Entries.{frame_fits, table_fits, direction_fits}
use Rattle.message_runs.specs.declared.Kind.{Kind}
use Rattle.message_runs.specs.declared.Starts.{Starts}
use Rattle.message_runs.specs.declared.Starts.TheVariants.{All, UpTo}
use Rattle.message_runs.specs.declared.Refusal.{Refusal}
use Rattle.message_runs.specs.declared.Refusal.TheVariants.{TooLong, UnfitTables, UnknownDirection, TooFewNumbers}
use Rattle.message_runs.specs.Runs.{format_of, Cutting, cut, told, listed, list_starts}
use Rattle.run_starts.specs.declared.Found.{Found}
use Rattle.run_starts.specs.Walked.{front, Walked}
use Rattle.run_starts.proofs.WalkLaws.{front-all}

abbrev Outcome : Type 0
Outcome = Result Starts Refusal × List ℕ

---------------------------------------------------------------- what was found

-- lent no numbers, a walk writes none
front-none : (bs : List ℕ) → front bs [] ≡ []
unfolding front
front-none [] = refl
front-none (b ∷ bs) = refl

module _ {c : Cutting} {r : Found} {x : List ℕ} (first : Walked c r [] x) (s w : List ℕ) where
  same : x ++ w ≡ w
  same = rw (first.filled, front-none c.starts)

  pub full : length (x ++ w) < r.count → ◌≡◌ {A = Outcome} (Err (TooFewNumbers r.count), x ++ w) (listed c s w)
  unfolding listed
  full l = let h : length w < r.count = rw same at l in rw (same, first.count, lt-leb (length c.starts) (length w) (rw first.count at h))

  module _ {t : Found} {w' : List ℕ} (second : Walked c t (x ++ w) w') (l : r.count ≤ length (x ++ w)) where
    fills : (length c.starts ≤ length w) × (w' ≡ c.starts ++ drop (length c.starts) w)
    fills =
        let h : length c.starts ≤ length w = rw (same, first.count) at l in
        (h, second.filled ∙ rw same (front-all c.starts w h))

    pub up_to : r.until < length s → ◌≡◌ {A = Outcome} (Ok (UpTo r.count r.until), w') (listed c s w)
    unfolding listed told
    up_to u = rw (le-leb (length c.starts) (length w) fills.0, lt-ltb c.until (length s) (rw first.until at u), first.count, first.until, fills.1)

    pub all : length s ≤ r.until → ◌≡◌ {A = Outcome} (Ok (All r.count), w') (listed c s w)
    unfolding listed told
    all u = rw (le-leb (length c.starts) (length w) fills.0, le-ltb c.until (length s) (rw first.until at u), first.count, fills.1)

---------------------------------------------------------------- the tests

module _ (k : Kind) (d : ℕ) (down up s w : List ℕ) where
  pub too_long : 65536 < length s → ◌≡◌ {A = Outcome} (Err TooLong, w) (list_starts k d down up s w)
  unfolding list_starts frame_fits
  too_long h = rw (lt-leb (length s) 65536 h)

  module _ (h : length s ≤ 65536) where
    pub bad-tables : (table_fits down && table_fits up) ≡ false → ◌≡◌ {A = Outcome} (Err UnfitTables, w) (list_starts k d down up s w)
    unfolding list_starts frame_fits
    bad-tables t = rw (le-leb (length s) 65536 h, t)

    module _ (t : (table_fits down && table_fits up) ≡ true) where
      pub bad-direction : 1 < d → ◌≡◌ {A = Outcome} (Err UnknownDirection, w) (list_starts k d down up s w)
      unfolding list_starts frame_fits direction_fits
      bad-direction l = rw (le-leb (length s) 65536 h, t, lt-leb d 1 l)

      pub decided : {o : Outcome} → d ≤ 1 → o ≡ listed (cut (format_of k d down up) s) s w → o ≡ list_starts k d down up s w
      unfolding list_starts frame_fits direction_fits
      decided l e = e ∙ rw (le-leb (length s) 65536 h, t, le-leb d 1 l)
