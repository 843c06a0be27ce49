-- What `list_starts` says of a run, and of which runs it says so.
use mathlib.Core.Path.{◌≡◌, refl, sym, ap, ◌∙◌}
use mathlib.Core.Bool.{Bool, true, false, cond, ◌&&◌}
use mathlib.Core.List.{List, [], ◌∷◌, ◌++◌}
use Prim.Native.Nat.{ℕ, suc, ◌+◌, ◌≤◌, ◌<◌}
use native.Mathlib.Omega.{arith}
use lib.ListN.{length, length-append}
use lib.Dec.{leb}
use borrow.Author.Tests.{lt-ltb, le-ltb, leb-true, le-leb, lt-leb}
use Rattle.std.specs.Prelude.{Result, Ok, Err}
use Rattle.x691.specs.Range as range
use Rattle.atn.specs.Format.{Fmt}
use Rattle.atn.specs.Entries.{frame_fits, table_fits, direction_fits}
use Rattle.message_runs.specs.declared.Kind.{Kind}
use Rattle.message_runs.specs.declared.Starts.{Starts}
use Rattle.message_runs.specs.declared.Starts.TheVariants.{All}
use Rattle.message_runs.specs.declared.Refusal.{Refusal}
use Rattle.message_runs.specs.declared.Refusal.TheVariants.{TooLong, UnfitTables, UnknownDirection, TooFewNumbers}
use Rattle.message_runs.specs.Runs.{format_of, Cutting, cut, told, listed, list_starts}
use Rattle.message_runs.specs.Pieces.{Padded, run, places, filled, Way, said, Repadded, Pairwise}
use Rattle.message_runs.proofs.OneWay.{cut-is, way, all-clean, same-cut, same_size}

-- an answer with numbers, after the lent ones
abbrev Outcome : Type 0
Outcome = Result Starts Refusal × List ℕ

-- an answer is no refusal, and has one value
no_refusal : {r : Starts} {e : Refusal} → Ok r ≡ Err e → ⊥
no_refusal h = let y : ◌≡◌ {A = ℕ} 0 1 = cc in omega arith

starts_same : {a b : Starts} → ◌≡◌ {A = Result Starts Refusal} (Ok a) (Ok b) → a ≡ b
starts_same h = cc

places-length : (b : ℕ) (xs : List (List ℕ)) → length (places b xs) ≡ length xs
unfolding places
places-length b [] = refl
places-length b (x ∷ xs) = ap suc (places-length (b + length x) xs)

module _ (xs : List (List ℕ)) where
  found : Cutting
  found = record { starts = places 0 xs; until = length (run xs) }

  told-said : (r s : List ℕ) → s ≡ run xs ++ r → told found s ≡ said xs r
  unfolding told said found
  told-said [] s e = rw (le-ltb (length (run xs)) (length s) (omega (arith, ap length e, length-append (run xs) [])), places-length 0 xs)
  told-said (y ∷ r) s e = rw (lt-ltb (length (run xs)) (length s) (omega (arith, ap length e, length-append (run xs) (y ∷ r))), places-length 0 xs)

  listed-fits : (r s w : List ℕ) → s ≡ run xs ++ r → length xs ≤ length w → listed found s w ≡ (Ok (said xs r), filled xs w)
  unfolding listed found
  listed-fits r s w e l = rw (places-length 0 xs, le-leb (length xs) (length w) l, told-said r s e)

  listed_full : (r s w : List ℕ) → length w < length xs → listed found s w ≡ (Err (TooFewNumbers (length xs)), w)
  unfolding listed found
  listed_full r s w l = rw (places-length 0 xs, lt-leb (length xs) (length w) l)

module _ (k : Kind) (d : ℕ) (down up : List ℕ) where
  abbrev format : Fmt
  format = format_of k d down up

  module _ (tables : (table_fits down && table_fits up) ≡ true) (direction : direction_fits d ≡ true) where
    decided : (s w : List ℕ) → frame_fits s ≡ true → list_starts k d down up s w ≡ listed (cut format s) s w
    unfolding list_starts
    decided s w h = rw (h, tables, direction)

    -- however a run is cut, that is what is listed, if there is room for it
    pub way_listed : {s : List ℕ} (v : Way format s) (w : List ℕ) → frame_fits s ≡ true → length v.pieces ≤ length w → list_starts k d down up s w ≡ (Ok (said v.pieces v.rest), filled v.pieces w)
    unfolding found
    way_listed {s} v w h l = decided s w h ∙ rw (cut-is k d down up v) (listed-fits v.pieces v.rest s w v.whole l)

    pub no_room_lem : {s : List ℕ} (v : Way format s) (w : List ℕ) → frame_fits s ≡ true → length w < length v.pieces → list_starts k d down up s w ≡ (Err (TooFewNumbers (length v.pieces)), w)
    unfolding found
    no_room_lem {s} v w h l = decided s w h ∙ rw (cut-is k d down up v) (listed_full v.pieces v.rest s w l)

    -- a run of clean messages: their starts, and nothing is left
    pub run-listed : (xs : List (List ℕ)) (w : List ℕ) → frame_fits (run xs) ≡ true → range.All (Padded format) xs → length xs ≤ length w → list_starts k d down up (run xs) w ≡ (Ok (All (length xs)), filled xs w)
    unfolding said
    run-listed xs w h ps l = way_listed (all-clean k d down up xs ps) w h l

    -- "an empty input lists none"
    pub empty-listed : (w : List ℕ) → list_starts k d down up [] w ≡ (Ok (All 0), w)
    unfolding run places frame_fits
    empty-listed w = run-listed [] w refl tt (omega arith)

    -- the padding of clean messages is not looked at, whatever follows them
    pub same-listed : {xs ys : List (List ℕ)} → Pairwise (Repadded format) xs ys → (r w : List ℕ) → frame_fits (run xs ++ r) ≡ true → list_starts k d down up (run xs ++ r) w ≡ list_starts k d down up (run ys ++ r) w
    unfolding frame_fits listed told
    same-listed {xs} {ys} ms r w h =
        let n : length (run xs ++ r) ≡ length (run ys ++ r) = omega (arith, length-append (run xs) r, length-append (run ys) r, same_size k d down up ms) in
        decided (run xs ++ r) w h ∙ rw (same-cut k d down up ms r, n) (sym (decided (run ys ++ r) w (rw n at h)))

  ---------------------------------------------------------------- back

  -- what is no refusal passed the test
  module _ {r : Starts} {w' : List ℕ} where
    passed : (t : Bool) (x : Outcome) (e : Refusal) (w : List ℕ) → cond t x (Err e, w) ≡ (Ok r, w') → (t ≡ true) × (x ≡ (Ok r, w'))
    passed true x e w h = (refl, h)
    passed false x e w h = absurd (no_refusal (sym (ap (λ (o : Outcome). o.0) h)))

    -- an answer with starts is that of a way to cut the run
    pub listed_way : (s w : List ℕ) → list_starts k d down up s w ≡ (Ok r, w') → (v : Way format s) × (r ≡ said v.pieces v.rest) × (w' ≡ filled v.pieces w)
    unfolding list_starts listed found
    listed_way s w h =
        let v = way k d down up s in
        let z = (passed (direction_fits d) _ UnknownDirection w (passed (table_fits down && table_fits up) _ UnfitTables w (passed (frame_fits s) _ TooLong w h).1).1).1 in
        let y = rw (cut-is k d down up v) at z in
        let l = (passed (leb (length (places 0 v.pieces)) (length w)) _ (TooFewNumbers _) w y).0 in
        let e : ◌≡◌ {A = Outcome} (Ok (said v.pieces v.rest), filled v.pieces w) (Ok r, w') = sym (listed-fits v.pieces v.rest s w v.whole (omega (arith, places-length 0 v.pieces, leb-true (length (places 0 v.pieces)) (length w) l))) ∙ y in
        (v, sym (starts_same (ap (λ (o : Outcome). o.0) e)), sym (ap (λ (o : Outcome). o.1) e))

  -- a refusal leaves the lent numbers
  stays : (t : Bool) (x : Outcome) (a : Result Starts Refusal) (w : List ℕ) {r : Result Starts Refusal} {w' : List ℕ} → (x ≡ (r, w') → w' ≡ w) → cond t x (a, w) ≡ (r, w') → w' ≡ w
  stays true x a w g h = g h
  stays false x a w g h = sym (ap (λ (o : Outcome). o.1) h)

  pub refused-left : (s w : List ℕ) {e : Refusal} {w' : List ℕ} → list_starts k d down up s w ≡ (Err e, w') → w' ≡ w
  unfolding list_starts listed
  refused-left s w = stays (frame_fits s) _ _ w (stays (table_fits down && table_fits up) _ _ w (stays (direction_fits d) _ _ w (stays (leb (length (cut format s).starts) (length w)) _ _ w λ h. absurd (no_refusal (ap (λ (o : Outcome). o.0) h)))))
