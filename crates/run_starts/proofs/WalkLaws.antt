-- The walk over a run: what holds from message to message.
use mathlib.Core.Path.{◌≡◌, refl, sym, ap, ◌∙◌}
use mathlib.Core.Option.{none, some}
use mathlib.Core.List.{List, [], ◌∷◌, ◌++◌, append_assoc, append-nil}
use Prim.Native.Nat.{ℕ, suc, ◌+◌, ◌-◌, ◌≤◌, ◌<◌}
use native.Mathlib.Omega.{arith}
use lib.ListN.{length, take, drop, set, length-append, length-drop, take-append-drop, drop_of_length-le}
use lib.Seq.{drop-drop, length-take-le, take_all}
use Rattle.atn.specs.Format.{Fmt}
use Rattle.atn.specs.Entries.{read_frame}
use Rattle.message_runs.specs.declared.Kind.{Kind}
use Rattle.message_runs.specs.Runs.{format_of, clean_reach, bytes_for, cut_from, cut}
use Rattle.message_runs.proofs.CleanLaws.{clean-fits, clean_padded, clean-some}
use Rattle.message_runs.proofs.OneWay.{cut-first, cut-none, bytes-some}
use Rattle.std.specs.Prelude.{Some, None}
use Rattle.std.specs.Prelude.{Option as Maybe}
use Rattle.clean_reaches.specs.Reaches.{reach_of}
use Rattle.run_starts.specs.Walked.{front, Walked}

---------------------------------------------------------------- numbers at the front

pub front_length : (bs w : List ℕ) → length (front bs w) ≡ length w
unfolding front
front_length [] w = refl
front_length (b ∷ bs) [] = refl
front_length (b ∷ bs) (x ∷ w) = ap suc (front_length bs w)

-- one more, where there is room
front-more : (bs w : List ℕ) (a : ℕ) → set (front bs w) (length bs) a ≡ front (bs ++ a ∷ []) w
unfolding front
front-more [] [] a = refl
front-more [] (x ∷ w) a = refl
front-more (b ∷ bs) [] a = refl
front-more (b ∷ bs) (x ∷ w) a = ap (λ (l : List ℕ). b ∷ l) (front-more bs w a)

pub front-all : (bs w : List ℕ) → length bs ≤ length w → front bs w ≡ bs ++ drop (length bs) w
unfolding front
front-all [] w l = refl
front-all (b ∷ bs) [] l = absurd (omega arith)
front-all (b ∷ bs) (x ∷ w) l = ap (λ (v : List ℕ). b ∷ v) (front-all bs w (omega arith))

---------------------------------------------------------------- what is left of the run

-- the part of the run that is read
rest-is : (s : List ℕ) (at : ℕ) → take (length s - at) (drop at s) ≡ drop at s
rest-is s at = take_all (length s - at) (drop at s) (omega (arith, length-drop at s))

pub rest-length : (s : List ℕ) (at : ℕ) → length s ≤ 65536 → length (take (length s - at) (drop at s)) ≤ 65536
rest-length s at l = rw (rest-is s at, length-drop at s) (omega arith)

module _ (f : Fmt) (s : List ℕ) (at : ℕ) {r : Maybe ℕ} (e : reach_of r ≡ clean_reach (read_frame f (take (length s - at) (drop at s)))) where
  pub rest-clean : {p : ℕ} → r ≡ Some p → clean_reach (read_frame f (drop at s)) ≡ some p
  unfolding reach_of
  rest-clean q = sym (rw (rest-is s at, q) at e)

  pub rest-none : r ≡ None → clean_reach (read_frame f (drop at s)) ≡ none
  unfolding reach_of
  rest-none q = sym (rw (rest-is s at, q) at e)

---------------------------------------------------------------- from message to message

-- what is behind byte `at` of the run is still to be cut; w were the lent numbers, v are they now
pub record Going (f : Fmt) (s w v : List ℕ) (count at : ℕ) : Type 0 where
  pub before : List ℕ
  pub counted : count ≡ length before
  pub written : v ≡ front before w
  pub here : at ≤ length s
  pub few : count ≤ at
  pub cutting : cut f s ≡ record { starts = before ++ (cut_from f 0 at (drop at s)).starts; until = (cut_from f 0 at (drop at s)).until }

module _ (k : Kind) (d : ℕ) (down up : List ℕ) (s w : List ℕ) where
  abbrev format : Fmt
  format = format_of k d down up

  pub going_start : Going format s w w 0 0
  unfolding cut front
  going_start = record { before = []; counted = refl; written = refl; here = omega arith; few = omega arith; cutting = refl }

  module _ {v : List ℕ} {count at : ℕ} (g : Going format s w v count at) where
    ended : cut_from format 0 at (drop at s) ≡ record { starts = []; until = at } → Walked (cut format s) (record { count = count; until = at }) w v
    ended e =
        let z : cut format s ≡ record { starts = g.before; until = at } = g.cutting ∙ rw (e, append-nil g.before) in
        record { count = g.counted ∙ rw z; until = rw z; filled = g.written ∙ rw z }

    -- nothing is left
    pub going_all : length s ≤ at → Walked (cut format s) (record { count = count; until = at }) w v
    unfolding cut_from
    going_all l = ended (rw (drop_of_length-le s l))

    -- the next message is not clean
    pub going_none : clean_reach (read_frame format (drop at s)) ≡ none → Walked (cut format s) (record { count = count; until = at }) w v
    going_none h = ended (cut-none k d down up (drop at s) at h)

    module _ {p : ℕ} (h : clean_reach (read_frame format (drop at s)) ≡ some p) where
      pub going_fits : (0 < bytes_for p) × (at + bytes_for p ≤ length s)
      going_fits = (bytes-some p (clean-some k d down up (drop at s) h), omega (arith, clean-fits format (drop at s) h, length-drop at s, g.here))

      -- the next message is clean, and its start is written where there is room
      pub going_on : Going format s w (set v count at) (count + 1) (at + bytes_for p)
      going_on =
          let n : ℕ = bytes_for p in
          let x : List ℕ = take n (drop at s) in
          let t : List ℕ = drop (at + n) s in
          let e : x ++ t ≡ drop at s = rw (← drop-drop n at s) (take-append-drop n (drop at s)) in
          let l : length x ≡ n = length-take-le n (drop at s) (clean-fits format (drop at s) h) in
          let z : cut_from format 0 at (drop at s) ≡ record { starts = at ∷ (cut_from format 0 (at + n) t).starts; until = (cut_from format 0 (at + n) t).until } = rw (e, l) at (cut-first k d down up x t at (clean_padded format (drop at s) h)) in
          record {
            before = g.before ++ at ∷ [];
            counted = omega (arith, g.counted, length-append g.before (at ∷ []));
            written = rw (g.written, g.counted) (front-more g.before w at);
            here = going_fits.1;
            few = omega (arith, g.few, going_fits.0);
            cutting = g.cutting ∙ rw (z, append_assoc g.before (at ∷ []) (cut_from format 0 (at + n) t).starts);
          }
