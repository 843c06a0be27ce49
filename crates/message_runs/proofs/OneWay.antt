-- A run of clean messages of one kind, direction and tables can be cut in only one way, and `cut` is that way.
use mathlib.Core.Path.{◌≡◌, refl, sym, ap, ◌∙◌}
use mathlib.Core.Option.{Option, none, some}
use mathlib.Core.List.{List, [], ◌∷◌, ◌++◌, append_assoc, append-nil}
use Prim.Native.Nat.{ℕ, zero, suc, ◌+◌, ◌-◌, ◌≤◌, ◌<◌}
use native.Mathlib.Omega.{arith}
use lib.ListN.{length, take, drop, length-append, length-drop, take-append-drop}
use Rattle.x691.specs.Range.{All}
use Rattle.atn.specs.Format.{Fmt}
use Rattle.atn.specs.Entries.{read_frame}
use Rattle.message_runs.specs.declared.Kind.{Kind}
use Rattle.message_runs.specs.Runs.{format_of, clean_reach, bytes_for, Cutting, message, cut_from, cut}
use Rattle.message_runs.specs.Pieces.{Padded, run, places, Way, Repadded, Pairwise, none_left, and}
use Rattle.message_runs.proofs.CleanLaws.{clean-inside, clean_again, clean-before, clean_padded, clean-some, clean-empty}

-- the bytes of the message before are passed over
passed : (f : Fmt) (x t : List ℕ) (b : ℕ) → cut_from f (length x) b (x ++ t) ≡ cut_from f 0 (b + length x) t
unfolding cut_from
passed f [] t b = ap (λ (c : ℕ). cut_from f 0 c t) (omega arith)
passed f (y ∷ x) t b = passed f x t (suc b) ∙ ap (λ (c : ℕ). cut_from f 0 c t) (omega arith)

-- two lists that are equal, and so long at the front
fronts : (x y s t : List ℕ) → length x ≡ length y → x ++ s ≡ y ++ t → (x ≡ y) × (s ≡ t)
fronts [] [] s t l h = (refl, h)
fronts [] (b ∷ y) s t l h = absurd (omega arith)
fronts (a ∷ x) [] s t l h = absurd (omega arith)
fronts (a ∷ x) (b ∷ y) s t l h =
    let z = fronts x y s t (omega arith) (cc) in
    let u = z.0 in
    (cc, z.1)

-- a message has a byte
pub bytes-some : (p : ℕ) → 0 < p → 0 < bytes_for p
unfolding bytes_for
bytes-some p h = omega arith

same_reach : {p q : ℕ} → some p ≡ some q → p ≡ q
same_reach h = cc

module _ (f : Fmt) where
  -- what begins with a clean message is clean
  not-clean : (x t q r : List ℕ) → Padded f x → clean_reach (read_frame f r) ≡ none → r ≡ (x ++ t) ++ q → ⊥
  not-clean x t q r m h e =
      let u = clean-before f x m.clean (t ++ q) in
      let v : r ≡ x ++ (t ++ q) = e ∙ append_assoc x t q in
      let y : ◌≡◌ {A = ℕ} 0 1 = cc in
      omega arith

  -- two clean messages at the front of one run are of one length
  same_length : (x y s t : List ℕ) (m : Padded f x) (n : Padded f y) → x ++ s ≡ y ++ t → length x ≡ length y
  same_length x y s t m n e =
      let u = clean-before f x m.clean s in
      let v = clean-before f y n.clean t in
      let z : some m.reach ≡ some n.reach = sym u ∙ ap (λ (r : List ℕ). clean_reach (read_frame f r)) e ∙ v in
      m.fills ∙ ap bytes_for (same_reach z) ∙ sym n.fills

module _ (k : Kind) (d : ℕ) (down up : List ℕ) where
  abbrev format : Fmt
  format = format_of k d down up

  -- a clean message at the front is the first
  pub cut-first : (x t : List ℕ) (b : ℕ) → Padded format x → let c : Cutting = cut_from format 0 (b + length x) t in cut_from format 0 b (x ++ t) ≡ record { starts = b ∷ c.starts; until = c.until }
  unfolding cut_from message bytes_for
  cut-first [] t b m = absurd (omega (arith, clean-some k d down up [] m.clean, m.fills))
  cut-first (y ∷ x) t b m =
      let n : bytes_for m.reach - 1 ≡ length x = omega (arith, m.fills) in
      let z : cut_from format (length x) (suc b) (x ++ t) ≡ cut_from format 0 (b + suc (length x)) t = passed format x t (suc b) ∙ ap (λ (c : ℕ). cut_from format 0 c t) (omega arith) in
      rw (clean-before format (y ∷ x) m.clean t, n, z)

  -- where none begins, nothing more is listed
  pub cut-none : (r : List ℕ) (b : ℕ) → clean_reach (read_frame format r) ≡ none → cut_from format 0 b r ≡ record { starts = []; until = b }
  unfolding cut_from message
  cut-none [] b h = refl
  cut-none (y ∷ r) b h = rw h

  -- and clean messages at the front are the first, whatever follows
  cut-run : (xs : List (List ℕ)) (r : List ℕ) (b : ℕ) → All (Padded format) xs
      → let c : Cutting = cut_from format 0 (b + length (run xs)) r in cut_from format 0 b (run xs ++ r) ≡ record { starts = places b xs ++ c.starts; until = c.until }
  unfolding run places
  cut-run [] r b ps = ap (λ (c : ℕ). cut_from format 0 c r) (omega arith)
  cut-run (x ∷ xs) r b ps =
      let z = cut-run xs r (b + length x) ps.1 in
      let n : (b + length x) + length (run xs) ≡ b + length (x ++ run xs) = omega (arith, length-append x (run xs)) in
      rw (append_assoc x (run xs) r, ← n) (cut-first x (run xs ++ r) b ps.0 ∙ rw z)

  cut-whole : (xs : List (List ℕ)) (r : List ℕ) → All (Padded format) xs → clean_reach (read_frame format r) ≡ none → cut format (run xs ++ r) ≡ record { starts = places 0 xs; until = length (run xs) }
  unfolding cut
  cut-whole xs r ps h =
      let n : 0 + length (run xs) ≡ length (run xs) = omega arith in
      cut-run xs r 0 ps ∙ rw (n, cut-none r (length (run xs)) h, append-nil (places 0 xs))

  -- what is listed are the starts of the pieces, however the run was put together
  pub cut-is : {s : List ℕ} (w : Way format s) → cut format s ≡ record { starts = places 0 w.pieces; until = length (run w.pieces) }
  cut-is w = rw w.whole (cut-whole w.pieces w.rest w.padded w.ends)

  ---------------------------------------------------------------- every run has a way

  -- a clean message before a run that is cut
  before : (s : List ℕ) {p : ℕ} → clean_reach (read_frame format s) ≡ some p → Way format (drop (bytes_for p) s) → Way format s
  unfolding run
  before s {p} h w =
      let x : List ℕ = take (bytes_for p) s in
      record {
        pieces = x ∷ w.pieces;
        rest = w.rest;
        whole = sym (take-append-drop (bytes_for p) s) ∙ ap (λ (t : List ℕ). x ++ t) w.whole ∙ sym (append_assoc x (run w.pieces) w.rest);
        padded = (clean_padded format s h, w.padded);
        ends = w.ends;
      }

  none_before : (s : List ℕ) → clean_reach (read_frame format s) ≡ none → Way format s
  unfolding run
  none_before s h = record { pieces = []; rest = s; whole = refl; padded = tt; ends = h }

  module _ (n : ℕ) (shorter : (t : List ℕ) → length t ≤ n → Way format t) where
    one_more : (s : List ℕ) → length s ≤ suc n → (r : Option ℕ) → clean_reach (read_frame format s) ≡ r → Way format s
    one_more s l none h = none_before s h
    one_more s l (some p) h = before s h (shorter (drop (bytes_for p) s) (omega (arith, length-drop (bytes_for p) s, bytes-some p (clean-some k d down up s h))))

  cut_up : (n : ℕ) (s : List ℕ) → length s ≤ n → Way format s
  cut_up zero [] l = none_before [] (clean-empty k d down up _ refl)
  cut_up zero (y ∷ s) l = absurd (omega arith)
  cut_up (suc n) s l = one_more n (cut_up n) s l _ refl

  pub way : (s : List ℕ) → Way format s
  way s = cut_up (length s) s (omega arith)

  ---------------------------------------------------------------- and only one

  one-run : (xs ys : List (List ℕ)) (r q : List ℕ) → All (Padded format) xs → All (Padded format) ys → clean_reach (read_frame format r) ≡ none → clean_reach (read_frame format q) ≡ none
      → run xs ++ r ≡ run ys ++ q → (xs ≡ ys) × (r ≡ q)
  unfolding run
  one-run [] [] r q ps us g h e = (refl, e)
  one-run [] (y ∷ ys) r q ps us g h e = absurd (not-clean format y (run ys) q r us.0 g e)
  one-run (x ∷ xs) [] r q ps us g h e = absurd (not-clean format x (run xs) r q ps.0 h (sym e))
  one-run (x ∷ xs) (y ∷ ys) r q ps us g h e =
      let e' : x ++ (run xs ++ r) ≡ y ++ (run ys ++ q) = sym (append_assoc x (run xs) r) ∙ e ∙ append_assoc y (run ys) q in
      let z = fronts x y (run xs ++ r) (run ys ++ q) (same_length format x y _ _ ps.0 us.0 e') e' in
      let w = one-run xs ys r q ps.1 us.1 g h z.1 in
      let a = z.0 in
      let b = w.0 in
      (cc, w.1)

  pub one_way : {s : List ℕ} (v w : Way format s) → (v.pieces ≡ w.pieces) × (v.rest ≡ w.rest)
  one_way v w = one-run v.pieces w.pieces v.rest w.rest v.padded w.padded v.ends w.ends (sym v.whole ∙ w.whole)

  -- nothing but clean messages
  abbrev pub all-clean : (xs : List (List ℕ)) → All (Padded format) xs → Way format (run xs)
  all-clean xs ps = record { pieces = xs; rest = []; whole = sym (append-nil (run xs)); padded = ps; ends = clean-empty k d down up _ refl }

  pub cut_once : (xs ys : List (List ℕ)) → All (Padded format) xs → All (Padded format) ys → run xs ≡ run ys → xs ≡ ys
  cut_once xs ys ps us e = (one-run xs ys [] [] ps us (clean-empty k d down up _ refl) (clean-empty k d down up _ refl) (ap (λ (s : List ℕ). s ++ []) e)).0

  ---------------------------------------------------------------- padding is not looked at

  repadded : {x y : List ℕ} → Repadded format x y → Padded format y
  unfolding bytes_for
  repadded {x} {y} m =
      let p = m.piece in
      record {
        reach = p.reach;
        clean = ap clean_reach (clean_again format x p.clean y m.bits (omega (arith, clean-inside format x p.clean, m.long))) ∙ p.clean;
        fills = m.long ∙ p.fills;
      }

  pub all_repadded : {xs ys : List (List ℕ)} → Pairwise (Repadded format) xs ys → All (Padded format) xs × All (Padded format) ys
  all_repadded none_left = (tt, tt)
  all_repadded (and m ms) = let z = all_repadded ms in ((m.piece, z.0), (repadded m, z.1))

  same-places : (b : ℕ) {xs ys : List (List ℕ)} → Pairwise (Repadded format) xs ys → places b xs ≡ places b ys
  unfolding places
  same-places b none_left = refl
  same-places b (and {x} {y} {xs} {ys} m ms) = rw m.long (ap (λ (l : List ℕ). b ∷ l) (same-places (b + length x) ms))

  pub same_size : {xs ys : List (List ℕ)} → Pairwise (Repadded format) xs ys → length (run xs) ≡ length (run ys)
  unfolding run
  same_size none_left = refl
  same_size (and {x} {y} {xs} {ys} m ms) = omega (arith, length-append x (run xs), length-append y (run ys), m.long, same_size ms)

  pub same-cut : {xs ys : List (List ℕ)} → Pairwise (Repadded format) xs ys → (r : List ℕ) → cut format (run xs ++ r) ≡ cut format (run ys ++ r)
  unfolding cut
  same-cut {xs} {ys} ms r =
      let z = all_repadded ms in
      cut-run xs r 0 z.0 ∙ rw (same-places 0 ms, same_size ms) (sym (cut-run ys r 0 z.1))
