-- "Prove once, over all tables not refused, that the reading .. keeps demand 3, and takes exactly what the table's meaning says"; and requests b) and g) of 02 of such a reading.
use mathlib.Core.Path.{◌≡◌, refl, sym, ap, ◌∙◌}
use mathlib.Core.Bool.{Bool, true, false}
use mathlib.Core.List.{List, [], ◌++◌}
use Prim.Native.Nat.{ℕ, ◌+◌, ◌*◌, ◌≤◌, ◌<◌, min}
use lib.ListN.{length, drop, take}
use Rattle.atn.specs.Reading.{Rec}
use Rattle.atn.specs.Places.{Rising}
use Rattle.atn.specs.Entries.{Reply, accept, read_frame, accepted, refused, Outcome, flat, need, enter, frame_fits}
use Rattle.atn.specs.Demands.{passes, Message, Shares, Longer, CutOrOut, cut, ended, Enough, NoRoom}
use Rattle.atn.proofs.Readings.{Keeps, format_keeps}
use Rattle.atn.proofs.Outcomes.{early}
use Rattle.atn.proofs.Places.{frame_rising}
use Rattle.atn.proofs.Longer.{GoesOn, format_goes}
use Rattle.atn.proofs.Demands.{taken, whole_again, bad_again, cut_to, words-kept, words_left, room-refused, refused-room, reach_inside, refused-inside, lacked-none, lacked-some, longer_on, clean-sound, clean_complete}
use Rattle.schema_tables.specs.Nodes.{meaning}
use Rattle.schema_tables.specs.Entry.{Kept, top, capped, capped_answer, parse_by_table}
use Rattle.schema_tables.proofs.Capped.{kept_reads, cap_accepted, cap_refused, cap_words, cap_same, cap_need}
use Rattle.schema_tables.proofs.Tame.{table_frank}

module _ (N : List ℕ) (kept : Kept N) where
  -- the reading by the table
  abbrev F : List ℕ → Reply
  F s = read_frame (meaning N) s

  keeps : Keeps (λ s. F s)
  keeps = format_keeps (meaning N)

  to_plain : (s w : List ℕ) {c : Bool} {p m k : ℕ} {w' : List ℕ} → parse_by_table s N w ≡ (accepted c p m k, w') → enter [] (λ f. F f) s w ≡ (accepted c p m k, w')
  to_plain s w h = cap_accepted (enter [] (λ f. F f) s w) (sym (kept_reads N kept s w) ∙ h)

  to_refused : (s w : List ℕ) {n p k l : ℕ} {w' : List ℕ} → parse_by_table s N w ≡ (refused n p k l, w') → (j : ℕ) × (enter [] (λ f. F f) s w ≡ (refused n p j l, w')) × (k ≡ min j top)
  to_refused s w h = cap_refused (enter [] (λ f. F f) s w) (sym (kept_reads N kept s w) ∙ h)

  -- a whole answer holds for every frame that shares its bits and has at least as much room, with the same records and marks
  pub table-whole : (s t w v : List ℕ) {p m k : ℕ} {w' : List ℕ} → parse_by_table s N w ≡ (accepted false p m k, w') → Shares s t w v p
      → (R : List Rec) × (k ≡ length R) × (w' ≡ flat R ++ drop (need R) w) × (parse_by_table t N v ≡ (accepted false p m k, flat R ++ drop (need R) v))
  table-whole s t w v {p} {m} {k} h g =
      let x = whole_again [] (λ f. F f) keeps s t w v (to_plain s w h) g in
      (x.0, x.1, x.2, kept_reads N kept t v ∙ ap capped x.3 ∙ cap_same false p m k (flat x.0 ++ drop (need x.0) v))

  -- and so does a badly formed refusal
  pub table_badly : (s t w v : List ℕ) {p k l : ℕ} {w' : List ℕ} → parse_by_table s N w ≡ (refused 5 p k l, w') → Shares s t w v p → parse_by_table t N v ≡ (refused 5 p k l, v)
  unfolding early
  table_badly s t w v {p} {k} {l} h g =
      let x = to_refused s w h in
      kept_reads N kept t v ∙ ap capped (bad_again [] (λ f. F f) keeps s t w v refl x.1 g) ∙ cap_need 5 p x.0 l v ∙ ap (λ n. (refused 5 p n l, v)) (sym x.2)

  cut-capped : (o : Outcome) → CutOrOut o → CutOrOut (capped o)
  unfolding capped capped_answer
  cut-capped o (cut p m k w) = cut p m k w
  cut-capped o (ended p l w) = ended p l w

  -- cut to whole bytes with fewer than p bits and given enough room, the frame is cut or ran out
  pub table-cut : (s w v : List ℕ) (j : ℕ) {p m k : ℕ} {w' : List ℕ} → parse_by_table s N w ≡ (accepted false p m k, w') → j * 8 < p → Enough (F (take j s)) v → CutOrOut (parse_by_table (take j s) N v)
  table-cut s w v j h l e = rw (kept_reads N kept (take j s) v) (cut-capped _ (cut_to [] (λ f. F f) keeps s w v j (to_plain s w h) l e))

  -- no room is said exactly where an accepted reading's records do not fit, with the words needed, at most 2^64 - 1
  pub table_full : (s w : List ℕ) {p k l : ℕ} {w' : List ℕ} → parse_by_table s N w ≡ (refused 7 p k l, w') → (j : ℕ) × (frame_fits s ≡ true) × NoRoom (F s) w p j w' × (k ≡ min j top)
  unfolding early
  table_full s w h =
      let x = to_refused s w h in
      let y = room-refused [] (λ f. F f) keeps s w refl x.1 in
      (x.0, y.0, y.2, x.2)

  pub full_table : (s w : List ℕ) (c : Bool) (p m : ℕ) (R : List Rec) → frame_fits s ≡ true → F s ≡ accept c p m R → length w < need R → parse_by_table s N w ≡ (refused 7 p (min (need R) top) 0, w)
  unfolding passes
  full_table s w c p m R h i l = kept_reads N kept s w ∙ ap capped (refused-room [] (λ f. F f) keeps s w c p m R h refl i l) ∙ cap_need 7 p (need R) 0 w

  -- the lent words keep their number, and a refusal leaves them
  pub table_kept : (s w : List ℕ) → length (parse_by_table s N w).1 ≡ length w
  table_kept s w = ap (λ (o : Outcome). length o.1) (kept_reads N kept s w) ∙ ap (λ l. length l) (cap_words (enter [] (λ f. F f) s w)) ∙ words-kept [] (λ f. F f) keeps s w

  pub table-left : (s w : List ℕ) {n p k l : ℕ} {w' : List ℕ} → parse_by_table s N w ≡ (refused n p k l, w') → w' ≡ w
  table-left s w h = words_left [] (λ f. F f) keeps s w (to_refused s w h).1

  -- the reach never exceeds the frame's bits
  pub table-inside : (s w : List ℕ) {c : Bool} {p m k : ℕ} {w' : List ℕ} → parse_by_table s N w ≡ (accepted c p m k, w') → p ≤ length s * 8
  table-inside s w h = reach_inside [] (λ f. F f) keeps s w (to_plain s w h)

  pub table-refused-inside : (s w : List ℕ) {n p k l : ℕ} {w' : List ℕ} → parse_by_table s N w ≡ (refused n p k l, w') → p ≤ length s * 8
  table-refused-inside s w h = refused-inside [] (λ f. F f) keeps s w (to_refused s w h).1

  -- only "ran out" has bits that were lacked, and it has some
  pub table-lacked-none : (s w : List ℕ) {n p k l : ℕ} {w' : List ℕ} → parse_by_table s N w ≡ (refused n p k l, w') → (n ≡ 4 → ⊥) → l ≡ 0
  table-lacked-none s w h = lacked-none [] (λ f. F f) keeps s w (to_refused s w h).1

  goes : GoesOn (λ s. F s)
  goes = format_goes (meaning N) (table_frank N)

  pub table-lacked-some : (s w : List ℕ) {p k l : ℕ} {w' : List ℕ} → parse_by_table s N w ≡ (refused 4 p k l, w') → 1 ≤ l
  unfolding early
  table-lacked-some s w h = lacked-some [] (λ f. F f) keeps goes refl s w (to_refused s w h).1

  -- "a frame longer by at least that many bits no longer stops at that same read": where it runs out again, it has taken the bits that were lacked
  pub table_longer : (s t w v : List ℕ) {p k l q j i : ℕ} {w' v' : List ℕ} → parse_by_table s N w ≡ (refused 4 p k l, w') → Longer s t l → parse_by_table t N v ≡ (refused 4 q j i, v') → (length s * 8 + l ≤ q) × (p < q)
  unfolding early
  table_longer s t w v h g o = longer_on [] (λ f. F f) keeps goes refl s t w v (to_refused s w h).1 g (to_refused t v o).1

  -- a clean answer is a message of the table's type with its records, and every such message, with room enough, is given a clean answer
  pub table-sound : (s w : List ℕ) {p k : ℕ} {w' : List ℕ} → parse_by_table s N w ≡ (accepted false p 0 k, w') → (R : List Rec) × Message (meaning N) s p R × (k ≡ length R) × (w' ≡ flat R ++ drop (need R) w)
  table-sound s w h = clean-sound [] (meaning N) s w (to_plain s w h)

  pub table_complete : (s w : List ℕ) (p : ℕ) (R : List Rec) → frame_fits s ≡ true → Message (meaning N) s p R → need R ≤ length w → parse_by_table s N w ≡ (accepted false p 0 (length R), flat R ++ drop (need R) w)
  unfolding passes
  table_complete s w p R h m l = kept_reads N kept s w ∙ ap capped (clean_complete [] (meaning N) s w p R h refl m l) ∙ cap_same false p 0 (length R) (flat R ++ drop (need R) w)

  -- "For one frame the fifth words never fall from one record to the next", and none is above the reach
  pub table_rising : (s w : List ℕ) {c : Bool} {p m k : ℕ} {w' : List ℕ} → parse_by_table s N w ≡ (accepted c p m k, w') → (R : List Rec) × (k ≡ length R) × (w' ≡ flat R ++ drop (need R) w) × Rising 0 R p
  table_rising s w h =
      let y = (taken [] (λ f. F f) keeps s w (to_plain s w h)).2 in
      (y.recs, y.counted, y.words, (frame_rising s (meaning N) y.replied).0)
