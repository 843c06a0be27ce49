-- The demands, over the definitions: of every entry at once, since each is `enter` with its tests and its reading.
use mathlib.Core.Path.{◌≡◌, refl, sym, ap, ◌∙◌}
use mathlib.Core.Bool.{Bool, true, false}
use mathlib.Core.Logic.{inl, inr}
use mathlib.Core.List.{List, ◌∷◌, ◌++◌}
use Prim.Native.Nat.{ℕ, ◌+◌, ◌*◌, ◌≤◌, ◌<◌}
use native.Mathlib.Omega.{arith}
use lib.ListN.{length, drop, take, length-take}
use lib.Seq.{get_or-take}
use lib.Dec.{leb}
use borrow.Author.Tests.{leb-true, le-leb}
use Rattle.x691.specs.Bits.{bit_of}
use Rattle.x691.specs.Encoding.{encode}
use Rattle.x691.proofs.BitLaws.{bit_of-lt, bit_of_agree}
use Rattle.atn.specs.Format.{Fmt, Why, out, bad, lack, quit, type_of}
use Rattle.atn.specs.Reading.{Rec, Ans, ok, past, stop, or, mark, read}
use Rattle.atn.specs.Entries.{Reply, accept, ran_out, badly, unsupplied, stopped, reply, read_frame, accepted, refused, flat, need, settle, Test, test, enter, frame_fits}
use Rattle.atn.specs.Demands.{passes, Agree, Message, Shares, Longer, CutOrOut, cut, ended, Enough, NoRoom}
use Rattle.atn.proofs.Inverse.{both, nil_fst, mark_pos}
use Rattle.atn.proofs.Complete.{complete}
use Rattle.atn.proofs.Sound.{FoundF, sound}
use Rattle.atn.proofs.Readings.{reply_reach, closed, Keeps, format_keeps}
use Rattle.atn.proofs.Longer.{GoesOn}
use Rattle.atn.proofs.Outcomes.{early, Settled, settle-fits, settle_full, settle-refused, decide_go, decide-accepted, decide-kept, decide-refused}

---------------------------------------------------------------- clean answers are messages

clean_ok : (a : Ans) {p : ℕ} {R : List Rec} → reply a ≡ accept false p 0 R → a ≡ ok p R 0
unfolding reply stopped
clean_ok (ok q S n) h = cc
clean_ok (past k q S n) h = let z : true ≡ false = cc in let y : ◌≡◌ {A = ℕ} 0 1 = cc in absurd (omega arith)
clean_ok (stop w q S n) {p} {R} h = go w h
  where
    go : (w : Why) → stopped w q S n ≡ accept false p 0 R → stop w q S n ≡ ok p R 0
    go (out l) e = let y : ◌≡◌ {A = ℕ} 0 1 = cc in absurd (omega arith)
    go bad e = let y : ◌≡◌ {A = ℕ} 0 1 = cc in absurd (omega arith)
    go lack e = let y : ◌≡◌ {A = ℕ} 0 1 = cc in absurd (omega arith)
    go (quit o j k) e = let y : or (mark k) n ≡ 0 = cc in mark_pos k (nil_fst (mark k) n y)

pub clean-message : (f : Fmt) (s : List ℕ) (p : ℕ) (R : List Rec) → read_frame f s ≡ accept false p 0 R → Message f s p R
unfolding read_frame
clean-message f s p R h =
    let x : FoundF (bit_of s) (bit_of-lt s) f (0, 0) (length s * 8) 0 p R = sound (bit_of s) (bit_of-lt s) f (0, 0) (length s * 8) 0 p R (clean_ok (read f (0, 0) (bit_of s) (length s * 8) 0) h) (omega arith) in
    record { val = x.val; in_range = x.good; spelt = x.spelt; long = omega (arith, x.next); inside = x.fits; recs = x.recs }

pub message-clean : (f : Fmt) (s : List ℕ) (p : ℕ) (R : List Rec) → Message f s p R → read_frame f s ≡ accept false p 0 R
unfolding read_frame reply
message-clean f s p R m =
    let v = m.val in
    let z : 0 + length (encode (type_of f) v) ≡ p = omega (arith, m.long) in
    let x : read f (0, 0) (bit_of s) (length s * 8) 0 ≡ ok p R 0 = complete (bit_of s) f v (0, 0) (length s * 8) 0 m.in_range m.spelt (omega (arith, m.long, m.inside)) ∙ rw (z, m.recs) in
    ap reply x

---------------------------------------------------------------- of every entry

module _ (ts : List Test) (F : List ℕ → Reply) (keeps : Keeps F) where
  -- an accepted answer, taken back to the reading
  pub taken : (s w : List ℕ) {c : Bool} {p m k : ℕ} {w' : List ℕ} → enter ts F s w ≡ (accepted c p m k, w') → (frame_fits s ≡ true) × (passes ts ≡ true) × Settled (F s) w c p m k w'
  unfolding enter passes
  taken s w h =
      let x = decide-accepted (test (frame_fits s) 1 ∷ ts) (F s) w h in
      let y = both (frame_fits s) (passes ts) x.0 in
      (y.0, y.1, x.1)

  pub entered : (s w : List ℕ) → frame_fits s ≡ true → passes ts ≡ true → enter ts F s w ≡ settle (F s) w
  unfolding enter passes
  entered s w h g = decide_go (test (frame_fits s) 1 ∷ ts) (F s) w (rw (h, g))

  -- demand 3: a whole answer holds for every frame that shares its bits and has at least as much room, with the same records and marks
  pub whole_again : (s t w v : List ℕ) {p m k : ℕ} {w' : List ℕ} → enter ts F s w ≡ (accepted false p m k, w') → Shares s t w v p
      → (R : List Rec) × (k ≡ length R) × (w' ≡ flat R ++ drop (need R) w) × (enter ts F t v ≡ (accepted false p m k, flat R ++ drop (need R) v))
  unfolding closed reply_reach
  whole_again s t w v {p} {m} {k} h g =
      let x = taken s w h in
      let y = x.2 in
      let R : List Rec = y.recs in
      let i : F s ≡ accept false p m R = y.replied in
      let j : F t ≡ F s = keeps.again s t (rw i) (rw i g.bits) (rw i g.there) in (
        R,
        y.counted,
        y.words,
        entered t v g.limit x.1 ∙ rw (j, i) (settle-fits false p m R v (omega (arith, y.fits, g.room)) ∙ ap (λ (n : ℕ). (accepted false p m n, flat R ++ drop (need R) v)) (sym y.counted)),
      )

  -- and so does a badly formed refusal
  pub bad_again : (s t w v : List ℕ) {p k l : ℕ} {w' : List ℕ} → early ts ≡ true → enter ts F s w ≡ (refused 5 p k l, w') → Shares s t w v p → enter ts F t v ≡ (refused 5 p k l, v)
  unfolding enter closed reply_reach passes early settle
  bad_again s t w v {p} {k} {l} e h g =
      let x = (decide-refused (test (frame_fits s) 1 ∷ ts) (F s) w h).late e (omega arith) in
      let y = both (frame_fits s) (passes ts) x.0 in
      let z = (settle-refused (F s) w x.1).3 refl in
      let i : F s ≡ badly p = z.0 in
      let j : F t ≡ F s = keeps.again s t (rw i) (rw i g.bits) (rw i g.there) in
      entered t v g.limit y.1 ∙ rw (j, i, z.1, z.2)

  open-outcome : (r : Reply) (w : List ℕ) → closed r ≡ false → Enough r w → CutOrOut (settle r w)
  unfolding closed settle
  open-outcome (accept true p m R) w h g = rw (le-leb (need R) (length w) g) (cut p m (length R) (flat R ++ drop (need R) w))
  open-outcome (accept false p m R) w h g = let y : ◌≡◌ {A = ℕ} 0 1 = cc in absurd (omega arith)
  open-outcome (ran_out p l) w h g = ended p l w
  open-outcome (badly p) w h g = let y : ◌≡◌ {A = ℕ} 0 1 = cc in absurd (omega arith)
  open-outcome (unsupplied p) w h g = let y : ◌≡◌ {A = ℕ} 0 1 = cc in absurd (omega arith)

  -- cut to whole bytes with fewer than p bits and given enough room, the frame is cut or ran out
  pub cut_to : (s w v : List ℕ) (j : ℕ) {p m k : ℕ} {w' : List ℕ} → enter ts F s w ≡ (accepted false p m k, w') → j * 8 < p → Enough (F (take j s)) v → CutOrOut (enter ts F (take j s) v)
  unfolding closed reply_reach frame_fits
  cut_to s w v j {p} {m} {k} h l g =
      let x = taken s w h in
      let y = x.2 in
      let i : F s ≡ accept false p m y.recs = y.replied in
      let b : p ≤ length s * 8 = rw i at (keeps.inside s) in
      let n : length (take j s) ≡ j = length-take j s ∙ omega arith in
      let a : Agree (bit_of s) (bit_of (take j s)) (length (take j s) * 8) = λ q u. bit_of_agree s (take j s) j (λ d e. sym (get_or-take j s d 0 e)) q (omega arith) in
      let o : closed (F (take j s)) ≡ false = keeps.short s (take j s) (rw i) (rw i (omega arith)) a in
      let f : leb (length (take j s)) 65536 ≡ true = le-leb (length (take j s)) 65536 (omega (arith, leb-true (length s) 65536 x.0)) in
      rw (entered (take j s) v f x.1) (open-outcome (F (take j s)) v o g)

  -- the lent words keep their number
  pub words-kept : (s w : List ℕ) → length (enter ts F s w).1 ≡ length w
  unfolding enter
  words-kept s w = decide-kept (test (frame_fits s) 1 ∷ ts) (F s) w

  -- a refusal leaves the lent words
  pub words_left : (s w : List ℕ) {n p k l : ℕ} {w' : List ℕ} → enter ts F s w ≡ (refused n p k l, w') → w' ≡ w
  unfolding enter
  words_left s w h = (decide-refused (test (frame_fits s) 1 ∷ ts) (F s) w h).left

  -- no room is said exactly where an accepted reading's records do not fit
  pub room-refused : (s w : List ℕ) {p k l : ℕ} {w' : List ℕ} → early ts ≡ true → enter ts F s w ≡ (refused 7 p k l, w') → (frame_fits s ≡ true) × (passes ts ≡ true) × NoRoom (F s) w p k w'
  unfolding enter passes early
  room-refused s w e h =
      let x = (decide-refused (test (frame_fits s) 1 ∷ ts) (F s) w h).late e (omega arith) in
      let y = both (frame_fits s) (passes ts) x.0 in
      (y.0, y.1, (settle-refused (F s) w x.1).2 refl)

  pub refused-room : (s w : List ℕ) (c : Bool) (p m : ℕ) (R : List Rec) → frame_fits s ≡ true → passes ts ≡ true → F s ≡ accept c p m R → length w < need R → enter ts F s w ≡ (refused 7 p (need R) 0, w)
  refused-room s w c p m R h g i l = entered s w h g ∙ rw i (settle_full c p m R w l)

  -- the reach never exceeds the frame's bits
  pub reach_inside : (s w : List ℕ) {c : Bool} {p m k : ℕ} {w' : List ℕ} → enter ts F s w ≡ (accepted c p m k, w') → p ≤ length s * 8
  unfolding reply_reach
  reach_inside s w h = let y = (taken s w h).2 in rw y.replied at (keeps.inside s)

  pub refused-inside : (s w : List ℕ) {n p k l : ℕ} {w' : List ℕ} → enter ts F s w ≡ (refused n p k l, w') → p ≤ length s * 8
  unfolding enter
  refused-inside s w h = elim (decide-refused (test (frame_fits s) 1 ∷ ts) (F s) w h).reached [ inl x ↦ omega arith | inr x ↦ omega (arith, keeps.inside s) ]

  -- only "ran out" has bits that were lacked
  pub lacked-none : (s w : List ℕ) {n p k l : ℕ} {w' : List ℕ} → enter ts F s w ≡ (refused n p k l, w') → (n ≡ 4 → ⊥) → l ≡ 0
  unfolding enter
  lacked-none s w h = (decide-refused (test (frame_fits s) 1 ∷ ts) (F s) w h).idle

  -- "ran out", taken back to the reading
  ran : (s w : List ℕ) {p k l : ℕ} {w' : List ℕ} → early ts ≡ true → enter ts F s w ≡ (refused 4 p k l, w') → F s ≡ ran_out p l
  unfolding enter early
  ran s w e h =
      let x = (decide-refused (test (frame_fits s) 1 ∷ ts) (F s) w h).late e (omega arith) in
      (settle-refused (F s) w x.1).4 refl

  module _ (goes : GoesOn F) (e : early ts ≡ true) where
    pub lacked-some : (s w : List ℕ) {p k l : ℕ} {w' : List ℕ} → enter ts F s w ≡ (refused 4 p k l, w') → 1 ≤ l
    lacked-some s w h = goes.some s (ran s w e h)

    -- "a frame longer by at least that many bits no longer stops at that same read": where it runs out again, it has taken the bits that were lacked, and so reaches further
    pub longer_on : (s t w v : List ℕ) {p k l q j i : ℕ} {w' v' : List ℕ} → enter ts F s w ≡ (refused 4 p k l, w') → Longer s t l → enter ts F t v ≡ (refused 4 q j i, v') → (length s * 8 + l ≤ q) × (p < q)
    longer_on s t w v h g o =
        let z = goes.on s t (ran s w e h) g (ran t v e o) in
        (z, omega (arith, lacked-some s w h, refused-inside s w h))

---------------------------------------------------------------- of an entry that reads by one format

module _ (ts : List Test) (f : Fmt) where
  -- demand 2: a clean answer is a message of the schema, and its records are the message's
  pub clean-sound : (s w : List ℕ) {p k : ℕ} {w' : List ℕ} → enter ts (λ t. read_frame f t) s w ≡ (accepted false p 0 k, w') → (R : List Rec) × Message f s p R × (k ≡ length R) × (w' ≡ flat R ++ drop (need R) w)
  clean-sound s w {p} h =
      let y = (taken ts (λ t. read_frame f t) (format_keeps f) s w h).2 in
      (y.recs, clean-message f s p y.recs y.replied, y.counted, y.words)

  -- and every message of the schema, with room enough, is given a clean answer
  pub clean_complete : (s w : List ℕ) (p : ℕ) (R : List Rec) → frame_fits s ≡ true → passes ts ≡ true → Message f s p R → need R ≤ length w
      → enter ts (λ t. read_frame f t) s w ≡ (accepted false p 0 (length R), flat R ++ drop (need R) w)
  clean_complete s w p R h g m l = entered ts (λ t. read_frame f t) (format_keeps f) s w h g ∙ rw (message-clean f s p R m) (settle-fits false p 0 R w l)
