-- `store` meets its contract. What is lent is the tail from the record's place on.
use Rattle.std.proofs.Common.{◌≡◌, ℕ, ◌+◌, ◌-◌, ◌≤◌, List, [], ◌∷◌, ◌++◌, length, take, drop, refl, append_assoc, append-nil, le_refl, arith, length-append, length-drop, drop_of_length-le, length-take-le, take_all, take_at}
use borrow.Rule.Slice.PartMut.{put_mid, mid_of}
use Rattle.atn.specs.Reading.{Rec, rec}
use Rattle.atn.specs.Entries.{flat, need}
use Rattle.records.specs.Space.{size, space}
use Rattle.records.specs.Told.{Told}
use Rattle.records.proofs.Sizes.{flat-length, space-more}
use Rattle.records.proofs.Telling.{told-length}
use Rattle.records.proofs.store.Goals as goal

-- the tail from the record's place on was lent, and is back with the record at its front
module _ (w : List ℕ) (n : ℕ) (r : Rec) (h : space n + size ≤ length w) where
  there : length (take (space n) w) ≡ space n
  there = length-take-le (space n) w (omega arith)

  abbrev rest : List ℕ
  rest = drop size (drop (space n) w)

  back : {at : ℕ} {tail : List ℕ} → at ≡ space n → tail ≡ flat (r ∷ []) ++ drop size (mid_of at (length w - at) w) → put_mid at (length w - at) w tail ≡ take (space n) w ++ (flat (r ∷ []) ++ rest)
  back place e =
      let l : length (drop (space n) w) ≤ length w - space n = simp length-drop (le_refl _) in
      rw (e, place, take_all (length w - space n) (drop (space n) w) l, drop_of_length-le (drop (space n) w) l, append-nil)

  stored : {w' : List ℕ} → w' ≡ take (space n) w ++ (flat (r ∷ []) ++ rest) → Told 1 w w' n (n + 1) (r ∷ [])
  stored e =
      record {
        count = refl;
        few = omega arith;
        room = rw e (simp (length-append, there, flat-length, length-drop) (omega arith));
        before = rw e (take_at (take (space n) w) (flat (r ∷ []) ++ rest) (space n) there);
        words =
            λ _.
            rw (e, space-more n, ← append_assoc (take (space n) w) (flat (r ∷ [])) rest)
            (take_at (take (space n) w ++ flat (r ∷ [])) rest (space n + size) (simp (length-append, there, flat-length) refl));
      }

-- the tail has room for the record
tail_long : (w : List ℕ) (at : ℕ) → at + size ≤ length w → size ≤ length (mid_of at (length w - at) w)
tail_long w at h =
    let l : length (drop at w) ≤ length w - at = simp length-drop (le_refl _) in
    rw (take_all (length w - at) (drop at w) l, length-drop) (omega arith)

-- the words of the others and its own
room : {at l : ℕ} (n : ℕ) → at ≡ space n → space (n + 1) ≤ l → at + size ≤ l
room n place h = omega (arith, space-more n)

pub offset_bounds-words-at : goal.offset_bounds-words-at
unfolding space size need
offset_bounds-words-at c = omega (arith, c.words_for-at.ensures, c.requires.0)

pub slice_bounds-put_record-count : goal.slice_bounds-put_record-count
slice_bounds-put_record-count c = omega (arith, room c.args.n c.words_for-at.ensures c.requires.1)

pub slice_bounds-put_record-start : goal.slice_bounds-put_record-start
slice_bounds-put_record-start c = omega (arith, room c.args.n c.words_for-at.ensures c.requires.1)

pub put_record-requires : goal.put_record-requires
put_record-requires c =
    let f = c.words_for-at in
    tail_long c.args.words.now f.result (room c.args.n f.ensures c.requires.1)

pub returns : goal.returns
returns c =
    let f = c.words_for-at in
    let a = c.args in
    let w = a.words.now in
    let r : Rec = rec a.tag a.element a.value a.second a.place in
    let h : space a.n + size ≤ length w = omega (arith, room a.n f.ensures c.requires.1, f.ensures) in
    stored w a.n r h (back w a.n r h f.ensures c.put_record.ensures)

pub shape_of-words : goal.shape_of-words
shape_of-words c = told-length (returns c)
