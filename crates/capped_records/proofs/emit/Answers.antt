use borrow.Rule.Slice.PartMut.{put_mid, mid_of}
use mathlib.Core.Path.{◌≡◌, ◌∙◌, sym}
use mathlib.Core.List.{List, [], ◌∷◌, ◌++◌, append-nil}
use Prim.Native.Nat.{ℕ, ◌-◌, ◌*◌, ◌/◌, ◌≤◌, ◌<◌}
use native.Mathlib.Nat.{le_refl}
use native.Mathlib.Omega.{arith}
use lib.ListN.{length, drop, length-drop, drop_of_length-le}
use lib.Seq.{take_all, drop-drop}
use Rattle.atn.specs.Reading.{Rec, rec}
use Rattle.atn.specs.Entries.{flat, need}
use Rattle.records.specs.Space.{size}
use Rattle.capped_records.specs.Place.{counted, place_one}
use Rattle.capped_records.proofs.PlaceLaws.{place-room, place_none, one-length}
use borrow.Author.Rules.{rules}
use Rattle.capped_records.proofs.emit.Goals as goal
use Rattle.capped_records.proofs.emit.Goals.{then-n-words, else-n-words, Joined-n-words}

-- the tail from the record's place on was lent, and is back with the record at its front
back : (w : List ℕ) (n : ℕ) (r : Rec) {tail : List ℕ} → n < length w / 5 → tail ≡ flat (r ∷ []) ++ drop size (mid_of (n * 5) (length w - n * 5) w) → put_mid (n * 5) (length w - n * 5) w tail ≡ place_one w n r
unfolding size need
back w n r h e =
    let l : length (drop (n * 5) w) ≤ length w - n * 5 = simp length-drop (le_refl _) in
    rw (e, take_all (length w - n * 5) (drop (n * 5) w) l, drop_of_length-le (drop (n * 5) w) l, append-nil, drop-drop 5 (n * 5) w) (sym (place-room w n r (omega arith)))

-- the tail has room for the record
tail_long : (w : List ℕ) (n : ℕ) → n < length w / 5 → size ≤ length (mid_of (n * 5) (length w - n * 5) w)
unfolding size need
tail_long w n h =
    let l : length (drop (n * 5) w) ≤ length w - n * 5 = simp length-drop (le_refl _) in
    rw (take_all (length w - n * 5) (drop (n * 5) w) l, length-drop) (omega arith)

full : (w : List ℕ) (n : ℕ) (r : Rec) → length w / 5 ≤ n → w ≡ place_one w n r
full w n r h = sym (place_none w n r (omega arith))

pub put_record-requires : goal.put_record-requires
put_record-requires c = tail_long c.args.words.now c.args.n c.if-n-words.true

-- with the record, or as they were
told : (c : Joined-n-words) → let a = c.args in c.if-n-words.words ≡ place_one a.words.now a.n (rec a.tag 0 a.value a.second a.place)
told c =
    let a = c.args in
    elim c.if-n-words.branch [
      | then-n-words w ↦ w.words-is ∙ back a.words.now a.n (rec a.tag 0 a.value a.second a.place) w.if-n-words.true w.put_record.ensures
      | else-n-words w ↦ w.words-is ∙ full a.words.now a.n (rec a.tag 0 a.value a.second a.place) w.if-n-words.false
    ]

pub shape_of-words : goal.shape_of-words
shape_of-words c = rw (told (goal.at.shape_of-words c).Joined-n-words) (one-length _ _ _)

pub returns : goal.returns
unfolding counted
returns c = record { count = search rules; words = told (goal.at.returns c).Joined-n-words }
