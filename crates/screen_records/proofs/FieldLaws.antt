-- Records of lent words, by their words.
use mathlib.Core.Path.{◌≡◌, sym, ap, ◌∙◌}
use mathlib.Core.List.{List, [], ◌∷◌, ◌++◌}
use Prim.Native.Nat.{ℕ, ◌+◌, ◌≤◌}
use native.Mathlib.Numerals.{add-one}
use native.Mathlib.Omega.{arith}
use lib.ListN.{drop, get_or}
use lib.Seq.{drop-drop}
use Rattle.atn.specs.Reading.{Rec, rec}
use Rattle.record_lists.specs.Message.{records_of}
use Rattle.record_views.specs.View.{record_at, records_from, fetched}
use Rattle.record_views.specs.declared.Record.{Record}
use Rattle.record_views.proofs.ViewLaws.{nth}
use Rattle.screen_records.specs.Fields.{text_length, character, characters, text}

-- the records further on
pub from_more : (i k : ℕ) (W : List ℕ) → records_from (i + k) W ≡ drop k (records_from i W)
unfolding records_from
from_more i k W = sym (drop-drop k i (records_of W))

-- a record that was fetched is the one k places behind record i
pub behind : (i k : ℕ) (W : List ℕ) {x : Record} → x ≡ fetched (record_at W (i + k)) → x ≡ fetched (get_or (records_from i W) k (rec 0 0 0 0 0))
behind i k W e = rw (nth W i k) e

pub here : (i : ℕ) (W : List ℕ) {x : Record} → x ≡ fetched (record_at W i) → x ≡ fetched (get_or (records_from i W) 0 (rec 0 0 0 0 0))
here i W e = let z : i ≡ i + 0 = omega arith in behind i 0 W (e ∙ ap (λ (n : ℕ). fetched (record_at W n)) z)

-- one character more
pub characters-more : (R : List Rec) (j : ℕ) → characters R (j + 1) ≡ characters R j ++ character R j ∷ []
unfolding characters
characters-more R j = rw (add-one j)

pub characters-all : (R : List Rec) {n j : ℕ} → n ≡ text_length R → j ≤ n → n ≤ j → text R ≡ characters R j
unfolding text
characters-all R {n} {j} e l g = let h : n ≡ j = omega arith in rw (← e, h)
