-- Elements passed over: what the walk would be without words.
use mathlib.Core.Path.{◌≡◌, refl}
use mathlib.Core.List.{List, [], ◌∷◌}
use Prim.Native.Nat.{ℕ, ◌+◌, ◌-◌, ◌*◌, ◌≤◌, ◌<◌}
use native.Mathlib.Omega.{arith}
use lib.ListN.{length, get_or}
use Rattle.x691.specs.Bits.{bit_of, uint}
use Rattle.x691.specs.Encoding.{width}
use Rattle.atn.specs.Reading.{Rec, rec, or}
use Rattle.atn.specs.Entries.{need}
use Rattle.cursor.specs.declared.place.Cursor.{Cursor}
use Rattle.cursor.specs.declared.place.Got.{Got}
use Rattle.cursor.specs.Place.{put, got, Pulls, Takes, went, stopped}
use Rattle.records.specs.Space.{space, size}
use Rattle.records.specs.Told.{Told}
use Rattle.records.proofs.Telling.{told_none, told_unwritten}
use Rattle.runs.proofs.RunLaws.{runs_stayed, runs_within}
use Rattle.argument_values.specs.Arguments.{argument_body}
use Rattle.passed_arguments.specs.Passed.{Passed}
use Rattle.elements.specs.Elements.{elements_at}
use Rattle.elements.specs.Unlisted.{Fails}
use Rattle.elements.proofs.ElementLaws.{argument-told, element_outside, element-read, Walking, walking_begun, walking_on}

-- records told where there are no words
pub untold : (n : ℕ) (R : List Rec) → Told (length R) [] [] n (n + length R) R
unfolding space size need
untold n [] = let e : n + 0 ≡ n = omega arith in rw e told_none
untold n (r ∷ R) = told_unwritten (r ∷ R) (omega arith)

-- k of `left` elements are passed over, and the next begins at p, in a window that reaches so far
pub record Stands (table : List ℕ) (i left k : ℕ) (s : List ℕ) (c : Cursor) (n p : ℕ) : Type 0 where
  pub marks : ℕ
  pub count : ℕ
  pub walking : Walking table i left k s c n [] [] (record { n = count; c = put c p 0 marks })

pub stands_first : (table : List ℕ) (i left : ℕ) {s : List ℕ} {n at end m : ℕ} → Stands table i left 0 s (record { at = at; end = end; why = 0; marks = m }) n at
stands_first table i left {n = n} {m = m} = record { marks = m; count = n; walking = walking_begun table i left }

module _ (table : List ℕ) (i left : ℕ) {s : List ℕ} {c : Cursor} {n : ℕ} where
  module _ {k p v b : ℕ} (wide : b ≡ width (length table - 1)) (worth : v ≡ uint (bit_of s) p b) (held : p + b ≤ c.end) (x : Stands table i left k s c n p) (more : k < left) where
    abbrev index : Got ℕ
    index = record { v = v; c = put c (p + b) 0 x.marks }

    pulls : Pulls s (put c p 0 x.marks) b index
    pulls = record { gave = λ _. got refl held worth refl }

    -- an index outside the table ends the walk
    pub stands_fails : length table ≤ v → Fails (left * 143) (elements_at table i left s) s c n
    unfolding stopped
    stands_fails l =
        let d : Cursor = stopped (put c (p + b) 0 x.marks) 5 1 in
        let e = element_outside table (i + k) {s = s} {c = put c p 0 x.marks} {b = b} {g = index} wide pulls {d = d} {n = x.count} {w = []} l refl refl in
        let on = walking_on table i left x.walking more (runs_within 143 _ (omega arith) e) in
        record { to = record { n = x.count; c = d }; run = on.rest (runs_within ((left - (k + 1)) * 143) _ (omega arith) (runs_stayed _ (λ z. omega arith))); badly = refl }

    -- the next stands behind the argument
    pub stands_next : {q : ℕ} → v < length table → Passed (argument_body (get_or table v 0)) s (p + b) q → q ≤ c.end → Stands table i left (k + 1) s c n q
    stands_next {q} l a h =
        let m : ℕ = or x.marks a.marks in
        let o : ℕ = x.count + 1 in
        let R = a.recs (i + k) in
        let takes : Takes (argument_body (get_or table v 0)) s (put c (p + b) 0 x.marks) (put c q 0 m) a.recs = record { took = λ y. record { led = λ _. went q a.marks refl ((a.sure y).gives c.end h) h refl } } in
        let argument = argument-told (get_or table v 0) (i + k) takes refl (untold o R) in
        let element = element-read table (i + k) {s = s} {c = put c p 0 x.marks} {b = b} {g = index} wide pulls l refl (untold x.count (rec 22 (i + k) v 0 p ∷ [])) argument in
        record { marks = m; count = o + length R; walking = walking_on table i left x.walking more (runs_within 143 _ (omega (arith, a.few (i + k))) element) }
