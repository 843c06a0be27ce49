-- The passes of an entry, and what `settle` says of them. The first decides, and leaves the words, v, as they came, w. The second is lent as many
-- of them as the records need, and is run only where the reading is accepted and its records fit.
use Rattle.std.proofs.Common.{◌≡◌, ℕ, ◌<◌, ◌≤◌, Bool, List, ◌++◌, length, take, drop, sym, ap, ◌∙◌, zero-add, arith, length-take-le, take_all, le-leb}
use borrow.Author.Tests.{lt-leb}
use Rattle.atn.specs.Reading.{Rec}
use Rattle.atn.specs.Entries.{Reply, accept, ran_out, badly, unsupplied, accepted, refused, Outcome, flat, need, settle}
use Rattle.records.specs.Space.{space}
use Rattle.records.specs.Told.{Told}
use Rattle.records.proofs.Sizes.{need-space}
use Rattle.records.proofs.Telling.{told-first}

pub counted : {k : ℕ} {w w' : List ℕ} {m : ℕ} {rs : List Rec} → Told k w w' 0 m rs → m ≡ length rs
counted {rs = rs} p = p.count ∙ zero-add (length rs)

module _ {w v : List ℕ} (stayed : v ≡ w) {r : Reply} where
  ---------------------------------------------------------------- a reading that is refused

  pub settle_out : {p k : ℕ} → r ≡ ran_out p k → ◌≡◌ {A = Outcome} (refused 4 p 0 k, v) (settle r w)
  unfolding settle
  settle_out e = rw (e, stayed)

  pub settle-bad : {p : ℕ} → r ≡ badly p → ◌≡◌ {A = Outcome} (refused 5 p 0 0, v) (settle r w)
  unfolding settle
  settle-bad e = rw (e, stayed)

  pub settle_lack : {p : ℕ} → r ≡ unsupplied p → ◌≡◌ {A = Outcome} (refused 6 p 0 0, v) (settle r w)
  unfolding settle
  settle_lack e = rw (e, stayed)

  ---------------------------------------------------------------- a reading that is accepted: m records are counted, and they need d words

  module _ {c : Bool} {p marks : ℕ} {rs : List Rec} {m d : ℕ} (reads : r ≡ accept c p marks rs) (counts : m ≡ length rs) (needs : d ≡ space m) where
    needed : need rs ≡ d
    needed = need-space rs ∙ sym (needs ∙ ap space counts)

    pub settle_full : length v < d → ◌≡◌ {A = Outcome} (refused 7 p d 0, v) (settle r w)
    unfolding settle
    settle_full h = rw (reads, needed, lt-leb d (length w) (rw stayed at h), stayed)

    -- the first d words were lent, and came back as e
    pub settle-fits : {k l : ℕ} {e : List ℕ} → d ≤ length v → Told k (take d v) e 0 l rs → ◌≡◌ {A = Outcome} (accepted c p marks m, e ++ drop d v) (settle r w)
    unfolding settle
    settle-fits {l = l} {e = e} h second =
        let fit : need rs ≤ length w = rw (needed, ← stayed) h in
        let same : space l ≡ d = ap space (counted second) ∙ sym (needs ∙ ap space counts) in
        let lent : length (take d v) ≡ d = length-take-le d v h in
        let back : take d e ≡ flat rs = rw same at (told-first second (omega arith)) in
        let all : take d e ≡ e = take_all d e (omega (arith, second.room)) in
        rw (reads, le-leb (need rs) (length w) fit, counts, sym all ∙ back, needed, stayed)
