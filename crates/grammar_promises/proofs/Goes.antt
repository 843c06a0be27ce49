-- Where a walk may stand behind the records of a reading, computed from the format alone.
use mathlib.Core.Bool.{Bool, true, false, cond, ◌&&◌}
use mathlib.Core.List.{List, [], ◌∷◌}
use Prim.Native.Nat.{ℕ, zero, suc, ◌+◌, ◌-◌, ◌*◌, ◌^◌}
use lib.Dec.{leb, eqb}
use Rattle.x691.specs.Types.{extent}
use Rattle.x691.specs.Encoding.{width}
use Rattle.atn.specs.Format.{Fmt, num, listed, name, text, span, any_span, skipped, small, null, noted, placed, marked, refuse, element, ext, seq, loose, choice, many, inner, soft, lax}
use Rattle.atn.specs.Format.{Flds, end, ◌⨾◌, ◌⨾?◌, or_note, unread, Alts, none_left, ◌∥◌, Letters, first, numeric, Why, out, bad, lack, quit}
use Rattle.atn.specs.Tags as tag
use Rattle.grammar_promises.proofs.States.{Val, any, less, nil, now, prior, agree, State, lost, stands, ◌∪◌, each, all_among}
use Rattle.grammar_promises.proofs.Verdicts.{Scope, value, stretch}
use Rattle.grammar_promises.proofs.Verdicts as sort
use Rattle.grammar_promises.proofs.Steps.{step}
use Rattle.grammar_promises.proofs.Texts.{text_step}
use Rattle.grammar_promises.proofs.Channels.{channel_step}

---------------------------------------------------------------- exits

-- behind a reading that went on; behind one that was given up and may still be accepted; and behind one that failed
pub record Exits : Type 0 where
  pub next : List State
  pub given : List State
  pub failed : List State

abbrev pub anywhere : List State
anywhere = lost ∷ []

abbrev pub all_lost : Exits
all_lost = record { next = anywhere; given = anywhere; failed = anywhere }

-- one reading or the other
unfoldable pub either : Exits → Exits → Exits
either X Y = record { next = X.next ∪ Y.next; given = X.given ∪ Y.given; failed = X.failed ∪ Y.failed }

-- the second from where the first went on
unfoldable pub and_then : Exits → Exits → Exits
and_then X Y = record { next = Y.next; given = X.given ∪ Y.given; failed = X.failed ∪ Y.failed }

---------------------------------------------------------------- lists

-- the variable that counts the items of a list of this format, less 1
unfoldable pub counter : Fmt → ℕ
counter (num t lo hi) = 3
counter (listed t hi xs) = 3
counter (name t hi) = 3
counter (text t n c lo hi) = 3
counter (span t w lo hi) = 3
counter (any_span t w) = 3
counter (skipped m) = 3
counter (small m t) = 3
counter null = 3
counter (noted t v s f) = 3
counter (placed t f) = cond (eqb t tag.clearance) 1 2
counter (marked m) = 3
counter (refuse w m) = 3
counter (element f) = 0
counter (ext f g) = 3
counter (seq fs) = 3
counter (loose fs) = 3
counter (choice t fs) = 3
counter (many lo hi f) = 3
counter (inner f) = 3
counter (soft m r f) = 3
counter (lax m j f) = counter f

-- variable k changes
unfoldable pub forget : ℕ → Val → Val
forget k any = any
forget k (less j d) = cond (eqb j k) any (less j d)

-- a count of none, at the first item
unfoldable pub begun : ℕ → ℕ → Val → Val
begun k j v = cond (eqb j k) (cond (agree v nil) (prior k) any) (forget k v)

-- one item further
unfoldable pub again : ℕ → Val → Val
again k any = any
again k (less j d) = cond (eqb j k) (less j (suc d)) (less j d)

-- a state with each of its counts changed; by the variable that the count goes by
unfoldable pub changed : (ℕ → Val → Val) → State → State
changed h lost = lost
changed h (stands a b l e c p) = stands a b l (h 1 e) (h 2 c) (h 3 p)

-- the states before the first item, before the next, and behind the list
abbrev pub enter : ℕ → List State → List State
enter k A = each (λ σ. changed (λ j v. begun k j v) σ) A

abbrev pub further : ℕ → List State → List State
further k A = each (λ σ. changed (λ j v. again k v) σ) A

abbrev pub leave : ℕ → List State → List State
leave k A = each (λ σ. changed (λ j v. forget k v) σ) A

-- exactly n items from the states B on
unfoldable pub exactly : ℕ → (List State → Exits) → ℕ → List State → Exits
exactly k h zero B = record { next = leave k B; given = []; failed = [] }
exactly k h (suc n) B =
    let X : Exits = h B in
    let Y : Exits = exactly k h n (further k X.next) in
    record { next = Y.next; given = leave k X.given ∪ Y.given; failed = leave k X.failed ∪ Y.failed }

-- any number of later items, from the states B on: B grows, at most g times, until no item leads out of it
unfoldable pub stay : ℕ → ℕ → (List State → Exits) → List State → Exits
stay zero k h B = all_lost
stay (suc g) k h B =
    let Y : Exits = h B in
    let C : List State = further k Y.next in
    let more : Exits = stay g k h (C ∪ B) in
    cond (all_among C B) (record { next = leave k B; given = leave k Y.given; failed = leave k Y.failed }) more

-- any number of items, at least one
unfoldable pub any_number : ℕ → (List State → Exits) → List State → Exits
any_number k h A =
    let X : Exits = h A in
    let Y : Exits = stay 3 k h (further k X.next) in
    record { next = Y.next; given = leave k X.given ∪ Y.given; failed = leave k X.failed ∪ Y.failed }

---------------------------------------------------------------- formats

-- the words of 64 bits
abbrev pub words : ℕ
words = 18446744073709551616

-- behind one of n numbers from lo on, as a word: below zero they are the last of the words
unfoldable pub number_step : Scope → ℕ → ℕ → ℕ → List State → List State
number_step Γ t lo n A =
    cond (leb (lo + n) words) (each (λ σ. step Γ t (value lo n 0) σ) A)
    (cond (leb lo words && leb n words) (each (λ σ. step Γ t (value lo (words - lo) 0) σ) A ∪ each (λ σ. step Γ t (value 0 (lo + n - words) 0) σ) A) anywhere)

-- behind a text of lo units or more, w bits each, i bits for its length
unfoldable pub letters_step : Scope → ℕ → ℕ → Letters → ℕ → ℕ → List State → List State
letters_step Γ t w (first d) lo i A = cond (eqb d 0 && leb (2 ^ w) 128) (each (λ σ. text_step Γ t lo (2 ^ i) σ) A) anywhere
letters_step Γ t w (numeric v) lo i A = cond (eqb lo 12 && (eqb i 0 && leb (2 ^ w) 16)) (each (λ σ. channel_step Γ t v σ) A) anywhere

-- n sizes from k on, of w bits each
unfoldable pub span_step : Scope → ℕ → ℕ → ℕ → ℕ → List State → List State
span_step Γ t w zero k A = []
span_step Γ t w (suc n) k A = cond (eqb (k * w) 0) A (each (λ σ. step Γ t (stretch (k * w) 1) σ) A) ∪ span_step Γ t w n (suc k) A

-- whether failures are followed, and what the choice of an element does behind its index
module _ (track : Bool) (E : Scope → List State → Exits) where
  -- a failure that tells nothing
  unfoldable pub failing : List State → List State
  failing A = cond track A anywhere

  -- a reading from A to B, or one that fails at once
  unfoldable pub leaf : List State → List State → Exits
  leaf A B = record { next = B; given = []; failed = failing A }

  -- the same of a reading with these exits
  unfoldable pub fallible : List State → Exits → Exits
  fallible A X = record { next = X.next; given = X.given; failed = failing A ∪ X.failed }

  -- what has no reader
  unfoldable pub refused : Why → List State → Exits
  refused (out k) A = leaf A []
  refused bad A = leaf A []
  refused lack A = leaf A []
  refused (quit o j m) A = record { next = []; given = A; failed = failing A }

  -- a list: exactly lo items, or any number of them
  unfoldable pub list_items : Bool → ℕ → ℕ → (List State → Exits) → List State → Exits
  list_items true k lo h A = exactly k h lo (enter k A)
  list_items false k lo h A = cond (leb 1 lo) (any_number k h (enter k A)) all_lost

  -- the choice of an element is one of a lent table: any index below 256; any other choice is one of its alternatives
  unfoldable pub chosen : Bool → List State → Exits → Exits → Exits
  chosen true A X Y = record { next = X.next; given = X.given; failed = anywhere }
  chosen false A X Y = fallible A Y

  -- by the format, what is known of the context, and where the walk may stand before
  unfoldable mutual
    pub goes : Fmt → Scope → List State → Exits
    goes (num t lo hi) Γ A = leaf A (number_step Γ t lo (2 ^ width (extent lo hi)) A)
    goes (listed t hi xs) Γ A = leaf A (each (λ σ. step Γ t (value 0 (2 ^ width hi) 0) σ) A)
    goes (name t hi) Γ A = leaf A (each (λ σ. step Γ t (value 0 (suc (extent 0 hi)) 0) σ) A)
    goes (text t n c lo hi) Γ A = leaf A (letters_step Γ t (width (n - 1)) c lo (width (hi - lo)) A)
    goes (span t w lo hi) Γ A = leaf A (span_step Γ t w (2 ^ width (hi - lo)) lo A)
    goes (any_span t w) Γ A = leaf A (A ∪ each (λ σ. step Γ t (stretch 1 524288) σ) A)
    goes (skipped m) Γ A = leaf A A
    goes (small m t) Γ A = leaf A (each (λ σ. step Γ t (value 0 9223372036854775808 0) σ) A ∪ each (λ σ. step Γ t (value 9223372036854775808 9223372036854775808 0) σ) A)
    goes null Γ A = leaf A A
    goes (noted t v s f) Γ A = goes f Γ (each (λ σ. step Γ t (value v 1 s) σ) A)
    goes (placed t f) Γ A = goes f Γ (each (λ σ. step Γ t sort.placed σ) A)
    goes (marked m) Γ A = leaf A A
    goes (refuse w m) Γ A = refused w A
    goes (element f) Γ A = goes f (record { own = Γ.here; here = Γ.here; most = Γ.most }) A
    goes (ext f g) Γ A = fallible A (either (goes f Γ A) (goes g Γ A))
    goes (seq fs) Γ A = fallible A (goes_fields fs Γ A)
    goes (loose fs) Γ A = fallible A (goes_fields fs Γ A)
    goes (choice t fs) Γ A =
        let X : Exits = E Γ (each (λ σ. step Γ t (value 0 256 0) σ) A) in
        let Y : Exits = goes_alts t 0 fs Γ A in
        chosen (eqb t tag.element_index) A X Y
    goes (many lo hi f) Γ A =
        let k : ℕ = suc (counter f) in
        let w : ℕ = width (hi - lo) in
        let Δ : Scope = record { own = forget k Γ.own; here = now k; most = lo + 2 ^ w - 1 } in
        fallible A (list_items (eqb w 0) k lo (λ B. goes f Δ B) A)
    goes (inner f) Γ A = let X : Exits = goes f Γ A in fallible A (record { next = X.next ∪ X.given; given = []; failed = X.failed })
    goes (soft m r f) Γ A = let X : Exits = goes f Γ A in record { next = X.next ∪ cond r X.failed A; given = X.given; failed = X.failed }
    goes (lax m j f) Γ A = let X : Exits = goes f Γ A in record { next = X.next; given = X.given ∪ A; failed = X.failed }

    pub goes_fields : Flds → Scope → List State → Exits
    goes_fields end Γ A = leaf A A
    goes_fields (f ⨾ fs) Γ A = let X : Exits = goes f Γ A in and_then X (goes_fields fs Γ X.next)
    goes_fields (f ⨾? fs) Γ A = let X : Exits = goes f Γ A in and_then X (goes_fields fs Γ (A ∪ X.next))
    goes_fields (or_note t v s f fs) Γ A = let X : Exits = goes f Γ A in and_then X (goes_fields fs Γ (each (λ σ. step Γ t (value v 1 s) σ) A ∪ X.next))
    goes_fields (unread t fs) Γ A = goes_fields fs Γ (A ∪ each (λ σ. step Γ t (value 1 1 0) σ) A)

    -- from the index i on
    pub goes_alts : ℕ → ℕ → Alts → Scope → List State → Exits
    goes_alts t i none_left Γ A = record { next = []; given = []; failed = anywhere }
    goes_alts t i (f ∥ fs) Γ A = either (goes f Γ (each (λ σ. step Γ t (value i 1 0) σ) A)) (goes_alts t (suc i) fs Γ A)
