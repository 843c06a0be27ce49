-- What is known in front of a reading, computed from the format alone and from what is known behind it.
use mathlib.Core.Bool.{Bool, false, cond, ◌&&◌}
use mathlib.Core.List.{List, [], ◌∷◌}
use Prim.Native.Nat.{ℕ, zero, suc}
use lib.Dec.{leb, eqb}
use Rattle.atn.specs.Format.{Fmt, num, listed, name, text, span, any_span, skipped, small, null, noted, placed, marked, refuse, element, ext, seq, loose, choice, many, inner, soft, lax}
use Rattle.atn.specs.Format.{Flds, end, ◌⨾◌, ◌⨾?◌, or_note, unread, Alts, none_left, ◌∥◌, Letters, first, numeric}
use Rattle.atn.specs.Messages.{arguments, argument, no_reader}
use Rattle.atn.specs.Tags as tags
use Rattle.agreement_promises.specs.Kept.{byte_kind}
use Rattle.agreement_promises.proofs.States.{State, anything, ◌∪◌, all_among, told, all_fit, indexed, nothing, all_known}

-- in front of any number of items: B grows, at most g times, until no item leads out of it
unfoldable pub closure : ℕ → (List State → List State) → List State → List State
closure zero h B = anything
closure (suc g) h B = cond (all_among (h B) B) B (closure g h (h B ∪ B))

-- in front of n items
unfoldable pub items : ℕ → (List State → List State) → List State → List State
items zero h B = B
items (suc n) h B = h (items n h B)

-- in front of any number of records with one tag; of one at least
unfoldable pub texts : Bool → ℕ → List State → List State
texts some t N = let B : List State = closure 4 (λ M. told t M) N in cond some (told t B) B

unfoldable pub letters : ℕ → Letters → Bool → List State → List State
letters t (first c) some N = texts some t N
letters t (numeric u) some N = texts some t (texts false u N)

-- what the choice of an element does, with its index
module _ (E : List State → List State → List State → List State) where
  -- behind a reading that goes on N is known, behind one that is given up G, and behind one that fails F
  unfoldable mutual
    pub back : Fmt → List State → List State → List State → List State
    back (num t lo hi) N G F = told t N ∪ F
    back (listed t hi xs) N G F = told t N ∪ F
    back (name t hi) N G F = told t N ∪ F
    back (text t n c lo hi) N G F = letters t c (leb 1 lo) N ∪ F
    back (span t w lo hi) N G F = (told t N ∪ N) ∪ F
    back (any_span t w) N G F = (told t N ∪ N) ∪ F
    back (skipped m) N G F = N ∪ F
    back (small m t) N G F = told t N ∪ F
    back null N G F = N
    back (noted t v s f) N G F = told t (back f N G F)
    back (placed t f) N G F = told t (back f N G F)
    back (marked m) N G F = N
    back (refuse w m) N G F = G ∪ F
    back (element f) N G F = back f N G F
    back (ext f g) N G F = (back f N G F ∪ back g N G F) ∪ F
    back (seq fs) N G F = back_fields fs N G F ∪ F
    back (loose fs) N G F = back_fields fs N G F ∪ F
    back (choice t fs) N G F = cond (eqb t tags.element_index) (E N G F) (told t (back_alts fs N G F)) ∪ F
    back (many lo hi f) N G F = items lo (λ M. back f M G F) (closure 4 (λ M. back f M G F) N) ∪ F
    back (inner f) N G F = back f N N F ∪ F
    back (soft m r f) N G F = back f N G (F ∪ cond r N []) ∪ N
    back (lax m j f) N G F = back f N G F ∪ G

    pub back_fields : Flds → List State → List State → List State → List State
    back_fields end N G F = N
    back_fields (f ⨾ fs) N G F = back f (back_fields fs N G F) G F
    back_fields (f ⨾? fs) N G F = let M : List State = back_fields fs N G F in M ∪ back f M G F
    back_fields (or_note t v s f fs) N G F = let M : List State = back_fields fs N G F in told t M ∪ back f M G F
    back_fields (unread t fs) N G F = let M : List State = back_fields fs N G F in M ∪ told t M

    pub back_alts : Alts → List State → List State → List State → List State
    back_alts none_left N G F = F
    back_alts (f ∥ fs) N G F = back f N G F ∪ back_alts fs N G F

-- a part that holds no element
abbrev pub back_plain : Fmt → List State → List State → List State → List State
back_plain f N G F = back (λ _ _ _. anything) f N G F

-- each argument fits the kind of its byte, from k on; a byte behind the last has none
unfoldable pub arguments_fit : (Fmt → List State) → ℕ → List Fmt → Bool
arguments_fit h k [] = leb 17 k && all_fit 0 (h (argument no_reader))
arguments_fit h k (f ∷ fs) = all_fit (byte_kind k) (h (argument f)) && arguments_fit h (suc k) fs

-- an element of any lent table: its index, and behind it the argument
unfoldable pub elements_fit : List State → List State → List State → Bool
elements_fit N G F = (all_fit 0 N && all_fit 0 F) && arguments_fit (λ f. back_plain f N G F) 1 arguments

unfoldable pub back_element : List State → List State → List State → List State
back_element N G F = cond (elements_fit N G F) indexed anything

-- each index has its kind in every list that is accepted
unfoldable pub all_kept : Fmt → Bool
all_kept f = all_known (back (λ N G F. back_element N G F) f nothing nothing [])
