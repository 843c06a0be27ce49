-- Formats: ASN.1 types with what document 01 adds to them, the tags of the records and what a reading tolerates.
use Rattle.std.specs.Prelude.{Bool, List, ℕ, ◌^◌}
use Rattle.x691.specs.Types.{Asn, NULL, UNLISTED, INTEGER, ONE-OF, STRING, ANY-STRING, EXTENSIBLE, SEQUENCE, CHOICE, SEQUENCE-OF, CONTAINING}
use Rattle.x691.specs.Types.{Members, END, ◌&◌, ◌&?◌, Alternatives, NONE, ◌∣◌}

-- why a reading stops
pub data Why : Type 0 where
  -- 4: a required read passes the end, with the bits that it lacked
  out : ℕ → Why
  -- 5: badly formed; 6: an unsupplied item is reached
  bad lack : Why
  -- a part was given up, with all that follows it in its window, and the window is accepted:
  -- whether the window's end was the cause, whether the bits left count for mark 6, the mark of the part
  quit : Bool → Bool → ℕ → Why

-- by which characters the units of an alphabet are told
pub data Letters : Type 0 where
  -- one text: the code of the first unit, from which the others count
  first : ℕ → Letters
  -- a NumericString: the source's text, whose first unit is the digit 0, and behind it X.680's, whose first unit is the space, with this tag
  numeric : ℕ → Letters

infixr 40 ◌⨾◌
infixr 40 ◌⨾?◌
infixr 40 ◌∥◌
mutual
  pub data Fmt : Type 0 where
    -- a number: tag, lowest, highest; the highest is not tested, above it is mark 1
    num : ℕ → ℕ → ℕ → Fmt
    -- a number of which only some are listed: tag, highest, the listed ones; any other is mark 1
    listed : ℕ → ℕ → List ℕ → Fmt
    -- a name by its place: tag, highest place; above it is badly formed, and mark 1
    name : ℕ → ℕ → Fmt
    -- a text: tag, size of the alphabet, its characters, fewest and most of them
    text : ℕ → ℕ → Letters → ℕ → ℕ → Fmt
    -- a string that is told by its span: tag, bits of a unit, fewest and most units
    span : ℕ → ℕ → ℕ → ℕ → Fmt
    -- the same with a length determinant; where it is empty it is not told
    any_span : ℕ → ℕ → Fmt
    -- a length determinant and so many octets, neither told nor looked at: mark
    skipped : ℕ → Fmt
    -- a normally small number: mark, tag
    small : ℕ → ℕ → Fmt
    -- no bits
    null : Fmt
    -- a part with a record before it that has no bits: tag, value, second number
    noted : ℕ → ℕ → ℕ → Fmt → Fmt
    -- a part with a record before it of its place in the nearest list: tag
    placed : ℕ → Fmt → Fmt
    -- a mark and no bits
    marked : ℕ → Fmt
    -- what has no reader: why it stops there, and the set of marks
    refuse : Why → ℕ → Fmt
    -- the part is an element of the message, its number its place in the nearest list
    element : Fmt → Fmt
    -- what follows a clear extension bit, and what follows a set one
    ext : Fmt → Fmt → Fmt
    seq : Flds → Fmt
    -- a sequence whose presence bits past the window's end count as clear
    loose : Flds → Fmt
    -- tag of the index
    choice : ℕ → Alts → Fmt
    -- fewest, most
    many : ℕ → ℕ → Fmt → Fmt
    -- a BIT STRING that is read as a window of its own
    inner : Fmt → Fmt
    -- a part whose failure is passed over, with this mark where it is badly formed, and cut where it ran out; whether its records so far stay
    soft : ℕ → Bool → Fmt → Fmt
    -- a part whose failure gives it up with all that follows in the window: mark, whether bits left count for mark 6
    lax : ℕ → Bool → Fmt → Fmt

  pub data Flds : Type 0 where
    end : Flds
    ◌⨾◌ : Fmt → Flds → Flds
    ◌⨾?◌ : Fmt → Flds → Flds
    -- an optional part whose absence has a record: tag, value, second number
    or_note : ℕ → ℕ → ℕ → Fmt → Flds → Flds
    -- a part that is known from its presence bit, and not read: its tag, mark 4
    unread : ℕ → Flds → Flds

  pub data Alts : Type 0 where
    none_left : Alts
    ◌∥◌ : Fmt → Alts → Alts

-- the type whose values are read clean
abbrev mutual
  pub type_of : Fmt → Asn
  type_of (num t lo hi) = INTEGER lo hi
  type_of (listed t hi xs) = ONE-OF hi xs
  type_of (name t hi) = INTEGER 0 hi
  type_of (text t n c lo hi) = STRING n lo hi
  type_of (span t w lo hi) = STRING (2 ^ w) lo hi
  type_of (any_span t w) = ANY-STRING (2 ^ w)
  type_of (skipped m) = UNLISTED
  type_of (small m t) = UNLISTED
  type_of null = NULL
  type_of (noted t v s f) = type_of f
  type_of (placed t f) = type_of f
  type_of (marked m) = UNLISTED
  type_of (refuse w m) = UNLISTED
  type_of (element f) = type_of f
  type_of (ext f g) = EXTENSIBLE (type_of f)
  type_of (seq fs) = SEQUENCE (members_of fs)
  type_of (loose fs) = SEQUENCE (members_of fs)
  type_of (choice t fs) = CHOICE (alternatives_of fs)
  type_of (many lo hi f) = SEQUENCE-OF lo hi (type_of f)
  type_of (inner f) = CONTAINING (type_of f)
  type_of (soft m k f) = type_of f
  type_of (lax m j f) = type_of f

  pub members_of : Flds → Members
  members_of end = END
  members_of (f ⨾ fs) = type_of f & members_of fs
  members_of (f ⨾? fs) = type_of f &? members_of fs
  members_of (or_note t v s f fs) = type_of f &? members_of fs
  members_of (unread t fs) = UNLISTED &? members_of fs

  pub alternatives_of : Alts → Alternatives
  alternatives_of none_left = NONE
  alternatives_of (f ∥ fs) = type_of f ∣ alternatives_of fs
