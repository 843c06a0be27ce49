-- The demands on an entry, said of its outcome. An entry is a function of frame and words, so every call has one; in the quoted sentences p is the reach.
use Rattle.std.specs.Prelude.{◌≡◌, Bool, true, false, ◌&&◌, List, [], ◌∷◌, ◌++◌, ℕ, ◌+◌, ◌*◌, ◌≤◌, ◌<◌, length, drop, take}
use Rattle.x691.specs.Bits.{bit_of, Spells}
use Rattle.x691.specs.Types.{Value}
use Rattle.x691.specs.Encoding.{encode}
use Rattle.x691.specs.Range.{InRange}
use Rattle.atn.specs.Format.{Fmt, type_of}
use Rattle.atn.specs.Reading.{Rec}
use Rattle.atn.specs.Told.{tell}
use Rattle.atn.specs.Entries.{Reply, accept, ran_out, badly, unsupplied, accepted, refused, Outcome, flat, need, Test, test, frame_fits}

---------------------------------------------------------------- what the demands speak of

-- all tests hold
unfoldable pub passes : List Test → Bool
passes [] = true
passes (test t n ∷ ts) = t && passes ts

-- the two agree below p
abbrev pub Agree : (ℕ → ℕ) → (ℕ → ℕ) → ℕ → Type 0
Agree b c p = (i : ℕ) → i < p → b i ≡ c i

-- the first p bits of the frame are the encoding of a message of the format's type, which is Schema.antt's (proofs/Agreement.antt), and R are that message's records
pub record Message (f : Fmt) (s : List ℕ) (p : ℕ) (R : List Rec) : Type 0 where
  pub val : Value (type_of f)
  pub in_range : InRange (type_of f) val
  pub spelt : Spells (bit_of s) 0 (encode (type_of f) val)
  pub long : p ≡ length (encode (type_of f) val)
  pub inside : p ≤ length s * 8
  pub recs : R ≡ tell f val (0, 0) 0

-- the frame t, "within the length limit", "shares those p bits" of the frame s, and the words v are "at least as much room" as the words w
pub record Shares (s t w v : List ℕ) (p : ℕ) : Type 0 where
  pub limit : frame_fits t ≡ true
  pub bits : Agree (bit_of s) (bit_of t) p
  pub there : p ≤ length t * 8
  pub room : length w ≤ length v

-- the frame t begins with the bits of the frame s, and is longer by at least k bits
pub record Longer (s t : List ℕ) (k : ℕ) : Type 0 where
  pub bits : Agree (bit_of s) (bit_of t) (length s * 8)
  pub more : length s * 8 + k ≤ length t * 8

-- an answer that says that the frame ended: "cut or ran out"
pub data CutOrOut : Outcome → Type 0 where
  cut : (p m k : ℕ) (w : List ℕ) → CutOrOut (accepted true p m k, w)
  ended : (p l : ℕ) (w : List ℕ) → CutOrOut (refused 4 p 0 l, w)

-- "enough room": the words hold the records, if the reading is accepted
abbrev pub Enough : Reply → List ℕ → Type 0
Enough (accept c p m R) w = need R ≤ length w
Enough (ran_out p l) w = Unit {0}
Enough (badly p) w = Unit {0}
Enough (unsupplied p) w = Unit {0}

-- "an accepted reading's records do not fit": k words are needed, and the words stay
pub record NoRoom (r : Reply) (w : List ℕ) (p k : ℕ) (w' : List ℕ) : Type 0 where
  pub cut : Bool
  pub marks : ℕ
  pub recs : List Rec
  pub replied : r ≡ accept cut p marks recs
  pub needs : k ≡ need recs
  pub full : length w < need recs
  pub words : w' ≡ w

---------------------------------------------------------------- the demands

-- demands 1 and 3 of an entry P of frame and words, which reads by F where all of the tests ts hold
pub record Owes (ts : List Test) (F : List ℕ → Reply) (P : List ℕ → List ℕ → Outcome) : Type 0 where
  -- 3: "a whole answer of reach p is given again, same records and marks, for every frame within the length limit that shares those p bits and has at least as much room"
  pub whole : (s t w v : List ℕ) {p m k : ℕ} {w' : List ℕ} → P s w ≡ (accepted false p m k, w') → Shares s t w v p
      → (R : List Rec) × (k ≡ length R) × (w' ≡ flat R ++ drop (need R) w) × (P t v ≡ (accepted false p m k, flat R ++ drop (need R) v))
  -- "a badly formed refusal holds the same way"
  pub badly_formed : (s t w v : List ℕ) {p k l : ℕ} {w' : List ℕ} → P s w ≡ (refused 5 p k l, w') → Shares s t w v p → P t v ≡ (refused 5 p k l, v)
  -- "Cut to whole bytes with fewer than p bits, and given enough room, the frame is cut or ran out, never whole"
  pub cut_short : (s w v : List ℕ) (j : ℕ) {p m k : ℕ} {w' : List ℕ} → P s w ≡ (accepted false p m k, w') → j * 8 < p → Enough (F (take j s)) v → CutOrOut (P (take j s) v)
  -- the lent words keep their number
  pub kept : (s w : List ℕ) → length (P s w).1 ≡ length w
  -- 1: "A refusal leaves the lent words untouched"
  pub left : (s w : List ℕ) {n p k l : ℕ} {w' : List ℕ} → P s w ≡ (refused n p k l, w') → w' ≡ w
  -- 3: "No room is said exactly when an accepted reading's records do not fit": only then
  pub no_room : (s w : List ℕ) {p k l : ℕ} {w' : List ℕ} → P s w ≡ (refused 7 p k l, w') → (frame_fits s ≡ true) × (passes ts ≡ true) × NoRoom (F s) w p k w'
  -- and always then
  pub no_room⁻ : (s w : List ℕ) (c : Bool) (p m : ℕ) (R : List Rec) → frame_fits s ≡ true → passes ts ≡ true → F s ≡ accept c p m R → length w < need R → P s w ≡ (refused 7 p (need R) 0, w)
  -- the reach is inside the frame, of an answer and of a refusal
  pub within : (s w : List ℕ) {c : Bool} {p m k : ℕ} {w' : List ℕ} → P s w ≡ (accepted c p m k, w') → p ≤ length s * 8
  pub within⁻ : (s w : List ℕ) {n p k l : ℕ} {w' : List ℕ} → P s w ≡ (refused n p k l, w') → p ≤ length s * 8
  -- request b) of 02: only "ran out" has bits that were lacked, and it has some
  pub lacked_none : (s w : List ℕ) {n p k l : ℕ} {w' : List ℕ} → P s w ≡ (refused n p k l, w') → (n ≡ 4 → ⊥) → l ≡ 0
  pub lacked_some : (s w : List ℕ) {p k l : ℕ} {w' : List ℕ} → P s w ≡ (refused 4 p k l, w') → 1 ≤ l
  -- "a frame longer by at least that many bits no longer stops at that same read": where it runs out again, it has taken the bits that were lacked
  pub longer : (s t w v : List ℕ) {p k l q j i : ℕ} {w' v' : List ℕ} → P s w ≡ (refused 4 p k l, w') → Longer s t l → P t v ≡ (refused 4 q j i, v') → (length s * 8 + l ≤ q) × (p < q)

-- demand 2 of an entry P that reads by the format f: "With the direction fixed and room enough, a whole answer without marks is given exactly when the bits up to its reach encode a message of 01's schema under X.691"
pub record ReadsClean (ts : List Test) (f : Fmt) (P : List ℕ → List ℕ → Outcome) : Type 0 where
  -- only then, and the records are the message's
  pub sound : (s w : List ℕ) {p k : ℕ} {w' : List ℕ} → P s w ≡ (accepted false p 0 k, w') → (R : List Rec) × Message f s p R × (k ≡ length R) × (w' ≡ flat R ++ drop (need R) w)
  -- always then
  pub complete : (s w : List ℕ) (p : ℕ) (R : List Rec) → frame_fits s ≡ true → passes ts ≡ true → Message f s p R → need R ≤ length w → P s w ≡ (accepted false p 0 (length R), flat R ++ drop (need R) w)
