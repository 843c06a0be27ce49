-- What an entry promises, said of any answers and words that its contract allows.
use Rattle.std.specs.Prelude.{◌≡◌, Bool, true, false, List, ◌++◌, ℕ, ◌+◌, ◌*◌, ◌≤◌, ◌<◌, length, drop, take}
use Rattle.atn.specs.Reading.{Rec}
use Rattle.atn.specs.Places.{Rising}
use Rattle.atn.specs.Entries.{Reply, accept, Outcome, flat, need, Test, frame_fits}
use Rattle.atn.specs.Demands.{passes, Shares, Longer, Enough}
use Rattle.answers.specs.declared.Answer.{Answer}
use Rattle.answers.specs.declared.Answer.TheVariants.{Accepted, Refused}
use Rattle.answers.specs.Says.{Says}

-- "cut or ran out"
abbrev pub Ended : Answer → Type 0
Ended (Accepted c p m k) = c ≡ true
Ended (Refused n p k l) = n ≡ 4

-- demands 1 and 3 of an entry whose outcome is P of frame and words, and which reads the frame by F where all of the tests ts hold
pub record Promises (ts : List Test) (F : List ℕ → Reply) (P : List ℕ → List ℕ → Outcome) : Type 0 where
  -- document 01: "any two outcomes it allows are shown equal": one answer alone, with one content of the words
  pub one : (s w : List ℕ) {r q : Answer} {w₁ w₂ : List ℕ} → Says r w₁ (P s w) → Says q w₂ (P s w) → (r ≡ q) × (w₁ ≡ w₂)
  -- demand 1: "Every call with any frame, table and room ends with an answer or a numbered refusal from document 01": that it ends, and with what P says, is the contract; the number of a refusal is one of 01's table
  pub numbered : (s w : List ℕ) {n p k l : ℕ} {w₁ : List ℕ} → Says (Refused n p k l) w₁ (P s w) → (1 ≤ n) × (n ≤ 7)
  -- document 01: "Only 7 returns a nonzero need"
  pub need_none : (s w : List ℕ) {n p k l : ℕ} {w₁ : List ℕ} → Says (Refused n p k l) w₁ (P s w) → (n ≡ 7 → ⊥) → k ≡ 0
  -- demand 1: "A refusal leaves the lent words untouched"
  pub left : (s w : List ℕ) {n p k l : ℕ} {w₁ : List ℕ} → Says (Refused n p k l) w₁ (P s w) → w₁ ≡ w
  -- demand 3: "With the same entry, direction and table, a whole answer of reach p is given again, same records and marks, for every frame within the length limit that shares those p bits and has at least as much room"
  pub whole : (s t w v : List ℕ) {p m k : ℕ} {r : Answer} {w₁ v₁ : List ℕ} → Says (Accepted false p m k) w₁ (P s w) → Shares s t w v p → Says r v₁ (P t v)
      → (r ≡ Accepted false p m k) × ((R : List Rec) × (k ≡ length R) × (w₁ ≡ flat R ++ drop (need R) w) × (v₁ ≡ flat R ++ drop (need R) v))
  -- "a badly formed refusal holds the same way"
  pub badly_formed : (s t w v : List ℕ) {p k l : ℕ} {r : Answer} {w₁ v₁ : List ℕ} → Says (Refused 5 p k l) w₁ (P s w) → Shares s t w v p → Says r v₁ (P t v) → (r ≡ Refused 5 p k l) × (v₁ ≡ v)
  -- "Cut to whole bytes with fewer than p bits, and given enough room, the frame is cut or ran out, never whole"
  pub cut_short : (s w v : List ℕ) (j : ℕ) {p m k : ℕ} {r : Answer} {w₁ v₁ : List ℕ} → Says (Accepted false p m k) w₁ (P s w) → j * 8 < p → Enough (F (take j s)) v → Says r v₁ (P (take j s) v) → Ended r
  -- "No room is said exactly when an accepted reading's records do not fit": only then, and only behind all of the tests
  pub no_room : (s w : List ℕ) {p k l : ℕ} {w₁ : List ℕ} → Says (Refused 7 p k l) w₁ (P s w) → (frame_fits s ≡ true) × (passes ts ≡ true) × (c : Bool) × (m : ℕ) × (R : List Rec) × (F s ≡ accept c p m R) × (k ≡ need R) × (length w < need R)
  -- and always then
  pub no_room⁻ : (s w : List ℕ) (c : Bool) (p m : ℕ) (R : List Rec) {r : Answer} {w₁ : List ℕ} → frame_fits s ≡ true → passes ts ≡ true → F s ≡ accept c p m R → length w < need R → Says r w₁ (P s w) → (r ≡ Refused 7 p (need R) 0) × (w₁ ≡ w)
  -- the reach is inside the frame, of an answer and of a refusal
  pub within : (s w : List ℕ) {c : Bool} {p m k : ℕ} {w₁ : List ℕ} → Says (Accepted c p m k) w₁ (P s w) → p ≤ length s * 8
  pub within⁻ : (s w : List ℕ) {n p k l : ℕ} {w₁ : List ℕ} → Says (Refused n p k l) w₁ (P s w) → p ≤ length s * 8
  -- request b) of 02: only "ran out" has bits that were lacked, and it has some
  pub lacked_none : (s w : List ℕ) {n p k l : ℕ} {w₁ : List ℕ} → Says (Refused n p k l) w₁ (P s w) → (n ≡ 4 → ⊥) → l ≡ 0
  pub lacked_some : (s w : List ℕ) {p k l : ℕ} {w₁ : List ℕ} → Says (Refused 4 p k l) w₁ (P s w) → 1 ≤ l
  -- "a frame longer by at least that many bits no longer stops at that same read": where it runs out again, it has taken the bits that were lacked
  pub longer : (s t w v : List ℕ) {p k l q j i : ℕ} {w₁ v₁ : List ℕ} → Says (Refused 4 p k l) w₁ (P s w) → Longer s t l → Says (Refused 4 q j i) v₁ (P t v) → (length s * 8 + l ≤ q) × (p < q)
  -- request g) of 02: "For one frame the fifth words never fall from one record to the next", and none is above the reach
  pub rising : (s w : List ℕ) {c : Bool} {p m k : ℕ} {w₁ : List ℕ} → Says (Accepted c p m k) w₁ (P s w) → (R : List Rec) × (k ≡ length R) × (w₁ ≡ flat R ++ drop (need R) w) × Rising 0 R p
