-- The writer over a format: what it writes is read back clean and shows the same, and what is read clean is written again.
use mathlib.Core.Path.{◌≡◌, refl, sym, ap, ◌∙◌}
use mathlib.Core.Bool.{Bool, true, false, cond}
use mathlib.Core.Option.{none, some}
use mathlib.Core.List.{List, [], ◌∷◌, append-nil}
use Prim.Native.Nat.{ℕ, ◌+◌, ◌*◌, ◌≤◌}
use native.Mathlib.Omega.{arith}
use lib.ListN.{length}
use Rattle.x691.specs.Bits.{bit_of, Spells}
use Rattle.x691.specs.Types.{Value}
use Rattle.x691.specs.Encoding.{encode}
use Rattle.x691.specs.Range.{InRange}
use Rattle.atn.specs.Format.{Fmt, type_of}
use Rattle.atn.specs.Reading.{Rec, rec}
use Rattle.atn.specs.Told.{tell}
use Rattle.atn.specs.Entries.{accept, read_frame}
use Rattle.atn.specs.Demands.{Message}
use Rattle.atn.proofs.Demands.{message-clean}
use Rattle.record_lists.specs.Items.{Item, look, inside, unplaced}
use Rattle.record_lists.specs.Shown.{shown}
use Rattle.record_lists.specs.Clear.{clear}
use Rattle.record_lists.specs.Parse.{Got, no, got, parse}
use Rattle.record_lists.specs.Plain.{Plain}
use Rattle.record_lists.specs.Write.{encoded, write}
use Rattle.record_lists.proofs.Forth.{forth}
use Rattle.record_lists.proofs.Back.{back}
use Rattle.record_lists.proofs.Seen.{seen}
use Rattle.record_lists.proofs.Spared.{plain_got}
use Rattle.record_lists.proofs.Messages.{nothing}

encoded_inv : (f : Fmt) (x : Got (Value (type_of f))) {B : List ℕ} → encoded f x ≡ some B → (v : Value (type_of f)) × (x ≡ got v []) × (B ≡ encode (type_of f) v)
unfolding encoded
encoded_inv f no h = nothing h
encoded_inv f (got v []) h = (v, refl, cc)
encoded_inv f (got v (i ∷ R)) h = nothing h

-- what an accepted list is: the list R, whose spans point into the bits b, e of them, shows a value in range, and B are its bits
pub record Lists (sp : ℕ → Bool) (f : Fmt) (b : ℕ → ℕ) (e : ℕ) (R : List Rec) (B : List ℕ) : Type 0 where
  pub val : Value (type_of f)
  pub in_range : InRange (type_of f) val
  pub shows : look sp b R ≡ shown f val (0, 0)
  pub coded : B ≡ encode (type_of f) val
  pub within : inside sp e R ≡ true

pub write_inv : (sp : ℕ → Bool) (f : Fmt) (b : ℕ → ℕ) (e : ℕ) (R : List Rec) {B : List ℕ} → write sp f b e R ≡ some B → Lists sp f b e R B
unfolding write
write_inv sp f b e R {B} h = go (inside sp e R) refl h
  where
    go : (t : Bool) → inside sp e R ≡ t → cond t (encoded f (parse f (0, 0) (look sp b R))) none ≡ some B → Lists sp f b e R B
    go true q k =
        let x = encoded_inv f (parse f (0, 0) (look sp b R)) k in
        let y = forth f (0, 0) (look sp b R) x.1 in
        record { val = x.0; in_range = y.0; shows = y.1 ∙ append-nil (shown f x.0 (0, 0)); coded = x.2; within = q }
    go false q k = nothing k

-- what is written is the encoding of a plain value: no default is written out, and no part that shows nothing
pub write-plain : (sp : ℕ → Bool) (f : Fmt) (b : ℕ → ℕ) (e : ℕ) (R : List Rec) {B : List ℕ} → clear sp f [] ≡ true → write sp f b e R ≡ some B → (l : Lists sp f b e R B) × Plain f l.val (0, 0)
unfolding write
write-plain sp f b e R {B} c h = go (inside sp e R) refl h
  where
    go : (t : Bool) → inside sp e R ≡ t → cond t (encoded f (parse f (0, 0) (look sp b R))) none ≡ some B → (l : Lists sp f b e R B) × Plain f l.val (0, 0)
    go true q k =
        let x = encoded_inv f (parse f (0, 0) (look sp b R)) k in
        let y = forth f (0, 0) (look sp b R) x.1 in
        (record { val = x.0; in_range = y.0; shows = y.1 ∙ append-nil (shown f x.0 (0, 0)); coded = x.2; within = q }, plain_got f (0, 0) sp [] (look sp b R) c x.1 tt)
    go false q k = nothing k

-- a list that shows a plain value is accepted
pub write_go : (sp : ℕ → Bool) (f : Fmt) (b : ℕ → ℕ) (e : ℕ) (R : List Rec) (B : List ℕ) → clear sp f [] ≡ true → (l : Lists sp f b e R B) → Plain f l.val (0, 0) → write sp f b e R ≡ some B
unfolding write encoded
write_go sp f b e R B c l j =
    let v : Value (type_of f) = l.val in
    let z : parse f (0, 0) (look sp b R) ≡ got v [] = ap (λ (z : List Item). parse f (0, 0) z) (l.shows ∙ sym (append-nil (shown f v (0, 0)))) ∙ back f v (0, 0) sp [] [] c l.in_range j tt in
    rw (l.within, z, l.coded)

-- a frame that begins with the bits written holds a message that shows the same: its reading is clean, with the reach behind those bits
pub record Again (sp : ℕ → Bool) (f : Fmt) (b : ℕ → ℕ) (R : List Rec) (B : List ℕ) (s : List ℕ) : Type 0 where
  pub recs : List Rec
  pub clean : read_frame f s ≡ accept false (length B) 0 recs
  pub same : look sp (bit_of s) recs ≡ look sp b R
  pub within : inside sp (length s * 8) recs ≡ true

pub written : (sp : ℕ → Bool) (f : Fmt) (b : ℕ → ℕ) (e : ℕ) (R : List Rec) (B : List ℕ) → clear sp f [] ≡ true → write sp f b e R ≡ some B → (s : List ℕ) → Spells (bit_of s) 0 B → length B ≤ length s * 8 → Again sp f b R B s
written sp f b e R B c h s sb l =
    let x = write_inv sp f b e R h in
    let v : Value (type_of f) = x.val in
    let i : Spells (bit_of s) 0 (encode (type_of f) v) = rw x.coded at sb in
    let j : 0 + length (encode (type_of f) v) ≤ length s * 8 = omega (arith, l, ap (λ (z : List ℕ). length z) x.coded) in
    let y = seen sp (bit_of s) (length s * 8) f v (0, 0) [] 0 c x.in_range i j in
    let m : Message f s (length B) (tell f v (0, 0) 0) = record { val = v; in_range = x.in_range; spelt = i; long = ap (λ (z : List ℕ). length z) x.coded; inside = l; recs = refl } in
    record { recs = tell f v (0, 0) 0; clean = message-clean f s (length B) (tell f v (0, 0) 0) m; same = y.looks ∙ sym x.shows; within = y.within }

-- the records of a message whose value is plain are accepted, and give the frame's bits up to the reach
pub rewritten : (sp : ℕ → Bool) (f : Fmt) (s : List ℕ) (p : ℕ) (R : List Rec) → clear sp f [] ≡ true → (m : Message f s p R) → Plain f m.val (0, 0)
    → (B : List ℕ) × (write sp f (bit_of s) (length s * 8) R ≡ some B) × Spells (bit_of s) 0 B × (p ≡ length B)
rewritten sp f s p R c m j =
    let v : Value (type_of f) = m.val in
    let k : 0 + length (encode (type_of f) v) ≤ length s * 8 = omega (arith, m.long, m.inside) in
    let y = seen sp (bit_of s) (length s * 8) f v (0, 0) [] 0 c m.in_range m.spelt k in
    let l : Lists sp f (bit_of s) (length s * 8) R (encode (type_of f) v) =
    record { val = v; in_range = m.in_range; shows = ap (λ (z : List Rec). look sp (bit_of s) z) m.recs ∙ y.looks; coded = refl; within = ap (λ (z : List Rec). inside sp (length s * 8) z) m.recs ∙ y.within } in
    (encode (type_of f) v, write_go sp f (bit_of s) (length s * 8) R (encode (type_of f) v) c l j, m.spelt, m.long)

-- one showing, one message: where the spans are does not matter
pub write_same : (sp : ℕ → Bool) (f : Fmt) (b c : ℕ → ℕ) (d e : ℕ) (R S : List Rec) → look sp b R ≡ look sp c S → inside sp d R ≡ true → inside sp e S ≡ true → write sp f b d R ≡ write sp f c e S
unfolding write
write_same sp f b c d e R S h x y = rw (x, y, h)

-- nor does it matter where the fields started: "the writer of a) ignores the fifth word"
look-unplaced : (sp : ℕ → Bool) (b : ℕ → ℕ) (R : List Rec) → look sp b (unplaced R) ≡ look sp b R
unfolding look unplaced
look-unplaced sp b [] = refl
look-unplaced sp b (rec t m v s q ∷ R) = rw (look-unplaced sp b R)

inside-unplaced : (sp : ℕ → Bool) (e : ℕ) (R : List Rec) → inside sp e (unplaced R) ≡ inside sp e R
unfolding inside unplaced
inside-unplaced sp e [] = refl
inside-unplaced sp e (rec t m v s q ∷ R) = rw (inside-unplaced sp e R)

pub write-unplaced : (sp : ℕ → Bool) (f : Fmt) (b : ℕ → ℕ) (e : ℕ) (R : List Rec) → write sp f b e (unplaced R) ≡ write sp f b e R
unfolding write
write-unplaced sp f b e R = rw (look-unplaced sp b R, inside-unplaced sp e R)
