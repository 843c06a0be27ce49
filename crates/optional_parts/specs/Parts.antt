-- What a part of a clearance is that was read and told: while it goes on its records are told, it never passes the window's end, and it is never given up.
use Rattle.std.specs.Prelude.{◌≡◌, List, [], ◌∷◌, ℕ, ◌+◌, ◌/◌, ◌%◌, ◌^◌}
use Rattle.x691.specs.Bits.{bit_of}
use Rattle.atn.specs.Format.{Fmt, Flds, end, ◌⨾◌, ◌⨾?◌, or_note, unread}
use Rattle.atn.specs.Reading.{Rec, rec, Ctx, Ans, ok, then, fork, mark, flags, read}
use Rattle.cursor.specs.declared.place.Cursor.{Cursor}
use Rattle.cursor.specs.Place.{Inside, Reads}
use Rattle.records.specs.Told.{Told}
use Rattle.runs.specs.declared.At.{At}

-- the reading k was run from c, with n records before: at most b records were told
pub record Part (b : ℕ) (k : ℕ → ℕ → Ans) (s : List ℕ) (c : Cursor) (n : ℕ) (w w' : List ℕ) (r : At) : Type 0 where
  pub recs : List Rec
  pub reads : Reads k s c r.c recs
  pub quiet : Inside s c → (c.why ≡ 0 → ⊥) → recs ≡ []
  pub told : Told b w w' n r.n recs

-- a part that stands there unless its presence bit is clear
abbrev pub present : ℕ → (ℕ → ℕ → Ans) → ℕ → ℕ → Ans
present has k e at = fork has (ok at [] 0) (k e at)

-- a format with a presence bit, whatever the place of the clearance that it stands in
pub record Optional (b has : ℕ) (f : Fmt) (s : List ℕ) (c : Cursor) (n : ℕ) (w w' : List ℕ) (r : At) : Type 0 where
  pub run : (i : ℕ) → Part b (present has (λ e p. read f (0, i) (bit_of s) e p)) s c n w w' r

-- some fields of a sequence whose presence bits are the number v, the last r of them of the fields behind these
unfoldable pub chosen : Flds → ℕ → ℕ → Ctx → (ℕ → ℕ) → ℕ → ℕ → Ans
chosen end r v x b e at = ok at [] 0
chosen (f ⨾ fs) r v x b e at = then (read f x b e at) λ p. chosen fs r v x b e p
chosen (f ⨾? fs) r v x b e at = then (fork (v / 2 ^ (flags fs + r) % 2) (ok at [] 0) (read f x b e at)) λ p. chosen fs r v x b e p
chosen (or_note t y z f fs) r v x b e at = then (fork (v / 2 ^ (flags fs + r) % 2) (ok at (rec t x.0 y z at ∷ []) 0) (read f x b e at)) λ p. chosen fs r v x b e p
chosen (unread t fs) r v x b e at = then (fork (v / 2 ^ (flags fs + r) % 2) (ok at [] 0) (ok at (rec t x.0 1 0 at ∷ []) (mark 4))) λ p. chosen fs r v x b e p

pub record Fields (b : ℕ) (fs : Flds) (o v : ℕ) (s : List ℕ) (c : Cursor) (n : ℕ) (w w' : List ℕ) (r : At) : Type 0 where
  pub run : (i : ℕ) → Part b (λ e p. chosen fs o v (0, i) (bit_of s) e p) s c n w w' r
