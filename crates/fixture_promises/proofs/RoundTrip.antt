-- What is written is read back clean, and shows what the list shows.
use mathlib.Core.Path.{◌≡◌, sym, ap, ◌∙◌}
use mathlib.Core.Bool.{true, false, ◌&&◌}
use mathlib.Core.Option.{some}
use mathlib.Core.List.{List, [], ◌++◌, append-nil}
use Prim.Native.Nat.{ℕ, ◌+◌, ◌*◌, ◌/◌, ◌≤◌, ◌<◌}
use native.Mathlib.Omega.{arith}
use lib.ListN.{length, take, drop, get_or}
use lib.Seq.{take_at}
use borrow.Author.Tests.{le-leb}
use Rattle.x691.specs.Bits.{bit_of, Spells}
use Rattle.x691.specs.Range.{All}
use Rattle.atn.specs.Format.{Fmt, type_of}
use Rattle.atn.specs.Reading.{Rec}
use Rattle.atn.specs.Entries.{accept, read_frame, frame_fits, table_fits, direction_fits}
use Rattle.record_lists.specs.Items.{look, inside}
use Rattle.record_lists.specs.Kinds.{span_tag, kind_of}
use Rattle.record_lists.specs.Write.{write}
use Rattle.record_lists.specs.Message.{records_of, bytes_needed, bytes_of, write_message}
use Rattle.record_lists.specs.Message as message
use Rattle.record_lists.proofs.Written.{write_inv, written}
use Rattle.record_lists.proofs.Messages.{clear_kind}
use Rattle.record_lists.specs.Most.{most}
use Rattle.record_lists.proofs.Longest.{longest}
use Rattle.fixture_promises.proofs.BitsBelow.{encode_below}
use Rattle.fixture_promises.proofs.Bytes.{bytes-length, bytes_below, bytes_spell, bytes-room}
use Rattle.fixture_promises.proofs.Accepted.{Accepted, accepted}

-- the bits that a list gives are bits
pub write-below : (f : Fmt) (b : ℕ → ℕ) (e : ℕ) (R : List Rec) {B : List ℕ} → write span_tag f b e R ≡ some B → All (λ c. c < 2) B
write-below f b e R h = let x = write_inv span_tag f b e R h in rw x.coded (encode_below (type_of f) x.val x.in_range)

-- and no more than the format has at most
pub write-most : (f : Fmt) (b : ℕ → ℕ) (e : ℕ) (R : List Rec) {B : List ℕ} → write span_tag f b e R ≡ some B → length B ≤ most f
write-most f b e R h = let x = write_inv span_tag f b e R h in rw x.coded (longest f x.val x.in_range)

-- the bytes that the bits fill are theirs
pub front_bytes : {k d : ℕ} {down up W s out : List ℕ} {n : ℕ} {out' : List ℕ} (a : Accepted k d down up W s out n out') → take ((n + 7) / 8) out' ≡ bytes_of a.bits
unfolding bytes_needed
front_bytes {out = out} {out' = out'} a =
    let B : List ℕ = a.bits in
    ap (λ (z : ℕ). take ((z + 7) / 8) out') a.count ∙ ap (λ (z : List ℕ). take (bytes_needed B) z) a.filled ∙ take_at (bytes_of B) (drop (bytes_needed B) out) (bytes_needed B) (bytes-length B)

-- what n bits written into the lent bytes `out`, now out', promise
pub record ReadBack (k d : ℕ) (down up W s out : List ℕ) (n : ℕ) (out' : List ℕ) : Type 0 where
  -- the message's format
  pub format : Fmt
  pub kind : kind_of k d down up ≡ some format
  -- the tables and the direction are such as every reading takes
  pub tables : table_fits down && table_fits up ≡ true
  pub direction : direction_fits d ≡ true
  -- the message's bits, n of them, each 0 or 1
  pub bits : List ℕ
  pub count : n ≡ length bits
  pub below : All (λ c. c < 2) bits
  -- their bytes, each below 256, fill the front of the lent bytes; those behind stay
  pub filled : out' ≡ bytes_of bits ++ drop (bytes_needed bits) out
  pub front : take ((n + 7) / 8) out' ≡ bytes_of bits
  pub bytes : (i : ℕ) → get_or (bytes_of bits) i 0 < 256
  -- these bytes are read by the format clean, with reach n
  pub recs : List Rec
  pub clean : read_frame format (bytes_of bits) ≡ accept false n 0 recs
  -- the records read show what the list shows: the same records, wherever their fields start now, and for a span the same bits
  pub same : look span_tag (bit_of (bytes_of bits)) recs ≡ look span_tag (bit_of s) (records_of W)
  pub within : inside span_tag (length (bytes_of bits) * 8) recs ≡ true
  -- they are a frame of a length that is read
  pub limit : most format ≤ 65536 → frame_fits (bytes_of bits) ≡ true

-- whatever is written is read back
pub written_read : (k d : ℕ) (down up W s out : List ℕ) {n : ℕ} {out' : List ℕ} → write_message k d down up W s out ≡ (message.written n, out') → ReadBack k d down up W s out n out'
unfolding frame_fits bytes_needed
written_read k d down up W s out {n} {out'} h =
    let a = accepted k d down up W s out h in
    let f : Fmt = a.format in
    let B : List ℕ = a.bits in
    let b : All (λ c. c < 2) B = write-below f (bit_of s) (length s * 8) (records_of W) a.lists in
    let sp : Spells (bit_of (bytes_of B)) 0 B = rw (append-nil (bytes_of B)) at (bytes_spell B [] b) in
    let r = written span_tag f (bit_of s) (length s * 8) (records_of W) B (clear_kind k d down up a.kind) a.lists (bytes_of B) sp (bytes-room B) in
    let m : length B ≤ most f = write-most f (bit_of s) (length s * 8) (records_of W) a.lists in
    record {
      format = f;
      kind = a.kind;
      tables = a.tables;
      direction = a.direction;
      bits = B;
      count = a.count;
      below = b;
      filled = a.filled;
      front = front_bytes a;
      bytes = bytes_below B b;
      recs = r.recs;
      clean = r.clean ∙ ap (λ (z : ℕ). accept false z 0 r.recs) (sym a.count);
      same = r.same;
      within = r.within;
      limit = λ l. le-leb (length (bytes_of B)) 65536 (omega (arith, bytes-length B));
    }
