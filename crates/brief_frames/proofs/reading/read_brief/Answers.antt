-- `read_brief` meets its contract: from the bits that were cut off the first two octets to the frame's reading.
use mathlib.Core.Path.{◌≡◌, refl, ap, ◌∙◌}
use Prim.Native.Nat.{ℕ, ◌+◌, ◌*◌, ◌≤◌}
use native.Mathlib.Omega.{arith}
use lib.ListN.{length}
use Rattle.x691.specs.Bits.{bit_of, uint}
use Rattle.x691.specs.Encoding.{width, width_in}
use Rattle.ample_bits.specs.Ahead.{Ahead}
use Rattle.ample_bits.proofs.AheadLaws.{ahead-next, ahead_fewer}
use Rattle.pdus.specs.Pdus.{index_bits}
use Rattle.brief_frames.proofs.HeadLaws.{spelt, clear, set, wide}
use Rattle.brief_frames.proofs.FrameLaws.{uplink, frame-empty, frame-extended, frame_user_abort, frame_provider_abort, frame_response, frame-bad}
use Rattle.brief_frames.proofs.reading.read_brief.Goals.{After-behind-a, After-behind-b, After-bits-end}
use Rattle.brief_frames.proofs.reading.read_brief.Goals as goal

pub returns-then-frame-eq0 : goal.returns-then-frame-eq0
returns-then-frame-eq0 c down up = frame-empty _ down up _ c.requires.1 c.if-frame-eq0.true (c.stopped.ensures.0 ∙ c.ran_out.ensures) c.stopped.ensures.1

-- the bits behind the first
behind-first : (c : After-behind-a) → Ahead c.args.frame.now 1 15 c.behind-a.result
behind-first c = ahead-next 1 c.sixteen-v.ensures refl c.behind-a.ensures (omega arith)

-- the frame holds its first octet
octet : (c : After-bits-end) → 8 ≤ c.bits-end.result.0
octet c = omega (arith, c.bits-end.ensures, c.if-frame-eq0.false)

pub extension-requires : goal.extension-requires
extension-requires c = (c.requires.0, c.bits-end.ensures, octet (goal.at.extension-requires c).After-bits-end, behind-first (goal.at.extension-requires c).After-behind-a)

pub returns-then-first-ne0 : goal.returns-then-first-ne0
returns-then-first-ne0 c down up =
    let x = c.extension.ensures in
    let e = c.bits-end.ensures in
    frame-extended _ down up _ c.requires.1 _ (omega (arith, octet (goal.at.returns-then-first-ne0 c).After-bits-end, e)) (set 1 c.sixteen-v.ensures (omega arith) c.first.ensures c.if-first-ne0.true) (rw e at x)

-- behind the index
behind-index : (c : After-behind-b) → Ahead c.args.frame.now (1 + c.index_bits-wide.result) 12 c.behind-b.result
behind-index c =
    let q = wide _ c.index_bits-wide.ensures in
    ahead_fewer 12 (ahead-next _ (ahead-next 1 c.sixteen-v.ensures refl c.behind-a.ensures (omega arith)) refl c.behind-b.ensures (omega (arith, q.1))) (omega (arith, q.1))

-- the extension bit is clear; the index, and the place behind it
known : (c : After-behind-b) →
    let a = c.args in
    let s = a.frame.now in
    (uint (bit_of s) 0 1 ≡ 0) × (c.first-index.result ≡ uint (bit_of s) 1 (index_bits a.direction)) × (1 + c.index_bits-wide.result ≡ 1 + index_bits a.direction) × (1 + c.index_bits-wide.result ≤ length s * 8)
known c =
    let a = c.args in
    let e = c.index_bits-wide.ensures in
    let q = wide _ e in (
      clear 1 c.sixteen-v.ensures (omega arith) c.first.ensures c.if-first-ne0.false,
      spelt _ (ahead-next 1 c.sixteen-v.ensures refl c.behind-a.ensures (omega arith)) (omega (arith, q.1)) c.first-index.ensures ∙ ap (λ (n : ℕ). uint (bit_of a.frame.now) 1 n) e,
      ap (λ (n : ℕ). 1 + n) e,
      omega (arith, q.1, c.if-frame-eq0.false, c.bits-end.ensures),
    )

pub reason-requires : goal.reason-requires
unfolding width width_in
reason-requires c = (omega (arith, (wide _ c.index_bits-wide.ensures).1, octet (goal.at.reason-requires c).After-bits-end), omega (arith, c.bits-end.ensures, c.requires.0), omega arith, omega arith)

pub returns-then-index-eq0 : goal.returns-then-index-eq0
returns-then-index-eq0 c down up =
    let k = known (goal.at.returns-then-index-eq0 c).After-behind-b in
    frame_user_abort _ down up _ c.requires.1 _ _ _ k.0 k.1 k.2 k.3 c.if-index-eq0.true (rw c.bits-end.ensures at (c.reason.ensures _ (behind-index (goal.at.returns-then-index-eq0 c).After-behind-b)))

pub reason-requires-then-index-eq1 : goal.reason-requires-then-index-eq1
unfolding width width_in
reason-requires-then-index-eq1 c = (omega (arith, (wide _ c.index_bits-wide.ensures).1, octet (goal.at.reason-requires-then-index-eq1 c).After-bits-end), omega (arith, c.bits-end.ensures, c.requires.0), omega arith, omega arith)

pub returns-then-index-eq1 : goal.returns-then-index-eq1
returns-then-index-eq1 c down up =
    let k = known (goal.at.returns-then-index-eq1 c).After-behind-b in
    frame_provider_abort _ down up _ c.requires.1 _ _ _ k.0 k.1 k.2 k.3 c.if-index-eq1.true (rw c.bits-end.ensures at (c.reason-then-index-eq1.ensures _ (behind-index (goal.at.returns-then-index-eq1 c).After-behind-b)))

pub reason-requires-then-index-eq5 : goal.reason-requires-then-index-eq5
unfolding width width_in
reason-requires-then-index-eq5 c = (omega (arith, (wide _ c.index_bits-wide.ensures).1, octet (goal.at.reason-requires-then-index-eq5 c).After-bits-end), omega (arith, c.bits-end.ensures, c.requires.0), omega arith, omega arith)

pub returns-then-index-eq5 : goal.returns-then-index-eq5
returns-then-index-eq5 c down up =
    let k = known (goal.at.returns-then-index-eq5 c).After-behind-b in
    frame_response _ down up _ c.requires.1 _ _ _ k.0 k.1 k.2 k.3 (uplink c.requires.2 c.if-frame-eq0.false k.0 k.1 c.if-index-eq0.false c.if-index-eq1.false).0 c.if-index-eq5.true (rw c.bits-end.ensures at (c.reason-then-index-eq5.ensures _ (behind-index (goal.at.returns-then-index-eq5 c).After-behind-b)))

pub returns : goal.returns
returns c down up =
    let k = known (goal.at.returns c).After-behind-b in
    -- an index that is no abort's
    let o = uplink c.requires.2 c.if-frame-eq0.false k.0 k.1 c.if-index-eq0.false c.if-index-eq1.false in
    frame-bad _ down up _ c.requires.1 _ _ _ k.0 k.1 k.2 k.3 o.0 (omega (arith, o.1, c.if-index-eq5.false)) c.stopped-2.ensures.0 c.stopped-2.ensures.1

pub ran_out-requires : goal.ran_out-requires
ran_out-requires c = omega arith

pub bits-end-requires : goal.bits-end-requires
bits-end-requires c = omega (arith, c.requires.0)

pub sixteen-v-requires : goal.sixteen-v-requires
sixteen-v-requires c = omega (arith, c.if-frame-eq0.false)

pub first-index-requires : goal.first-index-requires
first-index-requires c = let q = wide _ c.index_bits-wide.ensures in (q.0, omega (arith, q.1))

pub overflow_add-at : goal.overflow_add-at
overflow_add-at c = omega (arith, (wide _ c.index_bits-wide.ensures).1)

pub behind-b-requires : goal.behind-b-requires
behind-b-requires c = omega (arith, (wide _ c.index_bits-wide.ensures).1)
