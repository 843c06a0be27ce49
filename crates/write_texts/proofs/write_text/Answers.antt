-- `write_texts::write_text` meets its contract.
use mathlib.Core.Path.{refl}
use Prim.Native.Nat.{◌-◌}
use native.Mathlib.Omega.{arith}
use Rattle.x691.proofs.Widths.{width-holds}
use Rattle.write_texts.proofs.TextWrites.{text-lacks, text-sized_otherwise, text-written}
use Rattle.write_texts.proofs.write_text.Goals as goal

pub returns-then-records-i : goal.returns-then-records-i
returns-then-records-i c =
    λ b y. text-lacks _ _ y _ _ _ _ c.requires.1 c.requires.3 b c.args.records.words.now c.args.records.len _ c.args.out.now _ _ c.if-records-i.true refl

pub returns-then-size-lo : goal.returns-then-size-lo
returns-then-size-lo c =
    λ b y. text-sized_otherwise _ _ y _ _ _ _ c.requires.1 c.requires.3 b c.args.records.words.now c.args.records.len _ c.args.out.now _ _ c.if-records-i.false (λ z. omega (arith, z.0, c.if-size-lo.true)) refl

pub returns-then-hi-size : goal.returns-then-hi-size
returns-then-hi-size c =
    λ b y. text-sized_otherwise _ _ y _ _ _ _ c.requires.1 c.requires.3 b c.args.records.words.now c.args.records.len _ c.args.out.now _ _ c.if-records-i.false (λ z. omega (arith, z.1, c.if-hi-size.true)) refl

pub ink-q-requires : goal.ink-q-requires
ink-q-requires c =
    (c.bits_for.ensures.1, rw c.bits_for.ensures.0 (omega (arith, width-holds (c.args.hi - c.args.lo))))

pub returns : goal.returns
returns c =
    λ b y. text-written _ _ y _ _ _ _ c.requires.1 c.requires.3 b c.args.records.words.now c.args.records.len _ c.args.out.now _ _ _ _ _ c.bits_for.ensures.0 c.if-records-i.false c.if-size-lo.false c.if-hi-size.false c.ink-q.ensures (c.write_records.ensures b)
