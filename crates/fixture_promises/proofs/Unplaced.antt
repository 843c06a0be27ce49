-- "The writer of a) ignores the fifth word": two lists whose records differ in nothing else are written alike, or refused alike.
use mathlib.Core.Path.{◌≡◌, refl, sym, ap, ◌∙◌}
use mathlib.Core.Option.{Option, none, some}
use mathlib.Core.List.{List}
use Prim.Native.Nat.{ℕ, ◌*◌}
use lib.ListN.{length}
use Rattle.x691.specs.Bits.{bit_of}
use Rattle.atn.specs.Format.{Fmt}
use Rattle.atn.specs.Reading.{Rec}
use Rattle.record_lists.specs.Items.{unplaced}
use Rattle.record_lists.specs.Kinds.{span_tag, kind_of}
use Rattle.record_lists.specs.Write.{write}
use Rattle.record_lists.specs.Message.{records_of, list_fits, bits_of_message, write_message}
use Rattle.record_lists.proofs.Written.{write-unplaced}

module _ (s W U : List ℕ) (long : length W ≡ length U) (same : unplaced (records_of W) ≡ unplaced (records_of U)) where
  bits-same : (f : Option Fmt) → bits_of_message f W s ≡ bits_of_message f U s
  unfolding bits_of_message list_fits
  bits-same none = refl
  bits-same (some f) =
      let w : write span_tag f (bit_of s) (length s * 8) (records_of W) ≡ write span_tag f (bit_of s) (length s * 8) (records_of U) =
      sym (write-unplaced span_tag f (bit_of s) (length s * 8) (records_of W)) ∙ ap (λ (R : List Rec). write span_tag f (bit_of s) (length s * 8) R) same ∙ write-unplaced span_tag f (bit_of s) (length s * 8) (records_of U) in
      rw (long, w)

  pub places_ignored : (k d : ℕ) (down up out : List ℕ) → write_message k d down up W s out ≡ write_message k d down up U s out
  unfolding write_message
  places_ignored k d down up out = rw (bits-same (kind_of k d down up))
