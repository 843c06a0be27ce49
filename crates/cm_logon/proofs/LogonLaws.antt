-- Logon requests and responses, from their presence bits and what was told of each part.
use mathlib.Core.Path.{refl}
use mathlib.Core.List.{List}
use Prim.Native.Nat.{ℕ, ◌/◌, ◌%◌}
use native.Mathlib.Omega.{arith}
use Rattle.atn.specs.Reading.{flags}
use Rattle.atn.specs.Messages.{ia5, unsupplied, long_tsap, addressed, applications, etd, cm_logon_request, cm_logon_response}
use Rattle.atn.specs.Tags as tag
use Rattle.cursor.specs.declared.place.Got.{Got}
use Rattle.cursor.specs.Place.{Opens, Takes}
use Rattle.cursor.specs.Formats.{Maybe}
use Rattle.cursor.proofs.FormatLaws.{all_read}
use Rattle.runs.specs.declared.At.{At}
use Rattle.told_fields.specs.Does.{Does}
use Rattle.told_fields.proofs.DoesLaws.{behind, since_opened, since_takes, since_maybe, shown, shown_last, from_must, from_may, from_last_may, does_opened}

module _ {s : List ℕ} {at : At} (g : Got ℕ) where
  pub response_does : {a z : At} {w₀ w₁ w₂ : List ℕ} → Opens s at.c 2 g → Does 1536 0 (Maybe (g.v / 2 % 2) (addressed tag.air_initiated) s) (behind g at) a w₀ w₁
      → Does 1536 0 (Maybe (g.v % 2) (applications tag.ground_only_initiated) s) a z w₁ w₂ → Does 3072 0 (Takes cm_logon_response s) at z w₀ w₂
  unfolding flags all_read
  response_does p x y =
      let o = since_opened p in
      does_opened 2 g refl refl p (from_may (shown p 0 (omega arith) o) x (from_last_may (shown_last 1 p (since_maybe o x)) y))

  pub request_does : {a b c d e f h z : At} {w₀ w₁ w₂ w₃ w₄ w₅ w₆ w₇ : List ℕ} → Opens s at.c 6 g → Does 64 0 (Takes (ia5 tag.flight_id 2 8) s) (behind g at) a w₀ w₁ → Does 3 0 (Takes long_tsap s) a b w₁ w₂
      → Does 1536 0 (Maybe (g.v / 32 % 2) (addressed tag.ground_initiated) s) b c w₂ w₃ → Does 1536 0 (Maybe (g.v / 16 % 2) (applications tag.air_only_initiated) s) c d w₃ w₄
      → Does 0 0 (Maybe (g.v / 8 % 2) unsupplied s) d e w₄ w₄ → Does 64 0 (Maybe (g.v / 4 % 2) (ia5 tag.airport_departure 4 4) s) e f w₄ w₅
      → Does 64 0 (Maybe (g.v / 2 % 2) (ia5 tag.airport_destination 4 4) s) f h w₅ w₆ → Does 5 0 (Maybe (g.v % 2) etd s) h z w₆ w₇ → Does 3272 0 (Takes cm_logon_request s) at z w₀ w₇
  unfolding flags all_read
  request_does p flight tsap ground air facility from to time =
      let o₀ = since_takes (since_takes (since_opened p) flight) tsap in
      let o₁ = since_maybe o₀ ground in
      let o₂ = since_maybe o₁ air in
      let o₃ = since_maybe o₂ facility in
      let o₄ = since_maybe o₃ from in
      let o₅ = since_maybe o₄ to in
      does_opened 6 g refl refl p
      (from_must flight
      (from_must tsap
      (from_may (shown p 0 (omega arith) o₀) ground
      (from_may (shown p 1 (omega arith) o₁) air
      (from_may (shown p 2 (omega arith) o₂) facility
      (from_may (shown p 3 (omega arith) o₃) from
      (from_may (shown p 4 (omega arith) o₄) to
      (from_last_may (shown_last 5 p o₅) time))))))))
