-- The messages that are written: by kind 0 for CPDLC, 1 for Context Management, 2 for association control, and by direction.
use Rattle.std.specs.Prelude.{Bool, List, [], ◌∷◌, ℕ, zero, suc}
use Rattle.std.proofs.Math.Option.{Option, none, some}
use Rattle.x691.specs.Range.{member}
use Rattle.atn.specs.Format.{Fmt}
use Rattle.atn.specs.Tags as tag
use Rattle.atn.specs.Messages.{acse}
use Rattle.atn.specs.Entries.{pdus, cm_of}

-- the tags of spans
unfoldable pub span_tag : ℕ → Bool
span_tag t = member t (tag.integrity_check ∷ tag.aircraft_address ∷ tag.rdp ∷ tag.ars ∷ tag.loc_sys_nsel_tsel ∷ [])

-- what association control says has no direction
unfoldable pub kind_of : ℕ → ℕ → List ℕ → List ℕ → Option Fmt
kind_of zero d down up = some (pdus d down up)
kind_of (suc zero) d down up = some (cm_of d)
kind_of (suc (suc zero)) d down up = some acse
kind_of (suc (suc (suc k))) d down up = none
